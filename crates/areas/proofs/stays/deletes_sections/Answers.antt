use Rattle.areas.proofs.Equality.{same_area, same_event}
use Rattle.areas.specs.Stays.{deletes_sections}
use Rattle.areas.proofs.stays.deletes_sections.Goals as goal

pub returns : goal.returns
unfolding deletes_sections
returns c = rw (c.ne.ensures, same_area _ _, c.eq.ensures, same_event _ _)
