use mathlib.Core.Path.{sym, ◌∙◌}
use Rattle.areas.proofs.Equality.{same_area}
use Rattle.areas.specs.Stays.{area_speed}
use Rattle.areas.proofs.stays.area_speed.Goals as goal

pub returns-then-eq : goal.returns-then-eq
unfolding area_speed
returns-then-eq c = rw (rw same_area at (sym c.eq.ensures ∙ c.if-eq.true)) c.unwrap_or.ensures

pub returns-else-eq : goal.returns-else-eq
unfolding area_speed
returns-else-eq c = rw (rw same_area at (sym c.eq.ensures ∙ c.if-eq.false))
