use Rattle.rules.specs.Operands.{event_in_range}
use Rattle.encoding.proofs.fields.event_in_range.Goals as goal

pub returns : goal.returns
unfolding event_in_range
returns c = rw (c.event_speed_in_range.ensures, c.event_speed.ensures, c.event_in.ensures, c.byte_at.ensures)
