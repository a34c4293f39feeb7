use mathlib.Core.Path.{sym, ◌∙◌}
use Rattle.rules.specs.Releases.{roll_at}
use Rattle.brakes.proofs.release.roll_at.Goals as goal

pub returns-then-is_halt : goal.returns-then-is_halt
unfolding roll_at
returns-then-is_halt c = rw (sym c.is_halt.ensures ∙ c.if-is_halt.true)

pub returns-then-r : goal.returns-then-r
unfolding roll_at
returns-then-r c = rw (sym c.is_halt.ensures ∙ c.if-is_halt.false, c.if-r.true) c.rolled_on.ensures

pub returns-else-r : goal.returns-else-r
unfolding roll_at
returns-else-r c = rw (sym c.is_halt.ensures ∙ c.if-is_halt.false, c.if-r.false)
