use mathlib.Core.Path.{sym, ◌∙◌}
use Rattle.pressure.specs.Phases.{waited_of}
use Rattle.pressure.proofs.phases.waited.Goals as goal

pub returns-then-is_normal : goal.returns-then-is_normal
unfolding waited_of
returns-then-is_normal c = rw (sym c.is_normal.ensures ∙ c.if-is_normal.true)

pub returns-else-is_normal : goal.returns-else-is_normal
unfolding waited_of
returns-else-is_normal c = rw (sym c.is_normal.ensures ∙ c.if-is_normal.false)
