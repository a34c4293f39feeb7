use mathlib.Core.Path.{sym, ◌∙◌}
use Rattle.pressure.specs.Phases.{next_of}
use Rattle.pressure.proofs.phases.next.Goals as goal

pub returns-in-Waiting : goal.returns-in-Waiting
unfolding next_of
returns-in-Waiting c = rw (c.in-Waiting.is, c.waited.ensures)

pub returns-then-is_far : goal.returns-then-is_far
unfolding next_of
returns-then-is_far c = rw (c.in-Settling.is, sym c.is_far.ensures ∙ c.if-is_far.true) c.waited-then-is_far.ensures

pub returns-else-is_far : goal.returns-else-is_far
unfolding next_of
returns-else-is_far c = rw (c.in-Settling.is, sym c.is_far.ensures ∙ c.if-is_far.false) c.settled.ensures

pub returns-in-Set : goal.returns-in-Set
unfolding next_of
returns-in-Set c = rw c.in-Set.is c.set.ensures
