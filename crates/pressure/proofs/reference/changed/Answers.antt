use mathlib.Core.Path.{sym, ◌∙◌}
use lib.Ieee.{of_bits, of_int, div}
use Rattle.pressure.specs.Convert.{halved_of}
use Rattle.pressure.specs.Reference.{changed_reference, changed_of}
use Rattle.pressure.proofs.reference.changed.Goals as goal

pub returns-then-p : goal.returns-then-p
unfolding changed_of changed_reference halved_of of_bits of_int div
returns-then-p c = rw c.if-p.true

pub returns-then-is_sinking : goal.returns-then-is_sinking
unfolding changed_of changed_reference halved_of of_bits of_int div
returns-then-is_sinking c = rw (c.if-p.false, sym c.is_sinking.ensures ∙ c.if-is_sinking.true)

pub returns : goal.returns
unfolding changed_of changed_reference
returns c = rw (c.if-p.false, sym c.is_sinking.ensures ∙ c.if-is_sinking.false)
