use borrow.Author.Rules.{rules}
use mathlib.Core.Logic.{inl, inr}
use lib.Ieee.{of_bits, of_int}
use Rattle.pressure.specs.Phases.{reference_of}
use Rattle.pressure.proofs.phases.reference_of.Goals as goal

pub returns-in-Waiting : goal.returns-in-Waiting
unfolding reference_of of_bits of_int
returns-in-Waiting c =
    elim c.in-Waiting.is [
      | inl e ↦ rw e
      | inr e ↦ rw e.2
    ]

pub returns-in-Set : goal.returns-in-Set
unfolding reference_of
returns-in-Set c = search rules
