use mathlib.Core.Path.{sym, ◌∙◌}
use mathlib.Core.Logic.{inl, inr}
use mathlib.Core.Bool.{true, false}
use Rattle.areas.proofs.Told.{target_by}
use Rattle.areas.proofs.rows.target_of.Goals as goal

pub returns-then-not-is_taken : goal.returns-then-not-is_taken
returns-then-not-is_taken c =
    rw (target_by c.args.area c.args.event false (sym c.is_taken.ensures ∙ c.if-not-is_taken.true))

pub returns-in-Signal : goal.returns-in-Signal
returns-in-Signal c =
    let to = target_by c.args.area c.args.event true (sym c.is_taken.ensures ∙ c.if-not-is_taken.false) in
    elim c.in-Signal.is [
      | inl e ↦ rw (to, e)
      | inr (inl e) ↦ rw (to, e)
      | inr (inr (inl e)) ↦ rw (to, e)
      | inr (inr (inr e)) ↦ rw (to, e)
    ]

pub returns-in-ToNonEquipped : goal.returns-in-ToNonEquipped
returns-in-ToNonEquipped c =
    rw (target_by c.args.area c.args.event true (sym c.is_taken.ensures ∙ c.if-not-is_taken.false), c.in-ToNonEquipped.is)

pub returns-in-ToHT : goal.returns-in-ToHT
returns-in-ToHT c =
    rw (target_by c.args.area c.args.event true (sym c.is_taken.ensures ∙ c.if-not-is_taken.false), c.in-ToHT.is)

pub returns-in-ToFull : goal.returns-in-ToFull
returns-in-ToFull c =
    rw (target_by c.args.area c.args.event true (sym c.is_taken.ensures ∙ c.if-not-is_taken.false), c.in-ToFull.is)
