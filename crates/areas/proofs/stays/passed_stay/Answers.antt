use mathlib.Core.Path.{◌≡◌, refl, sym, ◌∙◌}
use Prim.Native.Nat.{ℕ}
use Rattle.std.specs.Prelude.{Option, Some, None, ◌⊎◌}
use mathlib.Core.Logic.{inl, inr}
use Rattle.areas.proofs.Equality.{same_event}
use Rattle.areas.specs.Stays.{passed_stay}
use Rattle.areas.proofs.stays.passed_stay.Goals as goal

-- one pends already, or none does
pending : (missing : Option ℕ) → (missing ≡ None) ⊎ ((covered : ℕ) × (missing ≡ Some covered))
pending None = inl refl
pending (Some covered) = inr (covered, refl)

pub returns-then-eq : goal.returns-then-eq
unfolding passed_stay
returns-then-eq c =
    let group = rw same_event at (sym c.eq.ensures ∙ c.if-eq.true) in
    elim (pending c.args.stay.missing) [
      | inl none ↦ rw (group, c.or-missing.ensures, none)
      | inr before ↦ rw (group, c.or-missing.ensures, before.1)
    ]

pub returns : goal.returns
unfolding passed_stay
returns c =
    rw (
      rw same_event at (sym c.eq.ensures ∙ c.if-eq.false),
      c.begun_stay.ensures,
      c.line_by.ensures,
      c.target_of.ensures,
    )
