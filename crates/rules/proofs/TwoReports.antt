-- The reports of two units, of which the second is the stricter: it permits no more and orders no less. Assumes nothing.
use Prim.Native.Nat.{ℕ, ◌≤◌}
use mathlib.Core.Path.{sym, subst}
use mathlib.Core.List.{List, ◌∷◌}
use native.Mathlib.Nat.{le_refl}
use Rattle.wire.specs.Report.{permitted_in, order_in}
use Rattle.wire.proofs.Values.{bytes_read}
use Rattle.rules.specs.Reports.{two, report_with, report_in_da, report_outside, report_for, report_of}
use Rattle.rules.specs.declared.State.{State}
use Rattle.rules.specs.declared.Stm.{Stm}
use Rattle.rules.proofs.TwoSpeeds.{permitted_no_higher}
use Rattle.rules.proofs.TwoCauses.{order_no_milder}
use Rattle.rules.proofs.TwoUnits.{Below}

pub record ReportsBelow (report report' : List ℕ) : Type 0 where
  pub permitted : permitted_in report' ≤ permitted_in report
  pub order : order_in report ≤ order_in report'

-- both are read back as they were written
written : {state order high low permitted state' order' high' low' permitted' : ℕ} {rest rest' : List ℕ}
    → permitted' ≤ permitted → order ≤ order'
    → ReportsBelow (state ∷ order ∷ high ∷ low ∷ two permitted rest) (state' ∷ order' ∷ high' ∷ low' ∷ two permitted' rest')
written {permitted = permitted} {permitted' = permitted'} {rest = rest} {rest' = rest'} h k =
    record { permitted = rw (bytes_read permitted rest, bytes_read permitted' rest') h; order = k }

module _ {u w : Stm} (below : Below u w) where
  written_in_da : ReportsBelow (report_in_da u) (report_in_da w)
  unfolding report_in_da report_with
  written_in_da =
      written (permitted_no_higher below.train below.track below.kept)
      (rw below.train.softly (order_no_milder u.train.softly below.brakes.causes))

  written_outside : (state : State) (order : ℕ) → ReportsBelow (report_outside state order u) (report_outside state order w)
  unfolding report_outside
  written_outside state order = written (le_refl 0) (le_refl order)

  written_for : (state : State) → ReportsBelow (report_for state u) (report_for state w)
  unfolding report_outside
  written_for State.DE = written (le_refl 0) (rw (below.test, below.idle) (le_refl 0))
  written_for State.CS = written_outside State.CS 0
  written_for State.HS = written_outside State.HS 0
  written_for State.DA = written_in_da
  written_for State.FA = written_outside State.FA 3

  pub written_below : ReportsBelow (report_of u) (report_of w)
  unfolding report_of
  written_below =
      subst (λ state. ReportsBelow (report_of u) (report_for state w)) (sym below.state) (written_for u.control.state)
