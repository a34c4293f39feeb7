-- The record's P_REF and the phase's are one figure, so that a feedback goes on as its phase does.
use mathlib.Core.Path.{◌≡◌, refl, sym, ap, ◌∙◌}
use mathlib.Core.List.{List, [], ◌∷◌}
use Prim.Native.Nat.{ℕ}
use lib.IntN.{ℤ}
use lib.Ieee.{Float}
use Rattle.pressure.specs.Convert.{halved_of, sensor_fault, pressure_of}
use Rattle.pressure.specs.Phases.{reference_of, next_of}
use Rattle.pressure.specs.Report.{fresh_feedback, pressure_at, phase_after, reported, reported_to}
use Rattle.pressure.specs.Claims.{after_all, IsReference, Agrees, RecordAgrees, ReportAgrees, PhaseDecides, LowIsReference}
use Rattle.pressure.specs.declared.Feed.{Feed}
use Rattle.pressure.specs.declared.Phase.{Phase}
use Rattle.pressure.specs.declared.Phase.TheVariants.{Waiting, Settling, Set}
use Rattle.pressure.specs.declared.Measured.{Measured}

-- ---- they agree
has_reference : (phase : Phase) → IsReference phase (reference_of phase)
unfolding reference_of
has_reference Waiting = refl
has_reference (Settling saved n) = refl
has_reference (Set r n) = refl

pub report_agrees : ReportAgrees
unfolding reported
report_agrees phase pressures feed full x = has_reference (phase_after phase pressures feed full x)

pub run_agrees : (before : Measured) (feed : Feed) (full : ℕ) (xs : List ℤ) → Agrees before → Agrees (after_all before feed full xs)
unfolding after_all
run_agrees before feed full [] a = a
run_agrees before feed full (x ∷ xs) a =
    run_agrees (reported_to before feed full x) feed full xs (report_agrees before.phase before.pressures feed full x)

pub fresh_agrees : Agrees fresh_feedback
unfolding fresh_feedback
fresh_agrees = refl

pub record_agrees : RecordAgrees
record_agrees feed full xs = run_agrees fresh_feedback feed full xs fresh_agrees

pub low_is_reference : LowIsReference
unfolding reported pressure_at pressure_of
low_is_reference before feed full x agrees low = rw low agrees

-- ---- by the phase alone
reference_told : (phase : Phase) (r : Float) → IsReference phase r → r ≡ reference_of phase
unfolding reference_of
reference_told Waiting r e = e
reference_told (Settling saved n) r e = e
reference_told (Set reference n) r e = e

-- P_INT and the phase after a report, and the phase after a run, where the record's P_REF is the phase's
unfoldable pub pressure_in : Phase → Feed → ℕ → ℤ → Float
pressure_in phase feed full x = pressure_of feed full (halved_of x) (reference_of phase)

unfoldable pub phase_on : Phase → Feed → ℕ → ℤ → Phase
phase_on phase feed full x = next_of phase (pressure_in phase feed full x)

unfoldable pub phase_on_all : Phase → Feed → ℕ → List ℤ → Phase
phase_on_all phase feed full [] = phase
phase_on_all phase feed full (x ∷ xs) = phase_on_all (phase_on phase feed full x) feed full xs

-- the report as a whole
abbrev measured_in : Phase → Feed → ℕ → ℤ → Measured
measured_in phase feed full x = record {
  phase = phase_on phase feed full x;
  pressures = record { pressure = pressure_in phase feed full x; reference = reference_of (phase_on phase feed full x) };
  fault = sensor_fault (halved_of x);
}

reported_in_lem : (before : Measured) (feed : Feed) (full : ℕ) (x : ℤ) → Agrees before
    → reported_to before feed full x ≡ measured_in before.phase feed full x
unfolding reported phase_after pressure_at phase_on pressure_in
reported_in_lem before feed full x a = rw (reference_told before.phase before.pressures.reference a)

pub phase_decides : PhaseDecides
phase_decides one other feed full x a b e =
    reported_in_lem one feed full x a ∙ ap (λ (p : Phase). measured_in p feed full x) e ∙ sym (reported_in_lem other feed full x b)

pub run_in : (before : Measured) (feed : Feed) (full : ℕ) (xs : List ℤ) → Agrees before
    → (after_all before feed full xs).phase ≡ phase_on_all before.phase feed full xs
unfolding after_all phase_on_all
run_in before feed full [] a = refl
run_in before feed full (x ∷ xs) a =
    run_in (reported_to before feed full x) feed full xs (report_agrees before.phase before.pressures feed full x)
    ∙ ap (λ (m : Measured). phase_on_all m.phase feed full xs) (reported_in_lem before feed full x a)

-- from a feedback in this phase, and from a fresh one
pub run_from : (before : Measured) (phase : Phase) (feed : Feed) (full : ℕ) (xs : List ℤ) → Agrees before → before.phase ≡ phase
    → (after_all before feed full xs).phase ≡ phase_on_all phase feed full xs
run_from before phase feed full xs a e = run_in before feed full xs a ∙ ap (λ (p : Phase). phase_on_all p feed full xs) e

pub run_fresh : (feed : Feed) (full : ℕ) (xs : List ℤ) → (after_all fresh_feedback feed full xs).phase ≡ phase_on_all Waiting feed full xs
run_fresh feed full xs = run_from fresh_feedback Waiting feed full xs fresh_agrees (unfold fresh_feedback in refl)
