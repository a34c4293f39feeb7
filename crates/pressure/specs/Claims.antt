-- What holds of the feedback over any number of reports, and of the drop: statements, proved in proofs/.
-- Between two starts the feed and P_FULL stay, so a run of reports is the list of its readings P_EXT.
use Rattle.std.specs.Prelude.{◌≡◌, List, [], ◌∷◌, ◌++◌, ℕ, suc, ◌<◌, true, false, T, ℤ, pos, negsuc, ◌-ℤ◌, length, Float}
use Rattle.std.specs.Float.{binary32}
use Rattle.std.specs.Float.Ieee.{round, le}
use Rattle.pressure.specs.Convert.{kpa, halved_of, is_low, pressure_of}
use Rattle.pressure.specs.Exact.{SixteenBits, IsFraction, IsHalves}
use Rattle.pressure.specs.Reference.{changed_reference, drop_of}
use Rattle.pressure.specs.Phases.{is_normal, is_far, is_set}
use Rattle.pressure.specs.Report.{fresh_feedback, reported, reported_to}
use Rattle.pressure.specs.declared.Feed.{Feed}
use Rattle.pressure.specs.declared.Feed.TheVariants.{Pipe}
use Rattle.pressure.specs.declared.Phase.{Phase}
use Rattle.pressure.specs.declared.Phase.TheVariants.{Waiting, Settling, Set}
use Rattle.pressure.specs.declared.Pressures.{Pressures}
use Rattle.pressure.specs.declared.Measured.{Measured}

-- the feedback after a run of reports: phase and record go from each to the next
unfoldable pub after_all : Measured → Feed → ℕ → List ℤ → Measured
after_all before feed full [] = before
after_all before feed full (x ∷ xs) = after_all (reported_to before feed full x) feed full xs

-- every reading of a run is one for which P holds
abbrev pub Each : (ℤ → Type 0) → List ℤ → Type 0
Each P [] = Unit {0}
Each P (x ∷ xs) = P x × Each P xs

-- ---- one P_REF

-- r is the phase's P_REF, 0 while there is none
abbrev pub IsReference : Phase → Float → Type 0
IsReference Waiting r = r ≡ kpa 0
IsReference (Settling saved reports) r = r ≡ kpa 0
IsReference (Set reference reports) r = r ≡ reference

-- the record's P_REF is the phase's
abbrev pub Agrees : Measured → Type 0
Agrees feedback = IsReference feedback.phase feedback.pressures.reference

-- it is so after any run from a fresh feedback,
abbrev pub RecordAgrees : Type 0
RecordAgrees = (feed : Feed) (full : ℕ) (xs : List ℤ) → Agrees (after_all fresh_feedback feed full xs)

-- and after every report, whatever phase and record went in
abbrev pub ReportAgrees : Type 0
ReportAgrees = (phase : Phase) (pressures : Pressures) (feed : Feed) (full : ℕ) (x : ℤ) → Agrees (reported phase pressures feed full x)

-- where it is so, "Below −50: .. P_INT is P_REF (0 if unset)" holds of the phase's P_REF,
abbrev pub LowIsReference : Type 0
LowIsReference =
    (before : Measured) (feed : Feed) (full : ℕ) (x : ℤ)
    → Agrees before → is_low (halved_of x) ≡ true → IsReference before.phase (reported_to before feed full x).pressures.pressure

-- and the record brings nothing that the phase has not: the same phase leads to the same feedback
abbrev pub PhaseDecides : Type 0
PhaseDecides =
    (one other : Measured) (feed : Feed) (full : ℕ) (x : ℤ)
    → Agrees one → Agrees other → one.phase ≡ other.phase → reported_to one feed full x ≡ reported_to other feed full x

-- ---- the reference's figure

-- "P_REF stays between −0.5 and 551.5": −1 and 1,103 half kPa
abbrev pub ReferenceStaysInRange : Type 0
ReferenceStaysInRange =
    (feed : Feed) (full : ℕ) (xs : List ℤ) (reference : Float) (reports : ℕ)
    → (after_all fresh_feedback feed full xs).phase ≡ Set reference reports
    → T (le (halved_of (negsuc 0)) reference) × T (le reference (halved_of (pos 1103)))

-- "on a pipe it is an exact multiple of 0.5" (and so never below 0 there)
abbrev pub PipeReferenceIsHalves : Type 0
PipeReferenceIsHalves =
    (full : ℕ) (xs : List ℤ) (reference : Float) (reports : ℕ)
    → Each SixteenBits xs
    → (after_all fresh_feedback Pipe full xs).phase ≡ Set reference reports
    → (n : ℕ) × IsHalves reference (pos n)

-- ---- when the reference comes and when it changes

-- a reading's P_INT, no reference being set
abbrev pub pressure_unset : Feed → ℕ → ℤ → Float
pressure_unset feed full x = pressure_of feed full (halved_of x) (kpa 0)

-- it is within 20 of the saved pressure
abbrev pub StaysNear : Feed → ℕ → Float → ℤ → Type 0
StaysNear feed full saved x = is_far saved (pressure_unset feed full x) ≡ false

-- a run that ends in a report which saved P0 and n further reports within 20 of it
pub record Settled (feed : Feed) (full : ℕ) (run : List ℤ) (saved : Float) (n : ℕ) : Type 0 where
  pub earlier : List ℤ
  pub saving : ℤ
  pub further : List ℤ
  pub whole : run ≡ earlier ++ (saving ∷ further)
  pub pressure : pressure_unset feed full saving ≡ saved
  pub normal : is_normal saved ≡ true
  pub near : Each (StaysNear feed full saved) further
  pub count : length further ≡ n

-- a run whose first part settled on P0 by 30 further reports, and whose rest changed P_REF from there
pub record SetAfterThirty (feed : Feed) (full : ℕ) (run : List ℤ) (reference : Float) (reports : ℕ) : Type 0 where
  pub settling : List ℤ
  pub since : List ℤ
  pub saved : Float
  pub whole : run ≡ settling ++ since
  pub settled : Settled feed full settling saved 30
  pub set : (after_all fresh_feedback feed full settling).phase ≡ Set saved 0
  pub changes :
      (before : Measured) → Agrees before → before.phase ≡ Set saved 0 → (after_all before feed full since).phase ≡ Set reference reports

-- "After 30 further reports within 20, P_REF is P0", and never earlier
abbrev pub NeverEarlier : Type 0
NeverEarlier =
    (feed : Feed) (full : ℕ) (run : List ℤ) (reference : Float) (reports : ℕ)
    → (after_all fresh_feedback feed full run).phase ≡ Set reference reports
    → SetAfterThirty feed full run reference reports

-- nor later: fewer than 30 go on settling, and the 30th sets P_REF to P0
abbrev pub SettlesAtThirty : Type 0
SettlesAtThirty =
    (before : Measured) (feed : Feed) (full : ℕ) (saved : Float) (xs : List ℤ)
    → Agrees before → before.phase ≡ Settling saved 0 → Each (StaysNear feed full saved) xs
    → (length xs < 30 → (after_all before feed full xs).phase ≡ Settling saved (length xs))
    × (length xs ≡ 30 → (after_all before feed full xs).phase ≡ Set saved 0)

-- "at every tenth report from there", and at no other
abbrev pub ChangesAtTenth : Type 0
ChangesAtTenth =
    (before : Measured) (feed : Feed) (full : ℕ) (reference : Float) (xs : List ℤ) (x : ℤ)
    → Agrees before → before.phase ≡ Set reference 0
    → (length xs < 10 → (after_all before feed full xs).phase ≡ Set reference (length xs))
    × (length xs ≡ 9
    → (after_all before feed full (xs ++ (x ∷ []))).phase
    ≡ Set (changed_reference (record { pressure = pressure_of feed full (halved_of x) reference; reference = reference })) 0)

-- a reference is never lost, whatever record goes in
abbrev pub ReferenceIsKept : Type 0
ReferenceIsKept =
    (phase : Phase) (pressures : Pressures) (feed : Feed) (full : ℕ) (x : ℤ)
    → is_set phase ≡ true → is_set (reported phase pressures feed full x).phase ≡ true

-- ---- the drop

-- the f32 nearest to z / c
abbrev pub nearest_to : ℤ → ℕ → Float
nearest_to (pos n) c = round binary32 false n c
nearest_to (negsuc n) c = round binary32 true (suc n) c

-- "Every f32 sum and difference here, the drop too, is rounded once"
abbrev pub DropIsRoundedOnce : Type 0
DropIsRoundedOnce =
    (p : Pressures) (y z : ℤ) (c : ℕ) → 0 < c → IsFraction p.reference y c → IsFraction p.pressure z c → drop_of p ≡ nearest_to (y -ℤ z) c
