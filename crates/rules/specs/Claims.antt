-- What holds of the parts of the rules: statements, proved in proofs/.
use Rattle.std.specs.Prelude.{◌≡◌, ℕ, zero, suc, ◌+◌, ◌*◌, ◌≤◌, ◌<◌, true, false, eqb, Option, Some, None, Result, ⊤}
use mathlib.Core.List.{List, [], ◌∷◌, map, Memᴰ}
use Rattle.wire.specs.Codes.{commands}
use Rattle.wire.specs.declared.form.FormError.{FormError}
use Rattle.wire.specs.Form.{refusal_of}
use Rattle.curve.specs.declared.Curve.{Curve}
use Rattle.curve.specs.declared.Judged.{Judged}
use Rattle.areas.specs.declared.Area.{Area}
use Rattle.rules.specs.Numbers.{answer_number, code_number, code_of, incident_of}
use Rattle.rules.specs.Places.{free_section, ending_section, moved_section}
use Rattle.rules.specs.Speeds.{vmax_of, permitted_speed}
use Rattle.rules.specs.Checks.{begins, counted_on, fails_now}
use Rattle.rules.specs.Shows.{goes_before, candidates, chosen}
use Rattle.rules.specs.Refusals.{answer_for}
use Rattle.rules.specs.Runs.{Sent, answer_to, is_of}
use Rattle.rules.specs.declared.Answer.{Answer}
use Rattle.rules.specs.declared.Code.{Code}
use Rattle.rules.specs.declared.Incident.{Incident}
use Rattle.rules.specs.declared.Check.{Check}
use Rattle.rules.specs.declared.Section.{Section}
use Rattle.rules.specs.declared.Train.{Train}
use Rattle.rules.specs.declared.Track.{Track}
use Rattle.rules.specs.declared.Candidate.{Candidate}
use Rattle.rules.specs.declared.Stm.{Stm}

-- ---- codes and refusals

abbrev pub codes : List Code
codes =
    Code.Start ∷
    Code.ChangeState ∷
    Code.Odometer ∷
    Code.NewCurve ∷
    Code.EndCurve ∷
    Code.NewSection ∷
    Code.EndSection ∷
    Code.StopPassed ∷
    Code.Proceed ∷
    Code.BaliseError ∷
    Code.TestBrakes ∷
    Code.AreaEvent ∷
    Code.NewRecord ∷
    Code.SignalPassed ∷
    Code.EndRecord ∷
    []

-- the commands are those of the table "Codes and whole lengths", and each is told by its code
abbrev pub CodesAreTheTable : Type 0
CodesAreTheTable =
    (map (λ row. row.code) commands ≡ map code_number codes)
    × ((code : Code) → code_of (code_number code) ≡ code)

-- the incidents of the table "Commands", by code and first operand: "0 aimed-at stop, 1 unexpected stop, 2 landslide board BSK" of 30, and the
-- balise error of 32, which has no operand
abbrev pub TellsIncident : Incident → ℕ → ℕ → Type 0
TellsIncident Incident.AimedStop code which = (code ≡ 0x30) × (which ≡ 0)
TellsIncident Incident.UnexpectedStop code which = (code ≡ 0x30) × (which ≡ 1)
TellsIncident Incident.Landslide code which = (code ≡ 0x30) × (which ≡ 2)
TellsIncident Incident.BaliseError code which = code ≡ 0x32

-- a command tells an incident exactly where its code and its first operand are those of the incident; every other command tells none
abbrev pub IncidentsAreTold : Type 0
IncidentsAreTold =
    (code : Code) (which : ℕ) (incident : Incident)
    → (TellsIncident incident (code_number code) which → incident_of code which ≡ Some incident)
    × (incident_of code which ≡ Some incident → TellsIncident incident (code_number code) which)

-- refusals 1 to 4 have the numbers that the table of codes and lengths gives them
abbrev pub FirstFourAreWire : Type 0
FirstFourAreWire =
    (form : Result ⊤ FormError) (n : ℕ) (whole : Answer) → refusal_of form ≡ Some n → answer_number (answer_for form whole) ≡ n

-- ---- places

-- refusal 13 is given only where all places are held
abbrev pub AllHeldMeansAll : Type 0
AllHeldMeansAll =
    (stm : Stm) (x : Sent)
    → answer_to stm x ≡ Answer.AllHeld
    → (is_of Code.NewCurve x.command ≡ true
    → (curve : Curve) → Memᴰ curve stm.track.curves → curve.held ≡ true)
    × (is_of Code.NewSection x.command ≡ true
    → (section : Section) → Memᴰ section stm.track.sections → section.held ≡ true)

-- "Ending a section at the front of the train" does not happen: it ends when the ground moved since reaches the train's length
abbrev pub SectionEndsAtRear : Type 0
SectionEndsAtRear =
    (length moved : ℕ) (section : Section)
    → section.held ≡ true → section.ending ≡ true
    → (section.covered + moved < 100 * length → moved_section length moved section ≡ ending_section section (section.covered + moved))
    × (100 * length ≤ section.covered + moved → moved_section length moved section ≡ free_section)

-- ---- speeds

-- 02, F-6: "the last GMD speed of this stay, the entering one included, or 130 if none was passed"
abbrev pub UpToLine : Option ℕ → ℕ → Type 0
UpToLine None n = n ≤ 130
UpToLine (Some speed) n = n ≤ speed

-- VMAX is the least of its sources: no higher than any, and no lower than what is no higher than all. The area is a source in the
-- partial area only
pub record UpToSources (train : Train) (track : Track) (n : ℕ) : Type 0 where
  pub speed : n ≤ train.speed
  pub sections : (section : Section) → Memᴰ section track.sections → section.held ≡ true → n ≤ section.speed
  pub forty : track.forty ≡ true → n ≤ 40
  pub area : track.stay.area ≡ Area.Partial → UpToLine track.stay.line n

abbrev pub VmaxIsLeast : Type 0
VmaxIsLeast =
    (train : Train) (track : Track)
    → UpToSources train track (vmax_of train track)
    × ((n : ℕ) → UpToSources train track n → n ≤ vmax_of train track)

-- the permitted speed likewise, and up to 300
pub record UpToCurves (vmax : ℕ) (judged : List Judged) (n : ℕ) : Type 0 where
  pub top : n ≤ 300
  pub limit : n ≤ vmax
  pub curves : (j : Judged) → Memᴰ j judged → j.held ≡ true → n ≤ j.permitted

abbrev pub PermittedIsLeast : Type 0
PermittedIsLeast =
    (vmax : ℕ) (judged : List Judged)
    → UpToCurves vmax judged (permitted_speed vmax judged)
    × ((n : ℕ) → UpToCurves vmax judged n → n ≤ permitted_speed vmax judged)

-- ---- the shown curve

-- where a curve, or a record that is one, is held one is shown, and none that is held goes before it
abbrev pub ShownIsFirst : Type 0
ShownIsFirst =
    (judge : Curve → Judged) (track : Track) (c : Candidate)
    → Memᴰ c (candidates judge track) → c.judged.held ≡ true
    → ((chosen judge track).judged.held ≡ true)
    × Memᴰ (chosen judge track) (candidates judge track)
    × (goes_before c (chosen judge track) ≡ false)

-- ---- checks

-- a check after n reports without a drop
unfoldable pub counted_times : ℕ → ℕ → Check
counted_times limit zero = begins
counted_times limit (suc n) = counted_on limit false (counted_times limit n)

-- "Each check counts from 0 .. and one more at each later report": it fails at the report whose number from its beginning is the
-- limit, and at none before
abbrev pub CheckFailsAtLimit : Type 0
CheckFailsAtLimit =
    (limit n : ℕ) → n < limit
    → (counted_times limit n ≡ Check.Counting n)
    × (fails_now limit false (counted_times limit n) ≡ eqb (n + 1) limit)
