-- Ground: what a list of commands takes off every d and adds to every ending section, each report once. Proved in proofs/.
use Rattle.std.specs.Prelude.{◌≡◌, ℕ, ◌+◌, ◌-◌, ◌*◌, ◌≤◌, ◌<◌, Bool, true, false, cond, ◌&&◌, ◌||◌, List, [], ◌∷◌, ◌++◌, eqb, replicate}
use Rattle.std.proofs.Math.Option.{Option, none, some}
use Rattle.curve.specs.declared.Curve.{Curve}
use Rattle.rules.specs.Numbers.{is_accepted}
use Rattle.rules.specs.Runs.{Sent, answer_to, state_after, state_at_end, none_accepted, is_of, freshens}
use Rattle.rules.specs.History.{first_operand, enters_by_gmd, ground_over, curve_at, section_at}
use Rattle.rules.specs.declared.Code.{Code}
use Rattle.rules.specs.declared.Section.{Section}
use Rattle.rules.specs.declared.Stm.{Stm}

-- ---- curves

-- it names a curve, or a section
abbrev pub names_curve : ℕ → List ℕ → Bool
names_curve id command = (is_of Code.NewCurve command || is_of Code.EndCurve command) && eqb (first_operand command) id

abbrev pub names_section : ℕ → List ℕ → Bool
names_section id command = (is_of Code.NewSection command || is_of Code.EndSection command) && eqb (first_operand command) id

-- nothing but d, and past in B, has changed: "d falls by the ground moved, never below 0"
pub record HasLost (covered : ℕ) (before after : Curve) : Type 0 where
  pub held : after.held ≡ true
  pub id : after.id ≡ before.id
  pub kind : after.kind ≡ before.kind
  pub speed : after.speed ≡ before.speed
  pub gradient : after.gradient ≡ before.gradient
  pub distance : after.distance ≡ before.distance - covered

-- "only an ending, CS or a start removes a curve": a curve that no accepted 20 or 21 names stays at its place through a list with no
-- start and no entering of CS, and has lost the ground moved in it
abbrev pub CurveLosesGround : Type 0
CurveLosesGround =
    (stm : Stm) (xs : List Sent) (place : ℕ)
    → (curve_at place stm).held ≡ true
    → none_accepted (λ before command. freshens command || names_curve (curve_at place stm).id command) stm xs ≡ true
    → HasLost (ground_over stm xs) (curve_at place stm) (curve_at place (state_at_end stm xs))

-- ---- sections

-- a section is left alone by every command but a start, CS, a 22 or 23 with its id and, by 02, F-6, an entering GMD
abbrev pub touches_section : ℕ → Stm → List ℕ → Bool
touches_section id before command = freshens command || names_section id command || enters_by_gmd before command

-- one that no accepted command touches stays as it is,
abbrev pub SectionStays : Type 0
SectionStays =
    (stm : Stm) (xs : List Sent) (place : ℕ)
    → (section_at place stm).held ≡ true → (section_at place stm).ending ≡ false
    → none_accepted (touches_section (section_at place stm).id) stm xs ≡ true
    → section_at place (state_at_end stm xs) ≡ section_at place stm

-- an ending one "until the ground moved since reaches the train's length": below it the section is held, with that ground,
pub record EndsWith (moved : ℕ) (before after : Section) : Type 0 where
  pub held : after.held ≡ true
  pub id : after.id ≡ before.id
  pub speed : after.speed ≡ before.speed
  pub ending : after.ending ≡ true
  pub covered : after.covered ≡ moved

-- and from the report on that reaches it its place holds its id no more
abbrev pub SectionEndsOverGround : Type 0
SectionEndsOverGround =
    (stm : Stm) (xs : List Sent) (place : ℕ)
    → (section_at place stm).held ≡ true → (section_at place stm).ending ≡ true
    → (section_at place stm).covered < 100 * stm.train.length
    → none_accepted (touches_section (section_at place stm).id) stm xs ≡ true
    → ((section_at place stm).covered + ground_over stm xs < 100 * stm.train.length
    → EndsWith ((section_at place stm).covered + ground_over stm xs) (section_at place stm) (section_at place (state_at_end stm xs)))
    × (100 * stm.train.length ≤ (section_at place stm).covered + ground_over stm xs
    → ((section_at place (state_at_end stm xs)).held && eqb (section_at place (state_at_end stm xs)).id (section_at place stm).id) ≡ false)

-- ---- free places

-- a place that holds no curve, or no section, stays as it is until a new one comes: reports neither move it nor note it. (An entering
-- GMD makes it a free one: see AreaRuns)
abbrev pub FreePlacesStay : Type 0
FreePlacesStay =
    (stm : Stm) (xs : List Sent) (place : ℕ)
    → ((curve_at place stm).held ≡ false
    → none_accepted (λ before command. freshens command || is_of Code.NewCurve command) stm xs ≡ true
    → curve_at place (state_at_end stm xs) ≡ curve_at place stm)
    × ((section_at place stm).held ≡ false
    → none_accepted (λ before command. freshens command || is_of Code.NewSection command || enters_by_gmd before command) stm xs ≡ true
    → section_at place (state_at_end stm xs) ≡ section_at place stm)

-- ---- reports sent again

-- a list in which, after each command, the last accepted one of the list is sent again so many times
abbrev pub copies : ℕ → Option Sent → List Sent
copies times none = []
copies times (some x) = replicate times x

abbrev pub last_accepted : Stm → Sent → Option Sent → Option Sent
last_accepted stm x last = cond (is_accepted (answer_to stm x)) (some x) last

unfoldable pub resent : List ℕ → Option Sent → Stm → List Sent → List Sent
resent [] last stm xs = xs
resent (times ∷ rest) last stm [] = []
resent (times ∷ rest) last stm (x ∷ xs) =
    x ∷ copies times (last_accepted stm x last) ++ resent rest (last_accepted stm x last) (state_after stm x) xs

-- "no numbered report moves the train twice, however many times it is sent": every d, every ground and every count ends as it would
-- have ended, since the whole unit does
abbrev pub SentAgainMovesNothing : Type 0
SentAgainMovesNothing =
    (times : List ℕ) (stm : Stm) (xs : List Sent) → state_at_end stm (resent times none stm xs) ≡ state_at_end stm xs
