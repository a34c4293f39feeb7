-- What commands 20 to 23, 30 and 31 do to curves, sections and the 40, place by place. Proved in proofs/.
use Rattle.std.specs.Prelude.{◌≡◌, ℕ, Bool, true, false, cond, ◌&&◌, ◌||◌, List, eqb}
use Rattle.wire.specs.Form.{operands_of}
use Rattle.rules.specs.Numbers.{is_accepted}
use Rattle.rules.specs.Operands.{curve_of, section_of}
use Rattle.rules.specs.Runs.{Sent, answer_to, state_after, state_at_end, none_accepted, is_of, freshens}
use Rattle.rules.specs.History.{first_operand, passes_stop, curve_at, section_at}
use Rattle.rules.specs.Ground.{EndsWith}
use Rattle.rules.specs.declared.Code.{Code}
use Rattle.rules.specs.declared.Stm.{Stm}

-- a place holds this id
abbrev pub holds_at : {A : Type 0} → (A → Bool) → (A → ℕ) → ℕ → A → Bool
holds_at held id n x = held x && eqb (id x) n

-- places given a new element: where its id is held, `replaced` tells what stands there then, and every other place stays; where no
-- place holds it, one that was free has the new element, and every other stays
pub record Given {A : Type 0} (held : A → Bool) (id : A → ℕ) (new : A) (replaced : A → A) (before after : ℕ → A) : Type 0 where
  pub there :
      (other : ℕ) → holds_at held id (id new) (before other) ≡ true
      → (place : ℕ) → after place ≡ cond (holds_at held id (id new) (before place)) (replaced (before place)) (before place)
  pub nowhere :
      ((place : ℕ) → holds_at held id (id new) (before place) ≡ false)
      → (free : ℕ) × (held (before free) ≡ false) × ((place : ℕ) → after place ≡ cond (eqb place free) new (before place))

-- 20: "A held id is replaced (its past in B is kept ..)". "A freed place is used again"
abbrev pub CurveIsGiven : Type 0
CurveIsGiven =
    (stm : Stm) (x : Sent)
    → is_accepted (answer_to stm x) ≡ true → is_of Code.NewCurve x.command ≡ true
    → let new = curve_of (operands_of x.command) in
    Given (λ curve. curve.held) (λ curve. curve.id) new
    (λ old. record {
      held = new.held;
      id = new.id;
      kind = new.kind;
      distance = new.distance;
      speed = new.speed;
      gradient = new.gradient;
      past = old.past;
    })
    (λ place. curve_at place stm) (λ place. curve_at place (state_after stm x))

-- 22: "an ending section stands again"
abbrev pub SectionIsGiven : Type 0
SectionIsGiven =
    (stm : Stm) (x : Sent)
    → is_accepted (answer_to stm x) ≡ true → is_of Code.NewSection x.command ≡ true
    → let new = section_of (operands_of x.command) in
    Given (λ section. section.held) (λ section. section.id) new (λ old. new)
    (λ place. section_at place stm) (λ place. section_at place (state_after stm x))

-- 21: the place is free, and every other stays
abbrev pub CurveIsEnded : Type 0
CurveIsEnded =
    (stm : Stm) (x : Sent) (place : ℕ)
    → is_accepted (answer_to stm x) ≡ true → is_of Code.EndCurve x.command ≡ true
    → (holds_at (λ curve. curve.held) (λ curve. curve.id) (first_operand x.command) (curve_at place stm) ≡ true
    → (curve_at place (state_after stm x)).held ≡ false)
    × (holds_at (λ curve. curve.held) (λ curve. curve.id) (first_operand x.command) (curve_at place stm) ≡ false
    → curve_at place (state_after stm x) ≡ curve_at place stm)

-- 23: the section ends, with no ground moved since, and every other stays
abbrev pub SectionIsEnded : Type 0
SectionIsEnded =
    (stm : Stm) (x : Sent) (place : ℕ)
    → is_accepted (answer_to stm x) ≡ true → is_of Code.EndSection x.command ≡ true
    → (holds_at (λ section. section.held) (λ section. section.id) (first_operand x.command) (section_at place stm) ≡ true
    → EndsWith 0 (section_at place stm) (section_at place (state_after stm x)))
    × (holds_at (λ section. section.held) (λ section. section.id) (first_operand x.command) (section_at place stm) ≡ false
    → section_at place (state_after stm x) ≡ section_at place stm)

-- ---- the 40

-- "40 after an unexpected stop until a proceed signal",
abbrev pub FortyUntilProceed : Type 0
FortyUntilProceed =
    (stm : Stm) (x : Sent) (ys : List Sent)
    → is_accepted (answer_to stm x) ≡ true → passes_stop 1 x.command ≡ true
    → none_accepted (λ before command. freshens command || is_of Code.Proceed command) (state_after stm x) ys ≡ true
    → (state_at_end (state_after stm x) ys).track.forty ≡ true

-- and not from then on until another stop
abbrev pub NoFortyUntilStop : Type 0
NoFortyUntilStop =
    (stm : Stm) (x : Sent) (ys : List Sent)
    → is_accepted (answer_to stm x) ≡ true → (freshens x.command || is_of Code.Proceed x.command) ≡ true
    → none_accepted (λ before command. passes_stop 1 command) (state_after stm x) ys ≡ true
    → (state_at_end (state_after stm x) ys).track.forty ≡ false
