-- What holds of every curve, for any lead: statements, proved in proofs/.
use Rattle.std.specs.Prelude.{◌≡◌, ℕ, suc, ◌+◌, ◌*◌, ◌≤◌, ◌<◌, true, false, ◌⊎◌, is_none}
use Rattle.curve.specs.Deceleration.{deceleration_of}
use Rattle.curve.specs.Boundary.{is_reached, is_reached_f, is_reached_at_kmh}
use Rattle.curve.specs.Ground.{moved_by, never, most_before, reach_of, reach_of_f, left_of}
use Rattle.curve.specs.Lead.{leads_of}
use Rattle.curve.specs.declared.Times.{Times}
use Rattle.curve.specs.declared.Curve.{Curve}

-- ---- one rule

-- the rule at k km/h is the rule at v where 9×v = 250×k
abbrev pub OneRule : Type 0
OneRule = (curve : Curve) (level v k T : ℕ) → 9 * v ≡ 250 * k → is_reached_at_kmh curve level k T ≡ is_reached curve level v T

-- with no margin F is E: the same line with lead 0
abbrev pub FWithoutMarginIsE : Type 0
FWithoutMarginIsE = (curve : Curve) (level v : ℕ) → is_reached_f curve level 0 v ≡ is_reached curve level v 0

-- ---- the leads

-- "D T_B; C T_B + gC; permitted gP more; B 30 more; Bf gBf more": with no extra they are 01's
abbrev pub LeadsWithoutExtra : Type 0
LeadsWithoutExtra =
    (times : Times)
    → times.extra ≡ 0
    → leads_of times
    ≡ record {
      d = times.brake;
      c = times.brake + times.c;
      permitted = times.brake + times.c + times.permitted;
      b = times.brake + times.c + times.permitted + 30;
      bf = times.brake + times.c + times.permitted + 30 + times.bf;
    }

-- 02, F-3: "adds an extra .. to T_B in every curve lead": the leads are those of a T_B that is longer by it
abbrev pub ExtraLengthensBrakeTime : Type 0
ExtraLengthensBrakeTime =
    (times : Times)
    → leads_of times
    ≡ leads_of (record {
      brake = times.brake + times.extra;
      c = times.c;
      permitted = times.permitted;
      bf = times.bf;
      extra = 0;
    })

-- ---- stricter figures

-- the second curve has a distance and a target or release speed no higher, and a gradient that does the same to every deceleration:
-- 0 up and 0 down are the same track
pub record Stricter (curve curve' : Curve) : Type 0 where
  pub kind : curve'.kind ≡ curve.kind
  pub gradient : (level : ℕ) → deceleration_of level curve'.gradient ≡ deceleration_of level curve.gradient
  pub distance : curve'.distance ≤ curve.distance
  pub speed : curve'.speed ≤ curve.speed

-- a boundary reached stays reached with all figures stricter, for any lead
abbrev pub StaysReached : Type 0
StaysReached =
    (curve curve' : Curve) (level level' v v' T T' : ℕ)
    → Stricter curve curve' → level' ≤ level → v ≤ v' → T ≤ T'
    → is_reached curve level v T ≡ true → is_reached curve' level' v' T' ≡ true

abbrev pub FStaysReached : Type 0
FStaysReached =
    (curve curve' : Curve) (level level' margin margin' v v' : ℕ)
    → Stricter curve curve' → level' ≤ level → margin' ≤ margin → v ≤ v'
    → is_reached_f curve level margin v ≡ true → is_reached_f curve' level' margin' v' ≡ true

abbrev pub StaysReachedAtKmh : Type 0
StaysReachedAtKmh =
    (curve curve' : Curve) (level level' k k' T T' : ℕ)
    → Stricter curve curve' → level' ≤ level → k ≤ k' → T ≤ T'
    → is_reached_at_kmh curve level k T ≡ true → is_reached_at_kmh curve' level' k' T' ≡ true

-- ---- one curve

-- a boundary with a longer lead is reached whenever one with a shorter is
abbrev pub LongerLeadIsReached : Type 0
LongerLeadIsReached = (curve : Curve) (level v T T' : ℕ) → T ≤ T' → is_reached curve level v T ≡ true → is_reached curve level v T' ≡ true

-- where F is reached, so is E
abbrev pub FImpliesE : Type 0
FImpliesE = (curve : Curve) (level margin v : ℕ) → is_reached_f curve level margin v ≡ true → is_reached curve level v 0 ≡ true

-- ---- how far to a change (02, F-1)

-- something stays as it is for n centimetres of the distance: up to n, and not at one more; or it stays so down to distance 0, and n
-- is FFFFFFFF. Of a distance that four bytes hold, n tells which
pub record ChangesAfter (Same : ℕ → Type 0) (distance n : ℕ) : Type 0 where
  pub within : n < distance
  pub stays : (m : ℕ) → m ≤ n → Same m
  pub changes : Same (suc n) → ⊥

pub record NeverChanges (Same : ℕ → Type 0) (n : ℕ) : Type 0 where
  pub told : n ≡ never
  pub stays : (m : ℕ) → Same m

abbrev pub StaysFor : (ℕ → Type 0) → ℕ → ℕ → Type 0
StaysFor Same distance n = ChangesAfter Same distance n ⊎ NeverChanges Same n

-- "The boundary rule shall tell, besides reached or not,": what it told before is told by `None`
abbrev pub ReachedAsBefore : Type 0
ReachedAsBefore =
    (curve : Curve) (level margin v T : ℕ)
    → (is_none (reach_of curve level v T) ≡ is_reached curve level v T)
    × (is_none (reach_of_f curve level margin v) ≡ is_reached_f curve level margin v)

-- what it tells besides, "the most whole centimetres": 0 where the boundary is reached, and else for how far it is not
abbrev pub GroundLeftIsTold : Type 0
GroundLeftIsTold =
    (curve : Curve) (level v T : ℕ)
    → (left_of (reach_of curve level v T) ≡ most_before (λ m. is_reached (moved_by curve m) level v T) curve.distance)
    × (is_reached curve level v T ≡ true → left_of (reach_of curve level v T) ≡ 0)
    × (is_reached curve level v T ≡ false
    → StaysFor (λ m. is_reached (moved_by curve m) level v T ≡ false) curve.distance (left_of (reach_of curve level v T)))

abbrev pub GroundLeftToFIsTold : Type 0
GroundLeftToFIsTold =
    (curve : Curve) (level margin v : ℕ)
    → (left_of (reach_of_f curve level margin v) ≡ most_before (λ m. is_reached_f (moved_by curve m) level margin v) curve.distance)
    × (is_reached_f curve level margin v ≡ true → left_of (reach_of_f curve level margin v) ≡ 0)
    × (is_reached_f curve level margin v ≡ false
    → StaysFor (λ m. is_reached_f (moved_by curve m) level margin v ≡ false) curve.distance (left_of (reach_of_f curve level margin v)))
