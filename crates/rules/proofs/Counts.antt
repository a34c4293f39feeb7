-- What a report in DA and the commands 30 and 32 keep of the brake checks, of the rolled ground and of DRIFTBROMSFEL.
use Rattle.std.specs.Prelude.{Option, None, Some}
use mathlib.Core.Path.{◌≡◌, refl, sym, ◌∙◌}
use Prim.Native.Nat.{ℕ, ◌+◌, ◌≤◌, min}
use native.Mathlib.Omega.{arith}
use mathlib.Core.Bool.{Bool, true, false, cond, not, ◌&&◌, ◌||◌, or-false}
use lib.Dec.{leb}
use borrow.Author.Tests.{leb-false, le-leb, lt-ltb}
use Rattle.rules.specs.Numbers.{is_order, is_code}
use Rattle.rules.specs.Places.{any_of}
use Rattle.rules.specs.Hold.{is_up_to80, decided_at, held_on}
use Rattle.rules.specs.Table.{causes, stands, causes_for, no_causes, strength_of, stands_with, any_stands, ordered_at, ordered_by, added_causes, is_dropped, left_causes}
use Rattle.rules.specs.Checks.{fails_now, fails_at, checked_at, checked_by, check_left}
use Rattle.rules.specs.Releases.{fresh_brakes, is_halt, since_at, rolled_on, roll_at, roll_back, roll_left, noted_brakes, service_fails, causes_at, added_brakes, left_brakes, released_brakes, since_by, brakes_by}
use Rattle.rules.specs.Units.{is_check_sound, is_hold_sound, is_roll_sound}
use Rattle.rules.specs.declared.Code.{Code}
use Rattle.rules.specs.declared.Cause.{Cause}
use Rattle.rules.specs.declared.Causes.{Causes}
use Rattle.rules.specs.declared.Order.{Order}
use Rattle.rules.specs.declared.Hold.{Hold}
use Rattle.rules.specs.declared.Check.{Check}
use Rattle.rules.specs.declared.Brakes.{Brakes}
use Rattle.rules.specs.declared.Train.{Train}
use Rattle.rules.specs.declared.Reading.{Reading}
use Rattle.rules.specs.declared.Seen.{Seen}
use Rattle.rules.proofs.Tests.{impossible, and_left, and_right, and_mono, not_mono, or_left, or_either, neither, cond_by, any_mono}

-- ---- a check

check_at : (before after : Bool) (limit : ℕ) (dropped : Bool) (check : Check) → (before ≡ true → after ≡ true) → 1 ≤ limit
    → is_check_sound before limit check ≡ true → is_check_sound after limit (checked_at before after limit dropped check) ≡ true
unfolding checked_at
check_at true true limit dropped Check.Idle h least e = impossible e
check_at true true limit dropped (Check.Counting count) h least e =
    cond_by (λ new. is_check_sound true limit new ≡ true) (dropped || leb limit (count + 1)) Check.Done (Check.Counting (count + 1))
    (λ _. refl)
    (λ t. lt-ltb (count + 1) limit (leb-false limit (count + 1) (neither dropped (leb limit (count + 1)) t).1))
check_at true true limit dropped Check.Done h least e = refl
check_at true false limit dropped check h least e = impossible (h refl)
check_at false true limit dropped check h least e = lt-ltb 0 limit least
check_at false false limit dropped check h least e = refl

check_by : (before after : Bool) (limit : ℕ) (check : Check) → (before ≡ true → after ≡ true) → 1 ≤ limit
    → is_check_sound before limit check ≡ true → is_check_sound after limit (checked_by before after check) ≡ true
unfolding checked_by
check_by true true limit check h least e = e
check_by true false limit check h least e = impossible (h refl)
check_by false true limit check h least e = lt-ltb 0 limit least
check_by false false limit check h least e = refl

check_left_lem : (left before : Bool) (limit : ℕ) (check : Check) → (left ≡ true → before ≡ true)
    → is_check_sound before limit check ≡ true → is_check_sound left limit (check_left left check) ≡ true
unfolding check_left
check_left_lem true true limit check h e = e
check_left_lem true false limit check h e = impossible (h refl)
check_left_lem false before limit check h e = refl

-- ---- the rolled ground

rolled_sound : (moved : ℕ) (roll : Option ℕ) → is_roll_sound (rolled_on moved roll) ≡ true
rolled_sound moved None = refl
rolled_sound moved (Some covered) = le-leb (min 501 (covered + moved)) 501 (omega arith)

roll_at_lem : (r : Reading) (roll : Option ℕ) → is_roll_sound (roll_at r roll) ≡ true
unfolding roll_at
roll_at_lem r roll = go (is_halt r) r.neutral
  where
    go : (halt neutral : Bool) → is_roll_sound (cond halt (Some 0) (cond neutral (rolled_on r.moved roll) None)) ≡ true
    go true neutral = refl
    go false true = rolled_sound r.moved roll
    go false false = refl

back_sound : (roll : Option ℕ) → is_roll_sound (roll_back roll) ≡ true
back_sound None = refl
back_sound (Some covered) = refl

roll_left_lem : (stood left : Bool) (roll : Option ℕ) → is_roll_sound roll ≡ true → is_roll_sound (roll_left stood left roll) ≡ true
unfolding roll_left
roll_left_lem stood left roll e =
    cond_by (λ x. is_roll_sound x ≡ true) (stood && not left) (roll_back roll) roll (λ _. back_sound roll) (λ _. e)

-- ---- the hold of bit 9

hold_on : (stood : Bool) (hold : Hold) → is_hold_sound stood hold ≡ true → is_hold_sound stood (held_on hold) ≡ true
hold_on stood Hold.Undecided e = e
hold_on stood Hold.High e = refl
hold_on stood (Hold.Low count) e = le-leb (min 20 (count + 1)) 20 (omega arith)

-- where bit 9 stands no longer, or as before
hold_less : (stood left : Bool) (hold : Hold) → (left ≡ true → stood ≡ true) → is_hold_sound stood hold ≡ true
    → is_hold_sound left hold ≡ true
hold_less stood left Hold.Undecided h e = not_mono stood left h e
hold_less stood left Hold.High h e = refl
hold_less stood left (Hold.Low count) h e = e

-- 32 decides it, and nothing else orders bit 9
decided_sound : (stood low : Bool) → is_hold_sound stood (cond low (Hold.Low 0) Hold.High) ≡ true
decided_sound stood true = refl
decided_sound stood false = refl

hold_by_lem : (error stood : Bool) (v : ℕ) (hold : Hold) → is_hold_sound stood hold ≡ true
    → is_hold_sound (stood || error) (cond error (decided_at v) hold) ≡ true
hold_by_lem true stood v hold e = decided_sound (stood || true) (is_up_to80 v)
hold_by_lem false stood v hold e = rw or-false e

-- ---- orders

-- each order that stands by the first causes stands by the second
pub record Within (c c' : Causes) : Type 0 where
  pub any : any_stands c ≡ true → any_stands c' ≡ true
  pub strong : (order : Order) → stands_with order c ≡ true → stands_with order c' ≡ true

abbrev is_with : Order → Cause → Bool
is_with order cause = is_order order (strength_of cause)

within_tests : (test test' : Cause → Bool) → ((cause : Cause) → test cause ≡ true → test' cause ≡ true)
    → Within (causes_for test) (causes_for test')
unfolding any_stands stands_with any_of
within_tests test test' h = record {
  any = any_mono test test' h causes;
  strong = λ order.
      any_mono (λ cause. test cause && is_with order cause) (λ cause. test' cause && is_with order cause)
      (λ cause. and_mono (test cause) (test' cause) (is_with order cause) (h cause)) causes;
}

causes_added : (ordered : Cause → Bool) (c : Causes) → Within c (added_causes ordered c)
unfolding added_causes
causes_added ordered c =
    within_tests (stands c) (λ cause. stands c cause || ordered cause) (λ cause. or_left (stands c cause) (ordered cause))

causes_left : (s : Seen) (loss text : Bool) (c : Causes) → Within (left_causes s loss text c) c
unfolding left_causes
causes_left s loss text c =
    within_tests (λ cause. stands c cause && not (is_dropped s loss text c cause)) (stands c)
    (λ cause. and_left (stands c cause) (not (is_dropped s loss text c cause)))

-- ---- what brakes

-- the limits of both checks, and the length that an ending section waits for, are above 0
pub record LimitsSound (train : Train) : Type 0 where
  pub brake : 1 ≤ train.times.brake
  pub check : 1 ≤ train.check
  pub length : 1 ≤ train.length

pub record BrakesSound (train : Train) (b : Brakes) : Type 0 where
  pub service : is_check_sound (any_stands b.causes) train.times.brake b.service ≡ true
  pub emergency : is_check_sound (stands_with Order.Emergency b.causes) train.check b.emergency ≡ true
  pub hold : is_hold_sound b.causes.balise b.since.balise ≡ true
  pub roll : is_roll_sound b.roll ≡ true
  pub drift : b.drift ≡ true → any_stands b.causes ≡ true

pub brakes_fresh : (train : Train) → BrakesSound train fresh_brakes
unfolding fresh_brakes no_causes any_stands stands_with any_of
brakes_fresh train = record { service = refl; emergency = refl; hold = refl; roll = refl; drift = λ e. e }

pub brakes_noted : (train : Train) (r : Reading) (b : Brakes) → BrakesSound train b → BrakesSound train (noted_brakes train r b)
unfolding noted_brakes since_at
brakes_noted train r b s = record {
  service = s.service;
  emergency = s.emergency;
  hold = hold_on b.causes.balise b.since.balise s.hold;
  roll = roll_at_lem r b.roll;
  drift = s.drift;
}

-- a check that fails had an order to check
fault_ordered : (train : Train) (dropped : Bool) (b : Brakes) → service_fails train dropped b ≡ true → any_stands b.causes ≡ true
unfolding service_fails fails_at
fault_ordered train dropped b e = and_left (any_stands b.causes) (fails_now train.times.brake dropped b.service) e

pub brakes_added : (train : Train) (dropped : Bool) (s : Seen) (b : Brakes) → LimitsSound train → BrakesSound train b
    → BrakesSound train (added_brakes train dropped s b)
unfolding added_brakes causes_at added_causes
brakes_added train dropped s b limits sound =
    let fault = service_fails train dropped b in
    let before = b.causes in
    let after = added_causes (ordered_at s fault) before in
    let more = causes_added (ordered_at s fault) before in
    record {
      service =
          check_at (any_stands before) (any_stands after) train.times.brake dropped b.service
          more.any limits.brake sound.service;
      emergency =
          check_at (stands_with Order.Emergency before) (stands_with Order.Emergency after) train.check dropped b.emergency
          (more.strong Order.Emergency) limits.check sound.emergency;
      hold =
          hold_less before.balise (before.balise || false) b.since.balise (λ e. sym (or-false before.balise) ∙ e) sound.hold;
      roll = sound.roll;
      drift = λ e. more.any (or_either b.drift fault (any_stands before) e sound.drift (fault_ordered train dropped b));
    }

pub brakes_released : (train : Train) (s : Seen) (loss text : Bool) (b : Brakes) → BrakesSound train b
    → BrakesSound train (released_brakes s loss text b)
unfolding released_brakes left_brakes left_causes
brakes_released train s loss text b sound =
    let before = b.causes in
    let left = left_causes s loss text before in
    let less = causes_left s loss text before in
    record {
      service = check_left_lem (any_stands left) (any_stands before) train.times.brake b.service less.any sound.service;
      emergency =
          check_left_lem (stands_with Order.Emergency left) (stands_with Order.Emergency before) train.check b.emergency
          (less.strong Order.Emergency) sound.emergency;
      hold = hold_less before.balise left.balise b.since.balise (and_left before.balise _) sound.hold;
      roll = roll_left_lem (stands before Cause.Rolling) (stands left Cause.Rolling) b.roll sound.roll;
      drift = λ e. and_right b.drift (any_stands left) e;
    }

pub brakes_by_lem : (train : Train) (code : Code) (which v : ℕ) (b : Brakes) → LimitsSound train → BrakesSound train b
    → BrakesSound train (brakes_by code which v b)
unfolding brakes_by added_causes since_by
brakes_by_lem train code which v b limits sound =
    let before = b.causes in
    let after = added_causes (ordered_by code which) before in
    let more = causes_added (ordered_by code which) before in
    record {
      service =
          check_by (any_stands before) (any_stands after) train.times.brake b.service
          more.any limits.brake sound.service;
      emergency =
          check_by (stands_with Order.Emergency before) (stands_with Order.Emergency after) train.check b.emergency
          (more.strong Order.Emergency) limits.check sound.emergency;
      hold = hold_by_lem (is_code Code.BaliseError code) before.balise v b.since.balise sound.hold;
      roll = sound.roll;
      drift = λ e. more.any (sound.drift e);
    }
