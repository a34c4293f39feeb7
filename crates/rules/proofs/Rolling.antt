-- Rolling over a list of commands: the count is the ground of the reports since the last halt, or since a later drop of bit 10.
-- Assumes nothing.
use Rattle.std.specs.Prelude.{Option, None, Some}
use mathlib.Core.Path.{◌≡◌, refl, sym, ◌∙◌, ap, ap₂}
use Prim.Native.Nat.{ℕ, ◌+◌, min}
use native.Mathlib.Omega.{arith}
use native.Mathlib.Decide.{dec_lt}
use mathlib.Core.Bool.{Bool, true, false, cond, not, ◌&&◌, ◌||◌, and-false, or-false, false≢true}
use mathlib.Core.Logic.{◌⊎◌, inl, inr}
use mathlib.Core.List.{List, [], ◌∷◌, map}
use lib.Dec.{ltb}
use borrow.Author.Tests.{lt-ltb, le-ltb}
use Rattle.rules.specs.Numbers.{is_state, is_accepted}
use Rattle.rules.specs.Operands.{reading_of}
use Rattle.rules.specs.Places.{any_of, all_of}
use Rattle.rules.specs.Table.{stands, is_releasable}
use Rattle.rules.specs.Releases.{fresh_brakes, is_halt, rolled_on, roll_at, is_rolled, roll_back, noted_brakes, added_brakes, roll_left, left_brakes, brakes_by}
use Rattle.rules.specs.Odometer.{seen_with, seen_of, seen_in, moves, measures, notes, adds}
use Rattle.rules.specs.Runs.{Sent, answer_to, state_after, state_at_end, freshens, is_of, orders_cs}
use Rattle.rules.specs.History.{moved_of, button_of, is_in, is_report, is_supervised, is_halt_of, sum}
use Rattle.rules.specs.Braking.{measured_at, seen_at, ordered_now, releasable_now}
use Rattle.rules.specs.Rolling.{Rolls, rolls_of, drops_rolling, rolls_after, rolls_over, since_last, since_halt, is_over500, RollingIsOrdered}
use Rattle.rules.specs.declared.Code.{Code}
use Rattle.rules.specs.declared.State.{State}
use Rattle.rules.specs.declared.Cause.{Cause}
use Rattle.rules.specs.declared.Brakes.{Brakes}
use Rattle.rules.specs.declared.Stm.{Stm}
use Rattle.rules.proofs.Answers.{after_other, passed}
use Rattle.rules.proofs.Tests.{impossible, both, or_left}
use Rattle.rules.proofs.Ordering.{added_at, brakes_after, fresh_brakes_lem, causes_added, stands_added, ordered_and_released, ByOther, unchanged, orders, brakes_by_other}
use Rattle.rules.proofs.Told.{state_is_lem}
use Rattle.rules.proofs.Checked.{left_in_da, fa_else}

-- ---- the count that reports lead to

-- the ground since the last halt, or since a later drop of bit 10
abbrev ground_since : List Rolls → ℕ
ground_since rs = sum (map (λ r. r.moved) (since_last (λ r. r.drops) (since_halt rs)))

-- a halt has come, and every report since had neutral
abbrev counts : List Rolls → Bool
counts rs = any_of (λ r. r.halt) rs && all_of (λ r. r.neutral) (since_halt rs)

abbrev roll_of : List Rolls → Option ℕ
roll_of rs = cond (counts rs) (Some (min 501 (ground_since rs))) None

-- one report: a halt, neutral, its ground, and whether bit 10 is dropped at it
abbrev rolls : Bool → Bool → ℕ → Option ℕ → Option ℕ
rolls halt neutral moved roll = cond halt (Some 0) (cond neutral (rolled_on moved roll) None)

abbrev dropped : Bool → Option ℕ → Option ℕ
dropped drops roll = cond drops (roll_back roll) roll

more_ground : (moved covered : ℕ) → min 501 (min 501 covered + moved) ≡ min 501 (moved + covered)
more_ground moved covered = omega arith

rolled_more : (drops t : Bool) (moved covered : ℕ)
    → dropped drops (rolled_on moved (cond t (Some (min 501 covered)) None))
    ≡ cond t (Some (min 501 (cond drops 0 (moved + covered)))) None
rolled_more true true moved covered = refl
rolled_more true false moved covered = refl
rolled_more false true moved covered = ap Some (more_ground moved covered)
rolled_more false false moved covered = refl

ended_dropped : (drops : Bool) → dropped drops None ≡ None
ended_dropped true = refl
ended_dropped false = refl

halted_dropped : (drops : Bool) → dropped drops (Some 0) ≡ Some 0
halted_dropped true = refl
halted_dropped false = refl

abbrev rolls_are : Bool → Bool → ℕ → Bool → Rolls
rolls_are halt neutral moved drops = record { halt = halt; neutral = neutral; moved = moved; drops = drops }

-- the ground of one report more
ground_more : (drops : Bool) (moved : ℕ) (r : Rolls) (rs : List Rolls)
    → sum (map (λ each. each.moved) (cond drops [] (r ∷ rs))) ≡ cond drops 0 (r.moved + sum (map (λ each. each.moved) rs))
ground_more true moved r rs = refl
ground_more false moved r rs = refl

roll_on : (halt neutral : Bool) (moved : ℕ) (drops : Bool) (rs : List Rolls)
    → dropped drops (rolls halt neutral moved (roll_of rs)) ≡ roll_of (rolls_are halt neutral moved drops ∷ rs)
unfolding any_of all_of
roll_on true neutral moved drops rs = halted_dropped drops
roll_on false false moved drops rs = rw (and-false (any_of (λ r. r.halt) rs)) (ended_dropped drops)
roll_on false true moved drops rs =
    rolled_more drops (counts rs) moved (ground_since rs)
    ∙ ap (λ covered. cond (counts rs) (Some (min 501 covered)) None)
    (sym (ground_more drops moved (rolls_are false true moved drops) (since_last (λ r. r.drops) (since_halt rs))))

-- it is over 500 exactly where the ground is
over_501 : (covered : ℕ) → ltb 500 (min 501 covered) ≡ ltb 500 covered
over_501 covered =
    elim (dec_lt 500 covered) [
      | yes h ↦ lt-ltb 500 (min 501 covered) (omega arith) ∙ sym (lt-ltb 500 covered h)
      | no h ↦ le-ltb 500 (min 501 covered) (omega (arith, h)) ∙ sym (le-ltb 500 covered (omega (arith, h)))
    ]

rolled_is : (t : Bool) (covered : ℕ) → is_rolled (cond t (Some (min 501 covered)) None) ≡ (t && ltb 500 covered)
rolled_is true covered = over_501 covered
rolled_is false covered = refl

is_over_lem : (rs : List Rolls) → is_rolled (roll_of rs) ≡ is_over500 rs
is_over_lem rs = rolled_is (counts rs) (ground_since rs)

-- ---- a report in DA

drop_told : (stood pressed : Bool) → (stood && not (stood && not (pressed && true))) ≡ (pressed && stood)
drop_told true true = refl
drop_told true false = refl
drop_told false true = refl
drop_told false false = refl

module _ (stm : Stm) (x : Sent) where
  abbrev rolls_now : Option ℕ → Option ℕ
  rolls_now roll = rolls (is_halt_of x.command) (button_of 3 x.command) (moved_of x.command) roll

  -- bit 10 is ordered where the count, with this report, is over 500
  ordered_rolling : ordered_now stm x.command Cause.Rolling ≡ is_rolled (rolls_now stm.brakes.roll)
  unfolding ordered_now seen_at seen_in seen_of seen_with measured_at notes measures moves noted_brakes roll_at is_halt reading_of
  ordered_rolling = refl

  module _ (e : is_accepted (answer_to stm x) ≡ true) (u : is_supervised stm x.command ≡ true)
      (d : is_in State.DA (state_after stm x) ≡ true) where
    abbrev stood : Bool
    stood = stands stm.brakes.causes Cause.Rolling || ordered_now stm x.command Cause.Rolling

    abbrev pressed : Bool
    pressed = button_of 1 x.command && not stm.kept.text

    added_roll : (added_at stm x.command).brakes.roll ≡ rolls_now stm.brakes.roll
    unfolding added_at adds added_brakes measured_at notes measures moves noted_brakes roll_at is_halt reading_of
    added_roll = refl

    added_stands : stands (added_at stm x.command).brakes.causes Cause.Rolling ≡ stood
    added_stands =
        ap (λ c. stands c Cause.Rolling) (causes_added stm x.command)
        ∙ stands_added (ordered_now stm x.command) stm.brakes.causes Cause.Rolling

    left_stands : stands (state_after stm x).brakes.causes Cause.Rolling ≡ (stood && not (pressed && true))
    unfolding releasable_now is_releasable reading_of
    left_stands = ordered_and_released stm x Cause.Rolling e u d

    drops_is : (stands (added_at stm x.command).brakes.causes Cause.Rolling && not (stands (state_after stm x).brakes.causes Cause.Rolling))
        ≡ drops_rolling stm x.command
    drops_is = ap₂ (λ s t. s && not t) added_stands left_stands ∙ drop_told stood pressed

    roll_after : (state_after stm x).brakes.roll ≡ dropped (drops_rolling stm x.command) (rolls_now stm.brakes.roll)
    unfolding left_brakes roll_left
    roll_after = ap (λ b. b.roll) (left_in_da stm x e u d) ∙ ap₂ dropped drops_is added_roll

-- ---- every command

-- a unit is in FA, or its count is the one that the reports have led to
abbrev Counted : Stm → List Rolls → Type 0
Counted stm rs = (is_in State.FA stm ≡ true) ⊎ (stm.brakes.roll ≡ roll_of rs)

other_roll : (code : Code) (which : ℕ) (before after : Brakes) → ByOther code which before after → after.roll ≡ before.roll
unfolding brakes_by
other_roll code which before after (unchanged same e) = ap (λ b. b.roll) e
other_roll code which before after (orders v e) = ap (λ b. b.roll) e

-- in FA only a start is taken
fa_start : (stm : Stm) (x : Sent) → is_accepted (answer_to stm x) ≡ true → is_in State.FA stm ≡ true → freshens x.command ≡ true
fa_start stm x e fa =
    or_left (is_of Code.Start x.command) (orders_cs x.command)
    (sym (or-false (is_of Code.Start x.command)) ∙ ap (λ t. is_of Code.Start x.command || not t) (sym fa) ∙ (passed stm x e).1.alive)

module _ (stm : Stm) (x : Sent) (rs : List Rolls) where
  -- a report in DA
  counted_report : is_accepted (answer_to stm x) ≡ true → is_supervised stm x.command ≡ true → stm.brakes.roll ≡ roll_of rs
      → (da : Bool) → is_in State.DA (state_after stm x) ≡ da
      → Counted (state_after stm x) (rolls_of x.command (drops_rolling stm x.command) ∷ rs)
  counted_report e u r true d =
      inr (roll_after stm x e u d
      ∙ ap (λ roll. dropped (drops_rolling stm x.command) (rolls_now stm x roll)) r
      ∙ roll_on (is_halt_of x.command) (button_of 3 x.command) (moved_of x.command) (drops_rolling stm x.command) rs)
  counted_report e u r false d = inl (fa_else stm x e u d)

  counted_fresh : is_accepted (answer_to stm x) ≡ true → freshens x.command ≡ true → Counted (state_after stm x) []
  unfolding fresh_brakes any_of
  counted_fresh e f = inr (ap (λ b. b.roll) (brakes_after stm x e ∙ fresh_brakes_lem stm x.command f))

  -- the state is not both
  da_not_fa : is_supervised stm x.command ≡ true → is_in State.FA stm ≡ true → ⊥
  da_not_fa u fa =
      let da = (both (is_report x.command) (is_in State.DA stm) u).1 in
      false≢true (ap (is_state State.DA) (sym (state_is_lem State.FA stm.control.state fa)) ∙ da)

  counted_once : (accepted fresh supervised : Bool) → is_accepted (answer_to stm x) ≡ accepted → freshens x.command ≡ fresh
      → is_supervised stm x.command ≡ supervised → Counted stm rs
      → Counted (state_after stm x)
      (cond accepted (cond fresh [] (cond supervised (rolls_of x.command (drops_rolling stm x.command) ∷ rs) rs)) rs)
  counted_once false fresh supervised e f u c = rw (after_other stm x e) c
  counted_once true true supervised e f u c = counted_fresh e f
  counted_once true false true e f u (inl fa) = absurd (da_not_fa u fa)
  counted_once true false true e f u (inr r) = counted_report e u r (is_in State.DA (state_after stm x)) refl
  counted_once true false false e f u (inl fa) = impossible (sym f ∙ fa_start stm x e fa)
  counted_once true false false e f u (inr r) =
      inr (other_roll _ _ stm.brakes (state_after stm x).brakes (brakes_by_other stm x e u f) ∙ r)

counted_over : (stm : Stm) (xs : List Sent) (rs : List Rolls) → Counted stm rs → Counted (state_at_end stm xs) (rolls_over rs stm xs)
unfolding state_at_end rolls_over
counted_over stm [] rs c = c
counted_over stm (x ∷ xs) rs c =
    counted_over (state_after stm x) xs (rolls_after rs stm x)
    (counted_once stm x rs (is_accepted (answer_to stm x)) (freshens x.command) (is_supervised stm x.command) refl refl refl c)

counted_first : (stm : Stm) → stm.brakes.roll ≡ None → Counted stm []
unfolding any_of
counted_first stm e = inr e

pub rolling_is_ordered : RollingIsOrdered
rolling_is_ordered stm xs z ended e u =
    let last = state_at_end stm xs in
    let rs = rolls_over [] stm xs in
    elim (counted_over stm xs [] (counted_first stm ended)) [
      | inl fa ↦ absurd (da_not_fa last z [] u fa)
      | inr r ↦
          ordered_rolling last z
          ∙ ap (λ roll. is_rolled (rolls_now last z roll)) r
          ∙ ap is_rolled (roll_on (is_halt_of z.command) (button_of 3 z.command) (moved_of z.command) false rs)
          ∙ is_over_lem (rolls_of z.command false ∷ rs)
    ]
