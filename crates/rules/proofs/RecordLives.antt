-- What a list of commands makes of a record that none of them touches. Assumes nothing.
use mathlib.Core.Path.{◌≡◌, refl, sym, ◌∙◌, ap, subst}
use Prim.Native.Nat.{ℕ, ◌+◌, ◌≤◌, ◌<◌}
use native.Mathlib.Omega.{arith}
use native.Mathlib.Nat.{add-zero}
use native.Mathlib.Decide.{dec_le}
use mathlib.Core.Bool.{Bool, true, false, cond, ◌&&◌, ◌||◌, or-false}
use mathlib.Core.Logic.{◌⊎◌, inl, inr}
use mathlib.Core.List.{List, [], ◌∷◌}
use lib.Dec.{eqb, leb}
use lib.ListN.{get_or}
use borrow.Author.Tests.{leb-true, le-leb, lt-leb}
use Rattle.wire.specs.Numbers.{byte_at}
use Rattle.wire.specs.Form.{operands_of}
use Rattle.curve.specs.declared.Curve.{Curve}
use Rattle.curve.specs.declared.Interval.{Interval}
use Rattle.interval.specs.Judging.{judged_of, noted_at}
use Rattle.places.specs.Places.{none_judged}
use Rattle.records.specs.declared.Condition.{Condition}
use Rattle.records.specs.declared.EtRecord.{EtRecord}
use Rattle.records.specs.Numbers.{category_number, signal_number, signal_of}
use Rattle.records.specs.Lives.{is_effective, free_record, covered_by, moved_record, passed_record, with_curve, as_curve}
use Rattle.records.specs.Claims.{row_number, controls}
use Rattle.records.proofs.Claims.{others_leave_it, decided_stays, free_place_stays}
use Rattle.records.proofs.Told.{covered_decided}
use Rattle.rules.specs.Numbers.{code_of, state_of, is_accepted, is_code, is_state}
use Rattle.rules.specs.Operands.{code_byte, signal_in_range, reading_of, record_of, signal_in, route_in, in_range}
use Rattle.rules.specs.Places.{given_record}
use Rattle.rules.specs.Speeds.{braking_of}
use Rattle.rules.specs.Runs.{Sent, answer_to, state_after, state_at_end, none_accepted, is_of, freshens}
use Rattle.rules.specs.History.{first_operand, moved_of, is_moving, ground_over, collected, record_at}
use Rattle.rules.specs.Ground.{HasLost}
use Rattle.rules.specs.Held.{holds_at}
use Rattle.rules.specs.RecordRuns.{touches_record, controls_record, DecidedStaysOver, UndecidedUntil, FreeRecordsStay}
use Rattle.rules.specs.declared.Code.{Code}
use Rattle.rules.specs.declared.State.{State}
use Rattle.rules.specs.declared.Reading.{Reading}
use Rattle.rules.specs.declared.Stm.{Stm}
use Rattle.rules.proofs.Tests.{impossible, both, neither, second_fails}
use Rattle.rules.proofs.Told.{code_is}
use Rattle.rules.proofs.Answers.{passed, after_other}
use Rattle.rules.proofs.AtPlaces.{elsewhere, given_stays}
use Rattle.rules.proofs.AtRecords.{noted_for, record_in, entered_record, record_by, record_after}
use Rattle.rules.proofs.Supervising.{moved_record_lem, unmoved_record}
use Rattle.rules.proofs.FreePlaces.{over}
use Rattle.rules.proofs.Ground.{lost_nothing, lost_moved, lost_both, ground_step, spared_first}

-- ---- ground

-- ground in two steps is ground in one
pub covered_twice : (m n : ℕ) (condition : Condition) → covered_by n (covered_by m condition) ≡ covered_by (m + n) condition
covered_twice m n (Condition.Undecided covered) =
    elim (dec_le 10000 (covered + m)) [
      | yes h ↦
          let later : 10000 ≤ covered + (m + n) = omega (arith, h) in
          rw (le-leb 10000 (covered + m) h, le-leb 10000 (covered + (m + n)) later)
      | no h ↦
          let below : covered + m < 10000 = omega (arith, h) in
          let same : covered + m + n ≡ covered + (m + n) = omega arith in
          rw (lt-leb 10000 (covered + m) below, same)
    ]
covered_twice m n Condition.Terminated = refl
covered_twice m n Condition.DefinitelyActive = refl
covered_twice m n Condition.PreliminaryPassive = refl
covered_twice m n Condition.PreliminaryActive = refl
covered_twice m n Condition.Locked = refl

-- ---- a record after so much ground

pub record Lived (covered : ℕ) (before after : EtRecord) : Type 0 where
  pub lost : HasLost covered before.curve after.curve
  pub category : after.category ≡ before.category
  pub condition : after.condition ≡ covered_by covered before.condition

-- no ground at all leaves the condition: it is decided, or its ground is below 100 m
abbrev pub Settled : EtRecord → Type 0
Settled et = covered_by 0 et.condition ≡ et.condition

pub lived_not : (et : EtRecord) → et.curve.held ≡ true → Settled et → Lived 0 et et
lived_not et held settled = record { lost = lost_nothing et.curve held; category = refl; condition = sym settled }

lived_both : {a b c : EtRecord} {m n : ℕ} → Lived m a b → Lived n b c → Lived (m + n) a c
lived_both {a} {m = m} {n} p q = record {
  lost = lost_both p.lost q.lost;
  category = q.category ∙ p.category;
  condition = q.condition ∙ ap (covered_by n) p.condition ∙ covered_twice m n a.condition;
}

settled_on : {a b : EtRecord} {n : ℕ} → Lived n a b → Settled b
settled_on {a} {n = n} p =
    ap (covered_by 0) p.condition ∙ covered_twice n 0 a.condition ∙ ap (λ m. covered_by m a.condition) (add-zero n) ∙ sym p.condition

-- ---- at a report

module _ (et : EtRecord) (held : et.curve.held ≡ true) where
  lived_moved : (moved : ℕ) → Lived moved et (moved_record moved et)
  lived_moved moved =
      rw (moved_record_lem moved et held) (record { lost = lost_moved et.curve held moved; category = refl; condition = refl })

  lived_in : (state : State) (r : Reading) (stm : Stm) → Settled et
      → Lived (cond (is_state State.HS state || is_state State.DA state) r.moved 0) et (record_in state r stm et)
  lived_in State.DE r stm settled = lived_not et held settled
  lived_in State.CS r stm settled = lived_not et held settled
  lived_in State.HS r stm settled = lived_moved r.moved
  lived_in State.DA r stm settled =
      let p = lived_moved r.moved in
      record {
        lost = record {
          held = p.lost.held;
          id = p.lost.id;
          kind = p.lost.kind;
          speed = p.lost.speed;
          gradient = p.lost.gradient;
          distance = p.lost.distance;
        };
        category = p.category;
        condition = p.condition;
      }
  lived_in State.FA r stm settled = lived_not et held settled

-- ---- at any command that leaves it

entered_other : (state : State) (et : EtRecord) → is_state State.CS state ≡ false → entered_record state et ≡ et
entered_other State.DE et e = refl
entered_other State.CS et e = impossible (sym e)
entered_other State.HS et e = refl
entered_other State.DA et e = refl
entered_other State.FA et e = refl

module _ (id place : ℕ) (stm : Stm) (held : (record_at place stm).curve.held ≡ true) (same : (record_at place stm).curve.id ≡ id) where
  other_id : (n : ℕ) → eqb n id ≡ false → holds_at (λ et. et.curve.held) (λ et. et.curve.id) n (record_at place stm) ≡ false
  other_id n e = elsewhere (λ et. et.curve.held) (λ et. et.curve.id) free_record refl n (record_at place stm) (rw same e)

  given_same : (new : EtRecord) → eqb new.curve.id id ≡ false
      → get_or (given_record new stm.track.records) place free_record ≡ record_at place stm
  unfolding given_record
  given_same new e =
      given_stays (λ et. et.curve.held) (λ et. et.curve.id) free_record refl new (λ old. new) stm.track.records place held
      (other_id new.curve.id e)

  -- only a report does anything to it
  pub untouched : (code : Code) (s : List ℕ)
      → (is_code Code.Start code || is_code Code.ChangeState code && is_state State.CS (state_of (byte_at s 0))) ≡ false
      → ((is_code Code.NewRecord code || is_code Code.EndRecord code) && eqb (byte_at s 0) id) ≡ false
      → (is_code Code.SignalPassed code ≡ true → passed_record (signal_in s) (route_in s) (record_at place stm) ≡ record_at place stm)
      → record_by code s stm place
      ≡ cond (is_code Code.Odometer code) (record_in stm.control.state (reading_of s) stm (record_at place stm)) (record_at place stm)
  unfolding record_of
  untouched Code.Start s f n p = impossible (sym f)
  untouched Code.ChangeState s f n p = entered_other (state_of (byte_at s 0)) (record_at place stm) f
  untouched Code.Odometer s f n p = refl
  untouched Code.NewCurve s f n p = refl
  untouched Code.EndCurve s f n p = refl
  untouched Code.NewSection s f n p = refl
  untouched Code.EndSection s f n p = refl
  untouched Code.StopPassed s f n p = refl
  untouched Code.Proceed s f n p = refl
  untouched Code.BaliseError s f n p = refl
  untouched Code.TestBrakes s f n p = refl
  untouched Code.AreaEvent s f n p = refl
  untouched Code.NewRecord s f n p = given_same (record_of s) n
  untouched Code.SignalPassed s f n p = p refl
  untouched Code.EndRecord s f n p = ap (λ t. cond t free_record (record_at place stm)) (other_id (byte_at s 0) n)

-- a signal's number is its byte, which is 0 or 1
pub signal_number_lem : (byte : ℕ) → byte ≤ 1 → signal_number (signal_of byte) ≡ byte
signal_number_lem byte h = elim (dec_le byte 0) [ yes z ↦ subst (λ b. signal_number (signal_of b) ≡ b) (sym (zero_is z)) refl | no p ↦ subst (λ b. signal_number (signal_of b) ≡ b) (sym (one_is p)) refl ]
  where
    zero_is : byte ≤ 0 → byte ≡ 0
    zero_is z = omega (arith, z)

    one_is : (byte ≤ 0 → ⊥) → byte ≡ 1
    one_is p = omega (arith, h, p)

-- an accepted 52 has a signal of 0 or 1
pub signal_given : (stm : Stm) (x : Sent) → is_accepted (answer_to stm x) ≡ true → code_of (code_byte x.command) ≡ Code.SignalPassed
    → (first_operand x.command ≤ 1) × (byte_at (operands_of x.command) 1 ≤ 1)
unfolding signal_in_range
signal_given stm x e c =
    let s = operands_of x.command in
    let range = subst (λ code. in_range code s ≡ true) c (passed stm x e).1.range in
    let t = both (leb (byte_at s 0) 1) (leb (byte_at s 1) 1) range in
    (leb-true (byte_at s 0) 1 t.0, leb-true (byte_at s 1) 1 t.1)

-- one that does not control it leaves it, and so does any where it is decided
signal_leaves : (stm : Stm) (x : Sent) (et : EtRecord) → is_accepted (answer_to stm x) ≡ true
    → code_of (code_byte x.command) ≡ Code.SignalPassed
    → ((row_number et.condition ≡ 0 → ⊥) ⊎ (controls (first_operand x.command) (category_number et.category) ≡ false))
    → passed_record (signal_in (operands_of x.command)) (route_in (operands_of x.command)) et ≡ et
signal_leaves stm x et e c (inl d) = decided_stays (signal_in (operands_of x.command)) (route_in (operands_of x.command)) et d
signal_leaves stm x et e c (inr n) =
    let number = signal_number_lem (first_operand x.command) (signal_given stm x e c).0 in
    others_leave_it (signal_in (operands_of x.command)) (route_in (operands_of x.command)) et
    (ap (λ signal. controls signal (category_number et.category)) number ∙ n)

-- ---- over a list

-- what the commands that leave it are asked
record Spares (id category : ℕ) (command : List ℕ) (condition : Condition) : Type 0 where
  touches : touches_record id command ≡ false
  signals : (row_number condition ≡ 0 → ⊥) ⊎ (controls_record category command ≡ false)

module _ (id category place : ℕ) where
  one_lived : (stm : Stm) (x : Sent) (accepted : Bool) → is_accepted (answer_to stm x) ≡ accepted
      → (record_at place stm).curve.held ≡ true → (record_at place stm).curve.id ≡ id → category_number (record_at place stm).category ≡ category
      → Settled (record_at place stm)
      → (accepted ≡ true → Spares id category x.command (record_at place stm).condition)
      → Lived (cond (accepted && is_moving stm x.command) (moved_of x.command) 0) (record_at place stm) (record_at place (state_after stm x))
  unfolding reading_of
  one_lived stm x true e held same of settled spares =
      let s = operands_of x.command in
      let code = code_of (code_byte x.command) in
      let et = record_at place stm in
      let t = neither (freshens x.command) _ (spares refl).touches in
      let is = record_after stm x code e refl place
      ∙ untouched id place stm held same code s t.0 t.1
      (λ p. signal_leaves stm x et e (code_is Code.SignalPassed code p) (signals_of (spares refl).signals p)) in
      rw is (by (is_code Code.Odometer code))
    where
      signals_of : ((row_number (record_at place stm).condition ≡ 0 → ⊥) ⊎ (controls_record category x.command ≡ false))
          → is_code Code.SignalPassed (code_of (code_byte x.command)) ≡ true
          → (row_number (record_at place stm).condition ≡ 0 → ⊥)
          ⊎ (controls (first_operand x.command) (category_number (record_at place stm).category) ≡ false)
      signals_of (inl d) p = inl d
      signals_of (inr n) p =
          inr (ap (controls (first_operand x.command)) of
          ∙ second_fails (is_code Code.SignalPassed (code_of (code_byte x.command))) (controls (first_operand x.command) category) p n)

      by : (t : Bool) → Lived
          (cond (t && (is_state State.HS stm.control.state || is_state State.DA stm.control.state)) (moved_of x.command) 0)
          (record_at place stm)
          (cond t (record_in stm.control.state (reading_of (operands_of x.command)) stm (record_at place stm)) (record_at place stm))
      by true = lived_in (record_at place stm) held stm.control.state (reading_of (operands_of x.command)) stm settled
      by false = lived_not (record_at place stm) held settled
  one_lived stm x false e held same of settled spares = rw (after_other stm x e) (lived_not (record_at place stm) held settled)

  over_lived : (test : Stm → List ℕ → Bool) (stm : Stm) (xs : List Sent)
      → (record_at place stm).curve.held ≡ true → (record_at place stm).curve.id ≡ id → category_number (record_at place stm).category ≡ category
      → Settled (record_at place stm)
      → ((before : Stm) (command : List ℕ) (condition : Condition) → ((row_number (record_at place stm).condition ≡ 0 → ⊥) → row_number condition ≡ 0 → ⊥)
      → test before command ≡ false → Spares id category command condition)
      → none_accepted test stm xs ≡ true
      → Lived (ground_over stm xs) (record_at place stm) (record_at place (state_at_end stm xs))
  unfolding collected state_at_end
  over_lived test stm [] held same of settled spares n = lived_not (record_at place stm) held settled
  over_lived test stm (x ∷ xs) held same of settled spares n =
      let t = spared_first test stm x xs n in
      let first = one_lived stm x (is_accepted (answer_to stm x)) refl held same of settled
      (λ a. spares stm x.command (record_at place stm).condition (λ d. d) (t.0 a)) in
      let rest = over_lived test (state_after stm x) xs first.lost.held (first.lost.id ∙ same) (ap category_number first.category ∙ of)
      (settled_on first)
      (λ before command condition h. spares before command condition
      (λ d. h (λ z. d (row_back (record_at place stm) (record_at place (state_after stm x)) first d z)))) t.1 in
      subst (λ covered. Lived covered (record_at place stm) (record_at place (state_at_end (state_after stm x) xs))) (sym (ground_step stm x xs))
      (lived_both first rest)
    where
      row_back : {covered : ℕ} (a b : EtRecord) → Lived covered a b → (row_number a.condition ≡ 0 → ⊥) → row_number b.condition ≡ 0
          → row_number a.condition ≡ 0
      row_back {covered} a b lived d z = sym (ap row_number (lived.condition ∙ covered_decided covered a.condition d)) ∙ z

pub decided_stays_over : DecidedStaysOver
decided_stays_over stm xs place held d n =
    let et = record_at place stm in
    let p = over_lived et.curve.id (category_number et.category) place (λ before command. touches_record et.curve.id command) stm xs held
    refl refl (covered_decided 0 et.condition d)
    (λ before command condition h t. record { touches = t; signals = inl (h d) }) n in
    (p.lost, p.category, p.condition ∙ covered_decided (ground_over stm xs) et.condition d)

pub undecided_until : UndecidedUntil
undecided_until stm xs place covered held is below n =
    let et = record_at place stm in
    let settled : Settled et = rw is (rw (add-zero covered, lt-leb 10000 covered below)) in
    let p = over_lived et.curve.id (category_number et.category) place
    (λ before command. touches_record et.curve.id command || controls_record (category_number et.category) command) stm xs held refl refl settled
    (λ before command condition h t.
    let u = neither (touches_record et.curve.id command) (controls_record (category_number et.category) command) t in
    record { touches = u.0; signals = inr u.1 }) n in
    let after = p.condition ∙ ap (covered_by (ground_over stm xs)) is in (
      p.lost,
      p.category,
      λ h. after ∙ ap (λ t. cond t Condition.Locked (Condition.Undecided (covered + ground_over stm xs))) (lt-leb 10000 (covered + ground_over stm xs) h),
      λ h. ap row_number (after
          ∙ ap (λ t. cond t Condition.Locked (Condition.Undecided (covered + ground_over stm xs))) (le-leb 10000 (covered + ground_over stm xs) h)),
    )

-- ---- free places

-- A notes nothing
not_noted : (curve : Curve) → noted_at curve Interval.A ≡ curve
not_noted curve =
    ap (λ past. record {
      held = curve.held;
      id = curve.id;
      kind = curve.kind;
      distance = curve.distance;
      speed = curve.speed;
      gradient = curve.gradient;
      past = past;
    }) (or-false curve.past)

free_noted_record : (r : Reading) (stm : Stm) (et : EtRecord) → et.curve.held ≡ false → noted_for r stm et ≡ et
free_noted_record r stm et h =
    ap (λ t. with_curve et (noted_at et.curve (cond t (judged_of (braking_of stm.train r.halka) r.speed (as_curve et)) none_judged).interval))
    (ap (◌&& is_effective et.condition) h)
    ∙ ap (with_curve et) (not_noted et.curve)

free_in : (state : State) (r : Reading) (stm : Stm) (et : EtRecord) → et.curve.held ≡ false → record_in state r stm et ≡ et
free_in State.DE r stm et h = refl
free_in State.CS r stm et h = refl
free_in State.HS r stm et h = unmoved_record r.moved et h
free_in State.DA r stm et h = ap (noted_for r stm) (unmoved_record r.moved et h) ∙ free_noted_record r stm et h
free_in State.FA r stm et h = refl

free_by : (code : Code) (s : List ℕ) (stm : Stm) (place : ℕ) → (record_at place stm).curve.held ≡ false
    → (is_code Code.Start code || is_code Code.ChangeState code && is_state State.CS (state_of (byte_at s 0))) ≡ false
    → is_code Code.NewRecord code ≡ false → record_by code s stm place ≡ record_at place stm
free_by Code.Start s stm place h f n = impossible (sym f)
free_by Code.ChangeState s stm place h f n = entered_other (state_of (byte_at s 0)) (record_at place stm) f
free_by Code.Odometer s stm place h f n = free_in stm.control.state (reading_of s) stm (record_at place stm) h
free_by Code.NewCurve s stm place h f n = refl
free_by Code.EndCurve s stm place h f n = refl
free_by Code.NewSection s stm place h f n = refl
free_by Code.EndSection s stm place h f n = refl
free_by Code.StopPassed s stm place h f n = refl
free_by Code.Proceed s stm place h f n = refl
free_by Code.BaliseError s stm place h f n = refl
free_by Code.TestBrakes s stm place h f n = refl
free_by Code.AreaEvent s stm place h f n = refl
free_by Code.NewRecord s stm place h f n = impossible (sym n)
free_by Code.SignalPassed s stm place h f n = (free_place_stays [] (signal_in s) (route_in s) (record_at place stm) h).1
free_by Code.EndRecord s stm place h f n =
    ap (λ t. cond (t && eqb (record_at place stm).curve.id (byte_at s 0)) free_record (record_at place stm)) h

pub free_records_stay : FreeRecordsStay
free_records_stay stm xs place =
    over (record_at place) (λ et. et.curve.held) (λ before command. freshens command || is_of Code.NewRecord command) one stm xs
  where
    one : (stm : Stm) (x : Sent) → is_accepted (answer_to stm x) ≡ true → (freshens x.command || is_of Code.NewRecord x.command) ≡ false
        → (record_at place stm).curve.held ≡ false → record_at place (state_after stm x) ≡ record_at place stm
    one stm x e n free =
        let t = neither (freshens x.command) (is_of Code.NewRecord x.command) n in
        let code = code_of (code_byte x.command) in
        record_after stm x code e refl place ∙ free_by code (operands_of x.command) stm place free t.0 t.1
