-- The brake checks over a list of commands: one law for both, over the order, the check and its limit. Assumes nothing.
use mathlib.Core.Path.{◌≡◌, refl, sym, ◌∙◌, ap, ap₂}
use Prim.Native.Nat.{ℕ, suc, ◌+◌, ◌≤◌, ◌<◌}
use native.Mathlib.Omega.{arith}
use native.Mathlib.Nat.{add-zero, zero-add}
use native.Mathlib.Decide.{dec_le}
use mathlib.Core.Bool.{Bool, true, false, cond, not, ◌&&◌, ◌||◌, or-false, or-true, and-false, and_comm, false≢true}
use mathlib.Core.List.{List, [], ◌∷◌}
use lib.Dec.{eqb}
use lib.ListN.{length}
use borrow.Author.Tests.{le-leb, lt-leb, ne_eqb}
use Rattle.wire.specs.Numbers.{byte_at}
use Rattle.rules.specs.Numbers.{code_of, is_accepted}
use Rattle.rules.specs.Operands.{code_byte}
use Rattle.rules.specs.Places.{any_of}
use Rattle.rules.specs.Table.{stands, no_causes, any_stands, stands_with}
use Rattle.rules.specs.Checks.{is_drop, begins, counted_on, fails_now, checked_at, fails_at, checked_by}
use Rattle.rules.specs.Releases.{fresh_brakes, service_fails, emergency_fails, brakes_by}
use Rattle.rules.specs.Odometer.{with_extra}
use Rattle.rules.specs.Runs.{Sent, answer_to, state_after, state_at_end, is_of, orders_cs, freshens}
use Rattle.rules.specs.History.{is_supervised, collected, stands_through}
use Rattle.rules.specs.Braking.{measured_at, ordered_now}
use Rattle.rules.specs.Timers.{is_ordered, is_emergency, has_drop, drops_over, fails_with, ServiceFaultAtLimit, EmergencyFaultAtLimit, NoFaultWithoutOrder, DriftIsShown, FaultsStay}
use Rattle.rules.specs.declared.Code.{Code}
use Rattle.rules.specs.declared.Cause.{Cause}
use Rattle.rules.specs.declared.Causes.{Causes}
use Rattle.rules.specs.declared.Check.{Check}
use Rattle.rules.specs.declared.Brakes.{Brakes}
use Rattle.rules.specs.declared.Train.{Train}
use Rattle.rules.specs.declared.Order.{Order}
use Rattle.rules.specs.declared.Stm.{Stm}
use Rattle.rules.proofs.Answers.{after_other}
use Rattle.laws.proofs.Lists.{not_true_false}
use Rattle.wire.specs.Form.{operands_of}
use Rattle.rules.proofs.Tests.{both, neither}
use Rattle.rules.proofs.Ordering.{brakes_after, added_at, fresh_brakes_lem, ByOther, unchanged, orders, brakes_by_other}
use Rattle.rules.proofs.Readings.{train_once}
use Rattle.rules.proofs.Checked.{ordered_is, emergency_is, drop_is, failed_after, fa_after, drift_in_da, drift_in_fa, service_after, emergency_after, added_stands, added_emergency_stands, other_check}
use Rattle.rules.proofs.Claims.{at_limit}

-- ---- one check and the drops that come

-- a check after reports, of each of which it is told whether it brings the drop
abbrev counted_all : ℕ → Check → List Bool → Check
counted_all limit check [] = check
counted_all limit check (drop ∷ drops) = counted_all limit (counted_on limit drop check) drops

-- once done it is done
done_stays : (limit : ℕ) (drops : List Bool) → counted_all limit Check.Done drops ≡ Check.Done
done_stays limit [] = refl
done_stays limit (drop ∷ drops) = done_stays limit drops

done_passes : (limit : ℕ) (drops : List Bool) (now : Bool) → fails_now limit now (counted_all limit Check.Done drops) ≡ false
done_passes limit drops now = ap (fails_now limit now) (done_stays limit drops)

-- it fails at the report whose number is the limit, where neither it nor one before it brings the drop
abbrev fails_from : ℕ → ℕ → List Bool → Bool → Bool
fails_from limit count drops now = eqb (count + length drops + 1) limit && not (now || any_of (λ drop. drop) drops)

counted_fails : (limit count : ℕ) (drops : List Bool) (now : Bool) → count < limit
    → fails_now limit now (counted_all limit (Check.Counting count) drops) ≡ fails_from limit count drops now
unfolding any_of
counted_fails limit count [] now h =
    rw (add-zero count, at_limit limit count h, or-false now) (and_comm (not now) (eqb (count + 1) limit))
counted_fails limit count (true ∷ drops) now h = rw (or-true now, and-false) (done_passes limit drops now)
counted_fails limit count (false ∷ drops) now h =
    elim (dec_le limit (count + 1)) [
      | yes l ↦
          rw (le-leb limit (count + 1) l, ne_eqb (count + suc (length drops) + 1) limit (λ same. omega (arith, l, same)))
          (done_passes limit drops now)
      | no l ↦
          let sums : count + 1 + length drops + 1 ≡ count + suc (length drops) + 1 = omega arith in
          rw (lt-leb limit (count + 1) (omega (arith, l)))
          (counted_fails limit (count + 1) drops now (omega (arith, l))
          ∙ ap (λ n. eqb n limit && not (now || any_of (λ drop. drop) drops)) sums)
    ]

-- ---- a check of the unit

-- the order that begins it, the check, and its limit
pub record IsCheck (ordered : Stm → Bool) (check : Stm → Check) (limit : Stm → ℕ) : Type 0 where
  -- where the order begins, it counts from 0
  pub starts :
      (stm : Stm) (x : Sent) → is_accepted (answer_to stm x) ≡ true → ordered stm ≡ false → ordered (state_after stm x) ≡ true
      → check (state_after stm x) ≡ Check.Counting 0
  -- while it stands a report in DA counts on, and no other command does
  pub counts :
      (stm : Stm) (x : Sent) → is_accepted (answer_to stm x) ≡ true → is_supervised stm x.command ≡ true
      → ordered stm ≡ true → ordered (state_after stm x) ≡ true
      → check (state_after stm x) ≡ counted_on (limit stm) (has_drop (state_after stm x)) (check stm)
  pub waits :
      (stm : Stm) (x : Sent) → is_accepted (answer_to stm x) ≡ true → is_supervised stm x.command ≡ false
      → ordered stm ≡ true → ordered (state_after stm x) ≡ true → check (state_after stm x) ≡ check stm
  pub limited :
      (stm : Stm) (x : Sent) → is_accepted (answer_to stm x) ≡ true → ordered (state_after stm x) ≡ true
      → limit (state_after stm x) ≡ limit stm

module _ {ordered : Stm → Bool} {check : Stm → Check} {limit : Stm → ℕ} (is : IsCheck ordered check limit) where
  -- one command
  once : (stm : Stm) (x : Sent) (accepted supervised : Bool) → is_accepted (answer_to stm x) ≡ accepted
      → is_supervised stm x.command ≡ supervised → ordered stm ≡ true → ordered (state_after stm x) ≡ true
      → (check (state_after stm x)
      ≡ cond (accepted && supervised) (counted_on (limit stm) (has_drop (state_after stm x)) (check stm)) (check stm))
      × (limit (state_after stm x) ≡ limit stm)
  once stm x true true e u stood stands = (is.counts stm x e u stood stands, is.limited stm x e stands)
  once stm x true false e u stood stands = (is.waits stm x e u stood stands, is.limited stm x e stands)
  once stm x false supervised e u stood stands = (ap check (after_other stm x e), ap limit (after_other stm x e))

  -- one drop told more, or none
  told_more : (most : ℕ) (now : Check) (t drop : Bool) (drops : List Bool)
      → counted_all most (cond t (counted_on most drop now) now) drops ≡ counted_all most now (cond t (drop ∷ drops) drops)
  told_more most now true drop drops = refl
  told_more most now false drop drops = refl

  stands_first : (stm : Stm) (xs : List Sent) → stands_through ordered stm xs ≡ true → ordered stm ≡ true
  unfolding stands_through
  stands_first stm [] h = h
  stands_first stm (x ∷ xs) h = (both (ordered stm) (stands_through ordered (state_after stm x) xs) h).0

  over : (stm : Stm) (xs : List Sent) → stands_through ordered stm xs ≡ true
      → (check (state_at_end stm xs) ≡ counted_all (limit stm) (check stm) (drops_over stm xs))
      × (limit (state_at_end stm xs) ≡ limit stm) × (ordered (state_at_end stm xs) ≡ true)
  unfolding stands_through state_at_end collected
  over stm [] h = (refl, refl, h)
  over stm (x ∷ xs) h =
      let t = both (ordered stm) (stands_through ordered (state_after stm x) xs) h in
      let accepted = is_accepted (answer_to stm x) in
      let supervised = is_supervised stm x.command in
      let first = once stm x accepted supervised refl refl t.0 (stands_first (state_after stm x) xs t.1) in
      let rest = over (state_after stm x) xs t.1 in (
        rest.0
            ∙ ap₂ (λ most now. counted_all most now (drops_over (state_after stm x) xs)) first.1 first.0
            ∙ told_more (limit stm) (check stm) (accepted && supervised) (has_drop (state_after stm x)) (drops_over (state_after stm x) xs),
        rest.1 ∙ first.1,
        rest.2,
      )

  -- from the beginning of its order on, by the drops that have come
  pub fails_at_limit : (stm : Stm) (x : Sent) (ys : List Sent) (now : Bool) → is_accepted (answer_to stm x) ≡ true → ordered stm ≡ false
      → stands_through ordered (state_after stm x) ys ≡ true
      → let last = state_at_end (state_after stm x) ys in
      1 ≤ limit last
      → fails_now (limit last) now (check last) ≡ fails_with (limit last) (drops_over (state_after stm x) ys) now
  fails_at_limit stm x ys now e away through h =
      let last = state_at_end (state_after stm x) ys in
      let drops = drops_over (state_after stm x) ys in
      let t = over (state_after stm x) ys through in
      let begun = is.starts stm x e away (stands_first (state_after stm x) ys through) in
      let counted = t.0 ∙ ap₂ (λ most now. counted_all most now drops) (sym t.1) begun in
      ap (fails_now (limit last) now) counted
      ∙ counted_fails (limit last) 0 drops now h
      ∙ ap (λ n. eqb (n + 1) (limit last) && not (now || any_of (λ drop. drop) drops)) (zero-add (length drops))

-- ---- the two checks

-- a start and CS leave no order
no_order_fresh : (stm : Stm) (x : Sent) → is_accepted (answer_to stm x) ≡ true → freshens x.command ≡ true
    → (is_ordered (state_after stm x) ≡ false) × (is_emergency (state_after stm x) ≡ false)
unfolding fresh_brakes no_causes
no_order_fresh stm x e f = let b = brakes_after stm x e ∙ fresh_brakes_lem stm x.command f in (rw b, rw b)

-- an order, told by the causes that stand; its check and its limit, in which the extra of a brake test has no part
record Checks (ordered : Stm → Bool) (standing : Causes → Bool) (check : Brakes → Check) (limit : Train → ℕ) : Type 0 where
  told : (stm : Stm) → standing stm.brakes.causes ≡ ordered stm
  unordered : (stm : Stm) (x : Sent) → is_accepted (answer_to stm x) ≡ true → freshens x.command ≡ true
      → ordered (state_after stm x) ≡ false
  reported : (stm : Stm) (x : Sent) (e : is_accepted (answer_to stm x) ≡ true) (u : is_supervised stm x.command ≡ true)
      → standing (state_after stm x).brakes.causes ≡ true
      → (standing (added_at stm x.command).brakes.causes ≡ true)
      × (check (state_after stm x).brakes
      ≡ checked_at (standing stm.brakes.causes) (standing (added_at stm x.command).brakes.causes) (limit stm.train)
      (is_drop (measured_at stm x.command).feedback) (check stm.brakes))
  apart : (train : Train) (extra : ℕ) → limit (with_extra train extra) ≡ limit train
  by : (code : Code) (which v : ℕ) (b : Brakes)
      → check (brakes_by code which v b) ≡ checked_by (standing b.causes) (standing (brakes_by code which v b).causes) (check b)

module _ {ordered : Stm → Bool} {standing : Causes → Bool} {check : Brakes → Check} {limit : Train → ℕ}
    (c : Checks ordered standing check limit) where
  -- a command after which the order stands is no start and not CS
  unfresh : (stm : Stm) (x : Sent) → is_accepted (answer_to stm x) ≡ true → ordered (state_after stm x) ≡ true
      → freshens x.command ≡ false
  unfresh stm x e stands = not_true_false (freshens x.command) (λ f. false≢true (sym (c.unordered stm x e f) ∙ stands))

  starts_at : (stm : Stm) (x : Sent) (supervised : Bool) → is_accepted (answer_to stm x) ≡ true
      → is_supervised stm x.command ≡ supervised → ordered stm ≡ false → ordered (state_after stm x) ≡ true
      → check (state_after stm x).brakes ≡ Check.Counting 0
  unfolding checked_at
  starts_at stm x true e u away stands =
      let r = c.reported stm x e u (c.told (state_after stm x) ∙ stands) in
      r.1 ∙ ap₂ (λ s t. cond s (counted_on (limit stm.train) (is_drop (measured_at stm x.command).feedback) (check stm.brakes))
      (cond t begins Check.Idle)) (c.told stm ∙ away) r.0
  starts_at stm x false e u away stands =
      (other_check (code_of (code_byte x.command)) (byte_at (operands_of x.command) 0) stm.brakes (state_after stm x).brakes check
      standing (c.by _ _) (brakes_by_other stm x e u (unfresh stm x e stands))).1
      (c.told stm ∙ away) (c.told (state_after stm x) ∙ stands)

  is_check : IsCheck ordered (λ s. check s.brakes) (λ s. limit s.train)
  unfolding checked_at
  is_check = record {
    starts = λ stm x e away stands. starts_at stm x (is_supervised stm x.command) e refl away stands;
    counts = λ stm x e u stood stands.
        (c.reported stm x e u (c.told (state_after stm x) ∙ stands)).1
        ∙ ap (λ s. checked_at s (standing (added_at stm x.command).brakes.causes) (limit stm.train)
        (is_drop (measured_at stm x.command).feedback) (check stm.brakes)) (c.told stm ∙ stood)
        ∙ ap (λ drop. counted_on (limit stm.train) drop (check stm.brakes)) (drop_is stm x e u);
    waits = λ stm x e u stood stands.
        (other_check (code_of (code_byte x.command)) (byte_at (operands_of x.command) 0) stm.brakes (state_after stm x).brakes check
        standing (c.by _ _) (brakes_by_other stm x e u (unfresh stm x e stands))).0 (c.told stm ∙ stood);
    limited = λ stm x e stands.
        let start = (neither (is_of Code.Start x.command) (orders_cs x.command) (unfresh stm x e stands)).0 in
        ap limit (train_once stm x true e (λ _. start)) ∙ c.apart stm.train _;
  }

service_checks : Checks is_ordered any_stands (λ b. b.service) (λ train. train.times.brake)
unfolding brakes_by
service_checks = record {
  told = ordered_is;
  unordered = λ stm x e f. (no_order_fresh stm x e f).0;
  reported = λ stm x e u stands. (added_stands stm x e u stands, service_after stm x e u stands);
  apart = λ train extra. refl;
  by = λ code which v b. refl;
}

emergency_checks : Checks is_emergency (stands_with Order.Emergency) (λ b. b.emergency) (λ train. train.check)
unfolding brakes_by
emergency_checks = record {
  told = emergency_is;
  unordered = λ stm x e f. (no_order_fresh stm x e f).1;
  reported = λ stm x e u stands. (added_emergency_stands stm x e u stands, emergency_after stm x e u stands);
  apart = λ train extra. refl;
  by = λ code which v b. refl;
}

-- ---- what they lead to

module _ (stm : Stm) (x : Sent) (e : is_accepted (answer_to stm x) ≡ true) (u : is_supervised stm x.command ≡ true) where
  abbrev has_now : Bool
  has_now = has_drop (state_after stm x)

  -- bit 11 is ordered where its check fails,
  ordered_fault : ordered_now stm x.command Cause.ServiceFault
      ≡ service_fails stm.train (is_drop (measured_at stm x.command).feedback) stm.brakes
  unfolding ordered_now
  ordered_fault = refl

  service_judged : ordered_now stm x.command Cause.ServiceFault
      ≡ (is_ordered stm && fails_now stm.train.times.brake has_now stm.brakes.service)
  unfolding service_fails fails_at
  service_judged =
      ordered_fault
      ∙ ap₂ (λ s drop. s && fails_now stm.train.times.brake drop stm.brakes.service) (ordered_is stm) (drop_is stm x e u)

  -- and NÖDBROMSFEL is shown where the other does
  failed_judged : (state_after stm x).brakes.failed
      ≡ (stm.brakes.failed || is_emergency stm && fails_now stm.train.check has_now stm.brakes.emergency)
  unfolding emergency_fails fails_at
  failed_judged =
      failed_after stm x e u
      ∙ ap₂ (λ s drop. stm.brakes.failed || s && fails_now stm.train.check drop stm.brakes.emergency) (emergency_is stm)
      (drop_is stm x e u)

pub service_fault_at_limit : ServiceFaultAtLimit
service_fault_at_limit stm x ys z s h =
    let last = state_at_end (state_after stm x) ys in
    let check = is_check service_checks in
    service_judged last z s.report s.supervised
    ∙ ap (λ t. t && fails_now last.train.times.brake (has_drop (state_after last z)) last.brakes.service)
    (over check (state_after stm x) ys s.through).2
    ∙ fails_at_limit check stm x ys (has_drop (state_after last z)) s.accepted s.before s.through h

pub emergency_fault_at_limit : EmergencyFaultAtLimit
emergency_fault_at_limit stm x ys z s h sound =
    let last = state_at_end (state_after stm x) ys in
    let check = is_check emergency_checks in
    let now = has_drop (state_after last z) in
    let failed =
    failed_judged last z s.report s.supervised
    ∙ ap₂ (λ f t. f || t && fails_now last.train.check now last.brakes.emergency) sound
    (over check (state_after stm x) ys s.through).2
    ∙ fails_at_limit check stm x ys now s.accepted s.before s.through h in
    (failed, fa_after last z s.report s.supervised ∙ failed)

pub no_fault_without_order : NoFaultWithoutOrder
no_fault_without_order stm x e u = (
  λ away. rw (service_judged stm x e u, away),
  λ away. rw (failed_judged stm x e u, away, or-false stm.brakes.failed),
)

pub drift_is_shown : DriftIsShown
drift_is_shown stm x e = (
  λ u d. rw (drift_in_da stm x e u d, ordered_is (state_after stm x), ordered_fault stm x e u),
  λ u d. rw (drift_in_fa stm x e u d, ordered_fault stm x e u),
)

faults_by : (code : Code) (which : ℕ) (before after : Brakes) → ByOther code which before after
    → (after.drift ≡ before.drift) × (after.failed ≡ before.failed)
unfolding brakes_by
faults_by code which before after (unchanged none e) = (ap (λ b. b.drift) e, ap (λ b. b.failed) e)
faults_by code which before after (orders v e) = (ap (λ b. b.drift) e, ap (λ b. b.failed) e)

pub faults_stay : FaultsStay
faults_stay stm x e u f = faults_by _ _ stm.brakes (state_after stm x).brakes (brakes_by_other stm x e u f)
