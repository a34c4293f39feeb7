-- Bit 9 over a list of commands: how it is held, and what goes by it. Assumes nothing.
use mathlib.Core.Path.{◌≡◌, refl, sym, ◌∙◌, ap, ap₂, subst}
use Prim.Native.Nat.{ℕ, zero, suc, ◌+◌, ◌*◌, ◌≤◌, ◌<◌, min}
use native.Mathlib.Nat.{zero-add}
use native.Mathlib.Omega.{arith}
use native.Mathlib.Decide.{dec_le}
use mathlib.Core.Bool.{Bool, true, false, cond, not, ◌&&◌, ◌||◌, and-false, or-true}
use mathlib.Core.Logic.{inl, inr}
use mathlib.Core.List.{List, [], ◌∷◌}
use lib.Dec.{eqb, leb}
use lib.ListN.{length}
use borrow.Author.Tests.{eqb-true, le-leb, lt-leb, leb-false, not-true}
use Rattle.laws.proofs.Lists.{not_true_false}
use Rattle.wire.specs.Numbers.{byte_at}
use Rattle.wire.specs.Form.{operands_of}
use Rattle.wire.specs.Report.{offered_in}
use Rattle.rules.specs.Numbers.{code_of, is_state, is_accepted, bit_number}
use Rattle.rules.specs.Operands.{code_byte, reading_of, bit_of}
use Rattle.rules.specs.Hold.{decided_at, held_on, is_unheld}
use Rattle.rules.specs.Table.{stands, is_releasable}
use Rattle.rules.specs.Releases.{fresh_brakes, since_at, noted_brakes, since_by, brakes_by}
use Rattle.rules.specs.Odometer.{seen_with, seen_of, seen_in, moves, measures, notes}
use Rattle.rules.specs.Reports.{report_of}
use Rattle.rules.specs.Runs.{Sent, answer_to, state_after, state_at_end, none_accepted, is_of, freshens}
use Rattle.rules.specs.History.{Tells, speed_of, is_in, is_supervised, collected}
use Rattle.rules.specs.Braking.{reading_in, measured_at, seen_at, ordered_now, releasable_now, freshly_pressed}
use Rattle.rules.specs.Columns.{IsLow, UnheldWhen, FreedWhen}
use Rattle.rules.specs.BaliseErrors.{resets_hold, Reported, IsHigh, reports_over, BaliseStands, Presses, HoldEnded, StandsAlone}
use Rattle.rules.specs.BaliseErrors.{LowErrorHolds, LowErrorEnds, HighErrorGoesBySpeed, ServiceFaultWaits, OfferFollowsError}
use Rattle.rules.specs.BaliseErrors.{ReportsInDACount, NothingDecidedBefore, HighErrorCountsNothing}
use Rattle.rules.specs.declared.Code.{Code}
use Rattle.rules.specs.declared.State.{State}
use Rattle.rules.specs.declared.Cause.{Cause}
use Rattle.rules.specs.declared.Hold.{Hold}
use Rattle.rules.specs.declared.Brakes.{Brakes}
use Rattle.rules.specs.declared.Stm.{Stm}
use Rattle.rules.proofs.Answers.{after_other}
use Rattle.rules.proofs.Tests.{impossible, both, and_both, neither, either}
use Rattle.rules.proofs.Told.{code_is}
use Rattle.rules.proofs.Ordering.{brakes_after, stands_added, since_after, since_seen, ByOther, unchanged, orders, brakes_by_other, ordered_and_released, fresh_brakes_lem}
use Rattle.rules.proofs.Standing.{kept_to_end, is_released, stays}
use Rattle.rules.proofs.Ground.{spared_first}
use Rattle.rules.proofs.Checked.{fa_after, fa_else}
use Rattle.rules.proofs.Columns.{releasable_at_report}
use Rattle.rules.proofs.Written.{report_kept, offered_in_da, offered_outside, report_at_end}
use Rattle.rules.proofs.Stops.{bit_tells}

-- ---- the hold after one accepted command

abbrev hold_in : Stm → Hold
hold_in stm = stm.brakes.since.balise

module _ (stm : Stm) (x : Sent) (e : is_accepted (answer_to stm x) ≡ true) where
  -- a report in DA counts,
  hold_report : is_supervised stm x.command ≡ true → hold_in (state_after stm x) ≡ held_on (hold_in stm)
  unfolding since_at
  hold_report u = ap (λ since. since.balise) (since_after stm x e u ∙ since_seen stm x.command)

  -- another command leaves it,
  hold_by_lem : (after : Brakes) → ByOther (code_of (code_byte x.command)) (byte_at (operands_of x.command) 0) stm.brakes after
      → is_of Code.BaliseError x.command ≡ false → after.since.balise ≡ hold_in stm
  unfolding brakes_by since_by
  hold_by_lem after (unchanged none same) n = ap (λ b. b.since.balise) same
  hold_by_lem after (orders v same) n = rw (same, n)

  -- and an error resetsHold it, with bit 9
  module _ (c : is_of Code.BaliseError x.command ≡ true) where
    error_brakes : (state_after stm x).brakes ≡ brakes_by Code.BaliseError 0 stm.kept.speed stm.brakes
    error_brakes = rw (brakes_after stm x e, code_is Code.BaliseError (code_of (code_byte x.command)) c)

    hold_error : hold_in (state_after stm x) ≡ decided_at stm.kept.speed
    unfolding brakes_by since_by
    hold_error = ap (λ b. b.since.balise) error_brakes

    stands_error : BaliseStands (state_after stm x)
    unfolding brakes_by
    stands_error = rw (error_brakes, stands_added, or-true)

-- ---- the hold over a list

hold_once : (stm : Stm) (x : Sent) (accepted supervised : Bool) → is_accepted (answer_to stm x) ≡ accepted
    → is_supervised stm x.command ≡ supervised → (accepted ≡ true → resets_hold stm x.command ≡ false)
    → hold_in (state_after stm x) ≡ cond (accepted && supervised) (held_on (hold_in stm)) (hold_in stm)
hold_once stm x true true e u n = hold_report stm x e u
hold_once stm x true false e u n =
    let t = neither (freshens x.command) (is_of Code.BaliseError x.command) (n refl) in
    hold_by_lem stm x e (state_after stm x).brakes (brakes_by_other stm x e u t.0) t.1
hold_once stm x false supervised e u n = ap hold_in (after_other stm x e)

-- after so many reports in DA
abbrev held_for : ℕ → Hold → Hold
held_for zero hold = hold
held_for (suc n) hold = held_for n (held_on hold)

-- one more, or none
held_more : (t : Bool) (hold : Hold) (x : Sent) (xs : List Sent)
    → held_for (length xs) (cond t (held_on hold) hold) ≡ held_for (length (cond t (x ∷ xs) xs)) hold
held_more true hold x xs = refl
held_more false hold x xs = refl

hold_over : (stm : Stm) (xs : List Sent) → none_accepted resets_hold stm xs ≡ true
    → hold_in (state_at_end stm xs) ≡ held_for (reports_over stm xs) (hold_in stm)
unfolding state_at_end collected
hold_over stm [] n = refl
hold_over stm (x ∷ xs) n =
    let accepted = is_accepted (answer_to stm x) in
    let supervised = is_supervised stm x.command in
    let t = spared_first resets_hold stm x xs n in
    hold_over (state_after stm x) xs t.1
    ∙ ap (held_for (reports_over (state_after stm x) xs)) (hold_once stm x accepted supervised refl refl t.0)
    ∙ held_more (accepted && supervised) (hold_in stm) x (collected is_supervised (λ before y. y) (state_after stm x) xs)

low_for : (n count : ℕ) → count ≤ 20 → held_for n (Hold.Low count) ≡ Hold.Low (min 20 (count + n))
low_for zero count h = let same : count ≡ min 20 (count + 0) = omega (arith, h) in ap Hold.Low same
low_for (suc n) count h =
    let same : min 20 (min 20 (count + 1) + n) ≡ min 20 (count + suc n) = omega arith in
    let room : min 20 (count + 1) ≤ 20 = omega arith in
    low_for n (min 20 (count + 1)) room ∙ ap Hold.Low same

high_for : (n : ℕ) → held_for n Hold.High ≡ Hold.High
high_for zero = refl
high_for (suc n) = high_for n

decided_low : (v : ℕ) → IsLow v → decided_at v ≡ Hold.Low 0
decided_low v low = rw (le-leb (9 * v) (250 * 80) low)

decided_high : (v : ℕ) → IsHigh v → decided_at v ≡ Hold.High
decided_high v high = rw (lt-leb (9 * v) (250 * 80) high)

pub reports_in_da_count : ReportsInDACount
reports_in_da_count stm xs count is h n =
    hold_over stm xs n ∙ ap (held_for (reports_over stm xs)) is ∙ low_for (reports_over stm xs) count h

-- before an error
fresh_undecided : (stm : Stm) (x : Sent) → is_accepted (answer_to stm x) ≡ true → freshens x.command ≡ true
    → hold_in (state_after stm x) ≡ Hold.Undecided
unfolding fresh_brakes
fresh_undecided stm x e f = ap (λ b. b.since.balise) (brakes_after stm x e ∙ fresh_brakes_lem stm x.command f)

undecided_on : (t : Bool) → cond t (held_on Hold.Undecided) Hold.Undecided ≡ Hold.Undecided
undecided_on true = refl
undecided_on false = refl

undecided_once : (stm : Stm) (x : Sent) (fresh : Bool) → is_accepted (answer_to stm x) ≡ true → freshens x.command ≡ fresh
    → is_of Code.BaliseError x.command ≡ false → hold_in stm ≡ Hold.Undecided → hold_in (state_after stm x) ≡ Hold.Undecided
undecided_once stm x true e f n is = fresh_undecided stm x e f
undecided_once stm x false e f n is =
    let supervised = is_supervised stm x.command in
    hold_once stm x true supervised e refl (λ _. ap₂ ◌||◌ f n)
    ∙ ap (λ hold. cond supervised (held_on hold) hold) is
    ∙ undecided_on supervised

pub nothing_decided_before : NothingDecidedBefore
nothing_decided_before stm xs is n =
    let error : Stm → List ℕ → Bool = λ before command. is_of Code.BaliseError command in
    kept_to_end (λ s. hold_in s ≡ Hold.Undecided) error error
    (λ s x e m _ is. undecided_once s x (freshens x.command) e refl m is) stm xs n n is

-- after an error
module _ (stm : Stm) (x : Sent) (ys : List Sent) (r : Reported stm x ys) where
  abbrev last : Stm
  last = state_at_end (state_after stm x) ys

  abbrev reports : ℕ
  reports = reports_over (state_after stm x) ys

  hold_last : hold_in last ≡ held_for reports (decided_at stm.kept.speed)
  hold_last = hold_over (state_after stm x) ys r.last ∙ ap (held_for reports) (hold_error stm x r.accepted r.error)

  low_last : IsLow stm.kept.speed → hold_in last ≡ Hold.Low (min 20 reports)
  low_last low =
      hold_last
      ∙ ap (held_for reports) (decided_low stm.kept.speed low)
      ∙ low_for reports 0 (omega arith)
      ∙ ap (λ n. Hold.Low (min 20 n)) (zero-add reports)

  high_last : IsHigh stm.kept.speed → hold_in last ≡ Hold.High
  high_last high = hold_last ∙ ap (held_for reports) (decided_high stm.kept.speed high) ∙ high_for reports

pub high_error_counts_nothing : HighErrorCountsNothing
high_error_counts_nothing stm x ys r high = high_last stm x ys r high

-- ---- a report in DA releases bit 9 where the hold has ended

releasable_is : (stm : Stm) (command : List ℕ)
    → releasable_now stm command Cause.BaliseFault ≡ is_unheld (held_on (hold_in stm)) (speed_of command)
unfolding releasable_now is_releasable seen_at seen_in seen_of seen_with measured_at notes measures moves noted_brakes since_at reading_of
releasable_is stm command = refl

unreleased : (stm : Stm) (command : List ℕ) (count : ℕ) → hold_in stm ≡ Hold.Low count → count + 1 < 20
    → is_released stm command Cause.BaliseFault ≡ false
unreleased stm command count is h =
    let room : min 20 (count + 1) < 20 = omega (arith, h) in
    rw (releasable_is, is, lt-leb 20 (min 20 (count + 1)) room, and-false)

-- ---- until then it stands

-- it stands with the hold at a count that further reports do not bring to 20
record StillHeld (stm : Stm) (further : ℕ) : Type 0 where
  stood : BaliseStands stm
  count : ℕ
  is : hold_in stm ≡ Hold.Low count
  room : count + further < 20

still_once : (stm : Stm) (x : Sent) (xs : List Sent) (accepted supervised : Bool) → is_accepted (answer_to stm x) ≡ accepted
    → is_supervised stm x.command ≡ supervised → (accepted ≡ true → resets_hold stm x.command ≡ false)
    → StillHeld stm (length (cond (accepted && supervised) (x ∷ xs) xs)) → StillHeld (state_after stm x) (length xs)
still_once stm x xs true true e u n h =
    let room : h.count + 1 < 20 = omega (arith, h.room) in
    let same : min 20 (h.count + 1) ≡ h.count + 1 = omega (arith, h.room) in
    let fresh = (neither (freshens x.command) (is_of Code.BaliseError x.command) (n refl)).0 in
    record {
      stood = stays stm x Cause.BaliseFault e h.stood true u fresh (λ _. unreleased stm x.command h.count h.is room);
      count = h.count + 1;
      is = hold_once stm x true true e u n ∙ ap held_on h.is ∙ ap Hold.Low same;
      room = omega (arith, h.room);
    }
still_once stm x xs true false e u n h =
    let fresh = (neither (freshens x.command) (is_of Code.BaliseError x.command) (n refl)).0 in
    record {
      stood = stays stm x Cause.BaliseFault e h.stood false u fresh (λ s. impossible (sym u ∙ s));
      count = h.count;
      is = hold_once stm x true false e u n ∙ h.is;
      room = h.room;
    }
still_once stm x xs false supervised e u n h = subst (λ s. StillHeld s (length xs)) (sym (after_other stm x e)) h

still_over : (stm : Stm) (xs : List Sent) → none_accepted resets_hold stm xs ≡ true → StillHeld stm (reports_over stm xs)
    → BaliseStands (state_at_end stm xs)
unfolding state_at_end collected
still_over stm [] n h = h.stood
still_over stm (x ∷ xs) n h =
    let t = spared_first resets_hold stm x xs n in
    still_over (state_after stm x) xs t.1
    (still_once stm x (collected is_supervised (λ before y. y) (state_after stm x) xs) (is_accepted (answer_to stm x))
    (is_supervised stm x.command) refl refl t.0 h)

pub low_error_holds : LowErrorHolds
low_error_holds stm x ys r low h =
    still_over (state_after stm x) ys r.last (record {
      stood = stands_error stm x r.accepted r.error;
      count = 0;
      is = hold_error stm x r.accepted r.error ∙ decided_low stm.kept.speed low;
      room = omega (arith, h);
    })

-- ---- a fresh press of LOSS

module _ (stm : Stm) (z : Sent) (p : Presses stm z) where
  pressed_is : freshly_pressed stm (reading_in z.command) Cause.BaliseFault ≡ true
  unfolding reading_of
  pressed_is = and_both _ _ p.loss (rw p.fresh)

  stays_in_da : (da : Bool) → is_in State.DA (state_after stm z) ≡ da → is_in State.DA (state_after stm z) ≡ true
  stays_in_da true d = d
  stays_in_da false d =
      impossible (sym p.sound ∙ sym (fa_after stm z p.accepted p.supervised) ∙ fa_else stm z p.accepted p.supervised d)

  stands_after : stands (state_after stm z).brakes.causes Cause.BaliseFault
      ≡ ((stands stm.brakes.causes Cause.BaliseFault || false) && not (is_unheld (held_on (hold_in stm)) (speed_of z.command)))
  unfolding ordered_now
  stands_after =
      let d = stays_in_da (is_in State.DA (state_after stm z)) refl in
      rw (ordered_and_released stm z Cause.BaliseFault p.accepted p.supervised d, pressed_is, releasable_is)

pub low_error_ends : LowErrorEnds
low_error_ends stm x ys z r low h p =
    let end = state_at_end (state_after stm x) ys in
    let n = reports_over (state_after stm x) ys in
    let reached : 20 ≤ min 20 (min 20 n + 1) = omega (arith, h) in
    rw (stands_after end z p, low_last stm x ys r low, le-leb 20 (min 20 (min 20 n + 1)) reached, and-false)

tells_high : (v : ℕ) → Tells (not (leb (9 * v) (250 * 80))) (IsHigh v)
tells_high v = (
  λ e. leb-false (9 * v) (250 * 80) (not-true (leb (9 * v) (250 * 80)) e),
  λ h. ap not (lt-leb (9 * v) (250 * 80) h),
)

pub high_error_goes_by_speed : HighErrorGoesBySpeed
high_error_goes_by_speed stm x ys z r high = (
  stands_error stm x r.accepted r.error,
  λ stood p. rw (stands_after (state_at_end (state_after stm x) ys) z p, stood, high_last stm x ys r high) (tells_high (speed_of z.command)),
)

-- ---- bit 11

-- a report is no start and not CS
no_fresh : (stm : Stm) (z : Sent) → is_supervised stm z.command ≡ true → freshens z.command ≡ false
no_fresh stm z u =
    rw (code_is Code.Odometer (code_of (code_byte z.command))
    (both (is_of Code.Odometer z.command) (is_state State.DA stm.control.state) u).0)

pub service_fault_waits : ServiceFaultWaits
service_fault_waits stm x ys z r low h e u stood =
    let end = state_at_end (state_after stm x) ys in
    let n = reports_over (state_after stm x) ys in
    let fewer : n < 20 = omega (arith, h) in
    let held = low_error_holds stm x ys r low fewer in
    let now = hold_report end z e u ∙ ap held_on (low_last stm x ys r low) in
    stays end z Cause.ServiceFault e stood true u (no_fresh end z u) (λ _.
    rw (
      not_true_false (releasable_now end z.command Cause.ServiceFault) (λ free.
          let unheld = ((releasable_at_report end z Cause.ServiceFault e u).0 free).others refl Cause.BaliseFault (rw held) in
          too_few n h (subst (λ hold. UnheldWhen hold (state_after end z).kept.speed) now unheld)),
      and-false,
    ))
  where
    too_few : (n : ℕ) → n + 1 < 20 → 20 ≤ min 20 (min 20 n + 1) → ⊥
    too_few n h k = omega (arith, h, k)

-- ---- the offer

-- the hold has ended, as the promise says it
unheld_told : (v n w : ℕ)
    → (UnheldWhen (held_for n (decided_at v)) w → HoldEnded v n w) × (HoldEnded v n w → UnheldWhen (held_for n (decided_at v)) w)
unheld_told v n w =
    elim (dec_le (9 * v) (250 * 80)) [
      | yes low ↦
          let is = ap (held_for n) (decided_low v low) ∙ low_for n 0 (omega arith) in
          rw is (
            λ k. record { low = λ _. omega (arith, k); high = λ high. absurd (omega (arith, low, high)) },
            λ free. omega (arith, free.low low),
          )
      | no above ↦
          let high : IsHigh v = omega (arith, above) in
          let is = ap (held_for n) (decided_high v high) ∙ high_for n in
          rw is (λ k. record { low = λ low. absurd (omega (arith, low, high)); high = λ _. k }, λ free. free.high high)
    ]

module _ (stm : Stm) (x : Sent) (ys : List Sent) (r : Reported stm x ys) where
  abbrev end : Stm
  end = state_at_end (state_after stm x) ys

  abbrev Free : Type 0
  Free = HoldEnded stm.kept.speed (reports_over (state_after stm x) ys) end.kept.speed

  kept_report : end.last.report ≡ report_of end
  kept_report = report_at_end (state_after stm x) ys (report_kept stm x r.accepted)

  freed : (FreedWhen end Cause.BaliseFault → Free) × (Free → FreedWhen end Cause.BaliseFault)
  freed = rw (hold_last stm x ys r) (unheld_told stm.kept.speed (reports_over (state_after stm x) ys) end.kept.speed)

  offered : is_in State.DA end ≡ true → BaliseStands end → Free → bit_of 0 (offered_in (report_of end)) ≡ true
  offered d stood free =
      (offered_in_da end d).loss.1
      (Cause.BaliseFault, stood, λ ten. omega (arith, ten), record { itself = freed.1 free; others = λ is. absurd (omega (arith, is)) })

  offered_alone : (da : Bool) → is_in State.DA end ≡ da → StandsAlone end → bit_of 0 (offered_in (report_of end)) ≡ true → Free
  offered_alone true d alone o =
      let (other, stood, not_ten, free) = (offered_in_da end d).loss.0 o in
      elim (either (eqb (bit_number other) 9) (eqb (bit_number other) 10) (alone other stood)) [
        | inl nine ↦
            let is = bit_tells other Cause.BaliseFault (eqb-true (bit_number other) 9 nine) in
            freed.0 (subst (FreedWhen end) is free.itself)
        | inr ten ↦ absurd (not_ten (eqb-true (bit_number other) 10 ten))
      ]
  offered_alone false d alone o = impossible (sym (ap (bit_of 0) (offered_outside end d)) ∙ o)

pub offer_follows_error : OfferFollowsError
offer_follows_error stm x ys r =
    rw (kept_report stm x ys r)
    (offered stm x ys r, λ alone o. offered_alone stm x ys r (is_in State.DA (state_at_end (state_after stm x) ys)) refl alone o)
