-- The columns of the table of causes say what 01's table says. Assumes nothing.
use Rattle.std.specs.Prelude.{Option}
use mathlib.Core.Path.{◌≡◌, refl, sym, ◌∙◌, ap}
use Prim.Native.Nat.{ℕ, ◌+◌, ◌*◌, ◌≤◌, ◌<◌}
use native.Mathlib.Nat.{le_trans}
use native.Mathlib.Omega.{arith}
use mathlib.Core.Bool.{Bool, true, false, not, ◌&&◌, ◌||◌, false≢true, and-false, and-true, or-false}
use mathlib.Core.Logic.{◌⊎◌, inl, inr}
use mathlib.Core.List.{List, [], ◌∷◌}
use lib.Dec.{leb, ltb, lit<, lit≤}
use borrow.Author.Tests.{ltb-true, leb-true, lt-ltb, le-leb, not-true}
use Rattle.laws.proofs.Lists.{◌∈◌, get_d_in}
use Rattle.pressure.specs.Reference.{drop_of}
use Rattle.curve.specs.Deceleration.{level_of}
use Rattle.curve.specs.declared.Kind.{Kind}
use Rattle.curve.specs.declared.Curve.{Curve}
use Rattle.curve.specs.declared.Interval.{Interval}
use Rattle.interval.specs.Intervals.{rank_of}
use Rattle.interval.specs.Judging.{is_fast_for, is_fast, brakes_at, judged_of}
use Rattle.places.specs.Places.{any_brakes}
use Rattle.wire.specs.Numbers.{byte_at}
use Rattle.wire.specs.Form.{operands_of}
use Rattle.rules.specs.Numbers.{bit_number, is_accepted, code_of}
use Rattle.rules.specs.Operands.{code_byte}
use Rattle.rules.specs.Places.{all_of, all_curves}
use Rattle.rules.specs.Hold.{is_unheld}
use Rattle.rules.specs.Speeds.{braking_of, judged_now}
use Rattle.rules.specs.Table.{causes, stands, curve_orders, ordered_at, ordered_by, is_slow, releasable_when, others_releasable, is_releasable, added_causes}
use Rattle.rules.specs.Checks.{is_drop}
use Rattle.rules.specs.Releases.{service_fails}
use Rattle.rules.specs.Odometer.{is_insufficient, seen_with, seen_of, seen_in}
use Rattle.rules.specs.Runs.{Sent, answer_to, state_after}
use Rattle.rules.specs.History.{Tells, is_supervised, braking_in, interval_in}
use Rattle.rules.specs.Braking.{measured_at, seen_at, ordered_now, releasable_now}
use Rattle.rules.specs.Columns.{vmax_is, IsFast, BrakesFrom, is_short, CurveOrders, Orders, OrderedAtReport, command_orders, UnheldWhen, FreedWhen, IsFree, ReleasableAtReport, OrderedByCommand}
use Rattle.rules.specs.declared.Cause.{Cause}
use Rattle.rules.specs.declared.Causes.{Causes}
use Rattle.rules.specs.declared.Hold.{Hold}
use Rattle.rules.specs.declared.Seen.{Seen}
use Rattle.rules.specs.declared.Stm.{Stm}
use Rattle.rules.proofs.Tests.{impossible, both, and_both, either, or_left, or_right, if_made, if_used}
use Rattle.rules.proofs.Claims.{all_holds}
use Rattle.rules.proofs.Monotone.{any_in, any_from}
use Rattle.rules.proofs.TwoSpeeds.{brakes, any_brakes_is}
use Rattle.rules.proofs.Supervising.{among_all, from_all}
use Rattle.rules.proofs.Ordering.{same_tests, stands_added, since_after, others_drop_nothing}
use Rattle.rules.proofs.After.{train_measured, track_measured, feedback_measured, kept_measured}

-- ---- tests that tell

tells_leb : (a b : ℕ) → Tells (leb a b) (a ≤ b)
tells_leb a b = (leb-true a b, le-leb a b)

tells_ltb : (a b : ℕ) → Tells (ltb a b) (a < b)
tells_ltb a b = (ltb-true a b, lt-ltb a b)

tells_unheld : (hold : Hold) (v : ℕ) → Tells (is_unheld hold v) (UnheldWhen hold v)
tells_unheld Hold.Undecided v = tells_leb (9 * v) (250 * 80)
tells_unheld Hold.High v = tells_leb (9 * v) (250 * 80)
tells_unheld (Hold.Low count) v = tells_leb 20 count

tells_not : (t : Bool) {A : Type 0} → Tells t A → Tells (not t) (A → ⊥)
tells_not true told = (λ e. impossible e, λ f. absurd (f (told.0 refl)))
tells_not false told = (λ e a. false≢true (told.1 a), λ f. refl)

tells_and : (s t : Bool) {A B : Type 0} → Tells s A → Tells t B → Tells (s && t) (A × B)
tells_and s t told also = (
  λ e. let p = both s t e in (told.0 p.0, also.0 p.1),
  λ p. and_both s t (told.1 p.0) (also.1 p.1),
)

tells_or : (s t : Bool) {A B : Type 0} → Tells s A → Tells t B → Tells (s || t) (A ⊎ B)
tells_or s t told also = (
  λ e. elim (either s t e) [ inl p ↦ inl (told.0 p) | inr p ↦ inr (also.0 p) ],
  λ d. elim d [ inl a ↦ or_left s t (told.1 a) | inr b ↦ or_right s t (also.1 b) ],
)

pub tells_itself : (t : Bool) → Tells t (t ≡ true)
tells_itself t = (λ e. e, λ e. e)

tells_off : (t : Bool) → Tells (not t) (t ≡ false)
tells_off t = (not-true t, λ e. rw e)

pub tells_by : {s t : Bool} {A : Type 0} → t ≡ s → Tells s A → Tells t A
tells_by e told = (λ p. told.0 (sym e ∙ p), λ a. e ∙ told.1 a)

-- ---- a curve that brakes

tells_fast : (kind : Kind) (speed v : ℕ) → Tells (is_fast_for kind speed v) (IsFast kind speed v)
tells_fast Kind.SpeedTarget target v = tells_leb (250 * (target + 10)) (9 * v)
tells_fast Kind.ExpectStop release v = tells_ltb (250 * release) (9 * v)

module _ (stm : Stm) where
  -- the train's braking, as the promises have it
  braking_is : braking_of stm.train stm.kept.halka ≡ braking_in stm
  unfolding braking_of level_of
  braking_is = refl

  -- a curve brakes from an interval on that is D or later
  brakes_told : (interval : Interval) → rank_of Interval.D ≤ rank_of interval → (curve : Curve)
      → Tells (brakes interval (braking_in stm) stm.kept.speed curve)
      ((curve.held ≡ true) × (rank_of interval ≤ rank_of (interval_in stm curve)) × IsFast curve.kind curve.speed stm.kept.speed)
  unfolding judged_of brakes_at is_fast
  brakes_told interval from curve =
      let v = stm.kept.speed in
      let computed = rank_of (interval_in stm curve) in
      let fast = tells_fast curve.kind curve.speed v in
      let is_late = leb (rank_of interval) computed in
      let is_braking = leb (rank_of Interval.D) computed && is_fast_for curve.kind curve.speed v in (
        λ e.
            let t = both (curve.held && is_braking) is_late e in
            let u = both curve.held is_braking t.0 in
            let w = both (leb (rank_of Interval.D) computed) (is_fast_for curve.kind curve.speed v) u.1 in
            (u.0, leb-true (rank_of interval) computed t.1, fast.0 w.1),
        λ p.
            and_both (curve.held && is_braking) is_late
            (and_both curve.held is_braking p.0
            (and_both (leb (rank_of Interval.D) computed) (is_fast_for curve.kind curve.speed v)
            (le-leb (rank_of Interval.D) computed (le_trans from p.1)) (fast.1 p.2)))
            (le-leb (rank_of interval) computed p.1),
      )

  tells_brakes : (interval : Interval) → rank_of Interval.D ≤ rank_of interval
      → Tells (any_brakes interval (judged_now stm.train stm.kept (all_curves stm.track))) (BrakesFrom interval stm)
  unfolding judged_now
  tells_brakes interval from =
      let braking = braking_in stm in
      let v = stm.kept.speed in
      let test = brakes interval braking v in
      rw (braking_is, any_brakes_is interval braking v (all_curves stm.track)) (
        λ e.
            let (curve, place, t) = any_from test (all_curves stm.track) e in
            let told = (brakes_told interval from curve).0 t in
            let (et, supervises) = from_all stm.track curve (record { place = place; held = told.0 }) in
            record { et = et; curve = curve; holds = supervises; late = told.1; fast = told.2 },
        λ b.
            let holds = among_all stm.track b.et b.curve b.holds in
            any_in test (all_curves stm.track) holds.place
            ((brakes_told interval from b.curve).1 (holds.held, b.late, b.fast)),
      )

  tells_short : is_insufficient stm.train stm.feedback ≡ is_short stm
  unfolding is_insufficient drop_of
  tells_short = refl

  tells_curve : Tells (curve_orders (seen_in stm)) (CurveOrders stm)
  unfolding curve_orders seen_in seen_of seen_with
  tells_curve =
      let judged = judged_now stm.train stm.kept (all_curves stm.track) in
      let short = is_insufficient stm.train stm.feedback in
      tells_or (any_brakes Interval.D judged && short) (any_brakes Interval.E judged)
      (tells_and (any_brakes Interval.D judged) short (tells_brakes Interval.D (lit≤ tt)) (tells_by tells_short (tells_itself (is_short stm))))
      (tells_brakes Interval.E (lit≤ tt))

  -- "Ordered when", bits 0 to 9
  orders_in_lem : (fault : Bool) → Orders (ordered_at (seen_in stm) fault) stm
  unfolding seen_in seen_of seen_with
  orders_in_lem fault = record {
    overspeed = tells_leb (250 * (vmax_is stm + 10)) (9 * stm.kept.speed);
    excess = tells_leb (250 * (vmax_is stm + stm.train.emergency)) (9 * stm.kept.speed);
    full = tells_and (curve_orders (seen_in stm)) (not stm.kept.halka) tells_curve (tells_off stm.kept.halka);
    soft = tells_and (curve_orders (seen_in stm)) stm.kept.halka tells_curve (tells_itself stm.kept.halka);
    emergency = tells_brakes Interval.F (lit≤ tt);
    by_command = none;
  }
    where
      none : (cause : Cause) → 5 ≤ bit_number cause → bit_number cause ≤ 9 → ordered_at (seen_in stm) fault cause ≡ false
      none Cause.Overspeed h k = absurd (omega (arith, h))
      none Cause.EmergencyOverspeed h k = absurd (omega (arith, h))
      none Cause.CurveFull h k = absurd (omega (arith, h))
      none Cause.CurveSoft h k = absurd (omega (arith, h))
      none Cause.CurveEmergency h k = absurd (omega (arith, h))
      none Cause.AimedStop h k = refl
      none Cause.UnexpectedStop h k = refl
      none Cause.UnexpectedSpeed h k = refl
      none Cause.Landslide h k = refl
      none Cause.BaliseFault h k = refl
      none Cause.Rolling h k = absurd (omega (arith, k))
      none Cause.ServiceFault h k = absurd (omega (arith, k))

  -- "Releasable when", each by itself
  freed_in : (cause : Cause) → Tells (releasable_when (seen_in stm) true cause) (FreedWhen stm cause)
  unfolding seen_in seen_of seen_with is_slow
  freed_in Cause.Overspeed = tells_ltb (9 * stm.kept.speed) (250 * (vmax_is stm + 5))
  freed_in Cause.EmergencyOverspeed = tells_ltb (9 * stm.kept.speed) (250 * (vmax_is stm + 5))
  freed_in Cause.CurveFull = tells_not _ (tells_brakes Interval.D (lit≤ tt))
  freed_in Cause.CurveSoft = tells_not _ (tells_brakes Interval.D (lit≤ tt))
  freed_in Cause.CurveEmergency = tells_not _ (tells_brakes Interval.D (lit≤ tt))
  freed_in Cause.AimedStop = tells_itself stm.brakes.since.aimed
  freed_in Cause.UnexpectedStop = tells_itself stm.brakes.since.unexpected
  freed_in Cause.UnexpectedSpeed = tells_ltb (9 * stm.kept.speed) (250 * (vmax_is stm + 5))
  freed_in Cause.Landslide = tells_itself stm.brakes.since.landslide
  freed_in Cause.BaliseFault = tells_unheld stm.brakes.since.balise stm.kept.speed
  freed_in Cause.Rolling = (λ e. tt, λ u. refl)
  freed_in Cause.ServiceFault = (λ e. tt, λ u. refl)

-- ---- every cause

pub listed : (cause : Cause) → cause ∈ causes
listed Cause.Overspeed = get_d_in causes 0 Cause.Overspeed (lit< tt)
listed Cause.EmergencyOverspeed = get_d_in causes 1 Cause.Overspeed (lit< tt)
listed Cause.CurveFull = get_d_in causes 2 Cause.Overspeed (lit< tt)
listed Cause.CurveSoft = get_d_in causes 3 Cause.Overspeed (lit< tt)
listed Cause.CurveEmergency = get_d_in causes 4 Cause.Overspeed (lit< tt)
listed Cause.AimedStop = get_d_in causes 5 Cause.Overspeed (lit< tt)
listed Cause.UnexpectedStop = get_d_in causes 6 Cause.Overspeed (lit< tt)
listed Cause.UnexpectedSpeed = get_d_in causes 7 Cause.Overspeed (lit< tt)
listed Cause.Landslide = get_d_in causes 8 Cause.Overspeed (lit< tt)
listed Cause.BaliseFault = get_d_in causes 9 Cause.Overspeed (lit< tt)
listed Cause.Rolling = get_d_in causes 10 Cause.Overspeed (lit< tt)
listed Cause.ServiceFault = get_d_in causes 11 Cause.Overspeed (lit< tt)

all_made : {A : Type 0} (test : A → Bool) (xs : List A) → ((x : A) → test x ≡ true) → all_of test xs ≡ true
unfolding all_of
all_made test [] h = refl
all_made test (x ∷ xs) h = and_both (test x) (all_of test xs) (h x) (all_made test xs h)

module _ (stm : Stm) (c : Causes) where
  -- "all others are"
  tells_others : Tells (others_releasable (seen_in stm) c) ((other : Cause) → stands c other ≡ true → FreedWhen stm other)
  unfolding others_releasable
  tells_others =
      let test : Cause → Bool = λ cause. not (stands c cause) || releasable_when (seen_in stm) true cause in (
        λ e other stood.
            (freed_in stm other).0
            (if_used (stands c other) (releasable_when (seen_in stm) true other) (all_holds test causes e other (listed other)) stood),
        λ free.
            all_made test causes
            (λ other. if_made (stands c other) (releasable_when (seen_in stm) true other) (λ stood. (freed_in stm other).1 (free other stood))),
      )

  -- a cause that asks nothing of the others
  tells_alone : (cause : Cause) → (bit_number cause ≡ 11 → ⊥)
      → releasable_when (seen_in stm) (others_releasable (seen_in stm) c) cause ≡ releasable_when (seen_in stm) true cause
      → Tells (releasable_when (seen_in stm) (others_releasable (seen_in stm) c) cause) (IsFree stm (stands c) cause)
  tells_alone cause other same = (
    λ e. record { itself = (freed_in stm cause).0 (sym same ∙ e); others = λ is. absurd (other is) },
    λ free. same ∙ (freed_in stm cause).1 free.itself,
  )

  pub free_in : (cause : Cause) → Tells (is_releasable (seen_in stm) c cause) (IsFree stm (stands c) cause)
  unfolding is_releasable
  free_in Cause.Overspeed = tells_alone Cause.Overspeed (λ is. omega (arith, is)) refl
  free_in Cause.EmergencyOverspeed = tells_alone Cause.EmergencyOverspeed (λ is. omega (arith, is)) refl
  free_in Cause.CurveFull = tells_alone Cause.CurveFull (λ is. omega (arith, is)) refl
  free_in Cause.CurveSoft = tells_alone Cause.CurveSoft (λ is. omega (arith, is)) refl
  free_in Cause.CurveEmergency = tells_alone Cause.CurveEmergency (λ is. omega (arith, is)) refl
  free_in Cause.AimedStop = tells_alone Cause.AimedStop (λ is. omega (arith, is)) refl
  free_in Cause.UnexpectedStop = tells_alone Cause.UnexpectedStop (λ is. omega (arith, is)) refl
  free_in Cause.UnexpectedSpeed = tells_alone Cause.UnexpectedSpeed (λ is. omega (arith, is)) refl
  free_in Cause.Landslide = tells_alone Cause.Landslide (λ is. omega (arith, is)) refl
  free_in Cause.BaliseFault = tells_alone Cause.BaliseFault (λ is. omega (arith, is)) refl
  free_in Cause.Rolling = tells_alone Cause.Rolling (λ is. omega (arith, is)) refl
  free_in Cause.ServiceFault = (
    λ e. record { itself = tt; others = λ is. tells_others.0 e },
    λ free. tells_others.1 (free.others refl),
  )

-- ---- at a report in DA

-- what the table looks at in the unit that the report leaves, but for the rolled ground
module _ (stm : Stm) (x : Sent) (e : is_accepted (answer_to stm x) ≡ true) (u : is_supervised stm x.command ≡ true) where
  abbrev after : Stm
  after = state_after stm x

  seen_after : seen_in after
      ≡ seen_of (measured_at stm x.command).train (measured_at stm x.command).track (measured_at stm x.command).feedback
      (measured_at stm x.command).kept (measured_at stm x.command).brakes.since after.brakes.roll
  unfolding seen_in seen_at seen_of seen_with
  seen_after =
      rw (train_measured stm x e u, track_measured stm x e u, feedback_measured stm x e u, kept_measured stm x e u, since_after stm x e u)

  -- the ground rolled is asked for bit 10 alone
  abbrev measured : Stm
  measured = measured_at stm x.command

  abbrev seen_rolled : Option ℕ → Seen
  seen_rolled roll =
      seen_of measured.train measured.track measured.feedback measured.kept measured.brakes.since roll

  seen_at_lem : seen_at stm x.command ≡ seen_rolled measured.brakes.roll
  unfolding seen_at seen_in
  seen_at_lem = refl

  orders_alike : (roll roll' : Option ℕ) (fault : Bool) (cause : Cause) → bit_number cause ≤ 9
      → ordered_at (seen_rolled roll) fault cause ≡ ordered_at (seen_rolled roll') fault cause
  unfolding seen_of seen_with curve_orders
  orders_alike roll roll' fault Cause.Overspeed h = refl
  orders_alike roll roll' fault Cause.EmergencyOverspeed h = refl
  orders_alike roll roll' fault Cause.CurveFull h = refl
  orders_alike roll roll' fault Cause.CurveSoft h = refl
  orders_alike roll roll' fault Cause.CurveEmergency h = refl
  orders_alike roll roll' fault Cause.AimedStop h = refl
  orders_alike roll roll' fault Cause.UnexpectedStop h = refl
  orders_alike roll roll' fault Cause.UnexpectedSpeed h = refl
  orders_alike roll roll' fault Cause.Landslide h = refl
  orders_alike roll roll' fault Cause.BaliseFault h = refl
  orders_alike roll roll' fault Cause.Rolling h = absurd (omega (arith, h))
  orders_alike roll roll' fault Cause.ServiceFault h = absurd (omega (arith, h))

  abbrev fault : Bool
  fault = service_fails stm.train (is_drop measured.feedback) stm.brakes

  ordered_alike : (cause : Cause) → bit_number cause ≤ 9 → ordered_now stm x.command cause ≡ ordered_at (seen_in after) fault cause
  unfolding ordered_now
  ordered_alike cause h =
      ap (λ s. ordered_at s fault cause) seen_at_lem
      ∙ orders_alike measured.brakes.roll after.brakes.roll fault cause h
      ∙ ap (λ s. ordered_at s fault cause) (sym seen_after)

  ordered_at_lem : Orders (ordered_now stm x.command) after
  ordered_at_lem =
      let o = orders_in_lem after fault in
      record {
        overspeed = tells_by (ordered_alike Cause.Overspeed (lit≤ tt)) o.overspeed;
        excess = tells_by (ordered_alike Cause.EmergencyOverspeed (lit≤ tt)) o.excess;
        full = tells_by (ordered_alike Cause.CurveFull (lit≤ tt)) o.full;
        soft = tells_by (ordered_alike Cause.CurveSoft (lit≤ tt)) o.soft;
        emergency = tells_by (ordered_alike Cause.CurveEmergency (lit≤ tt)) o.emergency;
        by_command = λ cause h k. ordered_alike cause k ∙ o.by_command cause h k;
      }

  -- the causes that stood and those ordered
  abbrev standing : Causes
  standing = added_causes (ordered_now stm x.command) stm.brakes.causes

  released_alike : (cause : Cause) → is_releasable (seen_rolled measured.brakes.roll) standing cause
      ≡ is_releasable (seen_rolled after.brakes.roll) standing cause
  unfolding is_releasable others_releasable all_of seen_of seen_with is_slow
  released_alike cause =
      same_tests (is_releasable (seen_rolled measured.brakes.roll) standing)
      (is_releasable (seen_rolled after.brakes.roll) standing) refl cause

  releasable_at : (cause : Cause)
      → Tells (releasable_now stm x.command cause)
      (IsFree after (λ other. stands stm.brakes.causes other || ordered_now stm x.command other) cause)
  unfolding releasable_now
  releasable_at cause =
      let same = ap (λ s. is_releasable s standing cause) seen_at_lem ∙ released_alike cause
      ∙ ap (λ s. is_releasable s standing cause) (sym seen_after) in
      let told = tells_by same (free_in after standing cause) in (
        λ r. let free = told.0 r in record {
          itself = free.itself;
          others = λ is other stood. free.others is other (stands_added (ordered_now stm x.command) stm.brakes.causes other ∙ stood);
        },
        λ free. told.1 (record {
          itself = free.itself;
          others = λ is other stood.
              free.others is other (sym (stands_added (ordered_now stm x.command) stm.brakes.causes other) ∙ stood);
        }),
      )

pub ordered_at_report : OrderedAtReport
ordered_at_report stm x e u = ordered_at_lem stm x e u

pub releasable_at_report : ReleasableAtReport
releasable_at_report stm x cause e u = releasable_at stm x e u cause

-- ---- at another command

by_command_lem : (command : List ℕ) (cause : Cause)
    → ordered_by (code_of (code_byte command)) (byte_at (operands_of command) 0) cause ≡ command_orders command (bit_number cause)
by_command_lem command Cause.Overspeed = simp (and-false)
by_command_lem command Cause.EmergencyOverspeed = simp (and-false)
by_command_lem command Cause.CurveFull = simp (and-false)
by_command_lem command Cause.CurveSoft = simp (and-false)
by_command_lem command Cause.CurveEmergency = simp (and-false)
by_command_lem command Cause.AimedStop = simp (and-false, and-true, or-false)
by_command_lem command Cause.UnexpectedStop = simp (and-false, and-true, or-false)
by_command_lem command Cause.UnexpectedSpeed = simp (and-false, and-true, or-false)
by_command_lem command Cause.Landslide = simp (and-false, and-true, or-false)
by_command_lem command Cause.BaliseFault = simp (and-false, and-true, or-false)
by_command_lem command Cause.Rolling = simp (and-false)
by_command_lem command Cause.ServiceFault = simp (and-false)

pub ordered_by_command : OrderedByCommand
ordered_by_command stm x cause e u f =
    others_drop_nothing stm x cause e u f ∙ ap (λ t. stands stm.brakes.causes cause || t) (by_command_lem x.command cause)
