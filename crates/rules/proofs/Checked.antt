-- The two brake checks, DRIFTBROMSFEL and NÖDBROMSFEL after one accepted command. Assumes nothing.
use mathlib.Core.Path.{◌≡◌, refl, sym, ◌∙◌, ap, ap₂}
use Prim.Native.Nat.{ℕ}
use mathlib.Core.Bool.{Bool, true, false, cond, not, ◌&&◌, ◌||◌, or-false, or_assoc, and-false, and-true}
use borrow.Author.Tests.{not-false}
use Rattle.pressure.specs.Reference.{drop_of}
use Rattle.rules.specs.Numbers.{is_state, is_order, is_accepted}
use Rattle.rules.specs.Places.{any_of}
use Rattle.rules.specs.Table.{causes, stands, strength_of, stands_with, any_stands}
use Rattle.rules.specs.Checks.{is_drop, begins, checked_at, checked_by, check_left}
use Rattle.rules.specs.Releases.{noted_brakes, service_fails, emergency_fails, added_brakes, left_brakes, released_brakes, brakes_by}
use Rattle.rules.specs.Odometer.{moves, measures, notes, adds}
use Rattle.rules.specs.Commands.{remembered}
use Rattle.rules.specs.Runs.{Sent, answer_to, state_after}
use Rattle.rules.specs.History.{is_in, is_report, is_supervised}
use Rattle.rules.specs.Braking.{measured_at, ordered_now}
use Rattle.rules.specs.Timers.{is_ordered, is_emergency, has_drop}
use Rattle.rules.specs.declared.Code.{Code}
use Rattle.rules.specs.declared.State.{State}
use Rattle.rules.specs.declared.Cause.{Cause}
use Rattle.rules.specs.declared.Causes.{Causes}
use Rattle.rules.specs.declared.Check.{Check}
use Rattle.rules.specs.declared.Order.{Order}
use Rattle.rules.specs.declared.Brakes.{Brakes}
use Rattle.rules.specs.declared.Stm.{Stm}
use Rattle.rules.proofs.Tests.{impossible, both, and_left, and_mono, any_mono}
use Rattle.rules.proofs.After.{feedback_measured}
use Rattle.rules.proofs.Told.{state_is_lem}
use Rattle.rules.proofs.Ordering.{added_at, released_at, ended_at, ended, control_added, after_report, report_brakes, causes_added, ordered_and_released, ordered_in_failure, stands_added, ByOther, unchanged, orders}

-- ---- an order stands, as the promises say it

any_of_twelve : (a b c d e f g h i j k l : Bool)
    → (a || (b || (c || (d || (e || (f || (g || (h || (i || (j || (k || (l || false))))))))))))
    ≡ (a || b || c || d || e || f || g || h || i || j || k || l)
any_of_twelve a b c d e f g h i j k l = simp (or_assoc, or-false)

any_of_five : (a b c d e f g h i j k l : Bool)
    → (a && false || (b && true || (c && false || (d && false || (e && true || (f && true || (g && true || (h && false || (i && false
    || (j && false || (k && false || (l && true || false))))))))))))
    ≡ (b || e || f || g || l)
any_of_five a b c d e f g h i j k l = simp (and-false, and-true, or_assoc, or-false)

pub ordered_is : (stm : Stm) → any_stands stm.brakes.causes ≡ is_ordered stm
unfolding any_stands any_of
ordered_is stm =
    let c = stm.brakes.causes in
    any_of_twelve c.overspeed c.excess c.full c.soft c.emergency c.aimed c.unexpected c.speed c.landslide
    c.balise c.rolling c.service

pub emergency_is : (stm : Stm) → stands_with Order.Emergency stm.brakes.causes ≡ is_emergency stm
unfolding stands_with any_of
emergency_is stm =
    let c = stm.brakes.causes in
    any_of_five c.overspeed c.excess c.full c.soft c.emergency c.aimed c.unexpected c.speed c.landslide
    c.balise c.rolling c.service

-- ---- a report in DA

module _ (stm : Stm) (x : Sent) (e : is_accepted (answer_to stm x) ≡ true) (u : is_supervised stm x.command ≡ true) where
  abbrev after : Stm
  after = state_after stm x

  -- the brakes once the causes are added, and whether the report brings a drop
  abbrev added : Brakes
  added = (added_at stm x.command).brakes

  abbrev dropped : Bool
  dropped = is_drop (measured_at stm x.command).feedback

  added_service : added.service
      ≡ checked_at (any_stands stm.brakes.causes) (any_stands added.causes) stm.train.times.brake dropped stm.brakes.service
  unfolding added_at adds added_brakes measured_at notes measures moves noted_brakes
  added_service = refl

  added_emergency : added.emergency
      ≡ checked_at (stands_with Order.Emergency stm.brakes.causes) (stands_with Order.Emergency added.causes) stm.train.check
      dropped stm.brakes.emergency
  unfolding added_at adds added_brakes measured_at notes measures moves noted_brakes
  added_emergency = refl

  added_drift : added.drift ≡ (stm.brakes.drift || service_fails stm.train dropped stm.brakes)
  unfolding added_at adds added_brakes measured_at notes measures moves noted_brakes service_fails
  added_drift = refl

  added_failed : added.failed ≡ (stm.brakes.failed || emergency_fails stm.train dropped stm.brakes)
  unfolding added_at adds added_brakes measured_at notes measures moves noted_brakes emergency_fails
  added_failed = refl

  -- what is left of them, in DA and in FA
  pub left_in_da : is_in State.DA after ≡ true → after.brakes ≡ left_brakes after.brakes.causes added
  unfolding remembered released_at released_brakes left_brakes
  left_in_da d =
      let whole = after_report stm x e u in
      let brakes = ap (λ s. s.brakes) whole ∙ (report_brakes stm x.command u).0 (rw whole at d) in
      brakes ∙ ap (λ c. left_brakes c added) (sym (ap (λ b. b.causes) brakes))

  pub added_in_fa : is_in State.DA after ≡ false → after.brakes ≡ added
  unfolding remembered
  added_in_fa d =
      let whole = after_report stm x e u in
      ap (λ s. s.brakes) whole ∙ (report_brakes stm x.command u).1 (rw whole at d)

  -- the checks, where their orders stand
  kept_check : (da : Bool) → is_in State.DA after ≡ da → (check : Brakes → Check) (ordered : Causes → Bool)
      → ((c : Causes) (b : Brakes) → check (left_brakes c b) ≡ check_left (ordered c) (check b))
      → ordered after.brakes.causes ≡ true → check after.brakes ≡ check added
  unfolding check_left
  kept_check true d check ordered left stands =
      ap check (left_in_da d)
      ∙ left after.brakes.causes added
      ∙ ap (λ t. cond t (check added) Check.Idle) stands
  kept_check false d check ordered left stands = ap check (added_in_fa d)

  pub service_after : any_stands after.brakes.causes ≡ true
      → after.brakes.service
      ≡ checked_at (any_stands stm.brakes.causes) (any_stands added.causes) stm.train.times.brake dropped stm.brakes.service
  unfolding left_brakes
  service_after stands =
      kept_check (is_in State.DA after) refl (λ b. b.service) any_stands (λ c b. refl) stands ∙ added_service

  pub emergency_after : stands_with Order.Emergency after.brakes.causes ≡ true
      → after.brakes.emergency
      ≡ checked_at (stands_with Order.Emergency stm.brakes.causes) (stands_with Order.Emergency added.causes) stm.train.check
      dropped stm.brakes.emergency
  unfolding left_brakes
  emergency_after stands =
      kept_check (is_in State.DA after) refl (λ b. b.emergency) (stands_with Order.Emergency) (λ c b. refl) stands ∙ added_emergency

  -- an order that stands after the report stood once the causes were added
  left_stands : (cause : Cause) → stands after.brakes.causes cause ≡ true → stands added.causes cause ≡ true
  left_stands cause h =
      rw (causes_added stm x.command, stands_added (ordered_now stm x.command) stm.brakes.causes cause)
      (go (is_in State.DA after) refl)
    where
      go : (da : Bool) → is_in State.DA after ≡ da → (stands stm.brakes.causes cause || ordered_now stm x.command cause) ≡ true
      go true d = and_left _ _ (sym (ordered_and_released stm x cause e u d) ∙ h)
      go false d = sym (ordered_in_failure stm x cause e u d) ∙ h

  pub added_stands : any_stands after.brakes.causes ≡ true → any_stands added.causes ≡ true
  unfolding any_stands
  added_stands h = any_mono (stands after.brakes.causes) (stands added.causes) left_stands causes h

  pub added_emergency_stands :
      stands_with Order.Emergency after.brakes.causes ≡ true → stands_with Order.Emergency added.causes ≡ true
  unfolding stands_with
  added_emergency_stands h =
      any_mono (λ cause. stands after.brakes.causes cause && is_order Order.Emergency (strength_of cause))
      (λ cause. stands added.causes cause && is_order Order.Emergency (strength_of cause))
      (λ cause. and_mono (stands after.brakes.causes cause) (stands added.causes cause)
      (is_order Order.Emergency (strength_of cause)) (left_stands cause)) causes h

  -- the faults
  pub drift_in_da : is_in State.DA after ≡ true
      → after.brakes.drift
      ≡ ((stm.brakes.drift || service_fails stm.train dropped stm.brakes) && any_stands after.brakes.causes)
  unfolding left_brakes
  drift_in_da d = ap (λ b. b.drift) (left_in_da d) ∙ ap (λ t. t && any_stands after.brakes.causes) added_drift

  pub drift_in_fa : is_in State.DA after ≡ false
      → after.brakes.drift ≡ (stm.brakes.drift || service_fails stm.train dropped stm.brakes)
  drift_in_fa d = ap (λ b. b.drift) (added_in_fa d) ∙ added_drift

  pub failed_after : after.brakes.failed ≡ (stm.brakes.failed || emergency_fails stm.train dropped stm.brakes)
  unfolding left_brakes
  failed_after = go (is_in State.DA after) refl ∙ added_failed
    where
      go : (da : Bool) → is_in State.DA after ≡ da → after.brakes.failed ≡ added.failed
      go true d = ap (λ b. b.failed) (left_in_da d)
      go false d = ap (λ b. b.failed) (added_in_fa d)

  -- and the state
  ended_state : (failed : Bool) (s : Stm) (released : Brakes) → is_in State.DA s ≡ true
      → (is_in State.FA (ended failed s released) ≡ failed) × (is_in State.DA (ended failed s released) ≡ not failed)
  ended_state true s released da = (refl, refl)
  ended_state false s released da = (ap (is_state State.FA) (state_is_lem State.DA s.control.state da), da)

  state_added : (is_in State.FA after ≡ added.failed) × (is_in State.DA after ≡ not added.failed)
  unfolding remembered ended_at
  state_added =
      let da = (both (is_report x.command) (is_in State.DA stm) u).1 in
      rw (after_report stm x e u)
      (ended_state added.failed (added_at stm x.command) (released_at stm x.command) (rw control_added da))

  pub fa_after : is_in State.FA after ≡ after.brakes.failed
  fa_after = state_added.0 ∙ added_failed ∙ sym failed_after

  -- it is in DA or in FA
  pub fa_else : is_in State.DA after ≡ false → is_in State.FA after ≡ true
  fa_else d = state_added.0 ∙ not-false added.failed (sym state_added.1 ∙ d)

  -- the drop of the promises
  pub drop_is : dropped ≡ has_drop after
  unfolding is_drop drop_of
  drop_is = ap (λ feedback. is_drop feedback) (sym (feedback_measured stm x e u))

-- ---- another command, where its order stands before and after

pub other_check : (code : Code) (which : ℕ) (before after : Brakes) (check : Brakes → Check) (ordered : Causes → Bool)
    → ((v : ℕ) (b : Brakes)
    → check (brakes_by code which v b) ≡ checked_by (ordered b.causes) (ordered (brakes_by code which v b).causes) (check b))
    → ByOther code which before after
    → (ordered before.causes ≡ true → check after ≡ check before)
    × (ordered before.causes ≡ false → ordered after.causes ≡ true → check after ≡ begins)
unfolding checked_by
other_check code which before after check ordered by (unchanged none e) =
    (λ stood. ap check e, λ away stands. impossible (sym away ∙ ap (λ b. ordered b.causes) (sym e) ∙ stands))
other_check code which before after check ordered by (orders v e) = (
  λ stood.
      ap check e
      ∙ by v before
      ∙ ap (λ t. checked_by t (ordered (brakes_by code which v before).causes) (check before)) stood,
  λ away stands.
      ap check e
      ∙ by v before
      ∙ ap₂ (λ s t. cond s (check before) (cond t begins Check.Idle)) away (ap (λ b. ordered b.causes) (sym e) ∙ stands),
)
