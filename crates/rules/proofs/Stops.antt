-- Bits 5, 6 and 8 over a list: one law over the cause, its note and the reports that free it. Assumes nothing.
use mathlib.Core.Path.{◌≡◌, refl, sym, ◌∙◌, ap, ap₂, subst}
use Prim.Native.Nat.{ℕ}
use mathlib.Core.Bool.{Bool, true, false, not, ◌&&◌, ◌||◌, false≢true, or-true, or-false, and-false, and-true}
use mathlib.Core.Logic.{inl, inr}
use mathlib.Core.List.{List, [], ◌∷◌}
use lib.Dec.{eqb}
use lib.ListN.{get_or}
use borrow.Author.Tests.{eqb-true, eq-eqb}
use Rattle.laws.proofs.Lists.{not_true_false}
use Rattle.wire.specs.Numbers.{byte_at}
use Rattle.wire.specs.Form.{operands_of}
use Rattle.wire.specs.Report.{offered_in}
use Rattle.rules.specs.Numbers.{code_of, is_accepted, bit_number}
use Rattle.rules.specs.Operands.{code_byte, reading_of, bit_of}
use Rattle.rules.specs.Table.{causes, stands, ordered_by, is_stop, is_releasable, releasable_when}
use Rattle.rules.specs.Releases.{is_halt, is_braked, since_at, since_by, brakes_by}
use Rattle.rules.specs.Reports.{report_of}
use Rattle.rules.specs.Commands.{stopped}
use Rattle.rules.specs.Runs.{Sent, answer_to, state_after, state_at_end, none_accepted, is_of, freshens}
use Rattle.rules.specs.History.{first_operand, is_in, is_supervised, is_halting, is_braking, passes_stop}
use Rattle.rules.specs.Braking.{reading_in, seen_at, releasable_now}
use Rattle.rules.specs.Columns.{FreedWhen}
use Rattle.rules.specs.Stops.{FreedSince, AimedStopWantsHalt, UnexpectedStopWantsBraking, LandslideWantsHalt}
use Rattle.rules.specs.declared.Code.{Code}
use Rattle.rules.specs.declared.State.{State}
use Rattle.rules.specs.declared.Cause.{Cause}
use Rattle.rules.specs.declared.Since.{Since}
use Rattle.rules.specs.declared.Brakes.{Brakes}
use Rattle.rules.specs.declared.Seen.{Seen}
use Rattle.rules.specs.declared.Reading.{Reading}
use Rattle.rules.specs.declared.Stm.{Stm}
use Rattle.rules.proofs.Answers.{after_other}
use Rattle.rules.proofs.Tests.{both, neither, either}
use Rattle.rules.proofs.Told.{code_is}
use Rattle.rules.proofs.Ordering.{brakes_after, stands_added, since_after, since_seen, ByOther, unchanged, orders, brakes_by_other}
use Rattle.rules.proofs.Standing.{kept_to_end, is_released, stays}
use Rattle.rules.proofs.Ground.{spared_first}
use Rattle.rules.proofs.Written.{report_kept, offered_in_da, offered_outside, report_at_end}

-- a cause is told by its bit
bit_is : (cause : Cause) → get_or causes (bit_number cause) Cause.Overspeed ≡ cause
bit_is Cause.Overspeed = refl
bit_is Cause.EmergencyOverspeed = refl
bit_is Cause.CurveFull = refl
bit_is Cause.CurveSoft = refl
bit_is Cause.CurveEmergency = refl
bit_is Cause.AimedStop = refl
bit_is Cause.UnexpectedStop = refl
bit_is Cause.UnexpectedSpeed = refl
bit_is Cause.Landslide = refl
bit_is Cause.BaliseFault = refl
bit_is Cause.Rolling = refl
bit_is Cause.ServiceFault = refl

pub bit_tells : (a b : Cause) → bit_number a ≡ bit_number b → a ≡ b
bit_tells a b e = sym (bit_is a) ∙ ap (λ n. get_or causes n Cause.Overspeed) e ∙ bit_is b

-- ---- a cause, its note, the operand of the command 30 that orders it, and the reports that are noted

record Noted (stop : ℕ) (cause : Cause) (note : Since → Bool) (test : ℕ → Reading → Bool) (frees : Stm → List ℕ → Bool) : Type 0 where
  ordering : (code : Code) (which : ℕ) → ordered_by code which cause ≡ is_stop stop code which
  releasing : (s : Seen) (others : Bool) → releasable_when s others cause ≡ note s.since
  noting : (full : ℕ) (r : Reading) (since : Since) → note (since_at full r since) ≡ (note since || test full r)
  afresh : (code : Code) (which v : ℕ) (since : Since)
      → note (since_by code which v since) ≡ (note since && not (is_stop stop code which))
  freeing : (stm : Stm) (command : List ℕ) → frees stm command ≡ (is_supervised stm command && test stm.train.full (reading_in command))
  freed : (stm : Stm) → FreedWhen stm cause → note stm.brakes.since ≡ true

aimed_noted : Noted 0 Cause.AimedStop (λ since. since.aimed) (λ full. is_halt) is_halting
unfolding since_at since_by is_halt reading_of
aimed_noted = record {
  ordering = λ _ _. refl;
  releasing = λ _ _. refl;
  noting = λ _ _ _. refl;
  afresh = λ _ _ _ _. refl;
  freeing = λ _ _. refl;
  freed = λ _ e. e;
}

unexpected_noted : Noted 1 Cause.UnexpectedStop (λ since. since.unexpected) is_braked is_braking
unfolding since_at since_by is_braked reading_of
unexpected_noted = record {
  ordering = λ _ _. refl;
  releasing = λ _ _. refl;
  noting = λ _ _ _. refl;
  afresh = λ _ _ _ _. refl;
  freeing = λ _ _. refl;
  freed = λ _ e. e;
}

landslide_noted : Noted 2 Cause.Landslide (λ since. since.landslide) (λ full. is_halt) is_halting
unfolding since_at since_by is_halt reading_of
landslide_noted = record {
  ordering = λ _ _. refl;
  releasing = λ _ _. refl;
  noting = λ _ _ _. refl;
  afresh = λ _ _ _ _. refl;
  freeing = λ _ _. refl;
  freed = λ _ e. e;
}

module _ {stop : ℕ} {cause : Cause} {note : Since → Bool} {test : ℕ → Reading → Bool} {frees : Stm → List ℕ → Bool}
    (w : Noted stop cause note test frees) where
  -- ---- one command

  module _ (stm : Stm) (x : Sent) (e : is_accepted (answer_to stm x) ≡ true) where
    abbrev code : Code
    code = code_of (code_byte x.command)

    abbrev which : ℕ
    which = byte_at (operands_of x.command) 0

    -- a report in DA notes
    noted_at_lem : is_supervised stm x.command ≡ true
        → note (state_after stm x).brakes.since ≡ (note stm.brakes.since || frees stm x.command)
    noted_at_lem u =
        ap note (since_after stm x e u ∙ since_seen stm x.command)
        ∙ w.noting stm.train.full (reading_in x.command) stm.brakes.since
        ∙ ap (λ t. note stm.brakes.since || t)
        (sym (w.freeing stm x.command ∙ ap (λ t. t && test stm.train.full (reading_in x.command)) u))

    -- another command notes nothing, and its own starts again
    other_noted : (after : Brakes) → ByOther code which stm.brakes after → is_stop stop code which ≡ false
        → note after.since ≡ note stm.brakes.since
    unfolding brakes_by
    other_noted after (unchanged none same) n = ap (λ b. note b.since) same
    other_noted after (orders v same) n =
        ap (λ b. note b.since) same
        ∙ w.afresh code which v stm.brakes.since
        ∙ ap (λ t. note stm.brakes.since && not t) n
        ∙ and-true (note stm.brakes.since)

    noted_by_lem : (supervised : Bool) → is_supervised stm x.command ≡ supervised → freshens x.command ≡ false
        → passes_stop stop x.command ≡ false
        → note (state_after stm x).brakes.since ≡ (note stm.brakes.since || frees stm x.command)
    noted_by_lem true u f p = noted_at_lem u
    noted_by_lem false u f p =
        other_noted (state_after stm x).brakes (brakes_by_other stm x e u f) p
        ∙ sym (or-false (note stm.brakes.since))
        ∙ ap (λ t. note stm.brakes.since || t)
        (sym (w.freeing stm x.command ∙ ap (λ t. t && test stm.train.full (reading_in x.command)) u))

  -- it stands, with nothing noted,
  abbrev Waits : Brakes → Type 0
  Waits b = (stands b.causes cause ≡ true) × (note b.since ≡ false)

  -- after its command
  waits_ordered : (v : ℕ) (b : Brakes) → Waits (brakes_by Code.StopPassed stop v b)
  unfolding brakes_by
  waits_ordered v b =
      let same = eq-eqb stop stop refl in (
        rw (stands_added, w.ordering Code.StopPassed stop, same, or-true),
        rw (w.afresh Code.StopPassed stop v b.since, same, and-false),
      )

  waits_after : (stm : Stm) (x : Sent) → is_accepted (answer_to stm x) ≡ true → passes_stop stop x.command ≡ true
      → Waits (state_after stm x).brakes
  unfolding stopped
  waits_after stm x e p =
      let t = both (is_of Code.StopPassed x.command) (eqb (first_operand x.command) stop) p in
      rw (
        brakes_after stm x e,
        code_is Code.StopPassed (code_of (code_byte x.command)) t.0,
        eqb-true (first_operand x.command) stop t.1,
      ) (waits_ordered stm.kept.speed stm.brakes)

  -- ---- any list

  abbrev stops_again : Stm → List ℕ → Bool
  stops_again before command = freshens command || passes_stop stop command

  noted_once : (stm : Stm) (x : Sent) (accepted : Bool) → is_accepted (answer_to stm x) ≡ accepted
      → (accepted ≡ true → stops_again stm x.command ≡ false)
      → note (state_after stm x).brakes.since ≡ (note stm.brakes.since || accepted && frees stm x.command)
  noted_once stm x true e n =
      let t = neither (freshens x.command) (passes_stop stop x.command) (n refl) in
      noted_by_lem stm x e (is_supervised stm x.command) refl t.0 t.1
  noted_once stm x false e n = ap (λ s. note s.brakes.since) (after_other stm x e) ∙ sym (or-false (note stm.brakes.since))

  -- noted before, now, or later
  noted_either : (before now none : Bool) → (before || now || not none) ≡ (before || not (not now && none))
  noted_either true now none = refl
  noted_either false true none = refl
  noted_either false false none = refl

  noted_over_lem : (stm : Stm) (xs : List Sent) → none_accepted stops_again stm xs ≡ true
      → note (state_at_end stm xs).brakes.since ≡ (note stm.brakes.since || not (none_accepted frees stm xs))
  unfolding state_at_end none_accepted
  noted_over_lem stm [] n = sym (or-false (note stm.brakes.since))
  noted_over_lem stm (x ∷ xs) n =
      let accepted = is_accepted (answer_to stm x) in
      let t = spared_first stops_again stm x xs n in
      noted_over_lem (state_after stm x) xs t.1
      ∙ ap (λ now. now || not (none_accepted frees (state_after stm x) xs)) (noted_once stm x accepted refl t.0)
      ∙ noted_either (note stm.brakes.since) (accepted && frees stm x.command) (none_accepted frees (state_after stm x) xs)

  -- ---- until it is noted it stands

  module _ (stm : Stm) (x : Sent) (e : is_accepted (answer_to stm x) ≡ true) (f : freshens x.command ≡ false)
      (kept : frees stm x.command ≡ false) (waits : Waits stm.brakes) where
    unnoted_at : is_supervised stm x.command ≡ true → note (seen_at stm x.command).since ≡ false
    unnoted_at u =
        ap note (sym (since_after stm x e u))
        ∙ noted_at_lem stm x e u
        ∙ ap₂ ◌||◌ waits.1 kept

    unreleased : is_supervised stm x.command ≡ true → is_released stm x.command cause ≡ false
    unfolding releasable_now is_releasable
    unreleased u = rw (w.releasing, unnoted_at u, and-false)

    -- another 30 of its own leaves nothing noted either
    unnoted_other : (after : Brakes) → ByOther (code_of (code_byte x.command)) (byte_at (operands_of x.command) 0) stm.brakes after
        → note after.since ≡ false
    unfolding brakes_by
    unnoted_other after (unchanged none same) = rw (same, waits.1)
    unnoted_other after (orders v same) = rw (same, w.afresh _ _ v stm.brakes.since, waits.1)

    unnoted : (supervised : Bool) → is_supervised stm x.command ≡ supervised → note (state_after stm x).brakes.since ≡ false
    unnoted true u = ap note (since_after stm x e u) ∙ unnoted_at u
    unnoted false u = unnoted_other (state_after stm x).brakes (brakes_by_other stm x e u f)

    still_waits : Waits (state_after stm x).brakes
    still_waits =
        let supervised = is_supervised stm x.command in
        (stays stm x cause e waits.0 supervised refl f unreleased, unnoted supervised refl)

  waits_over : (stm : Stm) (xs : List Sent) → Waits stm.brakes
      → none_accepted (λ before command. freshens command) stm xs ≡ true → none_accepted frees stm xs ≡ true
      → Waits (state_at_end stm xs).brakes
  waits_over stm xs waits f n =
      kept_to_end (λ s. Waits s.brakes) (λ before command. freshens command) frees still_waits stm xs f n waits

  -- ---- and no release by LOSS is offered because of it

  module _ (stm : Stm) (waits : Waits stm.brakes)
      (alone : (other : Cause) → stands stm.brakes.causes other ≡ true
      → (eqb (bit_number other) (bit_number cause) || eqb (bit_number other) 10) ≡ true) where
    unoffered_in : (da : Bool) → is_in State.DA stm ≡ da → bit_of 0 (offered_in (report_of stm)) ≡ false
    unoffered_in true d =
        not_true_false _ (λ offered.
        let (other, stood, not_ten, free) = (offered_in_da stm d).loss.0 offered in
        elim (either (eqb (bit_number other) (bit_number cause)) (eqb (bit_number other) 10) (alone other stood)) [
          | inl same ↦
              let is = bit_tells other cause (eqb-true (bit_number other) (bit_number cause) same) in
              false≢true (sym waits.1 ∙ w.freed stm (subst (FreedWhen stm) is free.itself))
          | inr ten ↦ not_ten (eqb-true (bit_number other) 10 ten)
        ])
    unoffered_in false d = ap (bit_of 0) (offered_outside stm d)

  freed_since : FreedSince stop cause note frees
  freed_since = record {
    ordered = waits_after;
    noted = λ stm x ys e p n.
        noted_over_lem (state_after stm x) ys n
        ∙ ap (λ t. t || not (none_accepted frees (state_after stm x) ys)) (waits_after stm x e p).1;
    kept = λ stm xs stood unnoted f n. (waits_over stm xs (stood, unnoted) f n).0;
    unoffered = λ stm x ys e p f n alone.
        let last = state_at_end (state_after stm x) ys in
        ap (λ report. bit_of 0 (offered_in report)) (report_at_end (state_after stm x) ys (report_kept stm x e))
        ∙ unoffered_in last (waits_over (state_after stm x) ys (waits_after stm x e p) f n) alone (is_in State.DA last) refl;
  }

pub aimed_stop_wants_halt : AimedStopWantsHalt
aimed_stop_wants_halt = freed_since aimed_noted

pub unexpected_stop_wants_braking : UnexpectedStopWantsBraking
unexpected_stop_wants_braking = freed_since unexpected_noted

pub landslide_wants_halt : LandslideWantsHalt
landslide_wants_halt = freed_since landslide_noted
