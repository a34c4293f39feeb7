-- The course of brake test A over the reports since command 40. Assumes nothing.
use mathlib.Core.Path.{◌≡◌, refl, sym, ap, ◌∙◌, subst}
use Prim.Native.Nat.{ℕ, suc, ◌+◌, ◌≤◌, ◌<◌}
use native.Mathlib.Omega.{arith}
use mathlib.Core.Bool.{Bool, true, false, cond, not, ◌&&◌}
use mathlib.Core.Logic.{inl, inr}
use mathlib.Core.List.{List, [], ◌∷◌, ◌++◌, map, append-nil, append_assoc}
use lib.Dec.{leb}
use lib.Ieee.{Float}
use lib.ListN.{length, length-append}
use borrow.Author.Tests.{leb-true, leb-false, lt-leb, le-leb}
use Rattle.pressure.specs.declared.Phase.{Phase}
use Rattle.pressure.specs.Phases.{is_set}
use Rattle.pressure.specs.Report.{fresh_feedback}
use Rattle.pressure.specs.Claims.{after_all}
use Rattle.pressure.proofs.Agreeing.{record_agrees}
use Rattle.rules.specs.Places.{any_of, all_of}
use Rattle.rules.specs.BrakeTest.{ended_test, is_running, phase_on, stage_of, braked_on}
use Rattle.rules.specs.History.{external_of}
use Rattle.rules.specs.Units.{feedback_after}
use Rattle.rules.specs.TestRuns.{is_fit, drops_from, phase_by, SettlesStill, SettledBy, BrakesStill, Passes, RunsStill, Fails, EndedBy}
use Rattle.rules.specs.declared.Train.{Train}
use Rattle.rules.specs.declared.Stage.{Stage}
use Rattle.rules.specs.declared.Verdict.{Verdict}
use Rattle.rules.specs.declared.BrakeTest.{BrakeTest}
use Rattle.rules.proofs.Tests.{impossible, and_left, and_right, and_both, neither}
use Rattle.rules.proofs.Feedback.{after_more, set_stays}
use Rattle.rules.proofs.TestParts.{on_count, on_led}

-- ---- lists from their front

abbrev then : {A : Type 0} → List A → A → List A
then xs x = xs ++ (x ∷ [])

grown : {A : Type 0} (P : List A → Type 0) → ((xs : List A) (x : A) → P xs → P (then xs x)) → (before xs : List A) → P before
    → P (before ++ xs)
grown P step before [] p = subst P (sym (append-nil before)) p
grown P step before (x ∷ xs) p = subst P (append_assoc before (x ∷ []) xs) (grown P step (then before x) xs (step before x p))

from_front : {A : Type 0} (P : List A → Type 0) → P [] → ((xs : List A) (x : A) → P xs → P (then xs x)) → (xs : List A) → P xs
from_front P base step xs = grown P step [] xs base

all_then : {A : Type 0} (p : A → Bool) (xs : List A) (x : A) → all_of p (then xs x) ≡ true → (all_of p xs ≡ true) × (p x ≡ true)
unfolding all_of
all_then p [] x e = (refl, and_left (p x) true e)
all_then p (y ∷ xs) x e =
    let rest = all_then p xs x (and_right (p y) (all_of p (then xs x)) e) in
    (and_both (p y) (all_of p xs) (and_left (p y) (all_of p (then xs x)) e) rest.0, rest.1)

all_and : {A : Type 0} (p : A → Bool) (xs ys : List A) → all_of p (xs ++ ys) ≡ true → (all_of p xs ≡ true) × (all_of p ys ≡ true)
unfolding all_of
all_and p [] ys e = (refl, e)
all_and p (x ∷ xs) ys e =
    let rest = all_and p xs ys (and_right (p x) (all_of p (xs ++ ys)) e) in
    (and_both (p x) (all_of p xs) (and_left (p x) (all_of p (xs ++ ys)) e) rest.0, rest.1)

all_join : {A : Type 0} (p : A → Bool) (xs : List A) (x : A) → all_of p xs ≡ true → p x ≡ true → all_of p (then xs x) ≡ true
unfolding all_of
all_join p [] x e h = and_both (p x) true h refl
all_join p (y ∷ xs) x e h =
    and_both (p y) (all_of p (then xs x)) (and_left (p y) (all_of p xs) e) (all_join p xs x (and_right (p y) (all_of p xs) e) h)

none_join : {A : Type 0} (p : A → Bool) (xs : List A) (x : A) → any_of p xs ≡ false → p x ≡ false → any_of p (then xs x) ≡ false
unfolding any_of
none_join p [] x e h = rw h
none_join p (y ∷ xs) x e h = let t = neither (p y) (any_of p xs) e in rw t.0 (none_join p xs x t.1 h)

map_then : {A B : Type 0} (f : A → B) (xs : List A) (x : A) → map f (then xs x) ≡ then (map f xs) (f x)
map_then f [] x = refl
map_then f (y ∷ xs) x = ap (◌∷◌ (f y)) (map_then f xs x)

length_then : {A : Type 0} (xs : List A) (x : A) → length (then xs x) ≡ length xs + 1
length_then xs x = length-append xs (x ∷ [])

-- ---- one report, by its bytes

abbrev pub gone_by : Train → List ℕ → Verdict → Stage → BrakeTest
gone_by train command result Stage.Idle = record { stage = Stage.Idle; result = result }
gone_by train command result (Stage.Settling phase) = record { stage = stage_of (phase_on train (external_of command) phase); result = result }
gone_by train command result (Stage.Braking steady reports) =
    braked_on train.times.brake (drops_from train steady command) steady reports result

abbrev pub by_report : Train → List ℕ → BrakeTest → BrakeTest
by_report train command test =
    cond (is_running test.stage && not (is_fit command)) (ended_test Verdict.Failed)
    (gone_by train command test.result test.stage)

unfoldable pub by_reports : Train → List (List ℕ) → BrakeTest → BrakeTest
by_reports train [] test = test
by_reports train (report ∷ reports) test = by_reports train reports (by_report train report test)

by_both : (train : Train) (before after : List (List ℕ)) (test : BrakeTest)
    → by_reports train (before ++ after) test ≡ by_reports train after (by_reports train before test)
unfolding by_reports
by_both train [] after test = refl
by_both train (report ∷ before) after test = by_both train before after (by_report train report test)

by_then : (train : Train) (reports : List (List ℕ)) (report : List ℕ) (test : BrakeTest)
    → by_reports train (then reports report) test ≡ by_report train report (by_reports train reports test)
unfolding by_reports
by_then train reports report test = by_both train reports (report ∷ []) test

-- an ended test stays as it is
by_idle : (train : Train) (reports : List (List ℕ)) (verdict : Verdict) → by_reports train reports (ended_test verdict) ≡ ended_test verdict
unfolding by_reports
by_idle train [] verdict = refl
by_idle train (report ∷ reports) verdict = by_idle train reports verdict

-- ---- the phase that the reports lead to

phase_then : (train : Train) (reports : List (List ℕ)) (report : List ℕ) → is_set (phase_by train reports) ≡ false
    → phase_by train (then reports report) ≡ phase_on train (external_of report) (phase_by train reports)
phase_then train reports report u =
    let readings = map external_of reports in
    ap (λ xs. (feedback_after train fresh_feedback xs).phase) (map_then external_of reports report)
    ∙ ap (λ measured. measured.phase) (after_more train fresh_feedback readings (external_of report))
    ∙ on_led train (feedback_after train fresh_feedback readings) (external_of report) (phase_by train reports)
    (record_agrees train.feed train.pressure readings) refl u

-- a reference that is set stays
set_then : (train : Train) (reports : List (List ℕ)) (report : List ℕ) → is_set (phase_by train reports) ≡ true
    → is_set (phase_by train (then reports report)) ≡ true
set_then train reports report e =
    let readings = map external_of reports in
    ap (λ xs. is_set (feedback_after train fresh_feedback xs).phase) (map_then external_of reports report)
    ∙ ap (λ measured. is_set measured.phase) (after_more train fresh_feedback readings (external_of report))
    ∙ set_stays train (feedback_after train fresh_feedback readings) (external_of report) e

unset_before : (train : Train) (reports : List (List ℕ)) (report : List ℕ) → is_set (phase_by train (then reports report)) ≡ false
    → is_set (phase_by train reports) ≡ false
unset_before train reports report e = go (is_set (phase_by train reports)) refl
  where
    go : (t : Bool) → is_set (phase_by train reports) ≡ t → is_set (phase_by train reports) ≡ false
    go true is = impossible (sym e ∙ set_then train reports report is)
    go false is = is

-- ---- what the description of the reports makes of the test

stage_unset : (phase : Phase) → is_set phase ≡ false → stage_of phase ≡ Stage.Settling phase
stage_unset Phase.Waiting u = refl
stage_unset (Phase.Settling saved reports) u = refl
stage_unset (Phase.Set reference reports) u = impossible (sym u)

module _ (train : Train) (result : Verdict) where
  abbrev begun : BrakeTest
  begun = record { stage = Stage.Settling Phase.Waiting; result = result }

  abbrev settling_at : Phase → BrakeTest
  settling_at phase = record { stage = Stage.Settling phase; result = result }

  abbrev braking_at : Float → ℕ → BrakeTest
  braking_at steady reports = record { stage = Stage.Braking steady reports; result = result }

  fit_settling : (phase : Phase) (report : List ℕ) → is_fit report ≡ true
      → by_report train report (settling_at phase) ≡ record { stage = stage_of (phase_on train (external_of report) phase); result = result }
  fit_settling phase report e = rw e

  pub settles_is : (reports : List (List ℕ)) → SettlesStill train reports → by_reports train reports begun ≡ settling_at (phase_by train reports)
  unfolding by_reports after_all fresh_feedback
  settles_is =
      from_front (λ reports. SettlesStill train reports → by_reports train reports begun ≡ settling_at (phase_by train reports)) first next
    where
      first : SettlesStill train [] → by_reports train [] begun ≡ settling_at (phase_by train [])
      first s = refl

      next : (reports : List (List ℕ)) (report : List ℕ)
          → (SettlesStill train reports → by_reports train reports begun ≡ settling_at (phase_by train reports))
          → SettlesStill train (then reports report)
          → by_reports train (then reports report) begun ≡ settling_at (phase_by train (then reports report))
      next reports report before s =
          let fit = all_then is_fit reports report s.fit in
          let unset = unset_before train reports report s.unset in
          let phase = phase_then train reports report unset in
          by_then train reports report begun
          ∙ ap (by_report train report) (before (record { fit = fit.0; unset = unset }))
          ∙ fit_settling (phase_by train reports) report fit.1
          ∙ ap (λ stage. record { stage = stage; result = result })
          (ap stage_of (sym phase) ∙ stage_unset (phase_by train (then reports report)) s.unset)

  -- the report that settles it
  pub settled_is : (reports : List (List ℕ)) (steady : Float) → all_of is_fit reports ≡ true → SettledBy train reports steady
      → by_reports train reports begun ≡ braking_at steady 0
  settled_is reports steady e s =
      let fit = all_then is_fit s.earlier s.settling (subst (λ xs. all_of is_fit xs ≡ true) s.whole e) in
      let phase = sym (phase_then train s.earlier s.settling s.unset) ∙ ap (phase_by train) (sym s.whole) ∙ s.set in
      ap (λ xs. by_reports train xs begun) s.whole
      ∙ by_then train s.earlier s.settling begun
      ∙ ap (by_report train s.settling) (settles_is s.earlier (record { fit = fit.0; unset = s.unset }))
      ∙ fit_settling (phase_by train s.earlier) s.settling fit.1
      ∙ ap (λ is. record { stage = stage_of is; result = result }) phase

  -- further ones without a drop count
  counts_on : (steady : Float) (count : ℕ) (report : List ℕ) → is_fit report ≡ true → drops_from train steady report ≡ false
      → count + 1 < train.times.brake → by_report train report (braking_at steady count) ≡ braking_at steady (count + 1)
  unfolding braked_on
  counts_on steady count report fit none few = rw (fit, none, lt-leb train.times.brake (count + 1) few)

  counted : (steady : Float) (count : ℕ) (further : List (List ℕ)) → all_of is_fit further ≡ true
      → any_of (drops_from train steady) further ≡ false → count + length further < train.times.brake
      → by_reports train further (braking_at steady count) ≡ braking_at steady (count + length further)
  unfolding by_reports all_of any_of
  counted steady count [] fit none few = let same : count ≡ count + 0 = omega arith in ap (braking_at steady) same
  counted steady count (report ∷ further) fit none few =
      let t = neither (drops_from train steady report) (any_of (drops_from train steady) further) none in
      let now : count + 1 < train.times.brake = omega (arith, few) in
      let rest : count + 1 + length further < train.times.brake = omega (arith, few) in
      let same : count + 1 + length further ≡ count + suc (length further) = omega arith in
      ap (by_reports train further)
      (counts_on steady count report (and_left (is_fit report) (all_of is_fit further) fit) t.0 now)
      ∙ counted steady (count + 1) further (and_right (is_fit report) (all_of is_fit further) fit) t.1 rest
      ∙ ap (braking_at steady) same

  pub brakes_is : (reports : List (List ℕ)) (b : BrakesStill train reports)
      → by_reports train reports begun ≡ braking_at b.steady (length b.further)
  brakes_is reports b =
      let fit = all_and is_fit b.settling b.further (subst (λ xs. all_of is_fit xs ≡ true) b.whole b.fit) in
      let few : 0 + length b.further < train.times.brake = omega (arith, b.few) in
      let same : 0 + length b.further ≡ length b.further = omega arith in
      ap (λ xs. by_reports train xs begun) b.whole
      ∙ by_both train b.settling b.further begun
      ∙ ap (by_reports train b.further) (settled_is b.settling b.steady fit.0 b.settled)
      ∙ counted b.steady 0 b.further fit.1 b.none few
      ∙ ap (braking_at b.steady) same

  -- ---- a report that ends it

  pass_next : (steady : Float) (count : ℕ) (report : List ℕ) → is_fit report ≡ true → drops_from train steady report ≡ true
      → by_report train report (braking_at steady count) ≡ ended_test Verdict.Passed
  unfolding braked_on
  pass_next steady count report fit drop = rw (fit, drop)

  last_next : (steady : Float) (count : ℕ) (report : List ℕ) → is_fit report ≡ true → drops_from train steady report ≡ false
      → train.times.brake ≤ count + 1 → by_report train report (braking_at steady count) ≡ ended_test Verdict.Failed
  unfolding braked_on
  last_next steady count report fit none limit = rw (fit, none, le-leb train.times.brake (count + 1) limit)

  unfit_next : (test : BrakeTest) (report : List ℕ) → is_running test.stage ≡ true → is_fit report ≡ false
      → by_report train report test ≡ ended_test Verdict.Failed
  unfit_next test report runs e = rw (runs, e)

  passes_is : (reports : List (List ℕ)) (next : List ℕ) → Passes train reports next
      → by_reports train (then reports next) begun ≡ ended_test Verdict.Passed
  passes_is reports next p =
      by_then train reports next begun
      ∙ ap (by_report train next) (brakes_is reports p.brakes)
      ∙ pass_next p.brakes.steady (length p.brakes.further) next p.fit p.drop

  runs_is : (reports : List (List ℕ)) → RunsStill train reports → is_running (by_reports train reports begun).stage ≡ true
  runs_is reports (inl s) = ap (λ test. is_running test.stage) (settles_is reports s)
  runs_is reports (inr b) = ap (λ test. is_running test.stage) (brakes_is reports b)

  fails_is : (reports : List (List ℕ)) (next : List ℕ) → Fails train reports next
      → by_reports train (then reports next) begun ≡ ended_test Verdict.Failed
  fails_is reports next (inl (runs, unfit)) =
      by_then train reports next begun ∙ unfit_next (by_reports train reports begun) next (runs_is reports runs) unfit
  fails_is reports next (inr l) =
      let limit : train.times.brake ≤ length l.brakes.further + 1 = omega (arith, l.count) in
      by_then train reports next begun
      ∙ ap (by_report train next) (brakes_is reports l.brakes)
      ∙ last_next l.brakes.steady (length l.brakes.further) next l.fit l.none limit

  ended_is : (Ends : List (List ℕ) → List ℕ → Type 0) (verdict : Verdict)
      → ((before : List (List ℕ)) (next : List ℕ) → Ends before next → by_reports train (then before next) begun ≡ ended_test verdict)
      → (reports : List (List ℕ)) → EndedBy Ends reports → by_reports train reports begun ≡ ended_test verdict
  ended_is Ends verdict is reports e =
      ap (λ xs. by_reports train xs begun) (e.whole ∙ sym (append_assoc e.before (e.ending ∷ []) e.after))
      ∙ by_both train (then e.before e.ending) e.after begun
      ∙ ap (by_reports train e.after) (is e.before e.ending e.ends)
      ∙ by_idle train e.after verdict

  pub passed_is : (reports : List (List ℕ)) → EndedBy (Passes train) reports → by_reports train reports begun ≡ ended_test Verdict.Passed
  passed_is = ended_is (Passes train) Verdict.Passed passes_is

  pub failed_is : (reports : List (List ℕ)) → EndedBy (Fails train) reports → by_reports train reports begun ≡ ended_test Verdict.Failed
  failed_is = ended_is (Fails train) Verdict.Failed fails_is

  -- ---- one of the four holds of every list

  pub data Course (reports : List (List ℕ)) (test : BrakeTest) : Type 0 where
    settles : SettlesStill train reports → test ≡ settling_at (phase_by train reports) → Course reports test
    brakes : (b : BrakesStill train reports) → test ≡ braking_at b.steady (length b.further) → Course reports test
    passed : EndedBy (Passes train) reports → test ≡ ended_test Verdict.Passed → Course reports test
    failed : EndedBy (Fails train) reports → test ≡ ended_test Verdict.Failed → Course reports test

  ends_now : (Ends : List (List ℕ) → List ℕ → Type 0) (reports : List (List ℕ)) (next : List ℕ) → Ends reports next
      → EndedBy Ends (then reports next)
  ends_now Ends reports next e = record { before = reports; ending = next; after = []; whole = refl; ends = e }

  ended_then : (Ends : List (List ℕ) → List ℕ → Type 0) (reports : List (List ℕ)) (next : List ℕ) → EndedBy Ends reports
      → EndedBy Ends (then reports next)
  ended_then Ends reports next e = record {
    before = e.before;
    ending = e.ending;
    after = then e.after next;
    whole = ap (λ xs. then xs next) e.whole ∙ append_assoc e.before (e.ending ∷ e.after) (next ∷ []);
    ends = e.ends;
  }

  module _ (limit : 1 ≤ train.times.brake) where
    settle_next : (reports : List (List ℕ)) (next : List ℕ) → SettlesStill train reports → is_fit next ≡ true
        → (phase : Phase) → phase_by train (then reports next) ≡ phase → Course (then reports next) (record { stage = stage_of phase; result = result })
    settle_next reports next s fit Phase.Waiting is =
        settles (record { fit = all_join is_fit reports next s.fit fit; unset = ap is_set is }) (ap settling_at (sym is))
    settle_next reports next s fit (Phase.Settling saved n) is =
        settles (record { fit = all_join is_fit reports next s.fit fit; unset = ap is_set is }) (ap settling_at (sym is))
    settle_next reports next s fit (Phase.Set reference n) is =
        let zero_count = on_count train (external_of next) (phase_by train reports) reference n s.unset
        (sym (phase_then train reports next s.unset) ∙ is) in
        brakes (record {
          settling = then reports next;
          further = [];
          steady = reference;
          whole = sym (append-nil (then reports next));
          fit = all_join is_fit reports next s.fit fit;
          settled = record {
            earlier = reports;
            settling = next;
            whole = refl;
            unset = s.unset;
            set = is ∙ ap (Phase.Set reference) zero_count;
          };
          none = unfold any_of in refl;
          few = limit;
        }) refl

    settles_then : (reports : List (List ℕ)) (next : List ℕ) → SettlesStill train reports → (fit : Bool) → is_fit next ≡ fit
        → Course (then reports next) (by_report train next (settling_at (phase_by train reports)))
    settles_then reports next s true e =
        subst (Course (then reports next))
        (ap (λ phase. record { stage = stage_of phase; result = result }) (phase_then train reports next s.unset)
        ∙ sym (fit_settling (phase_by train reports) next e))
        (settle_next reports next s e (phase_by train (then reports next)) refl)
    settles_then reports next s false e =
        failed (ends_now (Fails train) reports next (inl (inl s, e))) (unfit_next (settling_at (phase_by train reports)) next refl e)

    brakes_on : (reports : List (List ℕ)) (next : List ℕ) (b : BrakesStill train reports) → is_fit next ≡ true
        → drops_from train b.steady next ≡ false → length b.further + 1 < train.times.brake
        → BrakesStill train (then reports next)
    brakes_on reports next b fit none few = record {
      settling = b.settling;
      further = then b.further next;
      steady = b.steady;
      whole = ap (λ xs. then xs next) b.whole ∙ append_assoc b.settling b.further (next ∷ []);
      fit = all_join is_fit reports next b.fit fit;
      settled = b.settled;
      none = none_join (drops_from train b.steady) b.further next b.none none;
      few = subst (λ n. n < train.times.brake) (sym (length_then b.further next)) few;
    }

    brakes_then : (reports : List (List ℕ)) (next : List ℕ) (b : BrakesStill train reports) (fit drop late : Bool) → is_fit next ≡ fit
        → drops_from train b.steady next ≡ drop → leb train.times.brake (length b.further + 1) ≡ late
        → Course (then reports next) (by_report train next (braking_at b.steady (length b.further)))
    unfolding brakes_on
    brakes_then reports next b true true late e d l =
        passed (ends_now (Passes train) reports next (record { brakes = b; fit = e; drop = d }))
        (pass_next b.steady (length b.further) next e d)
    brakes_then reports next b true false true e d l =
        let late = leb-true train.times.brake (length b.further + 1) l in
        let count : length b.further + 1 ≡ train.times.brake = omega (arith, late, b.few) in
        failed (ends_now (Fails train) reports next (inr (record { brakes = b; fit = e; none = d; count = count })))
        (last_next b.steady (length b.further) next e d late)
    brakes_then reports next b true false false e d l =
        let few = leb-false train.times.brake (length b.further + 1) l in
        brakes (brakes_on reports next b e d few)
        (counts_on b.steady (length b.further) next e d few ∙ ap (braking_at b.steady) (sym (length_then b.further next)))
    brakes_then reports next b false drop late e d l =
        failed (ends_now (Fails train) reports next (inl (inr b, e)))
        (unfit_next (braking_at b.steady (length b.further)) next refl e)

    course_then : (reports : List (List ℕ)) (next : List ℕ) (test : BrakeTest) → Course reports test
        → Course (then reports next) (by_report train next test)
    course_then reports next test (settles s is) =
        subst (λ t. Course (then reports next) (by_report train next t)) (sym is) (settles_then reports next s (is_fit next) refl)
    course_then reports next test (brakes b is) =
        subst (λ t. Course (then reports next) (by_report train next t)) (sym is)
        (brakes_then reports next b (is_fit next) (drops_from train b.steady next)
        (leb train.times.brake (length b.further + 1)) refl refl refl)
    course_then reports next test (passed e is) = passed (ended_then (Passes train) reports next e) (ap (by_report train next) is)
    course_then reports next test (failed e is) = failed (ended_then (Fails train) reports next e) (ap (by_report train next) is)

    pub course : (reports : List (List ℕ)) → Course reports (by_reports train reports begun)
    unfolding by_reports after_all fresh_feedback all_of
    course = from_front (λ reports. Course reports (by_reports train reports begun)) first next
      where
        first : Course [] (by_reports train [] begun)
        first = settles (record { fit = refl; unset = refl }) refl

        next : (reports : List (List ℕ)) (report : List ℕ) → Course reports (by_reports train reports begun)
            → Course (then reports report) (by_reports train (then reports report) begun)
        next reports report c =
            subst (Course (then reports report)) (sym (by_then train reports report begun))
            (course_then reports report (by_reports train reports begun) c)
