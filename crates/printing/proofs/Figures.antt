-- Every figure of a report has room in its columns. Assumes nothing.
use Prim.Native.Nat.{ℕ, max, ◌^◌, ◌≤◌, ◌<◌}
use mathlib.Core.Path.{◌≡◌, refl, sym, ap, subst, ◌∙◌}
use mathlib.Core.Bool.{Bool, true, false, cond}
use mathlib.Core.List.Memᴰ
use mathlib.Core.List.{List, [], ◌∷◌, map, foldr, Memᴰ}
use mathlib.Core.Logic.{◌⊎◌, inl, inr}
use native.Mathlib.Omega.{arith}
use lib.Dec.{lit≤}
use Rattle.std.specs.Prelude.{Option, Some, None}
use Rattle.wire.specs.Report.{state_in, order_in, causes_in, permitted_in, vmax_in, id_in, shown_in}
use Rattle.curve.specs.declared.Interval.{Interval}
use Rattle.curve.specs.declared.Shown.{Shown}
use Rattle.interval.specs.Intervals.{shown_number}
use Rattle.colours.specs.Numbers.{showing_number}
use Rattle.rules.specs.Numbers.{is_accepted}
use Rattle.rules.specs.Operands.{number_of, bit_of}
use Rattle.rules.specs.Commands.{fresh_stm}
use Rattle.rules.specs.Runs.{Sent, moment_of, answer_to, state_after, send}
use Rattle.rules.specs.History.{is_in}
use Rattle.rules.specs.Units.{IsUnit}
use Rattle.rules.specs.Written.{Strength, strengths, WrittenInDA, StateAndOrder, order_in_test, WrittenOutside}
use Rattle.rules.specs.declared.State.{State}
use Rattle.rules.specs.declared.Stage.{Stage}
use Rattle.rules.specs.declared.Stm.{Stm}
use Rattle.rules.proofs.Answers.{passed, after_accepted}
use Rattle.rules.proofs.Keeps.{speed_most, call_keeps_unit}
use Rattle.rules.proofs.Once.{accepted_started}
use Rattle.rules.proofs.UnitParts.{fresh_is_unit}
use Rattle.rules.proofs.Written.{report_in_da_lem, report_outside_da, every_report_has_a_row}
use Rattle.sheet.specs.Columns.{Entry, entry}
use Rattle.sheet.specs.Claims.{FitsColumns}
use Rattle.printing.specs.Sheets.{entry_at, entries_of}
use Rattle.printing.specs.Claims.{FiguresFit}
use Rattle.printing.proofs.Promises.{none_given, one_given}

-- ---- the order

abbrev AreMild : List Strength → Type 0
AreMild [] = Unit {0}
AreMild (row ∷ rows) = (row.flagged ≤ 3) × (row.plain ≤ 3) × AreMild rows

mild_row : (stands softly : Bool) (row : Strength) → row.flagged ≤ 3 → row.plain ≤ 3 → cond stands (cond softly row.flagged row.plain) 0 ≤ 3
mild_row true true row f p = f
mild_row true false row f p = p
mild_row false softly row f p = omega arith

mild_order : (softly : Bool) (causes : ℕ) (rows : List Strength) → AreMild rows
    → foldr max 0 (map (λ row. cond (bit_of row.bit causes) (cond softly row.flagged row.plain) 0) rows) ≤ 3
mild_order softly causes [] h = omega arith
mild_order softly causes (row ∷ rows) h =
    let first = mild_row (bit_of row.bit causes) softly row h.0 h.1 in
    let rest = mild_order softly causes rows h.2 in omega (arith, first, rest)

test_order_lem : (stage : Stage) → order_in_test stage < 10
test_order_lem Stage.Idle = omega arith
test_order_lem (Stage.Settling phase) = omega arith
test_order_lem (Stage.Braking steady reports) = omega arith

-- ---- the interval

shown_most : (shown : Shown) → shown_number shown ≤ 8
shown_most (Shown.Computed Interval.A) = lit≤ tt
shown_most Shown.Ab = lit≤ tt
shown_most (Shown.Computed Interval.Bf) = lit≤ tt
shown_most (Shown.Computed Interval.B) = lit≤ tt
shown_most (Shown.Computed Interval.C) = lit≤ tt
shown_most (Shown.Computed Interval.D) = lit≤ tt
shown_most (Shown.Computed Interval.E) = lit≤ tt
shown_most (Shown.Computed Interval.F) = lit≤ tt

showing_most : (showing : Option Shown) → showing_number showing ≤ 8
showing_most None = lit≤ tt
showing_most (Some shown) = shown_most shown

-- ---- a report

record Fits (report : List ℕ) : Type 0 where
  state : state_in report ≤ 4
  order : order_in report < 10
  permitted : permitted_in report < 1000
  vmax : vmax_in report < 1000
  causes : causes_in report < 16 ^ 4

fits_in_da : (stm : Stm) (report : List ℕ) → stm.train.speed ≤ 300 → WrittenInDA stm report → Fits report
fits_in_da stm report speed w =
    let order = mild_order stm.train.softly (causes_in report) strengths
    (lit≤ tt, lit≤ tt, (lit≤ tt, lit≤ tt, (lit≤ tt, lit≤ tt, (lit≤ tt, lit≤ tt, (lit≤ tt, lit≤ tt, (lit≤ tt, lit≤ tt, (lit≤ tt, lit≤ tt, (lit≤ tt, lit≤ tt, (lit≤ tt, lit≤ tt, (lit≤ tt, lit≤ tt, (lit≤ tt, lit≤ tt, (lit≤ tt, lit≤ tt, tt)))))))))))) in record {
      state = let s = w.state in omega (arith, s);
      order = let o = w.order in omega (arith, o, order);
      permitted = let p = w.permitted.holds.top in omega (arith, p);
      vmax = let v = w.vmax.holds.speed in omega (arith, v, speed);
      causes = let n = w.no_other in omega (arith, n);
    }

fits_outside : (state : State) (stage : Stage) (report : List ℕ) → WrittenOutside state stage report → Fits report
fits_outside state stage report w = by state w.first
  where
    fits : state_in report ≤ 4 → order_in report < 10 → Fits report
    fits s o = record {
      state = s;
      order = o;
      permitted = let p = w.permitted in omega (arith, p);
      vmax = let v = w.vmax in omega (arith, v);
      causes = let n = w.causes in omega (arith, n);
    }

    by : (state : State) → StateAndOrder state stage report → Fits report
    by State.DE f = let t = test_order_lem stage in fits (omega (arith, f.0)) (omega (arith, f.1, t))
    by State.CS f = fits (omega (arith, f.0)) (omega (arith, f.1))
    by State.HS f = fits (omega (arith, f.0)) (omega (arith, f.1))
    by State.DA f = absurd f
    by State.FA f = fits (omega (arith, f.0)) (omega (arith, f.1))

fits_report : (stm : Stm) (x : Sent) → IsUnit stm → is_accepted (answer_to stm x) ≡ true → Fits (moment_of stm x).area
fits_report stm x unit e = by (is_in State.DA (state_after stm x)) refl
  where
    started : (state_after stm x).control.started ≡ true
    started = ap (λ s. s.control.started) (after_accepted stm x e) ∙ accepted_started stm x.command (passed stm x e).1

    by : (t : Bool) → is_in State.DA (state_after stm x) ≡ t → Fits (moment_of stm x).area
    by true d =
        fits_in_da (state_after stm x) (moment_of stm x).area (speed_most (state_after stm x).train ((call_keeps_unit stm x unit).train started))
        (report_in_da_lem stm x e d)
    by false d = fits_outside (state_after stm x).control.state (state_after stm x).test.stage (moment_of stm x).area (report_outside_da stm x e d)

-- ---- the entries of a run

entry_fits : (stm : Stm) (p : List ℕ) (e : Entry) → IsUnit stm → is_accepted (answer_to stm (send p)) ≡ true
    → e ≡ entry (number_of p) (moment_of stm (send p)).area → e.number < 256 ^ 4 → id_in e.report < 256 → FitsColumns e
entry_fits stm p e unit a is n i =
    let fits : Fits e.report = subst (λ r. Fits r) (sym (ap (λ x. x.report) is)) (fits_report stm (send p) unit a) in
    let row = every_report_has_a_row stm (send p) a in
    let shown : shown_in e.report ≡ showing_number row.row.showing = ap (λ x. shown_in x.report) is ∙ row.interval in record {
      number = omega (arith, n);
      state = fits.state;
      order = fits.order;
      permitted = fits.permitted;
      vmax = fits.vmax;
      id = omega (arith, i);
      interval = let most = showing_most row.row.showing in omega (arith, shown, most);
      causes = fits.causes;
    }

one_fits : (t : Bool) (stm : Stm) (p : List ℕ) (e : Entry) → IsUnit stm → is_accepted (answer_to stm (send p)) ≡ t
    → Memᴰ e (cond t (entry (number_of p) (moment_of stm (send p)).area ∷ []) []) → e.number < 256 ^ 4 → id_in e.report < 256 → FitsColumns e
one_fits true stm p e unit a (Memᴰ.head is) n i = entry_fits stm p e unit a is n i
one_fits true stm p e unit a (Memᴰ.tail m) n i = absurd (Memᴰ.not-nil m)
one_fits false stm p e unit a m n i = absurd (Memᴰ.not-nil m)

all_fit : (stm : Stm) (ps : List (List ℕ)) (e : Entry) → IsUnit stm → Memᴰ e (entries_of stm ps)
    → e.number < 256 ^ 4 → id_in e.report < 256 → FitsColumns e
all_fit stm [] e unit m n i = absurd (Memᴰ.not-nil (subst (Memᴰ e) (none_given stm) m))
all_fit stm (p ∷ ps) e unit m n i =
    by (Memᴰ.append_cases (entry_at p (moment_of stm (send p))) (subst (Memᴰ e) (one_given stm p ps) m))
    (λ later. all_fit (state_after stm (send p)) ps e (call_keeps_unit stm (send p) unit) later n i)
  where
    by : Memᴰ e (entry_at p (moment_of stm (send p))) ⊎ Memᴰ e (entries_of (state_after stm (send p)) ps)
        → (Memᴰ e (entries_of (state_after stm (send p)) ps) → FitsColumns e) → FitsColumns e
    by (inl now) more = one_fits (is_accepted (answer_to stm (send p))) stm p e unit refl now n i
    by (inr later) more = more later

pub figures_fit : FiguresFit
figures_fit portions e m n i = all_fit fresh_stm portions e fresh_is_unit m n i
