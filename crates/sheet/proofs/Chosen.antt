-- Which commands get a line. Assumes nothing.
use Prim.Native.Nat.{ℕ}
use mathlib.Core.Path.{◌≡◌, refl, sym, ap, ◌∙◌}
use mathlib.Core.Bool.{Bool, true, false, cond, ◌&&◌, false≢true, and-eq-true_iff}
use mathlib.Core.List.{List, [], ◌∷◌, ◌++◌, append-nil}
use native.Mathlib.Omega.{arith}
use lib.Dec.{eqb}
use lib.ListN.{length}
use borrow.Author.Tests.{eqb-true, eq-eqb, not-false}
use Rattle.std.specs.Prelude.{Option, None, Some}
use Rattle.wire.specs.Report.{state_in, order_in, permitted_in}
use Rattle.sheet.specs.declared.Line.{Line}
use Rattle.sheet.specs.Columns.{Entry}
use Rattle.sheet.specs.Pages.{printed_as, differs, printed_from, printed_of}
use Rattle.sheet.specs.Claims.{Alike, PrintedWhereItDiffers, LinesDiffer}

-- ---- the three

record Same (o p s : ℕ) (report : List ℕ) : Type 0 where
  order : order_in report ≡ o
  permitted : permitted_in report ≡ p
  state : state_in report ≡ s

not_different : (l : Line) (report : List ℕ) → differs (Some l) report ≡ false → Same l.order l.permitted l.state report
unfolding differs
not_different l report e =
    let (both, third) = (and-eq-true_iff (eqb (order_in report) l.order && eqb (permitted_in report) l.permitted) (eqb (state_in report) l.state)).0 (not-false _ e) in
    let (first, second) = (and-eq-true_iff (eqb (order_in report) l.order) (eqb (permitted_in report) l.permitted)).0 both in
    record { order = eqb-true _ _ first; permitted = eqb-true _ _ second; state = eqb-true _ _ third }

-- what is not different is the line as it would be printed
like_line : (last : Option Line) (report : List ℕ) → differs last report ≡ false → last ≡ Some (printed_as report)
unfolding differs
like_line None report e = absurd (false≢true (sym e))
like_line (Some l) report e =
    let same = not_different l report e in
    λ i. Some (record { order = sym same.order i; permitted = sym same.permitted i; state = sym same.state i })

alike_same : (a b : Entry) → Alike a b → differs (Some (printed_as a.report)) b.report ≡ false
unfolding differs
alike_same a b h = rw (eq-eqb _ _ (sym h.order), eq-eqb _ _ (sym h.permitted), eq-eqb _ _ (sym h.state))

other_differs : (a b : Entry) → (Alike a b → ⊥) → differs (Some (printed_as a.report)) b.report ≡ true
other_differs a b h = by (differs (Some (printed_as a.report)) b.report) refl
  where
    by : (t : Bool) → differs (Some (printed_as a.report)) b.report ≡ t → t ≡ true
    by true e = refl
    by false e =
        let same = not_different (printed_as a.report) b.report e in
        absurd (h (record { order = sym same.order; permitted = sym same.permitted; state = sym same.state }))

-- ---- the last line, and the last command

unfoldable last_after : Option Line → List Entry → Option Line
last_after last [] = last
last_after last (e ∷ es) = cond (differs last e.report) (last_after (Some (printed_as e.report)) es) (last_after last es)

printed_last : (last : Option Line) (es : List Entry) (b : Entry)
    → printed_from last (es ++ (b ∷ [])) ≡ printed_from last es ++ cond (differs (last_after last es) b.report) (b ∷ []) []
unfolding printed_from last_after
printed_last last [] b = refl
printed_last last (e ∷ es) b =
    by (differs last e.report) (printed_last (Some (printed_as e.report)) es b) (printed_last last es b)
  where
    by : (t : Bool)
        → (printed_from (Some (printed_as e.report)) (es ++ (b ∷ []))
        ≡ printed_from (Some (printed_as e.report)) es ++ cond (differs (last_after (Some (printed_as e.report)) es) b.report) (b ∷ []) [])
        → (printed_from last (es ++ (b ∷ [])) ≡ printed_from last es ++ cond (differs (last_after last es) b.report) (b ∷ []) [])
        → cond t (e ∷ printed_from (Some (printed_as e.report)) (es ++ (b ∷ []))) (printed_from last (es ++ (b ∷ [])))
        ≡ cond t (e ∷ printed_from (Some (printed_as e.report)) es) (printed_from last es)
        ++ cond (differs (cond t (last_after (Some (printed_as e.report)) es) (last_after last es)) b.report) (b ∷ []) []
    by true p q = ap (λ l. e ∷ l) p
    by false p q = q

last_command : (last : Option Line) (es : List Entry) (a : Entry) → last_after last (es ++ (a ∷ [])) ≡ Some (printed_as a.report)
unfolding last_after
last_command last [] a = by (differs last a.report) refl
  where
    by : (t : Bool) → differs last a.report ≡ t → cond t (Some (printed_as a.report)) last ≡ Some (printed_as a.report)
    by true e = refl
    by false e = like_line last a.report e
last_command last (e ∷ es) a =
    by (differs last e.report) (last_command (Some (printed_as e.report)) es a) (last_command last es a)
  where
    by : (t : Bool) → last_after (Some (printed_as e.report)) (es ++ (a ∷ [])) ≡ Some (printed_as a.report) → last_after last (es ++ (a ∷ [])) ≡ Some (printed_as a.report)
        → cond t (last_after (Some (printed_as e.report)) (es ++ (a ∷ []))) (last_after last (es ++ (a ∷ []))) ≡ Some (printed_as a.report)
    by true p q = p
    by false p q = q

after_command : (es : List Entry) (a b : Entry) (t : Bool) → differs (Some (printed_as a.report)) b.report ≡ t
    → printed_of (es ++ (a ∷ []) ++ (b ∷ [])) ≡ printed_of (es ++ (a ∷ [])) ++ cond t (b ∷ []) []
after_command es a b t e =
    printed_last None (es ++ (a ∷ [])) b
    ∙ ap (λ last. printed_of (es ++ (a ∷ [])) ++ cond (differs last b.report) (b ∷ []) []) (last_command None es a)
    ∙ ap (λ u. printed_of (es ++ (a ∷ [])) ++ cond u (b ∷ []) []) e

pub printed_where_it_differs : PrintedWhereItDiffers
unfolding printed_from differs
printed_where_it_differs = (
  λ e. refl,
  λ es a b. (
    λ h. after_command es a b false (alike_same a b h) ∙ append-nil (printed_of (es ++ (a ∷ []))),
    λ h. after_command es a b true (other_differs a b h),
  ),
)

-- ---- two lines that follow one another

record First (last : Option Line) (x : Entry) (rest : List Entry) : Type 0 where
  different : differs last x.report ≡ true
  later : List Entry
  from : printed_from (Some (printed_as x.report)) later ≡ rest

none : {A : Type 0} (x : A) (xs : List A) → ◌≡◌ {A = List A} [] (x ∷ xs) → ⊥
none x xs e = let l = ap length e in omega (arith, l)

first_printed : (last : Option Line) (es : List Entry) (x : Entry) (rest : List Entry) → printed_from last es ≡ x ∷ rest → First last x rest
unfolding printed_from
first_printed last [] x rest e = absurd (none x rest e)
first_printed last (y ∷ ys) x rest e = by (differs last y.report) refl e (first_printed last ys x rest)
  where
    by : (t : Bool) → differs last y.report ≡ t → cond t (y ∷ printed_from (Some (printed_as y.report)) ys) (printed_from last ys) ≡ x ∷ rest
        → (printed_from last ys ≡ x ∷ rest → First last x rest) → First last x rest
    by true d e more =
        let same : y ≡ x = cc e in
        let on : printed_from (Some (printed_as y.report)) ys ≡ rest = cc e in
        record { different = ap (λ z. differs last z.report) (sym same) ∙ d; later = ys; from = ap (λ z. printed_from (Some (printed_as z.report)) ys) (sym same) ∙ on }
    by false d e more = more e

differ_from : (last : Option Line) (es before after : List Entry) (a b : Entry) → printed_from last es ≡ before ++ (a ∷ b ∷ after) → Alike a b → ⊥
differ_from last es [] after a b e h =
    let first = first_printed last es a (b ∷ after) e in
    let second = first_printed (Some (printed_as a.report)) first.later b after first.from in
    false≢true (sym (alike_same a b h) ∙ second.different)
differ_from last es (c ∷ cs) after a b e h =
    let first = first_printed last es c (cs ++ (a ∷ b ∷ after)) e in
    differ_from (Some (printed_as c.report)) first.later cs after a b first.from h

pub lines_differ : LinesDiffer
lines_differ entries before after a b e h = differ_from None entries before after a b e h
