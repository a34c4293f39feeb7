-- What is promised of the rows, computed at each thing that can be shown. Assumes nothing.
use mathlib.Core.Path.{◌≡◌, refl, sym, ◌∙◌, ap, subst}
use Prim.Native.Nat.{ℕ}
use mathlib.Core.Bool.{Bool, true, false, cond, not, ◌&&◌, false≢true}
use mathlib.Core.List.Memᴰ
use mathlib.Core.List.{List, [], ◌∷◌}
use lib.Dec.{eqb}
use lib.ListN.{length, get_or}
use borrow.Author.Tests.{eqb-true}
use Rattle.std.specs.Prelude.{Option, Some, None}
use Rattle.curve.specs.declared.Interval.{Interval}
use Rattle.curve.specs.declared.Shown.{Shown}
use Rattle.colours.specs.Numbers.{bar_number, mode_number}
use Rattle.colours.specs.Rows.{rows, holds_for, passing, rows_for, first_of, row_of}
use Rattle.colours.specs.Before.{bar_before, mode_before}
use Rattle.colours.specs.Claims.{OneRow, OneRowHolds, AbIsOneRow}
use Rattle.colours.specs.declared.Row.{Row}
use Rattle.laws.proofs.Lists.{◌∈◌}

and_parts : (a b : Bool) → (a && b) ≡ true → (a ≡ true) × (b ≡ true)
and_parts true b e = (refl, e)
and_parts false b e = absurd (false≢true e)

-- the test: of these rows there is one, with this bar and this mode
is_one : ℕ → ℕ → List Row → Bool
is_one bar mode [] = false
is_one bar mode (r ∷ []) = eqb (bar_number r.bar) bar && eqb (mode_number r.mode) mode
is_one bar mode (r ∷ s ∷ rs) = false

is_one_at : Bool → Bool → Option Shown → Bool
is_one_at past sufficient showing = is_one (bar_before showing) (mode_before past (not sufficient) showing) (rows_for past sufficient showing)

one_at : (past sufficient : Bool) (showing : Option Shown) → is_one_at past sufficient showing ≡ true → OneRow past sufficient showing
unfolding is_one is_one_at row_of
one_at past sufficient showing t = by (rows_for past sufficient showing) refl t
  where
    by : (held : List Row) → rows_for past sufficient showing ≡ held
        → is_one (bar_before showing) (mode_before past (not sufficient) showing) held ≡ true → OneRow past sufficient showing
    by [] e t = absurd (false≢true t)
    by (r ∷ []) e t =
        let u = and_parts (eqb (bar_number r.bar) (bar_before showing)) _ t in
        record { row = r; alone = e; counted = ap length e; taken = ap first_of e; bar = eqb-true _ _ u.0; mode = eqb-true _ _ u.1 }
    by (r ∷ s ∷ rs) e t = absurd (false≢true t)

-- at each thing that can be shown, under each of the four conditions
conditions : Option Shown → List Bool
conditions showing = is_one_at true true showing ∷ is_one_at true false showing ∷ is_one_at false true showing ∷ is_one_at false false showing ∷ []

computed : (showing : Option Shown) → conditions showing ≡ true ∷ true ∷ true ∷ true ∷ []
unfolding rows holds_for passing rows_for is_one is_one_at conditions
computed None = refl
computed (Some Shown.Ab) = refl
computed (Some (Shown.Computed Interval.A)) = refl
computed (Some (Shown.Computed Interval.Bf)) = refl
computed (Some (Shown.Computed Interval.B)) = refl
computed (Some (Shown.Computed Interval.C)) = refl
computed (Some (Shown.Computed Interval.D)) = refl
computed (Some (Shown.Computed Interval.E)) = refl
computed (Some (Shown.Computed Interval.F)) = refl

pub one_row_holds : OneRowHolds
unfolding conditions
one_row_holds true true showing = one_at true true showing (ap (λ l. get_or l 0 true) (computed showing))
one_row_holds true false showing = one_at true false showing (ap (λ l. get_or l 1 true) (computed showing))
one_row_holds false true showing = one_at false true showing (ap (λ l. get_or l 2 true) (computed showing))
one_row_holds false false showing = one_at false false showing (ap (λ l. get_or l 3 true) (computed showing))

pub ab_is_one_row : AbIsOneRow
unfolding rows holds_for passing rows_for
ab_is_one_row past sufficient past' sufficient' = refl

-- a row that passes stands in the table
passing_from : (test : Row → Bool) (table : List Row) {row : Row} → row ∈ passing test table → (row ∈ table) × (test row ≡ true)
unfolding passing
passing_from test [] m = absurd (Memᴰ.not-nil m)
passing_from test (r ∷ rs) m = by (test r) refl m (passing_from test rs)
  where
    by : {row : Row} (t : Bool) → test r ≡ t → row ∈ cond t (r ∷ passing test rs) (passing test rs)
        → (row ∈ passing test rs → (row ∈ rs) × (test row ≡ true)) → (row ∈ (r ∷ rs)) × (test row ≡ true)
    by true t (Memᴰ.head p) on = (Memᴰ.head p, ap test p ∙ t)
    by true t (Memᴰ.tail m) on = let o = on m in (Memᴰ.tail o.0, o.1)
    by false t m on = let o = on m in (Memᴰ.tail o.0, o.1)

-- and so does the one that holds
pub row_listed : (past sufficient : Bool) (showing : Option Shown) (row : Row) → rows_for past sufficient showing ≡ row ∷ []
    → (row ∈ rows) × (holds_for past sufficient showing row ≡ true)
unfolding rows_for
row_listed past sufficient showing row e =
    passing_from (holds_for past sufficient showing) rows (subst (λ held. row ∈ held) (sym e) (Memᴰ.head refl))
