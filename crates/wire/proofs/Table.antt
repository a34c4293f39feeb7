-- The laws of the table "Codes and whole lengths". Assumes nothing.
use Prim.Native.Nat.{ℕ, ◌<◌, ◌≤◌}
use mathlib.Core.Path.{◌≡◌, refl, sym, ap, ap₂}
use mathlib.Core.Bool.{Bool, true, false, cond, false≢true}
use mathlib.Core.List.Memᴰ
use mathlib.Core.List.{List, [], ◌∷◌, map}
use lib.Dec.{eqb, leb}
use lib.ListN.{length, get_or}
use borrow.Author.Tests.{eqb-true, leb-true}
use Rattle.std.specs.Prelude.{Option, None, Some, option_map, find}
use Rattle.wire.specs.declared.codes.Row.{Row}
use Rattle.wire.specs.Codes.{row, shortest, longest, commands, length_in, length_of}
use Rattle.laws.proofs.Lists.{◌∈◌, never, distinct_at, every_holds, cond_first}

-- what the iterator finds, and the length in its row
pub length_found : (rows : List Row) (c : ℕ) → option_map (λ (r : Row). r.length) (find (λ (r : Row). eqb r.code c) rows) ≡ length_in rows c
unfolding length_in
length_found [] c = refl
length_found (r ∷ rows) c = by (eqb r.code c) (length_found rows c)
  where
    by : (t : Bool) → option_map (λ (r : Row). r.length) (find (λ (r : Row). eqb r.code c) rows) ≡ length_in rows c
        → option_map (λ (r : Row). r.length) (cond t (Some r) (find (λ (r : Row). eqb r.code c) rows)) ≡ cond t (Some r.length) (length_in rows c)
    by true e = refl
    by false e = e

gives : ℕ → Option ℕ → Bool
gives n (Some m) = eqb m n
gives n None = false

gives_bytes : (n : ℕ) (l : Option ℕ) → gives n l ≡ true → l ≡ Some n
unfolding gives
gives_bytes n (Some m) e = ap Some (eqb-true m n e)
gives_bytes n None e = absurd (false≢true e)

found : Row → Bool
found r = gives r.length (length_of r.code)

within : Row → Bool
within r = cond (leb shortest r.length) (leb r.length longest) false

-- every row is found: its code gives its length
pub row_found : {r : Row} → r ∈ commands → length_of r.code ≡ Some r.length
unfolding gives found commands length_in length_of
row_found {r} m = gives_bytes r.length (length_of r.code) (every_holds found commands refl m)

found_in : (rows : List Row) (c n : ℕ) → length_in rows c ≡ Some n → row c n ∈ rows
unfolding length_in
found_in [] c n e = absurd (never (cc))
found_in (r ∷ rs) c n e = by (eqb r.code c) refl (found_in rs c n)
  where
    by : (t : Bool) → eqb r.code c ≡ t → (length_in rs c ≡ Some n → row c n ∈ rs) → row c n ∈ (r ∷ rs)
    by true t f =
        let p : Some r.length ≡ Some n = rw t at e in
        let q : n ≡ r.length = cc in
        Memᴰ.head (ap₂ row (sym (eqb-true r.code c t)) q)
    by false t f = Memᴰ.tail (f (rw t at e))

-- and no other code is: a code that gives a length stands in a row with it
pub found_row : (c n : ℕ) → length_of c ≡ Some n → row c n ∈ commands
unfolding length_of
found_row c n e = found_in commands c n e

-- no code stands in two rows
abbrev pub codes : List ℕ
codes = map (λ (r : Row). r.code) commands

pub codes_distinct : (i j : ℕ) → i < j → j < length codes → get_or codes i 0 ≡ get_or codes j 0 → ⊥
unfolding commands
codes_distinct i j h k = distinct_at codes refl i j h k

-- no length is below that of the shortest or above that of the longest
pub lengths_within : (c n : ℕ) → length_of c ≡ Some n → (shortest ≤ n) × (n ≤ longest)
unfolding commands within
lengths_within c n e =
    let t = cond_first (leb shortest n) (leb n longest) false (every_holds within commands refl (found_row c n e)) false≢true in
    (leb-true shortest n t.0, leb-true n longest t.1)

-- and both stand: 01 start is as long as the longest, 31 proceed signal has 5 bytes
pub start_length : length_of 0x01 ≡ Some longest
unfolding commands length_in length_of
start_length = refl

pub proceed_length : length_of 0x31 ≡ Some 5
unfolding commands length_in length_of
proceed_length = refl
