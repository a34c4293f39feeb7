-- A number put into columns from its last digit on, and a line put into a room. Assumes nothing.
use Prim.Native.Nat.{ℕ, suc, ◌+◌, ◌-◌, ◌/◌, ◌%◌, ◌≤◌, ◌<◌}
use mathlib.Core.Path.{◌≡◌, sym, ap, ap₂, ◌∙◌}
use mathlib.Core.Bool.{cond}
use mathlib.Core.List.{List, [], ◌∷◌, ◌++◌, append_assoc}
use native.Mathlib.Omega.{arith}
use lib.Dec.{eqb}
use lib.ListN.{length, take, drop, set, take-append-drop}
use lib.Seq.{append_snoc, drop-cons, drop-drop, drop-set-lt, take-set-le, get_or-set_same, lt-length-set}
use Rattle.wire.specs.Text.{digit_of}
use Rattle.sheet.specs.Columns.{leading, numeral, in_columns}

-- what stands from a place on that was written
from_set : (l : List ℕ) (i x : ℕ) → i < length l → drop i (set l i x) ≡ x ∷ drop (suc i) l
from_set l i x h =
    drop-cons (set l i x) i 0 (lt-length-set l i x h)
    ∙ ap₂ ◌∷◌ (get_or-set_same l i x 0 h) (drop-set-lt (suc i) l i x (omega arith))

-- a digit more: what is still to come and what stands make up the same
pub digit_put : (base fill first to rest x : ℕ) (line : List ℕ) → 1 ≤ first → first ≤ to → to ≤ length line
    → x ≡ cond (eqb rest 0) fill (digit_of (rest % base))
    → leading base fill (to - 1 + 1 - first) (rest / base) ++ drop (to - 1) (set line (to - 1) x)
    ≡ leading base fill (to + 1 - first) rest ++ drop to line
unfolding leading
digit_put base fill first to rest x line g h k e =
    let more : to + 1 - first ≡ suc (to - 1 + 1 - first) = omega arith in
    let at : suc (to - 1) ≡ to = omega arith in
    rw (from_set line (to - 1) x (omega arith), at, more, e)
    (sym (append_snoc (leading base fill (to - 1 + 1 - first) (rest / base)) (cond (eqb rest 0) fill (digit_of (rest % base))) (drop to line)))

-- the last digit, and all of them
pub number_put : (base fill first last n x : ℕ) (line : List ℕ) → 1 ≤ first → first ≤ last → last ≤ length line → x ≡ digit_of (n % base)
    → take (first - 1) (set line (last - 1) x) ++ (leading base fill (last - 1 + 1 - first) (n / base) ++ drop (last - 1) (set line (last - 1) x))
    ≡ in_columns first last (numeral base fill (last + 1 - first) n) line
unfolding numeral in_columns
number_put base fill first last n x line g h k e =
    let more : last + 1 - first ≡ suc (last - 1 + 1 - first) = omega arith in
    let at : suc (last - 1) ≡ last = omega arith in
    let ahead = leading base fill (last - 1 + 1 - first) (n / base) in
    rw (take-set-le (first - 1) line (last - 1) x (omega arith), from_set line (last - 1) x (omega arith), at, more, e)
    (ap (λ t. take (first - 1) line ++ t) (sym (append_snoc ahead (digit_of (n % base)) (drop last line)))
    ∙ sym (append_assoc (take (first - 1) line) (ahead ++ (digit_of (n % base) ∷ [])) (drop last line)))

-- where nothing is to come, the line is whole
pub all_put : (base fill first to rest : ℕ) (before line : List ℕ) → 1 ≤ first → to ≡ first - 1 → take (first - 1) line ≡ take (first - 1) before
    → line ≡ take (first - 1) before ++ (leading base fill (to + 1 - first) rest ++ drop to line)
unfolding leading
all_put base fill first to rest before line g e same =
    let none : to + 1 - first ≡ 0 = omega arith in
    rw (none, e) (sym (take-append-drop (first - 1) line) ∙ ap (λ t. t ++ drop (first - 1) line) same)

-- ---- a text put into a part of an area

pub part_put : (from to : ℕ) (area text part : List ℕ) → from ≤ to → part ≡ text
    → take from area ++ (part ++ drop (to - from) (drop from area)) ≡ take from area ++ text ++ drop to area
part_put from to area text part h e =
    let end : from + (to - from) ≡ to = omega arith in
    rw (e, drop-drop (to - from) from area, end) (sym (append_assoc (take from area) text (drop to area)))
