-- Bytes written in place, and the digits of a number and of a report by them. Assumes nothing.
use Prim.Native.Nat.{ℕ, zero, suc, ◌+◌, ◌-◌, ◌<◌, ◌≤◌, ◌/◌, ◌%◌}
use mathlib.Core.Path.{◌≡◌, refl, sym, ◌∙◌, ap}
use mathlib.Core.List.{List, [], ◌∷◌, ◌++◌, append_assoc}
use native.Mathlib.Omega.{arith}
use native.Mathlib.Nat.{sub-zero, zero-sub, suc-sub-suc}
use native.Mathlib.Numerals.{add-one}
use lib.ListN.{length, length-set, take, drop, set, get_or, replicate}
use lib.Seq.{take-suc, take-suc-set, drop-drop, drop-set-lt}
use borrow.Author.Tests.{lt-ltb, le-ltb}
use Rattle.wire.specs.Text.{digit_of}
use Rattle.line.specs.Lines.{decimal_of, hex_of}

-- one byte and two bytes written at a place
pub put_one : (l : List ℕ) (i x : ℕ) → i < length l → take (i + 1) (set l i x) ≡ take i l ++ (x ∷ [])
put_one l i x h = rw add-one (take-suc-set l i x h)

pub put_two : (l : List ℕ) (i x y : ℕ) → i + 1 < length l → take (i + 2) (set (set l i x) (i + 1) y) ≡ take i l ++ (x ∷ y ∷ [])
put_two l i x y h =
    let two : i + 2 ≡ i + 1 + 1 = omega arith in
    rw two (put_one (set l i x) (i + 1) y (rw (length-set l i x) h))
    ∙ ap (λ t. t ++ (y ∷ [])) (put_one l i x (omega arith)) ∙ append_assoc (take i l) (x ∷ []) (y ∷ [])

-- what lies behind a place is the same behind every later one
pub drop_more : (n k : ℕ) (a b : List ℕ) → n ≤ k → drop n a ≡ drop n b → drop k a ≡ drop k b
drop_more n k a b h e =
    let on : k ≡ n + (k - n) = omega arith in
    rw on (sym (drop-drop (k - n) n a) ∙ ap (drop (k - n)) e ∙ drop-drop (k - n) n b)

-- and it stays where two bytes are written in front of it
pub behind_two : (l : List ℕ) (i x y : ℕ) → drop (i + 2) (set (set l i x) (i + 1) y) ≡ drop (i + 2) l
behind_two l i x y = drop-set-lt (i + 2) (set l i x) (i + 1) y (omega arith) ∙ drop-set-lt (i + 2) l i x (omega arith)

pub drop_replicate : (n k x : ℕ) → drop n (replicate k x) ≡ replicate (k - n) x
drop_replicate zero k x = rw (sub-zero k)
drop_replicate (suc n) zero x = rw (zero-sub (suc n))
drop_replicate (suc n) (suc k) x = drop_replicate n k x ∙ rw (suc-sub-suc k n)

-- the digits of a number written at the front, by how many it has
pub one_digit : (l : List ℕ) (n : ℕ) {x : ℕ} → 1 ≤ length l → n < 10 → x ≡ digit_of n → take 1 (set l 0 x) ≡ decimal_of n
unfolding decimal_of
one_digit l n h k e = put_one l 0 _ h ∙ rw (e, lt-ltb n 10 k)

pub two_digits : (l : List ℕ) (n : ℕ) {x y : ℕ} → 2 ≤ length l → 10 ≤ n → n < 100 → x ≡ digit_of (n / 10) → y ≡ digit_of (n % 10)
    → take 2 (set (set l 0 x) 1 y) ≡ decimal_of n
unfolding decimal_of
two_digits l n h g k e f = put_two l 0 _ _ h ∙ rw (le-ltb n 10 g, lt-ltb n 100 k, e, f)

pub three_digits : (l : List ℕ) (n : ℕ) {x y z : ℕ} → 3 ≤ length l → 100 ≤ n
    → x ≡ digit_of (n / 100) → y ≡ digit_of (n / 10 % 10) → z ≡ digit_of (n % 10)
    → take 3 (set (set (set l 0 x) 1 y) 2 z) ≡ decimal_of n
unfolding decimal_of
three_digits l n {x} {y} h k e f g =
    put_one (set (set l 0 x) 1 y) 2 _ (rw (length-set, length-set) h)
    ∙ rw (put_two l 0 x y (omega arith), le-ltb n 10 (omega arith), le-ltb n 100 k, e, f, g)

hex_last : (bytes : List ℕ) (b : ℕ) → hex_of (bytes ++ (b ∷ [])) ≡ hex_of bytes ++ (digit_of (b / 16) ∷ digit_of (b % 16) ∷ [])
unfolding hex_of
hex_last [] b = refl
hex_last (x ∷ xs) b = ap (λ t. digit_of (x / 16) ∷ digit_of (x % 16) ∷ t) (hex_last xs b)

-- the digits of one byte more written after a text
pub put_hex : (text report l : List ℕ) (i at d : ℕ) {x y : ℕ} → take at l ≡ text ++ hex_of (take i report) → at + 1 < length l → i < length report
    → x ≡ digit_of (get_or report i d / 16) → y ≡ digit_of (get_or report i d % 16)
    → take (at + 2) (set (set l at x) (at + 1) y) ≡ text ++ hex_of (take (i + 1) report)
put_hex text report l i at d {x} {y} p h k e f =
    put_two l at x y h
    ∙ ap (λ t. t ++ (x ∷ y ∷ [])) p ∙ append_assoc text (hex_of (take i report)) (x ∷ y ∷ [])
    ∙ ap (λ t. text ++ t) (rw (e, f, add-one, take-suc report i d k) (sym (hex_last (take i report) (get_or report i d))))
