-- Numbers in columns, read again. Assumes nothing.
use Prim.Native.Nat.{ℕ, zero, suc, ◌+◌, ◌*◌, ◌/◌, ◌%◌, ◌^◌, ◌≤◌, ◌<◌}
use mathlib.Core.Path.{◌≡◌, refl, sym, ap, ◌∙◌}
use mathlib.Core.Bool.{Bool, true, false, cond, ◌&&◌, ◌||◌, and-eq-true_iff}
use mathlib.Core.Logic.{◌⊎◌, inl, inr}
use mathlib.Core.List.{List, [], ◌∷◌, ◌++◌, append_assoc, append-nil}
use native.Mathlib.Nat.{add-zero, add-suc, pow-zero, pow-suc}
use native.Mathlib.Numerals.{add-one}
use native.Mathlib.Omega.{arith}
use lib.Dec.{eqb, leb, ltb}
use lib.ListN.{replicate, replicate-append-replicate}
use borrow.Author.Tests.{ltb-true, ltb-false, lt-ltb, le-ltb, le-leb, lt-leb, ne_eqb, eqb-true}
use Rattle.wire.specs.Text.{digit_of, space}
use Rattle.sheet.specs.Columns.{leading, numeral, decimal}
use Rattle.sheet.specs.Claims.{is_sign, are_signs, value_of_sign, value_from, are_digits, BlankBefore}

-- ---- lists of signs

pub signs_joined : (xs ys : List ℕ) → are_signs xs ≡ true → are_signs ys ≡ true → are_signs (xs ++ ys) ≡ true
signs_joined [] ys p q = q
signs_joined (x ∷ xs) ys p q =
    let (first, rest) = (and-eq-true_iff (is_sign x) (are_signs xs)).0 p in
    (and-eq-true_iff (is_sign x) (are_signs (xs ++ ys))).1 (first, signs_joined xs ys rest q)

abbrev is_digit : ℕ → Bool
is_digit c = leb 48 c && leb c 57 || leb 65 c && leb c 70

digits_joined : (xs ys : List ℕ) → are_digits xs ≡ true → are_digits ys ≡ true → are_digits (xs ++ ys) ≡ true
digits_joined [] ys p q = q
digits_joined (x ∷ xs) ys p q =
    let (first, rest) = (and-eq-true_iff (is_digit x) (are_digits xs)).0 p in
    (and-eq-true_iff (is_digit x) (are_digits (xs ++ ys))).1 (first, digits_joined xs ys rest q)

value_joined : (base v : ℕ) (xs ys : List ℕ) → value_from base v (xs ++ ys) ≡ value_from base (value_from base v xs) ys
unfolding value_from
value_joined base v [] ys = refl
value_joined base v (x ∷ xs) ys = value_joined base (v * base + value_of_sign x) xs ys

value_last : (base v : ℕ) (xs : List ℕ) (x : ℕ) → value_from base v (xs ++ (x ∷ [])) ≡ value_from base v xs * base + value_of_sign x
unfolding value_from
value_last base v xs x = value_joined base v xs (x ∷ [])

-- ---- one digit

by_digit : (P : ℕ → Type 0) (x : ℕ) → (x % 16 < 10 → P (x % 16 + 48)) → (10 ≤ x % 16 → P (x % 16 + 55)) → P (digit_of x)
by_digit P x f g = by (ltb (x % 16) 10) refl
  where
    by : (t : Bool) → ltb (x % 16) 10 ≡ t → P (cond t (x % 16 + 48) (x % 16 + 55))
    by true e = f (ltb-true (x % 16) 10 e)
    by false e = g (ltb-false (x % 16) 10 e)

digit_value : (x : ℕ) → x < 16 → value_of_sign (digit_of x) ≡ x
digit_value x h =
    by_digit (λ c. value_of_sign c ≡ x) x
    (λ low. rw (ne_eqb (x % 16 + 48) 32 (λ e. omega arith), lt-ltb (x % 16 + 48) 65 (omega arith)) (omega arith))
    (λ high. rw (ne_eqb (x % 16 + 55) 32 (λ e. omega arith), le-ltb (x % 16 + 55) 65 (omega arith)) (omega arith))

pub digit_sign : (x : ℕ) → is_sign (digit_of x) ≡ true
digit_sign x =
    by_digit (λ c. is_sign c ≡ true) x
    (λ low. rw (le-leb 32 (x % 16 + 48) (omega arith), le-leb (x % 16 + 48) 126 (omega arith)))
    (λ high. rw (le-leb 32 (x % 16 + 55) (omega arith), le-leb (x % 16 + 55) 126 (omega arith)))

digit_digit : (x : ℕ) → are_digits (digit_of x ∷ []) ≡ true
digit_digit x =
    by_digit (λ c. are_digits (c ∷ []) ≡ true) x
    (λ low. rw (le-leb 48 (x % 16 + 48) (omega arith), le-leb (x % 16 + 48) 57 (omega arith)))
    (λ high. rw (lt-leb (x % 16 + 55) 57 (omega arith), le-leb 48 (x % 16 + 55) (omega arith), le-leb 65 (x % 16 + 55) (omega arith), le-leb (x % 16 + 55) 70 (omega arith)))

-- ---- signs

leading_signs : (base fill columns n : ℕ) → is_sign fill ≡ true → are_signs (leading base fill columns n) ≡ true
unfolding leading
leading_signs base fill zero n f = refl
leading_signs base fill (suc columns) n f =
    signs_joined (leading base fill columns (n / base)) _ (leading_signs base fill columns (n / base) f) (by (eqb n 0))
  where
    by : (t : Bool) → are_signs (cond t fill (digit_of (n % base)) ∷ []) ≡ true
    by true = (and-eq-true_iff (is_sign fill) true).1 (f, refl)
    by false = (and-eq-true_iff (is_sign (digit_of (n % base))) true).1 (digit_sign (n % base), refl)

pub numeral_signs : (base fill columns n : ℕ) → is_sign fill ≡ true → are_signs (numeral base fill columns n) ≡ true
unfolding numeral
numeral_signs base fill zero n f = refl
numeral_signs base fill (suc columns) n f =
    signs_joined (leading base fill columns (n / base)) _ (leading_signs base fill columns (n / base) f)
    ((and-eq-true_iff (is_sign (digit_of (n % base))) true).1 (digit_sign (n % base), refl))

-- ---- values, for a base and a fill that counts nothing

module _ (base fill : ℕ) (nothing : value_of_sign fill ≡ 0) (small : (n : ℕ) → n % base < 16)
    (whole : (n : ℕ) → n / base * base + n % base ≡ n) (less : (n m : ℕ) → n < m * base → n / base < m) where
  divided : (columns n : ℕ) → n < base ^ suc columns → n / base < base ^ columns
  divided columns n h = less n (base ^ columns) (rw (pow-suc base columns) at h)

  leading_value : (columns n : ℕ) → n < base ^ columns → value_from base 0 (leading base fill columns n) ≡ n
  unfolding leading value_from
  leading_value zero n h = let one = pow-zero base in omega (arith, one, h)
  leading_value (suc columns) n h = by (eqb n 0) refl (leading_value columns (n / base) (divided columns n h))
    where
      by : (t : Bool) → eqb n 0 ≡ t → value_from base 0 (leading base fill columns (n / base)) ≡ n / base
          → value_from base 0 (leading base fill columns (n / base) ++ (cond t fill (digit_of (n % base)) ∷ [])) ≡ n
      by true e before =
          let zero : n ≡ 0 = eqb-true n 0 e in
          value_last base 0 (leading base fill columns (n / base)) fill ∙ rw (before, nothing) (let w = whole n in omega (arith, w, zero))
      by false e before =
          value_last base 0 (leading base fill columns (n / base)) (digit_of (n % base))
          ∙ rw (before, digit_value (n % base) (small n)) (whole n)

  pub numeral_value : (columns n : ℕ) → n < base ^ suc columns → value_from base 0 (numeral base fill (suc columns) n) ≡ n
  unfolding numeral
  numeral_value columns n h =
      value_last base 0 (leading base fill columns (n / base)) (digit_of (n % base))
      ∙ rw (leading_value columns (n / base) (divided columns n h), digit_value (n % base) (small n)) (whole n)

pub decimal_value : (columns n : ℕ) → n < 10 ^ suc columns → value_from 10 0 (numeral 10 space (suc columns) n) ≡ n
decimal_value = numeral_value 10 space refl (λ n. omega arith) (λ n. omega arith) (λ n m h. omega arith)

pub hexadecimal_value : (columns n : ℕ) → n < 16 ^ suc columns → value_from 16 0 (numeral 16 (digit_of 0) (suc columns) n) ≡ n
hexadecimal_value = numeral_value 16 (digit_of 0) refl (λ n. omega arith) (λ n. omega arith) (λ n m h. omega arith)

-- ---- blanks before a number, and none in it

blank_last : (n : ℕ) → replicate n space ++ (space ∷ []) ≡ replicate (suc n) space
blank_last n = replicate-append-replicate n 1 space ∙ ap (λ k. replicate k space) (add-one n)

leading_zero : (columns : ℕ) → leading 10 space columns 0 ≡ replicate columns space
unfolding leading
leading_zero zero = refl
leading_zero (suc columns) = ap (λ l. l ++ (space ∷ [])) (leading_zero columns) ∙ blank_last columns

leading_blanks : (blanks digits n : ℕ) → n < 10 ^ digits
    → leading 10 space (blanks + digits) n ≡ replicate blanks space ++ leading 10 space digits n
unfolding leading
leading_blanks blanks zero n h =
    let one = pow-zero 10 in
    let none : n ≡ 0 = omega (arith, one, h) in
    rw (none, add-zero blanks) (leading_zero blanks ∙ sym (append-nil (replicate blanks space)))
leading_blanks blanks (suc digits) n h =
    let p = pow-suc 10 digits in
    let before = leading_blanks blanks digits (n / 10) (omega (arith, p, h)) in
    rw (add-suc blanks digits)
    (ap (λ l. l ++ (cond (eqb n 0) space (digit_of (n % 10)) ∷ [])) before
    ∙ append_assoc (replicate blanks space) (leading 10 space digits (n / 10)) (cond (eqb n 0) space (digit_of (n % 10)) ∷ []))

positive : (k : ℕ) → 1 ≤ 10 ^ k
positive zero = let one = pow-zero 10 in omega (arith, one)
positive (suc k) = let p = pow-suc 10 k in let q = positive k in omega (arith, p, q)

-- a digit of a number that is not 0
sign_digit : (n : ℕ) → 1 ≤ n → are_digits (cond (eqb n 0) space (digit_of (n % 10)) ∷ []) ≡ true
sign_digit n h = rw (ne_eqb n 0 (λ z. omega (arith, h, z))) (digit_digit (n % 10))

leading_digits : (more n : ℕ) → 10 ^ more ≤ n → are_digits (leading 10 space (suc more) n) ≡ true
unfolding leading
leading_digits zero n h = sign_digit n (let one = pow-zero 10 in omega (arith, one, h))
leading_digits (suc more) n h =
    let p = pow-suc 10 more in
    let q = positive more in
    digits_joined (leading 10 space (suc more) (n / 10)) _ (leading_digits more (n / 10) (omega (arith, p, h))) (sign_digit n (omega (arith, p, q, h)))

numeral_digits : (more n : ℕ) → (more ≡ 0) ⊎ (10 ^ more ≤ n) → are_digits (decimal (suc more) n) ≡ true
unfolding numeral leading
numeral_digits zero n h = digit_digit (n % 10)
numeral_digits (suc more) n (inl z) = absurd (omega (arith, z))
numeral_digits (suc more) n (inr h) =
    let p = pow-suc 10 more in
    digits_joined (leading 10 space (suc more) (n / 10)) _ (leading_digits more (n / 10) (omega (arith, p, h))) (digit_digit (n % 10))

pub blank_before : BlankBefore
unfolding numeral
blank_before blanks more n h =
    let p = pow-suc 10 more in (
      rw (add-suc blanks more)
          (ap (λ l. l ++ (digit_of (n % 10) ∷ [])) (leading_blanks blanks more (n / 10) (omega (arith, p, h)))
          ∙ append_assoc (replicate blanks space) (leading 10 space more (n / 10)) (digit_of (n % 10) ∷ [])),
      numeral_digits more n,
    )

-- hexadecimal digits have no blank before them
hex_leading : (columns n : ℕ) → are_digits (leading 16 (digit_of 0) columns n) ≡ true
unfolding leading
hex_leading zero n = refl
hex_leading (suc columns) n = digits_joined (leading 16 (digit_of 0) columns (n / 16)) _ (hex_leading columns (n / 16)) (by (eqb n 0))
  where
    by : (t : Bool) → are_digits (cond t (digit_of 0) (digit_of (n % 16)) ∷ []) ≡ true
    by true = refl
    by false = digit_digit (n % 16)

pub hex_digits : (columns n : ℕ) → are_digits (numeral 16 (digit_of 0) columns n) ≡ true
unfolding numeral
hex_digits zero n = refl
hex_digits (suc columns) n =
    digits_joined (leading 16 (digit_of 0) columns (n / 16)) _ (hex_leading columns (n / 16)) (digit_digit (n % 16))
