-- Lines and their columns. Assumes nothing.
use Prim.Native.Nat.{ℕ, zero, suc, ◌≤◌, ◌<◌, ◌^◌}
use mathlib.Core.Path.{◌≡◌, refl, ap, ◌∙◌}
use mathlib.Core.Bool.{true, and-eq-true_iff}
use mathlib.Core.List.{List, [], ◌∷◌, ◌++◌}
use native.Mathlib.Omega.{arith}
use lib.ListN.{take, get_or, replicate}
use Rattle.wire.specs.Report.{state_in, order_in, causes_in, permitted_in, vmax_in, id_in, shown_in}
use Rattle.wire.specs.Text.{ascii, digit_of, space}
use Rattle.sheet.specs.Columns.{Entry, leading, numeral, letters, state_names, interval_names, in_columns, filled_in, line_for, header_of}
use Rattle.sheet.specs.Claims.{text_in, is_sign, are_signs, IsLine, value_from, number_in, are_digits, LinesReadBack, HeadersReadBack}
use Rattle.sheet.proofs.Numerals.{signs_joined, numeral_signs, decimal_value, hexadecimal_value, hex_digits}

-- ---- letters

-- every name is of signs
abbrev AreNames : List (List ℕ) → Type 0
AreNames [] = Unit {0}
AreNames (name ∷ names) = (are_signs name ≡ true) × AreNames names

name_signs : (names : List (List ℕ)) (n : ℕ) → AreNames names → are_signs (get_or names n []) ≡ true
name_signs [] n h = refl
name_signs (name ∷ names) zero h = h.0
name_signs (name ∷ names) (suc n) h = name_signs names n h.1

sign_at : (name : List ℕ) (i : ℕ) → are_signs name ≡ true → is_sign (get_or name i space) ≡ true
sign_at [] i h = refl
sign_at (c ∷ cs) zero h = ((and-eq-true_iff (is_sign c) (are_signs cs)).0 h).0
sign_at (c ∷ cs) (suc i) h = sign_at cs i ((and-eq-true_iff (is_sign c) (are_signs cs)).0 h).1

letters_signs : (names : List (List ℕ)) (columns n : ℕ) → AreNames names → are_signs (letters names columns n) ≡ true
unfolding letters
letters_signs names zero n h = refl
letters_signs names (suc columns) n h =
    signs_joined (letters names columns n) _ (letters_signs names columns n h)
    ((and-eq-true_iff (is_sign (get_or (get_or names n []) columns space)) true).1 (sign_at (get_or names n []) columns (name_signs names n h), refl))

state_letters_lem : (n : ℕ) → n ≤ 4 → letters state_names 2 n ≡ get_or state_names n []
unfolding letters
state_letters_lem zero h = refl
state_letters_lem (suc zero) h = refl
state_letters_lem (suc (suc zero)) h = refl
state_letters_lem (suc (suc (suc zero))) h = refl
state_letters_lem (suc (suc (suc (suc zero)))) h = refl
state_letters_lem (suc (suc (suc (suc (suc n))))) h = absurd (omega (arith, h))

two_letters : (name : List ℕ) → get_or name 0 space ∷ get_or name 1 space ∷ [] ≡ take 2 (name ++ ascii "  ")
two_letters [] = refl
two_letters (a ∷ []) = refl
two_letters (a ∷ b ∷ cs) = refl

interval_letters : (n : ℕ) → letters interval_names 2 n ≡ take 2 (get_or interval_names n [] ++ ascii "  ")
unfolding letters
interval_letters n = two_letters (get_or interval_names n [])

-- ---- a command's line

-- what stands in it from the first column to the last
abbrev blanks : ℕ → List ℕ
blanks n = replicate n space

-- up to each of its blanks
abbrev up_to10 : Entry → List ℕ
up_to10 e = numeral 10 space 10 e.number ++ blanks 1

abbrev up_to13 : Entry → List ℕ
up_to13 e = up_to10 e ++ letters state_names 2 (state_in e.report) ++ blanks 1

abbrev up_to15 : Entry → List ℕ
up_to15 e = up_to13 e ++ numeral 10 space 1 (order_in e.report) ++ blanks 1

abbrev up_to19 : Entry → List ℕ
up_to19 e = up_to15 e ++ numeral 10 space 3 (permitted_in e.report) ++ blanks 1

abbrev up_to23 : Entry → List ℕ
up_to23 e = up_to19 e ++ numeral 10 space 3 (vmax_in e.report) ++ blanks 1

abbrev up_to27 : Entry → List ℕ
up_to27 e = up_to23 e ++ numeral 10 space 3 (id_in e.report) ++ blanks 1

abbrev up_to30 : Entry → List ℕ
up_to30 e = up_to27 e ++ letters interval_names 2 (shown_in e.report) ++ blanks 1

abbrev body : Entry → List ℕ
body e = up_to30 e ++ numeral 16 (digit_of 0) 4 (causes_in e.report) ++ blanks 29

-- signs after signs
module _ (text : List ℕ) (h : are_signs text ≡ true) where
  then_blanks : (n : ℕ) → are_signs (blanks n) ≡ true → are_signs (text ++ blanks n) ≡ true
  then_blanks n b = signs_joined text (blanks n) h b

  then_number : (columns n : ℕ) → are_signs (text ++ numeral 10 space columns n ++ blanks 1) ≡ true
  then_number columns n =
      signs_joined (text ++ numeral 10 space columns n) (blanks 1)
      (signs_joined text (numeral 10 space columns n) h (numeral_signs 10 space columns n refl)) refl

  then_letters : (names : List (List ℕ)) (n : ℕ) → AreNames names → are_signs (text ++ letters names 2 n ++ blanks 1) ≡ true
  then_letters names n k =
      signs_joined (text ++ letters names 2 n) (blanks 1) (signs_joined text (letters names 2 n) h (letters_signs names 2 n k)) refl

body_signs : (e : Entry) → are_signs (body e) ≡ true
body_signs e =
    let causes = numeral 16 (digit_of 0) 4 (causes_in e.report) in
    let number = then_blanks (numeral 10 space 10 e.number) (numeral_signs 10 space 10 e.number refl) 1 refl in
    let state = then_letters (up_to10 e) number state_names (state_in e.report) (refl, (refl, (refl, (refl, (refl, tt))))) in
    let order = then_number (up_to13 e) state 1 (order_in e.report) in
    let permitted = then_number (up_to15 e) order 3 (permitted_in e.report) in
    let vmax = then_number (up_to19 e) permitted 3 (vmax_in e.report) in
    let id = then_number (up_to23 e) vmax 3 (id_in e.report) in
    let interval =
    then_letters (up_to27 e) id interval_names (shown_in e.report) (refl, (refl, (refl, (refl, (refl, (refl, (refl, (refl, (refl, tt))))))))) in
    then_blanks (up_to30 e ++ causes) (signs_joined (up_to30 e) causes interval (numeral_signs 16 (digit_of 0) 4 (causes_in e.report) refl)) 29 refl

line_body : (e : Entry) → text_in 1 64 (line_for e) ≡ body e
unfolding leading numeral letters in_columns filled_in line_for
line_body e = refl

pub line_is_whole : (e : Entry) → IsLine (line_for e)
unfolding leading numeral letters in_columns filled_in line_for
line_is_whole e = record { bytes = refl; signs = ap are_signs (line_body e) ∙ body_signs e; end = refl }

-- the texts of its columns
line_texts : (e : Entry)
    → (text_in 1 10 (line_for e) ≡ numeral 10 space 10 e.number)
    × (text_in 12 13 (line_for e) ≡ letters state_names 2 (state_in e.report))
    × (text_in 15 15 (line_for e) ≡ numeral 10 space 1 (order_in e.report))
    × (text_in 17 19 (line_for e) ≡ numeral 10 space 3 (permitted_in e.report))
    × (text_in 21 23 (line_for e) ≡ numeral 10 space 3 (vmax_in e.report))
    × (text_in 25 27 (line_for e) ≡ numeral 10 space 3 (id_in e.report))
    × (text_in 29 30 (line_for e) ≡ letters interval_names 2 (shown_in e.report))
    × (text_in 32 35 (line_for e) ≡ numeral 16 (digit_of 0) 4 (causes_in e.report))
unfolding leading numeral letters in_columns filled_in line_for
line_texts e = (refl, refl, refl, refl, refl, refl, refl, refl)

-- what stands between them
line_blanks : (e : Entry)
    → (text_in 11 11 (line_for e) ++ text_in 14 14 (line_for e) ++ text_in 16 16 (line_for e) ++ text_in 20 20 (line_for e)
    ++ text_in 24 24 (line_for e) ++ text_in 28 28 (line_for e) ++ text_in 31 31 (line_for e) ≡ replicate 7 space)
    × (text_in 36 64 (line_for e) ≡ replicate 29 space)
unfolding leading numeral letters in_columns filled_in line_for
line_blanks e = (refl, refl)

-- a number in columns
in_columns_lem : (columns first last n : ℕ) (line : List ℕ) → text_in first last line ≡ numeral 10 space (suc columns) n → n < 10 ^ suc columns
    → number_in 10 first last line ≡ n
in_columns_lem columns first last n line e h = ap (value_from 10 0) e ∙ decimal_value columns n h

pub lines_read_back : LinesReadBack
lines_read_back e fits =
    let (number, state, order, permitted, vmax, id, interval, causes) = line_texts e in record {
      number = in_columns_lem 9 1 10 _ (line_for e) number fits.number;
      state = state ∙ state_letters_lem (state_in e.report) fits.state;
      order = in_columns_lem 0 15 15 _ (line_for e) order fits.order;
      permitted = in_columns_lem 2 17 19 _ (line_for e) permitted fits.permitted;
      vmax = in_columns_lem 2 21 23 _ (line_for e) vmax fits.vmax;
      id = in_columns_lem 2 25 27 _ (line_for e) id fits.id;
      interval = interval ∙ interval_letters (shown_in e.report);
      causes = ap (value_from 16 0) causes ∙ hexadecimal_value 3 (causes_in e.report) fits.causes;
      four_digits = ap are_digits causes ∙ hex_digits 4 (causes_in e.report);
      between = (line_blanks e).0;
      rest = (line_blanks e).1;
    }

-- ---- the first line of a page

header_body : (page : ℕ) → text_in 1 64 (header_of page) ≡ ascii "TRIP SHEET" ++ blanks 50 ++ numeral 10 space 4 page
unfolding leading numeral in_columns header_of
header_body page = refl

pub header_is_whole : (page : ℕ) → IsLine (header_of page)
unfolding leading numeral in_columns header_of
header_is_whole page = record {
  bytes = refl;
  signs = ap are_signs (header_body page) ∙ signs_joined (ascii "TRIP SHEET" ++ blanks 50) (numeral 10 space 4 page) refl (numeral_signs 10 space 4 page refl);
  end = refl;
}

header_texts : (page : ℕ)
    → (text_in 1 10 (header_of page) ≡ ascii "TRIP SHEET") × (text_in 11 60 (header_of page) ≡ replicate 50 space)
    × (text_in 61 64 (header_of page) ≡ numeral 10 space 4 page)
unfolding leading numeral in_columns header_of
header_texts page = (refl, refl, refl)

pub headers_read_back : HeadersReadBack
headers_read_back page h =
    let (title, blank, number) = header_texts page in record {
      title = title;
      blank = blank;
      number = in_columns_lem 3 61 64 page (header_of page) number h;
    }
