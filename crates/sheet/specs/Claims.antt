-- What is promised of every trip sheet. Proved in proofs/.
use Rattle.std.specs.Prelude.{ℕ, suc, ◌+◌, ◌-◌, ◌*◌, ◌^◌, ◌≤◌, ◌<◌, ◌≡◌, Bool, true, cond, ◌&&◌, ◌||◌, ◌⊎◌, eqb, leb, ltb, length, take, drop, get_or, replicate}
use mathlib.Core.List.{List, [], ◌∷◌, ◌++◌, map, flat_map, Memᴰ}
use Rattle.wire.specs.Report.{state_in, order_in, causes_in, permitted_in, vmax_in, id_in, shown_in}
use Rattle.wire.specs.Text.{ascii, space}
use Rattle.sheet.specs.declared.Sheet.{Sheet}
use Rattle.sheet.specs.Columns.{Entry, decimal, state_names, interval_names, line_for, header_of}
use Rattle.sheet.specs.Pages.{printed_of, pages_of, sheet_of}
use Rattle.sheet.specs.Paging.{fresh_sheet, added_for, added_width, added_by}

-- ---- lines

-- the columns from one to another
abbrev pub text_in : ℕ → ℕ → List ℕ → List ℕ
text_in first last line = drop (first - 1) (take last line)

-- a sign that is printed: neither a newline nor a form feed is one
abbrev pub is_sign : ℕ → Bool
is_sign c = leb 32 c && leb c 126

abbrev pub are_signs : List ℕ → Bool
are_signs [] = true
are_signs (c ∷ cs) = is_sign c && are_signs cs

-- 64 columns and a newline
pub record IsLine (line : List ℕ) : Type 0 where
  pub bytes : length line ≡ 65
  pub signs : are_signs (text_in 1 64 line) ≡ true
  pub end : drop 64 line ≡ 10 ∷ []

-- every line is one
abbrev pub LinesAreWhole : Type 0
LinesAreWhole =
    (entries : List Entry) (page : List (List ℕ)) (line : List ℕ)
    → Memᴰ page (pages_of entries) → Memᴰ line page → IsLine line

-- ---- columns

-- the value of digits to a base, where a space counts nothing
abbrev pub value_of_sign : ℕ → ℕ
value_of_sign c = cond (eqb c 32) 0 (cond (ltb c 65) (c - 48) (c - 55))

unfoldable pub value_from : ℕ → ℕ → List ℕ → ℕ
value_from base value [] = value
value_from base value (c ∷ cs) = value_from base (value * base + value_of_sign c) cs

-- digits, capital letters among them
abbrev pub are_digits : List ℕ → Bool
are_digits [] = true
are_digits (c ∷ cs) = (leb 48 c && leb c 57 || leb 65 c && leb c 70) && are_digits cs

-- the number that stands in columns
abbrev pub number_in : ℕ → ℕ → ℕ → List ℕ → ℕ
number_in base first last line = value_from base 0 (text_in first last line)

-- the figures of a command have room in their columns
pub record FitsColumns (e : Entry) : Type 0 where
  pub number : e.number < 10 ^ 10
  pub state : state_in e.report ≤ 4
  pub order : order_in e.report < 10
  pub permitted : permitted_in e.report < 1000
  pub vmax : vmax_in e.report < 1000
  pub id : id_in e.report < 1000
  pub interval : shown_in e.report ≤ 8
  pub causes : causes_in e.report < 16 ^ 4

-- the names that 01 gives the states and the intervals, in its numbers
abbrev pub name_of_state : ℕ → List ℕ
name_of_state n = get_or state_names n []

abbrev pub name_of_interval : ℕ → List ℕ
name_of_interval n = get_or interval_names n []

-- what stands in the columns of a line, read again, is the command's number and its report's figures: of the shown id 255 too, where none is
-- shown
pub record ReadsBack (e : Entry) (line : List ℕ) : Type 0 where
  pub number : number_in 10 1 10 line ≡ e.number
  pub state : text_in 12 13 line ≡ name_of_state (state_in e.report)
  pub order : number_in 10 15 15 line ≡ order_in e.report
  pub permitted : number_in 10 17 19 line ≡ permitted_in e.report
  pub vmax : number_in 10 21 23 line ≡ vmax_in e.report
  pub id : number_in 10 25 27 line ≡ id_in e.report
  pub interval : text_in 29 30 line ≡ take 2 (name_of_interval (shown_in e.report) ++ ascii "  ")
  pub causes : number_in 16 32 35 line ≡ causes_in e.report
  pub four_digits : are_digits (text_in 32 35 line) ≡ true
  -- "spaces to fill"
  pub between :
      text_in 11 11 line ++ text_in 14 14 line ++ text_in 16 16 line ++ text_in 20 20 line ++ text_in 24 24 line ++ text_in 28 28 line ++ text_in 31 31 line
      ≡ replicate 7 space
  pub rest : text_in 36 64 line ≡ replicate 29 space

abbrev pub LinesReadBack : Type 0
LinesReadBack = (e : Entry) → FitsColumns e → ReadsBack e (line_for e)

-- "right-justified and blank-filled": a number of at most so many digits has spaces before them; a number of just so many has no space among
-- them, nor has one of one digit
abbrev pub BlankBefore : Type 0
BlankBefore =
    (blanks more n : ℕ) → n < 10 ^ suc more
    → (decimal (blanks + suc more) n ≡ replicate blanks space ++ decimal (suc more) n)
    × ((more ≡ 0) ⊎ (10 ^ more ≤ n) → are_digits (decimal (suc more) n) ≡ true)

-- ---- pages

-- a page has 50 lines, unless it is the last, which has at least its first line and one more; its number counts from 1
pub record IsPage (before : List (List (List ℕ))) (page : List (List ℕ)) (after : List (List (List ℕ))) : Type 0 where
  pub full : (after ≡ [] → ⊥) → length page ≡ 50
  pub least : 2 ≤ length page
  pub most : length page ≤ 50
  pub header : take 1 page ≡ header_of (length before + 1) ∷ []

abbrev pub PagesAreFull : Type 0
PagesAreFull =
    (entries : List Entry) (before after : List (List (List ℕ))) (page : List (List ℕ))
    → pages_of entries ≡ before ++ (page ∷ after) → IsPage before page after

-- the title and the page's number stand in their columns
pub record IsHeader (page : ℕ) (line : List ℕ) : Type 0 where
  pub title : text_in 1 10 line ≡ ascii "TRIP SHEET"
  pub blank : text_in 11 60 line ≡ replicate 50 space
  pub number : number_in 10 61 64 line ≡ page

abbrev pub HeadersReadBack : Type 0
HeadersReadBack = (page : ℕ) → page < 10 ^ 4 → IsHeader page (header_of page)

-- 9,999 pages at the most, whatever the commands
abbrev pub PagesEnd : Type 0
PagesEnd = (entries : List Entry) → length (pages_of entries) ≤ 9999

-- without the first lines of the pages, the lines are those of the printed commands in their order, up to the last page's last
abbrev pub LinesInOrder : Type 0
LinesInOrder = (entries : List Entry) → flat_map (drop 1) (pages_of entries) ≡ take (9999 * 49) (map line_for (printed_of entries))

-- nothing at all where no command is accepted, and a line where one is
abbrev pub NothingForNone : Type 0
NothingForNone = (sheet_of [] ≡ []) × ((e : Entry) (es : List Entry) → sheet_of (e ∷ es) ≡ [] → ⊥)

-- ---- which commands get a line

-- the three are the same
pub record Alike (a b : Entry) : Type 0 where
  pub order : order_in a.report ≡ order_in b.report
  pub permitted : permitted_in a.report ≡ permitted_in b.report
  pub state : state_in a.report ≡ state_in b.report

-- the first is always printed; and one that comes after others is printed exactly if it differs from the command before it. Whether
-- it is compared with the last line or with the last command is the same: a command without a line is like the line before it
abbrev pub PrintedWhereItDiffers : Type 0
PrintedWhereItDiffers =
    ((e : Entry) → printed_of (e ∷ []) ≡ e ∷ [])
    × ((es : List Entry) (a b : Entry)
    → let before = es ++ (a ∷ []) in
    let after = before ++ (b ∷ []) in
    (Alike a b → printed_of after ≡ printed_of before) × ((Alike a b → ⊥) → printed_of after ≡ printed_of before ++ (b ∷ [])))

-- two lines that follow one another differ in order, permitted speed or state, over pages too
abbrev pub LinesDiffer : Type 0
LinesDiffer =
    (entries before after : List Entry) (a b : Entry) → printed_of entries ≡ before ++ (a ∷ b ∷ after) → Alike a b → ⊥

-- ---- a sheet that grows

-- what the commands add one after the other is the sheet of all of them
abbrev pub AddedIsTheSheet : Type 0
AddedIsTheSheet = (entries : List Entry) → added_by fresh_sheet entries ≡ sheet_of entries

-- no command adds more than there has to be room for, and the first adds as much
abbrev pub AddsAtMost : Type 0
AddsAtMost =
    ((s : Sheet) (e : Entry) → length (added_for s e).text ≤ added_width)
    × ((e : Entry) → length (added_for fresh_sheet e).text ≡ added_width)
