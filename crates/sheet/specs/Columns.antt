-- A line of the trip sheet (02, F-5): what stands in which columns, and how it is filled in.
use Rattle.std.specs.Prelude.{ℕ, zero, suc, ◌+◌, ◌-◌, ◌/◌, ◌%◌, cond, List, [], ◌∷◌, ◌++◌, eqb, take, drop, get_or, replicate}
use Rattle.wire.specs.Text.{ascii, digit_of, space, line_feed}
use Rattle.wire.specs.Report.{state_in, order_in, causes_in, permitted_in, vmax_in, id_in, shown_in}

-- an accepted command: its number, and its report
pub record Entry : Type 0 where
  pub number : ℕ
  pub report : List ℕ

abbrev pub entry : ℕ → List ℕ → Entry
entry number report = record { number = number; report = report }

-- ---- how columns are filled

-- the digits of a number to a base, in so many columns: to the right, and before them the fill; 0 has none
unfoldable pub leading : ℕ → ℕ → ℕ → ℕ → List ℕ
leading base fill zero n = []
leading base fill (suc columns) n = leading base fill columns (n / base) ++ (cond (eqb n 0) fill (digit_of (n % base)) ∷ [])

-- the same, but 0 has one digit
unfoldable pub numeral : ℕ → ℕ → ℕ → ℕ → List ℕ
numeral base fill zero n = []
numeral base fill (suc columns) n = leading base fill columns (n / base) ++ (digit_of (n % base) ∷ [])

-- "right-justified and blank-filled"
abbrev pub decimal : ℕ → ℕ → List ℕ
decimal = numeral 10 space

-- "four capital hex digits"
abbrev pub hexadecimal : ℕ → ℕ → List ℕ
hexadecimal = numeral 16 (digit_of 0)

-- "letters": those of a number in a list of names, from the first of the columns on, and spaces after them; none past the list
unfoldable pub letters : List (List ℕ) → ℕ → ℕ → List ℕ
letters names zero n = []
letters names (suc columns) n = letters names columns n ++ (get_or (get_or names n []) columns space ∷ [])

-- "state letters", by 01's numbers of the states
abbrev pub state_names : List (List ℕ)
state_names = ascii "DE" ∷ ascii "CS" ∷ ascii "HS" ∷ ascii "DA" ∷ ascii "FA" ∷ []

-- "interval letters .. (blank for none)", by 01's numbers of the intervals
abbrev pub interval_names : List (List ℕ)
interval_names =
    ascii "" ∷ ascii "A" ∷ ascii "Ab" ∷ ascii "Bf" ∷ ascii "B" ∷ ascii "C" ∷ ascii "D" ∷ ascii "E" ∷ ascii "F" ∷ []

-- ---- the columns

-- a row of the table: the first column and the last, counted from 1, what stands there, and how it is filled in
pub record Column : Type 0 where
  pub first : ℕ
  pub last : ℕ
  pub what : Entry → ℕ
  pub filled : ℕ → ℕ → List ℕ

abbrev pub column : ℕ → ℕ → (Entry → ℕ) → (ℕ → ℕ → List ℕ) → Column
column first last what filled = record { first = first; last = last; what = what; filled = filled }

-- "Its fields are command number in columns 1–10, state letters 12–13, order digit 15, permitted speed 17–19, VMAX 21–23, shown id
-- 25–27, interval letters from 29 (blank for none), causes as four capital hex digits 32–35, other numbers right-justified and
-- blank-filled"
abbrev pub columns : List Column
columns =
    column 1 10 (λ e. e.number) decimal
    ∷ column 12 13 (λ e. state_in e.report) (letters state_names)
    ∷ column 15 15 (λ e. order_in e.report) decimal
    ∷ column 17 19 (λ e. permitted_in e.report) decimal
    ∷ column 21 23 (λ e. vmax_in e.report) decimal
    ∷ column 25 27 (λ e. id_in e.report) decimal
    ∷ column 29 30 (λ e. shown_in e.report) (letters interval_names)
    ∷ column 32 35 (λ e. causes_in e.report) hexadecimal
    ∷ []

-- ---- the lines

-- "lines of 64 columns and a newline, spaces to fill"
abbrev pub width : ℕ
width = 64

abbrev pub blank_line : List ℕ
blank_line = replicate width space ++ (line_feed ∷ [])

-- a line with a text in the columns from one to another
unfoldable pub in_columns : ℕ → ℕ → List ℕ → List ℕ → List ℕ
in_columns first last text line = take (first - 1) line ++ text ++ drop last line

-- how many columns a row has
abbrev pub columns_of : Column → ℕ
columns_of c = c.last + 1 - c.first

-- each of these columns filled in, one after the other
unfoldable pub filled_in : Entry → List Column → List ℕ → List ℕ
filled_in e [] line = line
filled_in e (c ∷ cs) line = filled_in e cs (in_columns c.first c.last (c.filled (columns_of c) (c.what e)) line)

-- the line of an accepted command
unfoldable pub line_for : Entry → List ℕ
line_for e = filled_in e columns blank_line

-- "Line 1 holds TRIP SHEET in columns 1–10 and the page number right-justified in 61–64"
unfoldable pub header_of : ℕ → List ℕ
header_of page = in_columns 61 64 (decimal 4 page) (in_columns 1 10 (ascii "TRIP SHEET") blank_line)
