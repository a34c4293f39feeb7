-- The trip sheet of a list of accepted commands (02, F-5): which of them get a line, and how lines come to pages.
use Rattle.std.specs.Prelude.{ℕ, zero, suc, ◌+◌, ◌-◌, Bool, true, cond, not, ◌&&◌, Option, None, Some, eqb, take, drop}
use mathlib.Core.List.{List, [], ◌∷◌, map, flatten}
use Rattle.wire.specs.Report.{state_in, order_in, permitted_in}
use Rattle.sheet.specs.declared.Line.{Line}
use Rattle.sheet.specs.Columns.{Entry, line_for, header_of}

-- ---- which commands get a line

-- what a line says of the three by which the next is compared with it
abbrev pub printed_as : List ℕ → Line
printed_as report = record { order = order_in report; permitted = permitted_in report; state = state_in report }

-- "after which order, permitted speed or state differs from the line before; the first is always printed"
unfoldable pub differs : Option Line → List ℕ → Bool
differs None report = true
differs (Some line) report =
    not (eqb (order_in report) line.order && eqb (permitted_in report) line.permitted && eqb (state_in report) line.state)

-- "one line follows for each accepted command after which ..": those of a list, after a last line
unfoldable pub printed_from : Option Line → List Entry → List Entry
printed_from last [] = []
printed_from last (e ∷ es) = cond (differs last e.report) (e ∷ printed_from (Some (printed_as e.report)) es) (printed_from last es)

abbrev pub printed_of : List Entry → List Entry
printed_of entries = printed_from None entries

-- ---- pages

-- "50 lines to a page with its first"
abbrev pub page_lines : ℕ
page_lines = 50

-- "The page number stops the sheet after 9,999 pages"
abbrev pub last_page : ℕ
last_page = 9999

-- lines to pages, from a page on, at most so many: "the last may be shorter, and a page begins only for a line to print"
unfoldable pub pages_from : ℕ → ℕ → List (List ℕ) → List (List (List ℕ))
pages_from zero page lines = []
pages_from (suc most) page [] = []
pages_from (suc most) page (line ∷ lines) =
    (header_of page ∷ take (page_lines - 1) (line ∷ lines)) ∷ pages_from most (page + 1) (drop (page_lines - 1) (line ∷ lines))

-- the pages of a sheet, each a list of lines
unfoldable pub pages_of : List Entry → List (List (List ℕ))
pages_of entries = pages_from last_page 1 (map line_for (printed_of entries))

-- the sheet of a list of accepted commands, as text
unfoldable pub sheet_of : List Entry → List ℕ
sheet_of entries = flatten (flatten (pages_of entries))
