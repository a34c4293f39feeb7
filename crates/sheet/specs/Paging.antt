-- A sheet that grows: where it stands, and what an accepted command adds to it.
use Rattle.std.specs.Prelude.{ℕ, ◌+◌, ◌*◌, cond, not, Option, None, Some, List, [], ◌∷◌, ◌++◌, ltb}
use Rattle.sheet.specs.declared.Line.{Line}
use Rattle.sheet.specs.declared.Sheet.{Sheet}
use Rattle.sheet.specs.Columns.{Entry, width, line_for, header_of}
use Rattle.sheet.specs.Pages.{differs, printed_as, page_lines, last_page}

abbrev pub sheet : Option Line → ℕ → ℕ → Sheet
sheet printed page line = record { printed = printed; page = page; line = line }

-- before any line: as after a full page 0, so that the first line begins page 1
abbrev pub fresh_sheet : Sheet
fresh_sheet = sheet None 0 page_lines

pub record Added : Type 0 where
  pub text : List ℕ
  pub sheet : Sheet

abbrev pub added : List ℕ → Sheet → Added
added text sheet = record { text = text; sheet = sheet }

-- its line on this page; where this is full, the first line of the next page and its own; after the last page nothing
unfoldable pub added_for : Sheet → Entry → Added
added_for s e =
    cond (not (differs s.printed e.report)) (added [] s)
    (cond (ltb s.line page_lines) (added (line_for e) (sheet (Some (printed_as e.report)) s.page (s.line + 1)))
    (cond (ltb s.page last_page) (added (header_of (s.page + 1) ++ line_for e) (sheet (Some (printed_as e.report)) (s.page + 1) 2))
    (added [] s)))

-- the most bytes that a command adds: two lines with their newlines
abbrev pub added_width : ℕ
added_width = 2 * (width + 1)

-- the same where there are so many bytes of room, and nothing where the most would not have room
unfoldable pub added_in : ℕ → Sheet → Entry → Added
added_in room s e = cond (ltb room added_width) (added [] s) (added_for s e)

-- what a list of accepted commands adds
unfoldable pub added_by : Sheet → List Entry → List ℕ
added_by s [] = []
added_by s (e ∷ es) = (added_for s e).text ++ added_by (added_for s e).sheet es
