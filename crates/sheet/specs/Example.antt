-- A sheet by hand, as commands and paper.
use Rattle.std.specs.Prelude.{ℕ, ◌≡◌, List, [], ◌∷◌, ◌++◌, replicate}
use Rattle.wire.specs.Text.{ascii}
use Rattle.sheet.specs.Columns.{Entry, entry}
use Rattle.sheet.specs.Pages.{sheet_of}

-- a report's state, order, causes, permitted speed, VMAX, shown id and interval, in bytes; nothing else of it is printed
abbrev report_of : ℕ → ℕ → ℕ → ℕ → ℕ → ℕ → ℕ → ℕ → ℕ → ℕ → List ℕ
report_of state order cause₁ cause₂ permitted₁ permitted₂ vmax₁ vmax₂ id interval =
    state ∷ order ∷ cause₁ ∷ cause₂ ∷ permitted₁ ∷ permitted₂ ∷ vmax₁ ∷ vmax₂ ∷ id ∷ interval ∷ replicate 9 0

-- a start; the same state once more; to HS; DA with no curve; a curve in Ab, and then in B with nothing else changed, which is not printed; a full
-- order in D; FA; a start with a number of ten digits
abbrev pub example_entries : List Entry
example_entries =
    entry 1 (report_of 0 0 0x00 0x00 0 0 0 0 255 0)
    ∷ entry 2 (report_of 0 0 0x00 0x00 0 0 0 0 255 0)
    ∷ entry 3 (report_of 2 0 0x00 0x00 0 0 0 0 255 0)
    ∷ entry 4 (report_of 3 0 0x00 0x00 0 160 0 160 255 0)
    ∷ entry 9 (report_of 3 0 0x00 0x00 0 96 0 160 7 2)
    ∷ entry 10 (report_of 3 0 0x00 0x00 0 96 0 160 7 4)
    ∷ entry 11 (report_of 3 2 0x0A 0xFC 0 96 1 44 254 6)
    ∷ entry 120 (report_of 4 3 0x00 0x00 0 0 0 0 255 0)
    ∷ entry 4294967295 (report_of 0 0 0x00 0x00 0 0 0 0 255 0)
    ∷ []

abbrev pub example_paper : List ℕ
example_paper =
    ascii "TRIP SHEET                                                     1\n"
    ++ ascii "         1 DE 0   0   0 255    0000                             \n"
    ++ ascii "         3 HS 0   0   0 255    0000                             \n"
    ++ ascii "         4 DA 0 160 160 255    0000                             \n"
    ++ ascii "         9 DA 0  96 160   7 Ab 0000                             \n"
    ++ ascii "        11 DA 2  96 300 254 D  0AFC                             \n"
    ++ ascii "       120 FA 3   0   0 255    0000                             \n"
    ++ ascii "4294967295 DE 0   0   0 255    0000                             \n"

abbrev pub ExampleIsPrinted : Type 0
ExampleIsPrinted = sheet_of example_entries ≡ example_paper
