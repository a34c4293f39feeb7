-- What is promised of the rows (02, F-4). Proved in proofs/.
use Rattle.std.specs.Prelude.{◌≡◌, Bool, not, [], ◌∷◌, length, Option, Some}
use Rattle.curve.specs.declared.Shown.{Shown}
use Rattle.colours.specs.Numbers.{bar_number, mode_number}
use Rattle.colours.specs.Rows.{rows_for, row_of}
use Rattle.colours.specs.Before.{bar_before, mode_before}
use Rattle.colours.specs.declared.Row.{Row}

-- one row holds and no other; its bar and mode are those written before
pub record OneRow (past sufficient : Bool) (showing : Option Shown) : Type 0 where
  pub row : Row
  pub alone : rows_for past sufficient showing ≡ row ∷ []
  pub counted : length (rows_for past sufficient showing) ≡ 1
  pub taken : row_of past sufficient showing ≡ row
  pub bar : bar_number row.bar ≡ bar_before showing
  pub mode : mode_number row.mode ≡ mode_before past (not sufficient) showing

-- "For no curve and for each shown interval, past permitted or not, drop sufficient or not, exactly one row is proved to hold, and its
-- bar and mode to be those written before"
abbrev pub OneRowHolds : Type 0
OneRowHolds = (past sufficient : Bool) (showing : Option Shown) → OneRow past sufficient showing

-- Ab has one row, whatever the permitted boundary and the drop say
abbrev pub AbIsOneRow : Type 0
AbIsOneRow =
    (past sufficient past' sufficient' : Bool)
    → rows_for past sufficient (Some Shown.Ab) ≡ rows_for past' sufficient' (Some Shown.Ab)
