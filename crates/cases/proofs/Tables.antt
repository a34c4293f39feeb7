-- The tables of 01 hold, by computation.
use mathlib.Core.Path.{refl}
use Rattle.cases.specs.Tables.{TablesHold, tables, further, numbers_told, intervals_told}
use Rattle.rules.proofs.Computing.{computing}

pub tables_hold : TablesHold
unfolding computing tables further numbers_told intervals_told
tables_hold = refl
