-- The sheet by hand is the defined one, by computation.
use mathlib.Core.Path.{refl}
use mathlib.Core.List.{flatten}
use Rattle.wire.specs.Numbers.{number}
use Rattle.sheet.specs.Columns.{leading, numeral, letters, in_columns, filled_in, line_for, header_of}
use Rattle.sheet.specs.Pages.{differs, printed_from, pages_from, pages_of, sheet_of}
use Rattle.sheet.specs.Example.{ExampleIsPrinted}

pub example_is_printed : ExampleIsPrinted
unfolding number leading numeral letters in_columns filled_in line_for header_of differs printed_from pages_from pages_of sheet_of flatten
example_is_printed = refl
