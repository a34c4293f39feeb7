use mathlib.Core.Path.{◌∙◌}
use Rattle.sheet.specs.Columns.{header_of}
use Rattle.paging.proofs.lines.header_of.Goals as goal

pub returns : goal.returns
unfolding header_of
returns c = c.put_number.ensures ∙ rw (c.put_text-line.ensures, c.blank_line.ensures)
