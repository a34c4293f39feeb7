use Rattle.sheet.specs.Columns.{filled_in}
use Rattle.paging.proofs.lines.line_begun.Goals as goal

pub returns : goal.returns
unfolding filled_in
returns c =
    rw (
      c.put_number.ensures,
      c.be16.ensures,
      c.put_number-line-2.ensures,
      c.byte_at-2.ensures,
      c.put_text-line.ensures,
      c.state_letters.ensures,
      c.byte_at.ensures,
      c.put_number-line.ensures,
      c.blank_line.ensures,
    )
