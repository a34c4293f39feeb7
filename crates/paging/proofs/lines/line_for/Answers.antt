use Rattle.sheet.specs.Columns.{filled_in, line_for}
use Rattle.paging.proofs.lines.line_for.Goals as goal

pub returns : goal.returns
unfolding filled_in line_for
returns c =
    rw (
      c.put_number.ensures,
      c.be16-2.ensures,
      c.put_text-line.ensures,
      c.interval_letters.ensures,
      c.byte_at-2.ensures,
      c.put_number-line-2.ensures,
      c.byte_at.ensures,
      c.put_number-line.ensures,
      c.be16.ensures,
      c.line_begun-line.ensures,
    )
