use Rattle.colours.specs.Rows.{holds_for}
use Rattle.colours.proofs.Equality.{same_showing}
use Rattle.colours.proofs.rows.holds_for.Goals as goal

pub returns : goal.returns
unfolding holds_for
returns c = rw (c.eq.ensures, same_showing c.args.showing c.args.row.showing, c.is_met-2.ensures, c.is_met.ensures)
