use mathlib.Core.Path.{sym, ap}
use borrow.Author.Tests.{le-leb, lt-leb}
use Rattle.areas.specs.Stays.{covered_by, covered_stay}
use Rattle.areas.proofs.stays.covered_stay.Goals as goal

pub returns-in_default : goal.returns-in_default
unfolding covered_stay
returns-in_default c = sym (ap (covered_by c.args.moved c.args.stay) c.in_default.is)

pub returns-then-sum-ge5000 : goal.returns-then-sum-ge5000
unfolding covered_stay
returns-then-sum-ge5000 c =
    rw (c.in-Some.is, le-leb _ _ c.if-sum-ge5000.true, c.begun_stay.ensures, c.target_of.ensures)

pub returns : goal.returns
unfolding covered_stay
returns c = rw (c.in-Some.is, lt-leb _ _ c.if-sum-ge5000.false)
