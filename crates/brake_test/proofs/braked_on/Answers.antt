use borrow.Author.Tests.{le-leb, lt-leb}
use Rattle.rules.specs.BrakeTest.{braked_on}
use Rattle.brake_test.proofs.braked_on.Goals as goal

pub returns-then-dropped : goal.returns-then-dropped
unfolding braked_on
returns-then-dropped c = rw c.if-dropped.true c.ended_test.ensures

pub returns-then-limit-next : goal.returns-then-limit-next
unfolding braked_on
returns-then-limit-next c = rw (c.if-dropped.false, le-leb _ _ c.if-limit-next.true) c.ended_test-then-limit-next.ensures

pub returns : goal.returns
unfolding braked_on
returns c = rw (c.if-dropped.false, lt-leb _ _ c.if-limit-next.false)
