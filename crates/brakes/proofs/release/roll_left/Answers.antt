use Rattle.rules.specs.Releases.{roll_left}
use Rattle.brakes.proofs.release.roll_left.Goals as goal

pub returns-then-stood-left : goal.returns-then-stood-left
unfolding roll_left
returns-then-stood-left c = rw c.if-stood-left.true c.roll_back.ensures

pub returns-else-stood-left : goal.returns-else-stood-left
unfolding roll_left
returns-else-stood-left c = rw c.if-stood-left.false
