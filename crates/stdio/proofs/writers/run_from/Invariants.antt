-- From turn to turn the text of what has come is written, and fewer bytes are left than the longest command has: so there is always room to
-- read, and a read that brings none is the end. Each turn brings a byte or more.
use Rattle.std.proofs.Common.{◌<◌, ◌≤◌, length, take}
use Rattle.wire.specs.Codes.{longest}
use Rattle.stdio.proofs.Standing.{Stands}
use Rattle.stdio.proofs.writers.run_from.Given as goal

abbrev pub invariant-loop : goal.invariant-loop
invariant-loop g l =
    (s : Stands g.T.Tell.writer l.initial.state (g.R.Read.remaining l.initial.stdin) (g.R.Read.remaining l.stdin) (g.W.Write.contents l.initial.stdout) (g.W.Write.contents l.stdout) l.state (take l.left l.input))
    × ((l.left < longest) × (l.counter ≤ length s.came))
