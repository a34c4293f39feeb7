use Rattle.portions.proofs.Turns.{Stands}
use Rattle.portions.proofs.telling.hand_on.Given as goal

abbrev pub invariant-loop : goal.invariant-loop
invariant-loop g l =
    Stands g.T.Tell.writer g.T.Tell.WIDTH l.initial.state l.bytes l.initial.output l.all l.most l.state l.used l.written l.counter l.output
