use Rattle.holding.specs.Holding.{replaced_at}
use Rattle.holding.proofs.Loops.{Changed}
use Rattle.holding.proofs.replace.Given as goal

abbrev pub invariant-loop-place : goal.invariant-loop-place
invariant-loop-place g l = let p = g.T.Place in Changed (replaced_at p.held p.id p.replaced l.new) l.fn.places l.places l.place-index
