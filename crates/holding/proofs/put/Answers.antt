use Rattle.std.proofs.Common.{sym, ◌∙◌, rules}
use Rattle.holding.proofs.Loops.{pass_taken}
use Rattle.holding.proofs.put.Goals as goal

pub returns-then-not-is_held : goal.returns-then-not-is_held
returns-then-not-is_held g c =
    let p = g.T.Place in
    pass_taken p.held c.args.new _ c.place-item.result c.loop-place.invariant (search rules) (sym c.is_held.ensures ∙ c.if-not-is_held.true)
