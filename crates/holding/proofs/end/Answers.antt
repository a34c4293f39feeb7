use Rattle.std.proofs.Common.{sym, ◌∙◌, rules}
use Rattle.holding.specs.Holding.{ended_at}
use Rattle.holding.proofs.Loops.{first_of, second_of, change_write}
use Rattle.holding.proofs.end.Goals as goal
use Rattle.holding.proofs.end.Goals.{then-is_at, else-is_at}

pub loop-place-preserved : goal.loop-place-preserved
loop-place-preserved g c =
    let p = g.T.Place in
    let f = ended_at p.held p.id p.ended c.args.id in
    let tested = sym c.is_at.ensures in
    elim c.if-is_at.branch [
      | then-is_at w ↦ rw w.places-is (change_write f _ c.place-item.result c.loop-place.invariant (search rules) (w.ended.ensures ∙ first_of _ _ _ (tested ∙ w.if-is_at.true)))
      | else-is_at w ↦ rw w.places-is (change_write f _ c.place-item.result c.loop-place.invariant (search rules) (second_of _ _ _ (tested ∙ w.if-is_at.false)))
    ]
