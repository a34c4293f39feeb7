use Rattle.std.proofs.Common.{sym, ◌∙◌, rules}
use Rattle.holding.specs.Holding.{replaced_at}
use Rattle.holding.proofs.Loops.{first_of, second_of, change_write}
use Rattle.holding.proofs.replace.Goals as goal
use Rattle.holding.proofs.replace.Goals.{then-is_at, else-is_at}

pub loop-place-preserved : goal.loop-place-preserved
loop-place-preserved g c =
    let p = g.T.Place in
    let f = replaced_at p.held p.id p.replaced c.args.new in
    let tested = sym (rw c.id.ensures at c.is_at.ensures) in
    elim c.if-is_at.branch [
      | then-is_at w ↦ rw w.places-is (change_write f _ c.place-item.result c.loop-place.invariant (search rules) (w.replaced_by.ensures ∙ first_of _ _ _ (tested ∙ w.if-is_at.true)))
      | else-is_at w ↦ rw w.places-is (change_write f _ c.place-item.result c.loop-place.invariant (search rules) (second_of _ _ _ (tested ∙ w.if-is_at.false)))
    ]
