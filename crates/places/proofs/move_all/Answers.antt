use mathlib.Core.Path.{refl, ◌∙◌}
use native.Mathlib.Omega.{arith}
use borrow.Author.Rules.{rules}
use lib.ListN.{length-map}
use Rattle.laws.proofs.Lists.{copy_past}
use Rattle.places.specs.Places.{moved_here, moved_all}
use Rattle.places.proofs.Arrays.{changed_step}
use Rattle.places.proofs.Loops.{no_curve}
use Rattle.places.proofs.move_all.Goals as goal

pub loop-curve-init : goal.loop-curve-init
loop-curve-init c = (omega arith, refl)

pub loop-curve-preserved : goal.loop-curve-preserved
loop-curve-preserved c =
    let a = c.args in
    let i = c.loop-curve.invariant in
    (omega arith, changed_step (moved_here a.moved) a.curves c.loop-curve.curve-items c.loop-curve.curve-index no_curve i.1 c.moved_here.ensures (search rules))

pub returns : goal.returns
returns c =
    let a = c.args in
    c.loop-curve.invariant.1 ∙ copy_past (moved_all a.moved a.curves) a.curves c.loop-curve.curve-index (simp length-map (search rules)) (search rules)
