use mathlib.Core.Path.{refl, ◌∙◌}
use mathlib.Core.List.{List}
use native.Mathlib.Omega.{arith}
use lib.ListN.{replicate, length-map}
use borrow.Author.Rules.{rules}
use Rattle.laws.proofs.Lists.{copy_past, map_step}
use Rattle.places.specs.Places.{most_curves, judged_here, judged_all}
use Rattle.curve.specs.declared.Judged.{Judged}
use Rattle.places.proofs.Loops.{no_curve}
use Rattle.places.proofs.judge_all.Goals as goal

-- the array before the loop
abbrev start : Judged → List Judged
start none = replicate most_curves none

pub loop-i-init : goal.loop-i-init
loop-i-init c = (omega arith, search rules, refl, refl)

pub loop-i-preserved : goal.loop-i-preserved
loop-i-preserved c =
    let a = c.args in
    let i = c.loop-i.invariant in
    let step = map_step (judged_here a.braking a.v) a.curves (start c.none_judged-judged.result) c.loop-i.i no_curve c.judge_here.ensures (search rules) (search rules) in
    (omega arith, i.1, i.2, rw i.3 step)

pub returns : goal.returns
returns c =
    let a = c.args in
    c.loop-i.invariant.3
    ∙ copy_past (judged_all a.braking a.v a.curves) (start c.none_judged-judged.result) c.loop-i.i (simp length-map (search rules)) (search rules)
