use native.Mathlib.Omega.{arith}
use mathlib.Core.Path.{◌∙◌, refl}
use borrow.Author.Rules.{rules}
use Rattle.laws.proofs.Lists.{copy_past, length_zip}
use Rattle.interval.specs.Judging.{noted_at}
use Rattle.places.specs.Places.{noted_all}
use Rattle.places.proofs.Arrays.{zipped_step}
use Rattle.places.proofs.Loops.{no_curve, zero_judged}
use Rattle.places.proofs.note_all.Goals as goal

pub loop-i-init : goal.loop-i-init
loop-i-init c = (omega arith, search rules, refl)

pub loop-i-preserved : goal.loop-i-preserved
loop-i-preserved c =
    let a = c.args in
    let step = zipped_step (λ curve j. noted_at curve j.interval) a.curves a.judged c.loop-i.curve-items c.loop-i.i no_curve zero_judged
    c.loop-i.invariant.2 c.noted.ensures (search rules) (search rules) in
    (omega arith, c.loop-i.invariant.1, step)

pub returns : goal.returns
returns c =
    let a = c.args in
    let same = length_zip (λ curve j. noted_at curve j.interval) a.curves a.judged (search rules) in
    c.loop-i.invariant.2 ∙ copy_past (noted_all a.curves a.judged) a.curves c.loop-i.i (rw same (search rules)) (search rules)
