use mathlib.Core.Path.{refl, sym, ◌∙◌}
use native.Mathlib.Omega.{arith}
use lib.Dec.{lit<, lit≤}
use Rattle.curve.specs.Boundary.{is_reached_at_kmh}
use Rattle.interval.specs.Permitted.{permitted_of}
use Rattle.interval.proofs.Halving.{kmh_zero, kmh_monotone}
use Rattle.curve.proofs.Largest.{halve_high, halve_end, failing_below}
use Rattle.interval.proofs.permitted.permitted_of.Goals as goal

pub loop-low-init : goal.loop-low-init
unfolding permitted_of
loop-low-init c = (lit< tt, lit≤ tt, kmh_zero c.args.curve c.args.level c.args.lead, refl)

pub loop-high-init : goal.loop-high-init
loop-high-init c =
    let i = c.loop-low.invariant in
    (omega arith, omega arith, omega arith, omega arith, i.1, i.2, i.3)

pub loop-high-preserved : goal.loop-high-preserved
unfolding permitted_of
loop-high-preserved c =
    let i = c.loop-high.invariant in
    let a = c.args in
    let reached = sym c.reached_at_kmh.ensures ∙ c.loop-high-test.true in
    let apart = failing_below (λ k. is_reached_at_kmh a.curve a.level k a.lead) i.0 i.5 reached in
    let below = halve_high _ (kmh_monotone a.curve a.level a.lead) _ c.loop-high.high 300 (omega arith) reached i.6 in
    (omega arith, omega (arith, apart), omega (arith, apart), omega arith, i.4, i.5, below)

pub loop-low-preserved : goal.loop-low-preserved
loop-low-preserved c =
    let i = c.loop-high.invariant in
    (i.1, omega arith, sym c.reached_at_kmh.ensures ∙ c.loop-high-test.false, i.6)

pub returns : goal.returns
unfolding permitted_of
returns c =
    let i = c.loop-low.invariant in
    halve_end _ c.loop-low.low c.loop-low.high 300 i.0 (omega arith) i.2 i.3
