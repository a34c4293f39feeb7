use mathlib.Core.Path.{sym, ◌∙◌}
use Rattle.curve.proofs.Ground.{left_is}
use Rattle.curve.proofs.rule.Line.reach.Goals as goal

pub returns-else-holds : goal.returns-else-holds
returns-else-holds c =
    let line = c.args.self in
    let asked = c.if-not-asked.false in
    let fails = sym c.holds.ensures ∙ c.if-holds.false in
    rw (asked, fails, c.ground_left.ensures, left_is line.curve line.level line.u line.lead (c.requires asked) fails)
