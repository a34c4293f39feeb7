use mir.Syntax.{w16}
use mir.ValLaws.{to_z-of_z}
use Rattle.rules.specs.BrakeTest.{phase_on}
use Rattle.brake_test.proofs.phase_on.Goals as goal

pub returns : goal.returns
unfolding phase_on
returns c =
    rw (c.report.ensures, c.fresh-fresh.ensures, to_z-of_z w16 c.args.external c.ranges.external)
