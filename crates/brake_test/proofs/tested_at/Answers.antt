use mathlib.Core.Path.{sym}
use mir.Syntax.{w16}
use mir.ValLaws.{to_z-of_z}
use Rattle.rules.specs.BrakeTest.{tested_at}
use Rattle.brake_test.proofs.tested_at.Goals as goal

pub returns-then-is_running-is_unfit : goal.returns-then-is_running-is_unfit
unfolding tested_at
returns-then-is_running-is_unfit c =
    rw (sym c.is_running.ensures, sym c.is_unfit.ensures, c.if-is_running-is_unfit.true) c.ended_test.ensures

pub returns : goal.returns
unfolding tested_at
returns c =
    rw (
      c.gone_on.ensures,
      to_z-of_z w16 c.args.r.external (record { sfits = c.struct_told-1.given.1.1.1.0.1 }),
      sym c.is_running.ensures,
      sym c.is_unfit.ensures,
      c.if-is_running-is_unfit.false,
    )
