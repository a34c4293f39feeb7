use mir.Syntax.{w16}
use mir.ValLaws.{to_z-of_z}
use Rattle.pressure.specs.Report.{pressure_at, phase_after, reported}
use Rattle.pressure.proofs.report.Goals as goal

pub returns : goal.returns
unfolding reported phase_after pressure_at
returns c =
    rw (
      c.sensor_fault.ensures,
      c.reference_of-reference.ensures,
      c.next-next.ensures,
      c.pressure_of-pressure.ensures,
      c.halved-reading.ensures,
      to_z-of_z w16 c.args.external c.ranges.external,
    )
