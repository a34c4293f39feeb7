-- One report of the feedback (01, "Brake feedback"). "Pressure and reference are one record of two kPa figures": the record of the
-- last report goes in, and that of this one comes out.
--
-- P_REF stands in the record and, once set, in the phase. Where P_INT is P_REF it is read from the record, which has the last report's
-- figure also while P_REF is unset (0); its change at every tenth report is of the phase's, beside which the reports are counted. The
-- new record has the P_REF of the phase that the report leaves, so that the two are one figure (Claims, "one P_REF").
use Rattle.std.specs.Prelude.{ℕ, false, ℤ, Float}
use Rattle.pressure.specs.Convert.{kpa, halved_of, sensor_fault, pressure_of}
use Rattle.pressure.specs.Phases.{reference_of, next_of}
use Rattle.pressure.specs.declared.Feed.{Feed}
use Rattle.pressure.specs.declared.Phase.{Phase}
use Rattle.pressure.specs.declared.Phase.TheVariants.{Waiting}
use Rattle.pressure.specs.declared.Pressures.{Pressures}
use Rattle.pressure.specs.declared.Measured.{Measured}

-- the feedback before any report: waiting, P_REF "0 if unset", no TRYCKGIVARFEL
unfoldable pub fresh_feedback : Measured
fresh_feedback = record {
  phase = Waiting;
  pressures = record { pressure = kpa 0; reference = kpa 0 };
  fault = false;
}

-- P_INT: "Below −50: .. P_INT is P_REF (0 if unset)", the P_REF of the record that comes in
unfoldable pub pressure_at : Pressures → Feed → ℕ → ℤ → Float
pressure_at pressures feed full external = pressure_of feed full (halved_of external) pressures.reference

-- the phase that the report leaves; a P_REF that is set changes there
unfoldable pub phase_after : Phase → Pressures → Feed → ℕ → ℤ → Phase
phase_after phase pressures feed full external = next_of phase (pressure_at pressures feed full external)

-- the report: the next phase; the new record, of P_INT and of P_REF "after any change"; TRYCKGIVARFEL
unfoldable pub reported : Phase → Pressures → Feed → ℕ → ℤ → Measured
reported phase pressures feed full external = record {
  phase = phase_after phase pressures feed full external;
  pressures = record {
    pressure = pressure_at pressures feed full external;
    reference = reference_of (phase_after phase pressures feed full external);
  };
  fault = sensor_fault (halved_of external);
}

-- a report to the feedback that the last one left: its phase and its record go in
abbrev pub reported_to : Measured → Feed → ℕ → ℤ → Measured
reported_to before feed full external = reported before.phase before.pressures feed full external
