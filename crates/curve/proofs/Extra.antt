-- The extra in the leads.
use mathlib.Core.Path.{sym, ap}
use Prim.Native.Nat.{ℕ, ◌+◌}
use native.Mathlib.Nat.{add-zero}
use Rattle.curve.specs.Lead.{leads_of}
use Rattle.curve.specs.Claims.{LeadsWithoutExtra, ExtraLengthensBrakeTime}
use Rattle.curve.specs.declared.Times.{Times}
use Rattle.curve.specs.declared.Leads.{Leads}

-- the leads, by T_B with the extra
abbrev leads_from : Times → ℕ → Leads
leads_from times brake = record {
  d = brake;
  c = brake + times.c;
  permitted = brake + times.c + times.permitted;
  b = brake + times.c + times.permitted + 30;
  bf = brake + times.c + times.permitted + 30 + times.bf;
}

pub leads_without_extra : LeadsWithoutExtra
unfolding leads_of
leads_without_extra times none = rw (none, add-zero)

pub extra_lengthens_brake_time : ExtraLengthensBrakeTime
unfolding leads_of
extra_lengthens_brake_time times = ap (leads_from times) (sym (add-zero (times.brake + times.extra)))
