-- The leads (01, "Curves": "E 0; D T_B; C T_B + gC; permitted gP more; B 30 more; Bf gBf more"; 02, F-3).
use Rattle.std.specs.Prelude.{ℕ, ◌+◌}
use Rattle.curve.specs.declared.Times.{Times}
use Rattle.curve.specs.declared.Leads.{Leads}

-- F-3: "adds an extra 50 tenths to T_B in every curve lead"
abbrev pub brake_lead : Times → ℕ
brake_lead times = times.brake + times.extra

unfoldable pub leads_of : Times → Leads
leads_of times = record {
  d = brake_lead times;
  c = brake_lead times + times.c;
  permitted = brake_lead times + times.c + times.permitted;
  b = brake_lead times + times.c + times.permitted + 30;
  bf = brake_lead times + times.c + times.permitted + 30 + times.bf;
}
