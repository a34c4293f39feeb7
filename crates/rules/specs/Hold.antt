-- How bit 9 is held after a balise error (02, F-2, "Holding after a balise error at low speed").
use Rattle.std.specs.Prelude.{ℕ, ◌+◌, ◌*◌, min, Bool, cond, leb}
use Rattle.rules.specs.Numbers.{is_code}
use Rattle.rules.specs.declared.Code.{Code}
use Rattle.rules.specs.declared.Hold.{Hold}

-- "v was at or below 80 km/h"; 01, bit 9: "v ≤ 80 km/h"
abbrev pub is_up_to80 : ℕ → Bool
is_up_to80 v = leb (9 * v) (250 * 80)

-- "when the error was reported"
abbrev pub decided_at : ℕ → Hold
decided_at v = cond (is_up_to80 v) (Hold.Low 0) Hold.High

-- a further odometer report in DA, counted up to the 20th
abbrev pub held_on : Hold → Hold
held_on Hold.Undecided = Hold.Undecided
held_on Hold.High = Hold.High
held_on (Hold.Low count) = Hold.Low (min 20 (count + 1))

-- "bit 9 becomes releasable at the 20th further odometer report, at any speed. If v was above, the old rule stands."
abbrev pub is_unheld : Hold → ℕ → Bool
is_unheld Hold.Undecided v = is_up_to80 v
is_unheld Hold.High v = is_up_to80 v
is_unheld (Hold.Low count) v = leb 20 count

-- "A new error decides anew and counts afresh", and no other command does; v is the last odometer figure
abbrev pub hold_by : Code → ℕ → Hold → Hold
hold_by code v hold = cond (is_code Code.BaliseError code) (decided_at v) hold
