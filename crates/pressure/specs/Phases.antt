-- The phases (01, "Brake feedback": "The feedback is waiting, settling with a saved pressure, or set").
use Rattle.std.specs.Prelude.{ℕ, ◌+◌, Bool, true, false, cond, ◌&&◌, ◌||◌, ltb, Float}
use Rattle.std.specs.Float.{binary32}
use Rattle.std.specs.Float.Ieee.{sub, lt, le}
use Rattle.pressure.specs.Convert.{kpa}
use Rattle.pressure.specs.Reference.{changed_reference}
use Rattle.pressure.specs.declared.Phase.{Phase}
use Rattle.pressure.specs.declared.Phase.TheVariants.{Waiting, Settling, Set}

-- whether there is a reference pressure
abbrev pub is_set : Phase → Bool
is_set Waiting = false
is_set (Settling saved reports) = false
is_set (Set reference reports) = true

-- P_REF, "0 if unset"
unfoldable pub reference_of : Phase → Float
reference_of Waiting = kpa 0
reference_of (Settling saved reports) = kpa 0
reference_of (Set reference reports) = reference

-- "a P_INT of 400–550"
unfoldable pub is_normal : Float → Bool
is_normal p = le (kpa 400) p && le p (kpa 550)

-- "When waiting, a P_INT of 400–550 is saved as P0"
unfoldable pub waited_of : Float → Phase
waited_of p = cond (is_normal p) (Settling p 0) Waiting

-- "A P_INT more than 20 from P0", the difference rounded once
unfoldable pub is_far : Float → Float → Bool
is_far saved p = lt (kpa 20) (sub binary32 p saved) || lt (kpa 20) (sub binary32 saved p)

-- "After 30 further reports within 20, P_REF is P0": this is one, and `reports` of them came before it
unfoldable pub settled_of : Float → ℕ → Phase
settled_of saved reports = cond (ltb (reports + 1) 30) (Settling saved (reports + 1)) (Set saved 0)

-- "Then at every tenth report from there": `reports` came since P_REF was set or last due for a change
unfoldable pub set_of : Float → ℕ → Float → Phase
set_of reference reports p =
    cond (ltb (reports + 1) 10) (Set reference (reports + 1))
    (Set (changed_reference (record { pressure = p; reference = reference })) 0)

-- the phase after a report with the pressure p; "A P_INT more than 20 from P0 is judged as if waiting"
unfoldable pub next_of : Phase → Float → Phase
next_of Waiting p = waited_of p
next_of (Settling saved reports) p = cond (is_far saved p) (waited_of p) (settled_of saved reports)
next_of (Set reference reports) p = set_of reference reports p
