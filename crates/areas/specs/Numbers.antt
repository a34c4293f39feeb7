-- 02's numbers of areas and events (02, F-6).
use Rattle.std.specs.Prelude.{ℕ, Bool, cond, eqb}
use Rattle.areas.specs.declared.Area.{Area}
use Rattle.areas.specs.declared.Event.{Event}

-- "7 non-equipped, 4 partially equipped, 9 HT, 8 fully equipped"
abbrev pub area_number : Area → ℕ
area_number Area.NonEquipped = 7
area_number Area.Partial = 4
area_number Area.HT = 9
area_number Area.Full = 8

-- an area is this one
abbrev pub is_area : Area → Area → Bool
is_area wanted area = eqb (area_number area) (area_number wanted)

-- "0 main or distant signal without full HT information, 1 GMD, 2 balise error that deletes HT information, 3 group without overlap, 4 to
-- 6 entry to non-equipped, HT and fully equipped"
abbrev pub event_number : Event → ℕ
event_number Event.Signal = 0
event_number Event.GMD = 1
event_number Event.HTDeleted = 2
event_number Event.NoOverlap = 3
event_number Event.ToNonEquipped = 4
event_number Event.ToHT = 5
event_number Event.ToFull = 6

-- the event of a byte from 0 to 6; refusal 9 has gone before
unfoldable pub event_of : ℕ → Event
event_of byte =
    cond (eqb byte 0) Event.Signal
    (cond (eqb byte 1) Event.GMD
    (cond (eqb byte 2) Event.HTDeleted
    (cond (eqb byte 3) Event.NoOverlap
    (cond (eqb byte 4) Event.ToNonEquipped
    (cond (eqb byte 5) Event.ToHT Event.ToFull)))))

-- an event is this one
abbrev pub is_event : Event → Event → Bool
is_event wanted event = eqb (event_number event) (event_number wanted)
