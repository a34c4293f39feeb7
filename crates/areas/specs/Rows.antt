-- Which events lead from which area to which, row by row: table 4.4-4 of 001, "Entering Partially Equipped Area", and what 02, F-6 adds.
use Rattle.std.specs.Prelude.{Bool, true, false, cond, ◌&&◌, List, [], ◌∷◌}
use Rattle.std.proofs.Math.Option.{Option, none, some}
use Rattle.areas.specs.Numbers.{is_area, is_event}
use Rattle.areas.specs.declared.Area.{Area}
use Rattle.areas.specs.declared.Area.TheVariants.{NonEquipped, Partial, HT, Full}
use Rattle.areas.specs.declared.Event.{Event}
use Rattle.areas.specs.declared.Event.TheVariants.{Signal, GMD, HTDeleted, NoOverlap, ToNonEquipped, ToHT, ToFull}

-- a row: "Transition from", "When", and the area that is entered
pub record Row : Type 0 where
  pub from : Area
  pub event : Event
  pub to : Area

abbrev pub row : Area → Event → Area → Row
row from event to = record { from = from; event = event; to = to }

unfoldable pub rows : List Row
rows =
    -- a) "Passing a main and/or distant signal"
    row NonEquipped Signal Partial
    -- b) "Passing a GMD (border to Partially Equipped Area)"
    ∷ row NonEquipped GMD Partial
    -- c) "Balise error that deletes HT information"
    ∷ row Full HTDeleted Partial
    -- d) "50 m after passing a group of balises indicating that full HT information is not available"
    ∷ row Full NoOverlap Partial
    -- e) "Passing a main and/or distant signal, and there is not full HT information"
    ∷ row HT Signal Partial
    -- "A GMD inside the partial area only updates its speed"
    ∷ row Partial GMD Partial
    -- "4 to 6 entry to non-equipped, HT and fully equipped from any other area"
    ∷ row Partial ToNonEquipped NonEquipped
    ∷ row HT ToNonEquipped NonEquipped
    ∷ row Full ToNonEquipped NonEquipped
    ∷ row NonEquipped ToHT HT
    ∷ row Partial ToHT HT
    ∷ row Full ToHT HT
    ∷ row NonEquipped ToFull Full
    ∷ row Partial ToFull Full
    ∷ row HT ToFull Full
    ∷ []

-- the area to which the first of some rows for this area and event leads; "an event that these rules don't take in this area" has none
unfoldable pub leads_in : List Row → Area → Event → Option Area
leads_in [] area event = none
leads_in (r ∷ rs) area event = cond (is_area r.from area && is_event r.event event) (some r.to) (leads_in rs area event)

abbrev pub is_some : Option Area → Bool
is_some none = false
is_some (some to) = true

abbrev pub area_or : Area → Option Area → Area
area_or area none = area
area_or area (some to) = to

-- refusal 16 asks it: a row has the event in this area
unfoldable pub is_taken : Area → Event → Bool
is_taken area event = is_some (leads_in rows area event)

-- the area to which it leads; refusal 16 has gone before
unfoldable pub target_of : Area → Event → Area
target_of area event = area_or area (leads_in rows area event)
