-- The rows hold as they are told: computed for each area over all events. Assumes nothing.
use mathlib.Core.Path.{◌≡◌, refl, sym, ◌∙◌, ap}
use mathlib.Core.Bool.{true, cond}
use mathlib.Core.List.{List, [], ◌∷◌, map}
use lib.ListN.{get_or}
use Rattle.areas.specs.Numbers.{area_number, event_number}
use Rattle.areas.specs.Rows.{rows, leads_in, is_taken, target_of}
use Rattle.areas.specs.Claims.{takes, enters, RowsAreTold}
use Rattle.areas.specs.declared.Area.{Area}
use Rattle.areas.specs.declared.Event.{Event}

abbrev pub events : List Event
events =
    Event.Signal ∷
    Event.GMD ∷
    Event.HTDeleted ∷
    Event.NoOverlap ∷
    Event.ToNonEquipped ∷
    Event.ToHT ∷
    Event.ToFull ∷
    []

-- what holds over the list of events holds at each
pub each : {A : Type 0} (f g : Event → A) → map f events ≡ map g events → (event : Event) → f event ≡ g event
each f g e Event.Signal = ap (λ l. get_or l 0 (f Event.Signal)) e
each f g e Event.GMD = ap (λ l. get_or l 1 (f Event.GMD)) e
each f g e Event.HTDeleted = ap (λ l. get_or l 2 (f Event.HTDeleted)) e
each f g e Event.NoOverlap = ap (λ l. get_or l 3 (f Event.NoOverlap)) e
each f g e Event.ToNonEquipped = ap (λ l. get_or l 4 (f Event.ToNonEquipped)) e
each f g e Event.ToHT = ap (λ l. get_or l 5 (f Event.ToHT)) e
each f g e Event.ToFull = ap (λ l. get_or l 6 (f Event.ToFull)) e

taken_numbers : (area : Area) → map (is_taken area) events ≡ map (λ event. takes (area_number area) (event_number event)) events
unfolding rows leads_in is_taken
taken_numbers Area.NonEquipped = refl
taken_numbers Area.Partial = refl
taken_numbers Area.HT = refl
taken_numbers Area.Full = refl

target_numbers : (area : Area)
    → map (λ event. cond (is_taken area event) (area_number (target_of area event)) (enters (event_number event))) events
    ≡ map (λ event. enters (event_number event)) events
unfolding rows leads_in is_taken target_of
target_numbers Area.NonEquipped = refl
target_numbers Area.Partial = refl
target_numbers Area.HT = refl
target_numbers Area.Full = refl

pub target_number : (area : Area) (event : Event) → is_taken area event ≡ true → area_number (target_of area event) ≡ enters (event_number event)
target_number area event t =
    ap (λ is. cond is (area_number (target_of area event)) (enters (event_number event))) (sym t)
    ∙ each (λ e. cond (is_taken area e) (area_number (target_of area e)) (enters (event_number e))) (λ e. enters (event_number e)) (target_numbers area) event

pub rows_are_told : RowsAreTold
rows_are_told area event = (
  each (is_taken area) (λ e. takes (area_number area) (event_number e)) (taken_numbers area) event,
  target_number area event,
)
