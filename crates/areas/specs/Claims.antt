-- What is promised of areas and stays (02, F-6), in the paper's numbers and over any ground. Proved in proofs/.
use Rattle.std.specs.Prelude.{◌≡◌, ℕ, ◌+◌, ◌≤◌, ◌<◌, Bool, true, cond, not, ◌&&◌, ◌||◌, eqb, Some, None}
use mathlib.Core.List.{List, [], ◌∷◌, map, foldr}
use Rattle.areas.specs.Numbers.{area_number, event_number, event_of}
use Rattle.areas.specs.Rows.{is_taken, target_of}
use Rattle.areas.specs.Stays.{fresh_stay, cleared_stay, passed_stay, deletes_sections, covered_stay, area_speed}
use Rattle.areas.specs.declared.Area.{Area}
use Rattle.areas.specs.declared.Event.{Event}
use Rattle.areas.specs.declared.Stay.{Stay}

-- ---- numbers

-- the digits of the areas, and the events by theirs
abbrev pub NumbersAreTold : Type 0
NumbersAreTold =
    (map area_number (Area.NonEquipped ∷ Area.Partial ∷ Area.HT ∷ Area.Full ∷ []) ≡ (7 ∷ 4 ∷ 9 ∷ 8 ∷ []))
    × ((event : Event) → event_of (event_number event) ≡ event)

-- ---- the rows

-- an event is taken in an area, both by number: signals in 7 and 9, a GMD in 7 and 4, errors and groups in 8, an entry from any other
-- area than its own
abbrev pub takes : ℕ → ℕ → Bool
takes area event =
    eqb event 0 && (eqb area 7 || eqb area 9)
    || eqb event 1 && (eqb area 7 || eqb area 4)
    || (eqb event 2 || eqb event 3) && eqb area 8
    || eqb event 4 && not (eqb area 7)
    || eqb event 5 && not (eqb area 9)
    || eqb event 6 && not (eqb area 8)

-- and the area that it leads to: 4 for events 0 to 3
abbrev pub enters : ℕ → ℕ
enters event = cond (eqb event 4) 7 (cond (eqb event 5) 9 (cond (eqb event 6) 8 4))

abbrev pub RowsAreTold : Type 0
RowsAreTold =
    (area : Area) (event : Event)
    → (is_taken area event ≡ takes (area_number area) (event_number event))
    × (is_taken area event ≡ true → area_number (target_of area event) ≡ enters (event_number event))

-- ---- an event

-- every event that is taken, but a group without overlap, is followed at once and ends what pends; "In the partial area VMAX also takes
-- the last GMD speed of this stay, the entering one included, or 130 if none was passed", whatever the stay before had; in no other area
-- does it take any
abbrev pub EventIsFollowed : Type 0
EventIsFollowed =
    (event : Event) (speed train : ℕ) (stay : Stay)
    → is_taken stay.area event ≡ true → (event_number event ≡ 3 → ⊥)
    → (area_number (passed_stay event speed stay).area ≡ enters (event_number event))
    × ((passed_stay event speed stay).missing ≡ None)
    × (area_speed train (passed_stay event speed stay)
    ≡ cond (eqb (enters (event_number event)) 4) (cond (eqb (event_number event) 1) speed 130) train)

-- "130 or a GMD speed" outside the partial area: none
abbrev pub OnlyInPartialArea : Type 0
OnlyInPartialArea = (train : ℕ) (stay : Stay) → (area_number stay.area ≡ 4 → ⊥) → area_speed train stay ≡ train

-- "An entering GMD deletes the sections", one inside does not, and no other event does
abbrev pub EnteringGmdDeletes : Type 0
EnteringGmdDeletes =
    (event : Event) (stay : Stay)
    → deletes_sections event stay ≡ (eqb (event_number event) 1 && not (eqb (area_number stay.area) 4))

-- ---- 50 m

-- ground covered, report by report
unfoldable pub covered_all : List ℕ → Stay → Stay
covered_all [] stay = stay
covered_all (moved ∷ rest) stay = covered_all rest (covered_stay moved stay)

abbrev pub sum : List ℕ → ℕ
sum xs = foldr ◌+◌ 0 xs

-- a group without overlap leaves area and speed, and the partial area, with 130, is entered at the report at which the ground since it
-- reaches 5,000 cm: below that the area is the same, with that ground,
abbrev pub GroupWaits : Type 0
GroupWaits =
    (speed : ℕ) (stay : Stay) (covered : List ℕ)
    → stay.area ≡ Area.Full → stay.missing ≡ None
    → (sum covered < 5000
    → covered_all covered (passed_stay Event.NoOverlap speed stay)
    ≡ record { area = Area.Full; line = stay.line; missing = Some (sum covered) })
    × (5000 ≤ sum covered
    → covered_all covered (passed_stay Event.NoOverlap speed stay)
    ≡ record { area = Area.Partial; line = None; missing = None })

-- a second one meanwhile moves nothing, so that the ground is that since the first,
abbrev pub SecondGroupMovesNothing : Type 0
SecondGroupMovesNothing =
    (speed covered : ℕ) (stay : Stay) → stay.missing ≡ Some covered → passed_stay Event.NoOverlap speed stay ≡ stay

-- and where none pends no ground changes anything
abbrev pub GroundAloneIsNothing : Type 0
GroundAloneIsNothing = (covered : List ℕ) (stay : Stay) → stay.missing ≡ None → covered_all covered stay ≡ stay

-- ---- CS and start

-- "Any change of area, or CS, ends a pending 50 m; CS keeps the area", and the speed of the stay
abbrev pub CSKeepsArea : Type 0
CSKeepsArea =
    (stay : Stay) (train : ℕ)
    → (area_number (cleared_stay stay).area ≡ area_number stay.area)
    × (area_speed train (cleared_stay stay) ≡ area_speed train stay)
    × ((cleared_stay stay).missing ≡ None)

-- "Fully equipped is the area after start", and nothing pends
abbrev pub StartsInFull : Type 0
StartsInFull = (area_number fresh_stay.area ≡ 8) × (fresh_stay.missing ≡ None)
