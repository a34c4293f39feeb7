-- The stay in an area (02, F-6): "this stay", from one change of area to the next.
use Rattle.std.specs.Prelude.{ℕ, ◌+◌, Bool, cond, not, ◌&&◌, leb, Option, Some, None}
use Rattle.std.specs.Option.{unwrap_or}
use Rattle.areas.specs.Numbers.{is_area, is_event}
use Rattle.areas.specs.Rows.{target_of}
use Rattle.areas.specs.declared.Area.{Area}
use Rattle.areas.specs.declared.Event.{Event}
use Rattle.areas.specs.declared.Stay.{Stay}

-- a stay begins: "Any change of area .. ends a pending 50 m"
abbrev pub begun_stay : Area → Option ℕ → Stay
begun_stay area line = record { area = area; line = line; missing = None }

-- "Fully equipped is the area after start"
abbrev pub fresh_stay : Stay
fresh_stay = begun_stay Area.Full None

abbrev pub with_missing : Stay → Option ℕ → Stay
with_missing stay missing = record { area = stay.area; line = stay.line; missing = missing }

-- "or CS, ends a pending 50 m; CS keeps the area", and the speed of the stay
abbrev pub cleared_stay : Stay → Stay
cleared_stay stay = with_missing stay None

-- ---- command 50

-- a GMD's speed; no other event brings one
abbrev pub line_by : Event → ℕ → Option ℕ
line_by event speed = cond (is_event Event.GMD event) (Some speed) None

-- "since the first such group": a second one meanwhile moves nothing
abbrev pub missed : Option ℕ → Option ℕ
missed None = Some 0
missed (Some covered) = Some covered

-- an event that is taken, with the command's speed: row d waits for its 50 m, and every other row is followed at once
unfoldable pub passed_stay : Event → ℕ → Stay → Stay
passed_stay event speed stay =
    cond (is_event Event.NoOverlap event) (with_missing stay (missed stay.missing))
    (begun_stay (target_of stay.area event) (line_by event speed))

-- "An entering GMD deletes the sections"
unfoldable pub deletes_sections : Event → Stay → Bool
deletes_sections event stay = is_event Event.GMD event && not (is_area Area.Partial stay.area)

-- ---- ground

-- "d once 50 m are covered since the first such group", in cm
abbrev pub covered_by : ℕ → Stay → Option ℕ → Stay
covered_by moved stay None = stay
covered_by moved stay (Some covered) =
    cond (leb 5000 (covered + moved)) (begun_stay (target_of stay.area Event.NoOverlap) None)
    (with_missing stay (Some (covered + moved)))

unfoldable pub covered_stay : ℕ → Stay → Stay
covered_stay moved stay = covered_by moved stay stay.missing

-- ---- VMAX

-- "the last GMD speed of this stay, the entering one included, or 130 if none was passed"
abbrev pub line_speed : Option ℕ → ℕ
line_speed line = unwrap_or line 130

-- "In the partial area VMAX also takes" it; elsewhere the train's speed is left
unfoldable pub area_speed : ℕ → Stay → ℕ
area_speed speed stay = cond (is_area Area.Partial stay.area) (line_speed stay.line) speed
