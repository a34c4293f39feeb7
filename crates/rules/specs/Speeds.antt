-- What the train brings to the curves, VMAX and the permitted speed (01, "Curves"; 02, F-6).
use Rattle.std.specs.Prelude.{ℕ, min, Bool, cond}
use mathlib.Core.List.{List, ◌∷◌, map, foldr}
use Rattle.curve.specs.declared.Curve.{Curve}
use Rattle.curve.specs.declared.Braking.{Braking}
use Rattle.curve.specs.declared.Judged.{Judged}
use Rattle.curve.specs.Deceleration.{level_of}
use Rattle.curve.specs.Lead.{leads_of}
use Rattle.places.specs.Places.{judged_here, judged_all, least_permitted}
use Rattle.areas.specs.Stays.{area_speed}
use Rattle.rules.specs.declared.Train.{Train}
use Rattle.rules.specs.declared.Section.{Section}
use Rattle.rules.specs.declared.Track.{Track}
use Rattle.rules.specs.declared.Kept.{Kept}

-- "b is the full deceleration, soft with HALKA on"; the leads; the F margin
unfoldable pub braking_of : Train → Bool → Braking
braking_of train halka = record {
  level = level_of train.full train.soft halka;
  leads = leads_of train.times;
  margin = train.margin;
}

-- what a curve says at the last odometer figures, and what every one of a list does
unfoldable pub judged_by : Train → Kept → Curve → Judged
judged_by train kept curve = judged_here (braking_of train kept.halka) kept.speed curve

unfoldable pub judged_now : Train → Kept → List Curve → List Judged
judged_now train kept curves = judged_all (braking_of train kept.halka) kept.speed curves

-- a section's speed; a place that holds none leaves the train's speed
abbrev pub section_speed : ℕ → Section → ℕ
section_speed speed section = cond section.held section.speed speed

-- "40 after an unexpected stop until a proceed signal"
abbrev pub stop_speed : ℕ → Bool → ℕ
stop_speed speed forty = cond forty 40 speed

-- "VMAX is the least of train speed, sections .. and 40 after an unexpected stop"; 02, F-6: "In the partial area VMAX also takes .."
unfoldable pub vmax_of : Train → Track → ℕ
vmax_of train track =
    foldr min train.speed
    (area_speed train.speed track.stay
    ∷ stop_speed train.speed track.forty
    ∷ map (section_speed train.speed) track.sections)

-- "Permitted speed is the least of VMAX and the curves'"
unfoldable pub permitted_speed : ℕ → List Judged → ℕ
permitted_speed vmax judged = min vmax (least_permitted judged)
