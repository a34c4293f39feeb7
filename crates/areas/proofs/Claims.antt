-- What is promised of areas and stays. Assumes nothing.
use mathlib.Core.Path.{◌≡◌, refl, sym, ◌∙◌, ap}
use Prim.Native.Nat.{ℕ, ◌+◌, ◌≤◌, ◌<◌}
use native.Mathlib.Omega.{arith}
use native.Mathlib.Nat.{zero-add, add-zero}
use mathlib.Core.Bool.{Bool, true, false, cond, not, ◌&&◌}
use mathlib.Core.List.{List, [], ◌∷◌}
use native.Mathlib.Decide.{dec_le}
use lib.Dec.{eqb}
use borrow.Author.Tests.{ne_eqb, le-leb, lt-leb}
use Rattle.std.specs.Prelude.{Option, Some, None}
use Rattle.areas.specs.Numbers.{area_number, event_number, event_of}
use Rattle.areas.specs.Rows.{target_of}
use Rattle.areas.specs.Stays.{begun_stay, with_missing, line_by, missed, passed_stay, deletes_sections, covered_by, covered_stay, line_speed, area_speed}
use Rattle.areas.specs.Claims.{NumbersAreTold, EventIsFollowed, OnlyInPartialArea, EnteringGmdDeletes, covered_all, sum, GroupWaits, SecondGroupMovesNothing, GroundAloneIsNothing, CSKeepsArea, StartsInFull}
use Rattle.areas.specs.declared.Area.{Area}
use Rattle.areas.specs.declared.Event.{Event}
use Rattle.areas.specs.declared.Stay.{Stay}
use Rattle.areas.proofs.Table.{each, target_number}
use Rattle.areas.proofs.Told.{taken_by_lem, target_by, event_gmd}

-- ---- numbers

pub numbers_are_told : NumbersAreTold
unfolding event_of
numbers_are_told = (refl, each (λ event. event_of (event_number event)) (λ event. event) refl)

-- ---- an event

-- one that is followed at once
pub followed : (event : Event) (speed : ℕ) (stay : Stay) → (event_number event ≡ 3 → ⊥)
    → passed_stay event speed stay ≡ begun_stay (target_of stay.area event) (line_by event speed)
unfolding passed_stay
followed event speed stay n = rw (ne_eqb (event_number event) 3 n)

line_speed_by : (gmd : Bool) (speed : ℕ) → line_speed (cond gmd (Some speed) None) ≡ cond gmd speed 130
line_speed_by true speed = refl
line_speed_by false speed = refl

speed_by : (event : Event) (speed train : ℕ) (to : Area)
    → area_speed train (begun_stay to (line_by event speed)) ≡ cond (eqb (area_number to) 4) (cond (eqb (event_number event) 1) speed 130) train
unfolding area_speed
speed_by event speed train to =
    ap (λ n. cond (eqb (area_number to) 4) n train) (line_speed_by (eqb (event_number event) 1) speed)

pub event_is_followed : EventIsFollowed
event_is_followed event speed train stay t n =
    let at = target_number stay.area event t in
    let is = followed event speed stay n in (
      ap (λ s. area_number s.area) is ∙ at,
      ap (λ s. s.missing) is,
      ap (area_speed train) is ∙ speed_by event speed train (target_of stay.area event)
          ∙ ap (λ a. cond (eqb a 4) (cond (eqb (event_number event) 1) speed 130) train) at,
    )

pub only_in_partial_area : OnlyInPartialArea
unfolding area_speed
only_in_partial_area train stay n = rw (ne_eqb (area_number stay.area) 4 n)

pub entering_gmd_deletes : EnteringGmdDeletes
unfolding deletes_sections
entering_gmd_deletes event stay = refl

-- by the byte that is sent
pub deletes_told : (byte : ℕ) (stay : Stay) → deletes_sections (event_of byte) stay ≡ (eqb byte 1 && not (eqb (area_number stay.area) 4))
deletes_told byte stay =
    entering_gmd_deletes (event_of byte) stay ∙ ap (λ gmd. gmd && not (eqb (area_number stay.area) 4)) (event_gmd byte)

-- ---- 50 m

-- while the 50 m pend, with this ground before
module _ (line : Option ℕ) where
  abbrev pub pends : ℕ → Stay
  pends covered = record { area = Area.Full; line = line; missing = Some covered }

  abbrev entered : Stay
  entered = begun_stay Area.Partial None

  pub covered_below : (covered moved : ℕ) → covered + moved < 5000 → covered_stay moved (pends covered) ≡ pends (covered + moved)
  unfolding covered_stay
  covered_below covered moved h = rw (lt-leb 5000 (covered + moved) h)

  pub covered_past : (covered moved : ℕ) → 5000 ≤ covered + moved → covered_stay moved (pends covered) ≡ entered
  unfolding covered_stay
  covered_past covered moved h =
      rw (le-leb 5000 (covered + moved) h) (ap (λ to. begun_stay to None) (target_by Area.Full Event.NoOverlap true (taken_by_lem Area.Full Event.NoOverlap)))

ground_alone : (covered : List ℕ) (stay : Stay) → stay.missing ≡ None → covered_all covered stay ≡ stay
unfolding covered_all covered_stay
ground_alone [] stay p = refl
ground_alone (moved ∷ rest) stay p =
    let here : covered_stay moved stay ≡ stay = ap (covered_by moved stay) p in
    ap (covered_all rest) here ∙ ground_alone rest stay p

pub ground_alone_is_nothing : GroundAloneIsNothing
ground_alone_is_nothing = ground_alone

all_below : (line : Option ℕ) (covered : List ℕ) (before : ℕ) → before + sum covered < 5000
    → covered_all covered (pends line before) ≡ pends line (before + sum covered)
unfolding covered_all
all_below line [] before h = ap (pends line) (sym (add-zero before))
all_below line (moved ∷ rest) before h =
    let first : before + moved < 5000 = omega (arith, h) in
    let whole : before + moved + sum rest ≡ before + (moved + sum rest) = omega arith in
    ap (covered_all rest) (covered_below line before moved first) ∙ all_below line rest (before + moved) (omega (arith, h, whole))
    ∙ ap (pends line) whole

all_past : (line : Option ℕ) (covered : List ℕ) (before : ℕ) → before < 5000 → 5000 ≤ before + sum covered
    → covered_all covered (pends line before) ≡ entered line
unfolding covered_all
all_past line [] before b h = absurd (omega (arith, b, h))
all_past line (moved ∷ rest) before b h =
    elim (dec_le 5000 (before + moved)) [
      | yes g ↦ ap (covered_all rest) (covered_past line before moved g) ∙ ground_alone rest (entered line) refl
      | no g ↦
          let first : before + moved < 5000 = omega (arith, g) in
          ap (covered_all rest) (covered_below line before moved first) ∙ all_past line rest (before + moved) first (omega (arith, h))
    ]

grouped : (speed : ℕ) (stay : Stay) → stay.area ≡ Area.Full → stay.missing ≡ None
    → passed_stay Event.NoOverlap speed stay ≡ pends stay.line 0
unfolding passed_stay
grouped speed stay a p =
    ap (λ missing. with_missing stay (missed missing)) p
    ∙ ap (λ area. record { area = area; line = stay.line; missing = Some 0 }) a

pub group_waits : GroupWaits
group_waits speed stay covered a p =
    let begun = ap (covered_all covered) (grouped speed stay a p) in (
      λ h. begun ∙ all_below stay.line covered 0 (omega (arith, h)) ∙ ap (pends stay.line) (zero-add (sum covered)),
      λ h. begun ∙ all_past stay.line covered 0 (omega arith) (omega (arith, h)),
    )

pub second_group_moves_nothing : SecondGroupMovesNothing
unfolding passed_stay
second_group_moves_nothing speed covered stay p =
    ap (λ missing. with_missing stay (missed missing)) p ∙ ap (with_missing stay) (sym p)

-- ---- CS and start

pub cs_keeps_area : CSKeepsArea
unfolding area_speed
cs_keeps_area stay train = (refl, refl, refl)

pub starts_in_full : StartsInFull
starts_in_full = (refl, refl)
