-- The stay in an area stays sound: a GMD's speed in range and in the partial area, a pending ground below 50 m and in the fully equipped.
-- Assumes nothing.
use mathlib.Core.Path.{◌≡◌, refl, sym, ◌∙◌}
use Prim.Native.Nat.{ℕ, ◌+◌}
use mathlib.Core.Bool.{true, ◌&&◌}
use lib.Dec.{leb, ltb}
use borrow.Author.Tests.{leb-false, lt-ltb}
use Rattle.std.specs.Prelude.{Option, Some, None}
use Rattle.areas.specs.declared.Area.{Area}
use Rattle.areas.specs.declared.Event.{Event}
use Rattle.areas.specs.declared.Stay.{Stay}
use Rattle.areas.specs.Numbers.{is_area, is_event}
use Rattle.areas.specs.Rows.{is_taken, target_of}
use Rattle.areas.specs.Stays.{begun_stay, cleared_stay, line_by, missed, passed_stay, covered_stay}
use Rattle.areas.proofs.Told.{taken_by_lem, target_by}
use Rattle.rules.specs.Operands.{within}
use Rattle.rules.specs.Units.{is_line_sound, is_missing_sound, is_stay_sound}
use Rattle.rules.proofs.Tests.{and_left, and_right, and_both, cond_by}

-- ---- CS

pub stay_cleared : (stay : Stay) → is_stay_sound stay ≡ true → is_stay_sound (cleared_stay stay) ≡ true
stay_cleared stay s =
    and_both (is_line_sound stay.area stay.line) true
    (and_left (is_line_sound stay.area stay.line) (is_missing_sound stay.area stay.missing) s) refl

-- ---- ground

abbrev stay_of : Area → Option ℕ → Option ℕ → Stay
stay_of area line missing = record { area = area; line = line; missing = missing }

covered_sound : (moved : ℕ) (area : Area) (line : Option ℕ) (missing : Option ℕ) → is_stay_sound (stay_of area line missing) ≡ true
    → is_stay_sound (covered_stay moved (stay_of area line missing)) ≡ true
unfolding covered_stay
covered_sound moved area line None s = s
covered_sound moved area line (Some covered) s =
    let lined = and_left (is_line_sound area line) (is_area Area.Full area && ltb covered 5000) s in
    let full = and_left (is_area Area.Full area) (ltb covered 5000) (and_right (is_line_sound area line) (is_area Area.Full area && ltb covered 5000) s) in
    cond_by (λ stay. is_stay_sound stay ≡ true) (leb 5000 (covered + moved)) (begun_stay (target_of area Event.NoOverlap) None)
    (stay_of area line (Some (covered + moved)))
    (λ t. refl)
    (λ t. and_both (is_line_sound area line) (is_area Area.Full area && ltb (covered + moved) 5000) lined
    (and_both (is_area Area.Full area) (ltb (covered + moved) 5000) full (lt-ltb (covered + moved) 5000 (leb-false 5000 (covered + moved) t))))

pub stay_covered : (moved : ℕ) (stay : Stay) → is_stay_sound stay ≡ true → is_stay_sound (covered_stay moved stay) ≡ true
stay_covered moved stay s = covered_sound moved stay.area stay.line stay.missing s

-- ---- an event

-- one that is followed at once, with its line speed
module _ (event : Event) (speed : ℕ) (area : Area) where
  begun_sound : (to : Area) → target_of area event ≡ to → is_line_sound to (line_by event speed) ≡ true
      → is_stay_sound (begun_stay (target_of area event) (line_by event speed)) ≡ true
  begun_sound to e s = rw e (and_both (is_line_sound to (line_by event speed)) true s refl)

missed_sound : (area : Area) (missing : Option ℕ) → is_area Area.Full area ≡ true → is_missing_sound area missing ≡ true
    → is_missing_sound area (missed missing) ≡ true
missed_sound area None full s = and_both (is_area Area.Full area) true full refl
missed_sound area (Some covered) full s = s

passed_sound : (event : Event) (speed : ℕ) (area : Area) (line : Option ℕ) (missing : Option ℕ)
    → is_stay_sound (stay_of area line missing) ≡ true
    → is_taken area event ≡ true → (is_event Event.GMD event ≡ true → within 10 300 speed ≡ true)
    → is_stay_sound (passed_stay event speed (stay_of area line missing)) ≡ true
unfolding passed_stay
passed_sound Event.Signal speed area line missing s t r =
    begun_sound Event.Signal speed area Area.Partial (target_by area Event.Signal true t) refl
passed_sound Event.GMD speed area line missing s t r =
    begun_sound Event.GMD speed area Area.Partial (target_by area Event.GMD true t) (r refl)
passed_sound Event.HTDeleted speed area line missing s t r =
    begun_sound Event.HTDeleted speed area Area.Partial (target_by area Event.HTDeleted true t) refl
passed_sound Event.NoOverlap speed area line missing s t r =
    and_both (is_line_sound area line) (is_missing_sound area (missed missing)) (and_left (is_line_sound area line) (is_missing_sound area missing) s)
    (missed_sound area missing (sym (taken_by_lem area Event.NoOverlap) ∙ t) (and_right (is_line_sound area line) (is_missing_sound area missing) s))
passed_sound Event.ToNonEquipped speed area line missing s t r =
    begun_sound Event.ToNonEquipped speed area Area.NonEquipped (target_by area Event.ToNonEquipped true t) refl
passed_sound Event.ToHT speed area line missing s t r =
    begun_sound Event.ToHT speed area Area.HT (target_by area Event.ToHT true t) refl
passed_sound Event.ToFull speed area line missing s t r =
    begun_sound Event.ToFull speed area Area.Full (target_by area Event.ToFull true t) refl

pub stay_passed : (event : Event) (speed : ℕ) (stay : Stay) → is_stay_sound stay ≡ true → is_taken stay.area event ≡ true
    → (is_event Event.GMD event ≡ true → within 10 300 speed ≡ true) → is_stay_sound (passed_stay event speed stay) ≡ true
stay_passed event speed stay s t r = passed_sound event speed stay.area stay.line stay.missing s t r
