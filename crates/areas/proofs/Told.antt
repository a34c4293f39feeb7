-- What the code and the laws above say of rows and numbers. Assumes nothing.
use mathlib.Core.Path.{◌≡◌, refl, sym, ◌∙◌, ap}
use Prim.Native.Nat.{ℕ, ◌≤◌}
use native.Mathlib.Omega.{arith}
use mathlib.Core.Bool.{Bool, true, false, cond, not, ◌||◌, false≢true}
use mathlib.Core.List.{map}
use mathlib.Core.Option.{Option, none, some}
use lib.Dec.{eqb}
use borrow.Author.Tests.{eqb-true, eqb-false}
use Rattle.areas.specs.Numbers.{is_area, event_number, event_of, is_event}
use Rattle.areas.specs.Rows.{rows, leads_in, is_some, area_or, is_taken, target_of}
use Rattle.areas.specs.declared.Area.{Area}
use Rattle.areas.specs.declared.Event.{Event}
use Rattle.areas.proofs.Table.{events, each}

-- where an event is taken, and what it leads to
abbrev pub taken_by : Area → Event → Bool
taken_by area Event.Signal = is_area Area.NonEquipped area || is_area Area.HT area
taken_by area Event.GMD = is_area Area.NonEquipped area || is_area Area.Partial area
taken_by area Event.HTDeleted = is_area Area.Full area
taken_by area Event.NoOverlap = is_area Area.Full area
taken_by area Event.ToNonEquipped = not (is_area Area.NonEquipped area)
taken_by area Event.ToHT = not (is_area Area.HT area)
taken_by area Event.ToFull = not (is_area Area.Full area)

abbrev pub entered_by : Event → Area
entered_by Event.Signal = Area.Partial
entered_by Event.GMD = Area.Partial
entered_by Event.HTDeleted = Area.Partial
entered_by Event.NoOverlap = Area.Partial
entered_by Event.ToNonEquipped = Area.NonEquipped
entered_by Event.ToHT = Area.HT
entered_by Event.ToFull = Area.Full

abbrev told : Area → Event → Option Area
told area event = cond (taken_by area event) (some (entered_by event)) none

computed : (area : Area) → map (leads_in rows area) events ≡ map (told area) events
unfolding rows leads_in
computed Area.NonEquipped = refl
computed Area.Partial = refl
computed Area.HT = refl
computed Area.Full = refl

leads_told : (area : Area) (event : Event) → leads_in rows area event ≡ told area event
leads_told area event = each (leads_in rows area) (told area) (computed area) event

some_told : (t : Bool) (to : Area) → is_some (cond t (some to) none) ≡ t
some_told true to = refl
some_told false to = refl

pub taken_by_lem : (area : Area) (event : Event) → is_taken area event ≡ taken_by area event
unfolding is_taken
taken_by_lem area event = ap is_some (leads_told area event) ∙ some_told (taken_by area event) (entered_by event)

target_told : (t : Bool) (area to : Area) → area_or area (cond t (some to) none) ≡ cond t to area
target_told true area to = refl
target_told false area to = refl

pub target_by : (area : Area) (event : Event) (taken : Bool) → is_taken area event ≡ taken
    → target_of area event ≡ cond taken (entered_by event) area
unfolding target_of
target_by area event taken e =
    ap (area_or area) (leads_told area event) ∙ target_told (taken_by area event) area (entered_by event)
    ∙ ap (λ t. cond t (entered_by event) area) (sym (taken_by_lem area event) ∙ e)

-- ---- areas and events by their numbers

pub partial_is : (area : Area) → is_area Area.Partial area ≡ true → area ≡ Area.Partial
partial_is Area.NonEquipped e = absurd (false≢true e)
partial_is Area.Partial e = refl
partial_is Area.HT e = absurd (false≢true e)
partial_is Area.Full e = absurd (false≢true e)

pub full_is : (area : Area) → is_area Area.Full area ≡ true → area ≡ Area.Full
full_is Area.NonEquipped e = absurd (false≢true e)
full_is Area.Partial e = absurd (false≢true e)
full_is Area.HT e = absurd (false≢true e)
full_is Area.Full e = refl

-- the event of a byte in range has its number
pub event_number_lem : (byte : ℕ) → byte ≤ 6 → event_number (event_of byte) ≡ byte
unfolding event_of
event_number_lem byte h = by (eqb byte 0) (eqb byte 1) (eqb byte 2) (eqb byte 3) (eqb byte 4) (eqb byte 5) refl refl refl refl refl refl
  where
    by : (t0 t1 t2 t3 t4 t5 : Bool) → eqb byte 0 ≡ t0 → eqb byte 1 ≡ t1 → eqb byte 2 ≡ t2 → eqb byte 3 ≡ t3 → eqb byte 4 ≡ t4 → eqb byte 5 ≡ t5
        → event_number
        (cond t0 Event.Signal (cond t1 Event.GMD (cond t2 Event.HTDeleted (cond t3 Event.NoOverlap (cond t4 Event.ToNonEquipped (cond t5 Event.ToHT Event.ToFull))))))
        ≡ byte
    by true t1 t2 t3 t4 t5 e0 e1 e2 e3 e4 e5 = sym (eqb-true byte 0 e0)
    by false true t2 t3 t4 t5 e0 e1 e2 e3 e4 e5 = sym (eqb-true byte 1 e1)
    by false false true t3 t4 t5 e0 e1 e2 e3 e4 e5 = sym (eqb-true byte 2 e2)
    by false false false true t4 t5 e0 e1 e2 e3 e4 e5 = sym (eqb-true byte 3 e3)
    by false false false false true t5 e0 e1 e2 e3 e4 e5 = sym (eqb-true byte 4 e4)
    by false false false false false true e0 e1 e2 e3 e4 e5 = sym (eqb-true byte 5 e5)
    by false false false false false false e0 e1 e2 e3 e4 e5 =
        omega (
          arith,
          h,
          eqb-false byte 0 e0,
          eqb-false byte 1 e1,
          eqb-false byte 2 e2,
          eqb-false byte 3 e3,
          eqb-false byte 4 e4,
          eqb-false byte 5 e5,
        )

-- a GMD is told by 1, whatever byte it is
pub event_gmd : (byte : ℕ) → is_event Event.GMD (event_of byte) ≡ eqb byte 1
unfolding event_of
event_gmd byte = by (eqb byte 0) (eqb byte 1) refl refl
  where
    others : (t2 t3 t4 t5 : Bool)
        → is_event Event.GMD (cond t2 Event.HTDeleted (cond t3 Event.NoOverlap (cond t4 Event.ToNonEquipped (cond t5 Event.ToHT Event.ToFull)))) ≡ false
    others true t3 t4 t5 = refl
    others false true t4 t5 = refl
    others false false true t5 = refl
    others false false false true = refl
    others false false false false = refl

    by : (t0 t1 : Bool) → eqb byte 0 ≡ t0 → eqb byte 1 ≡ t1
        → is_event Event.GMD
        (cond t0 Event.Signal (cond t1 Event.GMD (cond (eqb byte 2) Event.HTDeleted (cond (eqb byte 3) Event.NoOverlap (cond (eqb byte 4) Event.ToNonEquipped (cond (eqb byte 5) Event.ToHT Event.ToFull))))))
        ≡ t1
    by true true e0 e1 = absurd (omega (arith, eqb-true byte 0 e0, eqb-true byte 1 e1))
    by true false e0 e1 = refl
    by false true e0 e1 = refl
    by false false e0 e1 = others (eqb byte 2) (eqb byte 3) (eqb byte 4) (eqb byte 5)
