-- The derived comparison of areas and of events compares their numbers.
use Rattle.std.proofs.Common.{◌≡◌, refl}
use denote.Enum.Bare.{sameb}
use Rattle.areas.specs.declared.Area.{Area}
use Rattle.areas.specs.declared.Event.{Event}
use Rattle.areas.specs.Numbers.{is_area, is_event}
use Rattle.areas.specs.contracts.Area as area
use Rattle.areas.specs.contracts.Event as event

pub same_area : (x wanted : Area) → sameb area.the_type x wanted ≡ is_area wanted x
same_area Area.NonEquipped Area.NonEquipped = refl
same_area Area.NonEquipped Area.Partial = refl
same_area Area.NonEquipped Area.HT = refl
same_area Area.NonEquipped Area.Full = refl
same_area Area.Partial Area.NonEquipped = refl
same_area Area.Partial Area.Partial = refl
same_area Area.Partial Area.HT = refl
same_area Area.Partial Area.Full = refl
same_area Area.HT Area.NonEquipped = refl
same_area Area.HT Area.Partial = refl
same_area Area.HT Area.HT = refl
same_area Area.HT Area.Full = refl
same_area Area.Full Area.NonEquipped = refl
same_area Area.Full Area.Partial = refl
same_area Area.Full Area.HT = refl
same_area Area.Full Area.Full = refl

pub same_event : (x wanted : Event) → sameb event.the_type x wanted ≡ is_event wanted x
same_event Event.Signal Event.Signal = refl
same_event Event.Signal Event.GMD = refl
same_event Event.Signal Event.HTDeleted = refl
same_event Event.Signal Event.NoOverlap = refl
same_event Event.Signal Event.ToNonEquipped = refl
same_event Event.Signal Event.ToHT = refl
same_event Event.Signal Event.ToFull = refl
same_event Event.GMD Event.Signal = refl
same_event Event.GMD Event.GMD = refl
same_event Event.GMD Event.HTDeleted = refl
same_event Event.GMD Event.NoOverlap = refl
same_event Event.GMD Event.ToNonEquipped = refl
same_event Event.GMD Event.ToHT = refl
same_event Event.GMD Event.ToFull = refl
same_event Event.HTDeleted Event.Signal = refl
same_event Event.HTDeleted Event.GMD = refl
same_event Event.HTDeleted Event.HTDeleted = refl
same_event Event.HTDeleted Event.NoOverlap = refl
same_event Event.HTDeleted Event.ToNonEquipped = refl
same_event Event.HTDeleted Event.ToHT = refl
same_event Event.HTDeleted Event.ToFull = refl
same_event Event.NoOverlap Event.Signal = refl
same_event Event.NoOverlap Event.GMD = refl
same_event Event.NoOverlap Event.HTDeleted = refl
same_event Event.NoOverlap Event.NoOverlap = refl
same_event Event.NoOverlap Event.ToNonEquipped = refl
same_event Event.NoOverlap Event.ToHT = refl
same_event Event.NoOverlap Event.ToFull = refl
same_event Event.ToNonEquipped Event.Signal = refl
same_event Event.ToNonEquipped Event.GMD = refl
same_event Event.ToNonEquipped Event.HTDeleted = refl
same_event Event.ToNonEquipped Event.NoOverlap = refl
same_event Event.ToNonEquipped Event.ToNonEquipped = refl
same_event Event.ToNonEquipped Event.ToHT = refl
same_event Event.ToNonEquipped Event.ToFull = refl
same_event Event.ToHT Event.Signal = refl
same_event Event.ToHT Event.GMD = refl
same_event Event.ToHT Event.HTDeleted = refl
same_event Event.ToHT Event.NoOverlap = refl
same_event Event.ToHT Event.ToNonEquipped = refl
same_event Event.ToHT Event.ToHT = refl
same_event Event.ToHT Event.ToFull = refl
same_event Event.ToFull Event.Signal = refl
same_event Event.ToFull Event.GMD = refl
same_event Event.ToFull Event.HTDeleted = refl
same_event Event.ToFull Event.NoOverlap = refl
same_event Event.ToFull Event.ToNonEquipped = refl
same_event Event.ToFull Event.ToHT = refl
same_event Event.ToFull Event.ToFull = refl
