-- What a portion adds, by its answer and the room. Assumes nothing.
use Prim.Native.Nat.{ℕ, ◌≤◌}
use mathlib.Core.Path.{◌≡◌, refl}
use mathlib.Core.Bool.{Bool, true, false, cond}
use mathlib.Core.List.{List, []}
use borrow.Author.Tests.{le-ltb}
use lib.Dec.{ltb}
use Rattle.rules.specs.Numbers.{is_accepted}
use Rattle.rules.specs.Operands.{number_of}
use Rattle.rules.specs.Runs.{moment_of, answer_to, send}
use Rattle.sheet.specs.declared.Sheet.{Sheet}
use Rattle.sheet.specs.Columns.{Entry, entry}
use Rattle.sheet.specs.Paging.{Added, added, added_for, added_in, added_width}
use Rattle.printing.specs.declared.Trip.{Trip}
use Rattle.printing.specs.Sheets.{added_at}
use Rattle.printing.specs.Rooms.{added_within}

pub adds_entry : (trip : Trip) (p : List ℕ) → is_accepted (answer_to trip.stm (send p)) ≡ true
    → added_at trip p ≡ added_for trip.sheet (entry (number_of p) (moment_of trip.stm (send p)).area)
unfolding added_at
adds_entry trip p e = rw e

pub adds_nothing : (trip : Trip) (p : List ℕ) → is_accepted (answer_to trip.stm (send p)) ≡ false → added_at trip p ≡ added [] trip.sheet
unfolding added_at
adds_nothing trip p e = rw e

pub has_room_for : (room : ℕ) (s : Sheet) (e : Entry) → added_width ≤ room → added_in room s e ≡ added_for s e
unfolding added_in
has_room_for room s e h = rw (le-ltb room added_width h)

-- ---- in a room of any size

pub adds_entry_within : (room : ℕ) (trip : Trip) (p : List ℕ) → is_accepted (answer_to trip.stm (send p)) ≡ true
    → added_within room trip p ≡ added_in room trip.sheet (entry (number_of p) (moment_of trip.stm (send p)).area)
unfolding added_within added_at added_in
adds_entry_within room trip p e = rw e

any_room : (narrow : Bool) (a : Added) → cond narrow a a ≡ a
any_room true a = refl
any_room false a = refl

pub adds_nothing_within : (room : ℕ) (trip : Trip) (p : List ℕ) → is_accepted (answer_to trip.stm (send p)) ≡ false
    → added_within room trip p ≡ added [] trip.sheet
unfolding added_within added_at
adds_nothing_within room trip p e = rw e (any_room (ltb room added_width) (added [] trip.sheet))
