-- What portions add to the sheet in a room of any size.
use Rattle.std.specs.Prelude.{ℕ, ◌≤◌, ◌≡◌, cond, [], ltb}
use Rattle.std.proofs.Common.{ap}
use borrow.Author.Tests.{le-ltb}
use mathlib.Core.List.{List}
use Rattle.portions.specs.Reads.{Writer}
use Rattle.rules.specs.Runs.{state_after, send}
use Rattle.sheet.specs.Paging.{Added, added, added_width}
use Rattle.printing.specs.declared.Trip.{Trip}
use Rattle.printing.specs.Sheets.{added_at, printer}

-- what a portion adds where there is room for the most, else nothing
unfoldable pub added_within : ℕ → Trip → List ℕ → Added
added_within room trip portion = cond (ltb room added_width) (added [] trip.sheet) (added_at trip portion)

-- the unit's call for each portion, and what it adds
abbrev pub printer_in : ℕ → Writer Trip
printer_in room = record {
  next = λ trip portion. record { stm = state_after trip.stm (send portion); sheet = (added_within room trip portion).sheet };
  text = λ trip portion. (added_within room trip portion).text;
}

-- with that much room it adds what is due
all_is_added : (room : ℕ) (trip : Trip) (portion : List ℕ) → added_width ≤ room → added_within room trip portion ≡ added_at trip portion
unfolding added_within
all_is_added room trip portion h =
    ap (λ narrow. cond narrow (added [] trip.sheet) (added_at trip portion)) (le-ltb room added_width h)

pub room_for_the_most : (room : ℕ) (trip : Trip) (portion : List ℕ) → added_width ≤ room
    → ((printer_in room).next trip portion ≡ printer.next trip portion) × ((printer_in room).text trip portion ≡ printer.text trip portion)
room_for_the_most room trip portion h =
    let whole = all_is_added room trip portion h in
    (ap (λ a. record { stm = state_after trip.stm (send portion); sheet = a.sheet }) whole, ap (λ a. a.text) whole)
