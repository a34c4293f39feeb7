-- The promises of a trip's sheet. Assumes nothing.
use Prim.Native.Nat.{ℕ, suc}
use mathlib.Core.Path.{◌≡◌, refl, sym, ap, ◌∙◌}
use mathlib.Core.Bool.{Bool, true, false, cond}
use mathlib.Core.List.{List, [], ◌∷◌, ◌++◌, map, zip_with, flatten, append_assoc}
use native.Mathlib.Omega.{arith}
use lib.ListN.{length}
use borrow.Author.Tests.{eq-eqb, ne_eqb}
use Rattle.std.specs.Prelude.{Some, None}
use Rattle.portions.specs.Portions.{given_of, portions_of}
use Rattle.portions.specs.Reads.{text_by, turn_of}
use Rattle.portions.proofs.Giving.{all_has_room as portions_have_room}
use Rattle.portions.proofs.Turns.{turn_is_handed as turn_handed}
use Rattle.portions.proofs.Reading.{cut_anyhow, ended_anyhow, written_is_a_beginning}
use Rattle.curve.specs.declared.Interval.{Interval}
use Rattle.curve.specs.declared.Shown.{Shown}
use Rattle.rules.specs.Numbers.{answer_number, is_accepted}
use Rattle.rules.specs.Operands.{number_of}
use Rattle.rules.specs.Commands.{fresh_stm}
use Rattle.rules.specs.Runs.{moments, moment_of, answer_to, state_after, state_at_end, send}
use Rattle.rules.proofs.Answers.{after_other}
use Rattle.rules.specs.declared.State.{State}
use Rattle.rules.specs.declared.Stm.{Stm}
use Rattle.sheet.specs.Columns.{Entry, entry, letters}
use Rattle.sheet.specs.Pages.{sheet_of}
use Rattle.sheet.specs.Paging.{added, added_for, added_by, added_width}
use Rattle.sheet.proofs.Growing.{added_is_the_sheet}
use Rattle.printing.specs.declared.Trip.{Trip}
use Rattle.printing.specs.Sheets.{entry_at, entries_of, trip_sheet, fresh_trip, added_at, printer, output_room}
use Rattle.printing.specs.Claims.{OneForEachAccepted, state_after_all, AcceptedComeToIt, StatesAreNamed, IntervalsAreNamed, WritesTheSheet, WritesAtOnce, TurnIsHanded, AllHasRoom}

-- ---- which commands come to the sheet

-- portions one by one
pub none_given : (stm : Stm) → entries_of stm [] ≡ []
unfolding entries_of moments flatten zip_with
none_given stm = refl

pub one_given : (stm : Stm) (p : List ℕ) (ps : List (List ℕ))
    → entries_of stm (p ∷ ps) ≡ entry_at p (moment_of stm (send p)) ++ entries_of (state_after stm (send p)) ps
unfolding entries_of moments flatten zip_with
one_given stm p ps = refl

count_one : (t : Bool) (e : Entry) (es : List Entry) → length (cond t (e ∷ []) [] ++ es) ≡ cond t (suc (length es)) (length es)
count_one true e es = refl
count_one false e es = refl

pub one_for_each_accepted : OneForEachAccepted
unfolding moments
one_for_each_accepted stm [] = ap length (none_given stm)
one_for_each_accepted stm (p ∷ ps) =
    let m = moment_of stm (send p) in
    let rest = one_for_each_accepted (state_after stm (send p)) ps in
    ap length (one_given stm p ps)
    ∙ count_one (is_accepted m.answer) (entry (number_of p) m.area) (entries_of (state_after stm (send p)) ps)
    ∙ ap (λ n. cond (is_accepted m.answer) (suc n) n) rest

-- the entry of a portion, by its answer
pub entry_accepted : (stm : Stm) (p : List ℕ) → is_accepted (answer_to stm (send p)) ≡ true
    → entry_at p (moment_of stm (send p)) ≡ entry (number_of p) (moment_of stm (send p)).area ∷ []
entry_accepted stm p e = rw e

entry_other : (stm : Stm) (p : List ℕ) → is_accepted (answer_to stm (send p)) ≡ false → entry_at p (moment_of stm (send p)) ≡ []
entry_other stm p e = rw e

joined : (stm : Stm) (ps qs : List (List ℕ)) → entries_of stm (ps ++ qs) ≡ entries_of stm ps ++ entries_of (state_at_end stm (map send ps)) qs
unfolding state_at_end
joined stm [] qs = ap (λ l. l ++ entries_of stm qs) (sym (none_given stm))
joined stm (p ∷ ps) qs =
    let next = state_after stm (send p) in
    one_given stm p (ps ++ qs) ∙ ap (λ l. entry_at p (moment_of stm (send p)) ++ l) (joined next ps qs)
    ∙ sym (append_assoc (entry_at p (moment_of stm (send p))) (entries_of next ps) (entries_of (state_at_end next (map send ps)) qs))
    ∙ ap (λ l. l ++ entries_of (state_at_end next (map send ps)) qs) (sym (one_given stm p ps))

pub accepted_come_to_it : AcceptedComeToIt
accepted_come_to_it before after p =
    let stm = state_after_all before in
    let m = moment_of stm (send p) in (
      λ zero.
          joined fresh_stm before (p ∷ after)
          ∙ ap (λ l. entries_of fresh_stm before ++ l)
          (one_given stm p after ∙ ap (λ l. l ++ entries_of m.stm after) (entry_accepted stm p (eq-eqb (answer_number m.answer) 0 zero))),
      λ other.
          let not = ne_eqb (answer_number m.answer) 0 other in
          joined fresh_stm before (p ∷ after)
          ∙ ap (λ l. entries_of fresh_stm before ++ l)
          (one_given stm p after ∙ ap (λ l. l ++ entries_of m.stm after) (entry_other stm p not) ∙ ap (λ s. entries_of s after) (after_other stm (send p) not))
          ∙ sym (joined fresh_stm before after),
    )

-- ---- letters

pub states_are_named : StatesAreNamed
unfolding letters
states_are_named State.DE = refl
states_are_named State.CS = refl
states_are_named State.HS = refl
states_are_named State.DA = refl
states_are_named State.FA = refl

pub intervals_are_named : IntervalsAreNamed
unfolding letters
intervals_are_named None = refl
intervals_are_named (Some (Shown.Computed Interval.A)) = refl
intervals_are_named (Some Shown.Ab) = refl
intervals_are_named (Some (Shown.Computed Interval.Bf)) = refl
intervals_are_named (Some (Shown.Computed Interval.B)) = refl
intervals_are_named (Some (Shown.Computed Interval.C)) = refl
intervals_are_named (Some (Shown.Computed Interval.D)) = refl
intervals_are_named (Some (Shown.Computed Interval.E)) = refl
intervals_are_named (Some (Shown.Computed Interval.F)) = refl

-- ---- what the program writes

-- what a portion adds is what its entry adds
portion_adds : (trip : Trip) (p : List ℕ) (es : List Entry) (t : Bool) (e : Entry)
    → let a = cond t (added_for trip.sheet e) (added [] trip.sheet) in
    a.text ++ added_by a.sheet es ≡ added_by trip.sheet (cond t (e ∷ []) [] ++ es)
unfolding added_by
portion_adds trip p es true e = refl
portion_adds trip p es false e = refl

written_by_lem : (trip : Trip) (ps : List (List ℕ)) → text_by printer trip ps ≡ added_by trip.sheet (entries_of trip.stm ps)
unfolding text_by added_by added_at
written_by_lem trip [] = ap (added_by trip.sheet) (sym (none_given trip.stm))
written_by_lem trip (p ∷ ps) =
    let m = moment_of trip.stm (send p) in
    ap (λ t. (added_at trip p).text ++ t) (written_by_lem (printer.next trip p) ps)
    ∙ portion_adds trip p (entries_of m.stm ps) (is_accepted m.answer) (entry (number_of p) m.area)
    ∙ ap (added_by trip.sheet) (sym (one_given trip.stm p ps))

sheet_written : (ps : List (List ℕ)) → text_by printer fresh_trip ps ≡ sheet_of (entries_of fresh_stm ps)
sheet_written ps = written_by_lem fresh_trip ps ∙ added_is_the_sheet (entries_of fresh_stm ps)

pub writes_the_sheet : WritesTheSheet
unfolding trip_sheet
writes_the_sheet reads = (ended_anyhow Trip printer fresh_trip reads).1 ∙ sheet_written (portions_of (flatten reads))

pub writes_at_once : WritesAtOnce
unfolding trip_sheet turn_of
writes_at_once reads = (
  ap (λ s. s.written) (cut_anyhow Trip printer fresh_trip reads) ∙ sheet_written (given_of false (flatten reads)).portions,
  λ later.
      let (more, e) = written_is_a_beginning Trip printer fresh_trip reads later in
      (more, sym (sheet_written (portions_of (flatten reads ++ later))) ∙ e),
)

pub turn_is_handed : TurnIsHanded
turn_is_handed s all bytes room = turn_handed printer s all bytes room

pub all_has_room : AllHasRoom
all_has_room all bytes h = portions_have_room added_width output_room all bytes (omega arith) (omega arith) h
