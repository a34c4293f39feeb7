use mathlib.Core.Path.{◌≡◌, refl, sym, ap, ap₂, ◌∙◌}
use native.Mathlib.Omega.{arith}
use lib.ListN.{length}
use borrow.Author.Tests.{eq-eqb, ne_eqb}
use Rattle.wire.specs.Bytes.{placed}
use Rattle.rules.specs.Numbers.{answer_number}
use Rattle.rules.specs.Runs.{moment_of, send}
use Rattle.sheet.specs.Columns.{entry}
use Rattle.sheet.specs.Paging.{added_in}
use Rattle.printing.specs.declared.Trip.{Trip}
use Rattle.printing.specs.Rooms.{added_within}
use Rattle.printing.proofs.Telling.{adds_entry_within, adds_nothing_within}
use Rattle.printing.proofs.PrinterTell.tell.Goals as goal

pub returns-then-answer_number-eq0 : goal.returns-then-answer_number-eq0
returns-then-answer_number-eq0 c =
    let print = c.print-put in
    let number = c.be32 in
    let called = c.call-outcome in
    let a = c.args in
    let p = a.portion.now in
    let room = length a.room.now in
    let m = moment_of a.trip.stm (send p) in
    let answer : called.result.answer ≡ m.answer = ap (λ o. o.answer) called.ensures.outcome in
    let area : called.new.report ≡ m.area = called.ensures.area ∙ rw called.ensures.outcome in
    let accepted = eq-eqb (answer_number m.answer) 0 (ap answer_number (sym answer) ∙ sym c.answer_number.ensures ∙ c.if-answer_number-eq0.true) in
    let told : added_in room a.trip.sheet (entry number.result called.new.report) ≡ added_within room a.trip p =
    ap (added_in room a.trip.sheet) (ap₂ entry number.ensures area) ∙ sym (adds_entry_within room a.trip p accepted) in
    record { state_after = ap₂ {C = Trip} (λ s t. record { stm = s; sheet = t }) (ap (λ o. o.stm) called.ensures.outcome) (print.ensures.sheet_after ∙ ap (λ d. d.sheet) told); count = print.ensures.count ∙ ap (λ d. length d.text) told; short = print.ensures.short; written = print.ensures.written ∙ ap (λ d. placed d.text a.room.now) told }

pub returns : goal.returns
unfolding placed
returns c =
    let called = c.call-outcome in
    let a = c.args in
    let p = a.portion.now in
    let m = moment_of a.trip.stm (send p) in
    let answer : called.result.answer ≡ m.answer = ap (λ o. o.answer) called.ensures.outcome in
    let other = ne_eqb (answer_number m.answer) 0 (λ zero. c.if-answer_number-eq0.false (c.answer_number.ensures ∙ ap answer_number answer ∙ zero)) in
    let told = adds_nothing_within (length a.room.now) a.trip p other in
    rw told record { state_after = ap₂ {C = Trip} (λ s t. record { stm = s; sheet = t }) (ap (λ o. o.stm) called.ensures.outcome) refl; count = refl; short = omega arith; written = refl }
