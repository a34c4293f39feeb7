use Rattle.std.proofs.Common.{◌≡◌, ◌≤◌, refl, ◌∙◌}
use native.Mathlib.Omega.{arith}
use borrow.Author.Rules.{rules}
use lib.ListN.{length, drop, get_or, length-drop}
use lib.Seq.{get_or-drop}
use Rattle.laws.proofs.Lists.{copy_past, length_zip}
use Rattle.places.specs.Places.{places}
use Rattle.places.proofs.Arrays.{zipped_step}
use Rattle.places.proofs.Loops.{zero_judged}
use Rattle.boards.proofs.Past.{zero_record}
use Rattle.rules.specs.Odometer.{noted_record, noted_records}
use Rattle.boards.proofs.held.note_records.Goals as goal

pub loop-i-init : goal.loop-i-init
loop-i-init c = (omega arith, search rules, refl)

pub loop-i-preserved : goal.loop-i-preserved
loop-i-preserved c =
    let a = c.args in
    let behind = drop places a.judged in
    let items : length a.ets ≡ 8 = search rules in
    let long : length a.ets ≤ length behind = simp length-drop (omega arith) in
    let here : c.noted_record.result ≡ noted_record (get_or c.loop-i.et-items c.loop-i.i zero_record) (get_or behind c.loop-i.i zero_judged) =
    rw (get_or-drop places a.judged c.loop-i.i zero_judged) c.noted_record.ensures in
    let step = zipped_step noted_record a.ets behind c.loop-i.et-items c.loop-i.i zero_record zero_judged c.loop-i.invariant.2 here long (search rules) in
    (omega arith, c.loop-i.invariant.1, step)

pub returns : goal.returns
returns c =
    let a = c.args in
    let behind = drop places a.judged in
    let items : length a.ets ≡ 8 = search rules in
    let long : length a.ets ≤ length behind = simp length-drop (omega arith) in
    c.loop-i.invariant.2 ∙ copy_past (noted_records a.ets behind) a.ets c.loop-i.i (rw (length_zip noted_record a.ets behind long) (search rules)) (search rules)
