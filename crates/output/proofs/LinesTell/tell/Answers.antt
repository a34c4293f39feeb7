use mathlib.Core.Path.{◌≡◌, ap, ap₂, ◌∙◌}
use native.Mathlib.Omega.{arith}
use lib.ListN.{length}
use Rattle.wire.specs.Bytes.{placed}
use Rattle.rules.specs.Runs.{moment_of, send}
use Rattle.line.specs.Lines.{line_in}
use Rattle.output.specs.Rooms.{lines_in}
use Rattle.output.proofs.LinesTell.tell.Goals as goal

pub returns : goal.returns
returns c =
    let put = c.put_line-written in
    let called = c.call-outcome in
    let a = c.args in
    let m = moment_of a.stm (send a.portion.now) in
    let room = length a.room.now in
    let answer : called.result.answer ≡ m.answer = ap (λ o. o.answer) called.ensures.outcome in
    let area : called.new.report ≡ m.area = called.ensures.area ∙ rw called.ensures.outcome in
    let told : line_in room called.result.answer called.new.report ≡ (lines_in room).text a.stm a.portion.now = ap₂ (line_in room) answer area in
    let counted = ap length told in
    record { state_after = ap (λ o. o.stm) called.ensures.outcome; count = omega (arith, put.ensures.count, counted); short = omega (arith, put.ensures.short); written = put.ensures.written ∙ ap (λ text. placed text a.room.now) told }
