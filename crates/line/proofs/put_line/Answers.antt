use Prim.Native.Nat.{◌+◌, ◌<◌, ◌≤◌}
use mathlib.Core.Path.{◌≡◌, refl, sym, ap, ap₂, ◌∙◌}
use mathlib.Core.List.{◌++◌}
use native.Mathlib.Omega.{arith}
use lib.ListN.{length, take, drop, set, length-set, take-append-drop}
use lib.Seq.{length-take-le, drop-set-lt}
use borrow.Author.Rules.{rules}
use borrow.Author.Tests.{lt-ltb, le-ltb}
use Rattle.wire.specs.Bytes.{placed}
use Rattle.wire.specs.Text.{line_feed}
use Rattle.line.specs.Lines.{line_of, line_in, line_width}
use Rattle.line.proofs.Text.{put_one, drop_more}
use Rattle.line.proofs.put_line.Goals as goal

pub returns-then-bytes-lt-WIDTH : goal.returns-then-bytes-lt-WIDTH
unfolding line_in placed
returns-then-bytes-lt-WIDTH c = rw (lt-ltb _ _ c.if-bytes-lt-WIDTH.true) record { count = refl; short = omega arith; written = refl }

pub shape_of-bytes : goal.shape_of-bytes
shape_of-bytes c =
    let end = c.put_answered-end in
    let n = c.put_number-number in
    let two : length end.new.bytes ≡ length n.new.bytes = search rules in
    let one : length n.new.bytes ≡ length c.args.bytes.now = search rules in
    length-set end.new.bytes end.result line_feed ∙ two ∙ one

pub returns : goal.returns
unfolding line_in line_of placed
returns c =
    let end = c.put_answered-end in
    let a = c.args in
    let area = a.bytes.now in
    let at = end.result + 1 in
    let bytes = set end.new.bytes end.result line_feed in
    let wide : line_width ≤ length area = search rules in
    let room : end.result < length end.new.bytes = search rules in
    let last = put_one end.new.bytes end.result line_feed room in
    let text : take at bytes ≡ line_of a.answer a.report =
    rw (last, end.ensures.written, c.put_number-number.ensures.written, c.answer_number.ensures) in
    let behind : drop at bytes ≡ drop at area =
    drop-set-lt at end.new.bytes end.result line_feed (omega arith)
    ∙ drop_more end.result at _ _ (omega arith) end.ensures.rest_stays.1
    ∙ drop_more c.put_number-number.result at _ _ (omega (arith, end.ensures.rest_stays.0)) c.put_number-number.ensures.rest_stays in
    let long : at ≡ length (line_of a.answer a.report) =
    sym (length-take-le at bytes (simp length-set (omega (arith, room)))) ∙ ap length text in
    let whole = sym (take-append-drop at bytes) ∙ ap₂ ◌++◌ text (behind ∙ ap (λ k. drop k area) long) in
    rw (le-ltb (length area) line_width wide) record { count = long; short = omega (arith, end.ensures.short); written = whole }
