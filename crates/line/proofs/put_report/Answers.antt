use Prim.Native.Nat.{◌+◌}
use mathlib.Core.Path.{◌≡◌, refl, sym, ◌∙◌}
use mathlib.Core.List.{append-nil, append_assoc}
use native.Mathlib.Omega.{arith}
use lib.ListN.{length-set, take, set}
use lib.Seq.{take_all, drop-set-lt}
use borrow.Author.Rules.{rules}
use Rattle.wire.specs.Text.{space}
use Rattle.line.specs.Lines.{hex_of, report_width}
use Rattle.line.proofs.Text.{put_one, put_hex, behind_two, drop_more}
use Rattle.line.proofs.put_report.Goals as goal

pub loop-byte-init : goal.loop-byte-init
unfolding hex_of
loop-byte-init c = (omega arith, search rules, omega arith, refl, simp length-set (omega arith), sym (append-nil _), refl)

pub bounds-bytes-next-in-loop-byte : goal.bounds-bytes-next-in-loop-byte
bounds-bytes-next-in-loop-byte c = simp length-set (omega arith)

pub loop-byte-preserved : goal.loop-byte-preserved
loop-byte-preserved c =
    let v = c.loop-byte.invariant in
    let a = c.args in
    let text = take (a.at + 1) (set a.bytes.now a.at space) in (
      omega arith,
      v.1,
      omega arith,
      simp (length-set, v.3),
      v.4,
      put_hex text a.report c.loop-byte.bytes c.loop-byte.byte-index c.loop-byte.next 0 v.5 (omega arith) (omega arith) c.digit.ensures c.digit-in-loop-byte.ensures,
      behind_two c.loop-byte.bytes c.loop-byte.next _ _ ∙ drop_more c.loop-byte.next (c.loop-byte.next + 2) _ _ (omega arith) v.6,
    )

pub shape_of-bytes : goal.shape_of-bytes
shape_of-bytes c = simp (c.loop-byte.invariant.3, length-set)

pub returns : goal.returns
returns c =
    let v = c.loop-byte.invariant in
    let a = c.args in
    let end : a.at + report_width ≡ c.loop-byte.next = omega arith in
    let all = take_all c.loop-byte.byte-index a.report (omega arith) in
    let start = put_one a.bytes.now a.at space (omega arith) in
    let behind = v.6 ∙ drop-set-lt c.loop-byte.next a.bytes.now a.at space (omega arith) in
    record { written = rw (end, v.5, all, start, append_assoc); rest_stays = rw end behind }
