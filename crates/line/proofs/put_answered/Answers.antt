use mathlib.Core.Path.{refl, sym, ◌∙◌}
use mathlib.Core.List.{append-nil}
use native.Mathlib.Omega.{arith}
use lib.ListN.{take}
use Rattle.line.proofs.put_answered.Goals as goal

pub returns-then-is_answered : goal.returns-then-is_answered
returns-then-is_answered c =
    let answered = sym c.is_answered.ensures ∙ c.if-is_answered.true in
    record { short = omega arith; written = rw answered c.put_report.ensures.written; rest_stays = (omega arith, c.put_report.ensures.rest_stays) }

pub returns : goal.returns
returns c =
    let a = c.args in
    let refused = sym c.is_answered.ensures ∙ c.if-is_answered.false in
    record { short = omega arith; written = rw refused (sym (append-nil (take a.at a.bytes.now))); rest_stays = (omega arith, refl) }
