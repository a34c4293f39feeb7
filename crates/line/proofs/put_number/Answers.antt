use mathlib.Core.Path.{◌∙◌}
use native.Mathlib.Omega.{arith}
use lib.Dec.{lit<}
use lib.ListN.{length-set, set}
use lib.Seq.{drop-set-lt}
use Rattle.line.proofs.Text.{drop_more, behind_two, one_digit, two_digits, three_digits}
use Rattle.line.proofs.put_number.Goals as goal

pub returns-then-n-lt10 : goal.returns-then-n-lt10
returns-then-n-lt10 c =
    let a = c.args in
    let l = a.bytes.now in
    record { short = omega arith; written = one_digit l a.n (omega arith) c.if-n-lt10.true c.digit.ensures; rest_stays = drop-set-lt 1 l 0 _ (lit< tt) }

pub bounds-bytes-1 : goal.bounds-bytes-1
bounds-bytes-1 c = simp length-set (omega arith)

pub returns-then-n-lt100 : goal.returns-then-n-lt100
returns-then-n-lt100 c =
    let a = c.args in
    let l = a.bytes.now in record { short = omega arith; written = two_digits l a.n (omega arith) c.if-n-lt10.false c.if-n-lt100.true c.digit-then-n-lt100.ensures c.digit-then-n-lt100-2.ensures; rest_stays = behind_two l 0 _ _ }

pub bounds-bytes-1-2 : goal.bounds-bytes-1-2
bounds-bytes-1-2 c = simp length-set (omega arith)

pub returns : goal.returns
returns c =
    let a = c.args in
    let l = a.bytes.now in
    let two = set (set l 0 c.digit-2.result) 1 c.digit-3.result in record { short = omega arith; written = three_digits l a.n (omega arith) c.if-n-lt100.false c.digit-2.ensures c.digit-3.ensures c.digit-4.ensures; rest_stays = drop-set-lt 3 two 2 c.digit-4.result (lit< tt) ∙ drop_more 2 3 two l (omega arith) (behind_two l 0 c.digit-2.result c.digit-3.result) }
