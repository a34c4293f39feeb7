use lib.ListN.{drop}
use Rattle.wire.proofs.Values.{two_bytes}
use Rattle.wire.proofs.numbers.be16.Goals as goal

pub returns : goal.returns
returns c =
    let a = c.args in
    rw (c.from_be_bytes.ensures, c.byte_at-2.ensures, c.byte_at.ensures, c.from-t.ensures)
    (two_bytes (drop a.at a.s.now))
