use Prim.Native.Nat.{◌+◌}
use native.Mathlib.Omega.{arith}
use Rattle.paging.proofs.Putting.{part_put}
use Rattle.paging.proofs.pages.put_line.Goals as goal

pub returns : goal.returns
returns c =
    let a = c.args in
    part_put a.at (a.at + 65) a.room.now a.line c.copy_from_slice.new.self (omega arith) c.copy_from_slice.ensures.after
