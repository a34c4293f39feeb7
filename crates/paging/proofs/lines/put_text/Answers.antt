use Prim.Native.Nat.{◌-◌}
use native.Mathlib.Omega.{arith}
use Rattle.sheet.specs.Columns.{in_columns}
use Rattle.paging.proofs.Putting.{part_put}
use Rattle.paging.proofs.lines.put_text.Goals as goal

pub returns : goal.returns
unfolding in_columns
returns c =
    let a = c.args in
    part_put (a.first - 1) a.last a.line a.text.now c.copy_from_slice.new.self (omega arith) c.copy_from_slice.ensures.after
