use Prim.Native.Nat.{◌<◌, ◌≤◌}
use native.Mathlib.Omega.{arith}
use lib.ListN.{length}
use Rattle.wire.specs.Codes.{longest}
use Rattle.refusals.proofs.Padding.{padded_copy}
use Rattle.refusals.proofs.padded.Goals as goal

pub returns : goal.returns
returns c =
    let s = c.args.command.now in
    let n = c.min-length.result in
    let within : n ≤ longest = omega (arith, c.min-length.ensures) in
    let of_it : n ≤ length s = omega (arith, c.min-length.ensures) in
    let whole : n < longest → length s ≤ n = λ h. omega (arith, c.min-length.ensures, h) in
    rw c.copy_from_slice.ensures.after (padded_copy n longest s within of_it whole)
