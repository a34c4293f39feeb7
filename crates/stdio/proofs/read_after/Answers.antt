-- What a read brought stands after the bytes that are left.
use Rattle.std.proofs.Common.{◌-◌, length, take, drop, sym, ap, ◌∙◌, subst, drop_at, length-take-le}
use Rattle.std.specs.Io.KnownBytes.{Consumes}
use Rattle.console.proofs.Filling.{take-put_mid_more}
use Rattle.stdio.proofs.read_after.Goals as goal

pub returns-then-left-buffer-clause-bytes : goal.returns-then-left-buffer-clause-bytes
returns-then-left-buffer-clause-bytes g c =
    let left = c.args.left in
    let buffer = c.args.buffer.now in
    let read = c.in_ok-got.ensures in
    let filled = take-put_mid_more left (length buffer - left) c.in_ok-got.got buffer c.read.new.buf c.if-left-buffer.true read.bound.0 in
    let came =
    ap (drop left) filled ∙ drop_at (take left buffer) (take c.in_ok-got.got c.read.new.buf) left (length-take-le left buffer c.if-left-buffer.true) in
    subst (Consumes _ _) (sym came) read.bytes.0
