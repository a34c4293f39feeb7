-- A read puts its bytes after those that came before, and takes as many from the input.
use Rattle.std.proofs.Common.{rules, ◌-◌, length, sym, subst}
use Rattle.std.specs.Io.KnownBytes.{Consumes}
use Rattle.std.proofs.KnownBytes.{Consumes-trans}
use Rattle.console.proofs.Filling.{take-put_mid_more}
use Rattle.console.proofs.read_full.Goals as goal

pub loop-n-preserved : goal.loop-n-preserved
loop-n-preserved g c =
    let at = c.loop-n.n in
    let read = c.in_ok-got.ensures in
    let joined =
    take-put_mid_more at (length c.loop-n.buffer - at) c.in_ok-got.got c.loop-n.buffer c.read.new.buf c.loop-n.invariant.1 read.bound.0 in
    (search rules, search rules, subst (Consumes _ _) (sym joined) (Consumes-trans _ _ _ _ _ c.loop-n.invariant.2 read.bytes.0))
