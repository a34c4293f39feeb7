use borrow.Author.Tests.{eq-eqb, ne_eqb}
use Rattle.wire.specs.Bytes.{copied}
use Rattle.wire.proofs.bytes.copy_whole.Goals as goal

pub returns-then-source-target : goal.returns-then-source-target
unfolding copied
returns-then-source-target c = simp (eq-eqb _ _ c.if-source-target.true, c.copy_from_slice.ensures.after)

pub returns-else-source-target : goal.returns-else-source-target
unfolding copied
returns-else-source-target c = simp (ne_eqb _ _ c.if-source-target.false)
