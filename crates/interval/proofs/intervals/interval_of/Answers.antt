use mathlib.Core.Path.{sym, ◌∙◌}
use borrow.Author.Tests.{not-true}
use Rattle.curve.proofs.Stricter.{both}
use Rattle.interval.proofs.Later.{before_bf}
use Rattle.interval.proofs.intervals.interval_of.Goals as goal

pub returns-then-bf-bf_is_longest : goal.returns-then-bf-bf_is_longest
returns-then-bf-bf_is_longest c =
    let (off, longest) = both _ _ c.if-bf-bf_is_longest.true in
    sym (before_bf _ _ _ (sym c.reached-bf.ensures ∙ not-true _ off) (sym c.bf_is_longest.ensures ∙ longest))
