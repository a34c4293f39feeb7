use mathlib.Core.Path.{sym, ◌∙◌}
use Rattle.rules.specs.Table.{order_of}
use Rattle.brakes.proofs.causes.order_of.Goals as goal

pub returns-then-stands_with : goal.returns-then-stands_with
unfolding order_of
returns-then-stands_with c = rw (sym c.stands_with.ensures ∙ c.if-stands_with.true)

pub returns-then-stands_with-2 : goal.returns-then-stands_with-2
unfolding order_of
returns-then-stands_with-2 c =
    rw (sym c.stands_with.ensures ∙ c.if-stands_with.false, sym c.stands_with-else-stands_with.ensures ∙ c.if-stands_with-2.true)

pub returns-then-softly : goal.returns-then-softly
unfolding order_of
returns-then-softly c =
    rw (
      sym c.stands_with.ensures ∙ c.if-stands_with.false,
      sym c.stands_with-else-stands_with.ensures ∙ c.if-stands_with-2.false,
      sym c.stands_with-else-stands_with-2.ensures ∙ c.if-stands_with-3.true,
      c.if-softly.true,
    )

pub returns-else-softly : goal.returns-else-softly
unfolding order_of
returns-else-softly c =
    rw (
      sym c.stands_with.ensures ∙ c.if-stands_with.false,
      sym c.stands_with-else-stands_with.ensures ∙ c.if-stands_with-2.false,
      sym c.stands_with-else-stands_with-2.ensures ∙ c.if-stands_with-3.true,
      c.if-softly.false,
    )

pub returns-else-stands_with-3 : goal.returns-else-stands_with-3
unfolding order_of
returns-else-stands_with-3 c =
    rw (
      sym c.stands_with.ensures ∙ c.if-stands_with.false,
      sym c.stands_with-else-stands_with.ensures ∙ c.if-stands_with-2.false,
      sym c.stands_with-else-stands_with-2.ensures ∙ c.if-stands_with-3.false,
    )
