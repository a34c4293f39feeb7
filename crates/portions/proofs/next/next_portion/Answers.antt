use mathlib.Core.Path.{sym}
use Rattle.portions.specs.Portions.{portion_at, next_portion}
use Rattle.portions.proofs.next.next_portion.Goals as goal

pub returns-in-Ok-None : goal.returns-in-Ok-None
unfolding next_portion portion_at
returns-in-Ok-None c = rw (sym c.next_command.ensures.outcome, c.in-Ok-None.is, c.in-Ok-None.field-0-is)

pub returns-in-Ok-Some : goal.returns-in-Ok-Some
unfolding next_portion portion_at
returns-in-Ok-Some c = rw (sym c.next_command.ensures.outcome, c.in-Ok-Some.is, c.in-Ok-Some.field-0-is)

pub returns-in-Err-NoCode : goal.returns-in-Err-NoCode
unfolding next_portion portion_at
returns-in-Err-NoCode c = rw (sym c.next_command.ensures.outcome, c.in-Err-NoCode.is, c.in-Err-NoCode.field-0-is)

pub returns-then-all : goal.returns-then-all
unfolding next_portion portion_at
returns-then-all c = rw (sym c.next_command.ensures.outcome, c.in-Err-Short.is, c.in-Err-Short.field-0-is, c.if-all.true)

pub returns-else-all : goal.returns-else-all
unfolding next_portion portion_at
returns-else-all c = rw (sym c.next_command.ensures.outcome, c.in-Err-Short.is, c.in-Err-Short.field-0-is, c.if-all.false)
