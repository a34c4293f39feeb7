use borrow.Author.Tests.{ne_eqb}
use Rattle.rules.specs.Numbers.{code_of}
use Rattle.encoding.proofs.numbers.code_of.Goals as goal

pub returns-in-1 : goal.returns-in-1
unfolding code_of
returns-in-1 c = rw c.in-1.is

pub returns-in-2 : goal.returns-in-2
unfolding code_of
returns-in-2 c = rw c.in-2.is

pub returns-in-16 : goal.returns-in-16
unfolding code_of
returns-in-16 c = rw c.in-16.is

pub returns-in-32 : goal.returns-in-32
unfolding code_of
returns-in-32 c = rw c.in-32.is

pub returns-in-33 : goal.returns-in-33
unfolding code_of
returns-in-33 c = rw c.in-33.is

pub returns-in-34 : goal.returns-in-34
unfolding code_of
returns-in-34 c = rw c.in-34.is

pub returns-in-35 : goal.returns-in-35
unfolding code_of
returns-in-35 c = rw c.in-35.is

pub returns-in-48 : goal.returns-in-48
unfolding code_of
returns-in-48 c = rw c.in-48.is

pub returns-in-49 : goal.returns-in-49
unfolding code_of
returns-in-49 c = rw c.in-49.is

pub returns-in-50 : goal.returns-in-50
unfolding code_of
returns-in-50 c = rw c.in-50.is

pub returns-in-64 : goal.returns-in-64
unfolding code_of
returns-in-64 c = rw c.in-64.is

pub returns-in-80 : goal.returns-in-80
unfolding code_of
returns-in-80 c = rw c.in-80.is

pub returns-in-81 : goal.returns-in-81
unfolding code_of
returns-in-81 c = rw c.in-81.is

pub returns-in-82 : goal.returns-in-82
unfolding code_of
returns-in-82 c = rw c.in-82.is

pub returns-in_default : goal.returns-in_default
unfolding code_of
returns-in_default c =
    let r = c.in_default.in_default-own.rest in
    rw (
      ne_eqb _ _ r.0.0.0.0.0.0.0.0.0.0.0.0.0.1,
      ne_eqb _ _ r.0.0.0.0.0.0.0.0.0.0.0.0.1,
      ne_eqb _ _ r.0.0.0.0.0.0.0.0.0.0.0.1,
      ne_eqb _ _ r.0.0.0.0.0.0.0.0.0.0.1,
      ne_eqb _ _ r.0.0.0.0.0.0.0.0.0.1,
      ne_eqb _ _ r.0.0.0.0.0.0.0.0.1,
      ne_eqb _ _ r.0.0.0.0.0.0.0.1,
      ne_eqb _ _ r.0.0.0.0.0.0.1,
      ne_eqb _ _ r.0.0.0.0.0.1,
      ne_eqb _ _ r.0.0.0.0.1,
      ne_eqb _ _ r.0.0.0.1,
      ne_eqb _ _ r.0.0.1,
      ne_eqb _ _ r.0.1,
      ne_eqb _ _ r.1,
    )
