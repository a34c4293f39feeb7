use mathlib.Core.Path.{sym, ◌∙◌}
use Rattle.curve.specs.declared.Interval.TheVariants.{A, Bf, B, C, D, E, F}
use Rattle.interval.proofs.Changes.{change_left}
use Rattle.interval.proofs.change.next_reach.Goals as goal

pub returns-in-A : goal.returns-in-A
returns-in-A c =
    let a = c.args in
    rw (c.reach_of.ensures, c.max-in-A-2.ensures, c.max-in-A.ensures, c.max.ensures) (sym (change_left a.curve a.braking a.v A (sym c.interval_of.ensures ∙ c.in-A.is)))

pub returns-in-Bf : goal.returns-in-Bf
returns-in-Bf c =
    let a = c.args in
    rw (c.reach_of-in-Bf.ensures, c.max-in-Bf-2.ensures, c.max-in-Bf.ensures) (sym (change_left a.curve a.braking a.v Bf (sym c.interval_of.ensures ∙ c.in-Bf.is)))

pub returns-in-B : goal.returns-in-B
returns-in-B c =
    let a = c.args in
    rw (c.reach_of-in-B.ensures, c.max-in-B.ensures) (sym (change_left a.curve a.braking a.v B (sym c.interval_of.ensures ∙ c.in-B.is)))

pub returns-in-C : goal.returns-in-C
returns-in-C c =
    let a = c.args in
    rw (c.reach_of-in-C.ensures) (sym (change_left a.curve a.braking a.v C (sym c.interval_of.ensures ∙ c.in-C.is)))

pub returns-in-D : goal.returns-in-D
returns-in-D c =
    let a = c.args in
    rw (c.reach_of-in-D.ensures) (sym (change_left a.curve a.braking a.v D (sym c.interval_of.ensures ∙ c.in-D.is)))

pub returns-in-E : goal.returns-in-E
returns-in-E c =
    let a = c.args in
    rw (c.f_reach_of.ensures) (sym (change_left a.curve a.braking a.v E (sym c.interval_of.ensures ∙ c.in-E.is)))

pub returns-in-F : goal.returns-in-F
returns-in-F c =
    let a = c.args in
    sym (change_left a.curve a.braking a.v F (sym c.interval_of.ensures ∙ c.in-F.is))
