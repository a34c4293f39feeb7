use mathlib.Core.Path.{◌∙◌}
use Rattle.rules.specs.Table.{no_causes}
use Rattle.brakes.proofs.Incidents.{orders_told, known}
use Rattle.brakes.proofs.causes.ordered_by.Goals as goal

pub returns-in-Some-AimedStop : goal.returns-in-Some-AimedStop
unfolding no_causes
returns-in-Some-AimedStop c =
    let arm = c.in-Some-AimedStop in
    λ code which told. rw c.no_causes.ensures (orders_told code which (told ∙ known arm.is (rw arm.is at arm.field-0-is)))

pub returns-in-Some-UnexpectedStop : goal.returns-in-Some-UnexpectedStop
unfolding no_causes
returns-in-Some-UnexpectedStop c =
    let arm = c.in-Some-UnexpectedStop in
    λ code which told. rw c.no_causes-in-Some-UnexpectedStop.ensures (orders_told code which (told ∙ known arm.is (rw arm.is at arm.field-0-is)))

pub returns-in-Some-Landslide : goal.returns-in-Some-Landslide
unfolding no_causes
returns-in-Some-Landslide c =
    let arm = c.in-Some-Landslide in
    λ code which told. rw c.no_causes-in-Some-Landslide.ensures (orders_told code which (told ∙ known arm.is (rw arm.is at arm.field-0-is)))

pub returns-in-Some-BaliseError : goal.returns-in-Some-BaliseError
unfolding no_causes
returns-in-Some-BaliseError c =
    let arm = c.in-Some-BaliseError in
    λ code which told. rw c.no_causes-in-Some-BaliseError.ensures (orders_told code which (told ∙ known arm.is (rw arm.is at arm.field-0-is)))

pub returns-in-None : goal.returns-in-None
unfolding no_causes
returns-in-None c = λ code which told. c.no_causes-in-None.ensures ∙ orders_told code which (told ∙ c.in-None.is)
