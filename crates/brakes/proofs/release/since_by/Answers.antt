use mathlib.Core.Path.{◌∙◌, sym}
use mathlib.Core.Bool.{and-true, and-false}
use Rattle.brakes.proofs.Incidents.{noted_told, known}
use Rattle.brakes.proofs.release.since_by.Goals as goal

pub returns-in-Some-AimedStop : goal.returns-in-Some-AimedStop
returns-in-Some-AimedStop c =
    let arm = c.in-Some-AimedStop in
    λ code which told.
    let h = noted_told code which c.args.v c.args.since (told ∙ known arm.is (rw arm.is at arm.field-0-is)) in
    simp (sym h, and-false, and-true)

pub returns-in-Some-UnexpectedStop : goal.returns-in-Some-UnexpectedStop
returns-in-Some-UnexpectedStop c =
    let arm = c.in-Some-UnexpectedStop in
    λ code which told.
    let h = noted_told code which c.args.v c.args.since (told ∙ known arm.is (rw arm.is at arm.field-0-is)) in
    simp (sym h, and-false, and-true)

pub returns-in-Some-Landslide : goal.returns-in-Some-Landslide
returns-in-Some-Landslide c =
    let arm = c.in-Some-Landslide in
    λ code which told.
    let h = noted_told code which c.args.v c.args.since (told ∙ known arm.is (rw arm.is at arm.field-0-is)) in
    simp (sym h, and-false, and-true)

pub returns-in-Some-BaliseError : goal.returns-in-Some-BaliseError
returns-in-Some-BaliseError c =
    let arm = c.in-Some-BaliseError in
    λ code which told.
    let h = noted_told code which c.args.v c.args.since (told ∙ known arm.is (rw arm.is at arm.field-0-is)) in
    simp (sym h, c.decided_at.ensures, and-false, and-true)

pub returns-in-None : goal.returns-in-None
returns-in-None c =
    λ code which told.
    let h = noted_told code which c.args.v c.args.since (told ∙ c.in-None.is) in
    simp (sym h, and-false, and-true)
