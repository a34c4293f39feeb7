use mathlib.Core.Path.{◌∙◌, ap}
use Rattle.rules.specs.Table.{any_stands, stands_with}
use Rattle.rules.specs.Checks.{checked_by}
use Rattle.rules.specs.declared.Order.{Order}
use Rattle.rules.specs.Releases.{brakes_by}
use Rattle.brakes.proofs.release.brakes_by.Goals as goal

pub returns : goal.returns
unfolding brakes_by
returns c =
    λ code which told.
    let b = c.args.b in
    let after = c.added_by-after.ensures code which told in
    let any = c.any_stands-2.ensures ∙ ap any_stands after in
    let strong = c.stands_with-2.ensures ∙ ap (stands_with Order.Emergency) after in
    λ i. record {
      causes = after i;
      since = c.since_by.ensures code which told i;
      service =
          (c.checked_by.ensures
          ∙ (λ j. checked_by (c.any_stands.ensures j) (any j) b.service)) i;
      emergency =
          (c.checked_by-2.ensures
          ∙ (λ j. checked_by (c.stands_with.ensures j) (strong j) b.emergency)) i;
      roll = b.roll;
      drift = b.drift;
      failed = b.failed;
    }
