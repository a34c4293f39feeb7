use mathlib.Core.Path.{◌∙◌, ap}
use mathlib.Core.Bool.{◌&&◌}
use Rattle.rules.specs.Checks.{check_left}
use Rattle.rules.specs.Releases.{left_brakes}
use Rattle.brakes.proofs.release.left_brakes.Goals as goal

pub returns : goal.returns
unfolding left_brakes
returns c =
    let a = c.args in
    let any = c.any_stands-any.ensures in
    λ i. record {
      causes = a.c;
      since = a.b.since;
      service = (c.check_left.ensures ∙ ap (λ x. check_left x a.b.service) any) i;
      emergency = (c.check_left-2.ensures ∙ ap (λ x. check_left x a.b.emergency) c.stands_with.ensures) i;
      roll = c.roll_left.ensures i;
      drift = a.b.drift && any i;
      failed = a.b.failed;
    }
