use Prim.Native.Nat.{ℕ}
use mathlib.Core.Path.{◌≡◌, ◌∙◌, ap}
use mathlib.Core.Bool.{Bool, ◌||◌}
use Rattle.rules.specs.Table.{added_causes, ordered_at, any_stands, stands_with}
use Rattle.rules.specs.Checks.{checked_at}
use Rattle.rules.specs.declared.Order.{Order}
use Rattle.rules.specs.declared.Check.{Check}
use Rattle.rules.specs.Releases.{added_brakes, causes_at}
use Rattle.brakes.proofs.release.added_brakes.Goals as goal

-- a check that was called with two tests, in terms of what those tests are
checked : (limit : ℕ) (dropped : Bool) (check : Check) {before before' after after' : Bool} {result : Check}
    → result ≡ checked_at before after limit dropped check → before ≡ before' → after ≡ after' → result ≡ checked_at before' after' limit dropped check
checked limit dropped check e p q = e ∙ (λ i. checked_at (p i) (q i) limit dropped check)

pub returns : goal.returns
unfolding added_brakes causes_at
returns c =
    let a = c.args in
    let b = a.b in
    let fault = c.service_fails-fault.ensures in
    let after = c.added_at-after.ensures ∙ ap (λ f. added_causes (ordered_at a.s f) b.causes) fault in
    let any = c.any_stands-2.ensures ∙ ap any_stands after in
    let strong = c.stands_with-2.ensures ∙ ap (stands_with Order.Emergency) after in
    λ i. record {
      causes = after i;
      since = b.since;
      service =
          checked a.train.times.brake a.dropped b.service c.checked_at.ensures
          c.any_stands.ensures any i;
      emergency =
          checked a.train.check a.dropped b.emergency c.checked_at-2.ensures c.stands_with.ensures strong i;
      roll = b.roll;
      drift = b.drift || fault i;
      failed = b.failed || c.emergency_fails.ensures i;
    }
