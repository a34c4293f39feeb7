use Rattle.rules.specs.Odometer.{seen_with}
use Rattle.brakes.proofs.seeing.seen_with.Goals as goal

pub returns : goal.returns
unfolding seen_with
returns c =
    let a = c.args in
    λ i. record {
      speed = a.kept.speed;
      vmax = a.vmax;
      margin = a.train.emergency;
      d = c.any_brakes.ensures i;
      e = c.any_brakes-2.ensures i;
      f = c.any_brakes-3.ensures i;
      insufficient = c.is_insufficient.ensures i;
      halka = a.kept.halka;
      since = a.since;
      rolled = c.is_rolled.ensures i;
    }
