use Rattle.rules.specs.Operands.{train_in_range}
use Rattle.encoding.proofs.fields.train_in_range.Goals as goal

pub returns : goal.returns
unfolding train_in_range
returns c =
    let times = c.args.train.times in
    rw (
      c.within.ensures,
      c.within-2.ensures,
      c.within-3.ensures,
      c.within-4.ensures,
      c.within-5.ensures,
      c.within-6.ensures,
      c.within-7.ensures,
      c.within-8.ensures,
      c.within-9.ensures,
      c.within-10.ensures,
      c.from.ensures,
      c.from-2.ensures,
      c.from-3.ensures,
      c.from-4.ensures,
      c.from-5.ensures,
    )
