use mathlib.Core.Path.{◌∙◌, ap}
use Rattle.rules.specs.Operands.{bit_of, feed_of, extra_of, train_of}
use Rattle.encoding.proofs.fields.train_of.Goals as goal

pub returns : goal.returns
unfolding train_of
returns c =
    let flags = c.byte_at-flags.ensures in
    λ i. record {
      softly = (c.bit_of-2.ensures ∙ ap (bit_of 0) flags) i;
      feed = (c.feed_of.ensures ∙ ap feed_of (c.bit_of-3.ensures ∙ ap (bit_of 1) flags)) i;
      speed = c.be16.ensures i;
      length = c.be16-2.ensures i;
      full = c.be16-3.ensures i;
      soft = c.be16-4.ensures i;
      times = record {
        brake = c.byte_at.ensures i;
        c = c.byte_at-2.ensures i;
        permitted = c.byte_at-3.ensures i;
        bf = c.byte_at-4.ensures i;
        extra = (c.extra_of.ensures ∙ ap extra_of (c.bit_of.ensures ∙ ap (bit_of 2) flags)) i;
      };
      margin = c.byte_at-5.ensures i;
      emergency = c.byte_at-6.ensures i;
      sufficient = c.byte_at-7.ensures i;
      pressure = c.be16-5.ensures i;
      check = c.byte_at-8.ensures i;
    }
