use mathlib.Core.Path.{◌∙◌, ap}
use mir.Syntax.{w16}
use mir.ValLaws.{to_z-of_z}
use Rattle.wire.specs.Numbers.{signed}
use Rattle.rules.specs.Operands.{bit_of, reading_of}
use Rattle.encoding.proofs.fields.reading_of.Goals as goal

pub returns : goal.returns
unfolding reading_of
returns c =
    let m = c.signed16 in
    let e = c.signed16-2 in
    let buttons = c.byte_at-buttons.ensures in
    λ i. record {
      speed = c.be16.ensures i;
      moved = c.be16-2.ensures i;
      measured = (to_z-of_z w16 m.result (record { sfits = m.type_inv }) ∙ m.ensures ∙ ap (signed 65536) c.be16-3.ensures) i;
      external = (to_z-of_z w16 e.result (record { sfits = e.type_inv }) ∙ e.ensures ∙ ap (signed 65536) c.be16-4.ensures) i;
      loss = (c.bit_of.ensures ∙ ap (bit_of 0) buttons) i;
      text = (c.bit_of-2.ensures ∙ ap (bit_of 1) buttons) i;
      halka = (c.bit_of-3.ensures ∙ ap (bit_of 2) buttons) i;
      neutral = (c.bit_of-4.ensures ∙ ap (bit_of 3) buttons) i;
    }
