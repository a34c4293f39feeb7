use mathlib.Core.Path.{◌≡◌}
use mathlib.Core.Bool.{true, false}
use lib.Ieee.{of_bits, of_int, lt}
use Rattle.pressure.specs.Convert.{kpa, is_high, counted_of}
use Rattle.pressure.proofs.convert.counted.Goals as goal

pub returns-then-external : goal.returns-then-external
unfolding counted_of of_bits of_int
returns-then-external c =
    let negative : lt c.args.external (kpa 0) ≡ true = c.if-external.true in
    rw negative

pub returns-then-external-2 : goal.returns-then-external-2
unfolding counted_of is_high of_bits of_int
returns-then-external-2 c =
    let x = c.args.external in
    let negative : lt x (kpa 0) ≡ false = c.if-external.false in
    let high : is_high x ≡ true = c.if-external-2.true in
    rw (negative, high)

pub returns : goal.returns
unfolding counted_of is_high of_bits of_int
returns c =
    let x = c.args.external in
    let negative : lt x (kpa 0) ≡ false = c.if-external.false in
    let high : is_high x ≡ false = c.if-external-2.false in
    rw (negative, high)
