use mathlib.Core.Path.{◌≡◌}
use mathlib.Core.Bool.{true, false}
use lib.Ieee.{of_bits, of_int, lt}
use Rattle.pressure.specs.Convert.{kpa, limited_of}
use Rattle.pressure.proofs.convert.limited.Goals as goal

pub returns-then-pressure-2 : goal.returns-then-pressure-2
unfolding limited_of of_bits of_int
returns-then-pressure-2 c =
    let p = c.args.pressure in
    let above : lt (kpa 0) p ≡ true = c.if-pressure.true in
    let under : lt p (kpa 550) ≡ true = c.if-pressure-2.true in
    rw (above, under)

pub returns-else-pressure-2 : goal.returns-else-pressure-2
unfolding limited_of of_bits of_int
returns-else-pressure-2 c =
    let p = c.args.pressure in
    let above : lt (kpa 0) p ≡ true = c.if-pressure.true in
    let under : lt p (kpa 550) ≡ false = c.if-pressure-2.false in
    rw (above, under)

pub returns-else-pressure : goal.returns-else-pressure
unfolding limited_of of_bits of_int
returns-else-pressure c =
    let above : lt (kpa 0) c.args.pressure ≡ false = c.if-pressure.false in
    rw above
