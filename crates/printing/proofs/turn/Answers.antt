-- there is room for all that is added.
use mathlib.Core.Path.{◌≡◌, ◌∙◌}
use native.Mathlib.Omega.{arith}
use lib.Dec.{eqb}
use lib.ListN.{length, take, length-take}
use borrow.Author.Rules.{rules}
use Rattle.portions.specs.Portions.{given_of}
use Rattle.portions.specs.Reads.{input_room}
use Rattle.printing.specs.Sheets.{given_in, output_room}
use Rattle.printing.proofs.Promises.{all_has_room}
use Rattle.printing.proofs.turn.Goals as goal

pub returns : goal.returns
returns c =
    let a = c.args in
    let bytes = take a.to a.input.now in
    let all = eqb a.to a.left in
    let input : length a.input.now ≡ input_room = search rules in
    let output : length a.output.now ≡ output_room = search rules in
    let long = length-take a.to a.input.now in
    let whole : given_in (length a.output.now) all bytes ≡ given_of all bytes =
    rw output (all_has_room all bytes (omega (arith, input, long))) in
    let part = c.part.ensures in record { outcome = c.hand_on.ensures.outcome ∙ rw (part, whole); written = c.hand_on.ensures.written ∙ rw (part, whole) }
