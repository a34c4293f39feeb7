use mathlib.Core.Path.{refl, ◌∙◌}
use mathlib.Core.List.{map}
use native.Mathlib.Omega.{arith}
use borrow.Author.Rules.{rules}
use lib.ListN.{length-map}
use Rattle.laws.proofs.Lists.{copy_past}
use Rattle.records.specs.Lives.{moved_record}
use Rattle.boards.proofs.Past.{zero_record}
use Rattle.places.proofs.Arrays.{changed_step}
use Rattle.boards.proofs.held.move_records.Goals as goal

pub loop-et-init : goal.loop-et-init
loop-et-init c = (omega arith, refl)

pub loop-et-preserved : goal.loop-et-preserved
loop-et-preserved c =
    let a = c.args in
    let i = c.loop-et.invariant in
    (omega arith, changed_step (moved_record a.moved) a.ets c.loop-et.et-items c.loop-et.et-index zero_record i.1 c.moved_record.ensures (search rules))

pub returns : goal.returns
returns c =
    let a = c.args in
    c.loop-et.invariant.1 ∙ copy_past (map (moved_record a.moved) a.ets) a.ets c.loop-et.et-index (simp length-map (search rules)) (search rules)
