use Rattle.std.proofs.Common.{Bool, not, ◌&&◌, ◌∙◌, rules, tests}
use Rattle.std.proofs.lemmas.Iterator.{YieldsList-from_slice}
use Rattle.std.proofs.lemmas.Iterator.Search.{any_from_yields_List}
use Rattle.records.specs.Lives.{is_superseded}
use Rattle.records.specs.declared.EtRecord.{EtRecord}
use Rattle.rules.specs.Places.{is_record}
use Rattle.holding.proofs.Loops.{any_of_is}
use Rattle.boards.proofs.held.keeps_record.Goals as goal

pub returns : goal.returns
returns c =
    let a = c.args in
    let test : EtRecord → Bool = λ et. is_record a.id et && not (is_superseded et.condition) in
    any_from_yields_List test _ _ c.any.result c.any.ensures.ran (YieldsList-from_slice a.ets (cc)) (λ x b q k. search (rules, tests))
    ∙ any_of_is test a.ets
