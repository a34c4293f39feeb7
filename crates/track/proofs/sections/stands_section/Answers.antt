use Rattle.std.proofs.Common.{Bool, not, ◌&&◌, ◌∙◌, rules, tests}
use Rattle.std.proofs.lemmas.Iterator.{YieldsList-from_slice}
use Rattle.std.proofs.lemmas.Iterator.Search.{any_from_yields_List}
use Rattle.rules.specs.declared.Section.{Section}
use Rattle.rules.specs.Places.{is_section}
use Rattle.holding.proofs.Loops.{any_of_is}
use Rattle.track.proofs.sections.stands_section.Goals as goal

pub returns : goal.returns
returns c =
    let a = c.args in
    let test : Section → Bool = λ section. is_section a.id section && not section.ending in
    any_from_yields_List test _ _ c.any.result c.any.ensures.ran (YieldsList-from_slice a.sections (cc)) (λ x b q k. search (rules, tests))
    ∙ any_of_is test a.sections
