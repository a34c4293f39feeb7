use Rattle.std.proofs.Common.{rules, tests, ◌≡◌, ◌∙◌, ap, eqb}
use Rattle.std.proofs.lemmas.Iterator.{YieldsList-from_slice}
use Rattle.std.proofs.lemmas.Iterator.Search.{find_from_yields_List}
use Rattle.std.specs.Prelude.{option_map}
use Rattle.wire.specs.declared.codes.Row.{Row}
use Rattle.wire.proofs.Table.{length_found}
use Rattle.wire.proofs.codes.length_in.Goals as goal

pub returns : goal.returns
returns c =
    let a = c.args in
    let found = find_from_yields_List (λ (r : Row). eqb r.code a.code) _ _ c.find.result c.find.ensures.ran (YieldsList-from_slice a.rows.now cc) (λ x b q k. search (rules, tests)) in
    let m : c.map.result ≡ option_map (λ (r : Row). r.length) (option_map (λ y. y.now) c.find.result) = search rules in
    m ∙ ap (option_map (λ (r : Row). r.length)) found ∙ length_found a.rows.now a.code
