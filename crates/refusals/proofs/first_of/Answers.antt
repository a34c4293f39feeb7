use Rattle.std.proofs.Common.{rules, tests, refl, ap, ◌≡◌, ◌∙◌, Bool, true, false, List, [], ◌∷◌, map, Bor, Option, Some, None}
use Rattle.std.specs.List.{find}
use Rattle.std.specs.Option.{option_map, option_map_or}
use Rattle.std.proofs.lemmas.Iterator.{YieldsList-from_slice}
use Rattle.std.proofs.lemmas.Iterator.Search.{find_from_yields_List}
use mathlib.Core.Bool.{cond}
use Rattle.rules.specs.declared.Answer.{Answer}
use Rattle.rules.specs.Refusals.{rule, first_of}
use Rattle.refusals.proofs.first_of.Goals as goal

-- the first that applies, and that none does
abbrev answered : Option (Bool × Answer) → Answer
answered found = option_map_or (λ r. r.1) found Answer.Accepted

step : (t : Bool) (answer : Answer) (found : Option (Bool × Answer))
    → answered (cond t (Some (t, answer)) found) ≡ cond t answer (answered found)
step true answer found = refl
step false answer found = refl

first : (rules : List (Bool × Answer)) → answered (find (λ r. r.0) rules) ≡ first_of (map (λ r. rule r.0 r.1) rules)
first [] = refl
first ((t, answer) ∷ rules) = step t answer (find (λ r. r.0) rules) ∙ ap (cond t answer) (first rules)

lent : (found : Option (Bor (Bool × Answer))) → option_map_or (λ r. r.now.1) found Answer.Accepted ≡ answered (option_map (λ r. r.now) found)
lent None = refl
lent (Some r) = refl

pub returns : goal.returns
returns c =
    let given : c.map_or.result ≡ option_map_or (λ (r : Bor (Bool × Answer)). r.now.1) c.find.result Answer.Accepted = search rules in
    let found : option_map (λ (r : Bor (Bool × Answer)). r.now) c.find.result ≡ find (λ r. r.0) c.args.rules.now =
    find_from_yields_List (λ r. r.0) _ _ _ c.find.ensures.ran (YieldsList-from_slice c.args.rules.now cc) (λ x b q k. search (rules, tests)) in
    given ∙ lent c.find.result ∙ ap answered found ∙ first c.args.rules.now
