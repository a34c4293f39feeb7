use Rattle.std.proofs.Common.{◌≡◌, ℕ, min, List, [], ◌∷◌, map, refl, ap, ◌∙◌, arith, rules, tests}
use mathlib.Core.List.{foldr}
use Rattle.std.specs.List.{fold}
use Rattle.std.proofs.lemmas.Iterator.{YieldsList-from_slice}
use Rattle.std.proofs.lemmas.Iterator.Consumers.{fold_from_yields_List}
use Rattle.rules.specs.Speeds.{section_speed}
use Rattle.track.proofs.whole.least_speed.Goals as goal

module _ {A : Type 0} (f : A → ℕ) where
  -- the least is the same whether the first or the last comes first
  less_last : (a b : ℕ) (xs : List A) → foldr min (min a b) (map f xs) ≡ min b (foldr min a (map f xs))
  less_last a b [] = omega arith
  less_last a b (x ∷ xs) = ap (min (f x)) (less_last a b xs) ∙ omega arith

  least_forward : (a : ℕ) (xs : List A) → fold (λ least x. min least (f x)) a xs ≡ foldr min a (map f xs)
  least_forward a [] = refl
  least_forward a (x ∷ xs) = least_forward (min a (f x)) xs ∙ less_last a (f x) xs

pub returns : goal.returns
returns c =
    let a = c.args in
    fold_from_yields_List _ (λ least section. min least (section_speed a.speed section)) a.speed _ c.fold.ensures.ran (YieldsList-from_slice a.sections (cc)) (λ p x b q k. search (rules, tests))
    ∙ least_forward (section_speed a.speed) a.speed a.sections
