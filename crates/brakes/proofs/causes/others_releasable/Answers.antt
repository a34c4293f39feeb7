use mathlib.Core.Path.{◌≡◌, refl}
use mathlib.Core.Bool.{Bool, true, false, not, ◌&&◌, ◌||◌}
use mathlib.Core.List.{List, [], ◌∷◌}
use Rattle.rules.specs.Places.{any_of, all_of}
use Rattle.rules.specs.Table.{causes, stands, releasable_when, any_stands, others_releasable}
use Rattle.brakes.proofs.causes.others_releasable.Goals as goal

none_here : (a b r s : Bool) → not r ≡ s → not (a && not b || r) ≡ ((not a || b) && s)
none_here true true r s e = e
none_here true false r s e = refl
none_here false b r s e = e

-- no element passes one test and fails the other: each fails the one or passes the other
none_left : {A : Type 0} (p q : A → Bool) (xs : List A)
    → not (any_of (λ x. p x && not (q x)) xs) ≡ all_of (λ x. not (p x) || q x) xs
unfolding any_of all_of
none_left p q [] = refl
none_left p q (x ∷ xs) = none_here (p x) (q x) _ _ (none_left p q xs)

pub returns : goal.returns
unfolding any_stands others_releasable any_of all_of
returns c =
    let a = c.args in
    rw (c.any_stands.ensures, c.without.ensures, c.releasable.ensures)
    (none_left (stands a.c) (releasable_when a.s true) causes)
