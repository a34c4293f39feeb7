-- Laws of tests, and of tests over lists. Assumes nothing.
use mathlib.Core.Path.{◌≡◌, refl, sym, ap, ◌∙◌}
use Prim.Native.Nat.{ℕ, zero, suc}
use mathlib.Core.Bool.{Bool, true, false, cond, not, ◌&&◌, ◌||◌, false≢true}
use mathlib.Core.Logic.{◌⊎◌, inl, inr}
use mathlib.Core.List.{List, [], ◌∷◌, map, zip_with}
use lib.ListN.{get_or}
use borrow.Author.Tests.{not-true}
use Rattle.rules.specs.Places.{any_of, all_of}

-- ---- tests

pub impossible : {A : Type 0} → false ≡ true → A
impossible e = absurd (false≢true e)

pub and_left : (a b : Bool) → (a && b) ≡ true → a ≡ true
and_left true b e = refl
and_left false b e = e

pub and_right : (a b : Bool) → (a && b) ≡ true → b ≡ true
and_right true b e = e
and_right false b e = impossible e

pub both : (a b : Bool) → (a && b) ≡ true → (a ≡ true) × (b ≡ true)
both a b e = (and_left a b e, and_right a b e)

pub and_both : (a b : Bool) → a ≡ true → b ≡ true → (a && b) ≡ true
and_both true b p q = q
and_both false b p q = p

pub and_mono : (a b c : Bool) → (a ≡ true → b ≡ true) → (a && c) ≡ true → (b && c) ≡ true
and_mono a b c h e = and_both b c (h (and_left a c e)) (and_right a c e)

pub second_fails : (a b : Bool) → a ≡ true → (a && b) ≡ false → b ≡ false
second_fails true b t e = e
second_fails false b t e = impossible t

pub not_both : (a b : Bool) → (a ≡ true → b ≡ false) → (a && b) ≡ false
not_both true b k = k refl
not_both false b k = refl

pub or_left : (a b : Bool) → a ≡ true → (a || b) ≡ true
or_left true b e = refl
or_left false b e = impossible e

pub or_right : (a b : Bool) → b ≡ true → (a || b) ≡ true
or_right true b e = refl
or_right false b e = e

pub either : (a b : Bool) → (a || b) ≡ true → (a ≡ true) ⊎ (b ≡ true)
either true b e = inl refl
either false b e = inr e

pub or_either : (a b c : Bool) → (a || b) ≡ true → (a ≡ true → c ≡ true) → (b ≡ true → c ≡ true) → c ≡ true
or_either true b c e f g = f refl
or_either false b c e f g = g e

pub neither : (a b : Bool) → (a || b) ≡ false → (a ≡ false) × (b ≡ false)
neither true b e = impossible (sym e)
neither false b e = (refl, e)

pub or_second : (a b : Bool) → (a || b) ≡ true → a ≡ false → b ≡ true
or_second true b e h = impossible (sym h)
or_second false b e h = e

pub not_mono : (a b : Bool) → (b ≡ true → a ≡ true) → not a ≡ true → not b ≡ true
not_mono a true h e = impossible (sym (not-true a e) ∙ h refl)
not_mono a false h e = refl

-- `not a || b`: where a passes, b does
pub if_made : (a b : Bool) → (a ≡ true → b ≡ true) → (not a || b) ≡ true
if_made true b h = h refl
if_made false b h = refl

pub if_used : (a b : Bool) → (not a || b) ≡ true → a ≡ true → b ≡ true
if_used true b e h = e
if_used false b e h = impossible h

pub if_mono : (a b c : Bool) → (b ≡ true → c ≡ true) → (not a || b) ≡ true → (not a || c) ≡ true
if_mono a b c h e = if_made a c (λ k. h (if_used a b e k))

-- `a && not b` fails: where a passes, b does
pub unless_used : (a b : Bool) → (a && not b) ≡ false → a ≡ true → b ≡ true
unless_used true true e h = refl
unless_used true false e h = sym e
unless_used false b e h = impossible h

-- what holds of each branch, under its outcome of the test
pub cond_by : {A : Type 0} (P : A → Type 0) (t : Bool) (x y : A) → (t ≡ true → P x) → (t ≡ false → P y) → P (cond t x y)
cond_by P true x y f g = f refl
cond_by P false x y f g = g refl

-- tests joined by &&, one after another
abbrev pub joined : Bool → List Bool → Bool
joined a [] = a
joined a (b ∷ bs) = joined (a && b) bs

pub joined_first : (a : Bool) (bs : List Bool) → joined a bs ≡ true → a ≡ true
joined_first a [] e = e
joined_first a (b ∷ bs) e = and_left a b (joined_first (a && b) bs e)

pub joined_each : (a : Bool) (bs : List Bool) → joined a bs ≡ true → (i : ℕ) → get_or bs i true ≡ true
joined_each a [] e i = refl
joined_each a (b ∷ bs) e zero = and_right a b (joined_first (a && b) bs e)
joined_each a (b ∷ bs) e (suc i) = joined_each (a && b) bs e i

-- ---- tests over lists

module _ {A : Type 0} (p : A → Bool) where
  -- of the first and of the rest
  pub all_head : (x : A) (xs : List A) → all_of p (x ∷ xs) ≡ true → p x ≡ true
  unfolding all_of
  all_head x xs e = and_left (p x) (all_of p xs) e

  pub all_tail : (x : A) (xs : List A) → all_of p (x ∷ xs) ≡ true → all_of p xs ≡ true
  unfolding all_of
  all_tail x xs e = and_right (p x) (all_of p xs) e

  pub all_cons : (x : A) (xs : List A) → p x ≡ true → all_of p xs ≡ true → all_of p (x ∷ xs) ≡ true
  unfolding all_of
  all_cons x xs h k = and_both (p x) (all_of p xs) h k

  -- where no element passes, each one fails
  pub none_passes : (xs : List A) → any_of p xs ≡ false → all_of (λ x. not (p x)) xs ≡ true
  unfolding any_of all_of
  none_passes [] e = refl
  none_passes (x ∷ xs) e =
      let both = neither (p x) (any_of p xs) e in
      rw both.0 (none_passes xs both.1)

  pub any_mono : (q : A → Bool) → ((x : A) → p x ≡ true → q x ≡ true) → (xs : List A) → any_of p xs ≡ true → any_of q xs ≡ true
  unfolding any_of
  any_mono q h [] e = e
  any_mono q h (x ∷ xs) e =
      or_either (p x) (any_of p xs) (q x || any_of q xs) e (λ k. or_left (q x) (any_of q xs) (h x k))
      (λ k. or_right (q x) (any_of q xs) (any_mono q h xs k))

  pub all_map : {B : Type 0} (q : B → Bool) (f : A → B) → ((x : A) → p x ≡ true → q (f x) ≡ true)
      → (xs : List A) → all_of p xs ≡ true → all_of q (map f xs) ≡ true
  unfolding all_of
  all_map q f h [] e = refl
  all_map q f h (x ∷ xs) e =
      and_both (q (f x)) (all_of q (map f xs)) (h x (and_left (p x) (all_of p xs) e))
      (all_map q f h xs (and_right (p x) (all_of p xs) e))

-- a list joined with what a function says of each of its elements
pub zip_self : {A B C : Type 0} (f : A → B → C) (g : A → B) (xs : List A) → zip_with f xs (map g xs) ≡ map (λ x. f x (g x)) xs
unfolding zip_with
zip_self f g [] = refl
zip_self f g (x ∷ xs) = ap (◌∷◌ (f x (g x))) (zip_self f g xs)
