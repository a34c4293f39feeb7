-- Tests of which one implies another, a test that passes at one of a list, and the least of a list. Assumes nothing.
use Prim.Native.Nat.{ℕ, ◌≤◌, min}
use mathlib.Core.Path.{◌≡◌, refl, sym, ◌∙◌, ap, ap₂}
use mathlib.Core.Bool.{Bool, true, false, not, ◌&&◌, ◌||◌, false≢true, and-eq-true_iff, or-true}
use mathlib.Core.List.Memᴰ
use mathlib.Core.List.{List, [], ◌∷◌, foldr}
use native.Mathlib.Nat.{le_refl, le_trans, min-le_left, min-le_right, le-min, lt_of_lt_of_le, lt_of_le_of_lt}
use lib.Dec.{leb, ltb}
use borrow.Author.Tests.{leb-true, le-leb, ltb-true, lt-ltb}
use Rattle.laws.proofs.Lists.{◌∈◌}
use Rattle.rules.specs.Places.{any_of}

-- ---- tests

infix 20 ◌⇒◌
-- where the first passes, so does the second
pub record ◌⇒◌ (a b : Bool) : Type 0 where
  pub run : a ≡ true → b ≡ true

pub equal_implies : {a b : Bool} → a ≡ b → a ⇒ b
equal_implies e = record { run = λ t. sym e ∙ t }

pub same_implies : {a : Bool} → a ⇒ a
same_implies = equal_implies refl

pub and_implies : {a a' b b' : Bool} → a ⇒ a' → b ⇒ b' → a && b ⇒ a' && b'
and_implies {a} {b = b} h k =
    record { run = λ e. let (p, q) = (and-eq-true_iff a b).0 e in ap₂ ◌&&◌ (h.run p) (k.run q) }

pub or_implies : {a a' b b' : Bool} → a ⇒ a' → b ⇒ b' → a || b ⇒ a' || b'
or_implies {a = true} {b' = b'} h k = record { run = λ e. ap (◌|| b') (h.run e) }
or_implies {a = false} {a'} h k = record { run = λ e. rw (k.run e) (or-true a') }

pub not_implies : {a a' : Bool} → a' ⇒ a → not a ⇒ not a'
not_implies {a = true} h = record { run = λ e. absurd (false≢true e) }
not_implies {a = false} {a' = true} h = record { run = λ e. h.run refl }
not_implies {a = false} {a' = false} h = record { run = λ e. e }

pub leb_implies : {a a' b b' : ℕ} → a' ≤ a → b ≤ b' → leb a b ⇒ leb a' b'
leb_implies {a} {a'} {b} {b'} h k = record { run = λ e. le-leb a' b' (le_trans h (le_trans (leb-true a b e) k)) }

pub ltb_implies : {a a' b b' : ℕ} → a' ≤ a → b ≤ b' → ltb a b ⇒ ltb a' b'
ltb_implies {a} {a'} {b} {b'} h k =
    record { run = λ e. lt-ltb a' b' (lt_of_lt_of_le (lt_of_le_of_lt h (ltb-true a b e)) k) }

-- ---- a test that passes at one of a list

-- one at which it passes
abbrev pub Passing : {A : Type 0} → (A → Bool) → List A → Type 0
Passing {A} test xs = (x : A) × (x ∈ xs) × (test x ≡ true)

module _ {A : Type 0} (test : A → Bool) where
  pub any_in : {x : A} (xs : List A) → x ∈ xs → test x ≡ true → any_of test xs ≡ true
  unfolding any_of
  any_in [] m e = absurd (Memᴰ.not-nil m)
  any_in (y ∷ ys) (Memᴰ.head p) e = rw (sym p, e)
  any_in (y ∷ ys) (Memᴰ.tail m) e = rw (any_in ys m e) (or-true (test y))

  pub any_from : (xs : List A) → any_of test xs ≡ true → Passing test xs
  unfolding any_of
  any_from [] e = absurd (false≢true e)
  any_from (x ∷ xs) e = by (test x) refl (any_from xs)
    where
      by : (t : Bool) → test x ≡ t → (any_of test xs ≡ true → Passing test xs) → Passing test (x ∷ xs)
      by true p rest = (x, Memᴰ.head refl, p)
      by false p rest = let (y, m, q) = rest (rw p at e) in (y, Memᴰ.tail m, q)

pub any_implies : {A B : Type 0} (test : A → Bool) (test' : B → Bool) (xs : List A) (ys : List B)
    → ((x : A) → x ∈ xs → test x ≡ true → Passing test' ys) → any_of test xs ⇒ any_of test' ys
any_implies test test' xs ys h = record {
  run = λ e.
      let (x, m, p) = any_from test xs e in
      let (y, n, q) = h x m p in
      any_in test' ys n q;
}

-- ---- the least of a base and a list

module _ (base : ℕ) where
  pub least_within_base : (xs : List ℕ) → foldr min base xs ≤ base
  least_within_base [] = le_refl base
  least_within_base (x ∷ xs) = le_trans (min-le_right _ _) (least_within_base xs)

  pub least_within : {x : ℕ} (xs : List ℕ) → x ∈ xs → foldr min base xs ≤ x
  least_within [] m = absurd (Memᴰ.not-nil m)
  least_within (y ∷ ys) (Memᴰ.head p) = rw p (min-le_left _ _)
  least_within (y ∷ ys) (Memᴰ.tail m) = le_trans (min-le_right _ _) (least_within ys m)

  least_above : (k : ℕ) (xs : List ℕ) → k ≤ base → ((x : ℕ) → x ∈ xs → k ≤ x) → k ≤ foldr min base xs
  least_above k [] h f = h
  least_above k (x ∷ xs) h f = le-min (f x (Memᴰ.head refl)) (least_above k xs h (λ y m. f y (Memᴰ.tail m)))

  pub least_no_more : (xs ys : List ℕ) → ((x : ℕ) → x ∈ xs → foldr min base ys ≤ x) → foldr min base ys ≤ foldr min base xs
  least_no_more xs ys h = least_above (foldr min base ys) xs (least_within_base ys) h
