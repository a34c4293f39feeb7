-- What stands at a place, after a change at each place and after a new element at the first free one. Assumes nothing.
use mathlib.Core.Path.{◌≡◌, refl, sym, ◌∙◌, ap}
use Prim.Native.Nat.{ℕ, zero, suc}
use mathlib.Core.Bool.{Bool, true, false, cond, and-false}
use mathlib.Core.List.{List, [], ◌∷◌, map}
use lib.Dec.{eqb, eqb-zero-suc, eqb-suc-zero, eqb-suc-suc}
use lib.ListN.{get_or}
use borrow.Author.Tests.{eqb-false, ne_eqb}
use Rattle.rules.specs.Places.{any_of, all_of, placed}
use Rattle.rules.specs.Held.{holds_at, Given}
use Rattle.rules.proofs.Tests.{impossible, or_left, or_right, neither, cond_by}

module _ {A : Type 0} (held : A → Bool) (free : A) (none : held free ≡ false) where
  abbrev at : ℕ → List A → A
  at i xs = get_or xs i free

  -- a change, at a place that holds something, and at any place where it leaves a free one
  pub changed_at : (f : A → A) (xs : List A) (i : ℕ) → held (at i xs) ≡ true → at i (map f xs) ≡ f (at i xs)
  changed_at f [] i h = impossible (sym none ∙ h)
  changed_at f (x ∷ xs) zero h = refl
  changed_at f (x ∷ xs) (suc i) h = changed_at f xs i h

  pub changed_any : (f : A → A) → f free ≡ free → (xs : List A) (i : ℕ) → at i (map f xs) ≡ f (at i xs)
  changed_any f e [] i = sym e
  changed_any f e (x ∷ xs) zero = refl
  changed_any f e (x ∷ xs) (suc i) = changed_any f e xs i

  -- an element that is placed leaves what is held,
  pub placed_at : (new : A) (xs : List A) (i : ℕ) → held (at i xs) ≡ true → at i (placed held new xs) ≡ at i xs
  placed_at new [] i h = refl
  placed_at new (x ∷ xs) zero h = rw h
  placed_at new (x ∷ xs) (suc i) h = go (held x) refl (placed_at new xs i h)
    where
      go : (t : Bool) → held x ≡ t → at i (placed held new xs) ≡ at i xs
          → at (suc i) (cond t (x ∷ placed held new xs) (new ∷ xs)) ≡ at i xs
      go true e k = k
      go false e k = refl

  -- so that each place has what it had, or the new element,
  pub placed_has : (P : A → Type 0) (new : A) → P new → (xs : List A) (i : ℕ) → P (at i xs) → P (at i (placed held new xs))
  placed_has P new n [] i p = p
  placed_has P new n (x ∷ xs) zero p = cond_by (λ ys. P (at 0 ys)) (held x) (x ∷ placed held new xs) (new ∷ xs) (λ _. p) (λ _. n)
  placed_has P new n (x ∷ xs) (suc i) p =
      let later = placed_has P new n xs i p in
      cond_by (λ ys. P (at (suc i) ys)) (held x) (x ∷ placed held new xs) (new ∷ xs) (λ _. later) (λ _. p)

  -- and it stands at one place that was free
  abbrev PlacedAt : A → List A → ℕ → Type 0
  PlacedAt new xs n = (held (at n xs) ≡ false) × ((i : ℕ) → at i (placed held new xs) ≡ cond (eqb i n) new (at i xs))

  placed_first : (new x : A) (xs : List A) → held x ≡ false → PlacedAt new (x ∷ xs) 0
  placed_first new x xs e = (e, go)
    where
      go : (i : ℕ) → at i (placed held new (x ∷ xs)) ≡ cond (eqb i 0) new (at i (x ∷ xs))
      go zero = rw e
      go (suc i) = rw (e, eqb-suc-zero i)

  placed_later : (new x : A) (xs : List A) (n : ℕ) → held x ≡ true → PlacedAt new xs n → PlacedAt new (x ∷ xs) (suc n)
  placed_later new x xs n e (h, k) = (h, go)
    where
      go : (i : ℕ) → at i (placed held new (x ∷ xs)) ≡ cond (eqb i (suc n)) new (at i (x ∷ xs))
      go zero = rw (e, eqb-zero-suc n)
      go (suc i) = rw (e, eqb-suc-suc i n) (k i)

  placed_where : (new : A) (xs : List A) → all_of held xs ≡ false → (n : ℕ) × PlacedAt new xs n
  unfolding all_of
  placed_where new [] e = impossible (sym e)
  placed_where new (x ∷ xs) e = go (held x) refl (placed_where new xs)
    where
      go : (t : Bool) → held x ≡ t → (all_of held xs ≡ false → (n : ℕ) × PlacedAt new xs n) → (n : ℕ) × PlacedAt new (x ∷ xs) n
      go true h later = let p = later (rw h at e) in (suc p.0, placed_later new x xs p.0 h p.1)
      go false h later = (0, placed_first new x xs h)

  -- a test that fails at a free place fails at each place, where it fails at all
  pub fails_at_lem : (test : A → Bool) → test free ≡ false → (xs : List A) → any_of test xs ≡ false → (i : ℕ) → test (at i xs) ≡ false
  unfolding any_of
  fails_at_lem test f [] e i = f
  fails_at_lem test f (x ∷ xs) e zero = (neither (test x) (any_of test xs) e).0
  fails_at_lem test f (x ∷ xs) e (suc i) = fails_at_lem test f xs (neither (test x) (any_of test xs) e).1 i

  pub fails_any : (test : A → Bool) (xs : List A) → ((i : ℕ) → test (at i xs) ≡ false) → any_of test xs ≡ false
  unfolding any_of
  fails_any test [] h = refl
  fails_any test (x ∷ xs) h = rw (h 0) (fails_any test xs (λ i. h (suc i)))

  pub passes_at : (test : A → Bool) → test free ≡ false → (xs : List A) (i : ℕ) → test (at i xs) ≡ true → any_of test xs ≡ true
  unfolding any_of
  passes_at test f [] i h = impossible (sym f ∙ h)
  passes_at test f (x ∷ xs) zero h = or_left (test x) (any_of test xs) h
  passes_at test f (x ∷ xs) (suc i) h = or_right (test x) (any_of test xs) (passes_at test f xs i h)

-- ---- by id

-- another id is another, whichever is compared with which
pub other_way : (m n : ℕ) → eqb m n ≡ false → eqb n m ≡ false
other_way m n e = ne_eqb n m (λ same. eqb-false m n e (sym same))

module _ {A : Type 0} (held : A → Bool) (id : A → ℕ) (free : A) (none : held free ≡ false) where
  -- a place that holds another id
  pub elsewhere : (n : ℕ) (x : A) → eqb n (id x) ≡ false → holds_at held id n x ≡ false
  elsewhere n x e = rw (other_way n (id x) e) (and-false (held x))

  -- what stands at the places of an id changed, and what a new element leaves there
  abbrev pub changed_for : ℕ → (A → A) → List A → List A
  changed_for n g xs = map (λ x. cond (holds_at held id n x) (g x) x) xs

  abbrev pub given_to : A → (A → A) → List A → List A
  given_to new g xs = cond (any_of (holds_at held id (id new)) xs) (changed_for (id new) g xs) (placed held new xs)

  free_holds_none : (n : ℕ) → holds_at held id n free ≡ false
  free_holds_none n = rw none

  pub changed_for_lem : (n : ℕ) (g : A → A) (xs : List A) (i : ℕ)
      → get_or (changed_for n g xs) i free ≡ cond (holds_at held id n (get_or xs i free)) (g (get_or xs i free)) (get_or xs i free)
  changed_for_lem n g xs i =
      changed_any held free none (λ x. cond (holds_at held id n x) (g x) x) (ap (λ t. cond t (g free) free) (free_holds_none n)) xs i

  pub others_stay : (n : ℕ) (g : A → A) (xs : List A) (i : ℕ) → holds_at held id n (get_or xs i free) ≡ false
      → get_or (changed_for n g xs) i free ≡ get_or xs i free
  others_stay n g xs i e = changed_for_lem n g xs i ∙ ap (λ t. cond t (g (get_or xs i free)) (get_or xs i free)) e

  pub given_stays : (new : A) (g : A → A) (xs : List A) (i : ℕ) → held (get_or xs i free) ≡ true
      → holds_at held id (id new) (get_or xs i free) ≡ false
      → get_or (given_to new g xs) i free ≡ get_or xs i free
  given_stays new g xs i h e =
      cond_by (λ ys. get_or ys i free ≡ get_or xs i free) (any_of (holds_at held id (id new)) xs) (changed_for (id new) g xs)
      (placed held new xs) (λ _. others_stay (id new) g xs i e) (λ _. placed_at held free none new xs i h)

  -- a new element, where a place is free or holds its id
  pub given_to_lem : (new : A) (g : A → A) (xs : List A)
      → (any_of (holds_at held id (id new)) xs ≡ false → all_of held xs ≡ false)
      → Given held id new g (λ i. get_or xs i free) (λ i. get_or (given_to new g xs) i free)
  given_to_lem new g xs room = record {
    there = λ other e i.
        let held_there = passes_at held free none (holds_at held id (id new)) (free_holds_none (id new)) xs other e in
        rw held_there (changed_for_lem (id new) g xs i);
    nowhere = λ e.
        let unheld = fails_any held free none (holds_at held id (id new)) xs e in
        let found = placed_where held free none new xs (room unheld) in
        (found.0, found.1.0, rw unheld found.1.1);
  }
