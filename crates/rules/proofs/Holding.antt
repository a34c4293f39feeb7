-- Places of any kind: what a change at each place, and a new element at the first free one, keep of their number, of what holds
-- of each and of "no id twice". Assumes nothing.
use mathlib.Core.Path.{◌≡◌, refl, sym, ap, ◌∙◌}
use Prim.Native.Nat.{ℕ, suc}
use mathlib.Core.Bool.{Bool, true, false, cond, not, ◌&&◌, ◌||◌}
use mathlib.Core.List.{List, [], ◌∷◌, map}
use lib.Dec.{eqb}
use lib.ListN.{length, length-map}
use borrow.Author.Tests.{eqb-true, eq-eqb}
use Rattle.rules.specs.Places.{any_of, all_of, placed}
use Rattle.rules.specs.Units.{differ}
use Rattle.rules.proofs.Tests.{and_left, and_right, and_both, not_mono, if_made, if_used, cond_by, all_head, all_tail, all_cons, none_passes, all_map}

module _ {A : Type 0} (held : A → Bool) (id : A → ℕ) where
  -- the place holds the id, or not; no place holds it
  abbrev pub is_here : ℕ → A → Bool
  is_here n x = held x && eqb (id x) n

  abbrev pub is_else : ℕ → A → Bool
  is_else n x = not (is_here n x)

  abbrev pub none_is : ℕ → List A → Bool
  none_is n xs = all_of (is_else n) xs

  -- what a changed place holds it held before, under the same id
  abbrev pub HoldsNoMore : (A → A) → Type 0
  HoldsNoMore f = (x : A) → held (f x) ≡ true → (held x ≡ true) × (id (f x) ≡ id x)

  same_id : (n : ℕ) (x : A) → is_here n x ≡ true → id x ≡ n
  same_id n x e = eqb-true (id x) n (and_right (held x) (eqb (id x) n) e)

  -- of the first place and of the rest
  pub differs_head : (x : A) (xs : List A) → differ held id (x ∷ xs) ≡ true → held x ≡ true → none_is (id x) xs ≡ true
  differs_head x xs e = if_used (held x) (none_is (id x) xs) (and_left (not (held x) || none_is (id x) xs) (differ held id xs) e)

  pub differs_tail : (x : A) (xs : List A) → differ held id (x ∷ xs) ≡ true → differ held id xs ≡ true
  differs_tail x xs e = and_right (not (held x) || none_is (id x) xs) (differ held id xs) e

  differs_cons : (x : A) (xs : List A) → (held x ≡ true → none_is (id x) xs ≡ true) → differ held id xs ≡ true → differ held id (x ∷ xs) ≡ true
  differs_cons x xs h e = and_both (not (held x) || none_is (id x) xs) (differ held id xs) (if_made (held x) (none_is (id x) xs) h) e

  -- ---- a change at each place

  is_before : (f : A → A) → HoldsNoMore f → (n : ℕ) (x : A) → is_here n (f x) ≡ true → is_here n x ≡ true
  is_before f keeps n x e =
      let h = keeps x (and_left (held (f x)) (eqb (id (f x)) n) e) in
      and_both (held x) (eqb (id x) n) h.0 (rw h.1 at (and_right (held (f x)) (eqb (id (f x)) n) e))

  none_is_after : (f : A → A) → HoldsNoMore f → (n : ℕ) (xs : List A) → none_is n xs ≡ true → none_is n (map f xs) ≡ true
  none_is_after f keeps n xs e =
      all_map (is_else n) (is_else n) f (λ x. not_mono (is_here n x) (is_here n (f x)) (is_before f keeps n x)) xs e

  map_differs : (f : A → A) → HoldsNoMore f → (xs : List A) → differ held id xs ≡ true → differ held id (map f xs) ≡ true
  map_differs f keeps [] e = refl
  map_differs f keeps (x ∷ xs) e =
      differs_cons (f x) (map f xs)
      (λ h. rw (keeps x h).1 (none_is_after f keeps (id x) xs (differs_head x xs e (keeps x h).0)))
      (map_differs f keeps xs (differs_tail x xs e))

  -- ---- a new element

  length_placed : (new : A) (xs : List A) → length (placed held new xs) ≡ length xs
  length_placed new [] = refl
  length_placed new (x ∷ xs) =
      let rest = length_placed new xs in
      cond_by (λ l. length l ≡ suc (length xs)) (held x) (x ∷ placed held new xs) (new ∷ xs) (λ _. ap suc rest) (λ _. refl)

  all_placed : (p : A → Bool) (new : A) → p new ≡ true → (xs : List A) → all_of p xs ≡ true → all_of p (placed held new xs) ≡ true
  all_placed p new h [] e = e
  all_placed p new h (x ∷ xs) e =
      let rest = all_tail p x xs e in
      let later = all_placed p new h xs rest in
      cond_by (λ l. all_of p l ≡ true) (held x) (x ∷ placed held new xs) (new ∷ xs)
      (λ _. all_cons p x (placed held new xs) (all_head p x xs e) later)
      (λ _. all_cons p new xs h rest)

  -- a held place that does not hold the new id has an id that the new element does not have
  other_id : (new x : A) → held x ≡ true → is_else (id new) x ≡ true → is_else (id x) new ≡ true
  other_id new x h e =
      not_mono (is_here (id new) x) (is_here (id x) new)
      (λ k. and_both (held x) (eqb (id x) (id new)) h (eq-eqb (id x) (id new) (sym (same_id (id x) new k)))) e

  placed_differs : (new : A) (xs : List A) → none_is (id new) xs ≡ true → differ held id xs ≡ true → differ held id (placed held new xs) ≡ true
  placed_differs new [] h e = e
  placed_differs new (x ∷ xs) h e =
      let none = all_tail (is_else (id new)) x xs h in
      let rest = differs_tail x xs e in
      let later = placed_differs new xs none rest in
      let first = all_head (is_else (id new)) x xs h in
      cond_by (λ l. differ held id l ≡ true) (held x) (x ∷ placed held new xs) (new ∷ xs)
      (λ t. differs_cons x (placed held new xs)
      (λ _. all_placed (is_else (id x)) new (other_id new x t first) xs (differs_head x xs e t)) later)
      (λ _. differs_cons new xs (λ _. none) rest)

-- ---- what is asked of places

pub record Sound {A : Type 0} (size : ℕ) (held : A → Bool) (id : A → ℕ) (good : A → Bool) (xs : List A) : Type 0 where
  pub sized : length xs ≡ size
  pub each : all_of good xs ≡ true
  pub once : differ held id xs ≡ true

module _ {A : Type 0} {n : ℕ} {held : A → Bool} {id : A → ℕ} {good : A → Bool} {xs : List A} (s : Sound n held id good xs) where
  -- every place changed
  pub map_sound : (f : A → A) → HoldsNoMore held id f → ((x : A) → good x ≡ true → good (f x) ≡ true)
      → Sound n held id good (map f xs)
  map_sound f keeps well = record {
    sized = length-map xs f ∙ s.sized;
    each = all_map good good f well xs s.each;
    once = map_differs held id f keeps xs s.once;
  }

  -- the places changed that pass a test
  pub changed_sound : (t : A → Bool) (g : A → A)
      → ((x : A) → t x ≡ true → held (g x) ≡ true → (held x ≡ true) × (id (g x) ≡ id x))
      → ((x : A) → good x ≡ true → good (g x) ≡ true)
      → Sound n held id good (map (λ x. cond (t x) (g x) x) xs)
  changed_sound t g keeps well =
      map_sound (λ x. cond (t x) (g x) x)
      (λ x. cond_by (λ y. held y ≡ true → (held x ≡ true) × (id y ≡ id x)) (t x) (g x) x (keeps x) (λ _ h. (h, refl)))
      (λ x. cond_by (λ y. good x ≡ true → good y ≡ true) (t x) (g x) x (λ _. well x) (λ _ h. h))

  -- the place changed that holds an id, which it keeps
  replaced_sound : (m : ℕ) (g : A → A) → ((x : A) → id (g x) ≡ m) → ((x : A) → good (g x) ≡ true)
      → Sound n held id good (map (λ x. cond (is_here held id m x) (g x) x) xs)
  replaced_sound m g same well =
      changed_sound (is_here held id m) g
      (λ x t _. (and_left (held x) (eqb (id x) m) t, same x ∙ sym (same_id held id m x t))) (λ x _. well x)

  -- an element of an id that no place holds
  placed_sound : (new : A) → good new ≡ true → any_of (is_here held id (id new)) xs ≡ false
      → Sound n held id good (placed held new xs)
  placed_sound new own t = record {
    sized = length_placed held id new xs ∙ s.sized;
    each = all_placed held id good new own xs s.each;
    once = placed_differs held id new xs (none_passes (is_here held id (id new)) xs t) s.once;
  }

  -- a new element: where its id is held, g tells what stands there then
  pub given_sound : (new : A) (g : A → A) → good new ≡ true → ((x : A) → id (g x) ≡ id new) → ((x : A) → good (g x) ≡ true)
      → Sound n held id good
      (cond (any_of (is_here held id (id new)) xs) (map (λ x. cond (is_here held id (id new) x) (g x) x) xs) (placed held new xs))
  given_sound new g own same well =
      let is = is_here held id (id new) in
      cond_by (Sound n held id good) (any_of is xs) (map (λ x. cond (is x) (g x) x) xs) (placed held new xs)
      (λ _. replaced_sound (id new) g same well)
      (λ t. placed_sound new own t)
