-- What is done to an array in place: by `map`, where each call gives a function of its element, and in a loop over it and a second one.
-- Assumes nothing.
use Prim.Native.Nat.{ℕ, zero, suc, ◌+◌, ◌≤◌, ◌<◌}
use mathlib.Core.Path.{◌≡◌, refl, ◌∙◌, ap, ap₂, subst}
use mathlib.Core.List.{List, [], ◌∷◌, ◌++◌, map, zip_with}
use native.Mathlib.Nat.{le_of_lt, le_of_suc-le-suc, not-suc-le-zero}
use native.Mathlib.Omega.{arith}
use lib.ListN.{length, take, drop, set, get_or, drop_of_length-le, length-map}
use denote.Param.Members.{Mut}
use Rattle.std.specs.Fn.{Called}
use Rattle.std.specs.Array.{MapsFrom, IsMapOf}
use Rattle.laws.proofs.Lists.{drop_step, length_zip, map_step, zip_step}

module _ {F A B : Type 0} (g : Mut F (A × Unit {0}) B) (h : A → B) (f : F)
    (gives : (x : A) (r : B) (q : F) → Called g f (x, tt) r q → (q ≡ f) × (r ≡ h x)) where
  mapped_from : (xs : List A) (ys : List B) (i n : ℕ) → i + n ≡ length xs → i + n ≡ length ys → MapsFrom g f xs ys i n → drop i ys ≡ map h (drop i xs)
  mapped_from xs ys i zero e k m =
      let past : (length ys ≤ i) × (length xs ≤ i) = (omega (arith, k), omega (arith, e)) in
      rw (drop_of_length-le ys past.0, drop_of_length-le xs past.1) refl
  mapped_from xs ys i (suc n) e k (q, x, y, ex, ey, call, rest) =
      let (same, is) = gives x y q call in
      let more = mapped_from xs ys (i + 1) n (omega arith) (omega arith) (subst (λ p. MapsFrom g p xs ys (i + 1) n) same rest) in
      rw (drop_step ys i y (omega arith), drop_step xs i x (omega arith), ey.0, ex.0) (ap₂ (λ z zs. z ∷ zs) is more)

  pub mapped : (xs : List A) (ys : List B) (n : ℕ) → length xs ≡ n → IsMapOf g f xs ys n → ys ≡ map h xs
  mapped xs ys n e m = mapped_from xs ys 0 n (omega (arith, e)) (omega (arith, m.long)) m.each

-- the element that the loop comes to is still that of the array before the loop
rest_at : {A : Type 0} (xs ys : List A) (i : ℕ) (d : A) → i ≤ length xs → i < length ys → get_or (take i xs ++ drop i ys) i d ≡ get_or ys i d
rest_at xs ys zero d h k = refl
rest_at [] ys (suc i) d h k = absurd (not-suc-le-zero h)
rest_at (x ∷ xs) [] (suc i) d h k = absurd (not-suc-le-zero k)
rest_at (x ∷ xs) (y ∷ ys) (suc i) d h k = rest_at xs ys i d (le_of_suc-le-suc h) (le_of_suc-le-suc k)

-- an array changed in its own place
pub changed_step : {A : Type 0} (f : A → A) (xs items : List A) (i : ℕ) (a : A) {x : A}
    → items ≡ take i (map f xs) ++ drop i xs → x ≡ f (get_or items i a) → i < length xs
    → set items i x ≡ take (i + 1) (map f xs) ++ drop (i + 1) xs
changed_step f xs items i a so_far e h =
    let changed : i ≤ length (map f xs) = rw (length-map xs f) (le_of_lt h) in
    let here = ap (λ l. get_or l i a) so_far ∙ rest_at (map f xs) xs i a changed h in
    rw so_far (map_step f xs xs i a (e ∙ ap f here) h h)

-- an array joined with a second one, at least as long, into its own place
pub zipped_step : {A B : Type 0} (f : A → B → A) (xs : List A) (ys : List B) (items : List A) (i : ℕ) (a : A) (b : B) {x : A}
    → items ≡ take i (zip_with f xs ys) ++ drop i xs → x ≡ f (get_or items i a) (get_or ys i b) → length xs ≤ length ys → i < length xs
    → set items i x ≡ take (i + 1) (zip_with f xs ys) ++ drop (i + 1) xs
zipped_step f xs ys items i a b so_far e longer h =
    let joined : i ≤ length (zip_with f xs ys) = rw (length_zip f xs ys longer) (le_of_lt h) in
    let here = ap (λ l. get_or l i a) so_far ∙ rest_at (zip_with f xs ys) xs i a joined h in
    rw so_far (zip_step f xs ys xs i a b (e ∙ ap (λ z. f z (get_or ys i b)) here) longer h h)
