-- Laws of tests and lists over any element type. Assumes nothing.
use Prim.Native.Nat.{ℕ, zero, suc, ◌+◌, ◌<◌, ◌≤◌}
use mathlib.Core.Path.{◌≡◌, refl, sym, ap}
use mathlib.Core.Bool.{Bool, true, false, cond, not, false≢true}
use mathlib.Core.List.Memᴰ
use mathlib.Core.List.{List, [], ◌∷◌, ◌++◌, map, zip_with, flatten, append-nil, append_assoc, Memᴰ}
use native.Mathlib.Nat.{le_of_lt, le_of_suc-le-suc, not-suc-le-zero}
use native.Mathlib.Omega.{arith}
use native.Mathlib.Numerals.{add-one}
use lib.Dec.{eqb}
use lib.ListN.{length, take, drop, set, get_or, length-map, drop_of_length-le}
use lib.Seq.{take_all, take-suc, drop-cons, set_at, append_snoc, length-take-le}
use borrow.Author.Tests.{eqb-false, not-true}

-- where two constructors are said to be equal, `cc` proves this
pub never : ◌≡◌ {A = ℕ} 0 1 → ⊥
never z = omega arith

pub not_true_false : (t : Bool) → (t ≡ true → ⊥) → t ≡ false
not_true_false true h = absurd (h refl)
not_true_false false h = refl

-- what an outcome that the other branch does not give says of the test and of its branch
pub cond_first : {A : Type 0} (t : Bool) (x y : A) {z : A} → cond t x y ≡ z → (y ≡ z → ⊥) → (t ≡ true) × (x ≡ z)
cond_first true x y e h = (refl, e)
cond_first false x y e h = absurd (h e)

pub cond_second : {A : Type 0} (t : Bool) (x y : A) {z : A} → cond t x y ≡ z → (x ≡ z → ⊥) → (t ≡ false) × (y ≡ z)
cond_second true x y e h = absurd (h e)
cond_second false x y e h = (refl, e)

infix 4 ◌∈◌
abbrev pub ◌∈◌ : {A : Type 0} → A → List A → Type 0
x ∈ xs = Memᴰ x xs

module _ {A : Type 0} where
  -- the test passes at each element
  abbrev pub every : (A → Bool) → List A → Bool
  every f [] = true
  every f (x ∷ xs) = cond (f x) (every f xs) false

  pub every_holds : (f : A → Bool) (xs : List A) → every f xs ≡ true → {x : A} → x ∈ xs → f x ≡ true
  every_holds f [] e m = absurd (Memᴰ.not-nil m)
  every_holds f (y ∷ ys) e (Memᴰ.head p) = rw p (cond_first (f y) _ _ e false≢true).0
  every_holds f (y ∷ ys) e (Memᴰ.tail m) = every_holds f ys (cond_first (f y) _ _ e false≢true).1 m

  pub get_d_in : (xs : List A) (i : ℕ) (d : A) → i < length xs → get_or xs i d ∈ xs
  get_d_in [] i d h = absurd (not-suc-le-zero h)
  get_d_in (x ∷ xs) zero d h = Memᴰ.head refl
  get_d_in (x ∷ xs) (suc i) d h = Memᴰ.tail (get_d_in xs i d (le_of_suc-le-suc h))

  -- one more element of the one list over the other
  pub copy_step : (source target : List A) (i : ℕ) (d : A) → i < length source → i < length target
      → set (take i source ++ drop i target) i (get_or source i d) ≡ take (i + 1) source ++ drop (i + 1) target
  copy_step source target i d h k =
      let at_i = set_at (take i source) (get_or target i d) (drop (suc i) target) (get_or source i d) i (length-take-le i source (le_of_lt h)) in
      rw (add-one, take-suc source i d, drop-cons target i d, at_i, append_snoc)

  pub copy_past : (source target : List A) (i : ℕ) → length source ≤ i → length target ≤ i → take i source ++ drop i target ≡ source
  copy_past source target i h k = rw (take_all i source h, drop_of_length-le target k, append-nil)

-- the element of a changed list, and of two lists joined element by element, the second at least as long
pub get_d_map : {A B : Type 0} (f : A → B) (l : List A) (i : ℕ) (d : A) → get_or (map f l) i (f d) ≡ f (get_or l i d)
get_d_map f [] i d = refl
get_d_map f (x ∷ xs) zero d = refl
get_d_map f (x ∷ xs) (suc i) d = get_d_map f xs i d

module _ {A B C : Type 0} (f : A → B → C) where
  pub length_zip : (xs : List A) (ys : List B) → length xs ≤ length ys → length (zip_with f xs ys) ≡ length xs
  unfolding zip_with
  length_zip [] ys e = refl
  length_zip (x ∷ xs) [] e = absurd (not-suc-le-zero e)
  length_zip (x ∷ xs) (y ∷ ys) e = ap suc (length_zip xs ys (le_of_suc-le-suc e))

  pub get_d_zip : (xs : List A) (ys : List B) (i : ℕ) (a : A) (b : B) → length xs ≤ length ys → i < length xs
      → get_or (zip_with f xs ys) i (f a b) ≡ f (get_or xs i a) (get_or ys i b)
  unfolding zip_with
  get_d_zip [] ys i a b e h = absurd (not-suc-le-zero h)
  get_d_zip (x ∷ xs) [] i a b e h = absurd (not-suc-le-zero e)
  get_d_zip (x ∷ xs) (y ∷ ys) zero a b e h = refl
  get_d_zip (x ∷ xs) (y ∷ ys) (suc i) a b e h = get_d_zip xs ys i a b (le_of_suc-le-suc e) (le_of_suc-le-suc h)

  -- what the second has beyond the first plays no part
  pub zip_longer : (xs : List A) (ys more : List B) → length xs ≤ length ys → zip_with f xs (ys ++ more) ≡ zip_with f xs ys
  unfolding zip_with
  zip_longer [] ys more e = refl
  zip_longer (x ∷ xs) [] more e = absurd (not-suc-le-zero e)
  zip_longer (x ∷ xs) (y ∷ ys) more e = ap (λ zs. f x y ∷ zs) (zip_longer xs ys more (le_of_suc-le-suc e))

-- one element more of a changed list over another, and of two lists joined element by element
pub map_step : {A B : Type 0} (f : A → B) (l : List A) (t : List B) (i : ℕ) (d : A) {x : B}
    → x ≡ f (get_or l i d) → i < length l → i < length t
    → set (take i (map f l) ++ drop i t) i x ≡ take (i + 1) (map f l) ++ drop (i + 1) t
map_step f l t i d e h k =
    rw (e, sym (get_d_map f l i d)) (copy_step (map f l) t i (f d) (rw (length-map l f) h) k)

pub zip_step : {A B C : Type 0} (f : A → B → C) (xs : List A) (ys : List B) (t : List C) (i : ℕ) (a : A) (b : B) {x : C}
    → x ≡ f (get_or xs i a) (get_or ys i b) → length xs ≤ length ys → i < length xs → i < length t
    → set (take i (zip_with f xs ys) ++ drop i t) i x ≡ take (i + 1) (zip_with f xs ys) ++ drop (i + 1) t
zip_step f xs ys t i a b e longer h k =
    rw (e, sym (get_d_zip f xs ys i a b longer h))
    (copy_step (zip_with f xs ys) t i (f a b) (rw (length_zip f xs ys longer) h) k)

-- the rest of a list from a place on, by its first element
pub drop_step : {A : Type 0} (l : List A) (i : ℕ) (d : A) → i < length l → drop i l ≡ get_or l i d ∷ drop (i + 1) l
drop_step l i d h = rw add-one (drop-cons l i d h)

-- lists of lists, joined
pub flatten_joined : {A : Type 0} (ps qs : List (List A)) → flatten (ps ++ qs) ≡ flatten ps ++ flatten qs
unfolding flatten
flatten_joined [] qs = refl
flatten_joined (p ∷ ps) qs = rw (flatten_joined ps qs, append_assoc)

-- no number stands twice
abbrev other : ℕ → ℕ → Bool
other x y = not (eqb x y)

abbrev pub distinct : List ℕ → Bool
distinct [] = true
distinct (x ∷ xs) = cond (every (other x) xs) (distinct xs) false

pub distinct_at : (xs : List ℕ) → distinct xs ≡ true → (i j : ℕ) → i < j → j < length xs → get_or xs i 0 ≡ get_or xs j 0 → ⊥
distinct_at [] e i j h k = absurd (not-suc-le-zero k)
distinct_at (x ∷ xs) e i zero h k = absurd (not-suc-le-zero h)
distinct_at (x ∷ xs) e zero (suc j) h k =
    let t = (cond_first (every (other x) xs) (distinct xs) false e false≢true).0 in
    eqb-false x (get_or xs j 0) (not-true _ (every_holds (other x) xs t (get_d_in xs j 0 (le_of_suc-le-suc k))))
distinct_at (x ∷ xs) e (suc i) (suc j) h k =
    let t = (cond_first (every (other x) xs) (distinct xs) false e false≢true).1 in
    distinct_at xs t i j (le_of_suc-le-suc h) (le_of_suc-le-suc k)
