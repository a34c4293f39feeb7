-- Loops over all places: what holds before each round, and what they end with. Assumes nothing.
use Rattle.std.proofs.Common.{◌≡◌, ℕ, zero, suc, ◌+◌, ◌-◌, ◌<◌, ◌≤◌, Bool, true, false, cond, List, [], ◌∷◌, ◌++◌, map, length, take, drop, get_or, refl, sym, ap, ◌∙◌, arith}
use Rattle.std.specs.List.{list_any, list_all}
use Rattle.std.proofs.lemmas.List.{get_or-append_right, get_or-drop, length-take-le}
use lib.ListN.{set, length-map, drop_of_length-le}
use lib.Seq.{take_all, take-suc, drop-cons, append_snoc}
use native.Mathlib.Nat.{le_of_suc-le-suc, not-suc-le-zero}
use native.Mathlib.Numerals.{add-one}
use mathlib.Core.List.{append-nil}
use Rattle.laws.proofs.Lists.{copy_past, map_step}
use Rattle.rules.specs.Places.{any_of, all_of, placed}

-- std's tests of a list are 01's
pub any_of_is : {A : Type 0} (test : A → Bool) (xs : List A) → list_any test xs ≡ any_of test xs
unfolding any_of
any_of_is test [] = refl
any_of_is test (x ∷ xs) = rw (any_of_is test xs)

pub all_of_is : {A : Type 0} (test : A → Bool) (xs : List A) → list_all test xs ≡ all_of test xs
unfolding all_of
all_of_is test [] = refl
all_of_is test (x ∷ xs) = rw (all_of_is test xs)

pub first_of : {A : Type 0} (t : Bool) (x y : A) → t ≡ true → x ≡ cond t x y
first_of t x y h = rw h

pub second_of : {A : Type 0} (t : Bool) (x y : A) → t ≡ false → y ≡ cond t x y
second_of t x y h = rw h

-- every place is changed, one after the other
module _ {A : Type 0} (f : A → A) (l : List A) where
  abbrev pub Changed : List A → ℕ → Type 0
  Changed next i = (i ≤ length l) × (next ≡ take i (map f l) ++ drop i l)

  -- what is read there is as it was
  read : {next : List A} {i : ℕ} (d : A) → Changed next i → get_or next i d ≡ get_or l i d
  read {i = i} d inv =
      let front : length (take i (map f l)) ≡ i = length-take-le i (map f l) (simp length-map inv.0) in
      ap (λ xs. get_or xs i d) inv.1 ∙ get_or-append_right (take i (map f l)) (drop i l) i i d front (omega arith) ∙ get_or-drop i l (i - i) d ∙ ap (λ k. get_or l k d) (omega arith)

  pub change_write : {next : List A} {i : ℕ} (d : A) {y : A} → Changed next i → i < length l → y ≡ f (get_or next i d) → Changed (set next i y) (i + 1)
  change_write {i = i} d inv h e = (omega arith, rw inv.1 (map_step f l l i d (e ∙ ap f (read d inv)) (omega arith) (omega arith)))

  pub change_end : {next : List A} {i : ℕ} → Changed next i → length l ≤ i → next ≡ map f l
  change_end {i = i} inv h = inv.1 ∙ copy_past (map f l) l i (simp length-map (omega arith)) (omega arith)

-- the first place that holds none takes the new one: those before it are held
module _ {A : Type 0} (held : A → Bool) (new : A) (l : List A) where
  abbrev pub Passed : List A → ℕ → Type 0
  Passed next i = (i ≤ length l) × (next ≡ l) × (placed held new l ≡ take i l ++ placed held new (drop i l))

  pub pass_step : {next : List A} {i : ℕ} (d : A) → Passed next i → i < length l → held (get_or next i d) ≡ true → Passed next (i + 1)
  pass_step {i = i} d inv h t =
      let there : held (get_or l i d) ≡ true = rw inv.1 at t in
      (omega arith, inv.1, inv.2 ∙ rw (add-one, take-suc l i d h, drop-cons l i d h, there, append_snoc))

  taken_at : (xs : List A) (i : ℕ) (d : A) → i < length xs → held (get_or xs i d) ≡ false → set xs i new ≡ take i xs ++ placed held new (drop i xs)
  taken_at [] i d h t = absurd (not-suc-le-zero h)
  taken_at (x ∷ xs) zero d h t = rw t
  taken_at (x ∷ xs) (suc i) d h t = ap (λ ys. x ∷ ys) (taken_at xs i d (le_of_suc-le-suc h) t)

  pub pass_taken : {next : List A} {i : ℕ} (d : A) → Passed next i → i < length l → held (get_or next i d) ≡ false → set next i new ≡ placed held new l
  pass_taken {i = i} d inv h t =
      let there : held (get_or l i d) ≡ false = rw inv.1 at t in
      rw inv.1 (taken_at l i d h there ∙ sym inv.2)

  pub pass_end : {next : List A} {i : ℕ} → Passed next i → length l ≤ i → next ≡ placed held new l
  pass_end {i = i} inv h = inv.1 ∙ sym (inv.2 ∙ rw (drop_of_length-le l h, append-nil, take_all i l h))
