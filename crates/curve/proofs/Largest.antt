-- The largest number at which a test fails. Assumes nothing.
use Prim.Native.Nat.{ℕ, zero, suc, ◌+◌, ◌-◌, ◌≤◌, ◌<◌, zero-le}
use mathlib.Core.Path.{◌≡◌, refl, sym, ◌∙◌, ap}
use mathlib.Core.Bool.{Bool, true, false, cond, false≢true}
use native.Mathlib.Nat.{le_refl, le_trans, le_antisymm, lt_of_not-le}
use native.Mathlib.Decide.{dec_le}
use native.Mathlib.Omega.{arith}
use Rattle.curve.specs.Ground.{largest_failing}

-- a test that passes at a number passes at every higher one
abbrev pub Monotone : (ℕ → Bool) → Type 0
Monotone test = (i j : ℕ) → i ≤ j → test i ≡ true → test j ≡ true

never : {t : Bool} → t ≡ true → t ≡ false → ⊥
never p q = false≢true (sym q ∙ p)

module _ (test : ℕ → Bool) where
  -- m is the largest number up to n at which the test fails, or 0
  pub record IsLargest (n m : ℕ) : Type 0 where
    pub within : m ≤ n
    pub fails : 0 < m → test m ≡ false
    pub passes : (k : ℕ) → m < k → k ≤ n → test k ≡ true

  pub largest : (n : ℕ) → IsLargest n (largest_failing test n)
  unfolding largest_failing
  largest zero = record { within = zero-le; fails = λ h. absurd (omega arith); passes = λ k h g. absurd (omega arith) }
  largest (suc n) = by (test (suc n)) refl (largest n)
    where
      at : (k : ℕ) → test (suc n) ≡ true → k ≤ suc n → ¬ (k ≤ n) → test k ≡ true
      at k e h g = let last : k ≡ suc n = omega arith in ap test last ∙ e

      by : (t : Bool) → test (suc n) ≡ t → IsLargest n (largest_failing test n) → IsLargest (suc n) (cond t (largest_failing test n) (suc n))
      by true e r = record {
        within = omega (arith, r.within);
        fails = r.fails;
        passes = λ k h g. elim (dec_le k n) [ yes p ↦ r.passes k h p | no p ↦ at k e g p ];
      }
      by false e r = record { within = le_refl (suc n); fails = λ h. e; passes = λ k h g. absurd (omega arith) }

  -- a number at which the test passes is above one at which it fails
  pub failing_below : {i j : ℕ} → i ≤ j → test i ≡ false → test j ≡ true → i < j
  failing_below {i} {j} h e p =
      elim (dec_le j i) [ yes g ↦ absurd (never p (rw (le_antisymm g h) e)) | no g ↦ lt_of_not-le g ]

  -- no number up to n at which the test fails is above it
  pub failing_within : (n k : ℕ) → k ≤ n → test k ≡ false → k ≤ largest_failing test n
  failing_within n k h e =
      elim (dec_le k (largest_failing test n)) [ yes p ↦ p | no p ↦ absurd (never ((largest n).passes k (lt_of_not-le p) h) e) ]

  -- and it is not above a number after which the test passes up to n
  pub passing_above : (n m : ℕ) → ((k : ℕ) → m < k → k ≤ n → test k ≡ true) → largest_failing test n ≤ m
  passing_above n m h =
      let x = largest_failing test n in
      elim (dec_le x m) [
        | yes p ↦ p
        | no p ↦ absurd (never (h x (lt_of_not-le p) (largest n).within) ((largest n).fails (omega arith)))
      ]

  pub largest_fails : test 0 ≡ false → (n : ℕ) → test (largest_failing test n) ≡ false
  largest_fails z n = by (largest_failing test n) (largest n).fails
    where
      by : (m : ℕ) → (0 < m → test m ≡ false) → test m ≡ false
      by zero h = z
      by (suc m) h = h (omega arith)

  pub largest_here : (n : ℕ) → test n ≡ false → largest_failing test n ≡ n
  largest_here n e = le_antisymm (largest n).within (failing_within n n (le_refl n) e)

  -- the numbers after m, where the test passes at all of them up to n, need not be looked at
  pub largest_from : (n m : ℕ) → m ≤ n → ((k : ℕ) → m < k → k ≤ n → test k ≡ true) → largest_failing test n ≡ largest_failing test m
  largest_from n m h passes =
      le_antisymm
      (passing_above n (largest_failing test m)
      (λ k p q. elim (dec_le k m) [ yes g ↦ (largest m).passes k p g | no g ↦ passes k (lt_of_not-le g) q ]))
      (passing_above m (largest_failing test n) (λ k p q. (largest n).passes k p (le_trans q h)))

  module _ (monotone : Monotone test) where
    -- at it and all below the test fails
    pub largest_below : test 0 ≡ false → (n k : ℕ) → k ≤ largest_failing test n → test k ≡ false
    largest_below z n k h = by (test k) refl
      where
        by : (t : Bool) → test k ≡ t → t ≡ false
        by true e = absurd (never (monotone k (largest_failing test n) h e) (largest_fails z n))
        by false e = refl

    -- a step of halving: where the test passes in the middle, the largest failing is sought below it
    pub halve_high : (middle high n : ℕ) → middle < high → test middle ≡ true
        → largest_failing test (high - 1) ≡ largest_failing test n → largest_failing test (middle - 1) ≡ largest_failing test n
    halve_high middle high n h e found =
        sym (largest_from (high - 1) (middle - 1) (omega arith) (λ k p q. monotone middle k (omega arith) e)) ∙ found

  -- the end of halving: no number is left between
  pub halve_end : (low high n : ℕ) → low < high → high ≤ low + 1 → test low ≡ false
      → largest_failing test (high - 1) ≡ largest_failing test n → low ≡ largest_failing test n
  halve_end low high n h g e found =
      let last : high - 1 ≡ low = omega arith in
      sym (largest_here low e) ∙ rw last at found

-- a test that passes wherever another does fails no higher
pub largest_implied : (test other : ℕ → Bool) → ((k : ℕ) → test k ≡ true → other k ≡ true)
    → (n : ℕ) → largest_failing other n ≤ largest_failing test n
largest_implied test other h n = passing_above other n (largest_failing test n) (λ k p q. h k ((largest test n).passes k p q))
