-- The hex digits, one by one. Assumes nothing.
use Prim.Native.Nat.{ℕ, zero, suc, ◌+◌, ◌%◌, ◌<◌}
use mathlib.Core.Path.{◌≡◌, refl, subst⁻¹}
use mathlib.Core.Bool.{Bool, true, false, cond, false≢true}
use mathlib.Core.List.{List, [], ◌∷◌}
use native.Mathlib.Nat.{not-suc-le-zero}
use native.Mathlib.Omega.{arith}
use lib.Dec.{eqb, ltb}
use borrow.Author.Tests.{eqb-true, eqb-false}
use Rattle.std.proofs.Common.{slice_index_or}
use Rattle.std.proofs.lemmas.Nat.{mod_below}
use Rattle.laws.proofs.Lists.{cond_first}
use Rattle.wire.specs.Text.{digit_of}

-- the test passes at each number below n
each : (ℕ → Bool) → ℕ → Bool
each f zero = true
each f (suc n) = cond (f n) (each f n) false

each_passes : (f : ℕ → Bool) (n k : ℕ) → each f n ≡ true → k < n → f k ≡ true
unfolding each
each_passes f zero k e h = absurd (not-suc-le-zero h)
each_passes f (suc n) k e h = by (eqb k n) refl (cond_first (f n) (each f n) false e false≢true) (each_passes f n k)
  where
    by : (t : Bool) → eqb k n ≡ t → (f n ≡ true) × (each f n ≡ true) → (each f n ≡ true → k < n → f k ≡ true) → f k ≡ true
    by true t p q = subst⁻¹ (λ m. f m ≡ true) (eqb-true k n t) p.0
    by false t p q = q p.1 (omega (arith, h, eqb-false k n t))

unfoldable pub hex : List ℕ
hex = 48 ∷ 49 ∷ 50 ∷ 51 ∷ 52 ∷ 53 ∷ 54 ∷ 55 ∷ 56 ∷ 57 ∷ 65 ∷ 66 ∷ 67 ∷ 68 ∷ 69 ∷ 70 ∷ []

stands : ℕ → Bool
stands n = eqb (slice_index_or hex n 0) (cond (ltb n 10) (n + 48) (n + 55))

pub digit_stands : (x : ℕ) → slice_index_or hex (x % 16) 0 ≡ digit_of x
unfolding each stands hex
digit_stands x = eqb-true _ _ (each_passes stands 16 (x % 16) refl (mod_below x 16 (omega arith)))
