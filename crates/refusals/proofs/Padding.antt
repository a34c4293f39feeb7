-- Laws of the bytes of a command with 0 after its end. Assumes nothing.
use Prim.Native.Nat.{ℕ, zero, suc, ◌≤◌, ◌<◌}
use mathlib.Core.Path.{◌≡◌, refl, ap}
use mathlib.Core.List.{List, [], ◌∷◌, ◌++◌}
use native.Mathlib.Nat.{le_of_suc-le-suc, not-suc-le-zero}
use native.Mathlib.Omega.{arith}
use lib.ListN.{length, take, drop, replicate}
use Rattle.rules.specs.Commands.{padded}

-- no bytes are padded with 0 alone
nothing_padded : (n : ℕ) → replicate n 0 ≡ padded n []
unfolding padded
nothing_padded zero = refl
nothing_padded (suc n) = ap (◌∷◌ 0) (nothing_padded n)

-- the first bytes of a command copied over zeros, all of them where there are fewer than asked for
pub padded_copy : (k n : ℕ) (s : List ℕ) → k ≤ n → k ≤ length s → (k < n → length s ≤ k)
    → take k s ++ drop k (replicate n 0) ≡ padded n s
unfolding padded
padded_copy zero zero s h l m = refl
padded_copy zero (suc n) [] h l m = nothing_padded (suc n)
padded_copy zero (suc n) (x ∷ s) h l m = absurd (not-suc-le-zero (m (omega arith)))
padded_copy (suc k) zero s h l m = absurd (not-suc-le-zero h)
padded_copy (suc k) (suc n) [] h l m = absurd (not-suc-le-zero l)
padded_copy (suc k) (suc n) (x ∷ s) h l m =
    ap (◌∷◌ x) (padded_copy k n s (le_of_suc-le-suc h) (le_of_suc-le-suc l) (λ i. le_of_suc-le-suc (m (omega (arith, i)))))
