-- The letters of numbers, looked up in tables that have the spaces too. Assumes nothing.
use Prim.Native.Nat.{ℕ, zero, suc}
use mathlib.Core.Path.{◌≡◌, refl}
use mathlib.Core.List.{[], ◌∷◌}
use lib.ListN.{get_or}
use Rattle.wire.specs.Text.{ascii, space}
use Rattle.sheet.specs.Columns.{letters, state_names, interval_names}

pub state_lem : (n : ℕ) → get_or (ascii "DE" ∷ ascii "CS" ∷ ascii "HS" ∷ ascii "DA" ∷ ascii "FA" ∷ []) n (space ∷ space ∷ []) ≡ letters state_names 2 n
unfolding letters
state_lem zero = refl
state_lem (suc zero) = refl
state_lem (suc (suc zero)) = refl
state_lem (suc (suc (suc zero))) = refl
state_lem (suc (suc (suc (suc zero)))) = refl
state_lem (suc (suc (suc (suc (suc n))))) = refl

pub interval_lem : (n : ℕ)
    → get_or (ascii "  " ∷ ascii "A " ∷ ascii "Ab" ∷ ascii "Bf" ∷ ascii "B " ∷ ascii "C " ∷ ascii "D " ∷ ascii "E " ∷ ascii "F " ∷ []) n (space ∷ space ∷ [])
    ≡ letters interval_names 2 n
unfolding letters
interval_lem zero = refl
interval_lem (suc zero) = refl
interval_lem (suc (suc zero)) = refl
interval_lem (suc (suc (suc zero))) = refl
interval_lem (suc (suc (suc (suc zero)))) = refl
interval_lem (suc (suc (suc (suc (suc zero))))) = refl
interval_lem (suc (suc (suc (suc (suc (suc zero)))))) = refl
interval_lem (suc (suc (suc (suc (suc (suc (suc zero))))))) = refl
interval_lem (suc (suc (suc (suc (suc (suc (suc (suc zero)))))))) = refl
interval_lem (suc (suc (suc (suc (suc (suc (suc (suc (suc n))))))))) = refl
