-- The places of curves, sections and ET records alike (01, "Answers", refusals 12 and 13 and what follows them; 02, F-7).
use Rattle.std.specs.Prelude.{ℕ, Bool, cond, ◌&&◌, List, map, eqb}
use Rattle.rules.specs.Places.{any_of, placed}

-- this place holds the id
abbrev pub is_at : {A : Type 0} → (A → Bool) → (A → ℕ) → ℕ → A → Bool
is_at held id wanted x = held x && eqb (id x) wanted

-- "A held id is replaced"
abbrev pub replaced_at : {A : Type 0} → (A → Bool) → (A → ℕ) → (A → A → A) → A → A → A
replaced_at held id replaced new x = cond (is_at held id (id new) x) (replaced new x) x

-- a new one among the others
abbrev pub given : {A : Type 0} → (A → Bool) → (A → ℕ) → (A → A → A) → A → List A → List A
given held id replaced new xs = cond (any_of (is_at held id (id new)) xs) (map (replaced_at held id replaced new) xs) (placed held new xs)

-- a place after the end of an id
abbrev pub ended_at : {A : Type 0} → (A → Bool) → (A → ℕ) → (A → A) → ℕ → A → A
ended_at held id ended wanted x = cond (is_at held id wanted x) (ended x) x
