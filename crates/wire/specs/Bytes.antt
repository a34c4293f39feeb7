-- Equal bytes, copied bytes, and bytes put at the front of an area.
use Rattle.std.specs.Prelude.{ℕ, Bool, true, false, cond, List, [], ◌∷◌, ◌++◌, eqb, length, drop}

-- 01, "number and bytes are those of the last accepted command"
unfoldable pub same_bytes : List ℕ → List ℕ → Bool
same_bytes [] [] = true
same_bytes [] (y ∷ ys) = false
same_bytes (x ∷ xs) [] = false
same_bytes (x ∷ xs) (y ∷ ys) = cond (eqb x y) (same_bytes xs ys) false

-- 01, "the same report is written" and "A refusal changes neither state nor report": all of the source where the target is as
-- long, and otherwise the target as it was
unfoldable pub copied : List ℕ → List ℕ → List ℕ
copied source target = cond (eqb (length source) (length target)) source target

-- bytes put at the front of an area, with what stands behind them left as it was
unfoldable pub placed : List ℕ → List ℕ → List ℕ
placed text area = text ++ drop (length text) area
