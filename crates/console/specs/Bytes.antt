-- What a read and a write do to the bytes that a reader and a writer hold, where those are known (`Rattle.std.specs.Io.KnownBytes`).
use Rattle.std.specs.Prelude.{ℕ, ◌<◌, List, Option, length, take}
use Rattle.std.specs.Io.KnownBytes.{Appends, Consumes}

-- known bytes grow by a beginning of bs
abbrev pub AppendsFront : Option (List ℕ) → Option (List ℕ) → List ℕ → Type 0
AppendsFront old new bs = (n : ℕ) × Appends old new (take n bs)

-- known bytes lose fewer than n at the front
abbrev pub ConsumesFewer : Option (List ℕ) → Option (List ℕ) → ℕ → Type 0
ConsumesFewer old new n = (bs : List ℕ) × (length bs < n) × Consumes old new bs
