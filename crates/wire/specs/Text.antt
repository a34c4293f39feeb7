-- Text in ASCII.
use Rattle.std.specs.Prelude.{ℕ, ◌+◌, ◌%◌, cond, List, [], ◌∷◌, ltb}
use Prim.Native.Char.{code}
use Prim.Native.String.{String, [] as no_text, ◌∷◌ as ◌then◌}

-- the bytes of a text
abbrev pub ascii : String → List ℕ
ascii no_text = []
ascii (c then text) = code c ∷ ascii text

-- 01, "capital hex digits": the last digit of a number to base 16, 0 to 9, then A to F
abbrev pub digit_of : ℕ → ℕ
digit_of x = cond (ltb (x % 16) 10) (x % 16 + 48) (x % 16 + 55)

abbrev pub space : ℕ
space = 32

-- 02, "a newline"
abbrev pub line_feed : ℕ
line_feed = 10
