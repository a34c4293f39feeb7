-- The example of 01, as bytes in and bytes out; each report has F-1's four bytes and F-6's area at its end (02).
use Rattle.std.specs.Prelude.{ℕ, ◌≡◌, List, [], ◌∷◌, ◌++◌}
use Rattle.wire.specs.Text.{ascii}
use Rattle.output.specs.Streams.{stream_of}

-- "Input 01 00000001 00 00A0 0190 02BC 01F4 1E 14 14 1E 0A 0F 32 017C 0D"
abbrev start : List ℕ
start =
    0x01 ∷ 0x00 ∷ 0x00 ∷ 0x00 ∷ 0x01 ∷ 0x00 ∷ 0x00 ∷ 0xA0 ∷ 0x01 ∷ 0x90 ∷ 0x02 ∷ 0xBC ∷ 0x01 ∷ 0xF4 ∷
    0x1E ∷ 0x14 ∷ 0x14 ∷ 0x1E ∷ 0x0A ∷ 0x0F ∷ 0x32 ∷ 0x01 ∷ 0x7C ∷ 0x0D ∷ []

-- "then 02 00000002 01 twice, 02 00000003 03, 7F"
abbrev to_cs : List ℕ
to_cs = 0x02 ∷ 0x00 ∷ 0x00 ∷ 0x00 ∷ 0x02 ∷ 0x01 ∷ []

abbrev to_da : List ℕ
to_da = 0x02 ∷ 0x00 ∷ 0x00 ∷ 0x00 ∷ 0x03 ∷ 0x03 ∷ []

abbrev pub example_input : List ℕ
example_input = start ++ to_cs ++ to_cs ++ to_da ++ (0x7F ∷ [])

abbrev pub example_output : List ℕ
example_output =
    ascii "0 0000000000000000FF0000000000FFFFFFFF08\n"
    ++ ascii "0 0100000000000000FF0000000000FFFFFFFF08\n"
    ++ ascii "100 0100000000000000FF0000000000FFFFFFFF08\n"
    ++ ascii "10\n"
    ++ ascii "3\n"

abbrev pub ExampleHolds : Type 0
ExampleHolds = stream_of example_input ≡ example_output
