-- What is promised of a stream, of any bytes and of any writer.
use Rattle.std.specs.Prelude.{ℕ, ◌<◌, ◌≡◌, Bool, true, false, length, take, drop, None, Some}
use mathlib.Core.List.{List, [], ◌∷◌, ◌++◌, flatten, Memᴰ}
use Rattle.wire.specs.Codes.{longest}
use Rattle.wire.specs.Form.{report_length, refusal_to}
use Rattle.portions.specs.Portions.{given, given_within, given_of, left_of, portions_of}
use Rattle.portions.specs.Reads.{Writer, text_by, at_first, turn_of, after_reads, after_end}
use Rattle.wire.specs.Split.{rest_refusal}

-- ---- the portions

-- no byte is lost, and none is given twice
abbrev pub NothingLost : Type 0
NothingLost = (all : Bool) (s : List ℕ) → flatten (given_of all s).portions ++ left_of all s ≡ s

-- commands that pass refusals 1 to 4 are given as they were sent, whatever comes after them
abbrev pub CommandsGiven : Type 0
CommandsGiven =
    (all : Bool) (commands : List (List ℕ)) (rest : List ℕ)
    → ((c : List ℕ) → Memᴰ c commands → refusal_to c report_length ≡ None)
    → given_of all (flatten commands ++ rest) ≡ given (commands ++ (given_of all rest).portions) (given_of all rest).ended

-- "refusal 3 or 4, or an empty rest, ends it": a byte that is no code ends it at once, by refusal 3
abbrev pub NoCodeEnds : Type 0
NoCodeEnds =
    (all : Bool) (s : List ℕ) → rest_refusal s ≡ Some 3
    → (given_of all s ≡ given (take 1 s ∷ []) true) × (refusal_to (take 1 s) report_length ≡ Some 3)

-- a command that is not whole waits while bytes may come, and ends it by refusal 4 where none do
abbrev pub ShortWaits : Type 0
ShortWaits =
    (s : List ℕ) → rest_refusal s ≡ Some 4
    → (given_of false s ≡ given [] false) × (given_of true s ≡ given (s ∷ []) true) × (refusal_to s report_length ≡ Some 4)

-- an empty rest waits, and ends it with no refusal
abbrev pub EmptyEnds : Type 0
EmptyEnds = (all : Bool) → given_of all [] ≡ given [] all

-- where at most k portions may be given: once the stream has ended it is as without a bound, and otherwise the bytes that are not given
-- yet give the rest
abbrev pub AnyRoom : Type 0
AnyRoom =
    (k : ℕ) (all : Bool) (s : List ℕ)
    → let g = given_within k all s in
    let more = given_of all (drop (length (flatten g.portions)) s) in
    (g.ended ≡ true → g ≡ given_of all s) × (g.ended ≡ false → given_of all s ≡ given (g.portions ++ more.portions) more.ended)

-- fewer bytes wait than the longest command has, so that there is always room to read
abbrev pub WaitsShort : Type 0
WaitsShort = (s : List ℕ) → (given_of false s).ended ≡ false → length (left_of false s) < longest

-- ---- the reads

-- however the bytes are cut into reads, the program stands after them where it would stand had they come in one: with the state, the
-- text written and the bytes waiting, so that no text is held back
abbrev pub CutAnyhow : Type 1
CutAnyhow =
    (X : Type 0) (w : Writer X) (x : X) (reads : List (List ℕ))
    → after_reads w (at_first x) reads ≡ turn_of w false (flatten reads) (at_first x)

-- and after the end of the input too, where the text of all portions of the whole input is written, and no other
abbrev pub EndedAnyhow : Type 1
EndedAnyhow =
    (X : Type 0) (w : Writer X) (x : X) (reads : List (List ℕ))
    → (after_end w (after_reads w (at_first x) reads) ≡ turn_of w true (flatten reads) (at_first x))
    × ((after_end w (after_reads w (at_first x) reads)).written ≡ text_by w x (portions_of (flatten reads)))
    × ((after_end w (after_reads w (at_first x) reads)).ended ≡ true)

-- what is written at any time is a beginning of what the whole input's text will be
abbrev pub WrittenIsABeginning : Type 1
WrittenIsABeginning =
    (X : Type 0) (w : Writer X) (x : X) (reads : List (List ℕ)) (later : List ℕ)
    → (more : List ℕ) × (text_by w x (portions_of (flatten reads ++ later)) ≡ (after_reads w (at_first x) reads).written ++ more)
