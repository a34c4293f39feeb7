-- A stream that comes in reads, and the text that is written for it. A writer is any that has a state and, for each portion, a
-- text and the next state: the stream program's lines are one.
use Rattle.std.specs.Prelude.{ℕ, Bool, true, false, cond, List, [], ◌∷◌, ◌++◌}
use Rattle.portions.specs.Portions.{given_of, left_of}

-- the bytes of input that a program has room for
abbrev pub input_room : ℕ
input_room = 16384

pub record Writer (X : Type 0) : Type 0 where
  pub next : X → List ℕ → X
  pub text : X → List ℕ → List ℕ

-- the text of a list of portions, and the state after it
unfoldable pub text_by : {X : Type 0} → Writer X → X → List (List ℕ) → List ℕ
text_by w x [] = []
text_by w x (p ∷ ps) = w.text x p ++ text_by w (w.next x p) ps

unfoldable pub state_by : {X : Type 0} → Writer X → X → List (List ℕ) → X
state_by w x [] = x
state_by w x (p ∷ ps) = state_by w (w.next x p) ps

-- where a program stands: its state, the bytes that wait for more, what is written, and whether the stream has ended
pub record Standing (X : Type 0) : Type 0 where
  pub state : X
  pub left : List ℕ
  pub written : List ℕ
  pub ended : Bool

abbrev pub at_first : {X : Type 0} → X → Standing X
at_first x = record { state = x; left = []; written = []; ended = false }

-- a turn of the program with these bytes at hand: all that can be given is given, and its text is written
unfoldable pub turn_of : {X : Type 0} → Writer X → Bool → List ℕ → Standing X → Standing X
turn_of w all bytes s = record {
  state = state_by w s.state (given_of all bytes).portions;
  left = cond (given_of all bytes).ended [] (left_of all bytes);
  written = s.written ++ text_by w s.state (given_of all bytes).portions;
  ended = (given_of all bytes).ended;
}

-- a read that brings bytes: they come after those that wait. A stream that has ended is read no more
unfoldable pub after_read : {X : Type 0} → Writer X → Standing X → List ℕ → Standing X
after_read w s read = cond s.ended s (turn_of w false (s.left ++ read) s)

unfoldable pub after_reads : {X : Type 0} → Writer X → Standing X → List (List ℕ) → Standing X
after_reads w s [] = s
after_reads w s (read ∷ reads) = after_reads w (after_read w s read) reads

-- the end of the input, a read that brings none: what waits is all
unfoldable pub after_end : {X : Type 0} → Writer X → Standing X → Standing X
after_end w s = cond s.ended s (turn_of w true s.left s)
