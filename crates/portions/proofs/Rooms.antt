-- A text put into the room that is left behind another. Assumes nothing.
use Prim.Native.Nat.{ℕ, ◌+◌, ◌-◌, ◌≤◌}
use mathlib.Core.Path.{◌≡◌, sym, ap, ◌∙◌}
use mathlib.Core.List.{List, [], ◌++◌, append_assoc, append-nil}
use native.Mathlib.Omega.{arith}
use lib.ListN.{length, take, drop, length-append, length-drop, drop_of_length-le}
use lib.Seq.{take_all, length-take-le, take_at, drop_at, drop-drop}
use Rattle.wire.specs.Bytes.{placed}

-- the part of a slice from a place to its end, and what is behind that
pub to_end : (at : ℕ) (s : List ℕ) → take (length s - at) (drop at s) ≡ drop at s
to_end at s = take_all (length s - at) (drop at s) (rw (length-drop at s) (omega arith))

past_end : (at : ℕ) (s : List ℕ) → drop (length s - at) (drop at s) ≡ []
past_end at s = drop_of_length-le (drop at s) {i = length s - at} (rw (length-drop at s) (omega arith))

pub room_length : (at : ℕ) (s : List ℕ) → length (take (length s - at) (drop at s)) ≡ length s - at
room_length at s = ap length (to_end at s) ∙ length-drop at s

-- a slice whose part from a place to its end was lent, and came back as `part` with a text at its front
module _ (at : ℕ) (s text part : List ℕ) (h : at + length text ≤ length s) (e : part ≡ placed text (take (length s - at) (drop at s))) where
  abbrev after : List ℕ
  after = take at s ++ (part ++ drop (length s - at) (drop at s))

  front : length (take at s ++ text) ≡ at + length text
  front = length-append (take at s) text ∙ ap (λ n. n + length text) (length-take-le at s (omega arith))

  -- it is what stood before, the text, and what stands behind it
  put_behind : after ≡ take at s ++ text ++ drop (at + length text) s
  unfolding placed
  put_behind =
      rw (e, past_end at s, append-nil, to_end at s, drop-drop (length text) at s) (sym (append_assoc (take at s) text (drop (at + length text) s)))

  pub put_take : take (at + length text) after ≡ take at s ++ text
  put_take = rw put_behind (take_at (take at s ++ text) (drop (at + length text) s) (at + length text) front)

  pub put_drop : drop (at + length text) after ≡ drop (at + length text) s
  put_drop = rw put_behind (drop_at (take at s ++ text) (drop (at + length text) s) (at + length text) front)

  pub put_length : length after ≡ length s
  put_length =
      let all = length-append (take at s ++ text) (drop (at + length text) s) in
      let left = length-drop (at + length text) s in
      ap length put_behind ∙ all ∙ omega (arith, front, left)
