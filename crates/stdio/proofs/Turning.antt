-- A turn of such a loop: a read behind the bytes that are left, what is handed on of the bytes at hand, and the write of its text. Assumes
-- nothing.
use Rattle.std.specs.Prelude.{ℕ, ◌+◌, ◌*◌, ◌/◌, ◌≤◌, ◌<◌, Bool, true, false, eqb, Option, IfSome, List, ◌++◌, length, take, drop}
use Rattle.std.proofs.Common.{◌≡◌, refl, sym, ap, ◌∙◌, arith, le_refl, take-append-drop, take_all, length-take}
use Rattle.std.proofs.Math.Seq.{slice, length-slice}
use borrow.Author.Tests.{eqb-false}
use Rattle.std.proofs.lemmas.Bool.{eqb-true}
use Rattle.std.specs.Io.KnownBytes.{Appends, Consumes, IsAtEnd}
use mathlib.Core.Bool.{false≢true}
use mathlib.Core.List.{flatten}
use lib.Seq.{take-take, take-append_seam}
use Rattle.console.specs.Bytes.{AppendsFront}
use Rattle.wire.specs.Bytes.{placed}
use Rattle.wire.specs.Codes.{shortest, longest}
use Rattle.portions.specs.Portions.{given_within, given_of, left_of, portions_of}
use Rattle.portions.specs.Reads.{Writer, text_by, state_by, input_room}
use Rattle.portions.specs.Told.{handed_to}
use Rattle.portions.specs.declared.telling.Handed.{Handed}
use Rattle.portions.proofs.Giving.{all_ended, all_has_room, waits_short}
use Rattle.stdio.proofs.Standing.{Stands, follows, begun_more, whole}

-- what a read did to a buffer, in which bytes were left at the front
pub record ReadBehind (source source' : Option (List ℕ)) (left to : ℕ) (before after : List ℕ) : Type 0 where
  pub within : left ≤ to
  pub room : to ≤ length after
  pub kept : take left after ≡ take left before
  pub came : Consumes source source' (slice left to after)
  pub end : to ≡ left → IsAtEnd source'

-- the bytes at hand are those that were left, and those that came
at_hand : {r r' : Option (List ℕ)} {left to : ℕ} {before after : List ℕ} → ReadBehind r r' left to before after
    → take to after ≡ take left before ++ slice left to after
at_hand {left = left} {to = to} {after = after} h =
    sym (take-append-drop left (take to after)) ∙ ap (λ l. l ++ slice left to after) (take-take left to after h.within ∙ h.kept)

-- a text put at the front of a room is what is written of the room
pub front_is_text : (text room : List ℕ) → take (length text) (placed text room) ≡ text
unfolding placed
front_is_text text room = take-append_seam text (drop (length text) room)

-- all of a text is a beginning of it
pub all_is_front : (o o' : Option (List ℕ)) (text : List ℕ) → Appends o o' text → AppendsFront o o' text
all_is_front o o' text written = (length text, rw (take_all (length text) text (le_refl (length text))) written)

-- the bytes that are not used are kept, and are so many
pub kept_is_left : (all : Bool) (to : ℕ) (input : List ℕ) {used n : ℕ} {kept : List ℕ} → used ≡ length (flatten (given_of all (take to input)).portions)
    → n ≡ length (slice used to input) → kept ≡ placed (slice used to input) input
    → (take n kept ≡ left_of all (take to input)) × (n ≡ length (left_of all (take to input)))
unfolding left_of
kept_is_left all to input {used = used} {n = n} {kept = kept} some counted put =
    let rest = ap (λ k. drop k (take to input)) some in
    let front : take n kept ≡ slice used to input = rw (counted, put) (front_is_text (slice used to input) input) in
    (front ∙ rest, counted ∙ ap length rest)

-- a stream that goes on had a read, and leaves less than the longest command
leaves_short : (all : Bool) (bytes : List ℕ) → (given_of all bytes).ended ≡ false → length (left_of all bytes) < longest
leaves_short true bytes e = absurd (false≢true (sym e ∙ all_ended bytes))
leaves_short false bytes e = waits_short bytes e

-- a read behind fewer bytes than the longest command has, which leaves room for more
pub came_behind : {r r' : Option (List ℕ)} {left to : ℕ} {before after : List ℕ} → length after ≡ input_room → left < longest
    → take left after ≡ take left before → left ≤ to → (left ≤ input_room → to ≤ input_room) → Consumes r r' (slice left to after)
    → (to ≡ left → left < input_room → IsAtEnd r') → ReadBehind r r' left to before after
came_behind long few kept lower upper came end = record {
  within = lower;
  room = let h = upper (omega (arith, few)) in omega (arith, h, long);
  kept = kept;
  came = came;
  end = λ e. end e (omega (arith, few));
}

-- what a turn answers and leaves in the room
pub record Turned {X : Type 0} (w : Writer X) (state : X) (left to : ℕ) (input : List ℕ) (handed : Handed X) (out : List ℕ) : Type 0 where
  pub text : take handed.written out ≡ text_by w state (given_of (eqb to left) (take to input)).portions
  pub after : handed.state ≡ state_by w state (given_of (eqb to left) (take to input)).portions
  pub used : handed.used ≡ length (flatten (given_of (eqb to left) (take to input)).portions)
  pub ended : handed.ended ≡ (given_of (eqb to left) (take to input)).ended

pub turned_all : {X : Type 0} {w : Writer X} {state : X} {left to : ℕ} {input out : List ℕ} {handed : Handed X} (out₀ : List ℕ)
    → handed ≡ handed_to w state (given_of (eqb to left) (take to input))
    → out ≡ placed (text_by w state (given_of (eqb to left) (take to input)).portions) out₀
    → Turned w state left to input handed out
unfolding handed_to
turned_all {w = w} {state = state} {left = left} {to = to} {input = input} out₀ outcome written = record {
  text =
      rw (ap (λ h. h.written) outcome, written) (front_is_text (text_by w state (given_of (eqb to left) (take to input)).portions) out₀);
  after = ap (λ h. h.state) outcome;
  used = ap (λ h. h.used) outcome;
  ended = ap (λ h. h.ended) outcome;
}

-- the same of a room, where it is large enough
pub turned : {X : Type 0} {w : Writer X} {state : X} {left to : ℕ} {input out : List ℕ} {handed : Handed X} (width : ℕ) (out₀ : List ℕ)
    → 0 < width → (input_room / shortest + 2) * width ≤ length out₀ → length input ≡ input_room
    → handed ≡ handed_to w state (given_within (length out₀ / width) (eqb to left) (take to input))
    → out ≡ placed (text_by w state (given_within (length out₀ / width) (eqb to left) (take to input)).portions) out₀
    → Turned w state left to input handed out
turned {w = w} {state = state} {left = left} {to = to} {input = input} width out₀ some room long outcome written =
    let few : length (take to input) ≤ input_room = omega (arith, length-take to input, long) in
    let whole = all_has_room width (length out₀) (eqb to left) (take to input) some room few in
    turned_all out₀ (outcome ∙ ap (handed_to w state) whole) (written ∙ ap (λ g. placed (text_by w state g.portions) out₀) whole)

module _ {X : Type 0} (w : Writer X) (x : X) where
  pub turn_whole : {r r' o o' : Option (List ℕ)} {state : X} {left : ℕ} {before : List ℕ} → Stands w x r r' o o' state (take left before)
      → (to : ℕ) (after : List ℕ) (r'' o'' : Option (List ℕ)) → ReadBehind r' r'' left to before after
      → Appends o' o'' (text_by w state (given_of (eqb to left) (take to after)).portions) → (given_of (eqb to left) (take to after)).ended ≡ true
      → IfSome r (λ input. Appends o o'' (text_by w x (portions_of input)))
  turn_whole {left = left} s to after r'' o'' h written ended =
      whole w x s (eqb to left) (slice left to after) r'' o'' h.came (λ e. h.end (eqb-true to left e)) (rw (at_hand h) at written) (rw (at_hand h) at ended)

  pub turn_begun : {r r' o o' : Option (List ℕ)} {state : X} {left : ℕ} {before : List ℕ} → Stands w x r r' o o' state (take left before)
      → (to : ℕ) (after : List ℕ) (r'' o'' : Option (List ℕ)) → ReadBehind r' r'' left to before after
      → AppendsFront o' o'' (text_by w state (given_of (eqb to left) (take to after)).portions)
      → IfSome r (λ input. AppendsFront o o'' (text_by w x (portions_of input)))
  turn_begun {left = left} s to after r'' o'' h written =
      begun_more w x s (eqb to left) (slice left to after) r'' o'' h.came (λ e. h.end (eqb-true to left e)) (rw (at_hand h) at written)

  pub turn_on : {r r' o o' : Option (List ℕ)} {state : X} {left : ℕ} {before : List ℕ} (s : Stands w x r r' o o' state (take left before))
      → (to : ℕ) (after : List ℕ) (r'' o'' : Option (List ℕ)) → ReadBehind r' r'' left to before after
      → Appends o' o'' (text_by w state (given_of (eqb to left) (take to after)).portions) → (given_of (eqb to left) (take to after)).ended ≡ false
      → (n : Stands w x r r'' o o'' (state_by w state (given_of (eqb to left) (take to after)).portions) (left_of (eqb to left) (take to after)))
      × ((length (left_of (eqb to left) (take to after)) < longest) × (length s.came < length n.came))
  turn_on {r = r} {o = o} {o' = o'} {state = state} {left = left} s to after r'' o'' h written goes_on =
      let next = by (eqb to left) refl written goes_on in (next.0, (leaves_short (eqb to left) (take to after) goes_on, next.1))
    where
      by : (all : Bool) → eqb to left ≡ all → Appends o' o'' (text_by w state (given_of all (take to after)).portions) → (given_of all (take to after)).ended ≡ false
          → (n : Stands w x r r'' o o'' (state_by w state (given_of all (take to after)).portions) (left_of all (take to after)))
          × (length s.came < length n.came)
      by true e out on = absurd (false≢true (sym on ∙ all_ended (take to after)))
      by false e out on =
          let other : to ≡ left → ⊥ = eqb-false to left e in
          let some : 0 < length (slice left to after) = omega (arith, length-slice left to after h.room, h.within, other) in
          let next = follows w x s (slice left to after) h.came (rw (at_hand h) at out) (rw (at_hand h) at on) in
          rw (at_hand h) (next.0, omega (arith, next.1, some))
