-- A loop that hands portions to a writer and puts each text behind those before it, for any writer whose texts have a width. Assumes nothing.
use Rattle.std.specs.Prelude.{None, Some}
use Prim.Native.Nat.{ℕ, suc, ◌+◌, ◌-◌, ◌*◌, ◌≤◌, ◌<◌}
use mathlib.Core.Path.{◌≡◌, refl, sym, ap, ap₂, subst, ◌∙◌}
use mathlib.Core.Bool.{Bool, true, false, cond}
use mathlib.Core.List.{List, [], ◌++◌, flatten}
use native.Mathlib.Nat.{sub-zero, suc-mul}
use native.Mathlib.Omega.{arith}
use lib.ListN.{length, take, drop, take-append-drop}
use lib.Seq.{length-take-le, drop-drop, take-append_seam}
use Rattle.wire.specs.Bytes.{placed}
use Rattle.portions.specs.declared.next.Portion.{Portion}
use Rattle.portions.specs.declared.telling.Handed.{Handed}
use Rattle.portions.specs.Told.{handed_to}
use Rattle.portions.specs.Portions.{next_portion, portion_length, is_last, Given, given, given_within, given_of, left_of}
use Rattle.portions.specs.Reads.{Writer, Standing, text_by, state_by, turn_of}
use Rattle.portions.proofs.Giving.{portion_fits}
use Rattle.portions.proofs.Handing.{Ahead, ahead_first, ahead_state, ahead_used, ahead_text, ahead_nothing, ahead_command, ahead_last}
use Rattle.portions.proofs.Rooms.{to_end, room_length, put_take, put_drop, put_length}

-- the part from a place on, as the code lends it: the bytes at hand, and the room
abbrev pub from_on : ℕ → List ℕ → List ℕ
from_on at s = take (length s - at) (drop at s)

-- nothing is ahead: what has come of all that was given
pub record AllHanded {X : Type 0} (w : Writer X) (x₀ : X) (whole : Given) (out₀ : List ℕ) (x : X) (used written : ℕ) (ended : Bool) (out : List ℕ) : Type 0 where
  pub state : state_by w x₀ whole.portions ≡ x
  pub bytes : length (flatten whole.portions) ≡ used
  pub texts : length (text_by w x₀ whole.portions) ≡ written
  pub end : whole.ended ≡ ended
  pub room : out ≡ placed (text_by w x₀ whole.portions) out₀

-- it is what `hand_on` answers
pub is_handed : {X : Type 0} {w : Writer X} {x₀ : X} {whole : Given} {out₀ : List ℕ} {x : X} {used written : ℕ} {e : Bool} {out : List ℕ}
    → AllHanded w x₀ whole out₀ x used written e out
    → ◌≡◌ {A = Handed X} (record { state = x; used = used; written = written; ended = e }) (handed_to w x₀ whole)
unfolding handed_to
is_handed h = rw (h.state, h.bytes, h.texts, h.end)

module _ {X : Type 0} (w : Writer X) (width : ℕ) (x₀ : X) (bytes out₀ : List ℕ) (all : Bool) (most : ℕ) where
  abbrev whole : Given
  whole = given_within most all bytes

  -- where the loop stands before its turn i: the texts so far stand at the front of the output, and behind them is room for as many of
  -- the widest as may still come
  pub record Stands (x : X) (used written i : ℕ) (out : List ℕ) : Type 0 where
    pub count : i ≤ most
    pub inside : used ≤ length bytes
    pub same : length out ≡ length out₀
    pub room : written + (most - i) * width ≤ length out₀
    pub behind : drop written out ≡ drop written out₀
    pub ahead : Ahead w x₀ whole x used (take written out) (given_within (most - i) all (drop used bytes))

  pub stands_first : most * width ≤ length out₀ → Stands x₀ 0 0 0 out₀
  stands_first h = record {
    count = omega arith;
    inside = omega arith;
    same = refl;
    room = rw (sub-zero most) (omega (arith, h));
    behind = refl;
    ahead = rw (sub-zero most) (ahead_first w x₀ whole);
  }

  handed : (x : X) (used written : ℕ) (e : Bool) (out : List ℕ)
      → Ahead w x₀ whole x used (take written out) (given [] e) → written ≤ length out → drop written out ≡ drop written out₀
      → AllHanded w x₀ whole out₀ x used written e out
  unfolding placed
  handed x used written e out a h behind =
      let text = ahead_text w x₀ whole x used (take written out) e a in
      let long : length (text_by w x₀ whole.portions) ≡ written = ap length text ∙ length-take-le written out h in record {
        state = ahead_state w x₀ whole x used (take written out) e a;
        bytes = ahead_used w x₀ whole x used (take written out) e a;
        texts = long;
        end = a.ended;
        room = sym (take-append-drop written out) ∙ ap₂ ◌++◌ (sym text) (behind ∙ ap (λ n. drop n out₀) (sym long));
      }

-- where the loop stands
module _ {X : Type 0} {w : Writer X} {width : ℕ} {x₀ : X} {bytes out₀ : List ℕ} {all : Bool} {most : ℕ} {x : X} {used written i : ℕ} {out : List ℕ}
    (s : Stands w width x₀ bytes out₀ all most x used written i out) where
  -- as many portions are given as may be
  pub handed_most : most ≤ i → AllHanded w x₀ (given_within most all bytes) out₀ x used written false out
  unfolding given_within
  handed_most h =
      let none : most - i ≡ 0 = omega (arith, h) in
      handed w width x₀ bytes out₀ all most x used written false out
      (subst (λ k. Ahead w x₀ (given_within most all bytes) x used (take written out) (given_within k all (drop used bytes))) none s.ahead)
      (omega (arith, s.room, s.same)) s.behind

  module _ (in_loop : i < most) where
    one : most - i ≡ suc (most - (i + 1))
    one = omega arith

    -- the room that is left, for one text and for those after it
    wide : (most - i) * width ≡ (most - (i + 1)) * width + width
    wide = ap (λ k. k * width) one ∙ suc-mul (most - (i + 1)) width

    pub has_room : width ≤ length (from_on written out)
    has_room =
        let l = room_length written out in
        let k = wide in omega (arith, s.room, s.same, l, k)

    -- no portion is left
    pub handed_all : next_portion all (from_on used bytes) ≡ None → AllHanded w x₀ (given_within most all bytes) out₀ x used written all out
    handed_all none =
        handed w width x₀ bytes out₀ all most x used written all out
        (ahead_nothing w x₀ (given_within most all bytes) (most - i) (most - (i + 1)) one all bytes used x (take written out) s.ahead
        (rw (to_end used bytes) at none))
        (omega (arith, s.room, s.same)) s.behind

    module _ (p : Portion) (which : next_portion all (from_on used bytes) ≡ Some p) where
      pub portion_within : portion_length p ≤ length (from_on used bytes)
      portion_within = rw which at (portion_fits all (from_on used bytes))

      pub used_within : used + portion_length p ≤ length bytes
      used_within =
          let n = portion_within in
          let long = room_length used bytes in omega (arith, n, long, s.inside)

    -- a portion is told as the writer does in the room that is left, which is wide enough: the state that comes of it, the bytes written, and
    -- the room as it comes back
    module _ (v : Writer X) (alike : (x : X) (p : List ℕ) → (v.next x p ≡ w.next x p) × (v.text x p ≡ w.text x p))
        (p : Portion) (n : ℕ) (next : X) (told : ℕ) (part : List ℕ) (which : next_portion all (from_on used bytes) ≡ Some p) (long : n ≡ portion_length p)
        (called : next ≡ v.next x (take n (from_on used bytes))) (counted : told ≡ length (v.text x (take n (from_on used bytes)))) (narrow : told ≤ width)
        (put : part ≡ placed (v.text x (take n (from_on used bytes))) (from_on written out)) where
      abbrev rest : List ℕ
      rest = drop used bytes

      abbrev portion : List ℕ
      portion = take (portion_length p) rest

      abbrev text : List ℕ
      text = w.text x portion

      abbrev pub after : List ℕ
      after = take written out ++ (part ++ drop (length out - written) (drop written out))

      is_portion : take n (from_on used bytes) ≡ portion
      is_portion = rw (long, to_end used bytes)

      is_text : v.text x (take n (from_on used bytes)) ≡ text
      is_text = (alike x (take n (from_on used bytes))).1 ∙ ap (w.text x) is_portion

      is_told : told ≡ length text
      is_told = counted ∙ ap length is_text

      within : written + length text ≤ length out
      within =
          let t = is_told in
          let k = wide in omega (arith, t, k, narrow, s.room, s.same)

      is_put : part ≡ placed text (from_on written out)
      is_put = put ∙ ap (λ t. placed t (from_on written out)) is_text

      pub told_same : length after ≡ length out₀
      told_same = put_length written out text part within is_put ∙ s.same

      behind_after : drop (written + told) after ≡ drop (written + told) out₀
      behind_after =
          rw is_told
          (put_drop written out text part within is_put
          ∙ sym (drop-drop (length text) written out) ∙ ap (drop (length text)) s.behind ∙ drop-drop (length text) written out₀)

      front_after : take (written + told) after ≡ take written out ++ text
      front_after = rw is_told (put_take written out text part within is_put)

      is_which : next_portion all rest ≡ Some p
      is_which = rw (to_end used bytes) at which

      is_next_lem : next ≡ w.next x portion
      is_next_lem = called ∙ (alike x (take n (from_on used bytes))).0 ∙ ap (w.next x) is_portion

      -- and the loop goes on
      pub stands_next : is_last p ≡ false → Stands w width x₀ bytes out₀ all most next (used + n) (written + told) (i + 1) after
      stands_next more = record {
        count = omega (arith, in_loop);
        inside = let u = used_within p which in omega (arith, u, long);
        same = told_same;
        room = let k = wide in omega (arith, narrow, k, s.room);
        behind = behind_after;
        ahead =
            rw (is_next_lem, long, front_after)
            (ahead_command w x₀ (given_within most all bytes) (most - i) (most - (i + 1)) one all bytes used x (take written out) s.ahead p is_which more);
      }

      -- or it was the last
      pub handed_last : is_last p ≡ true → AllHanded w x₀ (given_within most all bytes) out₀ next (used + n) (written + told) true after
      handed_last end =
          handed w width x₀ bytes out₀ all most next (used + n) (written + told) true after
          (rw (is_next_lem, long, front_after)
          (ahead_last w x₀ (given_within most all bytes) (most - i) (most - (i + 1)) one all bytes used x (take written out) s.ahead p is_which end))
          (let same = told_same in let k = wide in omega (arith, same, narrow, k, s.room)) behind_after

-- a turn of a program is what `hand_on` answers, whatever stood in the room for output
pub turn_is_handed : {X : Type 0} (w : Writer X) (s : Standing X) (all : Bool) (bytes room : List ℕ)
    → let handed = handed_to w s.state (given_of all bytes) in
    turn_of w all bytes s ≡ record {
      state = handed.state;
      left = cond handed.ended [] (drop handed.used bytes);
      written = s.written ++ take handed.written (placed (text_by w s.state (given_of all bytes).portions) room);
      ended = handed.ended;
    }
unfolding turn_of handed_to placed left_of
turn_is_handed w s all bytes room =
    let text = text_by w s.state (given_of all bytes).portions in
    rw (take-append_seam text (drop (length text) room))
