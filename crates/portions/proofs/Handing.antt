-- A loop that gives portions one after the other: what is behind it and what is ahead make up the whole. Assumes nothing.
use Rattle.std.specs.Prelude.{None, Some}
use Prim.Native.Nat.{ℕ, suc, ◌+◌}
use mathlib.Core.Path.{◌≡◌, refl, sym, subst, ◌∙◌}
use mathlib.Core.Bool.{Bool, true, false, false≢true}
use mathlib.Core.List.{List, [], ◌∷◌, ◌++◌, append_assoc, append-nil, flatten}
use native.Mathlib.Omega.{arith}
use lib.ListN.{length, take, drop, length-append}
use lib.Seq.{length-take-le, drop-drop}
use Rattle.portions.specs.declared.next.Portion.{Portion}
use Rattle.portions.specs.Portions.{next_portion, portion_length, is_last, Given, given, given_by, given_within}
use Rattle.portions.specs.Reads.{Writer, text_by, state_by}
use Rattle.portions.proofs.Giving.{portion_fits}

command_given : (p : Portion) (all : Bool) (rest : List ℕ) (g : Given) → is_last p ≡ false
    → given_by (Some p) all rest g ≡ given (take (portion_length p) rest ∷ g.portions) g.ended
unfolding given_by
command_given (Portion.Command n) all rest g more = refl
command_given (Portion.Last n) all rest g more = absurd (false≢true (sym more))

last_given : (p : Portion) (all : Bool) (rest : List ℕ) (g : Given) → is_last p ≡ true
    → given_by (Some p) all rest g ≡ given (take (portion_length p) rest ∷ []) true
unfolding given_by
last_given (Portion.Command n) all rest g end = absurd (false≢true end)
last_given (Portion.Last n) all rest g end = refl

-- from a state x on `whole` is given. So far `used` bytes are given and `text` is written for them; the state is y and `ahead` is left
pub record Ahead {X : Type 0} (w : Writer X) (x : X) (whole : Given) (y : X) (used : ℕ) (text : List ℕ) (ahead : Given) : Type 0 where
  pub state : state_by w x whole.portions ≡ state_by w y ahead.portions
  pub bytes : length (flatten whole.portions) ≡ used + length (flatten ahead.portions)
  pub texts : text_by w x whole.portions ≡ text ++ text_by w y ahead.portions
  pub ended : whole.ended ≡ ahead.ended

module _ {X : Type 0} (w : Writer X) (x : X) (whole : Given) where
  pub ahead_first : Ahead w x whole x 0 [] whole
  ahead_first = record { state = refl; bytes = omega arith; texts = refl; ended = refl }

  -- a portion more
  pub ahead_step : (y : X) (used : ℕ) (text : List ℕ) (p : List ℕ) (ps : List (List ℕ)) (e : Bool)
      → Ahead w x whole y used text (given (p ∷ ps) e)
      → Ahead w x whole (w.next y p) (used + length p) (text ++ w.text y p) (given ps e)
  unfolding text_by state_by flatten
  ahead_step y used text p ps e a = record {
    state = a.state;
    bytes = let l = length-append p (flatten ps) in omega (arith, a.bytes, l);
    texts = a.texts ∙ sym (append_assoc text (w.text y p) (text_by w (w.next y p) ps));
    ended = a.ended;
  }

  -- nothing more
  pub ahead_state : (y : X) (used : ℕ) (text : List ℕ) (e : Bool) → Ahead w x whole y used text (given [] e) → state_by w x whole.portions ≡ y
  unfolding state_by
  ahead_state y used text e a = a.state

  pub ahead_used : (y : X) (used : ℕ) (text : List ℕ) (e : Bool) → Ahead w x whole y used text (given [] e)
      → length (flatten whole.portions) ≡ used
  unfolding flatten
  ahead_used y used text e a = omega (arith, a.bytes)

  pub ahead_text : (y : X) (used : ℕ) (text : List ℕ) (e : Bool) → Ahead w x whole y used text (given [] e)
      → text_by w x whole.portions ≡ text
  unfolding text_by
  ahead_text y used text e a = a.texts ∙ append-nil text

-- the bytes at hand from `used` on, where one portion more may be given: by the next one
module _ {X : Type 0} (w : Writer X) (x : X) (whole : Given) (k m : ℕ) (one : k ≡ suc m) (all : Bool) (bytes : List ℕ) (used : ℕ) (y : X) (text : List ℕ)
    (a : Ahead w x whole y used text (given_within k all (drop used bytes))) where
  abbrev rest : List ℕ
  rest = drop used bytes

  pub ahead_nothing : next_portion all rest ≡ None → Ahead w x whole y used text (given [] all)
  unfolding given_within given_by
  ahead_nothing none = rw (one, none) at a

  module _ (p : Portion) (which : next_portion all rest ≡ Some p) where
    abbrev n : ℕ
    n = portion_length p

    long : length (take n rest) ≡ n
    long = length-take-le n rest (rw which at (portion_fits all rest))

    by_next : Ahead w x whole y used text (given_by (Some p) all rest (given_within m all (drop n rest)))
    unfolding given_within
    by_next = rw (one, which) at a

    step : (g : Given) → given_by (Some p) all rest (given_within m all (drop n rest)) ≡ given (take n rest ∷ g.portions) g.ended
        → Ahead w x whole (w.next y (take n rest)) (used + n) (text ++ w.text y (take n rest)) g
    step g e =
        let next = ahead_step w x whole y used text (take n rest) g.portions g.ended (subst (Ahead w x whole y used text) e by_next) in
        subst (λ i. Ahead w x whole (w.next y (take n rest)) (used + i) (text ++ w.text y (take n rest)) g) long next

    pub ahead_command : is_last p ≡ false
        → Ahead w x whole (w.next y (take n rest)) (used + n) (text ++ w.text y (take n rest)) (given_within m all (drop (used + n) bytes))
    ahead_command more =
        let g = given_within m all (drop n rest) in
        rw (sym (drop-drop n used bytes)) (step g (command_given p all rest g more))

    pub ahead_last : is_last p ≡ true
        → Ahead w x whole (w.next y (take n rest)) (used + n) (text ++ w.text y (take n rest)) (given [] true)
    ahead_last end = step (given [] true) (last_given p all rest (given_within m all (drop n rest)) end)
