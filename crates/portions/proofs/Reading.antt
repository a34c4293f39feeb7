-- A stream in reads: however it is cut, the program stands where it would stand had it come in one. Assumes nothing.
use Prim.Native.Nat.{ℕ, suc}
use mathlib.Core.Path.{◌≡◌, refl, sym, ap, ◌∙◌}
use mathlib.Core.Bool.{Bool, true, false, cond}
use mathlib.Core.List.{List, [], ◌∷◌, ◌++◌, append_assoc, append-nil, flatten}
use native.Mathlib.Omega.{arith}
use lib.ListN.{length}
use Rattle.portions.specs.Claims.{CutAnyhow, EndedAnyhow, WrittenIsABeginning}
use Rattle.portions.specs.Portions.{given_of, left_of, portions_of}
use Rattle.portions.specs.Reads.{Writer, text_by, state_by, at_first, turn_of, after_read, after_reads, after_end}
use Rattle.portions.proofs.Giving.{given_over, given_joined, left_joined, empty_ends, all_ended}

module _ {X : Type 0} (w : Writer X) where
  pub text_joined : (x : X) (ps qs : List (List ℕ)) → text_by w x (ps ++ qs) ≡ text_by w x ps ++ text_by w (state_by w x ps) qs
  unfolding text_by state_by
  text_joined x [] qs = refl
  text_joined x (p ∷ ps) qs = rw (text_joined (w.next x p) ps qs, append_assoc)

  pub state_joined : (x : X) (ps qs : List (List ℕ)) → state_by w x (ps ++ qs) ≡ state_by w (state_by w x ps) qs
  unfolding state_by
  state_joined x [] qs = refl
  state_joined x (p ∷ ps) qs = state_joined (w.next x p) ps qs

  over : (x : X) (all : Bool) (s t : List ℕ) → (given_of false s).ended ≡ true → turn_of w false s (at_first x) ≡ turn_of w all (s ++ t) (at_first x)
  unfolding turn_of
  over x all s t e = rw (given_over (suc (length s)) all s t (omega arith) e, e)

  go_on : (x : X) (all : Bool) (s t : List ℕ) → (given_of false s).ended ≡ false
      → turn_of w all (left_of false s ++ t) (turn_of w false s (at_first x)) ≡ turn_of w all (s ++ t) (at_first x)
  unfolding turn_of
  go_on x all s t e =
      let ps = (given_of false s).portions in
      let qs = (given_of all (left_of false s ++ t)).portions in
      rw (
        left_joined all s t e,
        given_joined (suc (length s)) all s t (omega arith) e,
        state_joined x ps qs,
        text_joined x ps qs,
      )

  -- a turn more, with the bytes of a read or at the end
  step : (x : X) (all : Bool) (s t : List ℕ) (b : Bool) → (given_of false s).ended ≡ b
      → cond b (turn_of w false s (at_first x)) (turn_of w all (cond b [] (left_of false s) ++ t) (turn_of w false s (at_first x)))
      ≡ turn_of w all (s ++ t) (at_first x)
  step x all s t true e = over x all s t e
  step x all s t false e = go_on x all s t e

  at_first_lem : (x : X) → at_first x ≡ turn_of w false [] (at_first x)
  unfolding turn_of left_of text_by state_by flatten
  at_first_lem x = rw (empty_ends false)

  read_step : (x : X) (s t : List ℕ) → after_read w (turn_of w false s (at_first x)) t ≡ turn_of w false (s ++ t) (at_first x)
  unfolding after_read turn_of
  read_step x s t = step x false s t (given_of false s).ended refl

  end_step : (x : X) (s : List ℕ) → after_end w (turn_of w false s (at_first x)) ≡ turn_of w true s (at_first x)
  unfolding after_end turn_of
  end_step x s =
      let ended = (given_of false s).ended in
      let one = turn_of w false s (at_first x) in
      ap (λ l. cond ended one (turn_of w true l one)) (sym (append-nil (cond ended [] (left_of false s))))
      ∙ step x true s [] ended refl ∙ ap (λ l. turn_of w true l (at_first x)) (append-nil s)

  reads_from : (x : X) (s : List ℕ) (reads : List (List ℕ))
      → after_reads w (turn_of w false s (at_first x)) reads ≡ turn_of w false (s ++ flatten reads) (at_first x)
  unfolding after_reads after_read flatten
  reads_from x s [] = rw (append-nil s)
  reads_from x s (read ∷ reads) =
      ap (λ st. after_reads w st reads) (read_step x s read) ∙ reads_from x (s ++ read) reads
      ∙ ap (λ l. turn_of w false l (at_first x)) (append_assoc s read (flatten reads))

pub cut_anyhow : CutAnyhow
cut_anyhow X w x reads = ap (λ st. after_reads w st reads) (at_first_lem w x) ∙ reads_from w x [] reads

pub ended_anyhow : EndedAnyhow
unfolding turn_of
ended_anyhow X w x reads =
    let whole = ap (after_end w) (cut_anyhow X w x reads) ∙ end_step w x (flatten reads) in
    (whole, ap (λ st. st.written) whole, ap (λ st. st.ended) whole ∙ all_ended (flatten reads))

begins : {X : Type 0} (w : Writer X) (x : X) (s t : List ℕ) (b : Bool) → (given_of false s).ended ≡ b
    → (more : List ℕ) × (text_by w x (portions_of (s ++ t)) ≡ text_by w x (given_of false s).portions ++ more)
begins w x s t true e = ([], ap (λ g. text_by w x g.portions) (given_over (suc (length s)) true s t (omega arith) e) ∙ sym (append-nil _))
begins w x s t false e =
    let ps = (given_of false s).portions in
    let qs = (given_of true (left_of false s ++ t)).portions in
    (text_by w (state_by w x ps) qs, ap (λ g. text_by w x g.portions) (given_joined (suc (length s)) true s t (omega arith) e) ∙ text_joined w x ps qs)

pub written_is_a_beginning : WrittenIsABeginning
unfolding turn_of
written_is_a_beginning X w x reads later = rw (cut_anyhow X w x reads) (begins w x (flatten reads) later (given_of false (flatten reads)).ended refl)
