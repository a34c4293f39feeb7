-- A command's form and the splitting of a stream go by the same lengths. Assumes nothing.
use Prim.Native.Nat.{ℕ, ◌+◌, ◌≤◌, ◌<◌}
use mathlib.Core.Path.{◌≡◌, refl, sym, ap, ◌∙◌}
use mathlib.Core.Bool.{Bool, true, false, cond, not}
use mathlib.Core.List.{List, ◌++◌, append_assoc}
use native.Mathlib.Omega.{arith}
use lib.Dec.{eqb, ltb}
use lib.ListN.{length, take, drop, length-append, take-append-drop, get_or-append}
use lib.Seq.{length-take-le, get_or-take}
use borrow.Author.Tests.{eqb-true, eqb-false, ltb-true, ltb-false, le-ltb, eq-eqb, ne_eqb, not-false}
use Rattle.std.specs.Prelude.{Option, None, Some, Ok, Err}
use Rattle.wire.specs.declared.form.FormError.{FormError}
use Rattle.wire.specs.declared.split.RestError.{RestError}
use Rattle.wire.specs.Codes.{length_of, shortest, longest}
use Rattle.wire.specs.Form.{code_form, form_of, code_refusal, refusal_to, refusal_of, report_length}
use Rattle.wire.specs.Numbers.{byte_at}
use Rattle.wire.specs.Split.{code_next, next_command, short_refusal, rest_refusal, next_refusal}
use Rattle.laws.proofs.Lists.{never, cond_first, cond_second}
use Rattle.wire.proofs.Table.{lengths_within}

code_form_whole : (l : Option ℕ) (n : ℕ) → code_form l n ≡ Ok tt → l ≡ Some n
unfolding code_form
code_form_whole None n e = absurd (never (cc))
code_form_whole (Some m) n e =
    ap Some (sym (eqb-true n m (cond_first (eqb n m) (Ok tt) (Err FormError.WrongLength) e (λ p. never (cc))).0))

-- a command of whole form has the right report area, and is as long as its code says
pub whole_area : (s : List ℕ) (area : ℕ) → form_of s area ≡ Ok tt → area ≡ report_length
unfolding form_of
whole_area s area e =
    eqb-true area report_length (not-false _ (cond_second (not (eqb area report_length)) (Err FormError.WrongArea) _ e (λ p. never (cc))).0)

pub whole_length : (s : List ℕ) (area : ℕ) → form_of s area ≡ Ok tt → length_of (byte_at s 0) ≡ Some (length s)
unfolding form_of
whole_length s area e =
    let p = cond_second (not (eqb area report_length)) (Err FormError.WrongArea) _ e (λ p. never (cc)) in
    let q = cond_second (eqb (length s) 0) (Err FormError.NoBytes) _ p.1 (λ p. never (cc)) in
    code_form_whole (length_of (byte_at s 0)) (length s) q.1

pub whole_five : (s : List ℕ) (area : ℕ) → form_of s area ≡ Ok tt → 5 ≤ length s
whole_five s area e = (lengths_within (byte_at s 0) (length s) (whole_length s area e)).0

pub length_whole : (s : List ℕ) → length_of (byte_at s 0) ≡ Some (length s) → form_of s report_length ≡ Ok tt
unfolding form_of code_form
length_whole s e =
    let h : 5 ≤ length s = (lengths_within (byte_at s 0) (length s) e).0 in
    simp (ne_eqb (length s) 0 (omega arith), e, eq-eqb (length s) (length s) refl)

code_next_command : (l : Option ℕ) (left : ℕ) {n : ℕ} → code_next l left ≡ Ok (Some n) → (l ≡ Some n) × (n ≤ left)
unfolding code_next
code_next_command None left e = absurd (never (cc))
code_next_command (Some m) left {n} e =
    let p = cond_second (ltb left m) (Err RestError.Short) (Ok (Some m)) e (λ q. never (cc)) in
    let m_n : m ≡ n = cc p.1 in
    (ap Some m_n, rw m_n at (ltb-false left m p.0))

-- a command that is split off a stream has the whole form
pub split_whole : (s : List ℕ) (n : ℕ) → next_command s ≡ Ok (Some n) → (n ≤ length s) × (form_of (take n s) report_length ≡ Ok tt)
unfolding next_command
split_whole s n e =
    let p = cond_second (eqb (length s) 0) (Ok None) _ e (λ q. never (cc)) in
    let (l, h) = code_next_command (length_of (byte_at s 0)) (length s) p.1 in
    let k : 5 ≤ n = (lengths_within (byte_at s 0) n l).0 in
    (h, length_whole (take n s) (rw (get_or-take n s 0 0 (omega arith), length-take-le n s h) l))

-- and one of whole form is split off whatever follows it
pub whole_split : (s rest : List ℕ) (area : ℕ) → form_of s area ≡ Ok tt → next_command (s ++ rest) ≡ Ok (Some (length s))
unfolding next_command code_next
whole_split s rest area e =
    let h : 5 ≤ length s = whole_five s area e in
    let first : byte_at (s ++ rest) 0 ≡ byte_at s 0 = get_or-append s rest 0 0 (omega arith) in
    let some_bytes = ne_eqb (length s + length rest) 0 (omega arith) in
    let enough = le-ltb (length s + length rest) (length s) (omega arith) in
    rw (length-append, first, whole_length s area e, some_bytes, enough)

-- a command at the front stays the next one whatever comes later, and so does a byte that is no code
pub command_stays : (s t : List ℕ) (n : ℕ) → next_command s ≡ Ok (Some n) → next_command (s ++ t) ≡ Ok (Some n)
command_stays s t n e =
    let (h, whole) = split_whole s n e in
    let parts : take n s ++ (drop n s ++ t) ≡ s ++ t = sym (append_assoc (take n s) (drop n s) t) ∙ ap (λ l. l ++ t) (take-append-drop n s) in
    rw (sym parts) (whole_split (take n s) (drop n s ++ t) report_length whole ∙ ap (λ k. Ok (Some k)) (length-take-le n s h))

code_next_no_code : (l : Option ℕ) (left : ℕ) → code_next l left ≡ (Err RestError.NoCode) → l ≡ None
unfolding code_next
code_next_no_code None left e = refl
code_next_no_code (Some m) left e =
    absurd (never (cc (cond_second (ltb left m) (Err RestError.Short) (Ok (Some m)) e (λ q. never (cc))).1))

pub no_code_first : (s : List ℕ) → next_command s ≡ (Err RestError.NoCode) → (1 ≤ length s) × (length_of (byte_at s 0) ≡ None)
unfolding next_command
no_code_first s e =
    let p = cond_second (eqb (length s) 0) (Ok None) _ e (λ q. never (cc)) in
    let some_bytes = eqb-false (length s) 0 p.0 in
    (omega (arith, some_bytes), code_next_no_code (length_of (byte_at s 0)) (length s) p.1)

pub no_code_stays : (s t : List ℕ) → next_command s ≡ (Err RestError.NoCode) → next_command (s ++ t) ≡ (Err RestError.NoCode)
unfolding next_command code_next
no_code_stays s t e =
    let (h, no_code) = no_code_first s e in
    let first : byte_at (s ++ t) 0 ≡ byte_at s 0 = get_or-append s t 0 0 (omega arith) in
    rw (length-append, first, no_code, ne_eqb (length s + length t) 0 (omega arith))

-- a command that is not whole yet is shorter than the longest
code_next_short : (l : Option ℕ) (left : ℕ) → code_next l left ≡ (Err RestError.Short) → (n : ℕ) × (l ≡ Some n) × (left < n)
unfolding code_next
code_next_short None left e = absurd (never (cc))
code_next_short (Some m) left e =
    (m, refl, ltb-true left m (cond_first (ltb left m) (Err RestError.Short) (Ok (Some m)) e (λ q. never (cc))).0)

pub short_length : (s : List ℕ) → next_command s ≡ (Err RestError.Short) → (1 ≤ length s) × (length s < longest)
unfolding next_command
short_length s e =
    let p = cond_second (eqb (length s) 0) (Ok None) _ e (λ q. never (cc)) in
    let (n, l, h) = code_next_short (length_of (byte_at s 0)) (length s) p.1 in
    let some_bytes = eqb-false (length s) 0 p.0 in
    (omega (arith, some_bytes), omega (arith, (lengths_within (byte_at s 0) n l).1))

code_next_end : (l : Option ℕ) (left : ℕ) → code_next l left ≡ (Ok None) → ⊥
unfolding code_next
code_next_end None left e = never (cc)
code_next_end (Some m) left e = never (cc (cond_second (ltb left m) (Err RestError.Short) (Ok (Some m)) e (λ q. never (cc))).1)

pub end_length : (s : List ℕ) → next_command s ≡ (Ok None) → length s ≡ 0
unfolding next_command code_next
end_length s e = eqb-true (length s) 0 (cond_first (eqb (length s) 0) (Ok None) _ e (λ q. code_next_end (length_of (byte_at s 0)) (length s) q)).0

pub command_length : (s : List ℕ) (n : ℕ) → next_command s ≡ Ok (Some n) → (shortest ≤ n) × (n ≤ length s)
unfolding next_command
command_length s n e =
    let p = cond_second (eqb (length s) 0) (Ok None) _ e (λ q. never (cc)) in
    let (l, h) = code_next_command (length_of (byte_at s 0)) (length s) p.1 in
    ((lengths_within (byte_at s 0) n l).0, h)

-- a case of `Form` has 01's number of the first refusal that applies
code_number_lem : (l : Option ℕ) (n : ℕ) → refusal_of (code_form l n) ≡ code_refusal l n
unfolding code_form code_refusal refusal_of
code_number_lem None n = refl
code_number_lem (Some m) n = by (eqb n m)
  where
    by : (t : Bool) → refusal_of (cond t (Ok tt) (Err FormError.WrongLength)) ≡ cond t None (Some 4)
    by true = refl
    by false = refl

form_by : (t u : Bool) (l : Option ℕ) (n : ℕ)
    → refusal_of (cond t (Err FormError.WrongArea) (cond u (Err FormError.NoBytes) (code_form l n))) ≡ cond t (Some 1) (cond u (Some 2) (code_refusal l n))
unfolding refusal_of
form_by true u l n = refl
form_by false true l n = refl
form_by false false l n = code_number_lem l n

pub form_number : (s : List ℕ) (area : ℕ) → refusal_of (form_of s area) ≡ refusal_to s area
unfolding form_of refusal_to
form_number s area = form_by (not (eqb area report_length)) (eqb (length s) 0) (length_of (byte_at s 0)) (length s)

-- and so has a case of `Next`
short_number : (l : Option ℕ) (n : ℕ) → next_refusal (code_next l n) ≡ short_refusal l n
unfolding code_next short_refusal next_refusal
short_number None n = refl
short_number (Some m) n = by (ltb n m)
  where
    by : (t : Bool) → next_refusal (cond t (Err RestError.Short) (Ok (Some m))) ≡ cond t (Some 4) None
    by true = refl
    by false = refl

next_by_lem : (t : Bool) (l : Option ℕ) (n : ℕ) → next_refusal (cond t (Ok None) (code_next l n)) ≡ cond t None (short_refusal l n)
unfolding next_refusal
next_by_lem true l n = refl
next_by_lem false l n = short_number l n

pub next_number_lem : (s : List ℕ) → next_refusal (next_command s) ≡ rest_refusal s
unfolding next_command rest_refusal
next_number_lem s = next_by_lem (eqb (length s) 0) (length_of (byte_at s 0)) (length s)

code_refused : (l : Option ℕ) (n r : ℕ) → next_refusal (code_next l n) ≡ Some r → refusal_of (code_form l n) ≡ Some r
unfolding code_next code_form next_refusal refusal_of
code_refused None n r e = e
code_refused (Some m) n r e = by (ltb n m) refl
  where
    by : (t : Bool) → ltb n m ≡ t → refusal_of (cond (eqb n m) (Ok tt) (Err FormError.WrongLength)) ≡ Some r
    by true t = let h : n < m = ltb-true n m t in rw (ne_eqb n m (omega arith)) (rw t at e)
    by false t = let z : None ≡ Some r = rw t at e in absurd (never (cc))

rest_by : (t : Bool) (l : Option ℕ) (n r : ℕ)
    → next_refusal (cond t (Ok None) (code_next l n)) ≡ Some r → refusal_of (cond t (Err FormError.NoBytes) (code_form l n)) ≡ Some r
unfolding next_refusal
rest_by true l n r e = absurd (never (cc))
rest_by false l n r e = code_refused l n r e

-- a refusal of a stream is the refusal that the whole rest gets as a command
pub rest_refused : (s : List ℕ) (r : ℕ) → next_refusal (next_command s) ≡ Some r → refusal_of (form_of s report_length) ≡ Some r
unfolding next_command form_of
rest_refused s r e = rest_by (eqb (length s) 0) (length_of (byte_at s 0)) (length s) r e
