-- Commands that were sent are the portions, and a stream ends as 01 says. Assumes nothing.
use Prim.Native.Nat.{ℕ}
use mathlib.Core.Path.{◌≡◌, refl, sym, ap, ◌∙◌}
use mathlib.Core.Bool.{Bool, true, false}
use mathlib.Core.List.Memᴰ
use mathlib.Core.List.{List, [], ◌∷◌, ◌++◌, append_assoc, flatten}
use native.Mathlib.Omega.{arith}
use lib.ListN.{length, take}
use lib.Seq.{take-append_seam, drop-append_seam, take-length, length-take-le, get_or-take}
use Rattle.std.specs.Prelude.{Result, Ok, Err, ⊤, Option, None, Some}
use Rattle.wire.specs.declared.form.FormError.{FormError}
use Rattle.wire.specs.declared.split.RestError.{RestError}
use Rattle.portions.specs.Claims.{CommandsGiven, NoCodeEnds, ShortWaits}
use Rattle.wire.specs.Form.{report_length, form_of, refusal_to, refusal_of}
use Rattle.wire.specs.Numbers.{byte_at}
use Rattle.portions.specs.Portions.{portion_at, next_portion, given, given_of}
use Rattle.wire.specs.Split.{code_next, next_command, next_refusal, rest_refusal}
use Rattle.laws.proofs.Lists.{never}
use Rattle.wire.proofs.Commands.{whole_split, form_number, next_number_lem, rest_refused, no_code_first}
use Rattle.portions.proofs.Giving.{next_portion_lem, given_nothing, given_command, given_last}

whole_of : (f : Result ⊤ FormError) → refusal_of f ≡ None → f ≡ Ok tt
unfolding refusal_of
whole_of (Err FormError.WrongArea) e = absurd (never (cc))
whole_of (Err FormError.NoBytes) e = absurd (never (cc))
whole_of (Err FormError.NoCode) e = absurd (never (cc))
whole_of (Err FormError.WrongLength) e = absurd (never (cc))
whole_of (Ok passed) e = refl

one_given : (all : Bool) (c rest : List ℕ) → refusal_to c report_length ≡ None
    → given_of all (c ++ rest) ≡ given (c ∷ (given_of all rest).portions) (given_of all rest).ended
one_given all c rest e =
    let whole = whole_of (form_of c report_length) (form_number c report_length ∙ e) in
    let next = next_portion_lem all (c ++ rest) (length c) (whole_split c rest report_length whole) in
    given_command all (c ++ rest) (length c) next ∙ rw (take-append_seam c rest, drop-append_seam c rest)

pub commands_given : CommandsGiven
unfolding flatten
commands_given all [] rest h = refl
commands_given all (c ∷ cs) rest h =
    rw (append_assoc c (flatten cs) rest)
    (one_given all c (flatten cs ++ rest) (h c (Memᴰ.head refl))
    ∙ ap (λ g. given (c ∷ g.portions) g.ended) (commands_given all cs rest (λ d m. h d (Memᴰ.tail m))))

no_code_of : (n : Result (Option ℕ) RestError) → next_refusal n ≡ Some 3 → n ≡ Err RestError.NoCode
unfolding next_refusal
no_code_of (Ok None) e = absurd (never (cc))
no_code_of (Err RestError.NoCode) e = refl
no_code_of (Err RestError.Short) e = absurd (never (cc))
no_code_of (Ok (Some n)) e = absurd (never (cc))

short_of : (n : Result (Option ℕ) RestError) → next_refusal n ≡ Some 4 → n ≡ Err RestError.Short
unfolding next_refusal
short_of (Ok None) e = absurd (never (cc))
short_of (Err RestError.NoCode) e = absurd (never (cc))
short_of (Err RestError.Short) e = refl
short_of (Ok (Some n)) e = absurd (never (cc))

-- a refusal of a rest is the refusal that it gets as a command, in 01's numbers
refused : (s : List ℕ) (r : ℕ) → rest_refusal s ≡ Some r → refusal_to s report_length ≡ Some r
refused s r e = sym (form_number s report_length) ∙ rest_refused s r (next_number_lem s ∙ e)

first_byte : (s : List ℕ) → next_command s ≡ Err RestError.NoCode → next_command (take 1 s) ≡ Err RestError.NoCode
unfolding next_command code_next
first_byte s e =
    let (h, no_code) = no_code_first s e in
    let one : length (take 1 s) ≡ 1 = length-take-le 1 s h in
    let first : byte_at (take 1 s) 0 ≡ byte_at s 0 = get_or-take 1 s 0 0 (omega arith) in
    rw (one, first, no_code)

pub no_code_ends : NoCodeEnds
unfolding next_portion portion_at next_refusal
no_code_ends all s e =
    let n = no_code_of (next_command s) (next_number_lem s ∙ e) in
    let f = first_byte s n in
    (given_last all s 1 (rw n), refused (take 1 s) 3 (sym (next_number_lem (take 1 s)) ∙ rw f))

pub short_waits : ShortWaits
unfolding next_portion portion_at
short_waits s e =
    let n = short_of (next_command s) (next_number_lem s ∙ e) in
    (given_nothing false s (rw n), given_last true s (length s) (rw n) ∙ rw (take-length s), refused s 4 e)
