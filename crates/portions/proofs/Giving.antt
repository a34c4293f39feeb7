-- The portions of a stream: none is lost, and bytes that come later change none of those that are given. Assumes nothing.
use Rattle.std.specs.Prelude.{Option, None, Some}
use Prim.Native.Nat.{ℕ, zero, suc, ◌+◌, ◌-◌, ◌*◌, ◌/◌, ◌≤◌, ◌<◌}
use Rattle.std.proofs.Math.Nat.{le-div_iff_mul-le}
use Rattle.portions.specs.Reads.{input_room}
use mathlib.Core.Path.{◌≡◌, refl, sym, ap, ◌∙◌}
use mathlib.Core.Bool.{Bool, true, false, false≢true}
use mathlib.Core.List.{List, [], ◌∷◌, ◌++◌, append_assoc, append-nil, flatten}
use native.Mathlib.Omega.{arith}
use lib.ListN.{length, take, drop, length-append, length-drop, take-append-drop}
use lib.Seq.{take-append-le, drop-append-le, drop-drop, length-take-le}
use Rattle.portions.specs.declared.next.Portion.{Portion}
use Rattle.std.specs.Prelude.{Option, None, Some, Result, Ok, Err}
use Rattle.wire.specs.declared.split.RestError.{RestError}
use Rattle.portions.specs.Claims.{NothingLost, EmptyEnds, AnyRoom, WaitsShort}
use Rattle.wire.specs.Codes.{shortest, longest}
use Rattle.portions.specs.Portions.{portion_at, next_portion, next_length, Given, given, given_by, given_within, given_of, left_of}
use Rattle.wire.specs.Split.{next_command}
use Rattle.laws.proofs.Lists.{never, flatten_joined}
use Rattle.wire.proofs.Commands.{command_stays, no_code_first, no_code_stays, short_length, end_length, command_length}

-- ---- the next portion

command_at : (all : Bool) (left : ℕ) (m : Result (Option ℕ) RestError) (n : ℕ) → portion_at all left m ≡ Some (Portion.Command n) → m ≡ Ok (Some n)
unfolding portion_at
command_at all left (Ok None) n e = absurd (never (cc))
command_at all left (Err RestError.NoCode) n e = absurd (never (cc))
command_at true left (Err RestError.Short) n e = absurd (never (cc))
command_at false left (Err RestError.Short) n e = absurd (never (cc))
command_at all left (Ok (Some k)) n e = let same : k ≡ n = cc e in ap (λ k. Ok (Some k)) same

-- a portion that is a command is the next one, and has its length
pub portion_next : (all : Bool) (s : List ℕ) (n : ℕ) → next_portion all s ≡ Some (Portion.Command n) → next_command s ≡ Ok (Some n)
unfolding next_portion
portion_next all s n e = command_at all (length s) (next_command s) n e

portion_within : (all : Bool) (s : List ℕ) (n : ℕ) → next_portion all s ≡ Some (Portion.Command n) → (shortest ≤ n) × (n ≤ length s)
portion_within all s n e = command_length s n (portion_next all s n e)

pub next_portion_lem : (all : Bool) (s : List ℕ) (n : ℕ) → next_command s ≡ Ok (Some n) → next_portion all s ≡ Some (Portion.Command n)
unfolding next_portion portion_at
next_portion_lem all s n e = rw e

-- ---- what is given, by the next portion

-- any number of portions that the bytes can't exceed gives all
pub enough : (m k : ℕ) (all : Bool) (s : List ℕ) → length s < m * shortest → length s < k * shortest
    → given_within m all s ≡ given_within k all s
unfolding given_within given_by
enough zero k all s h g = absurd (omega (arith, h))
enough (suc m) zero all s h g = absurd (omega (arith, g))
enough (suc m) (suc k) all s h g = by (next_portion all s) refl (λ n l r. enough m k all (drop n s) l r)
  where
    by : (p : Option Portion) → next_portion all s ≡ p
        → ((n : ℕ) → length (drop n s) < m * shortest → length (drop n s) < k * shortest
        → given_within m all (drop n s) ≡ given_within k all (drop n s))
        → given_by p all s (given_within m all (drop (next_length p) s)) ≡ given_by p all s (given_within k all (drop (next_length p) s))
    by None e more = refl
    by (Some (Portion.Command n)) e more =
        let (short, long) = portion_within all s n e in
        let left : length (drop n s) ≡ length s - n = length-drop n s in
        ap (given_by (Some (Portion.Command n)) all s) (more n (omega (arith, left)) (omega (arith, left)))
    by (Some (Portion.Last n)) e more = refl

pub given_nothing : (all : Bool) (s : List ℕ) → next_portion all s ≡ None → given_of all s ≡ given [] all
unfolding given_of given_within given_by
given_nothing all s e = rw e

pub given_command : (all : Bool) (s : List ℕ) (n : ℕ) → next_portion all s ≡ Some (Portion.Command n)
    → given_of all s ≡ given (take n s ∷ (given_of all (drop n s)).portions) (given_of all (drop n s)).ended
unfolding given_of given_within given_by
given_command all s n e =
    let (short, long) = portion_within all s n e in
    let left : length (drop n s) ≡ length s - n = length-drop n s in
    rw e (ap (given_by (Some (Portion.Command n)) all s)
    (enough (length s) (suc (length (drop n s))) all (drop n s) (omega (arith, left)) (omega (arith, left))))

pub given_last : (all : Bool) (s : List ℕ) (n : ℕ) → next_portion all s ≡ Some (Portion.Last n) → given_of all s ≡ given (take n s ∷ []) true
unfolding given_of given_within given_by
given_last all s n e = rw e

-- ---- bytes that come later

-- the cases of the bytes at hand, where more may come: a command that is not whole yet waits, a command and a byte that is no code are
-- given and stay so
pub data Seen (s : List ℕ) : Type 0 where
  waits : next_portion false s ≡ None → length s < longest → Seen s
  command : (n : ℕ) → shortest ≤ n → n ≤ length s → ((all : Bool) (t : List ℕ) → next_portion all (s ++ t) ≡ Some (Portion.Command n)) → Seen s
  no_code : 1 ≤ length s → ((all : Bool) (t : List ℕ) → next_portion all (s ++ t) ≡ Some (Portion.Last 1)) → Seen s

pub seen : (s : List ℕ) → Seen s
unfolding next_portion portion_at
seen s = by (next_command s) refl
  where
    by : (n : Result (Option ℕ) RestError) → next_command s ≡ n → Seen s
    by (Ok None) e = let h = end_length s e in waits (rw e) (omega (arith, h))
    by (Err RestError.NoCode) e = no_code (no_code_first s e).0 (λ all t. rw (no_code_stays s t e))
    by (Err RestError.Short) e = waits (rw e) (short_length s e).1
    by (Ok (Some n)) e =
        let (short, long) = command_length s n e in
        command n short long (λ all t. rw (command_stays s t n e))

alone : (s : List ℕ) (all : Bool) {p : Option Portion} → ((all : Bool) (t : List ℕ) → next_portion all (s ++ t) ≡ p) → next_portion all s ≡ p
alone s all e = rw (append-nil s) at (e all [])

-- what is not given after a command is what is not given of the bytes behind it
pub left_command : (all : Bool) (s : List ℕ) (n : ℕ) → next_portion all s ≡ Some (Portion.Command n) → left_of all s ≡ left_of all (drop n s)
unfolding left_of flatten
left_command all s n e =
    let more = flatten (given_of all (drop n s)).portions in
    let long = (portion_within all s n e).1 in
    let counted : length (take n s ++ more) ≡ n + length more = length-append (take n s) more ∙ ap (λ k. k + length more) (length-take-le n s long) in
    rw (given_command all s n e, counted) (sym (drop-drop (length more) n s))

pub left_nothing : (all : Bool) (s : List ℕ) → next_portion all s ≡ None → left_of all s ≡ s
unfolding left_of flatten
left_nothing all s e = rw (given_nothing all s e)

-- what is given before and after a read
abbrev pub joined : List (List ℕ) → Given → Given
joined portions g = given (portions ++ g.portions) g.ended

-- a stream that has ended gets no more
pub given_over : (k : ℕ) (all : Bool) (s t : List ℕ) → length s < k → (given_of false s).ended ≡ true → given_of all (s ++ t) ≡ given_of false s
given_over zero all s t h e = absurd (omega (arith, h))
given_over (suc k) all s t h e = by (seen s) (λ n g f. given_over k all (drop n s) t g f)
  where
    by : Seen s
        → ((n : ℕ) → length (drop n s) < k → (given_of false (drop n s)).ended ≡ true → given_of all (drop n s ++ t) ≡ given_of false (drop n s))
        → given_of all (s ++ t) ≡ given_of false s
    by (waits p short) more = absurd (false≢true (rw (given_nothing false s p) at e))
    by (command n short long p) more =
        let now = given_command false s n (alone s false p) in
        let left : length (drop n s) ≡ length s - n = length-drop n s in
        let rest = more n (omega (arith, left)) (rw now at e) in
        given_command all (s ++ t) n (p all t)
        ∙ rw (take-append-le n s t long, drop-append-le n s t long, rest) (sym now)
    by (no_code some p) more =
        given_last all (s ++ t) 1 (p all t) ∙ rw (take-append-le 1 s t some) (sym (given_last false s 1 (alone s false p)))

-- and otherwise the bytes that wait come first
pub given_joined : (k : ℕ) (all : Bool) (s t : List ℕ) → length s < k → (given_of false s).ended ≡ false
    → given_of all (s ++ t) ≡ joined (given_of false s).portions (given_of all (left_of false s ++ t))
given_joined zero all s t h e = absurd (omega (arith, h))
given_joined (suc k) all s t h e = by (seen s) (λ n g f. given_joined k all (drop n s) t g f)
  where
    by : Seen s
        → ((n : ℕ) → length (drop n s) < k → (given_of false (drop n s)).ended ≡ false
        → given_of all (drop n s ++ t) ≡ joined (given_of false (drop n s)).portions (given_of all (left_of false (drop n s) ++ t)))
        → given_of all (s ++ t) ≡ joined (given_of false s).portions (given_of all (left_of false s ++ t))
    by (waits p short) more = rw (given_nothing false s p, left_nothing false s p)
    by (command n short long p) more =
        let now = given_command false s n (alone s false p) in
        let left : length (drop n s) ≡ length s - n = length-drop n s in
        let rest = more n (omega (arith, left)) (rw now at e) in
        given_command all (s ++ t) n (p all t)
        ∙ rw (take-append-le n s t long, drop-append-le n s t long, rest, now, left_command false s n (alone s false p))
    by (no_code some p) more = absurd (false≢true (sym (rw (given_last false s 1 (alone s false p)) at e)))

-- ---- the promises

data Ways (all : Bool) (s : List ℕ) : Type 0 where
  nothing : next_portion all s ≡ None → Ways all s
  command : (n : ℕ) → next_portion all s ≡ Some (Portion.Command n) → Ways all s
  last : (n : ℕ) → n ≤ length s → next_portion all s ≡ Some (Portion.Last n) → Ways all s

ways : (all : Bool) (s : List ℕ) → Ways all s
unfolding next_portion portion_at
ways all s = by (next_command s) refl all
  where
    by : (n : Result (Option ℕ) RestError) → next_command s ≡ n → (all : Bool) → Ways all s
    by (Ok None) e all = nothing (rw e)
    by (Err RestError.NoCode) e all = last 1 (no_code_first s e).0 (rw e)
    by (Err RestError.Short) e true = last (length s) (omega arith) (rw e)
    by (Err RestError.Short) e false = nothing (rw e)
    by (Ok (Some n)) e all = command n (rw e)

pub portion_fits : (all : Bool) (s : List ℕ) → next_length (next_portion all s) ≤ length s
portion_fits all s = by (ways all s)
  where
    by : Ways all s → next_length (next_portion all s) ≤ length s
    by (nothing e) = rw e (omega arith)
    by (command n e) = rw e (portion_within all s n e).1
    by (last n long e) = rw e long

lost_within : (k : ℕ) (all : Bool) (s : List ℕ) → length s < k → flatten (given_of all s).portions ++ left_of all s ≡ s
unfolding flatten left_of
lost_within zero all s h = absurd (omega (arith, h))
lost_within (suc k) all s h = by (ways all s) (λ n g. lost_within k all (drop n s) g)
  where
    by : Ways all s
        → ((n : ℕ) → length (drop n s) < k → flatten (given_of all (drop n s)).portions ++ left_of all (drop n s) ≡ drop n s)
        → flatten (given_of all s).portions ++ left_of all s ≡ s
    by (nothing e) more = rw (given_nothing all s e)
    by (command n e) more =
        let left : length (drop n s) ≡ length s - n = length-drop n s in
        let (short, long) = portion_within all s n e in
        rw (left_command all s n e, given_command all s n e, append_assoc, more n (omega (arith, left)), take-append-drop)
    by (last n long e) more = rw (given_last all s n e, append-nil (take n s), length-take-le n s long, take-append-drop n s)

pub nothing_lost : NothingLost
nothing_lost all s = lost_within (suc (length s)) all s (omega arith)

-- so many bytes are given
pub given_bytes : (all : Bool) (s : List ℕ) → length (flatten (given_of all s).portions) ≤ length s
given_bytes all s =
    let whole = ap length (nothing_lost all s) in
    let parts = length-append (flatten (given_of all s).portions) (left_of all s) in omega (arith, whole, parts)

waits_within : (k : ℕ) (s : List ℕ) → length s < k → (given_of false s).ended ≡ false → length (left_of false s) < longest
waits_within zero s h e = absurd (omega (arith, h))
waits_within (suc k) s h e = by (seen s) (λ n g f. waits_within k (drop n s) g f)
  where
    by : Seen s
        → ((n : ℕ) → length (drop n s) < k → (given_of false (drop n s)).ended ≡ false → length (left_of false (drop n s)) < longest)
        → length (left_of false s) < longest
    by (waits p short) more = rw (left_nothing false s p) short
    by (command n short long p) more =
        let now = alone s false p in
        let left : length (drop n s) ≡ length s - n = length-drop n s in
        rw (left_command false s n now) (more n (omega (arith, left)) (rw (given_command false s n now) at e))
    by (no_code some p) more = absurd (false≢true (sym (rw (given_last false s 1 (alone s false p)) at e)))

pub waits_short : WaitsShort
waits_short s e = waits_within (suc (length s)) s (omega arith) e

portion_empty : (all : Bool) → next_portion all [] ≡ None
unfolding next_portion portion_at next_command
portion_empty all = refl

pub empty_ends : EmptyEnds
empty_ends all = given_nothing all [] (portion_empty all)

-- where no bytes come later, the stream ends
all_within : (k : ℕ) (s : List ℕ) → length s < k → (given_of true s).ended ≡ true
all_within zero s h = absurd (omega (arith, h))
all_within (suc k) s h = by (ways true s) (λ n g. all_within k (drop n s) g)
  where
    by : Ways true s → ((n : ℕ) → length (drop n s) < k → (given_of true (drop n s)).ended ≡ true) → (given_of true s).ended ≡ true
    by (nothing e) more = rw (given_nothing true s e)
    by (command n e) more =
        let left : length (drop n s) ≡ length s - n = length-drop n s in
        let (short, long) = portion_within true s n e in
        rw (given_command true s n e) (more n (omega (arith, left)))
    by (last n long e) more = rw (given_last true s n e)

pub all_ended : (s : List ℕ) → (given_of true s).ended ≡ true
all_ended s = all_within (suc (length s)) s (omega arith)

-- the bytes that are not given, before and after a read
pub left_joined : (all : Bool) (s t : List ℕ) → (given_of false s).ended ≡ false → left_of all (s ++ t) ≡ left_of all (left_of false s ++ t)
unfolding left_of
left_joined all s t e =
    let ps = (given_of false s).portions in
    let qs = (given_of all (left_of false s ++ t)).portions in
    let counted : length (flatten (ps ++ qs)) ≡ length (flatten ps) + length (flatten qs) =
    ap length (flatten_joined ps qs) ∙ length-append (flatten ps) (flatten qs) in
    let before : drop (length (flatten ps)) (s ++ t) ≡ left_of false s ++ t = drop-append-le (length (flatten ps)) s t (given_bytes false s) in
    rw (given_joined (suc (length s)) all s t (omega arith) e, counted)
    (sym (drop-drop (length (flatten qs)) (length (flatten ps)) (s ++ t)) ∙ ap (drop (length (flatten qs))) before)

within_nothing : (k : ℕ) (all : Bool) (s : List ℕ) → next_portion all s ≡ None → given_within (suc k) all s ≡ given [] all
unfolding given_within given_by
within_nothing k all s e = rw e

within_command : (k : ℕ) (all : Bool) (s : List ℕ) (n : ℕ) → next_portion all s ≡ Some (Portion.Command n)
    → given_within (suc k) all s ≡ given (take n s ∷ (given_within k all (drop n s)).portions) (given_within k all (drop n s)).ended
unfolding given_within given_by
within_command k all s n e = rw e

within_last : (k : ℕ) (all : Bool) (s : List ℕ) (n : ℕ) → next_portion all s ≡ Some (Portion.Last n) → given_within (suc k) all s ≡ given (take n s ∷ []) true
unfolding given_within given_by
within_last k all s n e = rw e

none_within : (all : Bool) (s : List ℕ) → false ≡ (given_within zero all s).ended
unfolding given_within
none_within all s = refl

no_portions : (all : Bool) (s : List ℕ) → (given_within zero all s).portions ≡ []
unfolding given_within
no_portions all s = refl

ended_within : (k : ℕ) (all : Bool) (s : List ℕ) → (given_within k all s).ended ≡ true → given_within k all s ≡ given_of all s
ended_within zero all s e = absurd (false≢true (none_within all s ∙ e))
ended_within (suc k) all s e = by (ways all s) (λ n f. ended_within k all (drop n s) f)
  where
    by : Ways all s → ((n : ℕ) → (given_within k all (drop n s)).ended ≡ true → given_within k all (drop n s) ≡ given_of all (drop n s))
        → given_within (suc k) all s ≡ given_of all s
    by (nothing p) more = within_nothing k all s p ∙ sym (given_nothing all s p)
    by (command n p) more =
        let now = within_command k all s n p in
        now ∙ rw (more n (rw now at e)) (sym (given_command all s n p))
    by (last n long p) more = within_last k all s n p ∙ sym (given_last all s n p)

-- what is not given yet within a bound
abbrev behind : ℕ → Bool → List ℕ → List ℕ
behind k all s = drop (length (flatten (given_within k all s).portions)) s

behind_command : (k : ℕ) (all : Bool) (s : List ℕ) (n : ℕ) → next_portion all s ≡ Some (Portion.Command n) → behind (suc k) all s ≡ behind k all (drop n s)
unfolding flatten
behind_command k all s n e =
    let more = flatten (given_within k all (drop n s)).portions in
    let long = (portion_within all s n e).1 in
    let counted : length (take n s ++ more) ≡ n + length more = length-append (take n s) more ∙ ap (λ i. i + length more) (length-take-le n s long) in
    rw (within_command k all s n e, counted) (sym (drop-drop (length more) n s))

goes_on : (k : ℕ) (all : Bool) (s : List ℕ) → (given_within k all s).ended ≡ false
    → given_of all s ≡ joined (given_within k all s).portions (given_of all (behind k all s))
unfolding flatten
goes_on zero all s e = rw (no_portions all s)
goes_on (suc k) all s e = by (ways all s) (λ n f. goes_on k all (drop n s) f)
  where
    by : Ways all s
        → ((n : ℕ) → (given_within k all (drop n s)).ended ≡ false
        → given_of all (drop n s) ≡ joined (given_within k all (drop n s)).portions (given_of all (behind k all (drop n s))))
        → given_of all s ≡ joined (given_within (suc k) all s).portions (given_of all (behind (suc k) all s))
    by (nothing p) more = rw (within_nothing k all s p)
    by (command n p) more =
        let now = within_command k all s n p in
        let rest = more n (rw now at e) in
        rw (behind_command k all s n p, now, given_command all s n p, rest)
    by (last n long p) more = absurd (false≢true (sym (rw (within_last k all s n p) at e)))

pub any_room : AnyRoom
any_room k all s = (ended_within k all s, goes_on k all s)

-- where there is room for as many texts as the input can hold commands, one for a rest and one to find no more, all that can be given is
pub all_has_room : (width room : ℕ) (all : Bool) (bytes : List ℕ) → 0 < width → (input_room / shortest + 2) * width ≤ room → length bytes ≤ input_room
    → given_within (room / width) all bytes ≡ given_of all bytes
unfolding given_of
all_has_room width room all bytes some h long =
    let (on, back) = le-div_iff_mul-le {k = width} {x = input_room / shortest + 2} {y = room} some in
    let many : input_room / shortest + 2 ≤ room / width = back h in
    enough (room / width) (suc (length bytes)) all bytes (omega (arith, many, long)) (omega arith)
