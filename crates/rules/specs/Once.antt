-- Members' points 1 and 2: what an answer other than 0 leaves, and that no number is accepted twice. Proved in proofs/.
use Rattle.std.specs.Prelude.{◌≡◌, ℕ, ◌+◌, Bool, true, false, cond, not, ◌||◌, List, [], ◌∷◌, ◌++◌, length}
use Rattle.wire.specs.Form.{report_length}
use Rattle.rules.specs.Numbers.{is_accepted, is_refused}
use Rattle.rules.specs.Operands.{number_of}
use Rattle.rules.specs.Refusals.{is_start}
use Rattle.rules.specs.Runs.{Sent, Moment, answer_to, state_after, moment_of, moments, state_at_end, none_accepted}
use Rattle.rules.specs.declared.Answer.{Answer}
use Rattle.rules.specs.declared.Stm.{Stm}

-- ---- one command

-- "a refusal leaves the unit's state as it was", and again "nothing moves": the state changes at answers 0 only
abbrev pub StateChangesAtZeroOnly : Type 0
StateChangesAtZeroOnly = (stm : Stm) (x : Sent) → is_accepted (answer_to stm x) ≡ false → state_after stm x ≡ stm

-- the report area is "not at all" written when a command is refused,
abbrev pub RefusalLeavesArea : Type 0
RefusalLeavesArea = (stm : Stm) (x : Sent) → is_refused (answer_to stm x) ≡ true → (moment_of stm x).area ≡ x.area

-- and "written whole" when it is answered: with the report that the unit keeps
abbrev pub AnswerWritesReport : Type 0
AnswerWritesReport =
    (stm : Stm) (x : Sent) → is_refused (answer_to stm x) ≡ false → (moment_of stm x).area ≡ (state_after stm x).last.report

-- an accepted command sent again is again, with the same report, and nothing moves
abbrev pub SentAgainIsAgain : Type 0
SentAgainIsAgain =
    (stm : Stm) (x y : Sent)
    → is_accepted (answer_to stm x) ≡ true → y.command ≡ x.command → length y.area ≡ report_length
    → moment_of (state_after stm x) y ≡ record { answer = Answer.Again; area = (moment_of stm x).area; stm = state_after stm x }

-- and no other is: "number and bytes are those of the last accepted command", whatever was refused since
abbrev pub AgainIsTheLast : Type 0
AgainIsTheLast =
    (stm : Stm) (x : Sent) (ys : List Sent) (y : Sent)
    → is_accepted (answer_to stm x) ≡ true
    → none_accepted (λ before command. true) (state_after stm x) ys ≡ true
    → answer_to (state_at_end (state_after stm x) ys) y ≡ Answer.Again
    → y.command ≡ x.command

-- ---- any list of commands

-- the numbers of the accepted commands
unfoldable pub accepted_numbers : Stm → List Sent → List ℕ
accepted_numbers stm [] = []
accepted_numbers stm (x ∷ xs) =
    cond (is_accepted (answer_to stm x)) (number_of x.command ∷ accepted_numbers (state_after stm x) xs)
    (accepted_numbers (state_after stm x) xs)

-- "between starts": no start is accepted
abbrev pub BetweenStarts : Stm → List Sent → Type 0
BetweenStarts stm xs = none_accepted (λ before command. is_start command) stm xs ≡ true

-- numbers that follow one another upward from n
abbrev pub Follow : ℕ → List ℕ → Type 0
Follow n [] = Unit {0}
Follow n (m ∷ ms) = (m ≡ n + 1) × Follow m ms

abbrev pub NumbersFollow : Type 0
NumbersFollow =
    (stm : Stm) (xs : List Sent) → BetweenStarts stm xs → Follow (number_of stm.last.bytes) (accepted_numbers stm xs)

-- "Between starts no numbered report moves the train twice": no number is accepted twice
abbrev pub NoneAcceptedTwice : Type 0
NoneAcceptedTwice =
    (stm : Stm) (xs : List Sent) (before between after : List ℕ) (n : ℕ)
    → BetweenStarts stm xs → accepted_numbers stm xs ≡ before ++ (n ∷ between ++ (n ∷ after)) → ⊥

-- a run without some of its repeated and refused commands: `marks` says of each place whether it may be left out
abbrev pub is_left : Bool → Stm → Sent → Bool
is_left mark stm x = is_accepted (answer_to stm x) || not mark

unfoldable pub thinned : List Bool → Stm → List Sent → List Sent
thinned [] stm xs = xs
thinned (mark ∷ marks) stm [] = []
thinned (mark ∷ marks) stm (x ∷ xs) =
    cond (is_left mark stm x) (x ∷ thinned marks (state_after stm x) xs) (thinned marks (state_after stm x) xs)

-- the moments of the commands that remain, as they were in the whole run
unfoldable pub moments_left : List Bool → Stm → List Sent → List Moment
moments_left [] stm xs = moments stm xs
moments_left (mark ∷ marks) stm [] = []
moments_left (mark ∷ marks) stm (x ∷ xs) =
    cond (is_left mark stm x) (moment_of stm x ∷ moments_left marks (state_after stm x) xs) (moments_left marks (state_after stm x) xs)

-- leaving them out changes no answer, report or state that remains
abbrev pub LeavingOutChangesNothing : Type 0
LeavingOutChangesNothing =
    (marks : List Bool) (stm : Stm) (xs : List Sent)
    → (moments stm (thinned marks stm xs) ≡ moments_left marks stm xs)
    × (state_at_end stm (thinned marks stm xs) ≡ state_at_end stm xs)
