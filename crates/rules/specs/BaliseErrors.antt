-- Bit 9 over runs (02, F-2, "Holding after a balise error at low speed"; 01, "Causes and release"). Proved in proofs/.
use Rattle.std.specs.Prelude.{◌≡◌, ℕ, ◌+◌, ◌*◌, ◌≤◌, ◌<◌, min, Bool, true, false, ◌||◌, List, eqb, length}
use Rattle.wire.specs.Report.{offered_in}
use Rattle.rules.specs.Numbers.{bit_number, is_accepted}
use Rattle.rules.specs.Operands.{bit_of}
use Rattle.rules.specs.Table.{stands}
use Rattle.rules.specs.Runs.{Sent, answer_to, state_after, state_at_end, none_accepted, is_of, freshens}
use Rattle.rules.specs.History.{Tells, speed_of, button_of, is_in, is_supervised, collected}
use Rattle.rules.specs.Columns.{IsLow}
use Rattle.rules.specs.declared.Code.{Code}
use Rattle.rules.specs.declared.State.{State}
use Rattle.rules.specs.declared.Cause.{Cause}
use Rattle.rules.specs.declared.Hold.{Hold}
use Rattle.rules.specs.declared.Stm.{Stm}

-- ---- an error, and what follows it

-- a start and CS drop how bit 9 is held, and 32 decides it anew
abbrev pub resets_hold : Stm → List ℕ → Bool
resets_hold before command = freshens command || is_of Code.BaliseError command

-- 32 is accepted at x, and no further 32, no start and no CS over ys
pub record Reported (stm : Stm) (x : Sent) (ys : List Sent) : Type 0 where
  pub accepted : is_accepted (answer_to stm x) ≡ true
  pub error : is_of Code.BaliseError x.command ≡ true
  pub last : none_accepted resets_hold (state_after stm x) ys ≡ true

-- "v was at or below 80 km/h when the error was reported": the last odometer figure, which the unit that 32 finds keeps, is low; "v was
-- above": it is high
abbrev pub IsHigh : ℕ → Type 0
IsHigh v = 250 * 80 < 9 * v

-- how many further reports there are: accepted, in DA
abbrev pub reports_over : Stm → List Sent → ℕ
reports_over stm xs = length (collected is_supervised (λ before x. x) stm xs)

-- bit 9 stands
abbrev pub BaliseStands : Stm → Type 0
BaliseStands stm = stands stm.brakes.causes Cause.BaliseFault ≡ true

-- a report in DA with a fresh press of LOSS, which does not lead to FA
pub record Presses (stm : Stm) (z : Sent) : Type 0 where
  pub accepted : is_accepted (answer_to stm z) ≡ true
  pub supervised : is_supervised stm z.command ≡ true
  pub loss : button_of 0 z.command ≡ true
  pub fresh : stm.kept.loss ≡ false
  pub sound : (state_after stm z).brakes.failed ≡ false

-- ---- bit 9

-- after an error at low speed it stands through every list with fewer than 20 further reports, whatever is pressed and even at rest;
abbrev pub LowErrorHolds : Type 0
LowErrorHolds =
    (stm : Stm) (x : Sent) (ys : List Sent)
    → Reported stm x ys → IsLow stm.kept.speed
    → reports_over (state_after stm x) ys < 20
    → BaliseStands (state_at_end (state_after stm x) ys)

-- the 20th, and any later one, with a fresh LOSS drops it at any speed
abbrev pub LowErrorEnds : Type 0
LowErrorEnds =
    (stm : Stm) (x : Sent) (ys : List Sent) (z : Sent)
    → Reported stm x ys → IsLow stm.kept.speed
    → let last = state_at_end (state_after stm x) ys in
    20 ≤ reports_over (state_after stm x) ys + 1 → Presses last z
    → stands (state_after last z).brakes.causes Cause.BaliseFault ≡ false

-- after one at high speed "the old rule stands", with no count: it is there at once, and where it stands still, a report with a fresh
-- LOSS, the first or any other, leaves it exactly if its own speed is above 80 km/h
abbrev pub HighErrorGoesBySpeed : Type 0
HighErrorGoesBySpeed =
    (stm : Stm) (x : Sent) (ys : List Sent) (z : Sent)
    → Reported stm x ys → IsHigh stm.kept.speed
    → let last = state_at_end (state_after stm x) ys in
    BaliseStands (state_after stm x)
    × (BaliseStands last → Presses last z
    → Tells (stands (state_after last z).brakes.causes Cause.BaliseFault) (IsHigh (speed_of z.command)))

-- ---- what goes by it

-- bit 11 asks for "all others": before the 20th report none drops it after an error at low speed
abbrev pub ServiceFaultWaits : Type 0
ServiceFaultWaits =
    (stm : Stm) (x : Sent) (ys : List Sent) (z : Sent)
    → Reported stm x ys → IsLow stm.kept.speed
    → let last = state_at_end (state_after stm x) ys in
    reports_over (state_after stm x) ys + 1 < 20
    → is_accepted (answer_to last z) ≡ true → is_supervised last z.command ≡ true
    → stands last.brakes.causes Cause.ServiceFault ≡ true
    → stands (state_after last z).brakes.causes Cause.ServiceFault ≡ true

-- bit 9 is releasable, by the speed v at the error, the number of further reports and the last speed w
pub record HoldEnded (v reports w : ℕ) : Type 0 where
  pub low : IsLow v → 20 ≤ reports
  pub high : IsHigh v → IsLow w

-- no cause stands but bit 9, or bits 9 and 10
abbrev pub StandsAlone : Stm → Type 0
StandsAlone stm =
    (other : Cause) → stands stm.brakes.causes other ≡ true
    → (eqb (bit_number other) 9 || eqb (bit_number other) 10) ≡ true

-- the offered byte of the last report: LOSS is offered where bit 9 stands and is releasable; where it stands alone, nowhere else. So an
-- error takes an offer back: with no report after it bit 9 is not releasable
abbrev pub OfferFollowsError : Type 0
OfferFollowsError =
    (stm : Stm) (x : Sent) (ys : List Sent)
    → Reported stm x ys
    → let last = state_at_end (state_after stm x) ys in
    let free = HoldEnded stm.kept.speed (reports_over (state_after stm x) ys) last.kept.speed in
    (is_in State.DA last ≡ true → BaliseStands last → free → bit_of 0 (offered_in last.last.report) ≡ true)
    × (StandsAlone last → bit_of 0 (offered_in last.last.report) ≡ true → free)

-- ---- the count

-- from any unit, in whatever state it is: the further reports in DA count, and nothing else does, no report in HS, no refused one and no
-- repeat
abbrev pub ReportsInDACount : Type 0
ReportsInDACount =
    (stm : Stm) (xs : List Sent) (count : ℕ)
    → stm.brakes.since.balise ≡ Hold.Low count → count ≤ 20
    → none_accepted resets_hold stm xs ≡ true
    → (state_at_end stm xs).brakes.since.balise ≡ Hold.Low (min 20 (count + reports_over stm xs))

-- where no error has decided yet (after a start and after CS: see Fresh), none is decided before one comes
abbrev pub NothingDecidedBefore : Type 0
NothingDecidedBefore =
    (stm : Stm) (xs : List Sent)
    → stm.brakes.since.balise ≡ Hold.Undecided
    → none_accepted (λ before command. is_of Code.BaliseError command) stm xs ≡ true
    → (state_at_end stm xs).brakes.since.balise ≡ Hold.Undecided

-- after an error at high speed nothing is counted
abbrev pub HighErrorCountsNothing : Type 0
HighErrorCountsNothing =
    (stm : Stm) (x : Sent) (ys : List Sent)
    → Reported stm x ys → IsHigh stm.kept.speed
    → (state_at_end (state_after stm x) ys).brakes.since.balise ≡ Hold.High
