-- Bits 5, 6 and 8 over runs: "halted since", "10×measured ≥ 7×full deceleration once since", and that each command 30 starts its own
-- "since" again (01, "Causes and release"). Proved in proofs/.
use Rattle.std.specs.Prelude.{◌≡◌, ℕ, Bool, true, false, not, ◌||◌, List, eqb}
use Rattle.wire.specs.Report.{offered_in}
use Rattle.rules.specs.Numbers.{bit_number, is_accepted}
use Rattle.rules.specs.Operands.{bit_of}
use Rattle.rules.specs.Table.{stands}
use Rattle.rules.specs.Runs.{Sent, answer_to, state_after, state_at_end, none_accepted, freshens}
use Rattle.rules.specs.History.{is_halting, is_braking, passes_stop}
use Rattle.rules.specs.declared.Cause.{Cause}
use Rattle.rules.specs.declared.Since.{Since}
use Rattle.rules.specs.declared.Stm.{Stm}

-- a cause that command 30 with this operand orders, its note, and the reports that free it
pub record FreedSince (stop : ℕ) (cause : Cause) (note : Since → Bool) (frees : Stm → List ℕ → Bool) : Type 0 where
  -- after its command it stands, and nothing is noted
  pub ordered :
      (stm : Stm) (x : Sent)
      → is_accepted (answer_to stm x) ≡ true → passes_stop stop x.command ≡ true
      → (stands (state_after stm x).brakes.causes cause ≡ true) × (note (state_after stm x).brakes.since ≡ false)
  -- from there on it is noted exactly where a report that frees it has been accepted since
  pub noted :
      (stm : Stm) (x : Sent) (ys : List Sent)
      → is_accepted (answer_to stm x) ≡ true → passes_stop stop x.command ≡ true
      → none_accepted (λ before command. freshens command || passes_stop stop command) (state_after stm x) ys ≡ true
      → note (state_at_end (state_after stm x) ys).brakes.since ≡ not (none_accepted frees (state_after stm x) ys)
  -- before such a report it is not dropped, whatever is pressed,
  pub kept :
      (stm : Stm) (xs : List Sent)
      → stands stm.brakes.causes cause ≡ true → note stm.brakes.since ≡ false
      → none_accepted (λ before command. freshens command) stm xs ≡ true → none_accepted frees stm xs ≡ true
      → stands (state_at_end stm xs).brakes.causes cause ≡ true
  -- and where it stands alone, or with bit 10 only, no release by LOSS is offered
  pub unoffered :
      (stm : Stm) (x : Sent) (ys : List Sent)
      → is_accepted (answer_to stm x) ≡ true → passes_stop stop x.command ≡ true
      → none_accepted (λ before command. freshens command) (state_after stm x) ys ≡ true
      → none_accepted frees (state_after stm x) ys ≡ true
      → ((other : Cause) → stands (state_at_end (state_after stm x) ys).brakes.causes other ≡ true
      → (eqb (bit_number other) (bit_number cause) || eqb (bit_number other) 10) ≡ true)
      → bit_of 0 (offered_in (state_at_end (state_after stm x) ys).last.report) ≡ false

abbrev pub AimedStopWantsHalt : Type 0
AimedStopWantsHalt = FreedSince 0 Cause.AimedStop (λ since. since.aimed) is_halting

abbrev pub UnexpectedStopWantsBraking : Type 0
UnexpectedStopWantsBraking = FreedSince 1 Cause.UnexpectedStop (λ since. since.unexpected) is_braking

abbrev pub LandslideWantsHalt : Type 0
LandslideWantsHalt = FreedSince 2 Cause.Landslide (λ since. since.landslide) is_halting
