-- Rolling over runs: "over 500 cm rolled from standstill, neutral throughout" (01, "Causes and release", bit 10). Proved in proofs/.
use Rattle.std.specs.Prelude.{◌≡◌, ℕ, Bool, true, false, cond, not, ◌&&◌, ◌||◌, List, [], ◌∷◌, map, ltb, None}
use Rattle.rules.specs.Numbers.{is_accepted}
use Rattle.rules.specs.Places.{any_of, all_of}
use Rattle.rules.specs.Table.{stands}
use Rattle.rules.specs.Runs.{Sent, answer_to, state_after, state_at_end, freshens}
use Rattle.rules.specs.History.{moved_of, button_of, is_supervised, is_halt_of, sum}
use Rattle.rules.specs.Braking.{ordered_now}
use Rattle.rules.specs.declared.Cause.{Cause}
use Rattle.rules.specs.declared.Stm.{Stm}

-- a report in DA: whether it halts, whether it has neutral, its ground, and whether it drops bit 10
pub record Rolls : Type 0 where
  pub halt : Bool
  pub neutral : Bool
  pub moved : ℕ
  pub drops : Bool

abbrev pub rolls_of : List ℕ → Bool → Rolls
rolls_of command drops = record {
  halt = is_halt_of command;
  neutral = button_of 3 command;
  moved = moved_of command;
  drops = drops;
}

-- "a fresh press of text drops 10": bit 10 stood, or is ordered at this report
abbrev pub drops_rolling : Stm → List ℕ → Bool
drops_rolling stm command =
    button_of 1 command
    && not stm.kept.text
    && (stands stm.brakes.causes Cause.Rolling || ordered_now stm command Cause.Rolling)

-- the accepted reports in DA since the last start or entering of CS, the latest first, after those before the run
abbrev pub rolls_after : List Rolls → Stm → Sent → List Rolls
rolls_after earlier stm x =
    cond (is_accepted (answer_to stm x))
    (cond (freshens x.command) []
    (cond (is_supervised stm x.command) (rolls_of x.command (drops_rolling stm x.command) ∷ earlier) earlier))
    earlier

unfoldable pub rolls_over : List Rolls → Stm → List Sent → List Rolls
rolls_over earlier stm [] = earlier
rolls_over earlier stm (x ∷ xs) = rolls_over (rolls_after earlier stm x) (state_after stm x) xs

-- those since the last that passes a test
abbrev pub since_last : (Rolls → Bool) → List Rolls → List Rolls
since_last test [] = []
since_last test (r ∷ rs) = cond (test r) [] (r ∷ since_last test rs)

abbrev pub since_halt : List Rolls → List Rolls
since_halt rs = since_last (λ r. r.halt) rs

-- "from 0 at each halt and never before one; a drop of bit 10 sets it back to 0, and a report without neutral that is no halt ends it
-- until the next halt": there was a halt, every report since had neutral, and the ground since it, or since a later drop of bit 10,
-- is over 500 cm
abbrev pub is_over500 : List Rolls → Bool
is_over500 rs =
    any_of (λ r. r.halt) rs
    && all_of (λ r. r.neutral) (since_halt rs)
    && ltb 500 (sum (map (λ r. r.moved) (since_last (λ r. r.drops) (since_halt rs))))

-- from a unit that has counted nothing yet, as after a start, over any list: bit 10 is ordered at a report in DA exactly then
abbrev pub RollingIsOrdered : Type 0
RollingIsOrdered =
    (stm : Stm) (xs : List Sent) (z : Sent)
    → stm.brakes.roll ≡ None
    → let last = state_at_end stm xs in
    is_accepted (answer_to last z) ≡ true → is_supervised last z.command ≡ true
    → ordered_now last z.command Cause.Rolling ≡ is_over500 (rolls_of z.command false ∷ rolls_over [] stm xs)
