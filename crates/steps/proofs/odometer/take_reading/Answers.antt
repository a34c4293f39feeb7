use mathlib.Core.Path.{◌≡◌, ap, ◌∙◌}
use Rattle.rules.specs.declared.State.{State}
use Rattle.rules.specs.declared.Reading.{Reading}
use Rattle.rules.specs.declared.Stm.{Stm}
use Rattle.rules.specs.Odometer.{moves, supervised, reported_in}
use Rattle.rules.specs.Commands.{remembered}
use Rattle.steps.proofs.Supervising.{supervised_on}
use Rattle.steps.proofs.odometer.take_reading.Goals as goal

-- in DA
supervised_in : (state : State) (r : Reading) (stm : Stm) → state ≡ State.DA → supervised_on r (moves r stm) ≡ reported_in state r stm
unfolding supervised moves
supervised_in state r stm e = rw e

pub returns-in-DA : goal.returns-in-DA
returns-in-DA c =
    let a = c.args in
    c.supervise.ensures
    ∙ ap (λ stm. remembered a.command.now (supervised_on a.r stm)) c.moves-in-DA.ensures
    ∙ ap (remembered a.command.now) (supervised_in a.stm.control.state a.r a.stm c.in-DA.is)
