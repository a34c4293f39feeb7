use mathlib.Core.Path.{◌≡◌, refl, sym, ◌∙◌}
use mathlib.Core.Bool.{Bool, true, false, cond, ◌||◌}
use lib.Dec.{eqb}
use Rattle.std.specs.Prelude.{Option, Some, None}
use Rattle.std.specs.Option.{option_eq}
use Rattle.rules.specs.contracts.IncidentPartialEq.TheImpl.{eq-value}
use Rattle.rules.specs.declared.Incident.{Incident}
use Rattle.rules.specs.Commands.{stopped}
use Rattle.brakes.proofs.Incidents.{is_unexpected, stop_told, unexpected_stop}
use Rattle.steps.proofs.commands.stop.Goals as goal

same_incident : (incident : Option Incident) → option_eq eq-value.it incident (Some Incident.UnexpectedStop) ≡ is_unexpected incident
same_incident (Some Incident.AimedStop) = refl
same_incident (Some Incident.UnexpectedStop) = refl
same_incident (Some Incident.Landslide) = refl
same_incident (Some Incident.BaliseError) = refl
same_incident None = refl

either : (a b : Bool) → (a || b) ≡ cond a true b
either true b = refl
either false b = refl

pub returns : goal.returns
unfolding stopped
returns c =
    let a = c.args in
    let told = c.stop_of-incident.ensures in
    let unexpected = c.eq-unexpected.ensures ∙ same_incident _ ∙ sym (unexpected_stop a.which told) in
    rw (c.brakes_by.ensures _ a.which (stop_told a.which told), unexpected, either (eqb a.which 1) a.stm.track.forty)
