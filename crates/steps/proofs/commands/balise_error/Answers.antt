use Rattle.brakes.proofs.Incidents.{error_of}
use Rattle.steps.proofs.commands.balise_error.Goals as goal

pub returns : goal.returns
returns c = rw (c.brakes_by.ensures _ _ error_of)
