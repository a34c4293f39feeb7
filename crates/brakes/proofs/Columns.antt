-- The causes that a test names are those that it passes, cause by cause.
use mathlib.Core.Path.{◌≡◌}
use mathlib.Core.Bool.{Bool}
use Rattle.rules.specs.Table.{stands, causes_for}
use Rattle.rules.specs.declared.Cause.{Cause}
use Rattle.rules.specs.declared.Causes.{Causes}

pub causes_are : (c : Causes) (test : Cause → Bool) → ((cause : Cause) → stands c cause ≡ test cause) → c ≡ causes_for test
causes_are c test e = λ i. record {
  overspeed = e Cause.Overspeed i;
  excess = e Cause.EmergencyOverspeed i;
  full = e Cause.CurveFull i;
  soft = e Cause.CurveSoft i;
  emergency = e Cause.CurveEmergency i;
  aimed = e Cause.AimedStop i;
  unexpected = e Cause.UnexpectedStop i;
  speed = e Cause.UnexpectedSpeed i;
  landslide = e Cause.Landslide i;
  balise = e Cause.BaliseFault i;
  rolling = e Cause.Rolling i;
  service = e Cause.ServiceFault i;
}
