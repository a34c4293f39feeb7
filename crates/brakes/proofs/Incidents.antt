-- What a command tells, by its code and its first operand. Assumes nothing.
use Prim.Native.Nat.{ℕ, zero, suc, ◌<◌}
use mathlib.Core.Path.{◌≡◌, refl, ◌∙◌, sym, ap}
use mathlib.Core.Bool.{Bool, true, false, cond, not, ◌&&◌}
use native.Mathlib.Omega.{arith}
use lib.Dec.{eqb}
use borrow.Author.Tests.{ne_eqb}
use Rattle.std.specs.Prelude.{Option, Some, None}
use Rattle.rules.specs.Numbers.{is_code, stop_of, incident_of}
use Rattle.rules.specs.Hold.{decided_at}
use Rattle.rules.specs.Table.{causes_for, is_stop, ordered_by}
use Rattle.rules.specs.Releases.{since_by}
use Rattle.rules.specs.declared.Causes.{Causes}
use Rattle.rules.specs.declared.Since.{Since}
use Rattle.rules.specs.declared.Code.{Code}
use Rattle.rules.specs.declared.Incident.{Incident}

-- which one it is
abbrev pub is_aimed : Option Incident → Bool
is_aimed (Some Incident.AimedStop) = true
is_aimed (Some Incident.UnexpectedStop) = false
is_aimed (Some Incident.Landslide) = false
is_aimed (Some Incident.BaliseError) = false
is_aimed None = false

abbrev pub is_unexpected : Option Incident → Bool
is_unexpected (Some Incident.AimedStop) = false
is_unexpected (Some Incident.UnexpectedStop) = true
is_unexpected (Some Incident.Landslide) = false
is_unexpected (Some Incident.BaliseError) = false
is_unexpected None = false

abbrev pub is_landslide : Option Incident → Bool
is_landslide (Some Incident.AimedStop) = false
is_landslide (Some Incident.UnexpectedStop) = false
is_landslide (Some Incident.Landslide) = true
is_landslide (Some Incident.BaliseError) = false
is_landslide None = false

abbrev pub is_error : Option Incident → Bool
is_error (Some Incident.AimedStop) = false
is_error (Some Incident.UnexpectedStop) = false
is_error (Some Incident.Landslide) = false
is_error (Some Incident.BaliseError) = true
is_error None = false

-- a byte above 2 is no stop's
above : (n k : ℕ) → k < 3 → eqb (suc (suc (suc n))) k ≡ false
above n k h = ne_eqb _ _ (λ e. omega (arith, h, e))

aimed_byte : (t u : Bool) (which : ℕ) → (t && eqb which 0) ≡ is_aimed (cond t (stop_of which) (cond u (Some Incident.BaliseError) None))
unfolding stop_of
aimed_byte true u zero = refl
aimed_byte true u (suc zero) = refl
aimed_byte true u (suc (suc zero)) = refl
aimed_byte true u (suc (suc (suc n))) = rw (above n 0 (omega arith), above n 1 (omega arith), above n 2 (omega arith))
aimed_byte false true which = refl
aimed_byte false false which = refl

unexpected_byte : (t u : Bool) (which : ℕ) → (t && eqb which 1) ≡ is_unexpected (cond t (stop_of which) (cond u (Some Incident.BaliseError) None))
unfolding stop_of
unexpected_byte true u zero = refl
unexpected_byte true u (suc zero) = refl
unexpected_byte true u (suc (suc zero)) = refl
unexpected_byte true u (suc (suc (suc n))) = rw (above n 0 (omega arith), above n 1 (omega arith), above n 2 (omega arith))
unexpected_byte false true which = refl
unexpected_byte false false which = refl

landslide_byte : (t u : Bool) (which : ℕ) → (t && eqb which 2) ≡ is_landslide (cond t (stop_of which) (cond u (Some Incident.BaliseError) None))
unfolding stop_of
landslide_byte true u zero = refl
landslide_byte true u (suc zero) = refl
landslide_byte true u (suc (suc zero)) = refl
landslide_byte true u (suc (suc (suc n))) = rw (above n 0 (omega arith), above n 1 (omega arith), above n 2 (omega arith))
landslide_byte false true which = refl
landslide_byte false false which = refl

no_error : (which : ℕ) → false ≡ is_error (stop_of which)
unfolding stop_of
no_error zero = refl
no_error (suc zero) = refl
no_error (suc (suc zero)) = refl
no_error (suc (suc (suc n))) = rw (above n 0 (omega arith), above n 1 (omega arith), above n 2 (omega arith))

pub aimed_told : (code : Code) (which : ℕ) {incident : Option Incident} → incident_of code which ≡ incident → is_stop 0 code which ≡ is_aimed incident
unfolding incident_of
aimed_told code which e = aimed_byte (is_code Code.StopPassed code) (is_code Code.BaliseError code) which ∙ ap is_aimed e

pub unexpected_told : (code : Code) (which : ℕ) {incident : Option Incident} → incident_of code which ≡ incident → is_stop 1 code which ≡ is_unexpected incident
unfolding incident_of
unexpected_told code which e = unexpected_byte (is_code Code.StopPassed code) (is_code Code.BaliseError code) which ∙ ap is_unexpected e

pub landslide_told : (code : Code) (which : ℕ) {incident : Option Incident} → incident_of code which ≡ incident → is_stop 2 code which ≡ is_landslide incident
unfolding incident_of
landslide_told code which e = landslide_byte (is_code Code.StopPassed code) (is_code Code.BaliseError code) which ∙ ap is_landslide e

error_code : (code : Code) (which : ℕ) → is_code Code.BaliseError code ≡ is_error (incident_of code which)
unfolding incident_of
error_code Code.Start which = refl
error_code Code.ChangeState which = refl
error_code Code.Odometer which = refl
error_code Code.NewCurve which = refl
error_code Code.EndCurve which = refl
error_code Code.NewSection which = refl
error_code Code.EndSection which = refl
error_code Code.StopPassed which = no_error which
error_code Code.Proceed which = refl
error_code Code.BaliseError which = refl
error_code Code.TestBrakes which = refl
error_code Code.AreaEvent which = refl
error_code Code.NewRecord which = refl
error_code Code.SignalPassed which = refl
error_code Code.EndRecord which = refl

pub error_told : (code : Code) (which : ℕ) {incident : Option Incident} → incident_of code which ≡ incident → is_code Code.BaliseError code ≡ is_error incident
error_told code which e = error_code code which ∙ ap is_error e

-- what it orders, and what it notes afresh
abbrev pub orders : Option Incident → Causes
orders incident = record {
  overspeed = false;
  excess = false;
  full = false;
  soft = false;
  emergency = false;
  aimed = is_aimed incident;
  unexpected = is_unexpected incident;
  speed = is_unexpected incident;
  landslide = is_landslide incident;
  balise = is_error incident;
  rolling = false;
  service = false;
}

pub orders_told : (code : Code) (which : ℕ) {incident : Option Incident} → incident_of code which ≡ incident
    → orders incident ≡ causes_for (ordered_by code which)
orders_told code which e = rw (aimed_told code which e, unexpected_told code which e, landslide_told code which e, error_told code which e)

abbrev pub noted : Option Incident → ℕ → Since → Since
noted incident v since = record {
  aimed = since.aimed && not (is_aimed incident);
  unexpected = since.unexpected && not (is_unexpected incident);
  landslide = since.landslide && not (is_landslide incident);
  balise = cond (is_error incident) (decided_at v) since.balise;
}

pub noted_told : (code : Code) (which v : ℕ) (since : Since) {incident : Option Incident} → incident_of code which ≡ incident
    → noted incident v since ≡ since_by code which v since
unfolding since_by
noted_told code which v since e = rw (aimed_told code which e, unexpected_told code which e, landslide_told code which e, error_told code which e)

-- an incident that is known
pub known : {incident : Option Incident} {told wanted : Incident} → incident ≡ Some told → told ≡ wanted → incident ≡ Some wanted
known p q = p ∙ ap Some q

-- the incidents of commands 30 and 32
pub stop_told : (which : ℕ) {incident : Option Incident} → incident ≡ stop_of which → incident_of Code.StopPassed which ≡ incident
unfolding incident_of
stop_told which e = sym e

pub unexpected_stop : (which : ℕ) {incident : Option Incident} → incident ≡ stop_of which → eqb which 1 ≡ is_unexpected incident
unfolding incident_of
unexpected_stop which e = unexpected_told Code.StopPassed which (sym e)

pub error_of : incident_of Code.BaliseError 0 ≡ Some Incident.BaliseError
unfolding incident_of
error_of = refl
