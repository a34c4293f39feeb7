-- What brakes, through an odometer report in DA and through commands 30 and 32 (01, "Causes and release").
use Rattle.std.specs.Prelude.{ℕ, ◌+◌, ◌*◌, min, Bool, false, cond, not, ◌&&◌, ◌||◌, eqb, ltb, pos, ◌*ℤ◌, Option, None, Some}
use Rattle.std.specs.Int.Signed.{le_z}
use Rattle.rules.specs.Hold.{held_on, hold_by}
use Rattle.rules.specs.Table.{stands, no_causes, stands_with, any_stands, ordered_at, ordered_by, is_stop, added_causes, left_causes}
use Rattle.rules.specs.Checks.{checked_at, fails_at, checked_by, check_left}
use Rattle.rules.specs.declared.Code.{Code}
use Rattle.rules.specs.declared.Cause.{Cause}
use Rattle.rules.specs.declared.Causes.{Causes}
use Rattle.rules.specs.declared.Order.{Order}
use Rattle.rules.specs.declared.Hold.{Hold}
use Rattle.rules.specs.declared.Since.{Since}
use Rattle.rules.specs.declared.Check.{Check}
use Rattle.rules.specs.declared.Brakes.{Brakes}
use Rattle.rules.specs.declared.Train.{Train}
use Rattle.rules.specs.declared.Reading.{Reading}
use Rattle.rules.specs.declared.Seen.{Seen}

-- no cause, no count, no note, no brake fault
unfoldable pub fresh_brakes : Brakes
fresh_brakes = record {
  causes = no_causes;
  since = record { aimed = false; unexpected = false; landslide = false; balise = Hold.Undecided };
  service = Check.Idle;
  emergency = Check.Idle;
  roll = None;
  drift = false;
  failed = false;
}

-- ---- the notes of a report

-- "A halt is speed 0 and moved 0"
unfoldable pub is_halt : Reading → Bool
is_halt r = eqb r.speed 0 && eqb r.moved 0

-- "10×measured ≥ 7×full deceleration"
unfoldable pub is_braked : ℕ → Reading → Bool
is_braked full r = le_z (pos (7 * full)) (pos 10 *ℤ r.measured)

-- "halted since", "once since"; 02, F-2: a "further odometer report"
unfoldable pub since_at : ℕ → Reading → Since → Since
since_at full r since = record {
  aimed = since.aimed || is_halt r;
  unexpected = since.unexpected || is_braked full r;
  landslide = since.landslide || is_halt r;
  balise = held_on since.balise;
}

-- the ground rolled with neutral, kept up to 501
abbrev pub rolled_on : ℕ → Option ℕ → Option ℕ
rolled_on moved None = None
rolled_on moved (Some covered) = Some (min 501 (covered + moved))

-- "from 0 at each halt and never before one; .. a report without neutral that is no halt ends it until the next halt"
unfoldable pub roll_at : Reading → Option ℕ → Option ℕ
roll_at r roll = cond (is_halt r) (Some 0) (cond r.neutral (rolled_on r.moved roll) None)

-- "over 500 cm rolled from standstill"
abbrev pub is_rolled : Option ℕ → Bool
is_rolled None = false
is_rolled (Some covered) = ltb 500 covered

-- "a drop of bit 10 sets it back to 0"; where it has ended it stays ended
abbrev pub roll_back : Option ℕ → Option ℕ
roll_back None = None
roll_back (Some covered) = Some 0

unfoldable pub noted_brakes : Train → Reading → Brakes → Brakes
noted_brakes train r b = record {
  causes = b.causes;
  since = since_at train.full r b.since;
  service = b.service;
  emergency = b.emergency;
  roll = roll_at r b.roll;
  drift = b.drift;
  failed = b.failed;
}

-- ---- adding

-- bit 11's order: the check that any order begins, with T_B
unfoldable pub service_fails : Train → Bool → Brakes → Bool
service_fails train dropped b = fails_at (any_stands b.causes) train.times.brake dropped b.service

-- "An emergency order without a 60 kPa drop by T_EBCHK"
unfoldable pub emergency_fails : Train → Bool → Brakes → Bool
emergency_fails train dropped b = fails_at (stands_with Order.Emergency b.causes) train.check dropped b.emergency

-- the causes that stood, and those ordered at this report
unfoldable pub causes_at : Train → Bool → Seen → Brakes → Causes
causes_at train dropped s b = added_causes (ordered_at s (service_fails train dropped b)) b.causes

-- "Bit 11 shows DRIFTBROMSFEL", "shows NÖDBROMSFEL"
unfoldable pub added_brakes : Train → Bool → Seen → Brakes → Brakes
added_brakes train dropped s b = record {
  causes = causes_at train dropped s b;
  since = b.since;
  service =
      checked_at (any_stands b.causes) (any_stands (causes_at train dropped s b)) train.times.brake dropped b.service;
  emergency =
      checked_at (stands_with Order.Emergency b.causes) (stands_with Order.Emergency (causes_at train dropped s b)) train.check
      dropped b.emergency;
  roll = b.roll;
  drift = b.drift || service_fails train dropped b;
  failed = b.failed || emergency_fails train dropped b;
}

-- ---- releasing

-- the rolled ground, by whether bit 10 stood and whether it is left
unfoldable pub roll_left : Bool → Bool → Option ℕ → Option ℕ
roll_left stood left roll = cond (stood && not left) (roll_back roll) roll

-- what is left of b with these causes; "until no order stands"
unfoldable pub left_brakes : Causes → Brakes → Brakes
left_brakes c b = record {
  causes = c;
  since = b.since;
  service = check_left (any_stands c) b.service;
  emergency = check_left (stands_with Order.Emergency c) b.emergency;
  roll = roll_left (stands b.causes Cause.Rolling) (stands c Cause.Rolling) b.roll;
  drift = b.drift && any_stands c;
  failed = b.failed;
}

unfoldable pub released_brakes : Seen → Bool → Bool → Brakes → Brakes
released_brakes s loss text b = left_brakes (left_causes s loss text b.causes) b

-- ---- commands 30 and 32

-- "“since” starts again for those"; v is the last odometer figure
unfoldable pub since_by : Code → ℕ → ℕ → Since → Since
since_by code which v since = record {
  aimed = since.aimed && not (is_stop 0 code which);
  unexpected = since.unexpected && not (is_stop 1 code which);
  landslide = since.landslide && not (is_stop 2 code which);
  balise = hold_by code v since.balise;
}

-- "Commands 30 and 32 add their causes when accepted"
unfoldable pub brakes_by : Code → ℕ → ℕ → Brakes → Brakes
brakes_by code which v b = record {
  causes = added_causes (ordered_by code which) b.causes;
  since = since_by code which v b.since;
  service =
      checked_by (any_stands b.causes) (any_stands (added_causes (ordered_by code which) b.causes)) b.service;
  emergency =
      checked_by (stands_with Order.Emergency b.causes) (stands_with Order.Emergency (added_causes (ordered_by code which) b.causes))
      b.emergency;
  roll = b.roll;
  drift = b.drift;
  failed = b.failed;
}
