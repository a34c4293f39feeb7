-- The shown curve (01, "Report"; 02, F-7).
use Rattle.std.specs.Prelude.{ℕ, Bool, true, false, cond, not, ◌&&◌, ◌||◌, List, [], ◌∷◌, ◌++◌, map, eqb, ltb, Option, Some, None}
use Rattle.curve.specs.declared.Curve.{Curve}
use Rattle.curve.specs.declared.Shown.{Shown}
use Rattle.curve.specs.declared.Judged.{Judged}
use Rattle.interval.specs.Intervals.{rank_of, shown_of}
use Rattle.places.specs.Places.{none_judged}
use Rattle.curve.specs.Free.{free_curve}
use Rattle.records.specs.Lives.{as_curve}
use Rattle.rules.specs.declared.Track.{Track}
use Rattle.rules.specs.declared.Candidate.{Candidate}

-- a curve, or a record that is one (`et`), with what it says
abbrev pub candidate : Bool → Curve → Judged → Candidate
candidate et curve judged = record { et = et; curve = curve; judged = judged }

-- none
abbrev pub no_candidate : Candidate
no_candidate = candidate false free_curve none_judged

-- "any curve is shown before any ET record"
abbrev pub set_number : Bool → ℕ
set_number et = cond et 1 0

-- "latest computed interval, then lowest permitted speed, then lowest id"; 02, F-7: "at equal interval and permitted speed any curve is
-- shown before any ET record"
abbrev pub is_lower : ℕ → ℕ → Bool → Bool
is_lower x y then = ltb x y || eqb x y && then

unfoldable pub goes_before : Candidate → Candidate → Bool
goes_before x y =
    is_lower (rank_of y.judged.interval) (rank_of x.judged.interval)
    (is_lower x.judged.permitted y.judged.permitted
    (is_lower (set_number x.et) (set_number y.et) (ltb x.curve.id y.curve.id)))

-- the one of two that is shown; a place that holds no curve isn't
unfoldable pub chosen_of : Candidate → Candidate → Candidate
chosen_of best next = cond (next.judged.held && (not best.judged.held || goes_before next best)) next best

unfoldable pub chosen_from : Candidate → List Candidate → Candidate
chosen_from best [] = best
chosen_from best (next ∷ rest) = chosen_from (chosen_of best next) rest

-- the curves and the records, each with what it says
unfoldable pub candidates : (Curve → Judged) → Track → List Candidate
candidates judge track =
    map (λ curve. candidate false curve (judge curve)) track.curves
    ++ map (λ et. candidate true (as_curve et) (judge (as_curve et))) track.records

-- the shown one
unfoldable pub chosen : (Curve → Judged) → Track → Candidate
chosen judge track = chosen_from no_candidate (candidates judge track)

-- its interval as shown
unfoldable pub shown_as : Candidate → Shown
shown_as shown = shown_of shown.curve.past shown.judged.interval

-- what is shown: its interval, or no curve
unfoldable pub showing_of : Candidate → Option Shown
showing_of shown = cond shown.judged.held (Some (shown_as shown)) None
