-- Where all that may be curves are judged at once, the curves and the records are noted and shown as the rules say. Assumes nothing.
use mathlib.Core.Path.{◌≡◌, refl, sym, ap, ap₂, ◌∙◌}
use Prim.Native.Nat.{ℕ, ◌≤◌}
use native.Mathlib.Nat.{le_of_eq, le_of_suc-le-suc, not-suc-le-zero}
use native.Mathlib.Omega.{arith}
use mathlib.Core.Bool.{true, false, cond}
use mathlib.Core.List.{List, [], ◌∷◌, ◌++◌, map, zip_with, map-append, map-map}
use lib.ListN.{length, drop, length-map}
use lib.Seq.{drop_at}
use Rattle.laws.proofs.Lists.{zip_longer}
use Rattle.curve.specs.declared.Curve.{Curve}
use Rattle.curve.specs.declared.Judged.{Judged}
use Rattle.curve.specs.declared.Braking.{Braking}
use Rattle.curve.specs.declared.Interval.{Interval}
use Rattle.curve.specs.Boundary.{target_of, is_above, line_for, is_reached, is_reached_f, is_reached_at_kmh}
use Rattle.interval.specs.Intervals.{interval_of}
use Rattle.interval.specs.Permitted.{permitted_of}
use Rattle.interval.specs.Judging.{is_fast, brakes_at, judged_of, noted_at}
use Rattle.places.specs.Places.{places, none_judged, judged_here, judged_all, noted_all}
use Rattle.records.specs.declared.EtRecord.{EtRecord}
use Rattle.records.specs.Lives.{as_curve}
use Rattle.rules.specs.declared.Train.{Train}
use Rattle.rules.specs.declared.Track.{Track}
use Rattle.rules.specs.declared.Kept.{Kept}
use Rattle.rules.specs.Places.{all_curves, with_curves, with_records}
use Rattle.rules.specs.Speeds.{braking_of, judged_by, judged_now, vmax_of}
use Rattle.rules.specs.Odometer.{noted_records, noted_track}
use Rattle.rules.specs.Shows.{candidate, no_candidate, chosen_from, candidates, chosen}
use Rattle.rules.proofs.Tests.{zip_self}
use Rattle.track.specs.Among.{chosen_among, noted_among}

module _ (judge : Curve → Judged) (curves more : List Curve) where
  -- what the curves say stands first,
  pub first : {B : Type 0} (f : Curve → Judged → B) → zip_with f curves (map judge (curves ++ more)) ≡ zip_with f curves (map judge curves)
  first f =
      let long : length curves ≤ length (map judge curves) = simp length-map (omega arith) in
      rw (map-append judge curves more) (zip_longer f curves (map judge curves) (map judge more) long)

  -- and what the records say behind it
  pub behind : length curves ≡ places → drop places (map judge (curves ++ more)) ≡ map judge more
  behind e = rw (map-append judge curves more) (drop_at (map judge curves) (map judge more) places (simp length-map e))

-- each record with what it says as a curve
records_said : (judge : Curve → Judged) (ets : List EtRecord)
    → zip_with (candidate true) (map as_curve ets) (map judge (map as_curve ets))
    ≡ map (λ et. candidate true (as_curve et) (judge (as_curve et))) ets
records_said judge ets =
    zip_self (candidate true) judge (map as_curve ets) ∙ map-map (λ curve. candidate true curve (judge curve)) as_curve ets

-- a curve's past plays no part in what it says
judged_noted : (braking : Braking) (v : ℕ) (curve : Curve) (interval : Interval)
    → judged_of braking v (noted_at curve interval) ≡ judged_of braking v curve
unfolding judged_of interval_of permitted_of brakes_at is_fast is_reached is_reached_f is_reached_at_kmh line_for is_above target_of
judged_noted braking v curve interval = refl

judged_here_lem : (braking : Braking) (v : ℕ) (curve : Curve) (interval : Interval)
    → judged_here braking v (noted_at curve interval) ≡ judged_here braking v curve
judged_here_lem braking v curve interval = ap (λ said. cond curve.held said none_judged) (judged_noted braking v curve interval)

curves_again : (braking : Braking) (v : ℕ) (curves : List Curve) (judged : List Judged) → length curves ≤ length judged
    → judged_all braking v (noted_all curves judged) ≡ judged_all braking v curves
unfolding zip_with
curves_again braking v [] judged h = refl
curves_again braking v (curve ∷ curves) [] h = absurd (not-suc-le-zero h)
curves_again braking v (curve ∷ curves) (j ∷ judged) h =
    ap₂ ◌∷◌ (judged_here_lem braking v curve j.interval) (curves_again braking v curves judged (le_of_suc-le-suc h))

-- a record's as little: noted, it is its curve noted
records_noted : (ets : List EtRecord) (judged : List Judged) → map as_curve (noted_records ets judged) ≡ noted_all (map as_curve ets) judged
unfolding zip_with
records_noted [] judged = refl
records_noted (et ∷ ets) [] = refl
records_noted (et ∷ ets) (j ∷ judged) = ap (λ curves. noted_at (as_curve et) j.interval ∷ curves) (records_noted ets judged)

module _ (train : Train) (kept : Kept) (track : Track) where
  abbrev judge : Curve → Judged
  judge = judged_here (braking_of train kept.halka) kept.speed

  abbrev more : List Curve
  more = map as_curve track.records

  module _ (judged : List Judged) (said : judged ≡ judged_now train kept (all_curves track)) (sixteen : length track.curves ≡ places) where
    pub track_noted : noted_among track judged ≡ noted_track train kept track
    unfolding noted_among noted_track judged_now all_curves
    track_noted =
        rw said
        (ap₂ (λ curves ets. with_records (with_curves track curves) ets)
        (first judge track.curves more (λ curve j. noted_at curve j.interval))
        (ap (noted_records track.records) (behind judge track.curves more sixteen)))

    pub chosen_told : chosen_among track.curves track.records judged ≡ chosen (judged_by train kept) track
    unfolding chosen_among chosen candidates judged_now judged_by all_curves
    chosen_told =
        rw said
        (ap₂ (λ xs ys. chosen_from no_candidate (xs ++ ys))
        (first judge track.curves more (candidate false) ∙ zip_self (candidate false) judge track.curves)
        (ap (zip_with (candidate true) more) (behind judge track.curves more sixteen) ∙ records_said judge track.records))

  -- what all say, and VMAX, once their pasts are noted
  pub judged_again : judged_now train kept (all_curves (noted_track train kept track)) ≡ judged_now train kept (all_curves track)
  unfolding noted_track judged_now all_curves
  judged_again =
      let braking = braking_of train kept.halka in
      let v = kept.speed in
      let long : (curves : List Curve) → length curves ≤ length (map judge curves) = λ curves. le_of_eq (sym (length-map curves judge)) in
      map-append judge (noted_all track.curves (map judge track.curves)) (map as_curve (noted_records track.records (map judge more)))
      ∙ ap₂ ◌++◌
      (curves_again braking v track.curves (map judge track.curves) (long track.curves))
      (ap (map judge) (records_noted track.records (map judge more)) ∙ curves_again braking v more (map judge more) (long more))
      ∙ sym (map-append judge track.curves more)

  pub vmax_again : vmax_of train (noted_track train kept track) ≡ vmax_of train track
  unfolding noted_track vmax_of
  vmax_again = refl
