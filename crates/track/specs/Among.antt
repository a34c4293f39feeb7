-- The curves and the records, by what all of them say as curves (02, F-7): a list that has the curves' first, and the records' behind them.
use Rattle.std.specs.Prelude.{true, false, drop}
use mathlib.Core.List.{List, ◌++◌, map, zip_with}
use Rattle.curve.specs.declared.Curve.{Curve}
use Rattle.curve.specs.declared.Judged.{Judged}
use Rattle.places.specs.Places.{places, noted_all}
use Rattle.records.specs.declared.EtRecord.{EtRecord}
use Rattle.records.specs.Lives.{as_curve}
use Rattle.rules.specs.declared.Track.{Track}
use Rattle.rules.specs.declared.Candidate.{Candidate}
use Rattle.rules.specs.Places.{with_curves, with_records}
use Rattle.rules.specs.Odometer.{noted_records}
use Rattle.rules.specs.Shows.{candidate, no_candidate, chosen_from}

-- the shown one
unfoldable pub chosen_among : List Curve → List EtRecord → List Judged → Candidate
chosen_among curves ets judged =
    chosen_from no_candidate
    (zip_with (candidate false) curves judged ++ zip_with (candidate true) (map as_curve ets) (drop places judged))

-- every past in B noted
unfoldable pub noted_among : Track → List Judged → Track
noted_among track judged =
    with_records (with_curves track (noted_all track.curves judged)) (noted_records track.records (drop places judged))
