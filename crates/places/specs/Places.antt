-- The places that hold curves (01, "Answers", refusal 13: 16 of them), each as it stands in its array.
use Rattle.std.specs.Prelude.{ℕ, min, Bool, false, cond, ◌&&◌, leb}
use Rattle.std.specs.List.{list_any}
use mathlib.Core.List.{List, [], ◌∷◌, map, zip_with}
use Rattle.interval.specs.Intervals.{rank_of}
use Rattle.curve.specs.Ground.{moved_by}
use Rattle.interval.specs.Judging.{judged_of, noted_at}
use Rattle.curve.specs.declared.Curve.{Curve}
use Rattle.curve.specs.declared.Braking.{Braking}
use Rattle.curve.specs.declared.Interval.{Interval}
use Rattle.curve.specs.declared.Interval.TheVariants.{A}
use Rattle.curve.specs.declared.Judged.{Judged}

-- "all 16 curves"
abbrev pub places : ℕ
places = 16

-- these and 02's eight ET records (F-7), all of which may be curves
abbrev pub most_curves : ℕ
most_curves = 24

-- "d falls by the ground moved", for every curve held; a place that holds none stays as it is
abbrev pub moved_here : ℕ → Curve → Curve
moved_here moved curve = cond curve.held (moved_by curve moved) curve

abbrev pub moved_all : ℕ → List Curve → List Curve
moved_all moved curves = map (moved_here moved) curves

-- what every curve held says at v; a place that holds none says nothing
abbrev pub none_judged : Judged
none_judged = record { held = false; interval = A; permitted = 300; brakes = false }

abbrev pub judged_here : Braking → ℕ → Curve → Judged
judged_here braking v curve = cond curve.held (judged_of braking v curve) none_judged

abbrev pub judged_all : Braking → ℕ → List Curve → List Judged
judged_all braking v curves = map (judged_here braking v) curves

-- every curve's past in B, noted in the interval that it was judged to be in; a place that holds none is judged A, which notes nothing
abbrev pub noted_all : List Curve → List Judged → List Curve
noted_all curves judged = zip_with (λ curve j. noted_at curve j.interval) curves judged

-- the permitted speed at a place; one that holds no curve permits 300
abbrev pub permitted_here : Judged → ℕ
permitted_here j = cond j.held j.permitted 300

-- "the least of VMAX and the curves'": the curves' part, 300 where there is none
unfoldable pub least_permitted : List Judged → ℕ
least_permitted [] = 300
least_permitted (j ∷ js) = min (permitted_here j) (least_permitted js)

-- a curve brakes, in this interval or a later one
abbrev pub brakes_from : Interval → Judged → Bool
brakes_from interval j = j.held && j.brakes && leb (rank_of interval) (rank_of j.interval)

unfoldable pub any_brakes : Interval → List Judged → Bool
any_brakes interval judged = list_any (brakes_from interval) judged
