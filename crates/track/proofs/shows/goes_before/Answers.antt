use Rattle.std.proofs.Common.{◌≡◌, Bool, true, false, cond, ◌||◌, ◌&&◌, eqb, ltb, Option, Some, Ordering, Less, Equal, Greater, refl, ap, ◌∙◌}
use Rattle.std.specs.Ordering.{nat_cmp, bool_cmp, is_lt, is_some_and, partial_ordering_then}
use Rattle.curve.specs.declared.Interval.{Interval}
use Rattle.curve.specs.declared.Interval.TheVariants.{A, Bf, B, C, D, E, F}
use Rattle.curve.specs.contracts.IntervalPartialOrd as order
use Rattle.interval.specs.Intervals.{rank_of}
use Rattle.rules.specs.Shows.{set_number, goes_before}
use Rattle.track.proofs.shows.goes_before.Goals as goal

-- the derived order of the intervals is that of their ranks
each : (P : Interval → Type 0) → P A → P Bf → P B → P C → P D → P E → P F → (x : Interval) → P x
each P a bf b c d e f A = a
each P a bf b c d e f Bf = bf
each P a bf b c d e f B = b
each P a bf b c d e f C = c
each P a bf b c d e f D = d
each P a bf b c d e f E = e
each P a bf b c d e f F = f

abbrev Ranked : Interval → Interval → Type 0
Ranked x y = order.TheImpl.partial_cmp-value.it x y ≡ Some (nat_cmp (rank_of x) (rank_of y))

ranked : (x y : Interval) → Ranked x y
ranked A = each (Ranked A) refl refl refl refl refl refl refl
ranked Bf = each (Ranked Bf) refl refl refl refl refl refl refl
ranked B = each (Ranked B) refl refl refl refl refl refl refl
ranked C = each (Ranked C) refl refl refl refl refl refl refl
ranked D = each (Ranked D) refl refl refl refl refl refl refl
ranked E = each (Ranked E) refl refl refl refl refl refl refl
ranked F = each (Ranked F) refl refl refl refl refl refl refl

-- a curve stands before a record
set_first : (x y : Bool) → bool_cmp x y ≡ nat_cmp (set_number x) (set_number y)
set_first true true = refl
set_first true false = refl
set_first false true = refl
set_first false false = refl

abbrev by_tests : Bool → Bool → Option Ordering
by_tests less same = Some (cond less Less (cond same Equal Greater))

-- by the first of four that tells them apart
first_told : (l e l' e' l'' e'' l3 e3 : Bool)
    → is_some_and is_lt (partial_ordering_then (partial_ordering_then (partial_ordering_then (by_tests l e) (by_tests l' e')) (by_tests l'' e'')) (by_tests l3 e3))
    ≡ (l || e && (l' || e' && (l'' || e'' && l3)))
first_told true e l' e' l'' e'' l3 e3 = refl
first_told false false l' e' l'' e'' l3 e3 = refl
first_told false true true e' l'' e'' l3 e3 = refl
first_told false true false false l'' e'' l3 e3 = refl
first_told false true false true true e'' l3 e3 = refl
first_told false true false true false false l3 e3 = refl
first_told false true false true false true true e3 = refl
first_told false true false true false true false true = refl
first_told false true false true false true false false = refl

abbrev told : Option Ordering → Option Ordering → Option Ordering → Option Ordering → Bool
told a b c d = is_some_and is_lt (partial_ordering_then (partial_ordering_then (partial_ordering_then a b) c) d)

pub returns : goal.returns
unfolding goes_before
returns c =
    let x = c.args.x in
    let y = c.args.y in
    let later : Option Ordering = Some (nat_cmp (rank_of y.judged.interval) (rank_of x.judged.interval)) in
    let lower : Option Ordering = Some (nat_cmp x.judged.permitted y.judged.permitted) in
    let lowest : Option Ordering = Some (nat_cmp x.curve.id y.curve.id) in
    c.lt.ensures
    ∙ ap (λ p. told p lower (Some (bool_cmp x.et y.et)) lowest) (ranked y.judged.interval x.judged.interval)
    ∙ ap (λ q. told later lower (Some q) lowest) (set_first x.et y.et)
    ∙ first_told
    (ltb (rank_of y.judged.interval) (rank_of x.judged.interval)) (eqb (rank_of y.judged.interval) (rank_of x.judged.interval))
    (ltb x.judged.permitted y.judged.permitted) (eqb x.judged.permitted y.judged.permitted)
    (ltb (set_number x.et) (set_number y.et)) (eqb (set_number x.et) (set_number y.et))
    (ltb x.curve.id y.curve.id) (eqb x.curve.id y.curve.id)
