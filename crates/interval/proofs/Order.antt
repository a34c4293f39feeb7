-- The derived order of the intervals is that of their ranks.
use mathlib.Core.Path.{◌≡◌, refl}
use lib.Dec.{leb, ltb}
use Rattle.std.specs.Ordering.{partial_le, partial_lt}
use Rattle.interval.specs.Intervals.{rank_of}
use Rattle.curve.specs.declared.Interval.{Interval}
use Rattle.curve.specs.declared.Interval.TheVariants.{A, Bf, B, C, D, E, F}
use Rattle.curve.specs.contracts.IntervalPartialOrd as order

-- what holds at each interval
each : (P : Interval → Type 0) → P A → P Bf → P B → P C → P D → P E → P F → (x : Interval) → P x
each P a bf b c d e f A = a
each P a bf b c d e f Bf = bf
each P a bf b c d e f B = b
each P a bf b c d e f C = c
each P a bf b c d e f D = d
each P a bf b c d e f E = e
each P a bf b c d e f F = f

abbrev SameLe : Interval → Interval → Type 0
SameLe x y = partial_le order.TheImpl.partial_cmp-value.it x y ≡ leb (rank_of x) (rank_of y)

abbrev SameLt : Interval → Interval → Type 0
SameLt x y = partial_lt order.TheImpl.partial_cmp-value.it x y ≡ ltb (rank_of x) (rank_of y)

pub not_later : (x y : Interval) → partial_le order.TheImpl.partial_cmp-value.it x y ≡ leb (rank_of x) (rank_of y)
not_later A = each (SameLe A) refl refl refl refl refl refl refl
not_later Bf = each (SameLe Bf) refl refl refl refl refl refl refl
not_later B = each (SameLe B) refl refl refl refl refl refl refl
not_later C = each (SameLe C) refl refl refl refl refl refl refl
not_later D = each (SameLe D) refl refl refl refl refl refl refl
not_later E = each (SameLe E) refl refl refl refl refl refl refl
not_later F = each (SameLe F) refl refl refl refl refl refl refl

pub earlier : (x y : Interval) → partial_lt order.TheImpl.partial_cmp-value.it x y ≡ ltb (rank_of x) (rank_of y)
earlier A = each (SameLt A) refl refl refl refl refl refl refl
earlier Bf = each (SameLt Bf) refl refl refl refl refl refl refl
earlier B = each (SameLt B) refl refl refl refl refl refl refl
earlier C = each (SameLt C) refl refl refl refl refl refl refl
earlier D = each (SameLt D) refl refl refl refl refl refl refl
earlier E = each (SameLt E) refl refl refl refl refl refl refl
earlier F = each (SameLt F) refl refl refl refl refl refl refl
