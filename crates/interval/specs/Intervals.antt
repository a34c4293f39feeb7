-- Computed and shown intervals (01, "Curves" and "Report").
use Rattle.std.specs.Prelude.{ℕ, Bool, cond, ◌&&◌, ltb}
use Rattle.curve.specs.Boundary.{is_reached, is_reached_f}
use Rattle.curve.specs.declared.Curve.{Curve}
use Rattle.curve.specs.declared.Braking.{Braking}
use Rattle.curve.specs.declared.Interval.{Interval}
use Rattle.curve.specs.declared.Interval.TheVariants.{A, Bf, B, C, D, E, F}
use Rattle.curve.specs.declared.Shown.{Shown}
use Rattle.curve.specs.declared.Shown.TheVariants.{Ab, Computed}

-- "The computed interval is the last reached of Bf, B, C, D, E, F, else A"
abbrev pub last_reached : Bool → Bool → Bool → Bool → Bool → Bool → Interval
last_reached bf b c d e f = cond f F (cond e E (cond d D (cond c C (cond b B (cond bf Bf A)))))

unfoldable pub interval_of : Curve → Braking → ℕ → Interval
interval_of curve braking v =
    last_reached
    (is_reached curve braking.level v braking.leads.bf)
    (is_reached curve braking.level v braking.leads.b)
    (is_reached curve braking.level v braking.leads.c)
    (is_reached curve braking.level v braking.leads.d)
    (is_reached curve braking.level v 0)
    (is_reached_f curve braking.level braking.margin v)

-- the order of the intervals: an earlier one has a lower rank
abbrev pub rank_of : Interval → ℕ
rank_of A = 0
rank_of Bf = 1
rank_of B = 2
rank_of C = 3
rank_of D = 4
rank_of E = 5
rank_of F = 6

-- "A curve once in B or later that computes A or Bf is shown as Ab": `past` is whether it was once in B or later
unfoldable pub shown_of : Bool → Interval → Shown
shown_of past interval = cond (past && ltb (rank_of interval) (rank_of B)) Ab (Computed interval)

-- the report's numbers: "1 A, 2 Ab, 3 Bf, 4 B, 5 C, 6 D, 7 E, 8 F"
abbrev pub computed_number : Interval → ℕ
computed_number A = 1
computed_number Bf = 3
computed_number B = 4
computed_number C = 5
computed_number D = 6
computed_number E = 7
computed_number F = 8

abbrev pub shown_number : Shown → ℕ
shown_number Ab = 2
shown_number (Computed interval) = computed_number interval
