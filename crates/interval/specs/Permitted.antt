-- A curve's permitted speed (01, "Curves", second paragraph).
use Rattle.std.specs.Prelude.{ℕ}
use Rattle.curve.specs.Ground.{largest_failing}
use Rattle.curve.specs.Boundary.{is_reached_at_kmh}
use Rattle.curve.specs.declared.Curve.{Curve}

-- "the largest whole km/h up to 300 at which .. its permitted boundary isn't reached"; at 0 no boundary is
unfoldable pub permitted_of : Curve → ℕ → ℕ → ℕ
permitted_of curve level lead = largest_failing (λ k. is_reached_at_kmh curve level k lead) 300
