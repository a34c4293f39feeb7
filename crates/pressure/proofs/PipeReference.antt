-- On a pipe every reference is a whole number of half kPa.
use mathlib.Core.Path.{◌≡◌, refl, sym, ap, ◌∙◌, subst}
use Prim.Native.Nat.{ℕ, ◌+◌, ◌-◌, ◌*◌, ◌≤◌, ◌<◌}
use native.Mathlib.Nat.{lt_of_le_of_lt}
use native.Mathlib.Omega.{arith}
use mathlib.Core.Bool.{true, false}
use borrow.Author.Tests.{ltb-true}
use lib.Dec.{lit<, lit≤}
use lib.IntN.{ℤ, pos, negsuc}
use lib.Ieee.{Float, binary32, round, add, sub, lt}
use lib.Ieee.Exact.{HasValue}
use lib.Ieee.Scale.{round_same}
use Rattle.pressure.specs.Convert.{kpa, halved_of, converted_of}
use Rattle.pressure.specs.Exact.{SixteenBits, limited_halves}
use Rattle.pressure.specs.Claims.{PipeReferenceIsHalves}
use Rattle.pressure.proofs.Rounding.{lt_at, add_at, sub_at, sum_plus, sum_above, round_halves}
use Rattle.pressure.proofs.Halves.{kpa_value, halving_is_exact, pipe_is_exact}
use Rattle.pressure.proofs.Keeping.{kept}
use Rattle.pressure.specs.declared.Feed.TheVariants.{Pipe}

-- a number of half kPa, up to a limit
record Halves (limit : ℕ) (x : Float) : Type 0 where
  halves : ℕ
  within : halves ≤ limit
  value : HasValue x false halves 2

-- n / 2 rounded is n / 2
exactly : (x : Float) (n : ℕ) → n ≤ 1102 → x ≡ round binary32 false (n * 2) 4 → Halves 1102 x
exactly x n h e = record {
  halves = n;
  within = h;
  value =
      subst (λ (y : Float). HasValue y false n 2) (sym (e ∙ round_same binary32 false (n * 2) 4 n 2 (lit< tt) (lit< tt) (omega arith)))
      (round_halves binary32 false n (lt_of_le_of_lt h (lit< tt)));
}

three : HasValue (halved_of (pos 3)) false 3 2
three = halving_is_exact (pos 3) (lit< tt)

one : HasValue (halved_of (pos 1)) false 1 2
one = halving_is_exact (pos 1) (lit< tt)

-- below a pressure 1.5 can be added
raised : (r p : Float) → Halves 1102 r → Halves 1100 p → lt r p ≡ true → Halves 1102 (add binary32 r (halved_of (pos 3)))
raised r p h k t =
    let m = h.halves in
    let n = k.halves in
    let below : m * 2 < n * 2 = ltb-true (m * 2) (n * 2) (sym (lt_at r p false false m 2 n 2 (lit< tt) (lit< tt) h.value k.value) ∙ t) in
    let within : n ≤ 1100 = k.within in
    let six : m * 2 + 6 ≡ (m + 3) * 2 = omega arith in
    exactly (add binary32 r (halved_of (pos 3))) (m + 3) (omega arith)
    (add_at binary32 r (halved_of (pos 3)) false false m 2 3 2 (lit< tt) (lit< tt) h.value three
    ∙ sum_plus binary32 (m * 2) 6 4
    ∙ ap (λ (j : ℕ). round binary32 false j 4) six)

-- above a pressure 0.5 can be taken
lowered : (r p : Float) → Halves 1102 r → Halves 1100 p → lt p r ≡ true → Halves 1102 (sub binary32 r (halved_of (pos 1)))
lowered r p h k t =
    let m = h.halves in
    let n = k.halves in
    let above : n * 2 < m * 2 = ltb-true (n * 2) (m * 2) (sym (lt_at p r false false n 2 m 2 (lit< tt) (lit< tt) k.value h.value) ∙ t) in
    let within : m ≤ 1102 = h.within in
    let two : m * 2 - 2 ≡ (m - 1) * 2 = omega arith in
    exactly (sub binary32 r (halved_of (pos 1))) (m - 1) (omega arith)
    (sub_at binary32 r (halved_of (pos 1)) false false m 2 1 2 (lit< tt) (lit< tt) h.value one
    ∙ sum_above binary32 (m * 2) 2 4 (omega arith)
    ∙ ap (λ (j : ℕ). round binary32 false j 4) two)

-- ---- P_INT on a pipe
limited_le : (x : ℤ) → limited_halves x ≤ 1100
limited_le (pos n) = omega arith
limited_le (negsuc n) = lit≤ tt

converted : (full : ℕ) (x : ℤ) → SixteenBits x → Halves 1100 (converted_of Pipe full (halved_of x))
converted full x h = record { halves = limited_halves x; within = limited_le x; value = pipe_is_exact full x h }

none : Halves 1102 (kpa 0)
none = record { halves = 0; within = lit≤ tt; value = kpa_value 0 0 2 (lit≤ tt) refl }

serves : (p : Float) → Halves 1100 p → Halves 1102 p
serves p k = let within : k.halves ≤ 1100 = k.within in record { halves = k.halves; within = omega arith; value = k.value }

pub pipe_reference_is_halves : PipeReferenceIsHalves
pipe_reference_is_halves full xs r n ok e =
    let h = kept Pipe full SixteenBits (Halves 1100) (Halves 1102) (converted full) none serves raised lowered xs r n ok e in
    (h.halves, h.value)
