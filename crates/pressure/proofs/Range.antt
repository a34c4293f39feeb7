-- The reference stays between −0.5 and 551.5: a sum or a difference that lies between them is not rounded past them.
use mathlib.Core.Path.{◌≡◌, refl, sym, ap, ◌∙◌, subst}
use mathlib.Core.List.{List, [], ◌∷◌}
use Prim.Native.Nat.{ℕ, zero, suc, ◌+◌, ◌-◌, ◌*◌, ◌^◌, ◌≤◌, ◌<◌}
use native.Mathlib.Nat.{le_of_lt, le_of_eq, one-mul, mul-one, mul-pos, mul-le-mul_right, lt_of_mul-lt-mul_right}
use native.Mathlib.Decide.{dec_lt}
use native.Mathlib.Omega.{arith}
use mathlib.Core.Bool.{Bool, true, false, ◌&&◌, ◌||◌, cond, true≢false, false≢true}
use borrow.Author.Tests.{lt-ltb, le-ltb, ltb-true, eq-eqb}
use lib.Dec.{T, ltb, eqb, ltb→lt, eqb→eq, lit<, lit≤}
use lib.IntN.{ℤ, pos, negsuc}
use lib.Ieee.{Float, nan, inf, fin, Format, binary32, prec, emax, low, up, down, odd, units, round, neg, sum, add, sub, mul, lt, le, of_int, div}
use lib.Ieee.Exact.{HasValue}
use lib.Ieee.Fits.{down_pos, round_is}
use lib.Ieee.Order.{kept, drop, round_mono}
use Rattle.pressure.specs.Convert.{kpa, halved_of, counted_of, limited_of, cylinder_of, converted_of}
use Rattle.pressure.specs.Claims.{Each, ReferenceStaysInRange}
use Rattle.pressure.proofs.Rounding.{add_at, sub_at, sum_plus, sum_above, sum_below}
use Rattle.pressure.proofs.Halves.{halving_is_exact}
use Rattle.pressure.proofs.Keeping.{kept as always}
use Rattle.pressure.specs.declared.Feed.{Feed}
use Rattle.pressure.specs.declared.Feed.TheVariants.{Pipe, Cylinder}

-- a number from −0.5 to 551.5
abbrev InRange : Float → Type 0
InRange nan = ⊥
InRange (inf s) = ⊥
InRange (fin false m e) = m * up e * 2 ≤ 1103 * down e
InRange (fin true m e) = m * up e * 2 ≤ down e

-- ---- rounding: the sign stays, and so does a bound that is an f32 itself
units_neg : (f : Format) (q k : ℕ) → units f true q k ≡ neg (units f false q k)
unfolding units odd neg
units_neg f q k = go (ltb (q * 2 ^ k) (2 ^ (low f + suc (emax f)))) q
  where
    go : (b : Bool) (q : ℕ) → cond b (odd (suc (prec f)) true q k (low f)) (inf true) ≡ neg (cond b (odd (suc (prec f)) false q k (low f)) (inf false))
    go true zero = refl
    go true (suc q) = refl
    go false q = refl

round_neg : (f : Format) (a c : ℕ) → round f true a c ≡ neg (round f false a c)
round_neg f a c =
    round_is f true a c
    ∙ units_neg f (kept (prec f) (a * 2 ^ low f) c) (drop (prec f) (a * 2 ^ low f) c)
    ∙ ap neg (sym (round_is f false a c))

-- no NaN, and of sign false
abbrev Unsigned : Float → Type 0
Unsigned nan = ⊥
Unsigned (inf s) = s ≡ false
Unsigned (fin s m e) = s ≡ false

units_unsigned : (f : Format) (q k : ℕ) → Unsigned (units f false q k)
unfolding units odd
units_unsigned f q k = go (ltb (q * 2 ^ k) (2 ^ (low f + suc (emax f)))) q
  where
    go : (b : Bool) (q : ℕ) → Unsigned (cond b (odd (suc (prec f)) false q k (low f)) (inf false))
    go true zero = refl
    go true (suc q) = refl
    go false q = refl

-- a float from 0 to n / 2
abbrev UpTo : ℕ → Float → Type 0
UpTo n nan = ⊥
UpTo n (inf s) = ⊥
UpTo n (fin s m e) = (s ≡ false) × (m * up e * 2 ≤ n * down e)

le_tests : (a b : ℕ) → T (ltb a b || (eqb a b && true)) → a ≤ b
le_tests a b t = go (ltb a b) (eqb a b) (ltb→lt a b) (eqb→eq a b) t
  where
    go : (x y : Bool) → (T x → a < b) → (T y → a ≡ b) → T (x || (y && true)) → a ≤ b
    go true y l e t = le_of_lt (l tt)
    go false true l e t = le_of_eq (e tt)
    go false false l e t = absurd t

up_to : (x : Float) (n : ℕ) → Unsigned x → T (le x (fin false n (negsuc 0))) → UpTo n x
unfolding le
up_to nan n u t = absurd u
up_to (inf false) n u t = absurd t
up_to (inf true) n u t = absurd (true≢false u)
up_to (fin true m e) n u t = absurd (true≢false u)
up_to (fin false m e) n u t = (refl, rw mul-one at (le_tests (m * up e * 2) (n * 1 * down e) t))

-- a fraction up to n / 2, n / 2 being an f32, rounds to no more
round_up_to : (a c n : ℕ) → 0 < c → a * 2 ≤ n * c → round binary32 false n 2 ≡ fin false n (negsuc 0) → UpTo n (round binary32 false a c)
round_up_to a c n C h is =
    up_to (round binary32 false a c) n
    (subst Unsigned (sym (round_is binary32 false a c)) (units_unsigned binary32 (kept 24 (a * 2 ^ 149) c) (drop 24 (a * 2 ^ 149) c)))
    (subst (λ (y : Float). T (le (round binary32 false a c) y)) is (round_mono binary32 a c n 2 C (lit< tt) h))

in_range_plus : (x : Float) → UpTo 1103 x → InRange x
in_range_plus (fin false m e) h = h.1
in_range_plus (fin true m e) h = absurd (true≢false h.0)
in_range_plus nan h = elim h [ ]
in_range_plus (inf _) h = elim h [ ]

in_range_minus : (x : Float) → UpTo 1 x → InRange (neg x)
unfolding neg
in_range_minus (fin false m e) h = rw one-mul at h.1
in_range_minus (fin true m e) h = absurd (true≢false h.0)
in_range_minus nan h = elim h [ ]
in_range_minus (inf _) h = elim h [ ]

highest : round binary32 false 1103 2 ≡ fin false 1103 (negsuc 0)
unfolding round
highest = refl

lowest : round binary32 false 1 2 ≡ fin false 1 (negsuc 0)
unfolding round
lowest = refl

rounds_plus : (a c : ℕ) → 0 < c → a * 2 ≤ 1103 * c → InRange (round binary32 false a c)
rounds_plus a c C h = in_range_plus (round binary32 false a c) (round_up_to a c 1103 C h highest)

rounds_minus : (a c : ℕ) → 0 < c → a * 2 ≤ c → InRange (round binary32 true a c)
rounds_minus a c C h =
    subst InRange (sym (round_neg binary32 a c)) (in_range_minus (round binary32 false a c) (round_up_to a c 1 C (rw one-mul h) lowest))

-- ---- P_INT from a conversion
abbrev IsLimited : Float → Type 0
IsLimited nan = ⊥
IsLimited (inf s) = ⊥
IsLimited (fin true m e) = ⊥
IsLimited (fin false m e) = m * up e ≤ 550 * down e

limited_limits : (y : Float) → IsLimited (limited_of y)
unfolding limited_of of_int lt
limited_limits nan = lit≤ tt
limited_limits (inf true) = lit≤ tt
limited_limits (inf false) = lit≤ tt
limited_limits (fin true m e) = lit≤ tt
limited_limits (fin false m e) = go (ltb (0 * down e) (m * up e * 1)) (ltb (m * up e * 1) (550 * down e)) (ltb→lt (m * up e * 1) (550 * down e))
  where
    go : (b d : Bool) → (T d → m * up e * 1 < 550 * down e) → IsLimited (cond b (cond d (fin false m e) (fin false 275 (pos 1))) (fin false 0 (pos 0)))
    go true true h = let l = h tt in omega arith
    go true false h = lit≤ tt
    go false d h = lit≤ tt

converted_limits : (feed : Feed) (full : ℕ) (x : Float) → IsLimited (converted_of feed full x)
unfolding converted_of cylinder_of
converted_limits Pipe full x = limited_limits x
converted_limits Cylinder full x = limited_limits (sub binary32 (kpa 500) (div binary32 (mul binary32 (kpa 150) (counted_of x)) (kpa full)))

limited_in_range : (p : Float) → IsLimited p → InRange p
limited_in_range (fin false m e) h = omega arith
limited_in_range nan h = elim h [ ]
limited_in_range (inf _) h = elim h [ ]
limited_in_range (fin true m e) h = elim h [ ]

-- ---- the change

-- what a fin is, as a fraction
own_value : (s : Bool) (m : ℕ) (e : ℤ) → HasValue (fin s m e) s (m * up e) (down e)
own_value s m e = (refl, refl)

-- below a limited pressure 1.5 can be added
raised : (r p : Float) → InRange r → IsLimited p → lt r p ≡ true → InRange (add binary32 r (halved_of (pos 3)))
unfolding lt
raised (fin false m e) (fin false n d) h l t =
    let M = m * up e in
    let D = down e in
    let low : M < 550 * D =
    lt_of_mul-lt-mul_right (down d) (omega (arith, ltb-true (M * down d) (n * up d * D) t, mul-le-mul_right D l)) in
    rw (add_at binary32 (fin false m e) (halved_of (pos 3)) false false M D 3 2 (down_pos e) (lit< tt) (own_value false m e) (halving_is_exact (pos 3) (lit< tt)))
    (rw (sum_plus binary32 (M * 2) (3 * D) (D * 2)) (rounds_plus (M * 2 + 3 * D) (D * 2) (mul-pos (down_pos e) (lit< tt)) (omega arith)))
raised (fin true m e) (fin false n d) h l t =
    let M = m * up e in
    let D = down e in
    let D-pos : 0 < D = down_pos e in
    let less : M * 2 < 3 * D = omega arith in
    rw (add_at binary32 (fin true m e) (halved_of (pos 3)) true false M D 3 2 D-pos (lit< tt) (own_value true m e) (halving_is_exact (pos 3) (lit< tt)))
    (unfold sum in rw (lt-ltb (M * 2) (3 * D) less) (rounds_plus (3 * D - M * 2) (D * 2) (mul-pos (down_pos e) (lit< tt)) (omega arith)))
raised nan p h l t = elim h [ ]
raised (inf _) p h l t = elim h [ ]
raised (fin false m e) nan h l t = elim l [ ]
raised (fin false m e) (inf _) h l t = elim l [ ]
raised (fin false m e) (fin true n d) h l t = elim l [ ]
raised (fin true m e) nan h l t = elim l [ ]
raised (fin true m e) (inf _) h l t = elim l [ ]
raised (fin true m e) (fin true n d) h l t = elim l [ ]

-- above a limited pressure 0.5 can be taken
lowered : (r p : Float) → InRange r → IsLimited p → lt p r ≡ true → InRange (sub binary32 r (halved_of (pos 1)))
unfolding lt
lowered (fin false m e) (fin false n d) h l t =
    let M = m * up e in
    let D = down e in
    rw (sub_at binary32 (fin false m e) (halved_of (pos 1)) false false M D 1 2 (down_pos e) (lit< tt) (own_value false m e) (halving_is_exact (pos 1) (lit< tt)))
    (elim (dec_lt (M * 2) (1 * D)) [
      | yes k ↦ rw (sum_below binary32 (M * 2) (1 * D) (D * 2) k) (rounds_minus (1 * D - M * 2) (D * 2) (mul-pos (down_pos e) (lit< tt)) (omega arith))
      | no k ↦
          rw (sum_above binary32 (M * 2) (1 * D) (D * 2) (omega arith))
          (rounds_plus (M * 2 - 1 * D) (D * 2) (mul-pos (down_pos e) (lit< tt)) (omega arith))
    ])
lowered (fin true m e) (fin false n d) h l t = absurd (false≢true t)
lowered nan p h l t = elim h [ ]
lowered (inf _) p h l t = elim h [ ]
lowered (fin false m e) nan h l t = elim l [ ]
lowered (fin false m e) (inf _) h l t = elim l [ ]
lowered (fin false m e) (fin true n d) h l t = elim l [ ]
lowered (fin true m e) nan h l t = elim l [ ]
lowered (fin true m e) (inf _) h l t = elim l [ ]
lowered (fin true m e) (fin true n d) h l t = elim l [ ]

none : InRange (kpa 0)
unfolding of_int
none = lit≤ tt

-- ---- the range, as comparisons of floats
at_least : (r : Float) → InRange r → T (le (fin true 1 (negsuc 0)) r)
unfolding le
at_least (fin true m e) h =
    elim (dec_lt (m * up e * 2) (1 * down e)) [
      | yes l ↦ rw (lt-ltb (m * up e * 2) (1 * down e) l) tt
      | no l ↦ rw (le-ltb (m * up e * 2) (1 * down e) (omega arith), eq-eqb (1 * down e) (m * up e * 2) (omega arith)) tt
    ]
at_least (fin false m e) h = rw (lt-ltb 0 (1 * down e + m * up e * 2) (omega (arith, down_pos e))) tt
at_least nan h = elim h [ ]
at_least (inf _) h = elim h [ ]

at_most : (r : Float) → InRange r → T (le r (fin false 1103 (negsuc 0)))
unfolding le
at_most (fin true m e) h = rw (lt-ltb 0 (m * up e * 2 + 1103 * down e) (omega (arith, down_pos e))) tt
at_most (fin false m e) h =
    elim (dec_lt (m * up e * 2) (1103 * down e)) [
      | yes l ↦ rw (lt-ltb (m * up e * 2) (1103 * down e) l) tt
      | no l ↦ rw (le-ltb (m * up e * 2) (1103 * down e) (omega arith), eq-eqb (m * up e * 2) (1103 * down e) (omega arith)) tt
    ]
at_most nan h = elim h [ ]
at_most (inf _) h = elim h [ ]

in_half_kpa : (r : Float) → InRange r → T (le (halved_of (negsuc 0)) r) × T (le r (halved_of (pos 1103)))
unfolding halved_of of_int div
in_half_kpa r h = (at_least r h, at_most r h)

each : (xs : List ℤ) → Each (λ x. Unit {0}) xs
each [] = tt
each (x ∷ xs) = (tt, each xs)

pub reference_stays_in_range : ReferenceStaysInRange
reference_stays_in_range feed full xs r n e =
    in_half_kpa r
    (always feed full (λ x. Unit {0}) IsLimited InRange (λ x _. converted_limits feed full (halved_of x)) none limited_in_range raised lowered xs r n (each xs) e)
