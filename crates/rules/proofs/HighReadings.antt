-- A P_EXT past 16 bits is reported as the highest of 16 bits is: both lie above 955, where nothing else of them counts.
-- The statements on calls take any numbers as a command's bytes, so that such a P_EXT has its place in them.
use mathlib.Core.Path.{◌≡◌, refl, subst}
use Prim.Native.Nat.{ℕ, suc, ◌-◌, ◌*◌, ◌^◌, ◌≤◌, ◌<◌}
use native.Mathlib.Nat.{le_of_lt, le_of_eq, mul-pos}
use native.Mathlib.Decide.{dec_lt}
use native.Mathlib.Omega.{arith}
use mathlib.Core.Bool.{Bool, true, false, ◌&&◌, ◌||◌, true≢false, or-true}
use borrow.Author.Tests.{lt-ltb, le-ltb, ltb-true, ltb-false}
use lib.Dec.{T, ltb, eqb, ltb→lt, eqb→eq, lit<, lit≤}
use lib.IntN.{ℤ, pos, negsuc, ◌-ℤ◌}
use lib.Pow.{pow_pos}
use lib.Ieee.{Float, nan, inf, fin, binary32, up, down, round, of_int, div, lt, le, neg}
use lib.Ieee.Fits.{down_pos}
use lib.Ieee.Order.{round_mono}
use Rattle.wire.specs.Numbers.{signed}
use Rattle.pressure.specs.declared.Feed.{Feed}
use Rattle.pressure.specs.declared.Phase.{Phase}
use Rattle.pressure.specs.declared.Pressures.{Pressures}
use Rattle.pressure.specs.Convert.{kpa, halved_of, is_low, is_high, sensor_fault, limited_of, counted_of, cylinder_of, converted_of, pressure_of}
use Rattle.pressure.specs.Exact.{SixteenBits}
use Rattle.pressure.specs.Report.{pressure_at, phase_after, reported}
use Rattle.rules.proofs.Tests.{cond_by}

-- ---- an f32 from a power of two up

-- x is k or more, or infinite
abbrev AtLeast : ℕ → Float → Type 0
AtLeast k nan = ⊥
AtLeast k (inf s) = s ≡ false
AtLeast k (fin s m e) = (s ≡ false) × (k * down e ≤ m * up e)

le_told : (a b : ℕ) → T (ltb a b || (eqb a b && true)) → a ≤ b
le_told a b t = go (ltb a b) (eqb a b) (ltb→lt a b) (eqb→eq a b) t
  where
    go : (x y : Bool) → (T x → a < b) → (T y → a ≡ b) → T (x || (y && true)) → a ≤ b
    go true y l e t = le_of_lt (l tt)
    go false true l e t = le_of_eq (e tt)
    go false false l e t = absurd t

-- a number above 0 is no -0
not_zero : (a b : ℕ) → 0 < a → T (eqb a b && eqb a 0) → ⊥
not_zero a b h t = go (eqb a b) (eqb a 0) (eqb→eq a 0) t
  where
    go : (x y : Bool) → (T y → a ≡ 0) → T (x && y) → ⊥
    go true true z t = let e = z tt in omega arith
    go true false z t = t
    go false y z t = t

at_least : (i : ℕ) (x : Float) → T (le (fin false 1 (pos i)) x) → AtLeast (2 ^ i) x
unfolding le
at_least i nan t = t
at_least i (inf true) t = absurd t
at_least i (inf false) t = refl
at_least i (fin true m e) t =
    let some : 0 < 1 * 2 ^ i = omega (arith, pow_pos i) in
    absurd (not_zero (1 * 2 ^ i * down e) (m * up e * 1) (mul-pos some (down_pos e)) t)
at_least i (fin false m e) t = (refl, omega (arith, le_told (1 * 2 ^ i * down e) (m * up e * 1) t))

-- what is rounded from there up stays there
rounds : (i a c : ℕ) → round binary32 false (2 ^ i) 1 ≡ fin false 1 (pos i) → 0 < c → 2 ^ i * c ≤ a
    → AtLeast (2 ^ i) (round binary32 false a c)
rounds i a c is C l =
    at_least i (round binary32 false a c)
    (subst (λ (x : Float). T (le x (round binary32 false a c))) is (round_mono binary32 (2 ^ i) 1 a c (lit< tt) C (omega arith)))

-- from 2,048 half kPa up the pressure is 1,024 kPa or more
halves : (x : Float) → AtLeast 2048 x → AtLeast 1024 (div binary32 x (kpa 2))
unfolding div of_int
halves (inf false) h = refl
halves (inf true) h = h
halves (fin false m e) h =
    rounds 10 (m * up e * 1) (1 * 2 * down e) (unfold round in refl) (omega (arith, down_pos e)) (omega (arith, h.1))
halves (fin true m e) h = absurd (true≢false h.0)
halves nan h = elim h [ ]

halved : (n : ℕ) → 2048 ≤ n → AtLeast 1024 (halved_of (pos n))
unfolding halved_of of_int
halved n h = halves (of_int binary32 (pos n)) (rounds 11 n 1 (unfold round in refl) (lit< tt) (omega arith))

-- ---- reports above 955

pub record High (h : Float) : Type 0 where
  pub low : is_low h ≡ false
  pub high : is_high h ≡ true
  pub limited : limited_of h ≡ kpa 550

is_high_lem : (x : Float) → AtLeast 1024 x → High x
unfolding is_low is_high limited_of lt neg of_int round
is_high_lem (inf false) h = record { low = refl; high = refl; limited = refl }
is_high_lem (inf true) h = absurd (true≢false h)
is_high_lem (fin true m e) h = absurd (true≢false h.0)
is_high_lem (fin false m e) h =
    let some : 0 < down e = down_pos e in
    let enough : 1024 * down e ≤ m * up e = h.1 in
    record {
      low = refl;
      high = lt-ltb (955 * down e) (m * up e * 1) (omega arith);
      limited = rw (lt-ltb (0 * down e) (m * up e * 1) (omega arith), le-ltb (m * up e * 1) (550 * down e) (omega arith));
    }
is_high_lem nan h = elim h [ ]

high_reading : (n : ℕ) → 2048 ≤ n → High (halved_of (pos n))
high_reading n h = is_high_lem (halved_of (pos n)) (halved n h)

module _ (h k : Float) (s : High h) (t : High k) where
  counted_alike : counted_of h ≡ counted_of k
  unfolding counted_of
  counted_alike = rw (s.high, t.high, or-true (lt h (kpa 0)), or-true (lt k (kpa 0)))

  converted_alike : (feed : Feed) (full : ℕ) → converted_of feed full h ≡ converted_of feed full k
  unfolding converted_of cylinder_of
  converted_alike Feed.Pipe full = rw (s.limited, t.limited)
  converted_alike Feed.Cylinder full = rw counted_alike

  pressure_alike : (feed : Feed) (full : ℕ) (reference : Float)
      → pressure_of feed full h reference ≡ pressure_of feed full k reference
  unfolding pressure_of
  pressure_alike feed full reference = rw (s.low, t.low, converted_alike feed full)

  fault_alike : sensor_fault h ≡ sensor_fault k
  unfolding sensor_fault
  fault_alike = rw (s.low, t.low, s.high, t.high)

reported_alike : (phase : Phase) (pressures : Pressures) (feed : Feed) (full : ℕ) (x y : ℤ) → High (halved_of x) → High (halved_of y)
    → reported phase pressures feed full x ≡ reported phase pressures feed full y
unfolding reported phase_after pressure_at
reported_alike phase pressures feed full x y h k =
    rw (pressure_alike (halved_of x) (halved_of y) h k feed full pressures.reference, fault_alike (halved_of x) (halved_of y) h k)

-- ---- a reading of 16 bits that is reported as this one is

pub record Alike (x : ℤ) : Type 0 where
  pub reading : ℤ
  pub width : SixteenBits reading
  pub same : (phase : Phase) (pressures : Pressures) (feed : Feed) (full : ℕ)
      → reported phase pressures feed full x ≡ reported phase pressures feed full reading

itself : (x : ℤ) → SixteenBits x → Alike x
itself x h = record { reading = x; width = h; same = λ _ _ _ _. refl }

highest : (n : ℕ) → 2048 ≤ n → Alike (pos n)
highest n h = record {
  reading = pos 32767;
  width = lit< tt;
  same = λ phase pressures feed full. reported_alike phase pressures feed full (pos n) (pos 32767) (high_reading n h) (high_reading 32767 (lit≤ tt));
}

not_negative : (n : ℕ) → Alike (pos n)
not_negative n = elim (dec_lt n 32768) [ yes h ↦ itself (pos n) h | no h ↦ highest n (omega arith) ]

-- two bytes as a signed number, whatever they hold
past_half : (x : ℕ) → 32768 ≤ x → Alike (pos x -ℤ pos 65536)
past_half x h =
    cond_by Alike (ltb x 65536) (negsuc (65536 - suc x)) (pos (x - 65536)) (λ _. itself (negsuc (65536 - suc x)) (omega arith))
    (λ _. not_negative (x - 65536))

pub signed_alike : (x : ℕ) → Alike (signed 65536 x)
unfolding signed
signed_alike x =
    cond_by Alike (ltb x 32768) (pos x) (pos x -ℤ pos 65536) (λ t. itself (pos x) (ltb-true x 32768 t))
    (λ t. past_half x (ltb-false x 32768 t))
