-- Laws of `lib.Ieee` over either format. `HasValue x s a c` says that x is the number a / c with the sign s.
-- What an operation or a comparison gives for operands known by their values, how far a rounded fraction lies from the exact one, and halves.
use mathlib.Core.Path.{◌≡◌, refl, sym, ap, ap₂, ◌∙◌, subst}
use mathlib.Core.Bool.{Bool, true, false, not, ◌&&◌, cond}
use Prim.Native.Nat.{ℕ, suc, ◌+◌, ◌-◌, ◌*◌, ◌/◌, ◌%◌, ◌^◌, ◌≤◌, ◌<◌, compare, Ordering}
use native.Mathlib.Nat.{le_trans, le_of_eq, lt_of_lt_of_le, not-le_of_lt, mul-one, mul_comm, mul_assoc, mul-sub, mul-pos, pow-succ'}
use native.Mathlib.Nat.{mod-lt, div-add-mod', div-lt_iff_lt-mul}
use native.Mathlib.Nat.{mul-le-mul_left, mul-le-mul_right, mul-lt-mul_of_pos_right, le_of_mul-le-mul_right, lt_of_mul-lt-mul_right, eq_of_mul-eq-mul_right}
use native.Mathlib.Decide.{dec_lt}
use native.Mathlib.Omega.{arith}
use borrow.Author.Tests.{lt-ltb, le-ltb, ne_eqb}
use lib.Dec.{T, is_le, compare_is_eq, ltb, leb→le, nleb→lt, eqb→eq, lit≤, lit<}
use lib.Pow.{pow_pos, pow_mono, shl_lt}
use lib.IntN.{pos, negsuc}
use lib.Ieee.{Float, fin, Format, binary32, binary64, prec, emax, low, unlike, up, down, below, nearest, round, sum, neg, add, sub, mul, div, lt, of_int}
use lib.Ieee.Digits.{size-le}
use lib.Ieee.Fits.{down_pos, round_is}
use lib.Ieee.Exact.{HasValue, units_val, round_exact}
use lib.Ieee.Back.{round_whole}
use lib.Ieee.Nearest.{closest}
use lib.Ieee.Order.{drop, kept}
use lib.Ieee.Scale.{grid, overflow, round_same}
use lib.Ieee.Positive.{first_pos}

-- ---- values

-- one value as two fractions
pub rescaled : (x : Float) (s : Bool) (a c b d : ℕ) → 0 < c → a * d ≡ b * c → HasValue x s a c → HasValue x s b d
rescaled (fin t m e) s a c b d C h v =
    (v.0, eq_of_mul-eq-mul_right c C (m * up e * d) (b * down e) (omega (arith, ap (λ (z : ℕ). z * d) v.1, ap (λ (z : ℕ). z * down e) h)))
rescaled lib.Ieee.nan s a c b d C h v = elim v [ ]
rescaled (lib.Ieee.inf _) s a c b d C h v = elim v [ ]

-- whole numbers up to 2 ^ prec are exact
pub whole_value : (f : Format) (n : ℕ) → n ≤ 2 ^ prec f → HasValue (of_int f (pos n)) false n 1
unfolding of_int
whole_value f n h = round_whole f false n h

-- the same below 0
pub negative_value : (f : Format) (n : ℕ) → suc n ≤ 2 ^ prec f → HasValue (of_int f (negsuc n)) true (suc n) 1
unfolding of_int
negative_value f n h = round_whole f true (suc n) h

-- the sign turned round
pub neg_value : (x : Float) (s : Bool) (a c : ℕ) → HasValue x s a c → HasValue (neg x) (not s) a c
unfolding neg
neg_value (fin t m e) s a c h = (ap not h.0, h.1)
neg_value lib.Ieee.nan s a c h = elim h [ ]
neg_value (lib.Ieee.inf _) s a c h = elim h [ ]

-- what a choice has for a value, if each part has it where the test picks that part
pub cond_value : (t : Bool) (x y : Float) (s : Bool) (a c : ℕ) → (t ≡ true → HasValue x s a c) → (t ≡ false → HasValue y s a c) → HasValue (cond t x y) s a c
cond_value true x y s a c h k = h refl
cond_value false x y s a c h k = k refl

-- ---- comparisons

-- p and q are to each other as a and b
scaled_ltb : (p q a b k l : ℕ) → 0 < k → 0 < l → p * k ≡ a * l → q * k ≡ b * l → ltb p q ≡ ltb a b
scaled_ltb p q a b k l K L e g = elim (dec_lt a b) [
  | yes h ↦ lt-ltb p q (lt_of_mul-lt-mul_right k (omega (arith, mul-lt-mul_of_pos_right h L))) ∙ sym (lt-ltb a b h)
  | no h ↦ let i : b ≤ a = omega arith in le-ltb p q (le_of_mul-le-mul_right (omega (arith, mul-le-mul_right l i)) K) ∙ sym (le-ltb a b i)
]

-- and so with signs
scaled_below : (s t : Bool) (p q a b k l : ℕ) → 0 < k → 0 < l → p * k ≡ a * l → q * k ≡ b * l → below s p t q ≡ below s a t b
scaled_below false false p q a b k l K L e g = scaled_ltb p q a b k l K L e g
scaled_below false true p q a b k l K L e g = refl
scaled_below true false p q a b k l K L e g = scaled_ltb 0 (p + q) 0 (a + b) k l K L (omega arith) (omega arith)
scaled_below true true p q a b k l K L e g = scaled_ltb q p b a k l K L g e

-- the order of two floats is that of their values
pub lt_at : (x y : Float) (s t : Bool) (a c b d : ℕ) → 0 < c → 0 < d → HasValue x s a c → HasValue y t b d → lt x y ≡ below s (a * d) t (b * c)
unfolding lt
lt_at (fin s' m e) (fin t' n g) s t a c b d C D h k =
    ap₂ (λ (i j : Bool). below i (m * up e * down g) j (n * up g * down e)) h.0 k.0
    ∙ scaled_below s t (m * up e * down g) (n * up g * down e) (a * d) (b * c) (c * d) (down e * down g) (mul-pos C D) (mul-pos (down_pos e) (down_pos g))
    (omega (arith, ap (λ (z : ℕ). z * (down g * d)) h.1)) (omega (arith, ap (λ (z : ℕ). z * (down e * c)) k.1))
lt_at lib.Ieee.nan y s t a c b d C D h k = elim h [ ]
lt_at (lib.Ieee.inf _) y s t a c b d C D h k = elim h [ ]
lt_at (fin s' m e) lib.Ieee.nan s t a c b d C D h k = elim k [ ]
lt_at (fin s' m e) (lib.Ieee.inf _) s t a c b d C D h k = elim k [ ]

-- a float below a whole number
pub lt_whole : (f : Format) (x : Float) (s : Bool) (n d k : ℕ) → 0 < d → k ≤ 2 ^ prec f → HasValue x s n d → lt x (of_int f (pos k)) ≡ below s n false (k * d)
lt_whole f x s n d k D K v = rw (lt_at x (of_int f (pos k)) s false n d k 1 D (lit< tt) v (whole_value f k K), mul-one n)

-- a whole number below a float
pub whole_lt : (f : Format) (x : Float) (s : Bool) (n d k : ℕ) → 0 < d → k ≤ 2 ^ prec f → HasValue x s n d → lt (of_int f (pos k)) x ≡ below false (k * d) s n
whole_lt f x s n d k D K v = rw (lt_at (of_int f (pos k)) x false s k 1 n d (lit< tt) D (whole_value f k K) v, mul-one n)

-- ---- the operations: each rounds the exact result of the values

pub mul_at : (f : Format) (x y : Float) (s t : Bool) (a c b d : ℕ) → 0 < c → 0 < d → HasValue x s a c → HasValue y t b d
    → mul f x y ≡ round f (unlike s t) (a * b) (c * d)
unfolding mul
mul_at f (fin s' m e) (fin t' n g) s t a c b d C D h k =
    ap₂ (λ (i j : Bool). round f (unlike i j) (m * up e * (n * up g)) (down e * down g)) h.0 k.0
    ∙ round_same f (unlike s t) (m * up e * (n * up g)) (down e * down g) (a * b) (c * d) (mul-pos (down_pos e) (down_pos g)) (mul-pos C D)
    (omega (arith, ap (λ (z : ℕ). z * (n * up g * d)) h.1, ap (λ (z : ℕ). z * (a * down e)) k.1))
mul_at f lib.Ieee.nan y s t a c b d C D h k = elim h [ ]
mul_at f (lib.Ieee.inf _) y s t a c b d C D h k = elim h [ ]
mul_at f (fin s' m e) lib.Ieee.nan s t a c b d C D h k = elim k [ ]
mul_at f (fin s' m e) (lib.Ieee.inf _) s t a c b d C D h k = elim k [ ]

-- m * e / g is b / c, above 0
some_digits : (m e b c g : ℕ) → 0 < b → 0 < g → m * e * c ≡ b * g → 0 < m * e
some_digits m e b c g B G h = first_pos (m * e) c (omega (arith, mul-pos B G))

-- by a number other than 0
pub div_at : (f : Format) (x y : Float) (s t : Bool) (a c b d : ℕ) → 0 < c → 0 < d → 0 < b → HasValue x s a c → HasValue y t b d
    → div f x y ≡ round f (unlike s t) (a * d) (b * c)
unfolding div
div_at f (fin s' m e) (fin t' n g) s t a c b d C D B h k =
    let N : 0 < n * up g = some_digits n (up g) b d (down g) B (down_pos g) k.1 in
    rw (ne_eqb n 0 (λ (z : n ≡ 0). not-le_of_lt (first_pos n (up g) N) (le_of_eq z)))
    (ap₂ (λ (i j : Bool). round f (unlike i j) (m * up e * down g) (n * up g * down e)) h.0 k.0
    ∙ round_same f (unlike s t) (m * up e * down g) (n * up g * down e) (a * d) (b * c) (mul-pos N (down_pos e)) (mul-pos B C)
    (omega (arith, ap (λ (z : ℕ). z * (b * down g)) h.1, ap (λ (z : ℕ). z * (a * down e)) k.1)))
div_at f lib.Ieee.nan y s t a c b d C D B h k = elim h [ ]
div_at f (lib.Ieee.inf _) y s t a c b d C D B h k = elim h [ ]
div_at f (fin s' m e) lib.Ieee.nan s t a c b d C D B h k = elim k [ ]
div_at f (fin s' m e) (lib.Ieee.inf _) s t a c b d C D B h k = elim k [ ]

-- a difference cut off at 0, times k
pub sub_mul : (p q k : ℕ) → (p - q) * k ≡ p * k - q * k
sub_mul p q k = mul_comm (p - q) k ∙ mul-sub k p q ∙ ap₂ (λ (i j : ℕ). i - j) (mul_comm k p) (mul_comm k q)

-- p and q are to each other as a and b: the difference too
scaled_sub : (p q a b k l : ℕ) → p * k ≡ a * l → q * k ≡ b * l → (p - q) * k ≡ (a - b) * l
scaled_sub p q a b k l e g = sub_mul p q k ∙ ap₂ (λ (i j : ℕ). i - j) e g ∙ sym (sub_mul a b l)

-- the sum of two fractions over k is that of the same two over l
pub scaled_sum : (f : Format) (s t : Bool) (p q k a b l : ℕ) → 0 < k → 0 < l → p * l ≡ a * k → q * l ≡ b * k → sum f s p t q k ≡ sum f s a t b l
unfolding sum
scaled_sum f s t p q k a b l K L e g =
    rw (
      scaled_ltb p q a b l k L K e g,
      scaled_ltb q p b a l k L K g e,
      round_same f s (p + q) k (a + b) l K L (omega arith),
      round_same f t (q - p) k (b - a) l K L (scaled_sub q p b a l k g e),
      round_same f (s && ltb b a) (p - q) k (a - b) l K L (scaled_sub p q a b l k e g),
    )

pub add_at : (f : Format) (x y : Float) (s t : Bool) (a c b d : ℕ) → 0 < c → 0 < d → HasValue x s a c → HasValue y t b d
    → add f x y ≡ sum f s (a * d) t (b * c) (c * d)
unfolding add
add_at f (fin s' m e) (fin t' n g) s t a c b d C D h k =
    ap₂ (λ (i j : Bool). sum f i (m * up e * down g) j (n * up g * down e) (down e * down g)) h.0 k.0
    ∙ scaled_sum f s t (m * up e * down g) (n * up g * down e) (down e * down g) (a * d) (b * c) (c * d) (mul-pos (down_pos e) (down_pos g)) (mul-pos C D)
    (omega (arith, ap (λ (z : ℕ). z * (down g * d)) h.1)) (omega (arith, ap (λ (z : ℕ). z * (down e * c)) k.1))
add_at f lib.Ieee.nan y s t a c b d C D h k = elim h [ ]
add_at f (lib.Ieee.inf _) y s t a c b d C D h k = elim h [ ]
add_at f (fin s' m e) lib.Ieee.nan s t a c b d C D h k = elim k [ ]
add_at f (fin s' m e) (lib.Ieee.inf _) s t a c b d C D h k = elim k [ ]

pub sub_at : (f : Format) (x y : Float) (s t : Bool) (a c b d : ℕ) → 0 < c → 0 < d → HasValue x s a c → HasValue y t b d
    → sub f x y ≡ sum f s (a * d) (not t) (b * c) (c * d)
unfolding sub
sub_at f x y s t a c b d C D h k = add_at f x (neg y) s (not t) a c b d C D h (neg_value y t b d k)

-- (a + b) / c
pub sum_plus : (f : Format) (a b c : ℕ) → sum f false a false b c ≡ round f false (a + b) c
unfolding sum
sum_plus f a b c = refl

-- (a - b) / c, where that is not below 0
pub sum_above : (f : Format) (a b c : ℕ) → b ≤ a → sum f false a true b c ≡ round f false (a - b) c
unfolding sum
sum_above f a b c h = rw (le-ltb a b h)

-- (a - b) / c, where that is below 0
pub sum_below : (f : Format) (a b c : ℕ) → a < b → sum f false a true b c ≡ round f true (b - a) c
unfolding sum
sum_below f a b c h = rw (lt-ltb a b h)

-- ---- how far rounding goes: to a whole number

-- x and y are no more than w apart
abbrev pub Apart : ℕ → ℕ → ℕ → Type 0
Apart x y w = (x ≤ y + w) × (y ≤ x + w)

-- w, moved up by one or not as 2r compares with b, is no more than a half from w + r / b
nearest_half : (w r b : ℕ) (o : Ordering) → r < b → (T (is_le o) → r * 2 ≤ b) → (T (not (is_le o)) → b < r * 2) → (T (compare_is_eq o) → r * 2 ≡ b)
    → Apart (2 * (nearest w o * b)) (2 * (w * b + r)) b
nearest_half w r b Ordering.lt R l g e = let i = l tt in omega arith
nearest_half w r b Ordering.eq R l g e = let i = e tt in omega (arith, mul-le-mul_right b (parity w))
  where
    parity : (n : ℕ) → n % 2 ≤ 1
    parity n = omega arith
nearest_half w r b Ordering.gt R l g e = let i = g tt in omega arith

-- the nearest whole number is no more than a half from a / b
pub closest_half : (a b : ℕ) → 0 < b → Apart (2 * (closest a b * b)) (2 * a) b
closest_half a b B =
    subst (λ (n : ℕ). Apart (2 * (closest a b * b)) (2 * n) b) (div-add-mod' a b)
    (nearest_half (a / b) (a % b) b (compare (a % b * 2) b) (mod-lt a B) (leb→le (a % b * 2) b) (nleb→lt (a % b * 2) b) (eqb→eq (a % b * 2) b))

-- ---- how far rounding goes: to a float, in units of the format's smallest value, 2 ^ -low

-- of p + k digits at most k are dropped
drop_le : (p k n c : ℕ) → 0 < c → n < 2 ^ (p + k) * c → drop p n c ≤ k
drop_le p k n c C h = room (size-le (n / c) (p + k) ((div-lt_iff_lt-mul C).1 h))
  where
    room : {z : ℕ} → z ≤ p + k → z - p ≤ k
    room l = omega arith

-- so what is kept is no more than half of 2 ^ k from n / c
kept_half : (p k n c : ℕ) → 0 < c → n < 2 ^ (p + k) * c → Apart (2 * (kept p n c * 2 ^ drop p n c * c)) (2 * n) (c * 2 ^ k)
kept_half p k n c C h =
    let j = drop p n c in
    wider (kept p n c) (2 ^ j) (2 ^ k) (closest_half n (c * 2 ^ j) (mul-pos C (pow_pos j))) (mul-le-mul_left c (pow_mono (drop_le p k n c C h)))
  where
    wider : (q i l : ℕ) → Apart (2 * (q * (c * i))) (2 * n) (c * i) → c * i ≤ c * l → Apart (2 * (q * i * c)) (2 * n) (c * l)
    wider q i l a w = omega arith

-- x is finite, a number of units that is no more than half of 2 ^ k from a / c
pub record Rounded (x : Float) (f : Format) (s : Bool) (a c k : ℕ) : Type 0 where
  pub units : ℕ
  pub value : HasValue x s units (2 ^ low f)
  pub near : Apart (2 * (units * c)) (2 * (a * 2 ^ low f)) (c * 2 ^ k)

-- what is that near to less than P is less than 2P
under_twice : (g n c P K : ℕ) → K ≤ P → n < P * c → 2 * (g * c) ≤ 2 * n + c * K → g < 2 * P
under_twice g n c P K k h l = lt_of_mul-lt-mul_right c (omega (arith, mul-le-mul_left c k))

-- a / c below 2 ^ (prec + k) units, rounded
pub round_near : (f : Format) (s : Bool) (a c k : ℕ) → 0 < c → suc (prec f + k) ≤ low f + suc (emax f) → a * 2 ^ low f < 2 ^ (prec f + k) * c
    → Rounded (round f s a c) f s a c k
round_near f s a c k C room h =
    let n = a * 2 ^ low f in
    let near = kept_half (prec f) k n c C h in
    let small : grid f a c < 2 * 2 ^ (prec f + k) = under_twice (grid f a c) n c (2 ^ (prec f + k)) (2 ^ k) (pow_mono (omega arith)) h near.0 in
    let under : grid f a c < overflow f = lt_of_lt_of_le small (le_trans (le_of_eq (sym (pow-succ' 2 (prec f + k)))) (pow_mono room)) in
    record {
      units = grid f a c;
      value = rw (round_is f s a c) (units_val f s (kept (prec f) n c) (drop (prec f) n c) under);
      near = near;
    }

-- of a number of units that is: no more than 2 ^ (k - 1) from it
pub near_units : {x : Float} {f : Format} {s : Bool} {n k : ℕ} (r : Rounded x f s n (2 ^ low f) (suc k)) → Apart r.units n (2 ^ k)
near_units {f = f} {n = n} {k = k} r = cancel r.units (2 ^ low f) (2 ^ k) (pow_pos (low f)) (rw (pow-succ' 2 k) at r.near)
  where
    cancel : (g u w : ℕ) → 0 < u → Apart (2 * (g * u)) (2 * (n * u)) (u * (2 * w)) → Apart g n w
    cancel g u w U h = (le_of_mul-le-mul_right {n = n + w} {k = u} (omega arith) U, le_of_mul-le-mul_right {n = g + w} {k = u} (omega arith) U)

-- ---- halves

-- half of a number below 2 ^ prec is exact
pub round_halves : (f : Format) (s : Bool) (n : ℕ) → n < 2 ^ prec f → HasValue (round f s n 2) s n 2
round_halves f s n h = round_exact f s n 2 n (low f - 1) (lit< tt) h (lt_of_lt_of_le (shl_lt (prec f) (low f - 1) h) (pow_mono (room f))) (half f)
  where
    room : (f : Format) → prec f + (low f - 1) ≤ low f + suc (emax f)
    room binary32 = lit≤ tt
    room binary64 = lit≤ tt

    half : (f : Format) → n * 2 ^ low f ≡ n * 2 ^ (low f - 1) * 2
    half binary32 = sym (mul_assoc n (2 ^ 148) 2)
    half binary64 = sym (mul_assoc n (2 ^ 1073) 2)
