-- The causes, the messages and the offer as numbers: every set of causes and every message is tried.
use mathlib.Core.Path.{◌≡◌, refl, sym}
use Prim.Native.Nat.{ℕ, zero, suc, ◌+◌, ◌/◌, ◌%◌, ◌<◌, ◌≤◌}
use native.Mathlib.Nat.{suc_inj, suc-ne-zero}
use mathlib.Core.Bool.{Bool, true, false, not, ◌&&◌}
use mathlib.Core.List.{List, [], ◌∷◌}
use lib.Dec.{eqb, ltb, lit≤}
use lib.ListN.{length, get_or}
use borrow.Author.Tests.{eqb-true, ltb-true}
use Rattle.rules.specs.Numbers.{order_number, bit_number}
use Rattle.rules.specs.Operands.{bit_of}
use Rattle.rules.specs.Places.{any_of, all_of}
use Rattle.rules.specs.Table.{causes, stands, stands_with, order_of}
use Rattle.rules.specs.Reports.{bit_value, causes_number}
use Rattle.rules.specs.Written.{strongest}
use Rattle.rules.specs.declared.Cause.{Cause}
use Rattle.rules.specs.declared.Causes.{Causes}
use Rattle.rules.proofs.Tests.{and_left, and_right, joined_first, joined_each}
use Rattle.rules.proofs.Claims.{all_holds}
use Rattle.rules.proofs.Columns.{listed}

-- ---- a test tried at every list of so many bits

abbrev tried : ℕ → (List Bool → Bool) → Bool
tried zero test = test []
tried (suc n) test = tried n (λ bits. test (true ∷ bits)) && tried n (λ bits. test (false ∷ bits))

passes : (n : ℕ) (test : List Bool → Bool) → tried n test ≡ true → (bits : List Bool) → length bits ≡ n → test bits ≡ true
passes zero test e [] h = e
passes zero test e (bit ∷ bits) h = absurd (suc-ne-zero _ h)
passes (suc n) test e [] h = absurd (suc-ne-zero _ (sym h))
passes (suc n) test e (true ∷ bits) h =
    passes n (λ rest. test (true ∷ rest)) (and_left (tried n (λ rest. test (true ∷ rest))) (tried n (λ rest. test (false ∷ rest))) e)
    bits (suc_inj h)
passes (suc n) test e (false ∷ bits) h =
    passes n (λ rest. test (false ∷ rest)) (and_right (tried n (λ rest. test (true ∷ rest))) (tried n (λ rest. test (false ∷ rest))) e)
    bits (suc_inj h)

abbrev same : Bool → Bool → Bool
same true b = b
same false b = not b

same_is : (a b : Bool) → same a b ≡ true → a ≡ b
same_is true b e = sym e
same_is false true e = e
same_is false false e = refl

-- ---- the causes

-- each cause is its bit, there is no other bit, and the order is the strongest of the written table
abbrev is_written : Causes → Bool
is_written c =
    all_of (λ cause. same (bit_of (bit_number cause) (causes_number c)) (stands c cause)) causes
    && ltb (causes_number c) 4096
    && eqb (order_number (order_of true c)) (strongest true (causes_number c))
    && eqb (order_number (order_of false c)) (strongest false (causes_number c))

-- the causes of twelve bits
abbrev causes_are : List Bool → Causes
causes_are bits = record {
  overspeed = get_or bits 0 false;
  excess = get_or bits 1 false;
  full = get_or bits 2 false;
  soft = get_or bits 3 false;
  emergency = get_or bits 4 false;
  aimed = get_or bits 5 false;
  unexpected = get_or bits 6 false;
  speed = get_or bits 7 false;
  landslide = get_or bits 8 false;
  balise = get_or bits 9 false;
  rolling = get_or bits 10 false;
  service = get_or bits 11 false;
}

abbrev bits_of : Causes → List Bool
bits_of c =
    c.overspeed
    ∷ c.excess
    ∷ c.full
    ∷ c.soft
    ∷ c.emergency
    ∷ c.aimed
    ∷ c.unexpected
    ∷ c.speed
    ∷ c.landslide
    ∷ c.balise
    ∷ c.rolling
    ∷ c.service
    ∷ []

all_written : tried 12 (λ bits. is_written (causes_are bits)) ≡ true
unfolding any_of all_of causes_number order_of stands_with
all_written = refl

is_written_lem : (c : Causes) → is_written c ≡ true
is_written_lem c = passes 12 (λ bits. is_written (causes_are bits)) all_written (bits_of c) refl

module _ (c : Causes) where
  abbrev number : ℕ
  number = causes_number c

  abbrev bits_are : Bool
  bits_are = all_of (λ cause. same (bit_of (bit_number cause) number) (stands c cause)) causes

  abbrev strongest_is : Bool → Bool
  strongest_is softly = eqb (order_number (order_of softly c)) (strongest softly number)

  pub bit_stands : (cause : Cause) → bit_of (bit_number cause) number ≡ stands c cause
  bit_stands cause =
      let e = and_left bits_are (ltb number 4096) (and_left _ (strongest_is true) (and_left _ (strongest_is false) (is_written_lem c))) in
      same_is _ _ (all_holds (λ each. same (bit_of (bit_number each) number) (stands c each)) causes e cause (listed cause))

  pub twelve_bits : number < 4096
  twelve_bits =
      ltb-true number 4096
      (and_right bits_are (ltb number 4096) (and_left _ (strongest_is true) (and_left _ (strongest_is false) (is_written_lem c))))

  pub order_strongest : (softly : Bool) → order_number (order_of softly c) ≡ strongest softly number
  order_strongest true =
      eqb-true (order_number (order_of true c)) (strongest true number)
      (and_right (bits_are && ltb number 4096) (strongest_is true) (and_left _ (strongest_is false) (is_written_lem c)))
  order_strongest false =
      eqb-true (order_number (order_of false c)) (strongest false number)
      (and_right (bits_are && ltb number 4096 && strongest_is true) (strongest_is false) (is_written_lem c))

-- ---- messages, and the offer

-- seven bits, and two
abbrev seven : List Bool → ℕ
seven bits =
    bit_value (get_or bits 0 false) 0
    + bit_value (get_or bits 1 false) 1
    + bit_value (get_or bits 2 false) 2
    + bit_value (get_or bits 3 false) 3
    + bit_value (get_or bits 4 false) 4
    + bit_value (get_or bits 5 false) 5
    + bit_value (get_or bits 6 false) 6

abbrev is_seven : List Bool → Bool
is_seven bits =
    same (bit_of 0 (seven bits)) (get_or bits 0 false)
    && same (bit_of 1 (seven bits)) (get_or bits 1 false)
    && same (bit_of 2 (seven bits)) (get_or bits 2 false)
    && same (bit_of 3 (seven bits)) (get_or bits 3 false)
    && same (bit_of 4 (seven bits)) (get_or bits 4 false)
    && same (bit_of 5 (seven bits)) (get_or bits 5 false)
    && same (bit_of 6 (seven bits)) (get_or bits 6 false)
    && ltb (seven bits) 128
    && eqb (seven bits % 8) (bit_value (get_or bits 0 false) 0 + bit_value (get_or bits 1 false) 1 + bit_value (get_or bits 2 false) 2)
    && eqb (seven bits / 64) (bit_value (get_or bits 6 false) 0)

all_seven : tried 7 is_seven ≡ true
all_seven = refl

pub record SevenBits (a b c d e f g : Bool) (n : ℕ) : Type 0 where
  pub first : bit_of 0 n ≡ a
  pub second : bit_of 1 n ≡ b
  pub third : bit_of 2 n ≡ c
  pub fourth : bit_of 3 n ≡ d
  pub fifth : bit_of 4 n ≡ e
  pub sixth : bit_of 5 n ≡ f
  pub seventh : bit_of 6 n ≡ g
  pub most : n < 128
  pub low : n % 8 ≡ bit_value a 0 + bit_value b 1 + bit_value c 2
  pub high : n / 64 ≡ bit_value g 0

pub seven_bits : (a b c d e f g : Bool)
    → SevenBits a b c d e f g (bit_value a 0 + bit_value b 1 + bit_value c 2 + bit_value d 3 + bit_value e 4 + bit_value f 5 + bit_value g 6)
seven_bits a b c d e f g =
    let bits = a ∷ b ∷ c ∷ d ∷ e ∷ f ∷ g ∷ [] in
    let n = seven bits in
    let rest : List Bool =
    same (bit_of 1 n) b
    ∷ same (bit_of 2 n) c
    ∷ same (bit_of 3 n) d
    ∷ same (bit_of 4 n) e
    ∷ same (bit_of 5 n) f
    ∷ same (bit_of 6 n) g
    ∷ ltb n 128
    ∷ eqb (n % 8) (bit_value a 0 + bit_value b 1 + bit_value c 2)
    ∷ eqb (n / 64) (bit_value g 0)
    ∷ [] in
    let holds = passes 7 is_seven all_seven bits refl in
    let t = joined_each (same (bit_of 0 n) a) rest holds in
    record {
      first = same_is (bit_of 0 n) a (joined_first (same (bit_of 0 n) a) rest holds);
      second = same_is (bit_of 1 n) b (t 0);
      third = same_is (bit_of 2 n) c (t 1);
      fourth = same_is (bit_of 3 n) d (t 2);
      fifth = same_is (bit_of 4 n) e (t 3);
      sixth = same_is (bit_of 5 n) f (t 4);
      seventh = same_is (bit_of 6 n) g (t 5);
      most = ltb-true n 128 (t 6);
      low = eqb-true (n % 8) (bit_value a 0 + bit_value b 1 + bit_value c 2) (t 7);
      high = eqb-true (n / 64) (bit_value g 0) (t 8);
    }

pub two_bits : (a b : Bool) → let n = bit_value a 0 + bit_value b 1 in (bit_of 0 n ≡ a) × (bit_of 1 n ≡ b) × (n ≤ 3)
two_bits true true = (refl, refl, lit≤ tt)
two_bits true false = (refl, refl, lit≤ tt)
two_bits false true = (refl, refl, lit≤ tt)
two_bits false false = (refl, refl, lit≤ tt)
