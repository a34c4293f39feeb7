-- How far to a change: of a boundary, and of the computed interval. Assumes nothing.
use Prim.Native.Nat.{ℕ, zero, suc, max, ◌≤◌, ◌<◌, zero-le}
use mathlib.Core.Path.{◌≡◌, refl, sym, ◌∙◌, ap}
use mathlib.Core.Bool.{Bool, true, false, cond, not, ◌||◌, or-false}
use mathlib.Core.Logic.{inl, inr}
use native.Mathlib.Nat.{le_refl, le_antisymm, le_of_lt, lt_of_not-le, max-eq_left, max-eq_right}
use native.Mathlib.Decide.{dec_le}
use native.Mathlib.Omega.{arith}
use lib.Dec.{eqb, ltb, lit<}
use borrow.Author.Tests.{eq-eqb, ne_eqb, lt-ltb, le-ltb, ltb-true, ltb-false}
use Rattle.curve.specs.Boundary.{is_reached, is_reached_f}
use Rattle.interval.specs.Intervals.{last_reached, interval_of, rank_of}
use Rattle.curve.specs.Ground.{moved_by, never, most_before, reach_of, reach_of_f, left_of}
use Rattle.interval.specs.Changes.{is_changed, to_change}
use Rattle.curve.specs.Claims.{StaysFor}
use Rattle.interval.specs.Claims.{WeakerBraking, ChangeIsTold, NeverMeansNever}
use Rattle.curve.specs.declared.Curve.{Curve}
use Rattle.curve.specs.declared.Leads.{Leads}
use Rattle.curve.specs.declared.Braking.{Braking}
use Rattle.curve.specs.declared.Interval.{Interval}
use Rattle.curve.specs.declared.Interval.TheVariants.{A, Bf, B, C, D, E, F}
use Rattle.curve.proofs.Largest.{Monotone}
use Rattle.curve.proofs.Stricter.{longer_lead_is_reached, f_implies_e}
use Rattle.interval.proofs.Later.{interval_is_not_earlier}
use Rattle.curve.proofs.Reaching.{reached_on, f_reached_on, left_is_told, left_to_f_is_told}
use Rattle.curve.proofs.Ground.{most_same, further, moved_none, left_told}

-- ---- another interval is a later one

-- a train brakes no worse than itself
as_weak : (braking : Braking) → WeakerBraking braking braking
as_weak braking = record {
  level = le_refl _;
  leads = record { d = le_refl _; c = le_refl _; permitted = le_refl _; b = le_refl _; bf = le_refl _ };
  margin = le_refl _;
}

-- of two numbers of which the second is no lower, another is a higher one
other_higher : (x y : ℕ) → x ≤ y → not (eqb y x) ≡ ltb x y
other_higher x y h =
    elim (dec_le y x) [
      | yes g ↦ rw (eq-eqb y x (le_antisymm g h), le-ltb x y g)
      | no g ↦ rw (ne_eqb y x (λ e. g (rw e (le_refl x))), lt-ltb x y (lt_of_not-le g))
    ]

-- the interval of a rank
abbrev ranked : ℕ → Interval
ranked zero = A
ranked (suc zero) = Bf
ranked (suc (suc zero)) = B
ranked (suc (suc (suc zero))) = C
ranked (suc (suc (suc (suc zero)))) = D
ranked (suc (suc (suc (suc (suc zero))))) = E
ranked (suc (suc (suc (suc (suc (suc n)))))) = F

ranked_of : (interval : Interval) → ranked (rank_of interval) ≡ interval
ranked_of A = refl
ranked_of Bf = refl
ranked_of B = refl
ranked_of C = refl
ranked_of D = refl
ranked_of E = refl
ranked_of F = refl

pub same_rank : (x y : Interval) → rank_of x ≡ rank_of y → x ≡ y
same_rank x y e = sym (ranked_of x) ∙ ap ranked e ∙ ranked_of y

-- what stays so as another thing does
stays_as : {P Q : ℕ → Type 0} {distance n : ℕ} → ((m : ℕ) → P m → Q m) → ((m : ℕ) → Q m → P m) → StaysFor P distance n → StaysFor Q distance n
stays_as to from (inl c) = inl (record { within = c.within; stays = λ m h. to m (c.stays m h); changes = λ q. c.changes (from _ q) })
stays_as to from (inr c) = inr (record { told = c.told; stays = λ m. to m (c.stays m) })

module _ (curve : Curve) (braking : Braking) (v : ℕ) where
  abbrev now : Interval
  now = interval_of curve braking v

  abbrev then : ℕ → Interval
  then n = interval_of (moved_by curve n) braking v

  not_earlier : (i j : ℕ) → i ≤ j → rank_of (then i) ≤ rank_of (then j)
  not_earlier i j h =
      interval_is_not_earlier (moved_by curve i) (moved_by curve j) braking braking v v (further curve i j h) (as_weak braking) (le_refl v)

  not_before : (n : ℕ) → rank_of now ≤ rank_of (then n)
  not_before n = rw (ap (λ c. rank_of (interval_of c braking v)) (moved_none curve)) at (not_earlier 0 n zero-le)

  later_on : Monotone (λ n. ltb (rank_of now) (rank_of (then n)))
  later_on i j h e =
      lt-ltb (rank_of now) (rank_of (then j)) (omega (arith, not_earlier i j h, ltb-true (rank_of now) (rank_of (then i)) e))

  changed_later : (n : ℕ) → is_changed curve braking v n ≡ ltb (rank_of now) (rank_of (then n))
  unfolding is_changed
  changed_later n = other_higher (rank_of now) (rank_of (then n)) (not_before n)

  later_none : (n : ℕ) → ltb (rank_of now) (rank_of (then n)) ≡ false → then n ≡ now
  later_none n e = same_rank (then n) now (le_antisymm (ltb-false (rank_of now) (rank_of (then n)) e) (not_before n))

  none_later : (n : ℕ) → then n ≡ now → ltb (rank_of now) (rank_of (then n)) ≡ false
  none_later n e = le-ltb (rank_of now) (rank_of (then n)) (rw e (le_refl (rank_of now)))

pub change_is_told : ChangeIsTold
unfolding to_change
change_is_told curve braking v =
    let rank = rank_of (interval_of curve braking v) in
    rw (most_same (is_changed curve braking v) _ (changed_later curve braking v) curve.distance)
    (stays_as (later_none curve braking v) (none_later curve braking v)
    (left_told (λ c. ltb rank (rank_of (interval_of c braking v))) curve (later_on curve braking v) (le-ltb rank rank (le_refl rank))))

-- the number tells which of the two it is
told_apart : {Same : ℕ → Type 0} {distance n : ℕ} → distance ≤ never → StaysFor Same distance n
    → (n ≡ never → (m : ℕ) → Same m) × (((m : ℕ) → m ≤ distance → Same m) → n ≡ never)
told_apart {n = n} h (inl c) = (λ e. absurd (omega (arith, e, h, c.within)), λ same. absurd (c.changes (same (suc n) c.within)))
told_apart h (inr c) = (λ _. c.stays, λ _. c.told)

pub never_means_never : NeverMeansNever
never_means_never curve braking v h = told_apart h (change_is_told curve braking v)

-- ---- which boundary makes the change

-- the boundary of an interval, of all six
abbrev boundary_of : Interval → Bool → Bool → Bool → Bool → Bool → Bool → Bool
boundary_of A bf b c d e f = true
boundary_of Bf bf b c d e f = bf
boundary_of B bf b c d e f = b
boundary_of C bf b c d e f = c
boundary_of D bf b c d e f = d
boundary_of E bf b c d e f = e
boundary_of F bf b c d e f = f

-- that of the last one reached is reached
last_is_reached : (bf b c d e f : Bool) → boundary_of (last_reached bf b c d e f) bf b c d e f ≡ true
last_is_reached bf b c d e true = refl
last_is_reached bf b c d true false = refl
last_is_reached bf b c true false false = refl
last_is_reached bf b true false false false = refl
last_is_reached bf true false false false false = refl
last_is_reached true false false false false false = refl
last_is_reached false false false false false false = refl

-- where each of six tests passes if another one does, so does that of an interval
boundary_kept : {bf b c d e f bf' b' c' d' e' f' : Bool}
    → (bf ≡ true → bf' ≡ true) → (b ≡ true → b' ≡ true) → (c ≡ true → c' ≡ true)
    → (d ≡ true → d' ≡ true) → (e ≡ true → e' ≡ true) → (f ≡ true → f' ≡ true)
    → (i : Interval) → boundary_of i bf b c d e f ≡ true → boundary_of i bf' b' c' d' e' f' ≡ true
boundary_kept hbf hb hc hd he hf A p = refl
boundary_kept hbf hb hc hd he hf Bf p = hbf p
boundary_kept hbf hb hc hd he hf B p = hb p
boundary_kept hbf hb hc hd he hf C p = hc p
boundary_kept hbf hb hc hd he hf D p = hd p
boundary_kept hbf hb hc hd he hf E p = he p
boundary_kept hbf hb hc hd he hf F p = hf p

-- one more boundary in front of what is chosen from
chosen_later : (r : ℕ) (rest : Interval) {p : Bool} (t : Bool) (x : Interval) → r < rank_of x → ltb r (rank_of rest) ≡ p
    → ltb r (rank_of (cond t x rest)) ≡ (t || p)
chosen_later r rest true x h q = lt-ltb r (rank_of x) h
chosen_later r rest false x h q = q

module _ (bf b c d e f : Bool) where
  -- a boundary after that of an interval is reached
  abbrev after_reached : Interval → Bool
  after_reached A = f || (e || (d || (c || (b || (bf || false)))))
  after_reached Bf = f || (e || (d || (c || (b || false))))
  after_reached B = f || (e || (d || (c || false)))
  after_reached C = f || (e || (d || false))
  after_reached D = f || (e || false)
  after_reached E = f || false
  after_reached F = false

  -- what is chosen from Bf, from B and Bf, and so on
  abbrev from_bf : Interval
  from_bf = cond bf Bf A

  abbrev from_b : Interval
  from_b = cond b B from_bf

  abbrev from_c : Interval
  from_c = cond c C from_b

  abbrev from_d : Interval
  from_d = cond d D from_c

  abbrev from_e : Interval
  from_e = cond e E from_d

  after_f : (r : ℕ) {p : Bool} → r < 6 → ltb r (rank_of from_e) ≡ p → ltb r (rank_of (last_reached bf b c d e f)) ≡ (f || p)
  after_f r h q = chosen_later r from_e f F h q

  after_e : (r : ℕ) {p : Bool} → r < 5 → ltb r (rank_of from_d) ≡ p → ltb r (rank_of from_e) ≡ (e || p)
  after_e r h q = chosen_later r from_d e E h q

  after_d : (r : ℕ) {p : Bool} → r < 4 → ltb r (rank_of from_c) ≡ p → ltb r (rank_of from_d) ≡ (d || p)
  after_d r h q = chosen_later r from_c d D h q

  after_c : (r : ℕ) {p : Bool} → r < 3 → ltb r (rank_of from_b) ≡ p → ltb r (rank_of from_c) ≡ (c || p)
  after_c r h q = chosen_later r from_b c C h q

  after_b : (r : ℕ) {p : Bool} → r < 2 → ltb r (rank_of from_bf) ≡ p → ltb r (rank_of from_b) ≡ (b || p)
  after_b r h q = chosen_later r from_bf b B h q

  -- where its own is reached, the last one reached is later exactly then
  later_reached : (i : Interval) → boundary_of i bf b c d e f ≡ true → ltb (rank_of i) (rank_of (last_reached bf b c d e f)) ≡ after_reached i
  later_reached A h =
      after_f 0 (lit< tt) (after_e 0 (lit< tt) (after_d 0 (lit< tt) (after_c 0 (lit< tt) (after_b 0 (lit< tt)
      (chosen_later 0 A bf Bf (lit< tt) refl)))))
  later_reached Bf h =
      after_f 1 (lit< tt) (after_e 1 (lit< tt) (after_d 1 (lit< tt) (after_c 1 (lit< tt) (after_b 1 (lit< tt)
      (ap (λ t. ltb 1 (rank_of (cond t Bf A))) h)))))
  later_reached B h =
      after_f 2 (lit< tt) (after_e 2 (lit< tt) (after_d 2 (lit< tt) (after_c 2 (lit< tt) (ap (λ t. ltb 2 (rank_of (cond t B from_bf))) h))))
  later_reached C h = after_f 3 (lit< tt) (after_e 3 (lit< tt) (after_d 3 (lit< tt) (ap (λ t. ltb 3 (rank_of (cond t C from_b))) h)))
  later_reached D h = after_f 4 (lit< tt) (after_e 4 (lit< tt) (ap (λ t. ltb 4 (rank_of (cond t D from_c))) h))
  later_reached E h = after_f 5 (lit< tt) (ap (λ t. ltb 5 (rank_of (cond t E from_d))) h)
  later_reached F h = ap (λ t. ltb 6 (rank_of (cond t F from_e))) h

-- the longest lead of the boundaries after an interval, E's 0 among them
abbrev pub lead_after : Interval → Leads → ℕ
lead_after A leads = max leads.d (max leads.c (max leads.b leads.bf))
lead_after Bf leads = max leads.d (max leads.c leads.b)
lead_after B leads = max leads.d leads.c
lead_after C leads = leads.d
lead_after D leads = 0
lead_after E leads = 0
lead_after F leads = 0

-- a test that another one follows from adds nothing to it
absorbed : (s t : Bool) → (s ≡ true → t ≡ true) → (s || t) ≡ t
absorbed true t h = sym (h refl)
absorbed false t h = refl

absorbed_right : (s t : Bool) → (t ≡ true → s ≡ true) → (s || t) ≡ s
absorbed_right true t h = refl
absorbed_right false true h = sym (h refl)
absorbed_right false false h = refl

module _ (curve : Curve) (braking : Braking) (v : ℕ) where
  abbrev level : ℕ
  level = braking.level

  abbrev leads : Leads
  leads = braking.leads

  module _ (n : ℕ) where
    abbrev reached_by : ℕ → Bool
    reached_by T = is_reached (moved_by curve n) level v T

    abbrev reached_f : Bool
    reached_f = is_reached_f (moved_by curve n) level braking.margin v

    -- of two boundaries the one with the longer lead decides
    longer_decides : (T T' : ℕ) → (reached_by T || reached_by T') ≡ reached_by (max T T')
    longer_decides T T' =
        elim (dec_le T T') [
          | yes h ↦ rw (max-eq_right h) (absorbed (reached_by T) (reached_by T') (longer_lead_is_reached (moved_by curve n) level v T T' h))
          | no h ↦
              let g = le_of_lt (lt_of_not-le h) in
              rw (max-eq_left g) (absorbed_right (reached_by T) (reached_by T') (longer_lead_is_reached (moved_by curve n) level v T' T g))
        ]

    -- E and F come no earlier than any of them
    lead_decides : (T : ℕ) → (reached_f || (reached_by 0 || reached_by T)) ≡ reached_by T
    lead_decides T =
        let shortest = longer_lead_is_reached (moved_by curve n) level v 0 T zero-le in
        ap (λ t. reached_f || t) (absorbed (reached_by 0) (reached_by T) shortest)
        ∙ absorbed reached_f (reached_by T) (λ f. shortest (f_implies_e (moved_by curve n) level braking.margin v f))

    -- the boundary after an interval that decides
    abbrev decides : Interval → Bool
    decides A = reached_by (lead_after A leads)
    decides Bf = reached_by (lead_after Bf leads)
    decides B = reached_by (lead_after B leads)
    decides C = reached_by (lead_after C leads)
    decides D = reached_by (lead_after D leads)
    decides E = reached_f
    decides F = false

    after_decides : (i : Interval)
        → after_reached (reached_by leads.bf) (reached_by leads.b) (reached_by leads.c) (reached_by leads.d) (reached_by 0) reached_f i
        ≡ decides i
    after_decides A =
        rw (or-false, longer_decides leads.b leads.bf, longer_decides leads.c _, longer_decides leads.d _)
        (lead_decides (lead_after A leads))
    after_decides Bf =
        rw (or-false, longer_decides leads.c leads.b, longer_decides leads.d _) (lead_decides (lead_after Bf leads))
    after_decides B = rw (or-false, longer_decides leads.d leads.c) (lead_decides (lead_after B leads))
    after_decides C = rw or-false (lead_decides leads.d)
    after_decides D =
        rw or-false (absorbed reached_f (reached_by 0) (f_implies_e (moved_by curve n) level braking.margin v))
    after_decides E = or-false reached_f
    after_decides F = refl

    changed_by : (i : Interval) → interval_of curve braking v ≡ i → is_changed curve braking v n ≡ decides i
    unfolding interval_of
    changed_by i is =
        changed_later curve braking v n
        ∙ ap (λ x. ltb (rank_of x) (rank_of (interval_of (moved_by curve n) braking v))) is
        ∙ later_reached (reached_by leads.bf) (reached_by leads.b) (reached_by leads.c) (reached_by leads.d) (reached_by 0) reached_f i
        (boundary_kept (on leads.bf) (on leads.b) (on leads.c) (on leads.d) (on 0) f_on i own)
        ∙ after_decides i
      where
        on : (T : ℕ) → is_reached curve level v T ≡ true → reached_by T ≡ true
        on T e = reached_on curve level v T 0 n zero-le (ap (λ c. is_reached c level v T) (moved_none curve) ∙ e)

        f_on : is_reached_f curve level braking.margin v ≡ true → reached_f ≡ true
        f_on e =
            f_reached_on curve level v braking.margin 0 n zero-le
            (ap (λ c. is_reached_f c level braking.margin v) (moved_none curve) ∙ e)

        own :
            boundary_of i (is_reached curve level v leads.bf) (is_reached curve level v leads.b) (is_reached curve level v leads.c)
            (is_reached curve level v leads.d) (is_reached curve level v 0) (is_reached_f curve level braking.margin v)
            ≡ true
        own =
            ap (λ x. boundary_of x (is_reached curve level v leads.bf) (is_reached curve level v leads.b) (is_reached curve level v leads.c)
            (is_reached curve level v leads.d) (is_reached curve level v 0) (is_reached_f curve level braking.margin v)) (sym is)
            ∙ last_is_reached (is_reached curve level v leads.bf) (is_reached curve level v leads.b) (is_reached curve level v leads.c)
            (is_reached curve level v leads.d) (is_reached curve level v 0) (is_reached_f curve level braking.margin v)

  -- the figure of a curve in an interval
  abbrev pub left_after : Interval → ℕ
  left_after A = left_of (reach_of curve level v (lead_after A leads))
  left_after Bf = left_of (reach_of curve level v (lead_after Bf leads))
  left_after B = left_of (reach_of curve level v (lead_after B leads))
  left_after C = left_of (reach_of curve level v (lead_after C leads))
  left_after D = left_of (reach_of curve level v (lead_after D leads))
  left_after E = left_of (reach_of_f curve level braking.margin v)
  left_after F = never

  decided : (i : Interval) → most_before (λ n. decides n i) curve.distance ≡ left_after i
  unfolding most_before
  decided A = sym (left_is_told curve level v (lead_after A leads))
  decided Bf = sym (left_is_told curve level v (lead_after Bf leads))
  decided B = sym (left_is_told curve level v (lead_after B leads))
  decided C = sym (left_is_told curve level v (lead_after C leads))
  decided D = sym (left_is_told curve level v (lead_after D leads))
  decided E = sym (left_to_f_is_told curve level braking.margin v)
  decided F = refl

  pub change_left : (i : Interval) → interval_of curve braking v ≡ i → to_change curve braking v ≡ left_after i
  unfolding to_change
  change_left i is =
      most_same (is_changed curve braking v) (λ n. decides n i) (λ n. changed_by n i is) curve.distance ∙ decided i
