-- When the reference comes, when it changes, and that it is kept.
use mathlib.Core.Path.{◌≡◌, refl, sym, ap, ◌∙◌, subst}
use mathlib.Core.List.{List, [], ◌∷◌, ◌++◌, append_assoc, append-nil}
use Prim.Native.Nat.{ℕ, suc, ◌+◌, ◌<◌}
use native.Mathlib.Nat.{add-zero, zero-add}
use native.Mathlib.Numerals.{add-one}
use native.Mathlib.Omega.{arith}
use mathlib.Core.Bool.{Bool, true, false, cond, false≢true}
use borrow.Author.Tests.{lt-ltb, ltb-true, ltb-false}
use lib.Dec.{ltb}
use lib.IntN.{ℤ}
use lib.ListN.{length, length-append}
use lib.Ieee.{Float}
use Rattle.pressure.specs.Reference.{changed_reference}
use Rattle.pressure.specs.Phases.{is_normal, is_far, is_set, reference_of, waited_of, settled_of, set_of, next_of}
use Rattle.pressure.specs.Report.{pressure_at, phase_after, reported}
use Rattle.pressure.specs.Claims.{Each, pressure_unset, StaysNear, Settled, NeverEarlier, SettlesAtThirty, ChangesAtTenth, ReferenceIsKept}
use Rattle.pressure.proofs.Agreeing.{pressure_in, phase_on, phase_on_all, run_from, run_fresh}
use Rattle.pressure.specs.declared.Feed.{Feed}
use Rattle.pressure.specs.declared.Phase.{Phase}
use Rattle.pressure.specs.declared.Phase.TheVariants.{Waiting, Settling, Set}

module _ (feed : Feed) (full : ℕ) where
  -- ---- one report, by the phase that it finds; P_INT is the same wherever no reference is set
  pub after_waiting : (x : ℤ) → phase_on Waiting feed full x ≡ waited_of (pressure_unset feed full x)
  unfolding phase_on next_of pressure_in reference_of
  after_waiting x = refl

  pub after_settling : (saved : Float) (n : ℕ) (x : ℤ)
      → phase_on (Settling saved n) feed full x
      ≡ cond (is_far saved (pressure_unset feed full x)) (waited_of (pressure_unset feed full x)) (settled_of saved n)
  unfolding phase_on next_of pressure_in reference_of
  after_settling saved n x = refl

  pub after_set : (r : Float) (n : ℕ) (x : ℤ) → phase_on (Set r n) feed full x ≡ set_of r n (pressure_in (Set r n) feed full x)
  unfolding phase_on next_of
  after_set r n x = refl

  settled_on : (saved : Float) (n : ℕ) → n < 29 → settled_of saved n ≡ Settling saved (suc n)
  unfolding settled_of
  settled_on saved n h = rw (lt-ltb (n + 1) 30 (omega arith), add-one n)

  settled_last : (saved : Float) → settled_of saved 29 ≡ Set saved 0
  unfolding settled_of
  settled_last saved = refl

  set_on : (r : Float) (n : ℕ) (p : Float) → n < 9 → set_of r n p ≡ Set r (suc n)
  unfolding set_of
  set_on r n p h = rw (lt-ltb (n + 1) 10 (omega arith), add-one n)

  set_tenth : (r : Float) (p : Float) → set_of r 9 p ≡ Set (changed_reference (record { pressure = p; reference = r })) 0
  unfolding set_of
  set_tenth r p = refl

  near_on : (saved : Float) (n : ℕ) (x : ℤ) → StaysNear feed full saved x → phase_on (Settling saved n) feed full x ≡ settled_of saved n
  near_on saved n x h = rw (after_settling saved n x, h)

  -- ---- a run, and one report more
  all_append : (phase : Phase) (xs ys : List ℤ)
      → phase_on_all phase feed full (xs ++ ys) ≡ phase_on_all (phase_on_all phase feed full xs) feed full ys
  unfolding phase_on_all
  all_append phase [] ys = refl
  all_append phase (x ∷ xs) ys = all_append (phase_on phase feed full x) xs ys

  all_then : (phase : Phase) (xs : List ℤ) (x : ℤ)
      → phase_on_all phase feed full (xs ++ (x ∷ [])) ≡ phase_on (phase_on_all phase feed full xs) feed full x
  unfolding phase_on_all
  all_then phase xs x = all_append phase xs (x ∷ [])

  -- ---- settling
  settles_on : (saved : Float) (n : ℕ) (xs : List ℤ) → Each (StaysNear feed full saved) xs → n + length xs < 30
      → phase_on_all (Settling saved n) feed full xs ≡ Settling saved (n + length xs)
  unfolding phase_on_all
  settles_on saved n [] near h = ap (Settling saved) (sym (add-zero n))
  settles_on saved n (x ∷ xs) near h =
      ap (λ (p : Phase). phase_on_all p feed full xs) (near_on saved n x near.0 ∙ settled_on saved n (omega arith))
      ∙ settles_on saved (suc n) xs near.1 (omega arith)
      ∙ ap (Settling saved) (omega arith)

  settles_last : (saved : Float) (n : ℕ) (xs : List ℤ) → Each (StaysNear feed full saved) xs → n < 30 → n + length xs ≡ 30
      → phase_on_all (Settling saved n) feed full xs ≡ Set saved 0
  unfolding phase_on_all
  settles_last saved n [] near h e = absurd (omega arith)
  settles_last saved n (x ∷ []) near h e =
      near_on saved n x near.0 ∙ ap (settled_of saved) (let e29 : n ≡ 29 = omega arith in e29) ∙ settled_last saved
  settles_last saved n (x ∷ y ∷ xs) near h e =
      ap (λ (p : Phase). phase_on_all p feed full (y ∷ xs)) (near_on saved n x near.0 ∙ settled_on saved n (omega arith))
      ∙ settles_last saved (suc n) (y ∷ xs) near.1 (omega arith) (omega arith)

  -- ---- changing
  sets_on : (r : Float) (n : ℕ) (xs : List ℤ) → n + length xs < 10 → phase_on_all (Set r n) feed full xs ≡ Set r (n + length xs)
  unfolding phase_on_all
  sets_on r n [] h = ap (Set r) (sym (add-zero n))
  sets_on r n (x ∷ xs) h =
      ap (λ (p : Phase). phase_on_all p feed full xs) (after_set r n x ∙ set_on r n (pressure_in (Set r n) feed full x) (omega arith))
      ∙ sets_on r (suc n) xs (omega arith)
      ∙ ap (Set r) (omega arith)

  changes : (r : Float) (xs : List ℤ) (x : ℤ) → length xs ≡ 9
      → phase_on_all (Set r 0) feed full (xs ++ (x ∷ []))
      ≡ Set (changed_reference (record { pressure = pressure_in (Set r 9) feed full x; reference = r })) 0
  changes r xs x e =
      all_then (Set r 0) xs x
      ∙ ap (λ (p : Phase). phase_on p feed full x) (sets_on r 0 xs (omega arith) ∙ ap (Set r) (zero-add (length xs) ∙ e))
      ∙ after_set r 9 x
      ∙ set_tenth r (pressure_in (Set r 9) feed full x)

pub settles_at_thirty : SettlesAtThirty
settles_at_thirty before feed full saved xs agrees is near =
    let run = run_from before (Settling saved 0) feed full xs agrees is in (
      (λ (h : length xs < 30). run ∙ settles_on feed full saved 0 xs near (omega arith) ∙ ap (Settling saved) (zero-add (length xs))),
      (λ (e : length xs ≡ 30). run ∙ settles_last feed full saved 0 xs near (omega arith) (omega arith)),
    )

pub changes_at_tenth : ChangesAtTenth
unfolding pressure_in reference_of
changes_at_tenth before feed full r xs x agrees is = (
  (λ (h : length xs < 10).
      run_from before (Set r 0) feed full xs agrees is ∙ sets_on feed full r 0 xs (omega arith) ∙ ap (Set r) (zero-add (length xs))),
  (λ (e : length xs ≡ 9). run_from before (Set r 0) feed full (xs ++ (x ∷ [])) agrees is ∙ changes feed full r xs x e),
)

-- ---- what a phase tells of the run from a fresh feedback to it

-- a run whose first part settled on P0 by 30 further reports, and so set P_REF
record SetBy (feed : Feed) (full : ℕ) (run : List ℤ) : Type 0 where
  settling : List ℤ
  since : List ℤ
  saved : Float
  whole : run ≡ settling ++ since
  settled : Settled feed full settling saved 30
  set : phase_on_all Waiting feed full settling ≡ Set saved 0

abbrev History : Feed → ℕ → List ℤ → Phase → Type 0
History feed full run Waiting = Unit {0}
History feed full run (Settling saved n) = Settled feed full run saved n × (n < 30)
History feed full run (Set r n) = SetBy feed full run

each_then : (P : ℤ → Type 0) (xs : List ℤ) (x : ℤ) → Each P xs → P x → Each P (xs ++ (x ∷ []))
each_then P [] x all px = (px, tt)
each_then P (y ∷ xs) x all px = (all.0, each_then P xs x all.1 px)

module _ (feed : Feed) (full : ℕ) (run : List ℤ) (x : ℤ) where
  abbrev longer : List ℤ
  longer = run ++ (x ∷ [])

  waited_history : History feed full longer (waited_of (pressure_unset feed full x))
  unfolding waited_of
  waited_history = go (is_normal (pressure_unset feed full x)) refl
    where
      go : (b : Bool) → is_normal (pressure_unset feed full x) ≡ b
          → History feed full longer (cond b (Settling (pressure_unset feed full x) 0) Waiting)
      go false e = tt
      go true e = (
        record { earlier = run; saving = x; further = []; whole = refl; pressure = refl; normal = e; near = tt; count = refl },
        omega arith,
      )

  further_settled : (saved : Float) (n : ℕ) → Settled feed full run saved n → StaysNear feed full saved x → Settled feed full longer saved (n + 1)
  further_settled saved n s near = record {
    earlier = s.earlier;
    saving = s.saving;
    further = s.further ++ (x ∷ []);
    whole = ap (λ (l : List ℤ). l ++ (x ∷ [])) s.whole ∙ append_assoc s.earlier (s.saving ∷ s.further) (x ∷ []);
    pressure = s.pressure;
    normal = s.normal;
    near = each_then (StaysNear feed full saved) s.further x s.near near;
    count = length-append s.further (x ∷ []) ∙ ap (λ (k : ℕ). k + 1) s.count;
  }

  settled_history : (saved : Float) (n : ℕ) → Settled feed full run saved n → n < 30 → StaysNear feed full saved x
      → phase_on_all Waiting feed full longer ≡ settled_of saved n → History feed full longer (settled_of saved n)
  unfolding settled_of
  settled_history saved n s h near = go (ltb (n + 1) 30) refl
    where
      go : (b : Bool) → ltb (n + 1) 30 ≡ b → phase_on_all Waiting feed full longer ≡ cond b (Settling saved (n + 1)) (Set saved 0)
          → History feed full longer (cond b (Settling saved (n + 1)) (Set saved 0))
      go true e is = (further_settled saved n s near, ltb-true (n + 1) 30 e)
      go false e is =
          let last : n + 1 ≡ 30 = omega (arith, ltb-false (n + 1) 30 e) in
          record {
            settling = longer;
            since = [];
            saved = saved;
            whole = sym (append-nil longer);
            settled = subst (Settled feed full longer saved) last (further_settled saved n s near);
            set = is;
          }

  settling_history : (saved : Float) (n : ℕ) → Settled feed full run saved n → n < 30
      → phase_on_all Waiting feed full longer ≡ phase_on (Settling saved n) feed full x
      → History feed full longer (phase_on (Settling saved n) feed full x)
  settling_history saved n s h is =
      subst (History feed full longer) (sym (after_settling feed full saved n x))
      (go (is_far saved (pressure_unset feed full x)) refl (is ∙ after_settling feed full saved n x))
    where
      go : (b : Bool) → is_far saved (pressure_unset feed full x) ≡ b
          → phase_on_all Waiting feed full longer ≡ cond b (waited_of (pressure_unset feed full x)) (settled_of saved n)
          → History feed full longer (cond b (waited_of (pressure_unset feed full x)) (settled_of saved n))
      go true e to = waited_history
      go false e to = settled_history saved n s h e to

  set_history : (r : Float) (n : ℕ) → SetBy feed full run → History feed full longer (phase_on (Set r n) feed full x)
  set_history r n s = subst (History feed full longer) (sym (after_set feed full r n x)) (unfold set_of in go (ltb (n + 1) 10))
    where
      later : SetBy feed full longer
      later = record {
        settling = s.settling;
        since = s.since ++ (x ∷ []);
        saved = s.saved;
        whole = ap (λ (l : List ℤ). l ++ (x ∷ [])) s.whole ∙ append_assoc s.settling s.since (x ∷ []);
        settled = s.settled;
        set = s.set;
      }

      go : (b : Bool)
          → History feed full longer
          (cond b (Set r (n + 1)) (Set (changed_reference (record { pressure = pressure_in (Set r n) feed full x; reference = r })) 0))
      go true = later
      go false = later

  history_step : (phase : Phase) → phase_on_all Waiting feed full longer ≡ phase_on phase feed full x → History feed full run phase
      → History feed full longer (phase_on phase feed full x)
  history_step Waiting is h = subst (History feed full longer) (sym (after_waiting feed full x)) waited_history
  history_step (Settling saved n) is h = settling_history saved n h.0 h.1 is
  history_step (Set r n) is h = set_history r n h

history : (feed : Feed) (full : ℕ) (xs run : List ℤ) (phase : Phase) → phase_on_all Waiting feed full run ≡ phase
    → History feed full run phase → History feed full (run ++ xs) (phase_on_all phase feed full xs)
unfolding phase_on_all
history feed full [] run phase is h = subst (λ (l : List ℤ). History feed full l phase) (sym (append-nil run)) h
history feed full (x ∷ xs) run phase is h =
    let next = all_then feed full Waiting run x ∙ ap (λ (p : Phase). phase_on p feed full x) is in
    subst (λ (l : List ℤ). History feed full l (phase_on_all (phase_on phase feed full x) feed full xs)) (append_assoc run (x ∷ []) xs)
    (history feed full xs (run ++ (x ∷ [])) (phase_on phase feed full x) next (history_step feed full run x phase next h))

pub never_earlier : NeverEarlier
never_earlier feed full run r n e =
    let is = sym (run_fresh feed full run) ∙ e in
    let s : SetBy feed full run = subst (History feed full run) is (history feed full run [] Waiting (unfold phase_on_all in refl) tt) in
    record {
      settling = s.settling;
      since = s.since;
      saved = s.saved;
      whole = s.whole;
      settled = s.settled;
      set = run_fresh feed full s.settling ∙ s.set;
      changes = λ before agrees at.
          run_from before (Set s.saved 0) feed full s.since agrees at
          ∙ ap (λ (p : Phase). phase_on_all p feed full s.since) (sym s.set)
          ∙ sym (all_append feed full Waiting s.settling s.since)
          ∙ ap (phase_on_all Waiting feed full) (sym s.whole)
          ∙ is;
    }

-- ---- a set feedback stays set
stays_set : (r : Float) (n : ℕ) (p : Float) → is_set (set_of r n p) ≡ true
unfolding set_of
stays_set r n p = go (ltb (n + 1) 10)
  where
    go : (b : Bool) → is_set (cond b (Set r (n + 1)) (Set (changed_reference (record { pressure = p; reference = r })) 0)) ≡ true
    go true = refl
    go false = refl

pub reference_is_kept : ReferenceIsKept
unfolding reported phase_after next_of
reference_is_kept Waiting pressures feed full x e = absurd (false≢true e)
reference_is_kept (Settling saved n) pressures feed full x e = absurd (false≢true e)
reference_is_kept (Set r n) pressures feed full x e = stays_set r n (pressure_at pressures feed full x)
