-- What 0 and every converted pressure have and every change of the reference keeps, the reference has after any number of reports.
use mathlib.Core.Path.{◌≡◌, refl, sym, subst, ◌∙◌}
use mathlib.Core.List.{List, [], ◌∷◌}
use Prim.Native.Nat.{ℕ, ◌+◌, ◌*◌}
use native.Mathlib.Omega.{arith}
use mathlib.Core.Bool.{Bool, true, false, ◌&&◌, cond}
use borrow.Author.Tests.{le-ltb}
use lib.Dec.{ltb}
use lib.IntN.{ℤ, pos}
use lib.Ieee.{Float, nan, inf, fin, binary32, up, down, add, sub, lt, le}
use Rattle.pressure.specs.Convert.{kpa, halved_of, is_low, converted_of, pressure_of}
use Rattle.pressure.specs.Reference.{is_sinking, changed_reference}
use Rattle.pressure.specs.Phases.{reference_of, is_normal, is_far, waited_of, settled_of, set_of}
use Rattle.pressure.specs.Report.{fresh_feedback}
use Rattle.pressure.specs.Claims.{after_all, Each, pressure_unset}
use Rattle.pressure.proofs.Agreeing.{pressure_in, phase_on, phase_on_all, run_fresh}
use Rattle.pressure.proofs.Settling.{after_waiting, after_settling, after_set}
use Rattle.pressure.specs.declared.Feed.{Feed}
use Rattle.pressure.specs.declared.Phase.{Phase}
use Rattle.pressure.specs.declared.Phase.TheVariants.{Waiting, Settling, Set}

lt_self : (x : Float) → lt x x ≡ false
unfolding lt
lt_self nan = refl
lt_self (inf true) = refl
lt_self (inf false) = refl
lt_self (fin true m e) = le-ltb (m * up e * down e) (m * up e * down e) (omega arith)
lt_self (fin false m e) = le-ltb (m * up e * down e) (m * up e * down e) (omega arith)

-- with P_INT at P_REF nothing changes
changed_level : (r : Float) → changed_reference (record { pressure = r; reference = r }) ≡ r
unfolding changed_reference is_sinking
changed_level r = rw (lt_self r)

-- the property, at the figure that a phase carries
abbrev Carries : (Float → Type 0) → Phase → Type 0
Carries R Waiting = Unit {0}
Carries R (Settling saved n) = R saved
Carries R (Set r n) = R r

-- P is what a converted P_INT has, R what a reference has: 0 and every converted P_INT may be a reference, and a change keeps R
module _
    (feed : Feed)
    (full : ℕ)
    (Reads : ℤ → Type 0)
    (P R : Float → Type 0)
    (converted : (x : ℤ) → Reads x → P (converted_of feed full (halved_of x)))
    (zero : R (kpa 0))
    (serves : (p : Float) → P p → R p)
    (raised : (r p : Float) → R r → P p → lt r p ≡ true → R (add binary32 r (halved_of (pos 3))))
    (lowered : (r p : Float) → R r → P p → lt p r ≡ true → R (sub binary32 r (halved_of (pos 1))))
  where
    saves : (x : ℤ) → Reads x → R (pressure_unset feed full x)
    unfolding pressure_of
    saves x ok = go (is_low (halved_of x))
      where
        go : (b : Bool) → R (cond b (kpa 0) (converted_of feed full (halved_of x)))
        go true = zero
        go false = serves (converted_of feed full (halved_of x)) (converted x ok)

    changed : (r p : Float) → R r → P p → R (changed_reference (record { pressure = p; reference = r }))
    unfolding changed_reference is_sinking
    changed r p h k = go (lt r p) (lt p r) (le r (add binary32 p (kpa 30))) refl refl
      where
        go : (a b d : Bool) → lt r p ≡ a → lt p r ≡ b
            → R (cond a (add binary32 r (halved_of (pos 3))) (cond (b && d) (sub binary32 r (halved_of (pos 1))) r))
        go true b d t u = raised r p h k t
        go false true true t u = lowered r p h k u
        go false true false t u = h
        go false false d t u = h

    changes : (r : Float) (n : ℕ) (x : ℤ) → Reads x → R r
        → R (changed_reference (record { pressure = pressure_in (Set r n) feed full x; reference = r }))
    unfolding pressure_in pressure_of reference_of
    changes r n x ok h = go (is_low (halved_of x))
      where
        go : (b : Bool) → R (changed_reference (record { pressure = cond b r (converted_of feed full (halved_of x)); reference = r }))
        go true = subst R (sym (changed_level r)) h
        go false = changed r (converted_of feed full (halved_of x)) h (converted x ok)

    waited : (x : ℤ) → Reads x → Carries R (waited_of (pressure_unset feed full x))
    unfolding waited_of
    waited x ok = go (is_normal (pressure_unset feed full x))
      where
        go : (b : Bool) → Carries R (cond b (Settling (pressure_unset feed full x) 0) Waiting)
        go true = saves x ok
        go false = tt

    settled : (saved : Float) (n : ℕ) → R saved → Carries R (settled_of saved n)
    unfolding settled_of
    settled saved n h = go (ltb (n + 1) 30)
      where
        go : (b : Bool) → Carries R (cond b (Settling saved (n + 1)) (Set saved 0))
        go true = h
        go false = h

    set : (r : Float) (n : ℕ) (x : ℤ) → Reads x → R r → Carries R (set_of r n (pressure_in (Set r n) feed full x))
    unfolding set_of
    set r n x ok h = go (ltb (n + 1) 10)
      where
        go : (b : Bool)
            → Carries R (cond b (Set r (n + 1)) (Set (changed_reference (record { pressure = pressure_in (Set r n) feed full x; reference = r })) 0))
        go true = h
        go false = changes r n x ok h

    step : (phase : Phase) (x : ℤ) → Reads x → Carries R phase → Carries R (phase_on phase feed full x)
    step Waiting x ok h = subst (Carries R) (sym (after_waiting feed full x)) (waited x ok)
    step (Settling saved n) x ok h = subst (Carries R) (sym (after_settling feed full saved n x)) (go (is_far saved (pressure_unset feed full x)))
      where
        go : (b : Bool) → Carries R (cond b (waited_of (pressure_unset feed full x)) (settled_of saved n))
        go true = waited x ok
        go false = settled saved n h
    step (Set r n) x ok h = subst (Carries R) (sym (after_set feed full r n x)) (set r n x ok h)

    steps : (phase : Phase) (xs : List ℤ) → Each Reads xs → Carries R phase → Carries R (phase_on_all phase feed full xs)
    unfolding phase_on_all
    steps phase [] ok h = h
    steps phase (x ∷ xs) ok h = steps (phase_on phase feed full x) xs ok.1 (step phase x ok.0 h)

    pub kept : (xs : List ℤ) (r : Float) (n : ℕ) → Each Reads xs → (after_all fresh_feedback feed full xs).phase ≡ Set r n → R r
    kept xs r n ok e = subst (Carries R) (sym (run_fresh feed full xs) ∙ e) (steps Waiting xs ok tt)
