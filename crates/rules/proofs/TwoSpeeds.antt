-- Two units, of which the second has the weaker brakes, the stricter track and the higher speed: its VMAX and permitted speed are
-- no higher, its curves brake where the first's do, and no interval is earlier. Assumes nothing.
use Prim.Native.Nat.{ℕ, ◌≤◌, min}
use mathlib.Core.Path.{◌≡◌, refl, sym, ◌∙◌, ap, subst}
use mathlib.Core.Bool.{Bool, true, false, ◌&&◌, and-eq-true_iff}
use mathlib.Core.Logic.{inl, inr}
use mathlib.Core.List.Memᴰ
use mathlib.Core.List.{List, [], ◌∷◌, map, foldr}
use native.Mathlib.Nat.{le_refl, le_trans}
use native.Mathlib.Omega.{arith}
use lib.Dec.{leb}
use Rattle.laws.proofs.Lists.{◌∈◌}
use Rattle.curve.specs.declared.Curve.{Curve}
use Rattle.curve.specs.declared.Braking.{Braking}
use Rattle.curve.specs.declared.Interval.{Interval}
use Rattle.curve.specs.Deceleration.{level_of}
use Rattle.interval.specs.Intervals.{interval_of, rank_of}
use Rattle.interval.specs.Permitted.{permitted_of}
use Rattle.interval.specs.Judging.{judged_of}
use Rattle.places.specs.Places.{judged_all, permitted_here, least_permitted, brakes_from, any_brakes}
use Rattle.curve.specs.Claims.{Stricter}
use Rattle.interval.specs.Claims.{WeakerBraking}
use Rattle.interval.proofs.Later.{interval_is_not_earlier, still_brakes}
use Rattle.interval.proofs.Halving.{permitted_is_not_higher}
use Rattle.places.proofs.Held.{permits_here, brakes_here}
use Rattle.areas.specs.declared.Stay.{Stay}
use Rattle.areas.specs.Stays.{area_speed}
use Rattle.records.specs.declared.EtRecord.{EtRecord}
use Rattle.records.specs.Lives.{is_effective, as_curve}
use Rattle.rules.specs.Places.{any_of, all_curves}
use Rattle.rules.specs.Speeds.{braking_of, judged_now, section_speed, stop_speed, vmax_of, permitted_speed}
use Rattle.rules.specs.TwoRuns.{TrainsCompared}
use Rattle.rules.specs.History.{Holds, HoldsSection, RecordIs}
use Rattle.rules.specs.declared.Train.{Train}
use Rattle.rules.specs.declared.Section.{Section}
use Rattle.rules.specs.declared.Track.{Track}
use Rattle.rules.specs.declared.Kept.{Kept}
use Rattle.rules.proofs.Monotone.{◌⇒◌, and_implies, leb_implies, Passing, any_implies}
use Rattle.rules.proofs.Monotone.{least_within_base, least_within, least_no_more}
use Rattle.rules.proofs.TwoTracks.{CurvesBelow, RecordsBelow, SectionsBelow, TracksBelow}
use Rattle.rules.proofs.Supervising.{record_in_lem, record_of_lem}

-- ---- one curve

-- the speed that a place permits
abbrev pub permits : Braking → ℕ → Curve → ℕ
permits braking v curve = permitted_here (judged_of braking v curve)

pub held_permits : (braking : Braking) (v : ℕ) (curve : Curve) → curve.held ≡ true
    → permits braking v curve ≡ permitted_of curve braking.level braking.leads.permitted
unfolding judged_of
held_permits braking v curve e = rw e

free_permits : (braking : Braking) (v : ℕ) (curve : Curve) → curve.held ≡ false → permits braking v curve ≡ 300
unfolding judged_of
free_permits braking v curve e = rw e

-- it brakes, in this interval or a later one
abbrev pub brakes : Interval → Braking → ℕ → Curve → Bool
brakes interval braking v curve = brakes_from interval (judged_of braking v curve)

held_if_braking : (interval : Interval) (braking : Braking) (v : ℕ) (curve : Curve)
    → brakes interval braking v curve ≡ true → curve.held ≡ true
unfolding judged_of
held_if_braking interval braking v curve e =
    let j = judged_of braking v curve in
    let late = leb (rank_of interval) (rank_of j.interval) in
    ((and-eq-true_iff j.held j.brakes).0 ((and-eq-true_iff (j.held && j.brakes) late).0 e).0).0

-- ---- all curves

pub least_permitted_is : (braking : Braking) (v : ℕ) (curves : List Curve)
    → least_permitted (judged_all braking v curves) ≡ foldr min 300 (map (permits braking v) curves)
unfolding least_permitted
least_permitted_is braking v [] = refl
least_permitted_is braking v (curve ∷ curves) = rw (permits_here braking v curve, least_permitted_is braking v curves)

pub any_brakes_is : (interval : Interval) (braking : Braking) (v : ℕ) (curves : List Curve)
    → any_brakes interval (judged_all braking v curves) ≡ any_of (brakes interval braking v) curves
unfolding any_brakes any_of
any_brakes_is interval braking v [] = refl
any_brakes_is interval braking v (curve ∷ curves) =
    rw (brakes_here braking v curve interval, any_brakes_is interval braking v curves)

-- a held curve of the first has a stricter one in the second
abbrev Covered : List Curve → List Curve → Type 0
Covered curves curves' =
    (curve : Curve) → curve ∈ curves → curve.held ≡ true → (curve' : Curve) × Holds curves' curve' × Stricter curve curve'

curves_covered : {curves curves' : List Curve} → CurvesBelow curves curves' → Covered curves curves'
curves_covered {curves} below curve place held =
    let holds : Holds curves curve = record { place = place; held = held } in
    let (curve', holds', same) = below.partner curve holds in
    (curve', holds', below.related curve curve' holds holds' same)

-- and so has a record that is a curve
records_covered : {ets ets' : List EtRecord} → RecordsBelow ets ets' → Covered (map as_curve ets) (map as_curve ets')
records_covered {ets} {ets'} below curve place held =
    let r = record_of_lem ets curve (record { place = place; held = held }) in
    let (et', holds', same) = below.partner r.et r.holds in
    let c = below.related r.et et' r.holds holds' same in
    let is : RecordIs ets' et'.curve =
    record { et = et'; holds = holds'; effective = ap is_effective c.condition ∙ r.effective; is = refl } in
    (et'.curve, record_in_lem is, subst (λ before. Stricter before et'.curve) r.is c.stricter)

all_covered : {track track' : Track} → TracksBelow track track' → Covered (all_curves track) (all_curves track')
unfolding all_curves
all_covered {track} {track'} below curve place held =
    elim (Memᴰ.append_cases track.curves place) [
      | inl m ↦
          let (curve', holds', stricter) = curves_covered below.curves curve m held in
          (curve', record { place = Memᴰ.append_left (map as_curve track'.records) holds'.place; held = holds'.held }, stricter)
      | inr m ↦
          let (curve', holds', stricter) = records_covered below.records curve m held in
          (curve', record { place = Memᴰ.append_right track'.curves holds'.place; held = holds'.held }, stricter)
    ]

module _ {braking braking' : Braking} (weaker : WeakerBraking braking braking') {v v' : ℕ} (faster : v ≤ v') where
  brakes_still : (interval : Interval) (curve curve' : Curve) → Stricter curve curve' → curve'.held ≡ true
      → brakes interval braking v curve ⇒ brakes interval braking' v' curve'
  unfolding judged_of
  brakes_still interval curve curve' stricter held =
      let standing : curve.held ⇒ curve'.held = record { run = λ e. held } in
      let braking_on : (judged_of braking v curve).brakes ⇒ (judged_of braking' v' curve').brakes =
      record { run = still_brakes curve curve' braking braking' v v' stricter weaker faster } in
      let later = interval_is_not_earlier curve curve' braking braking' v v' stricter weaker faster in
      and_implies (and_implies standing braking_on) (leb_implies (le_refl (rank_of interval)) later)

  permits_no_more : (curve curve' : Curve) → Stricter curve curve' → curve.held ≡ true → curve'.held ≡ true
      → permits braking' v' curve' ≤ permits braking v curve
  permits_no_more curve curve' stricter held held' =
      rw (held_permits braking v curve held, held_permits braking' v' curve' held')
      (permitted_is_not_higher curve curve' _ _ _ _ stricter weaker.level weaker.leads.permitted)

  module _ {curves curves' : List Curve} (covered : Covered curves curves') where
    any_still_brakes : (interval : Interval)
        → any_brakes interval (judged_all braking v curves) ⇒ any_brakes interval (judged_all braking' v' curves')
    any_still_brakes interval =
        rw (any_brakes_is interval braking v curves, any_brakes_is interval braking' v' curves')
        (any_implies (brakes interval braking v) (brakes interval braking' v') curves curves' found)
      where
        found : (curve : Curve) → curve ∈ curves → brakes interval braking v curve ≡ true
            → Passing (brakes interval braking' v') curves'
        found curve place e =
            let (curve', holds', stricter) = covered curve place (held_if_braking interval braking v curve e) in
            (curve', holds'.place, (brakes_still interval curve curve' stricter holds'.held).run e)

    least_permitted_no_more : least_permitted (judged_all braking' v' curves') ≤ least_permitted (judged_all braking v curves)
    least_permitted_no_more =
        rw (least_permitted_is braking v curves, least_permitted_is braking' v' curves')
        (least_no_more 300 (map (permits braking v) curves) (map (permits braking' v') curves') within)
      where
        least_at : (curve : Curve) → curve ∈ curves → (t : Bool) → curve.held ≡ t
            → foldr min 300 (map (permits braking' v') curves') ≤ permits braking v curve
        least_at curve place true e =
            let (curve', holds', stricter) = covered curve place e in
            le_trans (least_within 300 (map (permits braking' v') curves') (Memᴰ.map (permits braking' v') holds'.place))
            (permits_no_more curve curve' stricter e holds'.held)
        least_at curve place false e =
            rw (free_permits braking v curve e) (least_within_base 300 (map (permits braking' v') curves'))

        within : (x : ℕ) → x ∈ map (permits braking v) curves → foldr min 300 (map (permits braking' v') curves') ≤ x
        within x m =
            let (curve, place, e) = Memᴰ.of_map (permits braking v) curves m in
            rw (← e) (least_at curve place curve.held refl)

-- ---- VMAX

-- what limits the train's speed: the area, 40 after an unexpected stop, and the sections
abbrev limits : ℕ → Stay → Bool → List Section → List ℕ
limits speed stay forty sections = area_speed speed stay ∷ stop_speed speed forty ∷ map (section_speed speed) sections

-- the least of them goes by equal figures
same_limits : {speed speed' : ℕ} {stay stay' : Stay} {forty forty' : Bool} (sections : List Section)
    → speed ≡ speed' → stay ≡ stay' → forty ≡ forty'
    → foldr min speed (limits speed stay forty sections) ≡ foldr min speed' (limits speed' stay' forty' sections)
same_limits {speed} {speed'} {stay} {stay'} {forty} {forty'} sections e f g =
    ap (λ (s : ℕ). foldr min s (limits s stay forty sections)) e
    ∙ ap (λ (s : Stay). foldr min speed' (limits speed' s forty sections)) f
    ∙ ap (λ (s : Bool). foldr min speed' (limits speed' stay' s sections)) g

module _ (speed : ℕ) (stay : Stay) (forty : Bool) {sections sections' : List Section} (below : SectionsBelow sections sections') where
  -- a held section limits the second too; a place that holds none leaves the train's speed
  section_limits : (section : Section) → section ∈ sections → (t : Bool) → section.held ≡ t
      → foldr min speed (limits speed stay forty sections') ≤ section_speed speed section
  section_limits section place true e =
      let holds' : HoldsSection sections' section = below section (record { place = place; held = e }) in
      least_within speed (limits speed stay forty sections') (Memᴰ.tail (Memᴰ.tail (Memᴰ.map (section_speed speed) holds'.place)))
  section_limits section place false e = rw e (least_within_base speed (limits speed stay forty sections'))

  least_limit_no_more : foldr min speed (limits speed stay forty sections') ≤ foldr min speed (limits speed stay forty sections)
  least_limit_no_more = least_no_more speed (limits speed stay forty sections) (limits speed stay forty sections') within
    where
      within : (x : ℕ) → x ∈ limits speed stay forty sections → foldr min speed (limits speed stay forty sections') ≤ x
      within x (Memᴰ.head p) = least_within speed (limits speed stay forty sections') (Memᴰ.head p)
      within x (Memᴰ.tail (Memᴰ.head p)) = least_within speed (limits speed stay forty sections') (Memᴰ.tail (Memᴰ.head p))
      within x (Memᴰ.tail (Memᴰ.tail m)) =
          let (section, place, e) = Memᴰ.of_map (section_speed speed) sections m in
          rw (← e) (section_limits section place section.held refl)

-- ---- the two units

-- what the last odometer report left: the second's speed may be higher
pub record KeptBelow (kept kept' : Kept) : Type 0 where
  pub speed : kept.speed ≤ kept'.speed
  pub loss : kept'.loss ≡ kept.loss
  pub text : kept'.text ≡ kept.text
  pub halka : kept'.halka ≡ kept.halka

level_no_higher : {full full' soft soft' : ℕ} (halka : Bool) → full' ≤ full → soft' ≤ soft
    → level_of full' soft' halka ≤ level_of full soft halka
unfolding level_of
level_no_higher true h k = k
level_no_higher false h k = h

module _ {train train' : Train} (trains : TrainsCompared train train') where
  weaker_with : (halka : Bool) → WeakerBraking (braking_of train halka) (braking_of train' halka)
  unfolding braking_of
  weaker_with halka = record {
    level = level_no_higher halka trains.full trains.soft;
    leads = rw trains.times (record { d = le_refl _; c = le_refl _; permitted = le_refl _; b = le_refl _; bf = le_refl _ });
    margin = rw trains.margin (le_refl train.margin);
  }

  module _ {kept kept' : Kept} (kepts : KeptBelow kept kept') where
    weaker_braking : WeakerBraking (braking_of train kept.halka) (braking_of train' kept'.halka)
    weaker_braking = rw kepts.halka (weaker_with kept.halka)

    pub interval_no_earlier : (curve curve' : Curve) → Stricter curve curve'
        → rank_of (interval_of curve (braking_of train kept.halka) kept.speed)
        ≤ rank_of (interval_of curve' (braking_of train' kept'.halka) kept'.speed)
    interval_no_earlier curve curve' stricter =
        interval_is_not_earlier curve curve' _ _ _ _ stricter weaker_braking kepts.speed

  module _ {track track' : Track} (tracks : TracksBelow track track') where
    pub vmax_no_higher : vmax_of train' track' ≤ vmax_of train track
    unfolding vmax_of
    vmax_no_higher =
        subst (λ (n : ℕ). n ≤ foldr min train.speed (limits train.speed track.stay track.forty track.sections))
        (same_limits track'.sections (sym trains.speed) (sym tracks.stay) (sym tracks.forty))
        (least_limit_no_more train.speed track.stay track.forty tracks.sections)

    module _ {kept kept' : Kept} (kepts : KeptBelow kept kept') where
      pub curves_still_brake : (interval : Interval)
          → any_brakes interval (judged_now train kept (all_curves track))
          ⇒ any_brakes interval (judged_now train' kept' (all_curves track'))
      unfolding judged_now
      curves_still_brake interval = any_still_brakes (weaker_braking kepts) kepts.speed (all_covered tracks) interval

      pub permitted_no_higher :
          permitted_speed (vmax_of train' track') (judged_now train' kept' (all_curves track'))
          ≤ permitted_speed (vmax_of train track) (judged_now train kept (all_curves track))
      unfolding permitted_speed judged_now
      permitted_no_higher =
          omega (arith, vmax_no_higher, least_permitted_no_more (weaker_braking kepts) kepts.speed (all_covered tracks))
