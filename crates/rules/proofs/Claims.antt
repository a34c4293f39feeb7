-- What holds of the parts of the rules: codes, places, speeds, the shown curve and the checks. Assumes nothing.
use mathlib.Core.Path.{◌≡◌, refl, sym, ◌∙◌, ap, ap₂, subst}
use Prim.Native.Nat.{ℕ, zero, suc, ◌+◌, ◌*◌, ◌≤◌, ◌<◌, min}
use mathlib.Core.Bool.{Bool, true, false, cond, not, ◌&&◌, ◌||◌, false≢true, or-false, and-false}
use mathlib.Core.Logic.{◌⊎◌, inl, inr}
use mathlib.Core.List.Memᴰ
use mathlib.Core.List.{List, [], ◌∷◌, map, foldr}
use native.Mathlib.Omega.{arith}
use native.Mathlib.Numerals.{add-one}
use native.Mathlib.Nat.{min-le_right, le_of_eq, le_of_lt, min-le_left, le-min}
use native.Mathlib.Decide.{ℕ_discrete}
use lib.Dec.{eqb, leb, ltb}
use lib.ListN.{length}
use borrow.Author.Tests.{ltb-true, ltb-false, eqb-true, not-false, le-ltb, le-leb, lt-leb, eq-eqb, ne_eqb}
use Rattle.std.specs.Prelude.{Option, Some, None}
use Rattle.laws.proofs.Lists.{never, ◌∈◌, not_true_false}
use Rattle.wire.specs.Numbers.{byte_at}
use Rattle.wire.specs.Codes.{commands}
use Rattle.std.specs.Prelude.{Result, Ok, Err, ⊤}
use Rattle.wire.specs.declared.form.FormError.{FormError}
use Rattle.wire.specs.Form.{form_of, refusal_of, operands_of}
use Rattle.interval.specs.Intervals.{rank_of}
use Rattle.places.specs.Places.{permitted_here, least_permitted}
use Rattle.areas.specs.declared.Area.{Area}
use Rattle.areas.specs.declared.Stay.{Stay}
use Rattle.areas.specs.Numbers.{is_area}
use Rattle.areas.specs.Stays.{line_speed, area_speed}
use Rattle.areas.proofs.Told.{partial_is}
use Rattle.curve.specs.declared.Judged.{Judged}
use Rattle.rules.specs.Numbers.{answer_number, code_number, code_of, stop_of, incident_of}
use Rattle.rules.specs.Operands.{code_byte}
use Rattle.rules.specs.Places.{any_of, all_of, free_section, ending_section, moved_section, all_curves_held, all_sections_held, holds_curve, holds_section}
use Rattle.rules.specs.Speeds.{section_speed, stop_speed, vmax_of, permitted_speed}
use Rattle.rules.specs.Shows.{no_candidate, set_number, is_lower, goes_before, chosen_of, chosen_from, candidates, chosen}
use Rattle.rules.specs.Refusals.{Rule, first_of, rules_for, finds_no_place, whole_answer, answer_for, answer_of}
use Rattle.rules.specs.Calls.{call_of}
use Rattle.rules.specs.Runs.{Sent, answer_to}
use Rattle.rules.specs.Claims.{TellsIncident, UpToLine, counted_times, CodesAreTheTable, IncidentsAreTold, FirstFourAreWire, AllHeldMeansAll, SectionEndsAtRear, VmaxIsLeast, PermittedIsLeast, ShownIsFirst, CheckFailsAtLimit}
use Rattle.rules.specs.declared.Answer.{Answer}
use Rattle.rules.specs.declared.Code.{Code}
use Rattle.rules.specs.declared.Incident.{Incident}
use Rattle.rules.specs.declared.Check.{Check}
use Rattle.rules.specs.declared.Candidate.{Candidate}
use Rattle.rules.specs.declared.Section.{Section}
use Rattle.rules.specs.declared.Stm.{Stm}
use Rattle.rules.proofs.Tests.{and_both, both, second_fails, if_used, not_both, either, neither}
use Rattle.rules.proofs.Told.{code_told, code_is}

-- ---- codes

pub codes_are_the_table : CodesAreTheTable
unfolding commands
codes_are_the_table = (refl, code_told)

-- the code of a number
code_by : (code : Code) {number : ℕ} → code_number code ≡ number → code ≡ code_of number
code_by code e = sym (code_told code) ∙ ap code_of e

incident_by : (code : Code) (which : ℕ) (incident : Incident) → TellsIncident incident (code_number code) which → incident_of code which ≡ Some incident
unfolding code_of stop_of incident_of
incident_by code which Incident.AimedStop t = ap₂ incident_of (code_by code t.0) t.1
incident_by code which Incident.UnexpectedStop t = ap₂ incident_of (code_by code t.0) t.1
incident_by code which Incident.Landslide t = ap₂ incident_of (code_by code t.0) t.1
incident_by code which Incident.BaliseError t = ap (λ told. incident_of told which) (code_by code t)

-- an incident, if it is one, is told
abbrev IfTold : Option Incident → ℕ → ℕ → Type 0
IfTold (Some incident) code which = TellsIncident incident code which
IfTold None code which = ⊤

no_stop : (which : ℕ) → 3 ≤ which → stop_of which ≡ None
unfolding stop_of
no_stop which l = rw (ne_eqb which 0 (λ e. omega arith), ne_eqb which 1 (λ e. omega arith), ne_eqb which 2 (λ e. omega arith))

stop_told : (which : ℕ) → IfTold (stop_of which) 0x30 which
unfolding stop_of
stop_told zero = (refl, refl)
stop_told (suc zero) = (refl, refl)
stop_told (suc (suc zero)) = (refl, refl)
stop_told (suc (suc (suc n))) = subst (λ stop. IfTold stop 0x30 (suc (suc (suc n)))) (sym (no_stop (suc (suc (suc n))) (omega arith))) tt

incident_told : (code which : ℕ) (stop error : Bool) → eqb code 0x30 ≡ stop → eqb code 0x32 ≡ error
    → IfTold (cond stop (stop_of which) (cond error (Some Incident.BaliseError) None)) code which
incident_told code which true error e f = subst (λ n. IfTold (stop_of which) n which) (sym (eqb-true code 0x30 e)) (stop_told which)
incident_told code which false true e f = eqb-true code 0x32 f
incident_told code which false false e f = tt

pub incidents_are_told : IncidentsAreTold
unfolding incident_of
incidents_are_told code which incident = (
  incident_by code which incident,
  λ e. subst (λ told. IfTold told (code_number code) which) e (incident_told (code_number code) which _ _ refl refl),
)

pub first_four_are_wire : FirstFourAreWire
unfolding refusal_of
first_four_are_wire (Err FormError.WrongArea) n whole e = cc e
first_four_are_wire (Err FormError.NoBytes) n whole e = cc e
first_four_are_wire (Err FormError.NoCode) n whole e = cc e
first_four_are_wire (Err FormError.WrongLength) n whole e = cc e
first_four_are_wire (Ok passed) n whole e = absurd (never (cc))

-- ---- refusal 13

abbrev is_all_held : Answer → Bool
is_all_held answer = eqb (answer_number answer) 13

-- where it is the answer of a list, one that gives it applies
abbrev gives : Rule → Bool
gives r = is_all_held r.answer && r.applies

given_first : (r : Rule) (rs : List Rule) (applies : Bool) → (is_all_held (first_of rs) ≡ true → any_of gives rs ≡ true)
    → is_all_held (cond applies r.answer (first_of rs)) ≡ true → (is_all_held r.answer && applies || any_of gives rs) ≡ true
given_first r rs true later e = rw e
given_first r rs false later e = rw (and-false, later e)

given_one : (rs : List Rule) → is_all_held (first_of rs) ≡ true → any_of gives rs ≡ true
unfolding any_of
given_one [] e = absurd (false≢true e)
given_one (r ∷ rs) e = given_first r rs r.applies (given_one rs) e

given_whole : (form : Result ⊤ FormError) (stm : Stm) (command : List ℕ) → is_all_held (answer_for form (whole_answer stm command)) ≡ true
    → finds_no_place stm (code_of (code_byte command)) (operands_of command) ≡ true
unfolding rules_for any_of
given_whole (Err FormError.WrongArea) stm command e = absurd (false≢true e)
given_whole (Err FormError.NoBytes) stm command e = absurd (false≢true e)
given_whole (Err FormError.NoCode) stm command e = absurd (false≢true e)
given_whole (Err FormError.WrongLength) stm command e = absurd (false≢true e)
given_whole (Ok passed) stm command e =
    let code = code_of (code_byte command) in
    let s = operands_of command in
    sym (or-false (finds_no_place stm code s)) ∙ given_one (rules_for stm command code s) e

no_place : (stm : Stm) (x : Sent) → answer_to stm x ≡ Answer.AllHeld
    → finds_no_place stm (code_of (code_byte x.command)) (operands_of x.command) ≡ true
unfolding call_of answer_of
no_place stm x e = given_whole (form_of x.command (length x.area)) stm x.command (ap is_all_held e)

pub all_holds : {A : Type 0} (test : A → Bool) (xs : List A) → all_of test xs ≡ true → (x : A) → x ∈ xs → test x ≡ true
unfolding all_of
all_holds test [] e x m = absurd (Memᴰ.not-nil m)
all_holds test (y ∷ ys) e x (Memᴰ.head p) = rw p (both (test y) (all_of test ys) e).0
all_holds test (y ∷ ys) e x (Memᴰ.tail m) = all_holds test ys (both (test y) (all_of test ys) e).1 x m

no_curve_place : (stm : Stm) (s : List ℕ) → finds_no_place stm Code.NewCurve s ≡ true → all_curves_held stm.track.curves ≡ true
unfolding finds_no_place
no_curve_place stm s e =
    let new = not (holds_curve (byte_at s 0) stm.track.curves) in
    let all = all_curves_held stm.track.curves in
    (both new all (sym (or-false (new && all)) ∙ e)).1

no_section_place : (stm : Stm) (s : List ℕ) → finds_no_place stm Code.NewSection s ≡ true
    → all_sections_held stm.track.sections ≡ true
unfolding finds_no_place
no_section_place stm s e =
    (both (not (holds_section (byte_at s 0) stm.track.sections)) (all_sections_held stm.track.sections) e).1

pub all_held_means_all : AllHeldMeansAll
all_held_means_all stm x e =
    let code = code_of (code_byte x.command) in
    let s = operands_of x.command in
    let told = no_place stm x e in (
      λ c. all_holds (λ curve. curve.held) stm.track.curves
          (no_curve_place stm s (rw (code_is Code.NewCurve code c) at told)),
      λ c. all_holds (λ section. section.held) stm.track.sections
          (no_section_place stm s (rw (code_is Code.NewSection code c) at told)),
    )

-- ---- sections

pub section_ends_at_rear : SectionEndsAtRear
unfolding moved_section
section_ends_at_rear length moved section h e =
    let covered = section.covered + moved in
    let by : Bool → Section = λ ends. cond ends free_section (ending_section section covered) in
    let ending = ap (λ t. cond t (by (leb (100 * length) covered)) section) (and_both section.held section.ending h e) in
    (λ l. ending ∙ ap by (lt-leb (100 * length) covered l), λ l. ending ∙ ap by (le-leb (100 * length) covered l))

-- ---- speeds

-- a speed that counts only where something is so, and else is the base
up_to_so : (so : Bool) (n speed base : ℕ) → n ≤ cond so speed base → so ≡ true → n ≤ speed
up_to_so true n speed base l e = l
up_to_so false n speed base l e = absurd (false≢true e)

up_to_either : (so : Bool) (n speed base : ℕ) → n ≤ base → (so ≡ true → n ≤ speed) → n ≤ cond so speed base
up_to_either true n speed base l k = k refl
up_to_either false n speed base l k = l

-- the least of a limit, of the base, and of what those of a list give that are held
module _ {A : Type 0} (held : A → Bool) (speed : A → ℕ) (base limit : ℕ) where
  abbrev least : List A → ℕ
  least xs = foldr min base (map (λ x. cond (held x) (speed x) base) xs)

  record UpTo (xs : List A) (n : ℕ) : Type 0 where
    limited : n ≤ limit
    based : n ≤ base
    given : (x : A) → x ∈ xs → held x ≡ true → n ≤ speed x

  least_based : (xs : List A) → least xs ≤ base
  least_based [] = omega arith
  least_based (x ∷ xs) = omega (arith, least_based xs)

  least_given : (xs : List A) (x : A) → x ∈ xs → held x ≡ true → least xs ≤ speed x
  least_given [] x m h = absurd (Memᴰ.not-nil m)
  least_given (y ∷ ys) x (Memᴰ.head p) h = rw (← p, h) (min-le_left (speed x) (least ys))
  least_given (y ∷ ys) x (Memᴰ.tail m) h = omega (arith, least_given ys x m h)

  least_most : (xs : List A) (n : ℕ) → n ≤ base → ((x : A) → x ∈ xs → held x ≡ true → n ≤ speed x) → n ≤ least xs
  least_most [] n b g = b
  least_most (x ∷ xs) n b g =
      le-min (up_to_either (held x) n (speed x) base b (g x (Memᴰ.head refl)))
      (least_most xs n b (λ y m. g y (Memᴰ.tail m)))

  is_least : (xs : List A) → UpTo xs (min limit (least xs)) × ((n : ℕ) → UpTo xs n → n ≤ min limit (least xs))
  is_least xs = (
    record {
      limited = min-le_left limit (least xs);
      based = omega (arith, least_based xs);
      given = λ x m h. omega (arith, least_given xs x m h);
    },
    λ n u. le-min u.limited (least_most xs n u.based u.given),
  )

-- the area's part
line_up_to : (line : Option ℕ) (n : ℕ) → n ≤ line_speed line → UpToLine line n
line_up_to None n h = h
line_up_to (Some speed) n h = h

up_to_line : (line : Option ℕ) (n : ℕ) → UpToLine line n → n ≤ line_speed line
up_to_line None n h = h
up_to_line (Some speed) n h = h

module _ (base n : ℕ) (stay : Stay) where
  area_up_to : n ≤ area_speed base stay → stay.area ≡ Area.Partial → UpToLine stay.line n
  unfolding area_speed
  area_up_to h p =
      line_up_to stay.line n
      (up_to_so (is_area Area.Partial stay.area) n (line_speed stay.line) base h (ap (is_area Area.Partial) p))

  up_to_area : n ≤ base → (stay.area ≡ Area.Partial → UpToLine stay.line n) → n ≤ area_speed base stay
  unfolding area_speed
  up_to_area b u =
      up_to_either (is_area Area.Partial stay.area) n (line_speed stay.line) base b
      (λ t. up_to_line stay.line n (u (partial_is stay.area t)))

pub vmax_is_least : VmaxIsLeast
unfolding vmax_of
vmax_is_least train track =
    let base = train.speed in
    let stop = stop_speed base track.forty in
    let area = area_speed base track.stay in
    let l = is_least (λ section. section.held) (λ section. section.speed) base stop track.sections in
    let inner = min stop (foldr min base (map (section_speed base) track.sections)) in
    let below : min area inner ≤ inner = min-le_right area inner in (
      record {
        speed = omega (arith, below, l.0.based);
        sections = λ section m h. omega (arith, below, l.0.given section m h);
        forty = up_to_so track.forty (min area inner) 40 base (omega (arith, below, l.0.limited));
        area = area_up_to base (min area inner) track.stay (min-le_left area inner);
      },
      λ n u. le-min (up_to_area base n track.stay u.speed u.area)
          (l.1 n (record {
            limited = up_to_either track.forty n 40 base u.speed u.forty;
            based = u.speed;
            given = u.sections;
          })),
    )

permitted_least : (judged : List Judged) → least_permitted judged ≡ foldr min 300 (map permitted_here judged)
unfolding least_permitted
permitted_least [] = refl
permitted_least (j ∷ js) = ap (min (permitted_here j)) (permitted_least js)

permitted_among : (vmax : ℕ) (judged : List Judged)
    → permitted_speed vmax judged ≡ min vmax (foldr min 300 (map permitted_here judged))
unfolding permitted_speed
permitted_among vmax judged = ap (min vmax) (permitted_least judged)

pub permitted_is_least : PermittedIsLeast
permitted_is_least vmax judged =
    let l = is_least (λ j. j.held) (λ j. j.permitted) 300 vmax judged in
    rw (permitted_among vmax judged) (
      record { top = l.0.based; limit = l.0.limited; curves = l.0.given },
      λ n u. l.1 n (record { limited = u.limit; based = u.top; given = u.curves }),
    )

-- ---- the shown curve

-- what one step of the order says, either way
lower_told : (x y : ℕ) (then : Bool) → is_lower x y then ≡ true → (x ≤ y) × (x ≡ y → then ≡ true)
lower_told x y then e =
    elim (either (ltb x y) (eqb x y && then) e) [
      | inl l ↦ let less = ltb-true x y l in (le_of_lt less, λ same. absurd (omega arith))
      | inr t ↦ let p = both (eqb x y) then t in (le_of_eq (eqb-true x y p.0), λ same. p.1)
    ]

pub not_lower_told : (x y : ℕ) (then : Bool) → is_lower x y then ≡ false → (y ≤ x) × (x ≡ y → then ≡ false)
not_lower_told x y then e =
    let t = neither (ltb x y) (eqb x y && then) e in
    (ltb-false x y t.0, λ same. second_fails (eqb x y) then (eq-eqb x y same) t.1)

not_lower : (x y : ℕ) (then : Bool) → y ≤ x → (x ≡ y → then ≡ false) → is_lower x y then ≡ false
not_lower x y then l k = rw (le-ltb x y l) (not_both (eqb x y) then (λ e. k (eqb-true x y e)))

lower_one_way : (x y : ℕ) (t u : Bool) → (t ≡ true → u ≡ false) → is_lower x y t ≡ true → is_lower y x u ≡ false
lower_one_way x y t u k e = let p = lower_told x y t e in not_lower y x u p.0 (λ same. k (p.1 (sym same)))

not_lower_on : (x y z : ℕ) (t u v : Bool) → (t ≡ false → u ≡ false → v ≡ false)
    → is_lower x y t ≡ false → is_lower y z u ≡ false → is_lower x z v ≡ false
not_lower_on x y z t u v k e f =
    let p = not_lower_told x y t e in
    let q = not_lower_told y z u f in
    not_lower x z v (omega arith) (λ same. k (p.1 (omega arith)) (q.1 (omega arith)))

less_one_way : (x y : ℕ) → ltb x y ≡ true → ltb y x ≡ false
less_one_way x y e = le-ltb y x (omega (arith, ltb-true x y e))

not_less_on : (x y z : ℕ) → ltb x y ≡ false → ltb y z ≡ false → ltb x z ≡ false
not_less_on x y z e f = le-ltb x z (omega (arith, ltb-false x y e, ltb-false y z f))

-- curves before records, then lower id
abbrev placed_before : Candidate → Candidate → Bool
placed_before x y = is_lower (set_number x.et) (set_number y.et) (ltb x.curve.id y.curve.id)

placed_one_way : (x y : Candidate) → placed_before x y ≡ true → placed_before y x ≡ false
placed_one_way x y = lower_one_way (set_number x.et) (set_number y.et) _ _ (less_one_way x.curve.id y.curve.id)

not_placed_on : (x y z : Candidate) → placed_before x y ≡ false → placed_before y z ≡ false → placed_before x z ≡ false
not_placed_on x y z =
    not_lower_on (set_number x.et) (set_number y.et) (set_number z.et) _ _ _
    (not_less_on x.curve.id y.curve.id z.curve.id)

-- lower permitted speed, then these
abbrev permits_less : Candidate → Candidate → Bool
permits_less x y = is_lower x.judged.permitted y.judged.permitted (placed_before x y)

permits_one_way : (x y : Candidate) → permits_less x y ≡ true → permits_less y x ≡ false
permits_one_way x y =
    lower_one_way x.judged.permitted y.judged.permitted _ _ (placed_one_way x y)

not_permits_on : (x y z : Candidate) → permits_less x y ≡ false → permits_less y z ≡ false → permits_less x z ≡ false
not_permits_on x y z =
    not_lower_on x.judged.permitted y.judged.permitted z.judged.permitted _ _ _ (not_placed_on x y z)

-- latest interval first: of two at most one goes before the other, none before itself, and "not before" is transitive
before_one_way : (x y : Candidate) → goes_before x y ≡ true → goes_before y x ≡ false
unfolding goes_before
before_one_way x y =
    lower_one_way (rank_of y.judged.interval) (rank_of x.judged.interval) _ _ (permits_one_way x y)

not_before_itself : (x : Candidate) → goes_before x x ≡ false
not_before_itself x = not_true_false (goes_before x x) (λ e. false≢true (sym (before_one_way x x e) ∙ e))

not_before_on : (x y z : Candidate) → goes_before x y ≡ false → goes_before y z ≡ false → goes_before x z ≡ false
unfolding goes_before
not_before_on x y z e f =
    not_lower_on (rank_of z.judged.interval) (rank_of y.judged.interval) (rank_of x.judged.interval) _ _ _
    (λ yz xy. not_permits_on x y z xy yz) f e

-- a candidate that is held, and before which this one does not go
abbrev pub ShownOver : Candidate → Candidate → Type 0
ShownOver c shown = (shown.judged.held ≡ true) × (goes_before c shown ≡ false)

shown_over_on : (x y z : Candidate) → ShownOver x y → ShownOver y z → ShownOver x z
shown_over_on x y z p q = (q.0, not_before_on x y z p.1 q.1)

-- the one of two that is shown, by the test that chooses it
module _ (best next : Candidate) where
  abbrev next_chosen : Bool
  next_chosen = next.judged.held && (not best.judged.held || goes_before next best)

  over_best : best.judged.held ≡ true → (t : Bool) → next_chosen ≡ t → ShownOver best (cond t next best)
  over_best h true e =
      let p = both next.judged.held (not best.judged.held || goes_before next best) e in
      let before = if_used best.judged.held (goes_before next best) p.1 h in
      (p.0, before_one_way next best before)
  over_best h false e = (h, not_before_itself best)

  over_next : next.judged.held ≡ true → (t : Bool) → next_chosen ≡ t → ShownOver next (cond t next best)
  over_next h true e = (h, not_before_itself next)
  over_next h false e =
      let k = second_fails next.judged.held (not best.judged.held || goes_before next best) h e in
      let p = neither (not best.judged.held) (goes_before next best) k in
      (not-false best.judged.held p.0, p.1)

  one_of_both : (t : Bool) → (cond t next best ≡ best) ⊎ (cond t next best ≡ next)
  one_of_both true = inr refl
  one_of_both false = inl refl

-- the one of a list that is shown
pub over_first : (best : Candidate) (xs : List Candidate) → best.judged.held ≡ true → ShownOver best (chosen_from best xs)
unfolding chosen_from chosen_of
over_first best [] h = (h, not_before_itself best)
over_first best (next ∷ rest) h =
    let p = over_best best next h (next_chosen best next) refl in
    shown_over_on best (chosen_of best next) (chosen_from (chosen_of best next) rest) p (over_first (chosen_of best next) rest p.0)

over_here : (best c : Candidate) (rest : List Candidate) → c.judged.held ≡ true → ShownOver c (chosen_from (chosen_of best c) rest)
unfolding chosen_of
over_here best c rest h =
    let p = over_next best c h (next_chosen best c) refl in
    shown_over_on c (chosen_of best c) (chosen_from (chosen_of best c) rest) p (over_first (chosen_of best c) rest p.0)

over_each : (best : Candidate) (xs : List Candidate) (c : Candidate) → c ∈ xs → c.judged.held ≡ true
    → ShownOver c (chosen_from best xs)
unfolding chosen_from
over_each best [] c m h = absurd (Memᴰ.not-nil m)
over_each best (next ∷ rest) c (Memᴰ.head same) h = rw (← same) (over_here best c rest h)
over_each best (next ∷ rest) c (Memᴰ.tail m) h = over_each (chosen_of best next) rest c m h

one_of_all : (best : Candidate) (xs : List Candidate) → (chosen_from best xs ≡ best) ⊎ (chosen_from best xs ∈ xs)
unfolding chosen_from chosen_of
one_of_all best [] = inl refl
one_of_all best (next ∷ rest) =
    elim (one_of_all (chosen_of best next) rest) [
      | inl e ↦ elim (one_of_both best next (next_chosen best next)) [ inl f ↦ inl (e ∙ f) | inr f ↦ inr (Memᴰ.head (e ∙ f)) ]
      | inr m ↦ inr (Memᴰ.tail m)
    ]

pub held_one : (xs : List Candidate) → (chosen_from no_candidate xs).judged.held ≡ true → chosen_from no_candidate xs ∈ xs
held_one xs h =
    elim (one_of_all no_candidate xs) [
      | inl e ↦ absurd (false≢true (sym (ap (λ shown. shown.judged.held) e) ∙ h))
      | inr m ↦ m
    ]

pub shown_is_first : ShownIsFirst
unfolding chosen
shown_is_first judge track c m h =
    let xs = candidates judge track in
    let over = over_each no_candidate xs c m h in
    (over.0, held_one xs over.0, over.1)

-- ---- checks

counted : (limit n : ℕ) → n < limit → counted_times limit n ≡ Check.Counting n
unfolding counted_times
counted limit zero l = refl
counted limit (suc n) l = rw (counted limit n (omega arith), lt-leb limit (n + 1) (omega arith), add-one)

pub at_limit : (limit n : ℕ) → n < limit → leb limit (n + 1) ≡ eqb (n + 1) limit
at_limit limit n l =
    elim (ℕ_discrete (n + 1) limit) [
      | yes same ↦ rw (le-leb limit (n + 1) (omega arith), eq-eqb (n + 1) limit same)
      | no other ↦ rw (lt-leb limit (n + 1) (omega arith), ne_eqb (n + 1) limit other)
    ]

pub check_fails_at_limit : CheckFailsAtLimit
check_fails_at_limit limit n l = (counted limit n l, rw (counted limit n l) (at_limit limit n l))
