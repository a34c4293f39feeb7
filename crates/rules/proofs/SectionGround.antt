-- Sections over a list of commands: one that stands stays, and one that ends gains the ground moved. Assumes nothing.
use mathlib.Core.Path.{◌≡◌, refl, sym, ◌∙◌, ap}
use Prim.Native.Nat.{ℕ, ◌+◌, ◌*◌, ◌≤◌, ◌<◌}
use native.Mathlib.Omega.{arith}
use native.Mathlib.Nat.{add-zero}
use native.Mathlib.Decide.{dec_lt}
use mathlib.Core.Bool.{Bool, true, false, cond, not, ◌&&◌, ◌||◌, and-false}
use mathlib.Core.List.{List, [], ◌∷◌, map}
use lib.Dec.{eqb, leb}
use lib.ListN.{get_or}
use Rattle.wire.specs.Numbers.{byte_at}
use Rattle.wire.specs.Form.{operands_of}
use Rattle.areas.proofs.Claims.{deletes_told}
use Rattle.rules.specs.Numbers.{is_accepted, is_code, is_state, code_of, state_of}
use Rattle.rules.specs.Operands.{code_byte, two_at, reading_of, section_of}
use Rattle.rules.specs.Places.{any_of, placed, free_section, ending_section, given_section, ended_section, moved_section, passed_track, moved_track}
use Rattle.rules.specs.Odometer.{noted_track}
use Rattle.rules.specs.Commands.{stopped, carried_out}
use Rattle.rules.specs.Runs.{Sent, answer_to, state_after, state_at_end, none_accepted, is_of, orders_cs, freshens}
use Rattle.rules.specs.History.{is_moving, moved_of, area_is, enters_by_gmd, collected, ground_over, section_at}
use Rattle.rules.specs.Ground.{names_section, touches_section, EndsWith, SectionStays, SectionEndsOverGround}
use Rattle.rules.specs.Held.{holds_at}
use Rattle.rules.specs.declared.Code.{Code}
use Rattle.rules.specs.declared.State.{State}
use Rattle.rules.specs.declared.Section.{Section}
use Rattle.rules.specs.declared.Reading.{Reading}
use Rattle.rules.specs.declared.Stm.{Stm}
use Rattle.rules.proofs.Answers.{after_other}
use Rattle.rules.proofs.Tests.{impossible, neither, cond_by}
use Rattle.rules.proofs.AtPlaces.{changed_any, placed_has, elsewhere, changed_for, changed_for_lem, others_stay, given_stays}
use Rattle.rules.proofs.Claims.{section_ends_at_rear}
use Rattle.rules.proofs.After.{train_after_lem, track_after, track_in, reported_track, train_kept, track_entered}
use Rattle.rules.proofs.Ground.{ground_step, spared_first}

-- ---- a section at its place, after one command

abbrev is_held : Section → Bool
is_held section = section.held

abbrev id_of : Section → ℕ
id_of section = section.id

-- where the train moves
abbrev moves : State → Bool
moves state = is_state State.HS state || is_state State.DA state

-- a section that a command does not name moves with the train
abbrev moved_on : Bool → ℕ → ℕ → Section → Section
moved_on moving length moved section = cond moving (moved_section length moved section) section

moved_free : (length moved : ℕ) → moved_section length moved free_section ≡ free_section
unfolding moved_section
moved_free length moved = refl

module _ (stm : Stm) (place : ℕ) where
  moved_at : (length moved : ℕ)
      → get_or (map (moved_section length moved) stm.track.sections) place free_section
      ≡ moved_section length moved (section_at place stm)
  moved_at length moved =
      changed_any is_held free_section refl (moved_section length moved) (moved_free length moved) stm.track.sections place

  report_moved : (state : State) (r : Reading)
      → get_or (track_in r stm state).sections place free_section
      ≡ moved_on (moves state) stm.train.length r.moved (section_at place stm)
  unfolding moved_track noted_track
  report_moved State.DE r = refl
  report_moved State.CS r = refl
  report_moved State.HS r = moved_at stm.train.length r.moved
  report_moved State.DA r = moved_at stm.train.length r.moved
  report_moved State.FA r = refl

-- the place does not hold the id
abbrev Gone : ℕ → Section → Type 0
Gone id section = holds_at is_held id_of id section ≡ false

module _ (id place : ℕ) (stm : Stm) where
  -- of a command that does not name the section
  abbrev Unnamed : Code → List ℕ → Type 0
  Unnamed code s = ((is_code Code.NewSection code || is_code Code.EndSection code) && eqb (byte_at s 0) id) ≡ false

  abbrev Unfresh : Code → List ℕ → Type 0
  Unfresh code s = (is_code Code.Start code || is_code Code.ChangeState code && is_state State.CS (state_of (byte_at s 0))) ≡ false

  -- and is no entering GMD
  abbrev Undeleting : Code → List ℕ → Type 0
  Undeleting code s = (is_code Code.AreaEvent code && eqb (byte_at s 0) 1 && not (eqb (area_is stm) 4)) ≡ false

  module _ (held : (section_at place stm).held ≡ true) (same : (section_at place stm).id ≡ id) where
    other_id : (n : ℕ) → eqb n id ≡ false → holds_at is_held id_of n (section_at place stm) ≡ false
    other_id n e = elsewhere is_held id_of free_section refl n (section_at place stm) (rw same e)

    command_moved : (code : Code) (s : List ℕ) → Unfresh code s → Unnamed code s → Undeleting code s
        → section_at place (carried_out code s stm)
        ≡ moved_on (is_code Code.Odometer code && moves stm.control.state) stm.train.length (two_at s 2) (section_at place stm)
    unfolding stopped passed_track section_of reading_of given_section ended_section
    command_moved Code.Start s f n d = impossible (sym f)
    command_moved Code.ChangeState s f n d = rw (track_entered (state_of (byte_at s 0)) stm f)
    command_moved Code.Odometer s f n d =
        rw (reported_track (reading_of s) stm stm.control.state) (report_moved stm place stm.control.state (reading_of s))
    command_moved Code.NewCurve s f n d = refl
    command_moved Code.EndCurve s f n d = refl
    command_moved Code.NewSection s f n d =
        given_stays is_held id_of free_section refl (section_of s) (λ old. section_of s) stm.track.sections place held
        (other_id (byte_at s 0) n)
    command_moved Code.EndSection s f n d =
        others_stay is_held id_of free_section refl (byte_at s 0) (λ old. ending_section old 0) stm.track.sections place
        (other_id (byte_at s 0) n)
    command_moved Code.StopPassed s f n d = refl
    command_moved Code.Proceed s f n d = refl
    command_moved Code.BaliseError s f n d = refl
    command_moved Code.TestBrakes s f n d = refl
    command_moved Code.AreaEvent s f n d = rw (deletes_told (byte_at s 0) stm.track.stay ∙ d)
    command_moved Code.NewRecord s f n d = refl
    command_moved Code.SignalPassed s f n d = refl
    command_moved Code.EndRecord s f n d = refl

  -- ---- a place that does not hold the id goes on not holding it

  gone_moved : (moving : Bool) (length moved : ℕ) (section : Section) → Gone id section → Gone id (moved_on moving length moved section)
  unfolding moved_section
  gone_moved true length moved section g =
      cond_by (Gone id) (section.held && section.ending)
      (cond (leb (100 * length) (section.covered + moved)) free_section (ending_section section (section.covered + moved))) section
      (λ _. cond_by (Gone id) (leb (100 * length) (section.covered + moved)) free_section (ending_section section (section.covered + moved))
      (λ _. refl) (λ _. g))
      (λ _. g)
  gone_moved false length moved section g = g

  gone_changed : (n : ℕ) (g : Section → Section) → ((old : Section) → Gone id old → Gone id (g old)) → Gone id (section_at place stm)
      → Gone id (get_or (changed_for is_held id_of free_section refl n g stm.track.sections) place free_section)
  gone_changed n g keeps gone =
      rw (changed_for_lem is_held id_of free_section refl n g stm.track.sections place)
      (cond_by (Gone id) (holds_at is_held id_of n (section_at place stm)) (g (section_at place stm)) (section_at place stm)
      (λ _. keeps (section_at place stm) gone) (λ _. gone))

  command_gone : (code : Code) (s : List ℕ) → Unfresh code s → Unnamed code s → Undeleting code s → Gone id (section_at place stm)
      → Gone id (section_at place (carried_out code s stm))
  unfolding stopped passed_track section_of reading_of given_section ended_section
  command_gone Code.Start s f n d g = impossible (sym f)
  command_gone Code.ChangeState s f n d g = rw (track_entered (state_of (byte_at s 0)) stm f) g
  command_gone Code.Odometer s f n d g =
      rw (reported_track (reading_of s) stm stm.control.state, report_moved stm place stm.control.state (reading_of s))
      (gone_moved (moves stm.control.state) stm.train.length (two_at s 2) (section_at place stm) g)
  command_gone Code.NewCurve s f n d g = g
  command_gone Code.EndCurve s f n d g = g
  command_gone Code.NewSection s f n d g =
      let new = section_of s in
      cond_by (λ sections. Gone id (get_or sections place free_section))
      (any_of (holds_at is_held id_of (byte_at s 0)) stm.track.sections)
      (changed_for is_held id_of free_section refl (byte_at s 0) (λ old. new) stm.track.sections)
      (placed is_held new stm.track.sections)
      (λ _. gone_changed (byte_at s 0) (λ old. new) (λ old k. n) g)
      (λ _. placed_has is_held free_section refl (Gone id) new n stm.track.sections place g)
  command_gone Code.EndSection s f n d g = gone_changed (byte_at s 0) (λ old. ending_section old 0) (λ old k. k) g
  command_gone Code.StopPassed s f n d g = g
  command_gone Code.Proceed s f n d g = g
  command_gone Code.BaliseError s f n d g = g
  command_gone Code.TestBrakes s f n d g = g
  command_gone Code.AreaEvent s f n d g = rw (deletes_told (byte_at s 0) stm.track.stay ∙ d) g
  command_gone Code.NewRecord s f n d g = g
  command_gone Code.SignalPassed s f n d g = g
  command_gone Code.EndRecord s f n d g = g

-- ---- any list

-- what is told of a command that does not touch the section
untouched : (id : ℕ) (stm : Stm) (command : List ℕ) → touches_section id stm command ≡ false
    → (freshens command ≡ false) × (names_section id command ≡ false) × (enters_by_gmd stm command ≡ false)
untouched id stm command n =
    let t = neither (freshens command || names_section id command) (enters_by_gmd stm command) n in
    let u = neither (freshens command) (names_section id command) t.0 in
    (u.0, u.1, t.1)

module _ (id place : ℕ) where
  -- one command that is accepted or not
  one_moved : (stm : Stm) (x : Sent) (accepted : Bool) → is_accepted (answer_to stm x) ≡ accepted
      → (section_at place stm).held ≡ true → (section_at place stm).id ≡ id → (accepted ≡ true → touches_section id stm x.command ≡ false)
      → section_at place (state_after stm x)
      ≡ moved_on (accepted && is_moving stm x.command) stm.train.length (moved_of x.command) (section_at place stm)
  one_moved stm x true e held same n =
      let t = untouched id stm x.command (n refl) in
      rw (track_after stm x e)
      (command_moved id place stm held same (code_of (code_byte x.command)) (operands_of x.command) t.0 t.1 t.2)
  one_moved stm x false e held same n = rw (after_other stm x e)

  one_gone : (stm : Stm) (x : Sent) (accepted : Bool) → is_accepted (answer_to stm x) ≡ accepted
      → (accepted ≡ true → touches_section id stm x.command ≡ false) → Gone id (section_at place stm)
      → Gone id (section_at place (state_after stm x))
  one_gone stm x true e n g =
      let t = untouched id stm x.command (n refl) in
      rw (track_after stm x e)
      (command_gone id place stm (code_of (code_byte x.command)) (operands_of x.command) t.0 t.1 t.2 g)
  one_gone stm x false e n g = rw (after_other stm x e) g

  gone_over : (stm : Stm) (xs : List Sent) → Gone id (section_at place stm) → none_accepted (touches_section id) stm xs ≡ true
      → Gone id (section_at place (state_at_end stm xs))
  unfolding state_at_end
  gone_over stm [] g n = g
  gone_over stm (x ∷ xs) g n =
      let t = spared_first (touches_section id) stm x xs n in
      gone_over (state_after stm x) xs (one_gone stm x (is_accepted (answer_to stm x)) refl t.0 g) t.1

-- a section that does not end stays where it is
standing_moved : (moving : Bool) (length moved : ℕ) (section : Section) → section.ending ≡ false
    → moved_on moving length moved section ≡ section
unfolding moved_section
standing_moved true length moved section e = rw (e, and-false section.held)
standing_moved false length moved section e = refl

stays_over : (id place : ℕ) (stm : Stm) (xs : List Sent)
    → (section_at place stm).held ≡ true → (section_at place stm).ending ≡ false → (section_at place stm).id ≡ id
    → none_accepted (touches_section id) stm xs ≡ true
    → section_at place (state_at_end stm xs) ≡ section_at place stm
unfolding state_at_end
stays_over id place stm [] held stands same n = refl
stays_over id place stm (x ∷ xs) held stands same n =
    let t = spared_first (touches_section id) stm x xs n in
    let accepted = is_accepted (answer_to stm x) in
    let first = one_moved id place stm x accepted refl held same t.0
    ∙ standing_moved (accepted && is_moving stm x.command) stm.train.length (moved_of x.command) (section_at place stm) stands in
    stays_over id place (state_after stm x) xs (rw first held) (rw first stands) (rw first same) t.1 ∙ first

pub section_stays : SectionStays
section_stays stm xs place held stands n = stays_over (section_at place stm).id place stm xs held stands refl n

-- an ending one: its ground grows, or its place is free
ends_moved : (length moved : ℕ) (section : Section) → section.held ≡ true → section.ending ≡ true
    → section.covered + moved < 100 * length → EndsWith (section.covered + moved) section (moved_section length moved section)
ends_moved length moved section held ending l =
    rw ((section_ends_at_rear length moved section held ending).0 l)
    (record { held = held; id = refl; speed = refl; ending = refl; covered = refl })

one_ends : (moving : Bool) (length moved : ℕ) (section : Section) → section.held ≡ true → section.ending ≡ true
    → section.covered + cond moving moved 0 < 100 * length
    → EndsWith (section.covered + cond moving moved 0) section (moved_on moving length moved section)
one_ends true length moved section held ending l = ends_moved length moved section held ending l
one_ends false length moved section held ending l =
    record { held = held; id = refl; speed = refl; ending = ending; covered = sym (add-zero section.covered) }

one_over : (moving : Bool) (length moved : ℕ) (section : Section) (id : ℕ) → section.held ≡ true → section.ending ≡ true
    → section.covered < 100 * length → 100 * length ≤ section.covered + cond moving moved 0
    → Gone id (moved_on moving length moved section)
one_over true length moved section id held ending before l = rw ((section_ends_at_rear length moved section held ending).1 l)
one_over false length moved section id held ending before l = absurd (omega (arith, before, l))

ends_both : {m n : ℕ} {a b c : Section} → EndsWith m a b → EndsWith n b c → EndsWith n a c
ends_both p q = record { held = q.held; id = q.id ∙ p.id; speed = q.speed ∙ p.speed; ending = q.ending; covered = q.covered }

-- what is claimed of a list, by the ground that it moves
module _ (id place length : ℕ) where
  pub record Ends (stm after : Stm) (covered : ℕ) : Type 0 where
    pub still :
        (section_at place stm).covered + covered < 100 * length
        → EndsWith ((section_at place stm).covered + covered) (section_at place stm) (section_at place after)
    pub gone : 100 * length ≤ (section_at place stm).covered + covered → Gone id (section_at place after)

  -- a section that ends, with less ground than the train's length
  pub record Ending (stm : Stm) : Type 0 where
    pub held : (section_at place stm).held ≡ true
    pub ending : (section_at place stm).ending ≡ true
    pub below : (section_at place stm).covered < 100 * length
    pub same : (section_at place stm).id ≡ id
    pub train : stm.train.length ≡ length

  length_kept : (stm : Stm) (x : Sent) (accepted : Bool) → is_accepted (answer_to stm x) ≡ accepted
      → (accepted ≡ true → touches_section id stm x.command ≡ false) → stm.train.length ≡ length
      → (state_after stm x).train.length ≡ length
  length_kept stm x true e n h =
      let f = (untouched id stm x.command (n refl)).0 in
      let start = (neither (is_of Code.Start x.command) (orders_cs x.command) f).0 in
      rw (train_after_lem stm x e) (ap (λ t. t.length) (train_kept (code_of (code_byte x.command)) (operands_of x.command) stm start) ∙ h)
  length_kept stm x false e n h = rw (after_other stm x e) h

  module _ (stm : Stm) (x : Sent) (xs : List Sent) (n : none_accepted (touches_section id) stm (x ∷ xs) ≡ true) (s : Ending stm) where
    abbrev accepted : Bool
    accepted = is_accepted (answer_to stm x)

    abbrev moved : ℕ
    moved = cond (accepted && is_moving stm x.command) (moved_of x.command) 0

    spares : (accepted ≡ true → touches_section id stm x.command ≡ false) × (none_accepted (touches_section id) (state_after stm x) xs ≡ true)
    spares = spared_first (touches_section id) stm x xs n

    first_moved : section_at place (state_after stm x)
        ≡ moved_on (accepted && is_moving stm x.command) length (moved_of x.command) (section_at place stm)
    first_moved =
        one_moved id place stm x accepted refl s.held s.same spares.0
        ∙ ap (λ l. moved_on (accepted && is_moving stm x.command) l (moved_of x.command) (section_at place stm)) s.train

    first_ends : (section_at place stm).covered + moved < 100 * length
        → EndsWith ((section_at place stm).covered + moved) (section_at place stm) (section_at place (state_after stm x))
    first_ends l =
        rw first_moved
        (one_ends (accepted && is_moving stm x.command) length (moved_of x.command) (section_at place stm) s.held s.ending l)

    first_gone : 100 * length ≤ (section_at place stm).covered + moved → Gone id (section_at place (state_after stm x))
    first_gone l =
        rw first_moved
        (one_over (accepted && is_moving stm x.command) length (moved_of x.command) (section_at place stm) id s.held s.ending
        s.below l)

    still_ending : (section_at place stm).covered + moved < 100 * length → Ending (state_after stm x)
    still_ending l =
        let e = first_ends l in
        record {
          held = e.held;
          ending = e.ending;
          below = rw e.covered l;
          same = e.id ∙ s.same;
          train = length_kept stm x accepted refl spares.0 s.train;
        }

    module _ (rest : Ending (state_after stm x) → Ends (state_after stm x) (state_at_end (state_after stm x) xs) (ground_over (state_after stm x) xs)) where
      abbrev later : ℕ
      later = ground_over (state_after stm x) xs

      on_ends : (section_at place stm).covered + moved < 100 * length → Ends stm (state_at_end (state_after stm x) xs) (moved + later)
      on_ends l =
          let e = first_ends l in
          let r = rest (still_ending l) in
          let sums : (section_at place (state_after stm x)).covered + later ≡ (section_at place stm).covered + (moved + later) = omega (arith, e.covered) in
          record {
            still = λ h. ends_both e (rw sums at (r.still (rw sums h)));
            gone = λ h. r.gone (rw sums h);
          }

      on_gone : 100 * length ≤ (section_at place stm).covered + moved → Ends stm (state_at_end (state_after stm x) xs) (moved + later)
      on_gone l = record {
        still = λ h. absurd (omega (arith, l, h));
        gone = λ h. gone_over id place (state_after stm x) xs (first_gone l) spares.1;
      }

      on : Ends stm (state_at_end (state_after stm x) xs) (moved + later)
      on = elim (dec_lt ((section_at place stm).covered + moved) (100 * length)) [ yes l ↦ on_ends l | no l ↦ on_gone (omega arith) ]

  ends_over : (stm : Stm) (xs : List Sent) → none_accepted (touches_section id) stm xs ≡ true → Ending stm
      → Ends stm (state_at_end stm xs) (ground_over stm xs)
  unfolding collected state_at_end
  ends_over stm [] n s = record {
    still = λ h. record {
      held = s.held;
      id = refl;
      speed = refl;
      ending = s.ending;
      covered = sym (add-zero (section_at place stm).covered);
    };
    gone = λ h. absurd (omega (arith, h, s.below));
  }
  ends_over stm (x ∷ xs) n s =
      rw (ground_step stm x xs) (on stm x xs n s (ends_over (state_after stm x) xs (spares stm x xs n s).1))

pub section_ends_over_ground : SectionEndsOverGround
section_ends_over_ground stm xs place held ending below n =
    let ends = ends_over (section_at place stm).id place stm.train.length stm xs n
    (record { held = held; ending = ending; below = below; same = refl; train = refl }) in
    (ends.still, ends.gone)
