-- What a report keeps of the feedback: readings of 16 bits that lead to it, and a reference pressure.
use mathlib.Core.Path.{◌≡◌, refl, sym, ap, ◌∙◌, subst}
use mathlib.Core.Bool.{true}
use mathlib.Core.List.{List, [], ◌∷◌, ◌++◌}
use lib.IntN.{ℤ}
use Rattle.pressure.specs.declared.Measured.{Measured}
use Rattle.pressure.specs.Phases.{is_set}
use Rattle.pressure.specs.Report.{fresh_feedback, reported_to}
use Rattle.pressure.specs.Claims.{Each, after_all, Agrees}
use Rattle.pressure.proofs.Agreeing.{record_agrees}
use Rattle.pressure.proofs.Settling.{reference_is_kept}
use Rattle.rules.specs.Units.{feedback_after, Reached, UnitHasOneReference}
use Rattle.rules.specs.declared.Train.{Train}
use Rattle.rules.proofs.HighReadings.{Alike}

-- one report more
abbrev pub more_of : Train → Measured → ℤ → Measured
more_of train feedback x = reported_to feedback train.feed train.pressure x

pub after_more : (train : Train) (feedback : Measured) (xs : List ℤ) (x : ℤ)
    → feedback_after train feedback (xs ++ (x ∷ [])) ≡ more_of train (feedback_after train feedback xs) x
unfolding after_all
after_more train feedback [] x = refl
after_more train feedback (y ∷ xs) x = after_more train (more_of train feedback y) xs x

pub each_more : (P : ℤ → Type 0) (xs : List ℤ) (x : ℤ) → Each P xs → P x → Each P (xs ++ (x ∷ []))
each_more P [] x all h = (h, tt)
each_more P (y ∷ xs) x all h = (all.0, each_more P xs x all.1 h)

pub reached_fresh : (train : Train) → Reached train fresh_feedback
unfolding after_all
reached_fresh train = record { readings = []; width = tt; led = refl }

pub reached_more : (train : Train) (feedback : Measured) (x : ℤ) → Alike x → Reached train feedback
    → Reached train (more_of train feedback x)
reached_more train feedback x a r = record {
  readings = r.readings ++ (a.reading ∷ []);
  width = each_more _ r.readings a.reading r.width a.width;
  led = a.same feedback.phase feedback.pressures train.feed train.pressure
      ∙ ap (λ (f : Measured). more_of train f a.reading) r.led
      ∙ sym (after_more train fresh_feedback r.readings a.reading);
}

pub set_stays : (train : Train) (feedback : Measured) (x : ℤ) → is_set feedback.phase ≡ true
    → is_set (more_of train feedback x).phase ≡ true
set_stays train feedback x e = reference_is_kept feedback.phase feedback.pressures train.feed train.pressure x e

pub unit_has_one_reference : UnitHasOneReference
unit_has_one_reference stm u =
    let r = u.feedback in
    subst Agrees (sym r.led) (record_agrees stm.train.feed stm.train.pressure r.readings)
