-- The text of the portions of an input is its trip sheet. Assumes nothing.
use Rattle.std.specs.Prelude.{ℕ, Option, None, Some, IfSome, Result, Ok, Err, OnOk, List, [], ◌∷◌}
use Rattle.std.proofs.Common.{◌≡◌, sym, subst, ◌∙◌, append-nil}
use mathlib.Core.List.{flatten}
use Rattle.portions.specs.Portions.{portions_of}
use Rattle.portions.specs.Reads.{text_by}
use Rattle.portions.proofs.Reading.{ended_anyhow}
use Rattle.printing.specs.declared.Trip.{Trip}
use Rattle.printing.specs.Sheets.{trip_sheet, fresh_trip, printer}
use Rattle.printing.proofs.Promises.{writes_the_sheet}

sheet_text : (input : List ℕ) → text_by printer fresh_trip (portions_of input) ≡ trip_sheet input
unfolding flatten
sheet_text input =
    let whole = append-nil input in
    rw whole at (sym (ended_anyhow Trip printer fresh_trip (input ∷ [])).1 ∙ writes_the_sheet (input ∷ []))

-- what holds of the text holds of the sheet
pub of_the_sheet : (r : Option (List ℕ)) (P : List ℕ → List ℕ → Type 0) → IfSome r (λ input. P input (text_by printer fresh_trip (portions_of input)))
    → IfSome r (λ input. P input (trip_sheet input))
of_the_sheet None P h = tt
of_the_sheet (Some input) P h = subst (P input) (sheet_text input) h

pub ok_of_the_sheet : {A E : Type 0} (result : Result A E) (r : Option (List ℕ)) (P : List ℕ → List ℕ → Type 0)
    → OnOk result (IfSome r (λ input. P input (text_by printer fresh_trip (portions_of input))))
    → OnOk result (IfSome r (λ input. P input (trip_sheet input)))
ok_of_the_sheet (Ok x) r P h = of_the_sheet r P h
ok_of_the_sheet (Err e) r P h = tt
