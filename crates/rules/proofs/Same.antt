-- A command that is answered 100 is the last accepted one, byte for byte. Assumes nothing.
use mathlib.Core.Path.{◌≡◌, refl, sym, ◌∙◌, ap, ap₂}
use Prim.Native.Nat.{ℕ, zero, suc, ◌≤◌}
use native.Mathlib.Nat.{suc_inj, suc-ne-zero, le_of_suc-le-suc, not-suc-le-zero}
use mathlib.Core.Bool.{Bool, true, false}
use mathlib.Core.List.{List, [], ◌∷◌}
use lib.ListN.{length, drop}
use Rattle.wire.specs.Numbers.{byte_at}
use Rattle.wire.specs.Codes.{length_of, longest}
use Rattle.wire.specs.Form.{form_of}
use Rattle.std.specs.Prelude.{Result, Ok, Err, ⊤, Option, None, Some}
use Rattle.wire.specs.declared.form.FormError.{FormError}
use Rattle.wire.proofs.Commands.{whole_length}
use Rattle.wire.proofs.Equal.{same_equal}
use Rattle.wire.proofs.Table.{lengths_within}
use Rattle.rules.specs.Numbers.{is_accepted, is_refused}
use Rattle.rules.specs.Commands.{padded, remembered, accepted_of}
use Rattle.rules.specs.Refusals.{is_repeat, whole_answer, answer_for, answer_of}
use Rattle.rules.specs.Calls.{call_of}
use Rattle.rules.specs.Runs.{Sent, answer_to, state_after, state_at_end, none_accepted}
use Rattle.rules.specs.Once.{AgainIsTheLast}
use Rattle.rules.specs.declared.Answer.{Answer}
use Rattle.rules.specs.declared.Stm.{Stm}
use Rattle.rules.proofs.Answers.{after_accepted, after_other, passed}
use Rattle.rules.proofs.Tests.{impossible, and_right}
use Rattle.rules.proofs.Repeats.{is_again, repeated}
use Rattle.rules.proofs.Ground.{spared_first}

-- ---- bytes

-- lists of one length that fit, with the same bytes and 0 after their end
padded_equal : (n : ℕ) (s t : List ℕ) → length t ≡ length s → length s ≤ n → padded n t ≡ padded n s → t ≡ s
unfolding padded
padded_equal n [] [] h k e = refl
padded_equal n [] (y ∷ t) h k e = absurd (suc-ne-zero _ h)
padded_equal n (x ∷ s) [] h k e = absurd (suc-ne-zero _ (sym h))
padded_equal zero (x ∷ s) (y ∷ t) h k e = absurd (not-suc-le-zero k)
padded_equal (suc n) (x ∷ s) (y ∷ t) h k e =
    ap₂ ◌∷◌ (ap (λ bytes. byte_at bytes 0) e) (padded_equal n s t (suc_inj h) (le_of_suc-le-suc k) (ap (λ bytes. drop 1 bytes) e))

bytes_of : Option ℕ → ℕ
bytes_of None = 0
bytes_of (Some n) = n

-- whole commands with the same first byte are as long
same_length : (s t : List ℕ) (a b : ℕ) → form_of s a ≡ Ok tt → form_of t b ≡ Ok tt → byte_at t 0 ≡ byte_at s 0
    → length t ≡ length s
unfolding bytes_of
same_length s t a b e f first = ap bytes_of (sym (whole_length t b f) ∙ ap length_of first ∙ whole_length s a e)

first_kept : (n : ℕ) (s : List ℕ) → byte_at (padded (suc n) s) 0 ≡ byte_at s 0
unfolding padded
first_kept n s = refl

whole_equal : (s t : List ℕ) (a b : ℕ) → form_of s a ≡ Ok tt → form_of t b ≡ Ok tt
    → padded longest t ≡ padded longest s → t ≡ s
whole_equal s t a b e f same =
    let first = sym (first_kept 23 t) ∙ ap (λ bytes. byte_at bytes 0) same ∙ first_kept 23 s in
    padded_equal longest s t (same_length s t a b e f first) (lengths_within (byte_at s 0) (length s) (whole_length s a e)).1 same

-- ---- answers

again_whole : (form : Result ⊤ FormError) (stm : Stm) (command : List ℕ) → is_again (answer_for form (whole_answer stm command)) ≡ true → form ≡ Ok tt
again_whole (Err FormError.WrongArea) stm command e = impossible e
again_whole (Err FormError.NoBytes) stm command e = impossible e
again_whole (Err FormError.NoCode) stm command e = impossible e
again_whole (Err FormError.WrongLength) stm command e = impossible e
again_whole (Ok passed) stm command e = refl

again_form : (stm : Stm) (y : Sent) → answer_to stm y ≡ Answer.Again → form_of y.command (length y.area) ≡ Ok tt
unfolding call_of answer_of
again_form stm y e = again_whole (form_of y.command (length y.area)) stm y.command (ap is_again e)

again_bytes : (stm : Stm) (y : Sent) → answer_to stm y ≡ Answer.Again → padded longest y.command ≡ stm.last.bytes
unfolding is_repeat
again_bytes stm y e =
    let repeat = repeated stm y (ap is_accepted e) (ap is_refused e) in
    sym (same_equal stm.last.bytes (padded longest y.command) (and_right stm.control.started _ repeat))

-- ---- any list of which nothing is accepted

abbrev anything : Stm → List ℕ → Bool
anything before command = true

unaccepted : (accepted : Bool) → (accepted ≡ true → true ≡ false) → accepted ≡ false
unaccepted true h = h refl
unaccepted false h = refl

unmoved : (stm : Stm) (ys : List Sent) → none_accepted anything stm ys ≡ true → state_at_end stm ys ≡ stm
unfolding state_at_end
unmoved stm [] n = refl
unmoved stm (y ∷ ys) n =
    let t = spared_first anything stm y ys n in
    unmoved (state_after stm y) ys t.1 ∙ after_other stm y (unaccepted (is_accepted (answer_to stm y)) t.0)

remembered_bytes : (stm : Stm) (x : Sent) → is_accepted (answer_to stm x) ≡ true → (state_after stm x).last.bytes ≡ padded longest x.command
unfolding accepted_of remembered
remembered_bytes stm x e = ap (λ s. s.last.bytes) (after_accepted stm x e)

pub again_is_the_last : AgainIsTheLast
again_is_the_last stm x ys y e n again =
    let last = state_at_end (state_after stm x) ys in
    whole_equal x.command y.command _ _ (passed stm x e).0 (again_form last y again)
    (again_bytes last y again
    ∙ ap (λ s. s.last.bytes) (unmoved (state_after stm x) ys n)
    ∙ remembered_bytes stm x e)
