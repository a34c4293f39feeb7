-- A list in which reports are sent again leaves the unit as it would without. Assumes nothing.
use mathlib.Core.Path.{◌≡◌, refl, ◌∙◌, ap}
use Prim.Native.Nat.{ℕ, zero, suc}
use mathlib.Core.Bool.{Bool, true, false, cond}
use mathlib.Core.List.{List, [], ◌∷◌, ◌++◌}
use mathlib.Core.Option.{Option, none, some}
use lib.ListN.{length}
use Rattle.wire.proofs.Commands.{whole_area}
use Rattle.rules.specs.Numbers.{is_accepted}
use Rattle.rules.specs.Runs.{Sent, answer_to, state_after, state_at_end}
use Rattle.rules.specs.Ground.{copies, last_accepted, resent, SentAgainMovesNothing}
use Rattle.rules.specs.declared.Stm.{Stm}
use Rattle.rules.proofs.Answers.{after_other, passed}
use Rattle.rules.proofs.Once.{sent_again_is_again}

-- it would not be accepted now
abbrev Spent : Option Sent → Stm → Type 0
Spent none stm = Unit {0}
Spent (some x) stm = is_accepted (answer_to stm x) ≡ false

copies_pass : (times : ℕ) (last : Option Sent) (stm : Stm) (ys : List Sent) → Spent last stm
    → state_at_end stm (copies times last ++ ys) ≡ state_at_end stm ys
unfolding state_at_end
copies_pass times none stm ys s = refl
copies_pass zero (some x) stm ys s = refl
copies_pass (suc times) (some x) stm ys s =
    ap (λ after. state_at_end after (copies times (some x) ++ ys)) (after_other stm x s) ∙ copies_pass times (some x) stm ys s

sent_again_spent : (stm : Stm) (x : Sent) → is_accepted (answer_to stm x) ≡ true → is_accepted (answer_to (state_after stm x) x) ≡ false
sent_again_spent stm x e =
    let area = whole_area x.command (length x.area) (passed stm x e).0 in
    ap (λ m. is_accepted m.answer) (sent_again_is_again stm x x e refl area)

spent_after : (stm : Stm) (x : Sent) (last : Option Sent) (accepted : Bool) → is_accepted (answer_to stm x) ≡ accepted → Spent last stm
    → Spent (cond accepted (some x) last) (state_after stm x)
spent_after stm x last true e s = sent_again_spent stm x e
spent_after stm x last false e s = rw (after_other stm x e) s

resent_passes : (times : List ℕ) (last : Option Sent) (stm : Stm) (xs : List Sent) → Spent last stm
    → state_at_end stm (resent times last stm xs) ≡ state_at_end stm xs
unfolding state_at_end resent
resent_passes [] last stm xs s = refl
resent_passes (n ∷ times) last stm [] s = refl
resent_passes (n ∷ times) last stm (x ∷ xs) s =
    let now = last_accepted stm x last in
    let spent = spent_after stm x last (is_accepted (answer_to stm x)) refl s in
    copies_pass n now (state_after stm x) (resent times now (state_after stm x) xs) spent
    ∙ resent_passes times now (state_after stm x) xs spent

pub sent_again_moves_nothing : SentAgainMovesNothing
sent_again_moves_nothing times stm xs = resent_passes times none stm xs tt
