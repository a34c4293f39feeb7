use Rattle.std.proofs.Common.{◌≡◌, ℕ, ◌≤◌, lit≤, List, ◌++◌, length, ap, subst, ◌∙◌, rules, tests}
use borrow.Rule.Slice.PartMut.{put_mid}
use lib.ListN.{drop_of_length-le}
use lib.Seq.{take-append_seam, drop-append_seam}
use mathlib.Core.List.{append-nil}
use Rattle.records.specs.Lives.{as_curve}
use Rattle.places.proofs.Arrays.{mapped}
use Rattle.boards.proofs.held.all_curves.Goals as goal

-- all behind the first n is written
behind_written : {A : Type 0} (n k : ℕ) (xs rest ys : List A) → length xs ≡ n → length rest ≤ k → put_mid n k (xs ++ rest) ys ≡ xs ++ ys
behind_written n k xs rest ys e h =
    subst (λ m. put_mid m k (xs ++ rest) ys ≡ xs ++ ys) e (rw (take-append_seam xs rest, drop-append_seam xs rest, drop_of_length-le rest h, append-nil))

pub returns : goal.returns
returns c =
    let a = c.args in
    let joined = mapped _ as_curve _ (λ x r q k. search (rules, tests)) a.ets c.map.result _ (search rules) c.map.ensures.items in
    rw (c.copy_from_slice.ensures.after, c.copy_from_slice-2.ensures.after) (behind_written 16 8 a.curves _ c.map.result (search rules) (lit≤ tt) ∙ ap (a.curves ++◌) joined)
