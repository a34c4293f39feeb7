-- Parts of bytes, and a part brought to the front. Assumes nothing.
use Prim.Native.Nat.{ℕ, ◌+◌, ◌-◌, min}
use mathlib.Core.Path.{◌≡◌, sym, ap, ◌∙◌}
use mathlib.Core.List.{List, ◌++◌}
use native.Mathlib.Omega.{arith}
use lib.ListN.{length, take, drop, length-take, length-drop}
use lib.Seq.{slice}
use Rattle.std.specs.List.{copy_within}
use Rattle.std.proofs.Math.Nat.{min-le_right}
use Rattle.std.proofs.lemmas.List.{take_min, drop_min, drop-take}
use Rattle.wire.specs.Bytes.{placed}

-- the part of any two places, as far as there are such
pub part_of : (from to : ℕ) (s : List ℕ)
    → let end = min to (length s) in let start = min from end in take (end - start) (drop start s) ≡ slice from to s
part_of from to s =
    let end = min to (length s) in
    let start = min from end in
    let on : start + (end - start) ≡ end = let h = min-le_right from end in omega (arith, h) in
    let long : length (take to s) ≡ end = length-take to s in
    sym (drop-take start (end - start) s) ∙ ap (λ n. drop start (take n s)) on ∙ ap (drop start) (take_min to s)
    ∙ ap (λ n. drop (min from n) (take to s)) (sym long) ∙ drop_min from (take to s)

part_length : (from to : ℕ) (s : List ℕ) → length (slice from to s) ≡ min to (length s) - from
part_length from to s = length-drop from (take to s) ∙ ap (λ n. n - from) (length-take to s)

-- it is brought to the front
pub brought : (from to : ℕ) (s : List ℕ)
    → let end = min to (length s) in let start = min from end in copy_within s start end 0 ≡ placed (slice from to s) s
unfolding placed
brought from to s =
    let end = min to (length s) in
    let start = min from end in
    let long : 0 + (end - start) ≡ length (slice from to s) = omega (arith, part_length from to s) in
    ap (λ n. take (end - start) (drop start s) ++ drop n s) long ∙ ap (λ l. l ++ drop (length (slice from to s)) s) (part_of from to s)
