-- Lines to pages. Assumes nothing.
use Prim.Native.Nat.{ℕ, zero, suc, ◌+◌, ◌*◌, ◌-◌, ◌≤◌}
use mathlib.Core.Path.{◌≡◌, refl, sym, ap, subst, ◌∙◌}
use mathlib.Core.List.Memᴰ
use mathlib.Core.List.{List, [], ◌∷◌, ◌++◌, map, flat_map, flatten, Memᴰ}
use native.Mathlib.Omega.{arith}
use lib.ListN.{length, take, drop, length-append, length-take, length-drop, take-append-drop}
use lib.Seq.{take-nil, take-add}
use Rattle.std.specs.Prelude.{Some}
use Rattle.sheet.specs.Columns.{Entry, line_for, header_of}
use Rattle.sheet.specs.Pages.{printed_as, differs, printed_from, printed_of, page_lines, last_page, pages_from, pages_of, sheet_of}
use Rattle.sheet.specs.Claims.{IsLine, LinesAreWhole, PagesAreFull, PagesEnd, LinesInOrder, NothingForNone}
use Rattle.sheet.proofs.Filled.{line_is_whole, header_is_whole}

-- ---- how many there are

pages_most : (most page : ℕ) (lines : List (List ℕ)) → length (pages_from most page lines) ≤ most
unfolding pages_from
pages_most zero page lines = omega arith
pages_most (suc most) page [] = omega arith
pages_most (suc most) page (l ∷ ls) = let h = pages_most most (page + 1) (drop (page_lines - 1) (l ∷ ls)) in omega (arith, h)

pub pages_end : PagesEnd
unfolding pages_of
pages_end entries = pages_most last_page 1 (map line_for (printed_of entries))

-- ---- each of them

-- a page comes after only where lines are left
lines_left : (most page : ℕ) (lines : List (List ℕ)) → (pages_from most page lines ≡ [] → ⊥) → 1 ≤ length lines
unfolding pages_from
lines_left zero page lines h = absurd (h refl)
lines_left (suc most) page [] h = absurd (h refl)
lines_left (suc most) page (l ∷ ls) h = omega arith

none_within : {A : Type 0} (before after : List A) (x : A) → ◌≡◌ {A = List A} [] (before ++ (x ∷ after)) → ⊥
none_within before after x e =
    let all = ap length e in
    let parts = length-append before (x ∷ after) in omega (arith, all, parts)

pages_are : (most page : ℕ) (lines : List (List ℕ)) (before after : List (List (List ℕ))) (p : List (List ℕ))
    → pages_from most page lines ≡ before ++ (p ∷ after)
    → ((after ≡ [] → ⊥) → length p ≡ 50) × (2 ≤ length p) × (length p ≤ 50) × (take 1 p ≡ header_of (page + length before) ∷ [])
unfolding pages_from
pages_are zero page lines before after p e = absurd (none_within before after p e)
pages_are (suc most) page [] before after p e = absurd (none_within before after p e)
pages_are (suc most) page (l ∷ ls) [] after p e =
    let first : header_of page ∷ take (page_lines - 1) (l ∷ ls) ≡ p = cc e in
    let rest : pages_from most (page + 1) (drop (page_lines - 1) (l ∷ ls)) ≡ after = cc e in
    let none : page ≡ page + 0 = omega arith in
    let long = ap length first in
    let taken = length-take (page_lines - 1) (l ∷ ls) in
    let left = length-drop (page_lines - 1) (l ∷ ls) in (
      (λ some. let more = lines_left most (page + 1) (drop (page_lines - 1) (l ∷ ls)) (λ none. some (sym rest ∙ none)) in omega (arith, long, taken, left, more)),
      omega (arith, long, taken),
      omega (arith, long, taken),
      sym (ap (take 1) first) ∙ ap (λ n. header_of n ∷ []) none,
    )
pages_are (suc most) page (l ∷ ls) (b ∷ bs) after p e =
    let rest : pages_from most (page + 1) (drop (page_lines - 1) (l ∷ ls)) ≡ bs ++ (p ∷ after) = cc e in
    let (full, least, most, header) = pages_are most (page + 1) (drop (page_lines - 1) (l ∷ ls)) bs after p rest in
    let count : page + 1 + length bs ≡ page + suc (length bs) = omega arith in
    (full, least, most, header ∙ ap (λ n. header_of n ∷ []) count)

pub pages_are_full : PagesAreFull
unfolding pages_of
pages_are_full entries before after page e =
    let (full, least, most, header) = pages_are last_page 1 (map line_for (printed_of entries)) before after page e in
    let count : 1 + length before ≡ length before + 1 = omega arith in
    record { full = full; least = least; most = most; header = header ∙ ap (λ n. header_of n ∷ []) count }

-- ---- the lines on them

lines_from : (most page : ℕ) (lines : List (List ℕ)) → flat_map (drop 1) (pages_from most page lines) ≡ take (most * (page_lines - 1)) lines
unfolding pages_from flat_map
lines_from zero page lines = refl
lines_from (suc most) page [] = sym (take-nil (suc most * (page_lines - 1)))
lines_from (suc most) page (l ∷ ls) =
    let n : suc most * (page_lines - 1) ≡ page_lines - 1 + most * (page_lines - 1) = omega arith in
    ap (λ r. take (page_lines - 1) (l ∷ ls) ++ r) (lines_from most (page + 1) (drop (page_lines - 1) (l ∷ ls)))
    ∙ sym (take-add (page_lines - 1) (most * (page_lines - 1)) (l ∷ ls)) ∙ ap (λ k. take k (l ∷ ls)) (sym n)

pub lines_in_order : LinesInOrder
unfolding pages_of
lines_in_order entries =
    let room : last_page * (page_lines - 1) ≡ 9999 * 49 = refl in
    lines_from last_page 1 (map line_for (printed_of entries)) ∙ ap (λ n. take n (map line_for (printed_of entries))) room

in_take : {A : Type 0} (n : ℕ) (l : List A) (x : A) → Memᴰ x (take n l) → Memᴰ x l
in_take n l x m = subst (Memᴰ x) (take-append-drop n l) (Memᴰ.append_left (drop n l) m)

in_drop : {A : Type 0} (n : ℕ) (l : List A) (x : A) → Memᴰ x (drop n l) → Memᴰ x l
in_drop n l x m = subst (Memᴰ x) (take-append-drop n l) (Memᴰ.append_right (take n l) m)

page_whole : (page : ℕ) (lines : List (List ℕ)) → ((line : List ℕ) → Memᴰ line lines → IsLine line)
    → (line : List ℕ) → Memᴰ line (header_of page ∷ lines) → IsLine line
page_whole page lines h line (Memᴰ.head e) = subst IsLine (sym e) (header_is_whole page)
page_whole page lines h line (Memᴰ.tail m) = h line m

whole_from : (most page : ℕ) (lines : List (List ℕ)) → ((line : List ℕ) → Memᴰ line lines → IsLine line)
    → (p : List (List ℕ)) (line : List ℕ) → Memᴰ p (pages_from most page lines) → Memᴰ line p → IsLine line
unfolding pages_from
whole_from zero page lines h p line m n = absurd (Memᴰ.not-nil m)
whole_from (suc most) page [] h p line m n = absurd (Memᴰ.not-nil m)
whole_from (suc most) page (l ∷ ls) h p line (Memᴰ.head e) n =
    page_whole page (take (page_lines - 1) (l ∷ ls)) (λ x i. h x (in_take (page_lines - 1) (l ∷ ls) x i)) line (subst (Memᴰ line) e n)
whole_from (suc most) page (l ∷ ls) h p line (Memᴰ.tail m) n =
    whole_from most (page + 1) (drop (page_lines - 1) (l ∷ ls)) (λ x i. h x (in_drop (page_lines - 1) (l ∷ ls) x i)) p line m n

printed_whole : (es : List Entry) (line : List ℕ) → Memᴰ line (map line_for es) → IsLine line
printed_whole [] line m = absurd (Memᴰ.not-nil m)
printed_whole (e ∷ es) line (Memᴰ.head p) = subst IsLine (sym p) (line_is_whole e)
printed_whole (e ∷ es) line (Memᴰ.tail m) = printed_whole es line m

pub lines_are_whole : LinesAreWhole
unfolding pages_of
lines_are_whole entries page line m n =
    whole_from last_page 1 (map line_for (printed_of entries)) (printed_whole (printed_of entries)) page line m n

-- ---- nothing where no command is accepted

begins : (l : List ℕ) (ls : List (List ℕ))
    → flatten (flatten (pages_from last_page 1 (l ∷ ls)))
    ≡ header_of 1 ++ flatten (take (page_lines - 1) (l ∷ ls) ++ flatten (pages_from (last_page - 1) 2 (drop (page_lines - 1) (l ∷ ls))))
unfolding pages_from flatten
begins l ls = refl

some_sheet : (l : List ℕ) (ls : List (List ℕ)) → flatten (flatten (pages_from last_page 1 (l ∷ ls))) ≡ [] → ⊥
some_sheet l ls e =
    let more = flatten (take (page_lines - 1) (l ∷ ls) ++ flatten (pages_from (last_page - 1) 2 (drop (page_lines - 1) (l ∷ ls)))) in
    let all = ap length (sym (begins l ls) ∙ e) in
    let parts = length-append (header_of 1) more in
    let first = (header_is_whole 1).bytes in omega (arith, all, parts, first)

pub nothing_for_none : NothingForNone
unfolding differs printed_from pages_from pages_of sheet_of flatten
nothing_for_none = (refl, λ e es none. some_sheet (line_for e) (map line_for (printed_from (Some (printed_as e.report)) es)) none)
