-- What commands add one after the other is the sheet of all of them. Assumes nothing.
use Prim.Native.Nat.{ℕ, zero, suc, ◌+◌, ◌-◌, ◌≤◌, ◌<◌}
use mathlib.Core.Path.{◌≡◌, refl, sym, ap, ◌∙◌}
use mathlib.Core.Bool.{Bool, true, false, cond, not}
use mathlib.Core.List.{List, [], ◌∷◌, ◌++◌, map, flatten, append_assoc}
use native.Mathlib.Omega.{arith}
use lib.Dec.{ltb}
use lib.ListN.{length, take, drop, length-append}
use lib.Seq.{take-nil, drop-nil}
use borrow.Author.Tests.{ltb-true, ltb-false}
use Rattle.laws.proofs.Lists.{flatten_joined}
use Rattle.std.specs.Prelude.{Some}
use Rattle.sheet.specs.declared.Sheet.{Sheet}
use Rattle.sheet.specs.Columns.{Entry, line_for, header_of}
use Rattle.sheet.specs.Pages.{printed_as, differs, printed_from, page_lines, last_page, pages_from, pages_of, sheet_of}
use Rattle.sheet.specs.Paging.{sheet, fresh_sheet, added, added_for, added_width, added_by}
use Rattle.sheet.specs.Claims.{AddedIsTheSheet, AddsAtMost}
use Rattle.sheet.proofs.Filled.{line_is_whole, header_is_whole}

-- the text of lines that come after so many lines of a page
abbrev onwards : ℕ → ℕ → List (List ℕ) → List ℕ
onwards page left lines = flatten (take left lines) ++ flatten (flatten (pages_from (last_page - page) (page + 1) (drop left lines)))

no_pages : (most page : ℕ) → pages_from most page [] ≡ []
unfolding pages_from
no_pages zero page = refl
no_pages (suc most) page = refl

no_lines : (page left : ℕ) → onwards page left [] ≡ []
unfolding flatten
no_lines page left = rw (take-nil {A = List ℕ} left, drop-nil {A = List ℕ} left, no_pages (last_page - page) (page + 1))

-- a line more on the page
on_page : (page left : ℕ) (l : List ℕ) (ls : List (List ℕ)) → onwards page (suc left) (l ∷ ls) ≡ l ++ onwards page left ls
unfolding flatten
on_page page left l ls = append_assoc l (flatten (take left ls)) (flatten (flatten (pages_from (last_page - page) (page + 1) (drop left ls))))

-- a page more
next_page : (most page : ℕ) (l : List ℕ) (ls : List (List ℕ))
    → flatten (flatten (pages_from (suc most) page (l ∷ ls)))
    ≡ (header_of page ++ l) ++ (flatten (take (page_lines - 2) ls) ++ flatten (flatten (pages_from most (page + 1) (drop (page_lines - 2) ls))))
unfolding pages_from flatten
next_page most page l ls =
    let rest = pages_from most (page + 1) (drop (page_lines - 2) ls) in
    ap (λ t. header_of page ++ (l ++ t)) (flatten_joined (take (page_lines - 2) ls) (flatten rest))
    ∙ sym (append_assoc (header_of page) l (flatten (take (page_lines - 2) ls) ++ flatten (flatten rest)))

-- from a full page on: the next page begins with the line, where there is a next page
begins_page : (page : ℕ) (l : List ℕ) (ls : List (List ℕ)) → page < last_page
    → onwards page 0 (l ∷ ls) ≡ (header_of (page + 1) ++ l) ++ onwards (page + 1) (page_lines - 2) ls
unfolding flatten
begins_page page l ls h =
    let most : last_page - page ≡ suc (last_page - (page + 1)) = omega (arith, h) in
    rw most (next_page (last_page - (page + 1)) (page + 1) l ls)

stops : (page : ℕ) (lines : List (List ℕ)) → last_page ≤ page → onwards page 0 lines ≡ []
unfolding flatten pages_from
stops page lines h = let none : last_page - page ≡ 0 = omega (arith, h) in rw none

-- what a command adds, and what comes after it
module _ (s : Sheet) (e : Entry) (es : List Entry)
    (more : (s : Sheet) → added_by s es ≡ onwards s.page (page_lines - s.line) (map line_for (printed_from s.printed es))) where
  abbrev after : List Entry
  after = printed_from (Some (printed_as e.report)) es

  step_by : (d l p : Bool) → ltb s.line page_lines ≡ l → ltb s.page last_page ≡ p
      → let a = cond (not d) (added [] s)
      (cond l (added (line_for e) (sheet (Some (printed_as e.report)) s.page (s.line + 1)))
      (cond p (added (header_of (s.page + 1) ++ line_for e) (sheet (Some (printed_as e.report)) (s.page + 1) 2)) (added [] s))) in
      a.text ++ added_by a.sheet es ≡ onwards s.page (page_lines - s.line) (map line_for (cond d (e ∷ after) (printed_from s.printed es)))
  step_by false l p f g = more s
  step_by true true p f g =
      let room : page_lines - s.line ≡ suc (page_lines - (s.line + 1)) = let h = ltb-true s.line page_lines f in omega (arith, h) in
      ap (λ t. line_for e ++ t) (more (sheet (Some (printed_as e.report)) s.page (s.line + 1)))
      ∙ sym (on_page s.page (page_lines - (s.line + 1)) (line_for e) (map line_for after))
      ∙ ap (λ left. onwards s.page left (line_for e ∷ map line_for after)) (sym room)
  step_by true false true f g =
      let full : page_lines - s.line ≡ 0 = let h = ltb-false s.line page_lines f in omega (arith, h) in
      ap (λ t. (header_of (s.page + 1) ++ line_for e) ++ t) (more (sheet (Some (printed_as e.report)) (s.page + 1) 2))
      ∙ sym (begins_page s.page (line_for e) (map line_for after) (ltb-true s.page last_page g))
      ∙ ap (λ left. onwards s.page left (line_for e ∷ map line_for after)) (sym full)
  step_by true false false f g =
      let full : page_lines - s.line ≡ 0 = let h = ltb-false s.line page_lines f in omega (arith, h) in
      let last = ltb-false s.page last_page g in
      more s ∙ ap (λ left. onwards s.page left (map line_for (printed_from s.printed es))) full
      ∙ stops s.page (map line_for (printed_from s.printed es)) last
      ∙ sym (ap (λ left. onwards s.page left (line_for e ∷ map line_for after)) full ∙ stops s.page (line_for e ∷ map line_for after) last)

grows : (es : List Entry) (s : Sheet) → added_by s es ≡ onwards s.page (page_lines - s.line) (map line_for (printed_from s.printed es))
unfolding added_by added_for printed_from
grows [] s = sym (no_lines s.page (page_lines - s.line))
grows (e ∷ es) s =
    step_by s e es (grows es) (differs s.printed e.report) (ltb s.line page_lines) (ltb s.page last_page) refl refl

pub added_is_the_sheet : AddedIsTheSheet
unfolding sheet_of pages_of flatten
added_is_the_sheet entries = grows entries fresh_sheet

-- ---- how much is added

two_lines : (page : ℕ) (e : Entry) → length (header_of page ++ line_for e) ≡ added_width
two_lines page e =
    let all = length-append (header_of page) (line_for e) in
    let first = (header_is_whole page).bytes in
    let second = (line_is_whole e).bytes in omega (arith, all, first, second)

pub adds_at_most : AddsAtMost
unfolding added_for differs
adds_at_most = (
  λ s e. at_most s e (differs s.printed e.report) (ltb s.line page_lines) (ltb s.page last_page),
  λ e. two_lines 1 e,
)
  where
    at_most : (s : Sheet) (e : Entry) (d l p : Bool)
        → length
        (cond (not d) (added [] s)
        (cond l (added (line_for e) (sheet (Some (printed_as e.report)) s.page (s.line + 1)))
        (cond p (added (header_of (s.page + 1) ++ line_for e) (sheet (Some (printed_as e.report)) (s.page + 1) 2)) (added [] s)))).text
        ≤ added_width
    at_most s e false l p = omega arith
    at_most s e true true p = let long = (line_is_whole e).bytes in omega (arith, long)
    at_most s e true false true = let long = two_lines (s.page + 1) e in omega (arith, long)
    at_most s e true false false = omega arith
