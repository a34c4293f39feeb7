-- What a command adds, by where the sheet stands, and how it is put into a room. Assumes nothing.
use Prim.Native.Nat.{ℕ, ◌+◌, ◌≤◌, ◌<◌}
use mathlib.Core.Path.{◌≡◌, sym, ap, ◌∙◌}
use mathlib.Core.Bool.{true, false}
use mathlib.Core.List.{List, [], ◌++◌}
use native.Mathlib.Omega.{arith}
use lib.ListN.{length, take, drop, length-append}
use lib.Seq.{drop-drop, take_at, drop_at}
use borrow.Author.Tests.{lt-ltb, le-ltb}
use Rattle.std.specs.Prelude.{Some}
use Rattle.wire.specs.Bytes.{placed}
use Rattle.sheet.specs.declared.Sheet.{Sheet}
use Rattle.sheet.specs.Columns.{Entry, line_for, header_of}
use Rattle.sheet.specs.Pages.{differs, printed_as, page_lines, last_page}
use Rattle.sheet.specs.Paging.{sheet, added, added_for, added_in, added_width}

-- ---- what is added

module _ (room : List ℕ) (s : Sheet) (e : Entry) where
  pub no_room : length room < added_width → added_in (length room) s e ≡ added [] s
  unfolding added_in
  no_room h = rw (lt-ltb (length room) added_width h)

  module _ (h : added_width ≤ length room) where
    pub as_before : differs s.printed e.report ≡ false → added_in (length room) s e ≡ added [] s
    unfolding added_in added_for
    as_before d = rw (le-ltb (length room) added_width h, d)

    module _ (d : differs s.printed e.report ≡ true) where
      pub on_page : s.line < page_lines → added_in (length room) s e ≡ added (line_for e) (sheet (Some (printed_as e.report)) s.page (s.line + 1))
      unfolding added_in added_for
      on_page l = rw (le-ltb (length room) added_width h, d, lt-ltb s.line page_lines l)

      module _ (l : page_lines ≤ s.line) where
        pub next_page : s.page < last_page
            → added_in (length room) s e ≡ added (header_of (s.page + 1) ++ line_for e) (sheet (Some (printed_as e.report)) (s.page + 1) 2)
        unfolding added_in added_for
        next_page p = rw (le-ltb (length room) added_width h, d, le-ltb s.line page_lines l, lt-ltb s.page last_page p)

        pub no_page : last_page ≤ s.page → added_in (length room) s e ≡ added [] s
        unfolding added_in added_for
        no_page p = rw (le-ltb (length room) added_width h, d, le-ltb s.line page_lines l, le-ltb s.page last_page p)

-- ---- how it is put

-- a line, as it was made and as it is put
pub one_put : (room line made after : List ℕ) → made ≡ line → length line ≡ 65 → after ≡ take 0 room ++ made ++ drop 65 room → after ≡ placed line room
unfolding placed
one_put room line made after e long put = put ∙ rw (e, long)

pub two_long : (first second : List ℕ) → length first ≡ 65 → length second ≡ 65 → 130 ≡ length (first ++ second)
two_long first second p q = let all = length-append first second in omega (arith, all, p, q)

-- two lines, one after the other
pub two_put : (room first second made₁ made₂ after₁ after₂ : List ℕ) → made₁ ≡ first → made₂ ≡ second → length first ≡ 65 → length second ≡ 65
    → after₁ ≡ take 0 room ++ made₁ ++ drop 65 room → after₂ ≡ take 65 after₁ ++ made₂ ++ drop 130 after₁
    → after₂ ≡ placed (first ++ second) room
unfolding placed
two_put room first second made₁ made₂ after₁ after₂ e f p q put then =
    let front : take 65 (first ++ drop 65 room) ≡ first = take_at first (drop 65 room) 65 p in
    let back : drop 130 (first ++ drop 65 room) ≡ drop 130 room =
    sym (drop-drop 65 65 (first ++ drop 65 room)) ∙ ap (drop 65) (drop_at first (drop 65 room) 65 p) ∙ drop-drop 65 65 room in
    then ∙ rw (put, e, f, front, back, sym (two_long first second p q))
