use Prim.Native.Nat.{◌+◌}
use mathlib.Core.Path.{refl, sym, ◌∙◌}
use native.Mathlib.Omega.{arith}
use Rattle.wire.specs.Bytes.{placed}
use Rattle.sheet.specs.Columns.{entry, line_for, header_of}
use Rattle.paging.proofs.Adding.{no_room, as_before, on_page, next_page, no_page, one_put, two_put, two_long}
use Rattle.sheet.proofs.Filled.{line_is_whole, header_is_whole}
use Rattle.paging.proofs.pages.print.Goals as goal

pub returns-then-room-lt-ADDED : goal.returns-then-room-lt-ADDED
unfolding placed
returns-then-room-lt-ADDED c =
    let a = c.args in
    rw (no_room a.room.now a.sheet (entry a.number a.report) c.if-room-lt-ADDED.true) record { sheet_after = refl; count = refl; short = omega arith; written = refl }

pub returns-then-not-is_different : goal.returns-then-not-is_different
unfolding placed
returns-then-not-is_different c =
    let a = c.args in
    let same = sym c.is_different.ensures ∙ c.if-not-is_different.true in
    rw (as_before a.room.now a.sheet (entry a.number a.report) c.if-room-lt-ADDED.false same) record { sheet_after = refl; count = refl; short = omega arith; written = refl }

pub returns-then-sheet-lt-PAGE_LINES : goal.returns-then-sheet-lt-PAGE_LINES
returns-then-sheet-lt-PAGE_LINES c =
    let a = c.args in
    let e = entry a.number a.report in
    let other = sym c.is_different.ensures ∙ c.if-not-is_different.false in
    rw (on_page a.room.now a.sheet e c.if-room-lt-ADDED.false other c.if-sheet-lt-PAGE_LINES.true, c.printed_as.ensures)
    record { sheet_after = refl; count = sym (line_is_whole e).bytes; short = omega arith; written = one_put a.room.now (line_for e) _ _ c.line_for.ensures (line_is_whole e).bytes c.put_line.ensures }

pub returns-then-sheet-lt-LAST_PAGE : goal.returns-then-sheet-lt-LAST_PAGE
returns-then-sheet-lt-LAST_PAGE c =
    let a = c.args in
    let e = entry a.number a.report in
    let other = sym c.is_different.ensures ∙ c.if-not-is_different.false in
    rw (next_page a.room.now a.sheet e c.if-room-lt-ADDED.false other c.if-sheet-lt-PAGE_LINES.false c.if-sheet-lt-LAST_PAGE.true, c.printed_as.ensures) record {
      sheet_after = refl;
      count = two_long (header_of (a.sheet.page + 1)) (line_for e) (header_is_whole (a.sheet.page + 1)).bytes (line_is_whole e).bytes;
      short = omega arith;
      written = two_put a.room.now (header_of (a.sheet.page + 1)) (line_for e) _ _ _ _ c.header_of.ensures c.line_for-then-sheet-lt-LAST_PAGE.ensures
          (header_is_whole (a.sheet.page + 1)).bytes (line_is_whole e).bytes c.put_line-then-sheet-lt-LAST_PAGE.ensures c.put_line-then-sheet-lt-LAST_PAGE-2.ensures;
    }

pub returns : goal.returns
unfolding placed
returns c =
    let a = c.args in
    let other = sym c.is_different.ensures ∙ c.if-not-is_different.false in
    rw (no_page a.room.now a.sheet (entry a.number a.report) c.if-room-lt-ADDED.false other c.if-sheet-lt-PAGE_LINES.false c.if-sheet-lt-LAST_PAGE.false)
    record { sheet_after = refl; count = refl; short = omega arith; written = refl }
