use Prim.Native.Nat.{◌≤◌, ◌+◌, ◌*◌}
use mathlib.Core.Path.{◌≡◌}
use mathlib.Core.List.{◌++◌}
use lib.ListN.{length, take, drop}
use Rattle.wire.specs.Form.{report_length}
use Rattle.line.specs.Lines.{hex_of}
use Rattle.line.proofs.put_report.Given as goal

abbrev pub invariant-loop-byte : goal.invariant-loop-byte
invariant-loop-byte l = (l.byte-index ≤ report_length)
    × (length l.byte-items ≡ report_length)
    × (l.next ≡ l.initial.next + 2 * l.byte-index)
    × (length l.bytes ≡ length l.initial.bytes)
    × (l.initial.next + 2 * report_length ≤ length l.initial.bytes)
    × (take l.next l.bytes ≡ take l.initial.next l.initial.bytes ++ hex_of (take l.byte-index l.byte-items))
    × (drop l.next l.bytes ≡ drop l.next l.initial.bytes)
