use Prim.Native.Nat.{◌≤◌}
use mathlib.Core.Path.{◌≡◌}
use mathlib.Core.List.{◌++◌, map}
use lib.ListN.{take, drop}
use Rattle.places.specs.Places.{places}
use Rattle.rules.specs.Places.{moved_section}
use Rattle.track.proofs.sections.move_sections.Given as goal

abbrev pub invariant-loop-section : goal.invariant-loop-section
invariant-loop-section l =
    (l.section-index ≤ places)
    × (l.section-items ≡ take l.section-index (map (moved_section l.length l.moved) l.fn.sections) ++ drop l.section-index l.fn.sections)
