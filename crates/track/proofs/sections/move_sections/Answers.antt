use mathlib.Core.Path.{refl, ◌∙◌}
use mathlib.Core.List.{map}
use native.Mathlib.Omega.{arith}
use borrow.Author.Rules.{rules}
use lib.ListN.{length-map}
use Rattle.laws.proofs.Lists.{copy_past}
use Rattle.rules.specs.Places.{free_section, moved_section}
use Rattle.places.proofs.Arrays.{changed_step}
use Rattle.track.proofs.sections.move_sections.Goals as goal

pub loop-section-init : goal.loop-section-init
loop-section-init c = (omega arith, refl)

pub loop-section-preserved : goal.loop-section-preserved
loop-section-preserved c =
    let a = c.args in
    let i = c.loop-section.invariant in (
      omega arith,
      changed_step (moved_section a.length a.moved) a.sections c.loop-section.section-items c.loop-section.section-index free_section i.1
          c.moved_section.ensures (search rules),
    )

pub returns : goal.returns
returns c =
    let a = c.args in
    c.loop-section.invariant.1
    ∙ copy_past (map (moved_section a.length a.moved) a.sections) a.sections c.loop-section.section-index (simp length-map (search rules))
    (search rules)
