use mathlib.Core.Logic.{inl, inr}
use Rattle.areas.specs.declared.Area.{Area}
use Rattle.areas.proofs.Equality.{same_area}
use Rattle.areas.proofs.Told.{taken_by_lem}
use Rattle.areas.proofs.rows.is_taken.Goals as goal

pub returns-in-Signal : goal.returns-in-Signal
returns-in-Signal c =
    let at = c.args.area in
    rw (c.eq.ensures, c.eq-in-Signal.ensures, same_area at Area.NonEquipped, same_area at Area.HT, taken_by_lem at c.args.event, c.in-Signal.is)

pub returns-in-GMD : goal.returns-in-GMD
returns-in-GMD c =
    let at = c.args.area in
    rw (c.eq-in-GMD.ensures, c.eq-in-GMD-2.ensures, same_area at Area.NonEquipped, same_area at Area.Partial, taken_by_lem at c.args.event, c.in-GMD.is)

pub returns-in-HTDeleted : goal.returns-in-HTDeleted
returns-in-HTDeleted c =
    let is = c.eq-in-HTDeleted.ensures in
    let same = same_area c.args.area Area.Full in
    elim c.in-HTDeleted.is [
      | inl e ↦ rw (is, same, taken_by_lem c.args.area c.args.event, e)
      | inr e ↦ rw (is, same, taken_by_lem c.args.area c.args.event, e)
    ]

pub returns-in-ToNonEquipped : goal.returns-in-ToNonEquipped
returns-in-ToNonEquipped c =
    rw (c.ne.ensures, same_area _ _, taken_by_lem c.args.area c.args.event, c.in-ToNonEquipped.is)

pub returns-in-ToHT : goal.returns-in-ToHT
returns-in-ToHT c = rw (c.ne-in-ToHT.ensures, same_area _ _, taken_by_lem c.args.area c.args.event, c.in-ToHT.is)

pub returns-in-ToFull : goal.returns-in-ToFull
returns-in-ToFull c = rw (c.ne-in-ToFull.ensures, same_area _ _, taken_by_lem c.args.area c.args.event, c.in-ToFull.is)
