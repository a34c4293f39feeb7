use mathlib.Core.Bool.{◌&&◌}
use Rattle.std.proofs.Common.{rules}
use Rattle.rules.specs.Table.{stands}
use Rattle.brakes.proofs.Columns.{causes_are}
use Rattle.brakes.proofs.causes.common.Goals as goal

pub returns : goal.returns
returns c = causes_are _ (λ cause. stands c.args.c cause && stands c.args.d cause) (λ cause. let h = c.each.ensures cause in search rules)
