use mathlib.Core.Path.{◌∙◌}
use Rattle.paging.proofs.Letters.{interval_lem}
use Rattle.paging.proofs.lines.interval_letters.Goals as goal

pub returns : goal.returns
returns c = c.letters_in.ensures ∙ interval_lem c.args.interval
