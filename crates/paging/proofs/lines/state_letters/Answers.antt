use mathlib.Core.Path.{◌∙◌}
use Rattle.paging.proofs.Letters.{state_lem}
use Rattle.paging.proofs.lines.state_letters.Goals as goal

pub returns : goal.returns
returns c = c.letters_in.ensures ∙ state_lem c.args.state
