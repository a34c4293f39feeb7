use mathlib.Core.Path.{ap, ◌∙◌}
use Rattle.rules.specs.Speeds.{judged_now}
use Rattle.steps.proofs.Outside.{seen_in_lem}
use Rattle.steps.proofs.report.view_of.Goals as goal

pub returns : goal.returns
returns c =
    let stm = c.args.stm.now in
    let judged = c.judge_now-judged.ensures ∙ ap (judged_now stm.train stm.kept) c.all_curves.ensures in
    (judged, c.vmax_of-vmax.ensures, rw (c.seen_with-seen.ensures, judged, c.vmax_of-vmax.ensures, seen_in_lem stm))
