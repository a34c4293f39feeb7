use mathlib.Core.Path.{◌≡◌, ap, ◌∙◌}
use lib.ListN.{length}
use borrow.Author.Rules.{rules}
use Rattle.places.specs.Places.{places}
use Rattle.rules.specs.Reports.{report_of}
use Rattle.steps.proofs.Supervising.{Steps, steps_of, last_is, judged_last, vmax_last, seen_last, remembered_as}
use Rattle.steps.proofs.odometer.supervise.Goals as goal

pub report_with-requires : goal.report_with-requires
report_with-requires c =
    let curves : length c.args.stm.track.curves ≡ places = search rules in
    let s : Steps c.args.r c.args.stm = steps_of
    c.feedback_after-feedback.ensures c.kept_of-kept.ensures c.all_curves.ensures c.judge_now-judged.ensures
    c.vmax_of-vmax.ensures c.noted_brakes-noted.ensures c.seen_with-seen.ensures c.is_drop.ensures
    c.added_brakes-added.ensures c.is_fresh.ensures c.is_fresh-2.ensures c.released-left.ensures
    c.state_after.ensures curves c.note_track.ensures in
    (judged_last s, vmax_last s, c.rolled_in.ensures ∙ seen_last s)

pub returns : goal.returns
returns c =
    let curves : length c.args.stm.track.curves ≡ places = search rules in
    let s : Steps c.args.r c.args.stm = steps_of
    c.feedback_after-feedback.ensures c.kept_of-kept.ensures c.all_curves.ensures c.judge_now-judged.ensures
    c.vmax_of-vmax.ensures c.noted_brakes-noted.ensures c.seen_with-seen.ensures c.is_drop.ensures
    c.added_brakes-added.ensures c.is_fresh.ensures c.is_fresh-2.ensures c.released-left.ensures
    c.state_after.ensures curves c.note_track.ensures in
    remembered_as c.args.command.now (last_is s) (c.report_with.ensures ∙ ap report_of (last_is s)) c.padded.ensures
