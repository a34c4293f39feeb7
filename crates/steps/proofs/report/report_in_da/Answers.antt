use Rattle.steps.proofs.InDA.{bytes_in_da}
use Rattle.steps.proofs.report.report_in_da.Goals as goal

pub returns : goal.returns
returns c =
    bytes_in_da c.args.view.now.judged c.args.view.now.vmax c.args.view.now.seen c.args.stm.now
    c.chosen-candidate.ensures
    c.is_over.ensures
    c.is_insufficient.ensures
    c.shown_fields-shown.ensures
    c.causes_number-number.ensures
    c.permitted_speed-permitted.ensures
    c.change_of-change.ensures
    c.high_pair-first.ensures
    c.low_pair-last.ensures
    c.from.ensures
    c.order_of.ensures
    c.from-2.ensures
    c.high.ensures
    c.low.ensures
    c.high-2.ensures
    c.low-2.ensures
    c.high-3.ensures
    c.low-3.ensures
    c.messages_of.ensures
    c.offered_of.ensures
    c.high-4.ensures
    c.low-4.ensures
    c.high-5.ensures
    c.low-5.ensures
    c.from-3.ensures
