use Rattle.std.proofs.Common.{rules, tests}
use Rattle.records.specs.Lives.{passed_record}
use Rattle.rules.specs.Places.{signalled_records}
use Rattle.places.proofs.Arrays.{mapped}
use Rattle.boards.proofs.held.pass_signal.Goals as goal

pub returns : goal.returns
unfolding signalled_records
returns c =
    let a = c.args in
    mapped _ (passed_record a.signal a.route) _ (λ x r q k. search (rules, tests)) a.ets _ _ (search rules) c.map.ensures.items
