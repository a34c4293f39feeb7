use Rattle.std.proofs.Common.{drop, rules, tests}
use lib.ListN.{length-drop}
use lib.Seq.{take_all}
use Rattle.records.specs.Lives.{as_curve}
use Rattle.places.proofs.Arrays.{mapped}
use Rattle.track.specs.Among.{chosen_among}
use Rattle.track.proofs.Showing.{chosen_joined}
use Rattle.track.proofs.shows.chosen.Goals as goal

pub returns : goal.returns
unfolding chosen_among
returns c =
    let a = c.args in
    let curves = mapped _ as_curve _ (λ x r q k. search (rules, tests)) a.records c.map.result _ (search rules) c.map.ensures.items in
    rw (chosen_joined, c.chosen_on.ensures, c.chosen_on-shown.ensures, c.no_candidate.ensures, curves, take_all 8 (drop 16 a.judged) (simp length-drop (search rules)))
