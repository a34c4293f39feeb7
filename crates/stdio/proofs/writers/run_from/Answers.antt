-- A turn writes the text of all that can be given of the bytes at hand, so that what is written is the text of what has come.
use Rattle.std.proofs.Common.{rules, arith, ◌+◌, ◌*◌, ◌/◌, ◌≤◌, length, sym, ◌∙◌}
use Rattle.std.specs.Prelude.{eqb}
use Rattle.wire.specs.Codes.{shortest}
use Rattle.portions.specs.Reads.{input_room}
use Rattle.stdio.proofs.Standing.{starts, begun, where_few}
use Rattle.stdio.proofs.Turning.{came_behind, turned, kept_is_left, all_is_front, turn_whole, turn_begun, turn_on}
use Rattle.stdio.proofs.writers.run_from.Goals as goal

pub loop-init : goal.loop-init
loop-init g c = (starts g.T.Tell.writer c.args.state _ _, (search rules, omega arith))

pub returns-in_err-to-clause-beginning : goal.returns-in_err-to-clause-beginning
returns-in_err-to-clause-beginning g c = begun g.T.Tell.writer c.args.state c.loop.invariant.0

pub returns-clause-beginning : goal.returns-clause-beginning
returns-clause-beginning g c = begun g.T.Tell.writer c.args.state c.loop.invariant.0

pub returns-in_err-write-clause-beginning : goal.returns-in_err-write-clause-beginning
returns-in_err-write-clause-beginning g c =
    let came = c.in_ok-to.ensures in
    let h = came_behind (search rules) c.loop.invariant.1.0 came.input_unchanged came.lower_bound came.upper_bound came.bytes came.end in
    let room : (input_room / shortest + 2) * g.T.Tell.WIDTH ≤ length c.loop.room = search rules in
    let t = turned g.T.Tell.WIDTH c.loop.room g.met.T.Tell.some_width room (search rules) (rw c.part.ensures at c.hand_on-handed.ensures.outcome) (rw c.part.ensures at c.hand_on-handed.ensures.written) in
    turn_begun g.T.Tell.writer c.args.state c.loop.invariant.0 c.in_ok-to.to c.read.new.input _ _ h (rw t.text at c.in_err-write.ensures.err)

pub returns-then-handed-clause-whole : goal.returns-then-handed-clause-whole
returns-then-handed-clause-whole g c =
    let came = c.in_ok-to.ensures in
    let h = came_behind (search rules) c.loop.invariant.1.0 came.input_unchanged came.lower_bound came.upper_bound came.bytes came.end in
    let room : (input_room / shortest + 2) * g.T.Tell.WIDTH ≤ length c.loop.room = search rules in
    let t = turned g.T.Tell.WIDTH c.loop.room g.met.T.Tell.some_width room (search rules) (rw c.part.ensures at c.hand_on-handed.ensures.outcome) (rw c.part.ensures at c.hand_on-handed.ensures.written) in
    where_few _ _ _ (turn_whole g.T.Tell.writer c.args.state c.loop.invariant.0 c.in_ok-to.to c.read.new.input _ _ h
    (rw t.text at c.in_ok-write.ensures.ok) (sym t.ended ∙ c.if-handed.true))

pub returns-then-handed-clause-beginning : goal.returns-then-handed-clause-beginning
returns-then-handed-clause-beginning g c =
    let came = c.in_ok-to.ensures in
    let h = came_behind (search rules) c.loop.invariant.1.0 came.input_unchanged came.lower_bound came.upper_bound came.bytes came.end in
    let room : (input_room / shortest + 2) * g.T.Tell.WIDTH ≤ length c.loop.room = search rules in
    let t = turned g.T.Tell.WIDTH c.loop.room g.met.T.Tell.some_width room (search rules) (rw c.part.ensures at c.hand_on-handed.ensures.outcome) (rw c.part.ensures at c.hand_on-handed.ensures.written) in
    turn_begun g.T.Tell.writer c.args.state c.loop.invariant.0 c.in_ok-to.to c.read.new.input _ _ h
    (all_is_front _ _ _ (rw t.text at c.in_ok-write.ensures.ok))

pub loop-preserved : goal.loop-preserved
loop-preserved g c =
    let came = c.in_ok-to.ensures in
    let h = came_behind (search rules) c.loop.invariant.1.0 came.input_unchanged came.lower_bound came.upper_bound came.bytes came.end in
    let room : (input_room / shortest + 2) * g.T.Tell.WIDTH ≤ length c.loop.room = search rules in
    let t = turned g.T.Tell.WIDTH c.loop.room g.met.T.Tell.some_width room (search rules) (rw c.part.ensures at c.hand_on-handed.ensures.outcome) (rw c.part.ensures at c.hand_on-handed.ensures.written) in
    let stood = turn_on g.T.Tell.writer c.args.state c.loop.invariant.0 c.in_ok-to.to c.read.new.input _ _ h
    (rw t.text at c.in_ok-write.ensures.ok) (sym t.ended ∙ c.if-handed.false) in
    let kept = kept_is_left (eqb c.in_ok-to.to c.loop.left) c.in_ok-to.to c.read.new.input t.used c.keep-left.ensures.value c.keep-left.ensures.input_after in
    rw (t.after, kept.0) (stood.0, (rw kept.1 stood.1.0, omega (arith, stood.1.1, c.loop.invariant.1.1)))
