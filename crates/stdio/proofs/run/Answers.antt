use Rattle.output.specs.Streams.{stream_of}
use Rattle.stdio.proofs.run.Goals as goal

pub returns-clause-whole : goal.returns-clause-whole
unfolding stream_of
returns-clause-whole g c = rw c.fresh.ensures at c.run_turns.ensures.whole

pub returns-clause-beginning : goal.returns-clause-beginning
unfolding stream_of
returns-clause-beginning g c = rw c.fresh.ensures at c.run_turns.ensures.beginning
