-- The example of 01 holds, by computation.
use mathlib.Core.Path.{refl}
use Rattle.portions.specs.Portions.{portion_at, next_portion, given_by, given_within, given_of}
use Rattle.portions.specs.Reads.{text_by}
use Rattle.wire.specs.Split.{code_next, next_command}
use Rattle.rules.proofs.Computing.{computing}
use Rattle.line.specs.Lines.{decimal_of, hex_of, line_of}
use Rattle.output.specs.Example.{ExampleHolds}
use Rattle.output.specs.Streams.{stream_of}

pub example_holds : ExampleHolds
unfolding computing portion_at next_portion given_by given_within given_of text_by code_next next_command decimal_of hex_of line_of stream_of
example_holds = refl
