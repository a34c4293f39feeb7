-- What has come of portions that are handed to a writer.
use Rattle.std.specs.Prelude.{length}
use mathlib.Core.List.{flatten}
use Rattle.portions.specs.declared.telling.Handed.{Handed}
use Rattle.portions.specs.Portions.{Given}
use Rattle.portions.specs.Reads.{Writer, text_by, state_by}

-- its state, the bytes used, those written, and whether the stream has ended
unfoldable pub handed_to : {X : Type 0} → Writer X → X → Given → Handed X
handed_to w x given = record {
  state = state_by w x given.portions;
  used = length (flatten given.portions);
  written = length (text_by w x given.portions);
  ended = given.ended;
}
