use Rattle.std.specs.Prelude.{◌-◌, ◌^◌, ◌<◌, length}
use Rattle.std.specs.Io.KnownBytes.{Appends}
use Rattle.console.specs.Bytes.{AppendsFront}
use Rattle.trip_sheet.proofs.Sheet.{of_the_sheet, ok_of_the_sheet}
use Rattle.trip_sheet.proofs.run.Goals as goal

pub returns-clause-whole : goal.returns-clause-whole
returns-clause-whole g c =
    ok_of_the_sheet c.run_turns.result _
    (λ input text. length input < 2 ^ 64 - 1 → Appends (g.W.Write.contents c.args.stdout.now) (g.W.Write.contents c.run_turns.new.stdout) text)
    (rw c.fresh.ensures at c.run_turns.ensures.whole)

pub returns-clause-beginning : goal.returns-clause-beginning
returns-clause-beginning g c =
    of_the_sheet _ (λ input text. AppendsFront (g.W.Write.contents c.args.stdout.now) (g.W.Write.contents c.run_turns.new.stdout) text)
    (rw c.fresh.ensures at c.run_turns.ensures.beginning)
