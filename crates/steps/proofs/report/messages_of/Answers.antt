use Rattle.rules.specs.Reports.{messages_of}
use Rattle.steps.proofs.report.messages_of.Goals as goal

pub returns : goal.returns
unfolding messages_of
returns c =
    rw (
      c.value-7.ensures.0,
      c.value-6.ensures.0,
      c.has_failed.ensures,
      c.value-5.ensures.0,
      c.has_passed.ensures,
      c.value-4.ensures.0,
      c.is_running.ensures,
      c.value-3.ensures.0,
      c.value-2.ensures.0,
      c.value.ensures.0,
    )
