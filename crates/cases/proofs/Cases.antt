-- The cases of specs/Cases hold, by computation.
use mathlib.Core.Path.{refl}
use Rattle.cases.specs.Tables.{further}
use Rattle.cases.specs.Cases.{last_moment, cases, CasesHold}
use Rattle.rules.proofs.Computing.{computing}

pub cases_hold : CasesHold
unfolding computing further last_moment cases
cases_hold = refl
