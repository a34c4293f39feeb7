use mathlib.Core.Path.{sym, ◌∙◌}
use Rattle.pressure.specs.Convert.{converted_of, pressure_of}
use Rattle.pressure.proofs.convert.pressure_of.Goals as goal

pub returns-then-is_low : goal.returns-then-is_low
unfolding pressure_of
returns-then-is_low c = rw (sym c.is_low.ensures ∙ c.if-is_low.true)

pub returns-in-Pipe : goal.returns-in-Pipe
unfolding pressure_of converted_of
returns-in-Pipe c = rw (c.limited.ensures, sym c.is_low.ensures ∙ c.if-is_low.false, c.in-Pipe.is)

pub returns-in-Cylinder : goal.returns-in-Cylinder
unfolding pressure_of converted_of
returns-in-Cylinder c = rw (c.cylinder.ensures, sym c.is_low.ensures ∙ c.if-is_low.false, c.in-Cylinder.is)
