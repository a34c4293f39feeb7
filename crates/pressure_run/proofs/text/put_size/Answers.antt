-- The two tests are the range that the cast asks for.
use lib.Ieee.{of_bits, neg}
use Rattle.std.proofs.lemmas.Float.{T_from_true}
use Rattle.pressure_run.proofs.text.put_size.Goals as goal

pub truncating_f32_to_u64-n-requires-clause-lower_bound : goal.truncating_f32_to_u64-n-requires-clause-lower_bound
unfolding of_bits neg
truncating_f32_to_u64-n-requires-clause-lower_bound g c = T_from_true _ c.if-parts.true

pub truncating_f32_to_u64-n-requires-clause-upper_bound : goal.truncating_f32_to_u64-n-requires-clause-upper_bound
unfolding of_bits
truncating_f32_to_u64-n-requires-clause-upper_bound g c = T_from_true _ c.if-parts-2.true
