use Rattle.std.proofs.Common.{arith, ◌/◌, ◌*◌, ◌≤◌, length, sym, ◌∙◌}
use Rattle.std.proofs.Math.Nat.{div-mul-le_self}
use lib.Seq.{length-take-le}
use Rattle.portions.proofs.Turns.{has_room, is_handed, stands_first, stands_next, handed_all, handed_most, handed_last, portion_within, used_within}
use Rattle.portions.proofs.telling.hand_on.Goals as goal

pub loop-init : goal.loop-init
loop-init g c =
    let a = c.args in
    let room : (length a.output.now / c.WIDTH.result) * g.T.Tell.WIDTH ≤ length a.output.now = rw c.WIDTH.ensures (div-mul-le_self _ _) in
    stands_first g.T.Tell.writer g.T.Tell.WIDTH a.state a.bytes.now a.output.now a.all (length a.output.now / c.WIDTH.result) room

pub returns-in_default-clause-outcome : goal.returns-in_default-clause-outcome
returns-in_default-clause-outcome g c =
    let h = handed_all c.loop.invariant c.loop-test.true (sym c.next_portion.ensures ∙ c.in_default.is) in rw (sym c.WIDTH.ensures) (is_handed h)

pub returns-in_default-clause-written : goal.returns-in_default-clause-written
returns-in_default-clause-written g c =
    let h = handed_all c.loop.invariant c.loop-test.true (sym c.next_portion.ensures ∙ c.in_default.is) in rw (sym c.WIDTH.ensures) h.room

pub slice_bounds-tell-end : goal.slice_bounds-tell-end
slice_bounds-tell-end g c =
    let within = portion_within c.loop.invariant c.loop-test.true c.in-Some.portion (sym c.next_portion.ensures ∙ c.in-Some.is) in
    sym (length-take-le _ _ (rw c.length-n.ensures within))

pub overflow_add-used : goal.overflow_add-used
overflow_add-used g c =
    let inside = used_within c.loop.invariant c.loop-test.true c.in-Some.portion (sym c.next_portion.ensures ∙ c.in-Some.is) in
    omega (arith, c.length-n.ensures, inside, c.well_formed)

pub returns-then-is_last-clause-outcome : goal.returns-then-is_last-clause-outcome
returns-then-is_last-clause-outcome g c =
    let t = c.tell-told.ensures in
    let wide = has_room c.loop.invariant c.loop-test.true in
    let which = sym c.next_portion.ensures ∙ c.in-Some.is in
    let end = sym c.is_last.ensures ∙ c.if-is_last.true in
    let h = handed_last c.loop.invariant c.loop-test.true (g.T.Tell.writer_in _) (λ x p. g.met.T.Tell.wide_enough _ x p wide) c.in-Some.portion _ _ _ _ which c.length-n.ensures t.state_after t.count t.short t.written end in
    rw (sym c.WIDTH.ensures) (is_handed h)

pub returns-then-is_last-clause-written : goal.returns-then-is_last-clause-written
returns-then-is_last-clause-written g c =
    let t = c.tell-told.ensures in
    let wide = has_room c.loop.invariant c.loop-test.true in
    let which = sym c.next_portion.ensures ∙ c.in-Some.is in
    let end = sym c.is_last.ensures ∙ c.if-is_last.true in
    let h = handed_last c.loop.invariant c.loop-test.true (g.T.Tell.writer_in _) (λ x p. g.met.T.Tell.wide_enough _ x p wide) c.in-Some.portion _ _ _ _ which c.length-n.ensures t.state_after t.count t.short t.written end in
    rw (sym c.WIDTH.ensures) h.room

pub loop-preserved : goal.loop-preserved
loop-preserved g c =
    let t = c.tell-told.ensures in
    let wide = has_room c.loop.invariant c.loop-test.true in
    let which = sym c.next_portion.ensures ∙ c.in-Some.is in
    let more = sym c.is_last.ensures ∙ c.if-is_last.false in
    stands_next c.loop.invariant c.loop-test.true (g.T.Tell.writer_in _) (λ x p. g.met.T.Tell.wide_enough _ x p wide) c.in-Some.portion _ _ _ _ which c.length-n.ensures t.state_after t.count t.short t.written more

pub returns-clause-outcome : goal.returns-clause-outcome
returns-clause-outcome g c =
    let h = handed_most c.loop.invariant (omega (arith, c.loop-test.false)) in rw (sym c.WIDTH.ensures) (is_handed h)

pub returns-clause-written : goal.returns-clause-written
returns-clause-written g c =
    let h = handed_most c.loop.invariant (omega (arith, c.loop-test.false)) in rw (sym c.WIDTH.ensures) h.room
