-- `type_part` meets its contract. Assumes nothing.
use native.Mathlib.Omega.{arith}
use Rattle.cells.proofs.Held.{held_within}
use Rattle.projection.proofs.Joining.{right_none}
use Rattle.projection.proofs.Walk.{only_marked, own, starts, to_right, to_left, ends}
use Rattle.projection.proofs.+type_part.Goals as goal
use Rattle.projection.proofs.+type_part.Goals.{then-loop-x-test+else-x-ne1, else-loop-x-test, in-Absent, in_default}

pub loop-x-init : goal.loop-x-init
loop-x-init t c = starts c.requires c.read_cell-x.ensures

pub read_cell-y-requires : goal.read_cell-y-requires
read_cell-y-requires t c = held_within (own c.loop-x.invariant c.loop-x-test.true).holds_second

pub type_part-left-requires : goal.type_part-left-requires
type_part-left-requires t c =
    let v = own c.loop-x.invariant c.loop-x-test.true in
    (omega (arith, v.first_lower, c.loop-x.invariant.lower, c.decreases), record { type = v.first; holds = v.holds_first })

pub loop-x-smaller-then-y-ne1 : goal.loop-x-smaller-then-y-ne1
loop-x-smaller-then-y-ne1 t c = (own c.loop-x.invariant c.loop-x-test.true).second_lower

pub loop-x-preserved-then-y-ne1 : goal.loop-x-preserved-then-y-ne1
loop-x-preserved-then-y-ne1 t c = to_right c.loop-x.invariant c.loop-x-test.true c.type_part-left.ensures c.both-found.ensures c.read_cell-y.ensures

pub read_cell-x-requires-else-y-eq4 : goal.read_cell-x-requires-else-y-eq4
read_cell-x-requires-else-y-eq4 t c = held_within (own c.loop-x.invariant c.loop-x-test.true).holds_first

pub loop-x-smaller : goal.loop-x-smaller
loop-x-smaller t c = (own c.loop-x.invariant c.loop-x-test.true).first_lower

pub loop-x-preserved : goal.loop-x-preserved
loop-x-preserved t c =
    to_left c.loop-x.invariant c.loop-x-test.true c.read_cell-y.ensures
    (only_marked c.else-y-eq4.either) c.single_part-right.ensures
    (right_none (elim c.match-matches.branch [ in-Absent w ↦ w.in-Absent.is | in_default w ↦ grind (arith, w.matches-is, c.if-not-matches.false) ]))
    c.read_cell-x-else-y-eq4.ensures

pub loop-x-smaller-then-not-matches : goal.loop-x-smaller-then-not-matches
loop-x-smaller-then-not-matches t c = (own c.loop-x.invariant c.loop-x-test.true).first_lower

pub loop-x-preserved-then-not-matches : goal.loop-x-preserved-then-not-matches
loop-x-preserved-then-not-matches t c =
    to_left c.loop-x.invariant c.loop-x-test.true c.read_cell-y.ensures (only_marked c.else-y-eq4.either) c.single_part-right.ensures
    c.both-found-then-not-matches.ensures c.read_cell-x-else-y-eq4.ensures

pub returns : goal.returns
returns t c =
    ends c.loop-x.invariant
    (λ k.
    elim c.loop-x-test.branch [
      | then-loop-x-test+else-x-ne1 w ↦ w.if-x-ne1.false
      | else-loop-x-test w ↦ absurd (w.loop-x-test.false k)
    ])
    c.single_part-last.ensures c.both.ensures
