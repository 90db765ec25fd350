-- `decisions::subtype`, `part_below`, `half_below` and `single_below` meet their contracts. The measure is four times the sum of the two cells, and
-- one more from the single type to the whole question. The loop goes from half to half. Assumes nothing.
use Prim.Native.Nat.{◌+◌, ◌*◌}
use Rattle.calculus.specs.Decide.{is_below}
use Rattle.cells.specs.Held.{HoldsType}
use Rattle.decisions.proofs.Walks.{Leads}
use Rattle.decisions.proofs.+subtyping.Given as goal

abbrev pub decreases-half_below : goal.decreases-half_below
decreases-half_below l = 4 * (l.a + l.b) + 2

abbrev pub decreases-part_below : goal.decreases-part_below
decreases-part_below l = 4 * (l.a + l.b) + 1

abbrev pub decreases-single_below : goal.decreases-single_below
decreases-single_below l = 4 * (l.a + l.b) + 0

abbrev pub decreases-subtype : goal.decreases-subtype
decreases-subtype l = 4 * (l.a + l.b) + 3

abbrev pub invariant-part_below-loop-x : goal.invariant-part_below-loop-x
invariant-part_below-loop-x l = Leads (HoldsType l.s) is_below l.a l.b l.i l.b

abbrev pub decreases-part_below-loop-x : goal.decreases-part_below-loop-x
decreases-part_below-loop-x l = l.i
