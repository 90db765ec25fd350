-- `decisions::disjoint`, by a walk over the left side (`apart_left`) and a walk over the right (`apart_right`), meets its contract, and so do the
-- functions that it calls. The measures are eight times the sum of the two cells, with 0 to 4 added. The loops go from half to half, and have the
-- kind of its cell in hand. Assumes nothing.
use Prim.Native.Nat.{◌+◌, ◌*◌}
use mathlib.Core.Path.{◌≡◌}
use Rattle.calculus.specs.Decide.{is_disjoint}
use Rattle.format.specs.Cell.{cell_at}
use Rattle.cells.specs.Held.{HoldsType}
use Rattle.decisions.proofs.Walks.{Leads}
use Rattle.decisions.proofs.+disjointness.Given as goal

abbrev pub decreases-disjoint : goal.decreases-disjoint
decreases-disjoint l = 8 * (l.a + l.b) + 3

abbrev pub decreases-apart_left : goal.decreases-apart_left
decreases-apart_left l = 8 * (l.a + l.b) + 2

abbrev pub decreases-apart_half : goal.decreases-apart_half
decreases-apart_half l = 8 * (l.a + l.b) + 4

abbrev pub decreases-apart_right : goal.decreases-apart_right
decreases-apart_right l = 8 * (l.a + l.b) + 1

abbrev pub decreases-apart_part : goal.decreases-apart_part
decreases-apart_part l = 8 * (l.a + l.b) + 2

abbrev pub decreases-apart_pair : goal.decreases-apart_pair
decreases-apart_pair l = 8 * (l.a + l.b) + 0

abbrev pub invariant-apart_left-loop-kind : goal.invariant-apart_left-loop-kind
invariant-apart_left-loop-kind l = Leads (HoldsType l.s) is_disjoint l.a l.b l.i l.b × (l.kind ≡ (cell_at l.s l.i).kind)

abbrev pub decreases-apart_left-loop-kind : goal.decreases-apart_left-loop-kind
decreases-apart_left-loop-kind l = l.i

abbrev pub invariant-apart_right-loop-kind : goal.invariant-apart_right-loop-kind
invariant-apart_right-loop-kind l = Leads (HoldsType l.s) is_disjoint l.a l.b l.a l.j × (l.kind ≡ (cell_at l.s l.j).kind)

abbrev pub decreases-apart_right-loop-kind : goal.decreases-apart_right-loop-kind
decreases-apart_right-loop-kind l = l.j
