-- `decisions::consistent`, by a walk over the left side and a walk over the right, meets its contract, and so do the functions that it calls. The
-- measures are eight times the sum of the two cells, with 0 to 4 added. The loops go from half to half, and have the kind of its cell in hand. Assumes nothing.
use Prim.Native.Nat.{◌+◌, ◌*◌}
use mathlib.Core.Path.{◌≡◌}
use Rattle.format.specs.Cell.{cell_at}
use Rattle.calculus.specs.Decide.{is_consistent}
use Rattle.cells.specs.Held.{HoldsTerm}
use Rattle.decisions.proofs.Walks.{Leads}
use Rattle.decisions.proofs.+consistency.Given as goal

abbrev pub decreases-consistent : goal.decreases-consistent
decreases-consistent l = 8 * (l.i + l.j) + 3

abbrev pub decreases-consistent_half : goal.decreases-consistent_half
decreases-consistent_half l = 8 * (l.i + l.j) + 4

abbrev pub decreases-consistent_left : goal.decreases-consistent_left
decreases-consistent_left l = 8 * (l.i + l.j) + 2

abbrev pub decreases-consistent_plain : goal.decreases-consistent_plain
decreases-consistent_plain l = 8 * (l.i + l.j) + 2

abbrev pub decreases-consistent_right : goal.decreases-consistent_right
decreases-consistent_right l = 8 * (l.i + l.j) + 1

abbrev pub decreases-each_half : goal.decreases-each_half
decreases-each_half l = 8 * (l.i + l.j) + 3

abbrev pub decreases-consistent_pair : goal.decreases-consistent_pair
decreases-consistent_pair l = 8 * (l.i + l.j) + 0

abbrev pub invariant-consistent_left-loop-kind : goal.invariant-consistent_left-loop-kind
invariant-consistent_left-loop-kind l = Leads (HoldsTerm l.s) is_consistent l.i l.j l.k l.j × (l.kind ≡ (cell_at l.s l.k).kind)

abbrev pub decreases-consistent_left-loop-kind : goal.decreases-consistent_left-loop-kind
decreases-consistent_left-loop-kind l = l.k

abbrev pub invariant-consistent_right-loop-kind : goal.invariant-consistent_right-loop-kind
invariant-consistent_right-loop-kind l = Leads (HoldsTerm l.s) is_consistent l.i l.j l.i l.k × (l.kind ≡ (cell_at l.s l.k).kind)

abbrev pub decreases-consistent_right-loop-kind : goal.decreases-consistent_right-loop-kind
decreases-consistent_right-loop-kind l = l.k
