-- The measure of `type_part` is the type's cell, which falls from an intersection to its halves; so does that of its loop. Assumes nothing.
use Rattle.cells.specs.Coded.{as_cell}
use Rattle.projection.proofs.Walk.{Walk}
use Rattle.projection.proofs.+type_part.Given as goal

abbrev pub decreases-type_part : goal.decreases-type_part
decreases-type_part l = l.a

abbrev pub invariant-loop-x : goal.invariant-loop-x
invariant-loop-x l = Walk l.s l.a l.label l.found l.i (as_cell l.x)

abbrev pub decreases-loop-x : goal.decreases-loop-x
decreases-loop-x l = l.i
