-- `emission::start_of` meets its contract: all runs that it passes begin with the same cell. Assumes nothing.
use Rattle.emission.proofs.Copies.{Follows}
use Rattle.emission.proofs.start_of.Given as goal

abbrev pub invariant-loop-i : goal.invariant-loop-i
invariant-loop-i l = Follows l.s l.at l.i

abbrev pub decreases-loop-i : goal.decreases-loop-i
decreases-loop-i l = l.i
