-- The measure of `value_part` is the value's cell, which falls from a merge to its halves. Assumes nothing.
use Rattle.projection.proofs.+value_part.Given as goal

abbrev pub decreases-value_part : goal.decreases-value_part
decreases-value_part l = l.v
