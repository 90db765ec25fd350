-- The measure of `shows_top_like` is the value's cell, which falls from a value to its parts. Assumes nothing.
use Rattle.projection.proofs.+shows_top_like.Given as goal

abbrev pub decreases-shows_top_like : goal.decreases-shows_top_like
decreases-shows_top_like l = l.v
