-- The first part of a held value that passes a test is found exactly. The measure is the value's size. Assumes nothing.
use Rattle.typed_reduction.proofs.Sizes.{size_at}
use Rattle.typed_reduction.proofs.+first_part.Given as goal

abbrev pub decreases-first_part : goal.decreases-first_part
decreases-first_part g l = size_at l.s.now l.v
