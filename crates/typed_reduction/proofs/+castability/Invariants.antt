-- Whether and by which part a held value can be read under a held type is decided exactly. The measure is four times the sum of the two
-- sizes, and 3, 2, 1, 0 for the three functions and the test of a part. Assumes nothing.
use Rattle.typed_reduction.proofs.Sizes.{size_at}
use Prim.Native.Nat.{◌+◌, ◌*◌}
use Rattle.std.proofs.Common.{◌+◌, ◌*◌}
use Rattle.typed_reduction.proofs.+castability.Given as goal

abbrev pub decreases-is_castable : goal.decreases-is_castable
decreases-is_castable l = 4 * (size_at l.s.now l.v + size_at l.s.now l.a) + 3

abbrev pub decreases-find_part : goal.decreases-find_part
decreases-find_part l = 4 * (size_at l.s.now l.v + size_at l.s.now l.a) + 2

abbrev pub decreases-find_part-can_be_read : goal.decreases-find_part-can_be_read
decreases-find_part-can_be_read l = 4 * (size_at l.s.now l.p + size_at l.s.now l.a) + 1

abbrev pub decreases-is_castable_part : goal.decreases-is_castable_part
decreases-is_castable_part l = 4 * (size_at l.s.now l.v + size_at l.s.now l.a)
