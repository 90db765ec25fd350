-- The reading of a held value under a held type is emitted exactly. The measure is twice the type's size, and one more for
-- `emit_value_cast`. Assumes nothing.
use Rattle.typed_reduction.proofs.Sizes.{size_at}
use Prim.Native.Nat.{◌+◌, ◌*◌}
use Rattle.std.proofs.Common.{◌+◌, ◌*◌}
use Rattle.typed_reduction.proofs.+casting.Given as goal

abbrev pub decreases-emit_part : goal.decreases-emit_part
decreases-emit_part l = 2 * size_at l.s.now l.a

abbrev pub decreases-emit_value_cast : goal.decreases-emit_value_cast
decreases-emit_value_cast l = 2 * size_at l.s.now l.a + 1
