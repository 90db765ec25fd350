-- `book::root_size` is the unshared size of the root, capped. The loop's invariant: the sizes of the cells below i are in their
-- places. Assumes nothing.
use Rattle.std.proofs.Common.{◌≡◌, length}
use Rattle.book.specs.Form.{SizesUpTo}
use Rattle.book.proofs.root_size.Given as goal

abbrev pub invariant-loop-i : goal.invariant-loop-i
invariant-loop-i l = (length l.z ≡ 4096) × SizesUpTo l.s l.z l.i
