-- `samples::chain` meets its contract: the loop keeps the buffer's length. Assumes nothing.
use Rattle.std.proofs.Common.{◌≡◌, length}
use Rattle.samples.proofs.chain.Given as goal

abbrev pub invariant-loop-i : goal.invariant-loop-i
invariant-loop-i g l = length l.book ≡ 32768
