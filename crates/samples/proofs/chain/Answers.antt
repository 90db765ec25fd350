-- `samples::chain` meets its contract: each cell fits, by what the caller says of it. Assumes nothing.
use Rattle.std.proofs.Common.{arith}
use Rattle.samples.proofs.chain.Goals as goal

pub write_cell-requires-in-loop-i : goal.write_cell-requires-in-loop-i
write_cell-requires-in-loop-i g c =
    (omega (arith, c.requires.chain.long, c.requires.chain.fits.few), (c.requires.over _ c.loop-i-test.true).1 _ c.over.ensures)
