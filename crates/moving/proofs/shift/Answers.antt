-- `moving::shift` meets its contract. The loop's invariant: the first i cells have moved. Assumes nothing.
use native.Mathlib.Omega.{arith}
use mathlib.Core.Path.{◌≡◌}
use Rattle.moving.proofs.Shifting.{shifting_none, shifting_ready, shifting_more, shifting_all}
use Rattle.moving.proofs.shift.Goals as goal

pub loop-moved-init : goal.loop-moved-init
loop-moved-init c = shifting_none _ _ _

pub shift_cell-requires : goal.shift_cell-requires
shift_cell-requires c =
    shifting_ready c.requires c.loop-moved-test.true c.loop-moved.invariant

pub loop-moved-preserved : goal.loop-moved-preserved
loop-moved-preserved c =
    shifting_more c.requires c.loop-moved.invariant c.shift_cell.ensures

pub returns : goal.returns
returns c = let e : c.loop-moved.moved ≡ c.args.n = omega arith in shifting_all (rw e at c.loop-moved.invariant)
