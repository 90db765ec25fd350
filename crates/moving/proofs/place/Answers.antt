-- `moving::place` meets its contract. The loop's invariant: the first i cells have come. Assumes nothing.
use native.Mathlib.Omega.{arith}
use mathlib.Core.Path.{◌≡◌}
use Rattle.moving.proofs.Placing.{placing_none, placing_ready, placing_more, placing_all}
use Rattle.moving.proofs.place.Goals as goal

pub loop-placed-init : goal.loop-placed-init
loop-placed-init c = placing_none _ _ _ _

pub place_cell-requires : goal.place_cell-requires
place_cell-requires c =
    placing_ready c.requires c.loop-placed-test.true c.loop-placed.invariant

pub loop-placed-preserved : goal.loop-placed-preserved
loop-placed-preserved c =
    placing_more c.requires c.loop-placed-test.true c.loop-placed.invariant c.place_cell.ensures

pub returns : goal.returns
returns c = let e : c.loop-placed.placed ≡ c.args.n = omega arith in placing_all (rw e at c.loop-placed.invariant)
