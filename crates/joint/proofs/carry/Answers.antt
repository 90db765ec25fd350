-- `joint::carry` meets its contract. Assumes nothing.
use native.Mathlib.Omega.{arith}
use mathlib.Core.Path.{◌≡◌}
use Rattle.joint.proofs.Carrying.{carries_none, carries_long, cell_ready, carries_more}
use Rattle.joint.proofs.carry.Goals as goal

pub loop-i-init : goal.loop-i-init
loop-i-init c = carries_none _ _ _ _ _

pub carry_cell-requires : goal.carry_cell-requires
carry_cell-requires c = cell_ready c.loop-i.invariant c.requires c.loop-i-test.true

pub loop-i-preserved : goal.loop-i-preserved
loop-i-preserved c = carries_more c.loop-i.invariant c.carry_cell.ensures

pub shape_of-d : goal.shape_of-d
shape_of-d c = carries_long c.loop-i.invariant

pub returns : goal.returns
returns c =
    let e : c.loop-i.i ≡ c.args.n = omega arith in
    rw e at c.loop-i.invariant
