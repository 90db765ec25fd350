-- `loading::load` meets its contract. The loop's invariant: the cells below i are loaded. Assumes nothing.
use native.Mathlib.Omega.{arith}
use mathlib.Core.Path.{◌≡◌}
use Prim.Native.Nat.{◌/◌}
use lib.ListN.{length}
use Rattle.loading.proofs.Loading.{loaded_none, loads_next}
use Rattle.loading.proofs.load.Goals as goal

pub loop-i-init : goal.loop-i-init
loop-i-init c = loaded_none c.requires

pub load_cell-requires : goal.load_cell-requires
load_cell-requires c =
    loads_next c.requires c.loop-i-test.true c.loop-i.invariant

pub returns : goal.returns
returns c =
    let e : c.loop-i.i ≡ length c.args.b.now / 8 = omega arith in
    rw e at c.loop-i.invariant
