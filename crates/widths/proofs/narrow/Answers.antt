-- `widths::narrow` meets its contract. The loop's invariant: the first i cells are narrowed. Assumes nothing.
use native.Mathlib.Numerals.{add-one}
use native.Mathlib.Omega.{arith}
use mathlib.Core.Path.{◌≡◌}
use lib.ListN.{length}
use Prim.Native.Nat.{◌/◌}
use Rattle.widths.proofs.Narrowing.{narrowing_none, narrowing_more, narrowing_all}
use Rattle.widths.proofs.narrow.Goals as goal

pub loop-i-init : goal.loop-i-init
loop-i-init c = narrowing_none _

pub loop-i-preserved : goal.loop-i-preserved
loop-i-preserved c =
    rw add-one (narrowing_more (omega arith) c.loop-i.invariant c.narrow_cell.ensures)

pub returns : goal.returns
returns c =
    let e : c.loop-i.i ≡ length c.args.d.now / 8 = omega arith in
    narrowing_all (rw e at c.loop-i.invariant)
