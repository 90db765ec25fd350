-- `emission::emit_run` meets its contract: the cells copied so far are those that encoding the tree gives. Assumes nothing.
use native.Mathlib.Omega.{arith}
use Rattle.emission.proofs.Copies.{forward, run_full, copying_none, cell_ready, copying_more, run_copied}
use Rattle.emission.proofs.emit_run.Goals as goal

pub overflow_sub-end : goal.overflow_sub-end
overflow_sub-end c = forward c.requires

pub returns-then-m-end : goal.returns-then-m-end
returns-then-m-end c = run_full c.requires c.if-m-end.true

pub loop-i-init : goal.loop-i-init
loop-i-init c = copying_none c.requires (omega (arith, c.if-m-end.false))

pub move_cell-requires : goal.move_cell-requires
move_cell-requires c = cell_ready c.loop-i.invariant c.loop-i-test.true

pub loop-i-preserved : goal.loop-i-preserved
loop-i-preserved c =
    copying_more c.loop-i.invariant c.loop-i-test.true c.move_cell.ensures

pub returns : goal.returns
returns c = run_copied c.loop-i.invariant (omega (arith, c.loop-i-test.false))
