-- `running::settle` meets its contract. Assumes nothing.
use Rattle.running.proofs.Settling.{under_first, under_next, under_ready, under_falls, under_settled}
use Rattle.running.proofs.settle.Goals as goal

pub loop-focus-init : goal.loop-focus-init
loop-focus-init c = search under_first

pub enter-focus-requires : goal.enter-focus-requires
enter-focus-requires c = search under_ready

pub loop-focus-smaller-in-Ahead : goal.loop-focus-smaller-in-Ahead
loop-focus-smaller-in-Ahead c = search under_falls

pub loop-focus-preserved-in-Ahead : goal.loop-focus-preserved-in-Ahead
loop-focus-preserved-in-Ahead c = search under_next

pub leave-focus-requires : goal.leave-focus-requires
leave-focus-requires c = search under_ready

pub loop-focus-smaller : goal.loop-focus-smaller
loop-focus-smaller c = search under_falls

pub loop-focus-preserved : goal.loop-focus-preserved
loop-focus-preserved c = search under_next

pub returns-in-Redex : goal.returns-in-Redex
returns-in-Redex c = search under_settled
