-- `running::unwind` meets its contract. Assumes nothing.
use Rattle.running.proofs.Unwinding.{around_low}
use Rattle.running.proofs.Settling.{outward_first, restore_ready, outward_next, outward_less, outward_ends}
use Rattle.running.proofs.unwind.Goals as goal

pub loop-around-init : goal.loop-around-init
loop-around-init c = search outward_first

pub restore-next-requires : goal.restore-next-requires
restore-next-requires c = search restore_ready

pub loop-around-smaller : goal.loop-around-smaller
loop-around-smaller c = search (outward_less, around_low)

pub loop-around-preserved : goal.loop-around-preserved
loop-around-preserved c = search outward_next

pub returns : goal.returns
returns c = search outward_ends
