-- `running::run_on` meets its contract. Assumes nothing.
use Rattle.running.proofs.Loop.{going_first, going_ready, going_less, going_next, ending_whole, going_ends}
use Rattle.running.proofs.run_on.Goals as goal

pub loop-next-init : goal.loop-next-init
loop-next-init c = search going_first

pub step-requires : goal.step-requires
step-requires c = search going_ready

pub loop-next-smaller : goal.loop-next-smaller
loop-next-smaller c = search going_less

pub loop-next-preserved : goal.loop-next-preserved
loop-next-preserved c = search going_next

pub encode_whole-cells-requires : goal.encode_whole-cells-requires
encode_whole-cells-requires c =
    ending_whole c.loop-next.invariant c.step.auto.s c.step.ensures c.in-Break.is

pub returns-in-Break : goal.returns-in-Break
returns-in-Break c = search going_ends
