-- `running::become_top` meets its contract. Assumes nothing.
use Rattle.running.proofs.Projecting.{top_single, becomes_top}
use Rattle.running.proofs.become_top.Goals as goal

pub become_single-requires : goal.become_single-requires
become_single-requires c = search top_single

pub returns : goal.returns
returns c = becomes_top c.become_single.ensures
