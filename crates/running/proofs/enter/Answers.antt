-- `running::enter` meets its contract. Assumes nothing.
use Rattle.running.proofs.Ranges.{root_within, kind_at}
use Rattle.running.proofs.Enters.{enters_redex}
use Rattle.running.proofs.enter.Goals as goal

pub read_cell-t-requires : goal.read_cell-t-requires
read_cell-t-requires c = search root_within

pub returns-in-23 : goal.returns-in-23
returns-in-23 c = search (enters_redex, kind_at)
