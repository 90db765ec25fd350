-- `running::contract` meets its contract. Assumes nothing.
use Rattle.running.proofs.Ranges.{redex_within}
use Rattle.running.proofs.Contracting.{contracts_in_place}
use Rattle.running.proofs.contract.Goals as goal

pub read_cell-t-requires : goal.read_cell-t-requires
read_cell-t-requires c = search redex_within

pub returns-in-25 : goal.returns-in-25
returns-in-25 c = contracts_in_place (c.project.ensures _)

pub returns-in-26 : goal.returns-in-26
returns-in-26 c = search contracts_in_place
