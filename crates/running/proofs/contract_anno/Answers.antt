-- `running::contract_anno` meets its contract. Assumes nothing.
use Rattle.running.proofs.Contracting.{became_is}
use Rattle.running.proofs.contract_anno.Goals as goal

pub returns-in-Some : goal.returns-in-Some
returns-in-Some c = search became_is
