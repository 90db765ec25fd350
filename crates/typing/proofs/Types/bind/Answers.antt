-- `bind` meets its contract: the binder's cell is added. Assumes nothing.
use Rattle.typing.proofs.Leaves.{binds}
use Rattle.typing.proofs.Types.bind.Goals as goal

pub returns-clause-binds : goal.returns-clause-binds
returns-clause-binds c = binds c.requires c.add.ensures.adds
