-- `add_inter` meets its contract: the intersection's cell is added, top-like exactly if both halves are. Assumes nothing.
use Rattle.typing.proofs.Leaves.{inter_adds}
use Rattle.typing.proofs.Types.add_inter.Goals as goal

pub returns-clause-adds : goal.returns-clause-adds
returns-clause-adds c = inter_adds c.requires c.read-x.ensures c.read-y.ensures c.add.ensures.adds
