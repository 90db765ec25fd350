-- `joint::finish` meets its contract. Assumes nothing.
use Rattle.joint.proofs.Whole.{finished}
use Rattle.joint.proofs.finish.Goals as goal

pub returns : goal.returns
returns c = finished c.write_cell.ensures c.write_trailer.ensures
