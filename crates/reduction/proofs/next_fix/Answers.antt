-- `reduction::next_fix` meets its contract. Assumes nothing.
use Rattle.reduction.proofs.Instances.{fix_ready, fix_emits}
use Rattle.reduction.proofs.next_fix.Goals as goal

pub emit_instance-requires : goal.emit_instance-requires
emit_instance-requires c = fix_ready c.requires c.start_of-start.ensures c.read_cell-t.ensures

pub returns : goal.returns
returns c = fix_emits c.requires c.start_of-start.ensures c.read_cell-t.ensures c.emit_instance.ensures
