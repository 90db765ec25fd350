-- `reduction::emit_contractum` meets its contract. Assumes nothing.
use Rattle.reduction.proofs.Instances.{read_ready, read_emits, at_last}
use Rattle.reduction.proofs.emit_contractum.Goals as goal

pub emit_value_cast-requires : goal.emit_value_cast-requires
emit_value_cast-requires c = read_ready c.read_cell-t.ensures c.requires c.in-19.is

pub next_fix-requires : goal.next_fix-requires
next_fix-requires c = at_last c.read_cell-t.ensures c.requires (search c.in_default) (search c.in_default) (search c.in_default)

pub returns-in-19 : goal.returns-in-19
returns-in-19 c = read_emits c.read_cell-t.ensures c.requires c.in-19.is c.emit_value_cast.ensures
