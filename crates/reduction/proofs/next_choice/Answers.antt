-- `reduction::next_choice` meets its contract. Assumes nothing.
use Rattle.reduction.proofs.Choices.{tested_ready, zero_ready, other_ready, zero_emits, other_emits}
use Rattle.reduction.proofs.next_choice.Goals as goal

pub read_number-tested-requires : goal.read_number-tested-requires
read_number-tested-requires c = tested_ready c.requires c.read_cell-t.ensures

pub emit_annotated-requires : goal.emit_annotated-requires
emit_annotated-requires c = zero_ready c.requires c.read_cell-t.ensures

pub returns-then-tested-eq0 : goal.returns-then-tested-eq0
returns-then-tested-eq0 c = zero_emits c.requires c.read_cell-t.ensures c.read_number-tested.ensures c.if-tested-eq0.true c.emit_annotated.ensures

pub emit_annotated-requires-2 : goal.emit_annotated-requires-2
emit_annotated-requires-2 c = other_ready c.requires c.read_cell-t.ensures

pub returns : goal.returns
returns c = other_emits c.requires c.read_cell-t.ensures c.read_number-tested.ensures c.if-tested-eq0.false c.emit_annotated-2.ensures
