-- `running::step` meets its contract. Assumes nothing.
use Rattle.running.proofs.Turning.{turn_value, turn_spent, turn_room, contracted_ready, settled_gap, turn_next}
use Rattle.running.proofs.step.Goals as goal

pub returns-in_default : goal.returns-in_default
returns-in_default c = turn_value c.requires.settled c.in_default.not-Redex

pub returns-then-k-limit : goal.returns-then-k-limit
returns-then-k-limit c = search turn_spent

pub returns-in_default-contract : goal.returns-in_default-contract
returns-in_default-contract c = search turn_room

pub settle-focus-requires : goal.settle-focus-requires
settle-focus-requires c = search contracted_ready

pub cells-n-requires : goal.cells-n-requires
cells-n-requires c = search settled_gap

pub returns : goal.returns
returns c = search turn_next
