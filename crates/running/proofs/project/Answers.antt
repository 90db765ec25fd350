-- `running::project` meets its contract. Assumes nothing.
use Rattle.running.proofs.Projecting.{becomes_at, redex_root, value_within, value_left, projects_top, projects_record}
use Rattle.running.proofs.project.Goals as goal

pub read_cell-v-requires : goal.read_cell-v-requires
read_cell-v-requires c = search value_within

pub became-requires : goal.became-requires
became-requires c = search redex_root

pub returns-in-18 : goal.returns-in-18
returns-in-18 c = search (becomes_at, projects_top)

pub overflow_sub-p : goal.overflow_sub-p
overflow_sub-p c = search value_left

pub became-requires-in_default : goal.became-requires-in_default
became-requires-in_default c = search redex_root

pub returns-in_default : goal.returns-in_default
returns-in_default c = search (becomes_at, projects_record)
