-- `running::rebuild` meets its contract. Assumes nothing.
use Rattle.running.proofs.Encoding.{unwinds_ahead, unwinds_done, done_some, holds_ahead, holds_done}
use Rattle.running.proofs.rebuild.Goals as goal

pub unwind-requires : goal.unwind-requires
unwind-requires c = search unwinds_done

pub unwind-requires-in-Ahead : goal.unwind-requires-in-Ahead
unwind-requires-in-Ahead c = search unwinds_ahead

pub overflow_sub-p : goal.overflow_sub-p
overflow_sub-p c = search done_some

pub returns-in-Ahead : goal.returns-in-Ahead
returns-in-Ahead c = search holds_ahead

pub returns-in-Done : goal.returns-in-Done
returns-in-Done c = search holds_done
