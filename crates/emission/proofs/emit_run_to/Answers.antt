-- `emission::emit_run_to` meets its contract. Assumes nothing.
use Rattle.emission.proofs.Copies.{end_ready, end_emits}
use Rattle.emission.proofs.emit_run_to.Goals as goal

pub emit_run-requires : goal.emit_run-requires
emit_run-requires c = end_ready c.requires c.start_of-start.ensures

pub returns : goal.returns
returns c = end_emits c.requires c.start_of-start.ensures c.emit_run.ensures
