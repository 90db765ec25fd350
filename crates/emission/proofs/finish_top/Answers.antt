-- `emission::finish_top` meets its contract: the top value is one cell. Assumes nothing.
use native.Mathlib.Omega.{arith}
use Rattle.emission.proofs.Compose.{emits_top}
use Rattle.emission.proofs.finish_top.Goals as goal

pub returns : goal.returns
returns c = emits_top (omega arith) c.finish.ensures
