-- `find_var` meets its contract: what the variable is bound to, or refusal 11. Assumes nothing.
use Rattle.typing.proofs.Leaves.{var_finds}
use Rattle.typing.proofs.Types.find_var.Goals as goal

pub returns-clause-finds : goal.returns-clause-finds
returns-clause-finds c = var_finds c.requires c.read-t.ensures c.lookup.ensures c.ok_or.ensures.value
