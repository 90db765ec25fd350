-- `lookup` meets its contract. The measure is the context's cell, which falls along the chain. Assumes nothing.
use Rattle.typing.proofs.Types.+lookup.Given as goal

abbrev pub decreases-lookup : goal.decreases-lookup
decreases-lookup l = l.c
