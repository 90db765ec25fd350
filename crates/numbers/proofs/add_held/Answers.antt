-- `numbers::add_held` meets its contract. Assumes nothing.
use native.Mathlib.Omega.{arith}
use Rattle.numbers.proofs.Distances.{adds_clamped}
use Rattle.numbers.proofs.add_held.Goals as goal

pub returns : goal.returns
returns c = adds_clamped c.requires (omega arith)
