-- `layout::close_term` meets its contract. Assumes nothing.
use mathlib.Core.Path.{refl}
use Rattle.layout.proofs.Encoded.{narrowed_some, closes_narrowed}
use Rattle.layout.proofs.close_term.Goals as goal

pub close-requires : goal.close-requires
close-requires c = narrowed_some c.narrow.ensures refl (rw c.in-One.is at c.requires)

pub returns-in-One : goal.returns-in-One
returns-in-One c = closes_narrowed c.narrow.ensures refl c.in-One.is c.close.ensures
