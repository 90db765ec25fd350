-- `cells::entry_of` meets its contract: the table's rule by one computed test. Assumes nothing.
use native.Mathlib.Omega.{arith}
use mathlib.Core.Path.{refl}
use mathlib.Core.List.{◌∷◌}
use Rattle.format.specs.declared.Version.TheVariants.{Two}
use Rattle.format.specs.Table.{table, row_in, row_for}
use Rattle.cells.proofs.Table.{unknown, entries, right_at}
use Rattle.cells.proofs.entry_of.Goals as goal

pub returns : goal.returns
unfolding row_for row_in table
returns c = right_at (unknown ∷ entries (table Two)) unknown refl c.args.kind _ c.place.ensures.0 (omega arith)
