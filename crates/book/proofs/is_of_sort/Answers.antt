-- `book::is_of_sort` is the sort of a cell's kind. Assumes nothing.
use mathlib.Core.Path.{refl}
use Rattle.book.proofs.Fields.{of_sort}
use Rattle.book.proofs.is_of_sort.Goals as goal

pub returns : goal.returns
returns c = of_sort _ refl refl refl refl c.args.s.now c.args.x c.entry_of.result c.args.sort c.entry_of.ensures c.eq.ensures
