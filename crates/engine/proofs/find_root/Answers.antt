-- `engine::find_root` meets its contract: the cells are loaded, and typing answers as `infer` does. Assumes nothing.
use Rattle.std.proofs.Common.{rules}
use Rattle.engine.proofs.Parts.{part_count, loadable}
use Rattle.engine.proofs.Typing.{ready, root_found}
use Rattle.engine.proofs.find_root.Goals as goal

pub load-requires : goal.load-requires
load-requires c =
    let p = c.requires in
    loadable _ _ p.book.version p.book.form p.long

pub find-requires : goal.find-requires
find-requires c =
    let p = c.requires in
    rw p.book.root (ready _ _ (λ i. (c.type_inv.book i).fits) p.book.form (rw (part_count _ p.book.form, p.book.version) at c.load.ensures))

pub returns : goal.returns
returns c =
    let p = c.requires.book in
    rw p.root
    (root_found _ _ (λ i. (c.type_inv.book i).fits) p.form (rw (part_count _ p.form, p.version) at c.load.ensures) (rw p.root at c.find.ensures.finds) (search rules))
