-- `book::root_size` is the unshared size of the root, capped. The loop's invariant: the sizes of the cells below i are in their
-- places. Assumes nothing.
use mathlib.Core.Path.{◌≡◌, ◌∙◌}
use native.Mathlib.Omega.{arith}
use lib.ListN.{length-set}
use Rattle.book.proofs.Sizes.{sizes_more}
use Rattle.book.proofs.root_size.Goals as goal
use Rattle.book.proofs.root_size.Goals.{else-loop-i-test, then-loop-i-test+else-i-root}

pub cell_size-requires : goal.cell_size-requires
cell_size-requires c =
    let l = c.loop-i in
    record { i_in_bounds = (omega arith, omega arith); i_value = c.requires.sound l.i (omega arith); sizes_up_to = l.invariant.1 }

pub loop-i-preserved : goal.loop-i-preserved
loop-i-preserved c =
    let l = c.loop-i in
    (simp length-set l.invariant.0, sizes_more c.args.s.now l.z l.i c.cell_size.result (omega arith) l.invariant.1 c.cell_size.ensures)

pub returns : goal.returns
returns c =
    elim c.loop-i-test.branch [
      | else-loop-i-test w ↦ absurd (omega arith)
      | then-loop-i-test+else-i-root w ↦
          let l = c.loop-i in
          let e : l.i ≡ c.args.root = omega arith in
          c.from.ensures ∙ rw w.z-is ((sizes_more c.args.s.now l.z l.i w.cell_size.result (omega arith) l.invariant.1 w.cell_size.ensures).sizes c.args.root (omega arith))
    ]
