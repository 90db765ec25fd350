-- `samples::compare_cells` meets its contract, by what `same_tree` says of a book. Assumes nothing.
use Rattle.std.proofs.Common.{◌<◌, arith, subst, sym, ◌∙◌}
use Rattle.std.specs.Prelude.{T}
use mathlib.Core.Logic.{inl, inr}
use Rattle.format.specs.Book.{WellFormed, count}
use Rattle.book.proofs.Formed.{passes, refuses}
use Rattle.equality.specs.Trees.{in_book}
use Rattle.samples.specs.Comparison.{malformed, missing, same, different}
use Rattle.samples.proofs.compare_cells.Goals as goal
use Rattle.samples.proofs.compare_cells.Goals.{Else-is_err}

pub returns-then-is_err : goal.returns-then-is_err
returns-then-is_err c = malformed (refuses c.check_form.ensures (sym c.is_err.ensures.value ∙ c.if-is_err.true)).1

formed : (c : Else-is_err) → WellFormed c.args.book.now
formed c = passes c.check_form.ensures (sym c.is_err.ensures.value ∙ c.if-is_err.false)

pub overflow_sub-n : goal.overflow_sub-n
overflow_sub-n c = let long = (formed (goal.at.overflow_sub-n c).Else-is_err).formed.long in omega arith

pub returns-then-n-i : goal.returns-then-n-i
returns-then-n-i c = missing (formed (goal.at.returns-then-n-i c).Else-is_err) (elim c.then-n-i.either [ inl h ↦ inl h | inr h ↦ inr h.1 ])

pub same_tree-requires : goal.same_tree-requires
same_tree-requires c = in_book (formed (goal.at.same_tree-requires c).Else-is_err) (omega (arith, c.if-n-i.false)) (omega (arith, c.if-n-j.false))

pub returns-then-same_tree : goal.returns-then-same_tree
returns-then-same_tree c =
    let w = formed (goal.at.returns-then-same_tree c).Else-is_err in
    let p : c.args.i < count c.args.book.now = omega (arith, c.if-n-i.false) in
    let q : c.args.j < count c.args.book.now = omega (arith, c.if-n-j.false) in
    same w p q ((c.same_tree.ensures.book w p q).0 (rw c.if-same_tree.true tt))

pub returns : goal.returns
returns c =
    let w = formed (goal.at.returns c).Else-is_err in
    let p : c.args.i < count c.args.book.now = omega (arith, c.if-n-i.false) in
    let q : c.args.j < count c.args.book.now = omega (arith, c.if-n-j.false) in
    different w p q (λ e. subst T c.if-same_tree.false ((c.same_tree.ensures.book w p q).1 e))
