-- `emission::emit_tree` and `emission::emit_field` meet their contracts, over kind and field. Assumes nothing.
use mathlib.Core.Path.{◌≡◌}
use mathlib.Core.List.{List}
use Prim.Native.Nat.{ℕ}
use Rattle.std.specs.Prelude.{Option, Some}
use Rattle.format.specs.Table.{row_of}
use Rattle.format.specs.Cell.{IsBytes, Cell, cell_at}
use Rattle.cells.specs.Coded.{row_from}
use Rattle.cells.specs.declared.Entry.{Entry}
use Rattle.cells.specs.declared.Use.TheVariants.{ToTerm}
use Rattle.cells.proofs.Rows.{cell_less}
use Rattle.emission.specs.Emits.{FieldReady, EmitsField}
use Rattle.emission.proofs.Chain.{First, Second, Third, first, none_first, second_space, second, none_second, third_space, third, none_third}
use Rattle.emission.proofs.Chain.{emitted}
use Rattle.emission.proofs.Emitting.{Started, less, tree_chain, ready_a, each_a, ready_b, each_b, ready_c, each_c, trees}
use Rattle.emission.proofs.Emitting.{tree_ready, a_reference, cell_ready, cell_emits, none_emits}
use Rattle.emission.proofs.+emitting.Goals as goal

-- what is known once the cell and its row are read
started : {s d : List ℕ} {i m : ℕ} {t : Cell} {y : Entry} → FieldReady s d ToTerm i m → t ≡ cell_at s i → row_from t.kind y ≡ row_of t.kind → IsBytes s
    → Started s d i m t y
started p e r b = record { ready = p; read = record { cell = e; row = r; bytes = b } }

-- and after each field that fitted
module _ {s d : List ℕ} {i m : ℕ} {t : Cell} {y : Entry} (j : Started s d i m t y) {f : List ℕ} {x : ℕ}
    {r : Option ℕ} (p : EmitsField s d f y.a t.a m r) (n : r ≡ Some x) where
  after_first : First (tree_chain j) f x
  after_first = first (tree_chain j) (each_a j p) n

  module _ {g : List ℕ} {v : ℕ} {q : Option ℕ} (o : EmitsField s f g y.b t.b x q) (k : q ≡ Some v) where
    after_second : Second (tree_chain j) f x g v
    after_second = second after_first (each_b j o) k

    after_third : {h : List ℕ} {w : ℕ} {u : Option ℕ} → EmitsField s g h y.c t.c v u → u ≡ Some w → Third (tree_chain j) f x g v h w
    after_third h l = third after_second (each_c j h) l

pub emit_field-returns-in-Unused : goal.emit_field-returns-in-Unused
emit_field-returns-in-Unused t c = none_emits c.in-Unused.is c.requires.space.used

pub emit_field-emit_tree-requires : goal.emit_field-emit_tree-requires
emit_field-emit_tree-requires t c = let r = a_reference c.in-ToType.is in (cell_less c.args.u c.args.x r c.decreases, cell_ready r c.requires)

pub emit_field-returns-in-ToType : goal.emit_field-returns-in-ToType
emit_field-returns-in-ToType t c = cell_emits (a_reference c.in-ToType.is) c.emit_tree.ensures

pub emit_tree-emit_field-requires : goal.emit_tree-emit_field-requires
emit_tree-emit_field-requires t c =
    let j = started c.requires c.read_cell-t.ensures c.entry_of-e.ensures (λ k. (c.type_inv.s k).fits) in
    ((less j c.decreases).0, ready_a j)

pub emit_tree-returns-in_err-x : goal.emit_tree-returns-in_err-x
emit_tree-returns-in_err-x t c =
    let j = started c.requires c.read_cell-t.ensures c.entry_of-e.ensures (λ k. (c.type_inv.s k).fits) in
    rw c.from_residual.ensures (trees (none_first (tree_chain j) (each_a j c.emit_field.ensures) c.in_err-x.was))

pub emit_tree-emit_field-requires-2 : goal.emit_tree-emit_field-requires-2
emit_tree-emit_field-requires-2 t c =
    let j = started c.requires c.read_cell-t.ensures c.entry_of-e.ensures (λ k. (c.type_inv.s k).fits) in
    ((less j c.decreases).1, ready_b j (second_space (after_first j c.emit_field.ensures c.in_ok-x.was)))

pub emit_tree-returns-in_err-y : goal.emit_tree-returns-in_err-y
emit_tree-returns-in_err-y t c =
    let j = started c.requires c.read_cell-t.ensures c.entry_of-e.ensures (λ k. (c.type_inv.s k).fits) in
    let at = after_first j c.emit_field.ensures c.in_ok-x.was in
    rw c.from_residual-in_err-y.ensures (trees (none_second at (each_b j c.emit_field-2.ensures) c.in_err-y.was))

pub emit_tree-emit_field-requires-3 : goal.emit_tree-emit_field-requires-3
emit_tree-emit_field-requires-3 t c =
    let j = started c.requires c.read_cell-t.ensures c.entry_of-e.ensures (λ k. (c.type_inv.s k).fits) in
    let at = after_second j c.emit_field.ensures c.in_ok-x.was c.emit_field-2.ensures c.in_ok-y.was in
    ((less j c.decreases).2, ready_c j (third_space at))

pub emit_tree-returns-in_err-z : goal.emit_tree-returns-in_err-z
emit_tree-returns-in_err-z t c =
    let j = started c.requires c.read_cell-t.ensures c.entry_of-e.ensures (λ k. (c.type_inv.s k).fits) in
    let at = after_second j c.emit_field.ensures c.in_ok-x.was c.emit_field-2.ensures c.in_ok-y.was in
    rw c.from_residual-in_err-z.ensures (trees (none_third at (each_c j c.emit_field-3.ensures) c.in_err-z.was))

pub emit_tree-finish_row-requires : goal.emit_tree-finish_row-requires
emit_tree-finish_row-requires t c =
    let j = started c.requires c.read_cell-t.ensures c.entry_of-e.ensures (λ k. (c.type_inv.s k).fits) in
    tree_ready j (after_third j c.emit_field.ensures c.in_ok-x.was c.emit_field-2.ensures c.in_ok-y.was c.emit_field-3.ensures c.in_ok-z.was)

pub emit_tree-returns : goal.emit_tree-returns
emit_tree-returns t c =
    let j = started c.requires c.read_cell-t.ensures c.entry_of-e.ensures (λ k. (c.type_inv.s k).fits) in
    let at = after_third j c.emit_field.ensures c.in_ok-x.was c.emit_field-2.ensures c.in_ok-y.was c.emit_field-3.ensures c.in_ok-z.was in
    trees (emitted at c.finish_row.ensures)
