-- `reduction::emit_substituted` and `reduction::substitute_field` meet their contracts, over kind and field. Assumes nothing.
use mathlib.Core.Path.{◌≡◌}
use mathlib.Core.List.{List}
use Prim.Native.Nat.{ℕ}
use Rattle.std.specs.Prelude.{Option, Some}
use Rattle.format.specs.Table.{row_of, inside}
use Rattle.format.specs.Cell.{IsBytes, Cell, cell_at}
use Rattle.cells.specs.Coded.{row_from}
use Rattle.cells.specs.declared.Entry.{Entry}
use Rattle.emission.proofs.Chain.{First, Second, Third, first, none_first, second_space, second, none_second, third_space, third, none_third, emitted}
use Rattle.reduction.specs.Steps.{SubstituteReady, EmitsSubstitutedField}
use Rattle.reduction.specs.declared.Source.{Source}
use Rattle.reduction.proofs.Substitution.{Started, less, substitute_chain, substitute_ready, ready_a, each_a, ready_b, each_b, ready_c, each_c, bodies}
use Rattle.reduction.proofs.Substitution.{nothing_emits, copy_emits, body_emits}
use Rattle.reduction.proofs.+substituting.Goals as goal

-- what is known once the cell and its row are read
started : {s d : List ℕ} {i k m : ℕ} {p : Source} {t : Cell} {y : Entry} {g : ℕ} → SubstituteReady s d i k m p → t ≡ cell_at s i
    → row_from t.kind y ≡ row_of t.kind → IsBytes s → (t.kind ≡ 16 → ⊥) → g ≡ inside t.kind k → Started s d i k m p t y g
started h e r b n q = record { ready = h; read = record { cell = e; row = r; bytes = b }; inner = n; skips = q }

-- and after each field that fitted
module _ {s d : List ℕ} {i k m : ℕ} {p : Source} {t : Cell} {y : Entry} {g : ℕ} (j : Started s d i k m p t y g) {f : List ℕ} {x : ℕ}
    {r : Option ℕ} (q : EmitsSubstitutedField s d f y.a t.a g m p r) (n : r ≡ Some x) where
  after_first : First (substitute_chain j) f x
  after_first = first (substitute_chain j) (each_a j q) n

  module _ {h : List ℕ} {v : ℕ} {u : Option ℕ} (o : EmitsSubstitutedField s f h y.b t.b k x p u) (e : u ≡ Some v) where
    after_second : Second (substitute_chain j) f x h v
    after_second = second after_first (each_b j o) e

    after_third : {l : List ℕ} {w : ℕ} {z : Option ℕ} → EmitsSubstitutedField s h l y.c t.c k v p z → z ≡ Some w
        → Third (substitute_chain j) f x h v l w
    after_third a b = third after_second (each_c j a) b

pub emit_substituted-substitute_field-requires : goal.emit_substituted-substitute_field-requires
emit_substituted-substitute_field-requires t c =
    let j =
    started c.requires c.read_cell-t.ensures c.entry_of-e.ensures (λ n. (c.type_inv.s n).fits) c.if-t-eq16.false c.binders-inner.ensures in
    ((less j c.decreases).0, ready_a j)

pub emit_substituted-returns-in_err-x : goal.emit_substituted-returns-in_err-x
emit_substituted-returns-in_err-x t c =
    let j =
    started c.requires c.read_cell-t.ensures c.entry_of-e.ensures (λ n. (c.type_inv.s n).fits) c.if-t-eq16.false c.binders-inner.ensures in
    rw c.from_residual.ensures (bodies (none_first (substitute_chain j) (each_a j c.substitute_field.ensures) c.in_err-x.was))

pub emit_substituted-substitute_field-requires-2 : goal.emit_substituted-substitute_field-requires-2
emit_substituted-substitute_field-requires-2 t c =
    let j =
    started c.requires c.read_cell-t.ensures c.entry_of-e.ensures (λ n. (c.type_inv.s n).fits) c.if-t-eq16.false c.binders-inner.ensures in
    ((less j c.decreases).1, ready_b j (second_space (after_first j c.substitute_field.ensures c.in_ok-x.was)))

pub emit_substituted-returns-in_err-y : goal.emit_substituted-returns-in_err-y
emit_substituted-returns-in_err-y t c =
    let j =
    started c.requires c.read_cell-t.ensures c.entry_of-e.ensures (λ n. (c.type_inv.s n).fits) c.if-t-eq16.false c.binders-inner.ensures in
    let at = after_first j c.substitute_field.ensures c.in_ok-x.was in
    rw c.from_residual-in_err-y.ensures (bodies (none_second {z = substitute_chain j} at (each_b j c.substitute_field-2.ensures) c.in_err-y.was))

pub emit_substituted-substitute_field-requires-3 : goal.emit_substituted-substitute_field-requires-3
emit_substituted-substitute_field-requires-3 t c =
    let j =
    started c.requires c.read_cell-t.ensures c.entry_of-e.ensures (λ n. (c.type_inv.s n).fits) c.if-t-eq16.false c.binders-inner.ensures in
    let at = after_second j c.substitute_field.ensures c.in_ok-x.was c.substitute_field-2.ensures c.in_ok-y.was in
    ((less j c.decreases).2, ready_c j (third_space at))

pub emit_substituted-returns-in_err-z : goal.emit_substituted-returns-in_err-z
emit_substituted-returns-in_err-z t c =
    let j =
    started c.requires c.read_cell-t.ensures c.entry_of-e.ensures (λ n. (c.type_inv.s n).fits) c.if-t-eq16.false c.binders-inner.ensures in
    let at = after_second j c.substitute_field.ensures c.in_ok-x.was c.substitute_field-2.ensures c.in_ok-y.was in
    rw c.from_residual-in_err-z.ensures (bodies (none_third {z = substitute_chain j} at (each_c j c.substitute_field-3.ensures) c.in_err-z.was))

pub emit_substituted-finish_row-requires : goal.emit_substituted-finish_row-requires
emit_substituted-finish_row-requires t c =
    let j =
    started c.requires c.read_cell-t.ensures c.entry_of-e.ensures (λ n. (c.type_inv.s n).fits) c.if-t-eq16.false c.binders-inner.ensures in
    substitute_ready j (after_third j c.substitute_field.ensures c.in_ok-x.was c.substitute_field-2.ensures c.in_ok-y.was c.substitute_field-3.ensures c.in_ok-z.was)

pub emit_substituted-returns : goal.emit_substituted-returns
emit_substituted-returns t c =
    let j =
    started c.requires c.read_cell-t.ensures c.entry_of-e.ensures (λ n. (c.type_inv.s n).fits) c.if-t-eq16.false c.binders-inner.ensures in
    let at = after_third j c.substitute_field.ensures c.in_ok-x.was c.substitute_field-2.ensures c.in_ok-y.was c.substitute_field-3.ensures c.in_ok-z.was in
    bodies (emitted at c.finish_row.ensures)

pub substitute_field-returns-in-Unused : goal.substitute_field-returns-in-Unused
substitute_field-returns-in-Unused t c = nothing_emits c.in-Unused.is c.requires

pub substitute_field-returns-in-ToType : goal.substitute_field-returns-in-ToType
substitute_field-returns-in-ToType t c = copy_emits c.in-ToType.is c.emit_run_to.ensures

pub substitute_field-returns-in-ToTerm : goal.substitute_field-returns-in-ToTerm
substitute_field-returns-in-ToTerm t c = body_emits c.in-ToTerm.is c.emit_substituted.ensures
