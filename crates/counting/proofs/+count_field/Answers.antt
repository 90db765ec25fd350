-- `counting::count_field` meets its contract, over kind and field. A field that refers to no cell costs no call. Assumes nothing.
use Rattle.std.proofs.Common.{arith, ◌≡◌, ℕ, List, sym, ◌∙◌}
use Rattle.format.specs.Cell.{Cell, cell_at}
use Rattle.format.specs.Table.{row_of}
use Rattle.cells.specs.Coded.{row_from}
use Rattle.cells.specs.declared.Entry.{Entry}
use Rattle.cells.specs.declared.Use as Code
use Rattle.cells.specs.declared.Use.TheVariants.{ToTerm}
use Rattle.counting.specs.Counting.{Countable}
use Rattle.counting.proofs.Counting.{Inner, parts, none_kind, none_first, none_second, all_counted}
use Rattle.counting.proofs.+count_field.Goals as goal

-- what is known once the cell and its row are read
inner : {b : List ℕ} {u : Code.Use} {i : ℕ} {x : Cell} {e : Entry} → u ≡ ToTerm → Countable b u i → x ≡ cell_at b i → row_from x.kind e ≡ row_of x.kind → Inner b u i x e
inner m r p q = record { term = m; ready = r; cell = p; row = q }

pub returns-in_err-own : goal.returns-in_err-own
returns-in_err-own t c =
    let w = inner c.in-ToTerm.is c.requires c.read_cell-x.ensures c.entry_of-e.ensures in
    rw c.from_residual.ensures (none_kind w (sym c.own_steps.ensures ∙ c.in_err-own.was))

pub count_field-requires : goal.count_field-requires
count_field-requires t c = (parts (inner c.in-ToTerm.is c.requires c.read_cell-x.ensures c.entry_of-e.ensures) c.decreases).0

pub returns-in_err-first : goal.returns-in_err-first
returns-in_err-first t c =
    let w = inner c.in-ToTerm.is c.requires c.read_cell-x.ensures c.entry_of-e.ensures in
    rw c.from_residual-in_err-first.ensures (none_first w (sym c.own_steps.ensures ∙ c.in_ok-own.was) c.count_field.ensures c.in_err-first.was)

pub count_field-requires-2 : goal.count_field-requires-2
count_field-requires-2 t c = (parts (inner c.in-ToTerm.is c.requires c.read_cell-x.ensures c.entry_of-e.ensures) c.decreases).1

pub returns-in_err-second : goal.returns-in_err-second
returns-in_err-second t c =
    let w = inner c.in-ToTerm.is c.requires c.read_cell-x.ensures c.entry_of-e.ensures in
    rw c.from_residual-in_err-second.ensures
    (none_second w (sym c.own_steps.ensures ∙ c.in_ok-own.was) c.count_field.ensures c.in_ok-first.was c.count_field-2.ensures c.in_err-second.was)

pub overflow_add-result : goal.overflow_add-result
overflow_add-result t c =
    let w = inner c.in-ToTerm.is c.requires c.read_cell-x.ensures c.entry_of-e.ensures in
    omega (arith, (all_counted w (sym c.own_steps.ensures ∙ c.in_ok-own.was) c.count_field.ensures c.in_ok-first.was c.count_field-2.ensures c.in_ok-second.was).0)

pub overflow_add-result-2 : goal.overflow_add-result-2
overflow_add-result-2 t c =
    let w = inner c.in-ToTerm.is c.requires c.read_cell-x.ensures c.entry_of-e.ensures in
    omega (arith, (all_counted w (sym c.own_steps.ensures ∙ c.in_ok-own.was) c.count_field.ensures c.in_ok-first.was c.count_field-2.ensures c.in_ok-second.was).0)

pub returns : goal.returns
returns t c =
    let w = inner c.in-ToTerm.is c.requires c.read_cell-x.ensures c.entry_of-e.ensures in
    (all_counted w (sym c.own_steps.ensures ∙ c.in_ok-own.was) c.count_field.ensures c.in_ok-first.was c.count_field-2.ensures c.in_ok-second.was).1
