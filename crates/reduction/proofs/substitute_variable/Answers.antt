-- `reduction::substitute_variable` meets its contract. Assumes nothing.
use mathlib.Core.Path.{◌≡◌}
use mathlib.Core.List.{List}
use Prim.Native.Nat.{ℕ}
use Rattle.format.specs.Cell.{IsBytes, Cell, cell_at}
use Rattle.reduction.specs.Steps.{VariableReady}
use Rattle.reduction.specs.declared.Source.{Source}
use Rattle.reduction.proofs.Substitution.{AtVariable, source_substituted, variable_ready, variable_kept}
use Rattle.reduction.proofs.substitute_variable.Goals as goal

-- what is known once the cell is read
variable : {s d : List ℕ} {i k m : ℕ} {p : Source} {t : Cell} → VariableReady s d i k m p → t ≡ cell_at s i → IsBytes s → AtVariable s d i k m p t
variable r e b = record { ready = r; cell = e; bytes = b }

pub returns-then-t-k : goal.returns-then-t-k
returns-then-t-k c =
    source_substituted (variable c.requires c.read_cell-t.ensures (λ n. (c.type_inv.s n).fits)) c.if-t-k.true c.emit_source.ensures

pub finish-requires : goal.finish-requires
finish-requires c = variable_ready (variable c.requires c.read_cell-t.ensures (λ n. (c.type_inv.s n).fits))

pub returns : goal.returns
returns c =
    variable_kept (variable c.requires c.read_cell-t.ensures (λ n. (c.type_inv.s n).fits)) c.if-t-k.false c.finish.ensures
