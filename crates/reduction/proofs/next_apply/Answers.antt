-- `reduction::next_apply` meets its contract. Assumes nothing.
use mathlib.Core.Path.{◌≡◌}
use mathlib.Core.List.{List}
use Prim.Native.Nat.{ℕ}
use Rattle.format.specs.Cell.{Cell, cell_at}
use Rattle.reduction.specs.Steps.{ContractAt}
use Rattle.reduction.proofs.Instances.{first_within, Applying, unit_applied, function_ready, function_emits}
use Rattle.reduction.proofs.next_apply.Goals as goal

-- what is known once both cells are read
applying : {s d : List ℕ} {i m : ℕ} {t u : Cell} → ContractAt s d i m 20 → t ≡ cell_at s i → u ≡ cell_at s t.a → Applying s d i m t u
applying o e f = record { at = o; cell = e; left = f }

pub read_cell-f-requires : goal.read_cell-f-requires
read_cell-f-requires c = first_within c.read_cell-t.ensures c.requires

pub returns-then-f-eq18 : goal.returns-then-f-eq18
returns-then-f-eq18 c = unit_applied (applying c.requires c.read_cell-t.ensures c.read_cell-f.ensures) c.if-f-eq18.true c.finish_top.ensures

pub emit_instance-requires : goal.emit_instance-requires
emit_instance-requires c = function_ready (applying c.requires c.read_cell-t.ensures c.read_cell-f.ensures) c.if-f-eq18.false

pub returns : goal.returns
returns c = function_emits (applying c.requires c.read_cell-t.ensures c.read_cell-f.ensures) c.if-f-eq18.false c.emit_instance.ensures
