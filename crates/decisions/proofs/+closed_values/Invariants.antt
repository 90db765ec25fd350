-- `decisions::closed_value`, `closed_parts` and `closed_half` meet their contracts. The measure is three times the cell, with 0 to 2 added. The loop
-- goes from half to half, and has the kind of its cell in hand. Assumes nothing.
use Prim.Native.Nat.{◌*◌, ◌+◌}
use mathlib.Core.Path.{◌≡◌}
use Rattle.format.specs.Cell.{cell_at}
use Rattle.decisions.specs.Questions.{is_closed_value}
use Rattle.decisions.proofs.Walks.{OneLeads}
use Rattle.decisions.proofs.+closed_values.Given as goal

abbrev pub decreases-closed_value : goal.decreases-closed_value
decreases-closed_value l = 3 * l.i + 1

abbrev pub decreases-closed_parts : goal.decreases-closed_parts
decreases-closed_parts l = 3 * l.i

abbrev pub decreases-closed_half : goal.decreases-closed_half
decreases-closed_half l = 3 * l.i + 2

abbrev pub invariant-closed_parts-loop-kind : goal.invariant-closed_parts-loop-kind
invariant-closed_parts-loop-kind l = OneLeads l.s is_closed_value l.i l.k × (l.kind ≡ (cell_at l.s l.k).kind)

abbrev pub decreases-closed_parts-loop-kind : goal.decreases-closed_parts-loop-kind
decreases-closed_parts-loop-kind l = l.k
