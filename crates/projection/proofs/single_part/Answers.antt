-- `single_part` meets its contract: by the mark, the kind and the label of the cell. Assumes nothing.
use mathlib.Core.Logic.{⊎_elim}
use Rattle.projection.proofs.TypeParts.{marked, here, absent}
use Rattle.projection.proofs.single_part.Goals as goal

pub returns-then-x-eq1 : goal.returns-then-x-eq1
returns-then-x-eq1 c = marked c.if-x-eq1.true

pub returns-then-x-label : goal.returns-then-x-label
returns-then-x-label c = here c.if-x-eq1.false c.if-x-eq5.true c.if-x-label.true

pub returns : goal.returns
returns c = absent c.if-x-eq1.false (λ k. ⊎_elim (λ w. w.1) (λ w. absurd (w k)) c.else-x-eq5.either)
