-- `joining::preview` meets its contract: a judgement on a buffer of its own says what a join of a copy says.
-- Assumes nothing.
use mathlib.Core.Path.{refl}
use Rattle.answers.specs.Engine.{zeros}
use Rattle.joining.proofs.Previews.{previews}
use Rattle.joining.proofs.preview.Goals as goal

pub judge-requires : goal.judge-requires
unfolding zeros
judge-requires c = record { zeros_only = refl }

-- an acceptance
pub returns-in-Ok : goal.returns-in-Ok
returns-in-Ok c = previews _ _ _ _ c.in-Ok.ensures.says (λ i. (c.type_inv.project i).fits) (λ i. (c.type_inv.part i).fits) refl

-- a refusal
pub returns-in-Ok-2 : goal.returns-in-Ok-2
returns-in-Ok-2 c = previews _ _ _ _ c.in-Ok.ensures.says (λ i. (c.type_inv.project i).fits) (λ i. (c.type_inv.part i).fits) refl
