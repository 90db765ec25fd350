-- `joining::join` meets its contract. Assumes nothing.
use native.Mathlib.Omega.{arith}
use mathlib.Core.Path.{refl, ◌∙◌}
use Rattle.answers.specs.Engine.{zeros}
use Rattle.joining.proofs.Meaning.{joins}
use Rattle.joining.proofs.join.Goals as goal

pub judge-requires : goal.judge-requires
unfolding zeros
judge-requires c = record { zeros_only = refl }

pub copy_from_slice-requires : goal.copy_from_slice-requires
copy_from_slice-requires c = omega (arith, c.in-Ok.ensures.lent.long)

pub returns-in-Ok : goal.returns-in-Ok
returns-in-Ok c =
    let a = c.in-Ok.ensures in
    joins _ _ _ _ a.says (λ i. (c.slice_known-1.given i).fits) (λ i. (c.type_inv.part i).fits) (c.copy_from_slice.ensures.after ∙ a.written)

pub returns-in-Err : goal.returns-in-Err
returns-in-Err c =
    let a = c.in-Err.ensures in
    joins _ _ _ _ a.says (λ i. (c.slice_known-1.given i).fits) (λ i. (c.type_inv.part i).fits) a.stays
