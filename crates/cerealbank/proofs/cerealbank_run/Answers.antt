-- `cerealbank::cerealbank_run` meets its contract. Assumes nothing.
use native.Mathlib.Omega.{arith}
use Rattle.cerealbank.proofs.Packing.{packs, fits_too}
use Rattle.cerealbank.proofs.Values.{run_fits}
use Rattle.cerealbank.proofs.cerealbank_run.Goals as goal

pub pack-requires : goal.pack-requires
pack-requires c =
    fits_too (run_fits _ _ _ (λ i. (c.type_inv.book i).fits) (omega arith)) c.run-o.ensures.answer c.mark.ensures

pub returns : goal.returns
returns c =
    let k = c.run-o.ensures in
    packs _ (run_fits _ _ _ (λ i. (c.type_inv.book i).fits) (omega arith))
    k.answer c.mark.ensures k.left c.pack.ensures
