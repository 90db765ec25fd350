-- `cerealbank::cerealbank_check` meets its contract. Assumes nothing.
use Rattle.cerealbank.proofs.Packing.{packs, fits_too, check_second}
use Rattle.cerealbank.proofs.Values.{check_fits}
use Rattle.cerealbank.proofs.cerealbank_check.Goals as goal

pub pack-requires : goal.pack-requires
pack-requires c =
    fits_too (check_fits _ _ (λ i. (c.type_inv.book i).fits)) c.check.ensures.answer (check_second _)

pub returns : goal.returns
returns c =
    let k = c.check.ensures in
    packs _ (check_fits _ _ (λ i. (c.type_inv.book i).fits))
    k.answer (check_second _) k.left c.pack.ensures
