-- `cerealbank::cerealbank_preview` meets its contract. Assumes nothing.
use Rattle.cerealbank.proofs.Packing.{preview_fits, packs_preview}
use Rattle.cerealbank.proofs.Values.{join_result_fits}
use Rattle.cerealbank.proofs.cerealbank_preview.Goals as goal

pub pack_join-requires : goal.pack_join-requires
pack_join-requires c =
    preview_fits c.preview.ensures (join_result_fits _ _ _ _ (λ i. (c.type_inv.project i).fits) (λ i. (c.type_inv.part i).fits))

pub returns : goal.returns
returns c =
    packs_preview c.preview.ensures (join_result_fits _ _ _ _ (λ i. (c.type_inv.project i).fits) (λ i. (c.type_inv.part i).fits)) c.pack_join.ensures
