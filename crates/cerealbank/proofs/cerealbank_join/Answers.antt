-- `cerealbank::cerealbank_join` meets its contract. Assumes nothing.
use Rattle.cerealbank.proofs.Packing.{join_fits, packs_join}
use Rattle.cerealbank.proofs.Values.{join_result_fits}
use Rattle.cerealbank.proofs.cerealbank_join.Goals as goal

pub pack_join-requires : goal.pack_join-requires
pack_join-requires c =
    join_fits c.join.ensures (join_result_fits _ _ _ _ (λ i. (c.slice_known-1.given i).fits) (λ i. (c.type_inv.part i).fits))

pub returns : goal.returns
returns c =
    packs_join c.join.ensures (join_result_fits _ _ _ _ (λ i. (c.slice_known-1.given i).fits) (λ i. (c.type_inv.part i).fits)) c.pack_join.ensures
