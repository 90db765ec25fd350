-- `cerealbank::cerealbank_sheet` meets its contract. Assumes nothing.
use Rattle.cerealbank.proofs.Packing.{sheet_fits, packs_sheet}
use Rattle.cerealbank.proofs.Values.{sheet_value_fits}
use Rattle.cerealbank.proofs.cerealbank_sheet.Goals as goal

pub pack-requires : goal.pack-requires
pack-requires c =
    rw c.steps.ensures (sheet_fits c.sheet-o.ensures (sheet_value_fits _ _ (λ i. (c.type_inv.book i).fits)))

pub returns : goal.returns
returns c =
    packs_sheet c.sheet-o.ensures (sheet_value_fits _ _ (λ i. (c.type_inv.book i).fits))
    (rw c.steps.ensures at c.pack.ensures)
