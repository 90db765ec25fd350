-- `sheets::sheet` meets its contract: each return's rows are the definition's, and what it answers means what document 02, (ix), says. Assumes nothing.
use Rattle.engine.proofs.Judging.{started}
use Rattle.sheets.proofs.Stages.{refused_first}
use Rattle.sheets.proofs.Meaning.{meaning}
use Rattle.sheets.proofs.sheet.Goals as goal

pub sheet_types-requires : goal.sheet_types-requires
sheet_types-requires c = started c.first_rows.ensures c.in-Ok.is

pub returns-in-Err : goal.returns-in-Err
returns-in-Err c =
    meaning _ _ (λ k. (c.type_inv.book k).fits) (refused_first _ _ c.first_rows.ensures c.in-Err.is c.clear_refused.ensures)

pub returns-in-Ok : goal.returns-in-Ok
returns-in-Ok c = meaning _ _ (λ k. (c.type_inv.book k).fits) c.sheet_types.ensures
