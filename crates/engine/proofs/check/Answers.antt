-- `engine::check` meets its contract: each return's rows are the definition's, and what it answers means what demand 2 says. Assumes nothing.
use Rattle.engine.proofs.Judging.{refused_result, past_row_10, started}
use Rattle.engine.proofs.Checked.{checked_as}
use Rattle.engine.proofs.check.Goals as goal

pub check_types-requires : goal.check_types-requires
check_types-requires c =
    started c.first_rows.ensures c.in-Ok.is

pub returns-in-Err : goal.returns-in-Err
returns-in-Err c =
    checked_as (λ i. (c.type_inv.book i).fits) (refused_result _ _ _ c.first_rows.ensures c.in-Err.is c.clear_refused.ensures)

pub returns-in-Ok : goal.returns-in-Ok
returns-in-Ok c =
    checked_as (λ i. (c.type_inv.book i).fits) (past_row_10 _ _ _ (started c.first_rows.ensures c.in-Ok.is) c.check_types.ensures)
