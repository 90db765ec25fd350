-- `engine::run` meets its contract: each return's rows are the definition's; demands 2 and 3 follow. Assumes nothing.
use Rattle.engine.proofs.Judging.{refused_result, past_row_10, started}
use Rattle.engine.proofs.Ran.{ran_as}
use Rattle.engine.proofs.run.Goals as goal

pub run_types-requires : goal.run_types-requires
run_types-requires c =
    started c.first_rows.ensures c.in-Ok.is

pub returns-in-Err : goal.returns-in-Err
returns-in-Err c =
    ran_as (λ i. (c.type_inv.book i).fits) (refused_result _ _ _ c.first_rows.ensures c.in-Err.is c.clear_refused.ensures)

pub returns-in-Ok : goal.returns-in-Ok
returns-in-Ok c =
    ran_as (λ i. (c.type_inv.book i).fits) (past_row_10 _ _ _ (started c.first_rows.ensures c.in-Ok.is) c.run_types.ensures)
