-- `engine::run_types` meets its contract. Assumes nothing.
use Rattle.engine.proofs.Typing.{some_root, run_found, ill_typed_book}
use Rattle.engine.proofs.run_types.Goals as goal

pub run_root-requires : goal.run_root-requires
run_root-requires c =
    some_root c.requires (λ i. (c.type_inv.book i).fits) c.find_root.ensures c.find_root.auto.buffer c.in-Ok.is

pub returns-in-Err : goal.returns-in-Err
returns-in-Err c =
    ill_typed_book c.requires (λ i. (c.type_inv.book i).fits) c.find_root.ensures _ c.find_root.auto.buffer c.in-Err.is c.clear_refused.ensures

pub returns-in-Ok : goal.returns-in-Ok
returns-in-Ok c =
    run_found c.requires (λ i. (c.type_inv.book i).fits) c.find_root.ensures c.find_root.auto.buffer c.in-Ok.is c.run_root.ensures
