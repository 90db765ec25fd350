-- `engine::check_types` meets its contract. Assumes nothing.
use mathlib.Core.Path.{◌∙◌}
use Rattle.cells.proofs.Asked.{asked, said}
use Rattle.engine.proofs.Typing.{type_ready, type_lain, check_found, ill_typed_book, scratch}
use Rattle.engine.proofs.check_types.Goals as goal

pub encode_in_place-n-requires : goal.encode_in_place-n-requires
encode_in_place-n-requires c =
    asked (type_ready c.requires (λ i. (c.type_inv.book i).fits) c.find_root.ensures scratch c.find_root.auto.buffer c.in-Ok.is)

pub close-requires : goal.close-requires
close-requires c =
    type_lain c.requires (λ i. (c.type_inv.book i).fits) c.find_root.ensures (c.encode_in_place-n.auto.w ∙ c.find_root.auto.buffer) c.in-Ok.is (said c.encode_in_place-n.ensures)

pub returns-in-Err : goal.returns-in-Err
returns-in-Err c =
    ill_typed_book c.requires (λ i. (c.type_inv.book i).fits) c.find_root.ensures _ c.find_root.auto.buffer c.in-Err.is c.clear_refused.ensures

pub returns-in-Ok : goal.returns-in-Ok
returns-in-Ok c =
    check_found c.requires (λ i. (c.type_inv.book i).fits) c.find_root.ensures c.in-Ok.is (said c.encode_in_place-n.ensures) c.close.ensures
