-- `running::contract_through` meets its contract. Assumes nothing.
use native.Mathlib.Omega.{arith}
use mathlib.Core.Path.{refl}
use Rattle.running.proofs.Ranges.{redex_start, redex_low}
use Rattle.running.proofs.Contracting.{emit_ready, contracts_full, installing, contracts_next}
use Rattle.running.proofs.contract_through.Goals as goal

pub overflow_add-m : goal.overflow_add-m
overflow_add-m c = omega (arith, redex_start)

pub overflow_sub-m : goal.overflow_sub-m
overflow_sub-m c = omega (arith, redex_low)

pub emit_contractum-requires : goal.emit_contractum-requires
emit_contractum-requires c = search emit_ready

pub returns-in_err-end : goal.returns-in_err-end
returns-in_err-end c h = contracts_full c.requires c.emit_contractum.ensures c.in_err-end.was c.from_residual.ensures

pub install-requires : goal.install-requires
install-requires c = installing c.requires c.emit_contractum.ensures c.in_ok-end.was c.emit_contractum.auto.d refl

pub returns : goal.returns
returns c h = contracts_next c.requires c.emit_contractum.ensures c.in_ok-end.was c.install.ensures
