-- `reduction::emit_instance` meets its contract. Assumes nothing.
use mathlib.Core.Path.{◌≡◌, refl}
use mathlib.Core.List.{List}
use Prim.Native.Nat.{ℕ}
use Rattle.emission.specs.Copies.{EmitsEnd}
use Rattle.std.specs.Prelude.{Option, Some}
use Rattle.emission.proofs.Chain.{First, Third, first, none_first, second_space, second, none_second, third_none, ends, emitted}
use Rattle.emission.proofs.Copies.{run_ready}
use Rattle.reduction.specs.Steps.{InstanceReady, EmitsSubstituted}
use Rattle.reduction.specs.declared.Source.{Source}
use Rattle.reduction.proofs.Instances.{instance, instance_chain, body_each, type_each}
use Rattle.reduction.proofs.emit_instance.Goals as goal

-- what is known after each part that fitted
module _ {s d : List ℕ} {i a m : ℕ} {p : Source} (o : InstanceReady s d i a m p) {f : List ℕ} {x : ℕ} {q : Option ℕ}
    (b : EmitsSubstituted s d f i 0 m p q) (n : q ≡ Some x) where
  after_body : First (instance_chain o) f x
  after_body = first (instance_chain o) (body_each o b) n

  after_type : {g : List ℕ} {y : ℕ} {r : Option ℕ} → EmitsEnd s f g a x r → r ≡ Some y → Third (instance_chain o) f x g y g y
  after_type h k = third_none (second after_body (type_each o h) k) refl

pub returns-in_err-x : goal.returns-in_err-x
returns-in_err-x c =
    rw c.from_residual.ensures
    (instance (none_first (instance_chain c.requires) (body_each c.requires c.emit_substituted.ensures) c.in_err-x.was))

pub emit_run_to-requires : goal.emit_run_to-requires
emit_run_to-requires c = run_ready c.requires.holds.run (second_space (after_body c.requires c.emit_substituted.ensures c.in_ok-x.was))

pub returns-in_err-y : goal.returns-in_err-y
returns-in_err-y c =
    let k = after_body c.requires c.emit_substituted.ensures c.in_ok-x.was in
    rw c.from_residual-in_err-y.ensures (instance (none_second k (type_each c.requires c.emit_run_to.ensures) c.in_err-y.was))

pub overflow_sub-x : goal.overflow_sub-x
overflow_sub-x c = (ends (after_type c.requires c.emit_substituted.ensures c.in_ok-x.was c.emit_run_to.ensures c.in_ok-y.was)).0

pub overflow_sub-y : goal.overflow_sub-y
overflow_sub-y c = (ends (after_type c.requires c.emit_substituted.ensures c.in_ok-x.was c.emit_run_to.ensures c.in_ok-y.was)).1

pub returns : goal.returns
returns c =
    instance
    (emitted (after_type c.requires c.emit_substituted.ensures c.in_ok-x.was c.emit_run_to.ensures c.in_ok-y.was) c.finish.ensures)
