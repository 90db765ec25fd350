-- `reduction::emit_annotated` meets its contract. Assumes nothing.
use mathlib.Core.Path.{◌≡◌, refl}
use mathlib.Core.List.{List}
use Prim.Native.Nat.{ℕ}
use Rattle.emission.specs.Emits.{Finishes}
use Rattle.emission.specs.Copies.{EmitsEnd}
use Rattle.std.specs.Prelude.{Option, Some}
use Rattle.emission.proofs.Chain.{First, Third, first, none_first, second_space, second, none_second, third_none, ends, emitted}
use Rattle.reduction.specs.Steps.{AnnotateReady}
use Rattle.reduction.proofs.Choices.{annotated, annotated_chain, term_each, int_each}
use Rattle.reduction.proofs.emit_annotated.Goals as goal

-- what is known after each part that fitted
module _ {s d : List ℕ} {i m : ℕ} (o : AnnotateReady s d i m) {f : List ℕ} {x : ℕ} {r : Option ℕ} (p : EmitsEnd s d f i m r) (n : r ≡ Some x) where
  after_term : First (annotated_chain o) f x
  after_term = first (annotated_chain o) (term_each o p) n

  after_type : {g : List ℕ} {y : ℕ} {q : Option ℕ} → Finishes f g x (record { kind = 1; label = 0; a = 0; b = 0; c = 0 }) q → q ≡ Some y
      → Third (annotated_chain o) f x g y g y
  after_type h k = third_none (second after_term (int_each o (second_space after_term) h) k) refl

pub returns-in_err-x : goal.returns-in_err-x
returns-in_err-x c = rw c.from_residual.ensures (annotated (none_first (annotated_chain c.requires) (term_each c.requires c.emit_run_to.ensures) c.in_err-x.was))

pub returns-in_err-y : goal.returns-in_err-y
returns-in_err-y c =
    let k = after_term c.requires c.emit_run_to.ensures c.in_ok-x.was in
    rw c.from_residual-in_err-y.ensures (annotated (none_second k (int_each c.requires (second_space k) c.finish.ensures) c.in_err-y.was))

pub overflow_sub-x : goal.overflow_sub-x
overflow_sub-x c = (ends (after_type c.requires c.emit_run_to.ensures c.in_ok-x.was c.finish.ensures c.in_ok-y.was)).0

pub returns : goal.returns
returns c = annotated (emitted (after_type c.requires c.emit_run_to.ensures c.in_ok-x.was c.finish.ensures c.in_ok-y.was) c.finish-2.ensures)
