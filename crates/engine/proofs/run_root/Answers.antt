-- `engine::run_root` meets its contract. Assumes nothing.
use Prim.Native.Nat.{ℕ, ◌≤◌}
use mathlib.Core.Path.{sym, ◌∙◌, subst}
use Rattle.cells.proofs.Asked.{asked, said}
use Rattle.engine.proofs.Typing.{scratch}
use Rattle.engine.proofs.Ran.{root_ready, root_typed, end_encoded, root_runs}
use Rattle.engine.proofs.run_root.Goals as goal

pub encode_in_place-n-requires : goal.encode_in_place-n-requires
encode_in_place-n-requires c =
    asked (root_ready (λ i. (c.slice_known-1.given i).fits) scratch c.requires)

pub run_on-end-requires : goal.run_on-end-requires
run_on-end-requires c =
    root_typed (λ i. (c.slice_known-1.given i).fits) (said c.encode_in_place-n.ensures) (subst (λ (n : ℕ). 32768 ≤ n) (sym c.encode_in_place-n.auto.s) scratch) c.encode_in_place-n.auto.w c.requires

pub close_term-requires : goal.close_term-requires
close_term-requires c =
    end_encoded (λ i. (c.slice_known-1.given i).fits) (said c.encode_in_place-n.ensures) c.run_on-end.ensures (c.run_on-end.auto.w ∙ c.encode_in_place-n.auto.w) c.requires

pub returns : goal.returns
returns c =
    root_runs (λ i. (c.slice_known-1.given i).fits) (said c.encode_in_place-n.ensures) c.run_on-end.ensures c.close_term.ensures
