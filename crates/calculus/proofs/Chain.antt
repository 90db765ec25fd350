-- The theorem of the calculus: a closed typed term never gets stuck, whichever half each merge is read from. Assumes nothing.
use Prim.Native.Nat.{ℕ}
use mathlib.Core.Path.{◌≡◌, refl, subst}
use mathlib.Core.Logic.{◌⊎◌, inl, inr}
use mathlib.Core.List.{[]}
use Rattle.calculus.specs.Syntax.{Ty, Term, IsValue}
use Rattle.calculus.specs.Typing.{Typed}
use Rattle.calculus.specs.Step.{Step, Reaches, r_zero, r_suc, Stuck, Ends}
use Rattle.calculus.specs.Runtime.{Runtime, r_refl}
use Rattle.calculus.specs.Soundness.{Reached}
use Rattle.calculus.proofs.Runtime.{runtime_below, runtime_trans}
use Rattle.calculus.proofs.Soundness.{step_typed, value_no_step, progress}
use Rattle.calculus.proofs.Evaluation.{step_unique}

-- preservation along the chain
pub reaches_typed : {h n : ℕ} {e f : Term} {A : Ty} → Typed [] e A → Reaches h n e f → (B : Ty) × Typed [] f B × Runtime B A
reaches_typed t r_zero = (_, t, r_refl)
reaches_typed t (r_suc r s) =
    let h = reaches_typed t r in
    let k = step_typed h.1 s in
    (k.0, k.1, runtime_trans k.2 h.2)

-- the chain does not branch
pub reaches_unique : {h n : ℕ} {e f g : Term} {A : Ty} → Typed [] e A → Reaches h n e f → Reaches h n e g → g ≡ f
reaches_unique t r_zero r_zero = refl
reaches_unique {h} t (r_suc r s) (r_suc {g} q u) =
    step_unique (reaches_typed t r).1 (subst (λ x. Step h x g) (reaches_unique t r q) u) s

pub typed_ends : {h : ℕ} {f : Term} {B : Ty} → Typed [] f B → Ends h f
typed_ends {h} {f} t = go (progress t)
  where
    go : IsValue f ⊎ ((g : Term) × Step h f g) → Ends h f
    go (inl v) = inl (v, λ g. value_no_step v.1)
    go (inr s) = inr (λ v. value_no_step v.1 s.1, (s.0, s.1, λ d u. step_unique t u s.1))

not_stuck : {h : ℕ} {f : Term} → Ends h f → ¬ Stuck h f
not_stuck (inl v) k = k.0 v.0
not_stuck (inr s) k = k.1 s.1.0 s.1.1

pub sound : {h : ℕ} {e : Term} {A : Ty} → Typed [] e A → (n : ℕ) (f : Term) → Reaches h n e f → Reached h e A n f
sound t n f r =
    let h = reaches_typed t r in
    record {
      only = λ g. reaches_unique t r;
      ends = typed_ends h.1;
      typed = (h.0, h.1, runtime_below h.2);
      not_stuck = not_stuck (typed_ends h.1);
    }
