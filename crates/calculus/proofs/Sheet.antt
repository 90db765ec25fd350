-- Of a sheet any number of steps: the count falls by one with each, so it reaches its value after precisely as many as it counts. Assumes nothing.
use Prim.Native.Nat.{ℕ, zero, suc, ◌+◌}
use native.Mathlib.Omega.{arith}
use mathlib.Core.Path.{◌≡◌, subst}
use mathlib.Core.Logic.{◌↔◌, inl, inr}
use mathlib.Core.List.{[]}
use Rattle.calculus.specs.Syntax.{Ty, Term}
use Rattle.calculus.specs.Syntax.{IsValue}
use Rattle.calculus.specs.Typing.{Typed}
use Rattle.calculus.specs.Step.{Reaches, r_zero, r_suc}
use Rattle.calculus.specs.Sheet.{Sheet, count_steps, After, SheetSteps}
use Rattle.calculus.proofs.Soundness.{progress}
use Rattle.calculus.proofs.Chain.{reaches_typed}
use Rattle.calculus.proofs.SheetStep.{is_sheet_says, not_barred, part_sheet, from_parts, values, count_less, sheet_step}

-- ---- any number of steps

pub sheet_after : {h n : ℕ} {e f : Term} → Sheet e → Reaches h n e f → After n e f
sheet_after s r_zero = record { sheet = s; count = omega arith; size_falls = omega arith }
sheet_after s (r_suc r t) =
    let a = sheet_after s r in
    let b = sheet_step a.sheet t in
    record { sheet = b.sheet; count = omega (arith, a.count, b.count); size_falls = omega (arith, a.size_falls, b.size_falls) }

pub sheet_precisely : {h n : ℕ} {e f : Term} → Sheet e → Reaches h n e f → IsValue f ↔ (n ≡ count_steps e)
sheet_precisely {f = f} s r =
    let a = sheet_after s r in
    let v = values f a.sheet in
    (λ x. omega (arith, a.count, v.0 x), λ x. v.1 (omega (arith, a.count, x)))

-- typed, it goes on as long as it counts something
to_value : {h : ℕ} {e : Term} {A : Ty} → Typed [] e A → Sheet e → (k n : ℕ) (f : Term) → Reaches h n e f → k + n ≡ count_steps e
    → (g : Term) × Reaches h (count_steps e) e g × IsValue g
to_value {h} {e} t s zero n f r q = let m : n ≡ count_steps e = omega (arith, q) in (f, subst (λ (x : ℕ). Reaches h x e f) m r, (sheet_precisely s r).1 m)
to_value {h} {e} t s (suc k) n f r q =
    elim (progress {h = h} (reaches_typed t r).1) [
      | inl v ↦ absurd (omega (arith, q, (sheet_precisely s r).0 v))
      | inr x ↦ to_value t s k (suc n) x.0 (r_suc r x.1) (omega (arith, q))
    ]

pub sheet_steps : SheetSteps
sheet_steps =
    record {
      parts = λ e. (λ s p f a. not_barred (part_sheet s a), from_parts e);
      decides = is_sheet_says;
      values = values;
      step = λ h e f s t. sheet_step s t;
      after = λ h n e f s r. sheet_after s r;
      reaches = λ h e A t s. to_value t s (count_steps e) 0 e r_zero (omega arith);
      precisely = λ h n e f s r. sheet_precisely s r;
      bounded = count_less;
    }
