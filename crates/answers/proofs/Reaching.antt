-- The terms on the path to a term that is reached. Assumes nothing.
use Prim.Native.Nat.{ℕ, suc, ◌≤◌, ◌<◌}
use mathlib.Core.Path.{◌≡◌, subst⁻¹}
use native.Mathlib.Decide.{dec_le}
use native.Mathlib.Omega.{arith}
use Rattle.calculus.specs.Syntax.{Term}
use Rattle.calculus.specs.Step.{Step, Reaches, r_zero, r_suc}

-- before a term after m steps stands one after n, for each n up to m
pub before : {h m : ℕ} {e f : Term} → Reaches h m e f → (n : ℕ) → n ≤ m → (g : Term) × Reaches h n e g
before {h} {f = f} r_zero n l =
    let z : n ≡ 0 = omega arith in
    (f, subst⁻¹ (λ (k : ℕ). Reaches h k f f) z r_zero)
before {h} {e = e} (r_suc {n = m} {g = g} r s) n l =
    elim (dec_le n m) [
      | yes l ↦ before r n l
      | no u ↦
          let z : n ≡ suc m = omega arith in
          (g, subst⁻¹ (λ (k : ℕ). Reaches h k e g) z (r_suc r s))
    ]

pub last_step : {h n : ℕ} {e g : Term} → Reaches h (suc n) e g → (f : Term) × Reaches h n e f × Step h f g
last_step (r_suc {f = f} r s) = (f, r, s)

-- one of the terms before the last has a successor on the path
pub onward : {h m : ℕ} {e f : Term} → Reaches h m e f → (n : ℕ) → n < m → (g : Term) × (d : Term) × Reaches h n e g × Step h g d × Reaches h (suc n) e d
onward r n l =
    let b = before r (suc n) l in
    let s = last_step b.1 in
    (s.0, b.0, s.1, s.2, b.1)
