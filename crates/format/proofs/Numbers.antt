-- Signed numbers of a width, stored and read back: one law over half the width's power h. Assumes nothing.
use Prim.Native.Nat.{ℕ, suc, ◌*◌, ◌-◌, ◌≤◌, ◌<◌}
use mathlib.Core.Path.{◌≡◌, refl, ap}
use native.Mathlib.Omega.{arith}
use lib.Dec.{ltb, ltb→lt, nltb→le, not_T}
use lib.IntN.{ℤ, pos, negsuc}
use lib.Signed.{mag}
use Rattle.calculus.proofs.Bools.{by_test}
use Rattle.format.specs.Cell.{signed, unsigned}

-- What is asked of a stored number, by its half: below half it is itself, from half on it is negative.
pub by_half : (P : ℤ → Type 0) (h n : ℕ) → (n < h → P (pos n)) → (h ≤ n → P (negsuc (2 * h - suc n))) → P (signed h n)
unfolding signed
by_half P h n low high = by_test P (ltb n h) (λ t. low (ltb→lt n h t)) (λ f. high (nltb→le n h (not_T (ltb n h) f)))

pub signed_unsigned : (h : ℕ) (z : ℤ) → mag z < h → signed h (unsigned h z) ≡ z
unfolding unsigned
signed_unsigned h (pos n) f = by_half (λ z. z ≡ pos n) h n (λ g. refl) (λ g. absurd (omega arith))
signed_unsigned h (negsuc n) f =
    by_half (λ z. z ≡ negsuc n) h (2 * h - suc n) (λ g. absurd (omega arith)) (λ g. ap negsuc (omega arith))

pub unsigned_signed : (h n : ℕ) → n < 2 * h → unsigned h (signed h n) ≡ n
unfolding unsigned
unsigned_signed h n f = by_half (λ z. unsigned h z ≡ n) h n (λ _. refl) (λ g. omega arith)

pub unsigned_fits : (h : ℕ) (z : ℤ) → mag z < h → unsigned h z < 2 * h
unfolding unsigned
unsigned_fits h (pos n) f = omega arith
unsigned_fits h (negsuc n) f = omega arith

pub signed_fits : (h n : ℕ) → n < 2 * h → mag (signed h n) < h
signed_fits h n f = by_half (λ z. mag z < h) h n (λ g. g) (λ g. omega arith)
