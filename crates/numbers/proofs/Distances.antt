-- Numbers by their distance from the lower end of a range: sums of numbers are sums of distances, and a held sum is stored by where that distance lies.
-- Assumes nothing.
use Prim.Native.Nat.{ℕ, suc, ◌+◌, ◌*◌, ◌-◌, ◌%◌, ◌≤◌, ◌<◌, min, max}
use native.Mathlib.Decide.{dec_lt}
use native.Mathlib.Omega.{arith}
use mathlib.Core.Path.{◌≡◌, refl, ap, ◌∙◌}
use mathlib.Core.Bool.{cond}
use lib.Dec.{ltb, ltb→lt, nltb→le, not_T}
use lib.IntN.{ℤ, pos, negsuc, ◌+ℤ◌}
use lib.Signed.{mag}
use Rattle.calculus.specs.Numbers.{hold}
use Rattle.calculus.proofs.Bools.{by_test}
use Rattle.calculus.proofs.Numbers.{hold_fits, hold_id, hold_above, hold_below}
use Rattle.format.specs.declared.Version.{Version}
use Rattle.format.specs.declared.Version.TheVariants.{One, Two}
use Rattle.format.specs.Version.{half_of}
use Rattle.format.specs.Cell.{signed, unsigned}
use Rattle.format.proofs.Numbers.{by_half, signed_unsigned, unsigned_fits}
use Rattle.numbers.specs.Sums.{SumReady, AddsHeld}

abbrev wide : ℕ
wide = half_of Two

abbrev range : ℕ
range = 2 * half_of Two

-- z is d above -k.
abbrev Above : ℕ → ℤ → ℕ → Type 0
Above k (pos n) d = d ≡ n + k
Above k (negsuc n) d = d + suc n ≡ k

-- what is asked of a test of two numbers
by_less : {X : Type 0} (P : X → Type 0) (a b : ℕ) {x y : X} → (a < b → P x) → (b ≤ a → P y) → P (cond (ltb a b) x y)
by_less P a b f g = by_test P (ltb a b) (λ t. f (ltb→lt a b t)) (λ t. g (nltb→le a b (not_T (ltb a b) t)))

above_sum : (k d e : ℕ) (z w : ℤ) → Above k z d → Above k w e → Above (2 * k) (z +ℤ w) (d + e)
above_sum k d e (pos n) (pos m) p q = omega arith
above_sum k d e (pos n) (negsuc m) p q = by_less (λ z. Above (2 * k) z (d + e)) n (suc m) (λ l. omega arith) (λ l. omega arith)
above_sum k d e (negsuc n) (pos m) p q = by_less (λ z. Above (2 * k) z (d + e)) m (suc n) (λ l. omega arith) (λ l. omega arith)
above_sum k d e (negsuc n) (negsuc m) p q = omega arith

-- the distance of a stored number
abbrev pub distance : ℕ → ℕ
distance x = (x + wide) % range

stored_above : (x : ℕ) → x < range → Above wide (signed wide x) (distance x)
stored_above x f = by_half (λ z. Above wide z (distance x)) wide x (λ l. omega arith) (λ l. omega arith)

-- what is stored for a number z, held, by its distance s
below_range : (h s : ℕ) (z : ℤ) → Above range z s → 0 < h → s + h < range → range - h ≡ unsigned wide (hold h z)
unfolding unsigned
below_range h s (pos n) a p l = absurd (omega arith)
below_range h s (negsuc n) a p l = rw (hold_below h n (omega arith)) (omega arith)

above_range : (h s : ℕ) (z : ℤ) → Above range z s → range + h ≤ s → h - 1 ≡ unsigned wide (hold h z)
unfolding unsigned
above_range h s (pos n) a l = rw (hold_above h n (omega arith)) refl
above_range h s (negsuc n) a l = absurd (omega arith)

in_range : (h s : ℕ) (z : ℤ) → Above range z s → h ≤ wide → range ≤ s + h → s < range + h → s % range ≡ unsigned wide (hold h z)
unfolding unsigned
in_range h s (pos n) a p l m = rw (hold_id h (pos n) (omega arith)) (omega arith)
in_range h s (negsuc n) a p l m = rw (hold_id h (negsuc n) (omega arith)) (omega arith)

module _ {x y h : ℕ} (p : SumReady x y h) where
  abbrev z : ℤ
  z = signed wide x +ℤ signed wide y

  abbrev s : ℕ
  s = distance x + distance y

  above : Above range z s
  above = above_sum wide (distance x) (distance y) (signed wide x) (signed wide y) (stored_above x p.first) (stored_above y p.second)

  stored_held : {r : ℕ} → r ≡ unsigned wide (hold h z) → AddsHeld x y h r
  stored_held q =
      let f : mag (hold h z) < wide = omega (arith, hold_fits h z p.some, p.narrow) in
      record { fits = rw q (unsigned_fits wide (hold h z) f); says = ap (signed wide) q ∙ signed_unsigned wide (hold h z) f }

  pub adds_clamped : {r : ℕ} → r ≡ max (range - h) (min s (range + h - 1)) % range → AddsHeld x y h r
  adds_clamped q =
      elim (dec_lt (s + h) range) [
        | yes l ↦ stored_held (q ∙ omega (arith, p.some, l) ∙ below_range h s z above p.some l)
        | no l ↦
            elim (dec_lt s (range + h)) [
              | yes m ↦ stored_held (q ∙ ap (λ (n : ℕ). n % range) (let e : max (range - h) (min s (range + h - 1)) ≡ s = omega (arith, l, m) in e) ∙ in_range h s z above p.narrow (omega (arith, l)) m)
              | no m ↦ stored_held (q ∙ omega (arith, p.some, p.narrow, m) ∙ above_range h s z above (omega (arith, m)))
            ]
      ]

-- The range of either version is one that a sum can be held to.
pub half_ready : (v : Version) → (0 < half_of v) × (half_of v ≤ half_of Two)
half_ready One = omega arith
half_ready Two = omega arith
