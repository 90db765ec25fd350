-- Numbers: what is held fits the range, what fits is held unchanged and all else to the ends; which of two terms is chosen; a reading under Int is a
-- number, and a value of a type below Int has one. Assumes nothing.
use Prim.Native.Nat.{ℕ, zero, suc, ◌-◌, ◌≤◌, ◌<◌}
use native.Mathlib.Omega.{arith}
use mathlib.Core.Path.{◌≡◌, refl}
use mathlib.Core.Logic.{◌↔◌, ◌⊎◌, inl, inr, ◌≢◌}
use mathlib.Core.Bool.{cond}
use lib.Dec.{ltb, ltb→lt}
use lib.IntN.{ℤ, pos, negsuc}
use lib.Signed.{mag}
use Rattle.calculus.specs.Syntax.{Ty, int, Term, lit, Value}
use Rattle.calculus.specs.Numbers.{hold, chosen}
use Rattle.calculus.specs.Subtyping.{Below}
use Rattle.calculus.specs.TypedReduction.{Cast, c_lit, c_top, c_left, c_right}
use Rattle.calculus.specs.Evaluate.{number_of}
use Rattle.calculus.proofs.Bools.{by_test, T_true, T_false, ltb_says}
use Rattle.calculus.proofs.TypedReduction.{below_cast}

-- a number of either sign, within the range and past its end
inside : (s : ℕ → ℤ) (h n : ℕ) → n < h → cond (ltb n h) (s n) (s (h - 1)) ≡ s n
inside s h n p = rw (T_true {b = ltb n h} (ltb_says n h) p)

outside : (s : ℕ → ℤ) (h n : ℕ) → h ≤ n → cond (ltb n h) (s n) (s (h - 1)) ≡ s (h - 1)
outside s h n p = rw (T_false {b = ltb n h} (ltb_says n h) (λ q. omega arith))

pub hold_fits : (h : ℕ) (z : ℤ) → 0 < h → mag (hold h z) < h
unfolding hold
hold_fits h (pos n) p = by_test (λ z. mag z < h) (ltb n h) (ltb→lt n h) (λ f. omega arith)
hold_fits h (negsuc n) p = by_test (λ z. mag z < h) (ltb n h) (ltb→lt n h) (λ f. omega arith)

pub hold_id : (h : ℕ) (z : ℤ) → mag z < h → hold h z ≡ z
unfolding hold
hold_id h (pos n) = inside pos h n
hold_id h (negsuc n) = inside negsuc h n

pub hold_above : (h n : ℕ) → h ≤ n → hold h (pos n) ≡ pos (h - 1)
unfolding hold
hold_above = outside pos

pub hold_below : (h n : ℕ) → h ≤ n → hold h (negsuc n) ≡ negsuc (h - 1)
unfolding hold
hold_below = outside negsuc

otherwise : {P Q R : Type 0} → ¬ P → R ↔ ((P × Q) ⊎ ((¬ P) × R))
otherwise n = (λ r. inr (n, r), elim [ inl q ↦ absurd (n q.0) | inr q ↦ q.1 ])

-- "b for zero and c for anything else", put into F
pub chosen_says : (F : Term → Term) (i : ℤ) (b c g : Term) →
    (g ≡ F (chosen i b c)) ↔ (((i ≡ pos 0) × (g ≡ F b)) ⊎ ((i ≢ pos 0) × (g ≡ F c)))
unfolding chosen
chosen_says F (pos zero) b c g = (λ p. inl (refl, p), elim [ inl q ↦ q.1 | inr q ↦ absurd (q.0 refl) ])
chosen_says F (pos (suc n)) b c g = otherwise (λ e. let z : suc n ≡ 0 = cc in omega arith)
chosen_says F (negsuc n) b c g = otherwise (λ e. let z : ◌≡◌ {A = ℕ} 0 1 = cc in omega arith)

-- what holds of both holds of the one chosen
pub chosen_either : (P : Term → Type 0) (i : ℤ) (b c : Term) → P b → P c → P (chosen i b c)
chosen_either P i b c p q = elim ((chosen_says (λ x. x) i b c (chosen i b c)).0 refl) [ inl r ↦ rw r.1 p | inr r ↦ rw r.1 q ]

pub int_reading : {v x : Term} → Cast v int x → Cast v int (lit (number_of x))
unfolding number_of
int_reading c_lit = c_lit
int_reading (c_top v o t) = absurd t
int_reading (c_left v o c) = c_left v o (int_reading c)
int_reading (c_right v o c) = c_right v o (int_reading c)

pub below_number : {v : Term} {A : Ty} → Value v A → Below A int → (i : ℤ) × Cast v int (lit i)
below_number v b = let (x, c) = below_cast v b in (number_of x, int_reading c)
