-- A cell that is written stands there, and the others are as they were. Assumes nothing.
use Prim.Native.Nat.{ℕ, suc, ◌+◌, ◌*◌, ◌≤◌, ◌<◌}
use native.Mathlib.Decide.{dec_lt}
use native.Mathlib.Omega.{arith}
use mathlib.Core.Path.{◌≡◌, refl, ◌∙◌}
use mathlib.Core.Logic.{◌⊎◌, inl, inr}
use mathlib.Core.List.{List, [], ◌∷◌}
use lib.ListN.{length, get_or, set}
use lib.Seq.{sets, get_or-set_other}
use Rattle.format.specs.Cell.{Cell, cell_at, cell_bytes, byte, pair}
use Rattle.cells.proofs.Held.{written}
use Rattle.moving.specs.Moves.{Wrote}

byte_other : (x s : List ℕ) (i j : ℕ) → (j < i) ⊎ (i + length x ≤ j) → get_or (sets s i x) j 0 ≡ get_or s j 0
byte_other [] s i j h = refl
byte_other (a ∷ x) s i j (inl h) =
    byte_other x (set s i a) (suc i) j (inl (omega (arith, h))) ∙ get_or-set_other s i j a 0 (λ e. absurd (omega (arith, e, h)))
byte_other (a ∷ x) s i j (inr h) =
    byte_other x (set s i a) (suc i) j (inr (omega (arith, h))) ∙ get_or-set_other s i j a 0 (λ e. absurd (omega (arith, e, h)))

apart : (n j p : ℕ) → (j ≡ n → ⊥) → 8 * j ≤ p → p < 8 * j + 8 → (p < 8 * n) ⊎ (8 * n + 8 ≤ p)
apart n j p h k l =
    elim (dec_lt j n) [
      | yes a ↦ inl (omega (arith, a, l))
      | no a ↦ elim (dec_lt n j) [ yes b ↦ inr (omega (arith, b, k)) | no b ↦ absurd (h (omega (arith, a, b))) ]
    ]

pub cell_other : (s : List ℕ) (n j : ℕ) (t : Cell) → (j ≡ n → ⊥) → cell_at (sets s (8 * n) (cell_bytes t)) j ≡ cell_at s j
unfolding cell_at cell_bytes
cell_other s n j t h =
    λ i. record {
      kind = at (8 * j) (omega arith) (omega arith) i;
      label = at (8 * j + 1) (omega arith) (omega arith) i;
      a = two (8 * j + 2) (omega arith) (omega arith) i;
      b = two (8 * j + 4) (omega arith) (omega arith) i;
      c = two (8 * j + 6) (omega arith) (omega arith) i;
    }
  where
    at : (p : ℕ) → 8 * j ≤ p → p < 8 * j + 8 → byte (sets s (8 * n) (cell_bytes t)) p ≡ byte s p
    at p k l = byte_other (cell_bytes t) s (8 * n) p (apart n j p h k l)

    two : (p : ℕ) → 8 * j ≤ p → p + 1 < 8 * j + 8 → pair (sets s (8 * n) (cell_bytes t)) p ≡ pair s p
    two p k l = cc (at p k (omega (arith, l)), at (p + 1) (omega (arith, k)) l)

pub wrote : {s t : List ℕ} {n : ℕ} (x : Cell) → 8 * n + 8 ≤ length s → t ≡ sets s (8 * n) (cell_bytes x) → Wrote s t n
wrote {s} {n = n} x h e = record { long = (written x h e).same.long; others = λ j q. rw e (cell_other s n j x q) }
