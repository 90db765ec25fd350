-- The stores that write a cell are the run of its eight bytes. Assumes nothing.
use Prim.Native.Nat.{ℕ, ◌+◌, ◌/◌, ◌%◌}
use native.Mathlib.Numerals.{towards_suc}
use mathlib.Core.Path.{◌≡◌}
use mathlib.Core.List.{List, [], ◌∷◌}
use lib.ListN.{set}
use lib.Seq.{sets}
use Rattle.format.specs.Cell.{Cell, cell_bytes}

-- a number as two bytes
abbrev pub two : ℕ → List ℕ
two x = x % 256 ∷ x / 256 ∷ []

pub cell_written : (s u v : List ℕ) {w : List ℕ} (at : ℕ) (t : Cell) → u ≡ sets (set (set s at t.kind) (at + 1) t.label) (at + 2) (two t.a)
    → v ≡ sets u (at + 4) (two t.b)
    → w ≡ sets v (at + 6) (two t.c)
    → w ≡ sets s at (cell_bytes t)
unfolding cell_bytes
cell_written s u v at t p q r = rw (r, q, p) (simp towards_suc)
