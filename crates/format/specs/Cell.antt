-- Document 01, "Bytes of a book": cells from bytes and back. "Fields of two bytes and stored numbers are little-endian."
-- Assumes nothing.
use Rattle.std.specs.Prelude.{ℕ, suc, ◌+◌, ◌*◌, ◌-◌, ◌/◌, ◌%◌, ◌<◌, List, [], ◌∷◌, cond, ltb, ℤ, pos, negsuc, get_or}

-- every element is a byte
abbrev pub IsBytes : List ℕ → Type 0
IsBytes s = (i : ℕ) → get_or s i 0 < 256

-- The byte at i.
abbrev pub byte : List ℕ → ℕ → ℕ
byte s i = get_or s i 0

-- the field of two bytes at i
abbrev pub pair : List ℕ → ℕ → ℕ
pair s i = byte s i + 256 * byte s (i + 1)

-- "A cell: byte 0 kind, byte 1 label .., bytes 2–3, 4–5, 6–7 the fields a, b, c."
pub record Cell : Type 0 where
  pub kind : ℕ
  pub label : ℕ
  pub a : ℕ
  pub b : ℕ
  pub c : ℕ

-- "Cells of 8 bytes, numbered from 0": cell i.
unfoldable pub cell_at : List ℕ → ℕ → Cell
cell_at s i =
    record {
      kind = byte s (8 * i);
      label = byte s (8 * i + 1);
      a = pair s (8 * i + 2);
      b = pair s (8 * i + 4);
      c = pair s (8 * i + 6);
    }

-- The eight bytes of a cell.
unfoldable pub cell_bytes : Cell → List ℕ
cell_bytes t =
    t.kind
    ∷ t.label
    ∷ t.a % 256 ∷ t.a / 256
    ∷ t.b % 256 ∷ t.b / 256
    ∷ t.c % 256 ∷ t.c / 256
    ∷ []

-- A signed number of a width, stored as an unsigned one; h is half the width's power.
unfoldable pub signed : ℕ → ℕ → ℤ
signed h n = cond (ltb n h) (pos n) (negsuc (2 * h - suc n))

-- The number as it is stored.
unfoldable pub unsigned : ℕ → ℤ → ℕ
unsigned h (pos n) = n
unsigned h (negsuc n) = 2 * h - suc n
