-- The mark of a type, which says whether it is top-like, from the marks of the types that it refers to. Assumes nothing.
use Rattle.std.specs.Prelude.{ℕ, ◌+◌, ◌*◌, ◌≤◌, ◌<◌, cond, List, [], ◌∷◌, eqb, ltb, length, get_or}
use Rattle.format.specs.Cell.{Cell, cell_at}

-- The mark of the type of cell t, whose kind is k: Top is top-like, a function type by its output, an intersection by both halves, a
-- record type by its content. Of a cell that is no type it is 0.
abbrev pub mark_by : List ℕ → Cell → ℕ → ℕ
mark_by s t k =
    let a = (cell_at s t.a).c in
    let b = (cell_at s t.b).c in
    get_or (0 ∷ 0 ∷ 1 ∷ b ∷ cond (eqb a 1) b 0 ∷ a ∷ []) k 0

-- The cells that it is read from lie within the buffer.
pub record MarkReady (s : List ℕ) (t : Cell) : Type 0 where
  pub first : 4 ≤ t.kind → t.kind ≤ 5 → 8 * t.a + 8 ≤ length s
  pub second : 3 ≤ t.kind → t.kind ≤ 4 → 8 * t.b + 8 ≤ length s

-- The cell with its mark in field c, if it is a type.
abbrev pub marked_by : List ℕ → Cell → Cell
marked_by s t = record { kind = t.kind; label = t.label; a = t.a; b = t.b; c = cond (ltb t.kind 16) (mark_by s t t.kind) t.c }

-- The cells that its mark is read from lie within the buffer, if it is a type.
pub record MarkedReady (s : List ℕ) (t : Cell) : Type 0 where
  pub ready : t.kind < 16 → MarkReady s t
