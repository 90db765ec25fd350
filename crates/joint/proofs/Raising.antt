-- A cell that moves by k from cell 0 on is raised by k. Assumes nothing.
use Prim.Native.Nat.{ℕ}
use native.Mathlib.Omega.{arith}
use mathlib.Core.Path.{◌≡◌, refl, ◌∙◌}
use mathlib.Core.Option.{some}
use Rattle.format.specs.Table.{Use, unused, plain, refers, Row, row_of}
use Rattle.format.specs.Cell.{Cell}
use Rattle.format.specs.Joint.{raised_field, raised}
use Rattle.cells.specs.Moves.{moved_field, moved_cell, CellMoves}

field_raised : (k : ℕ) (u : Use) (n : ℕ) → moved_field 0 k u n ≡ raised_field k u n
field_raised k unused n = refl
field_raised k plain n = refl
field_raised k (refers o) n = omega arith

pub is_raised : {t x : Cell} {k : ℕ} → CellMoves 0 k t → ((r : Row) → row_of t.kind ≡ some r → x ≡ moved_cell 0 k r t) → x ≡ raised k t
is_raised {t} {x} {k} p m =
    m p.row p.known
    ∙ rw p.known
    (λ i. record {
      kind = t.kind;
      label = t.label;
      a = field_raised k p.row.a t.a i;
      b = field_raised k p.row.b t.b i;
      c = field_raised k p.row.c t.c i;
    })
