-- The fields of a cell that moves, by the entry of its kind. Assumes nothing.
use Prim.Native.Nat.{ℕ, ◌<◌}
use mathlib.Core.Path.{◌≡◌, sym, ap, ◌∙◌}
use mathlib.Core.Option.{some}
use Rattle.format.specs.Table.{Use, unused, plain, refers, Row, row_of}
use Rattle.format.specs.Cell.{Cell}
use Rattle.cells.specs.Coded.{use_of, row_from, CellFits}
use Rattle.cells.specs.Moves.{moved_field, FieldMoves, moved_cell, CellMoves}
use Rattle.cells.specs.declared.Cell.{Cell as Struct}
use Rattle.cells.specs.declared.Entry.{Entry}
use Rattle.cells.proofs.Rows.{uses}

field_fits : (x y : ℕ) (u : Use) (n : ℕ) → FieldMoves x y u n → moved_field x y u n < 65536
field_fits x y unused n h = h
field_fits x y plain n h = h
field_fits x y (refers o) n h = h.1

pub record EntryMoves (x y : ℕ) (e : Entry) (t : Cell) : Type 0 where
  pub a : FieldMoves x y (use_of e.a) t.a
  pub b : FieldMoves x y (use_of e.b) t.b
  pub c : FieldMoves x y (use_of e.c) t.c

module _ {x y : ℕ} {t : Cell} (e : Entry) (p : CellMoves x y t) (q : row_from t.kind e ≡ row_of t.kind) where
  pub entry_moves : EntryMoves x y e t
  entry_moves =
      let u = uses t.kind e p.row (q ∙ p.known) in
      record { a = rw u.a at p.first; b = rw u.b at p.second; c = rw u.c at p.third }

  pub cell_moved : {a b c : ℕ} → a ≡ moved_field x y (use_of e.a) t.a → b ≡ moved_field x y (use_of e.b) t.b → c ≡ moved_field x y (use_of e.c) t.c
      → (r : Row) → row_of t.kind ≡ some r → record { kind = t.kind; label = t.label; a = a; b = b; c = c } ≡ moved_cell x y r t
  cell_moved ea eb ec r k =
      let u = uses t.kind e r (q ∙ k) in
      λ i. record {
        kind = t.kind;
        label = t.label;
        a = (ea ∙ ap (λ (v : Use). moved_field x y v t.a) (sym u.a)) i;
        b = (eb ∙ ap (λ (v : Use). moved_field x y v t.b) (sym u.b)) i;
        c = (ec ∙ ap (λ (v : Use). moved_field x y v t.c) (sym u.c)) i;
      }

  pub cell_fits : {n : Struct} → n.a ≡ moved_field x y (use_of e.a) t.a → n.b ≡ moved_field x y (use_of e.b) t.b → n.c ≡ moved_field x y (use_of e.c) t.c → CellFits n
  cell_fits ea eb ec =
      let m = entry_moves in
      record { a = rw ea (field_fits x y _ t.a m.a); b = rw eb (field_fits x y _ t.b m.b); c = rw ec (field_fits x y _ t.c m.c) }
