-- A cell of a run that moves, by the row of its kind. Assumes nothing.
use Prim.Native.Nat.{ℕ, ◌+◌, ◌-◌, ◌≤◌, ◌<◌}
use native.Mathlib.Omega.{arith}
use mathlib.Core.Path.{◌≡◌, refl, ap, ◌∙◌}
use mathlib.Core.Option.{some}
use Rattle.format.specs.declared.Version.TheVariants.{Two}
use Rattle.format.specs.Table.{type_sort, Use, unused, plain, refers, Row, row_for, row_of, row_in, table}
use Rattle.format.specs.Cell.{Cell}
use Rattle.format.proofs.Tests.{All, ◌also◌, view}
use Rattle.cells.specs.Moves.{moved_field, FieldMoves, moved_cell, CellMoves}
use Rattle.moving.specs.Moves.{FieldIs, Rebased, Between, OfRun}

-- ---- a field

field_moves : (u : Use) (x y e n : ℕ) → e ≤ 8192 → y < 8192 → Between u x e n → n < 65536 → FieldMoves x y u n
field_moves unused x y e n h l p f = f
field_moves plain x y e n h l p f = f
field_moves (refers o) x y e n h l p f = (p.0, omega (arith, p.0, p.1, h, l))

stands : (u : Use) {n m : ℕ} → n ≡ m → FieldIs u n m
stands unused e = Prim.tt
stands plain e = e
stands (refers o) e = e

-- a reference that has moved lies below its cell
pub lower : (u : Use) (x y e n m : ℕ) → u ≡ refers type_sort → Between u x e n → FieldIs u m (moved_field x y u n) → m < e - x + y
lower unused x y e n m q b s = absurd (let z : ◌≡◌ {A = ℕ} 0 1 = cc in omega arith)
lower plain x y e n m q b s = absurd (let z : ◌≡◌ {A = ℕ} 0 1 = cc in omega arith)
lower (refers o) x y e n m q b s = omega (arith, b.0, b.1, s)

-- ---- the rows of types

-- No type names field c; the kinds whose mark is read from field a, or from field b, name a type there.
pub record OfType (r : Row) : Type 0 where
  pub third : r.kind < 16 → r.c ≡ unused
  pub first : 4 ≤ r.kind → r.kind ≤ 5 → r.a ≡ refers type_sort
  pub second : 3 ≤ r.kind → r.kind ≤ 4 → r.b ≡ refers type_sort

of_term : {r : Row} → 16 ≤ r.kind → OfType r
of_term h = record { third = λ k. absurd (omega (arith, h, k)); first = λ _ k. absurd (omega (arith, h, k)); second = λ _ k. absurd (omega (arith, h, k)) }

pub of_type : (k : ℕ) (r : Row) → row_of k ≡ some r → (k ≡ r.kind) × OfType r
unfolding row_for row_in table
of_type k r e = view OfType (table Two) every k r e
  where
    every : All OfType (table Two)
    every =
        record { third = λ _. refl; first = λ h _. absurd (omega (arith, h)); second = λ h _. absurd (omega (arith, h)) }
        also record { third = λ _. refl; first = λ h _. absurd (omega (arith, h)); second = λ h _. absurd (omega (arith, h)) }
        also record { third = λ _. refl; first = λ h _. absurd (omega (arith, h)); second = λ _ _. refl }
        also record { third = λ _. refl; first = λ _ _. refl; second = λ _ _. refl }
        also record { third = λ _. refl; first = λ _ _. refl; second = λ _ h. absurd (omega (arith, h)) }
        also of_term (omega arith)
        also of_term (omega arith)
        also of_term (omega arith)
        also of_term (omega arith)
        also of_term (omega arith)
        also of_term (omega arith)
        also of_term (omega arith)
        also of_term (omega arith)
        also of_term (omega arith)
        also of_term (omega arith)
        also of_term (omega arith)
        also of_term (omega arith)
        also Prim.tt

-- ---- the three fields of a cell

pub cell_moves : {t : Cell} {x y e : ℕ} → e ≤ 8192 → y < 8192 → OfRun t x e → (t.a < 65536) × (t.b < 65536) × (t.c < 65536) → CellMoves x y t
cell_moves {t} {x} {y} {e} h l p f =
    record {
      row = p.row;
      known = p.known;
      first = field_moves p.row.a x y e t.a h l p.first f.0;
      second = field_moves p.row.b x y e t.b h l p.second f.1;
      third = field_moves p.row.c x y e t.c h l p.third f.2;
    }

pub rebased : {t u : Cell} {x y e : ℕ} → OfRun t x e → ((r : Row) → row_of t.kind ≡ some r → u ≡ moved_cell x y r t) → Rebased t x y u
rebased {t} {u} {x} {y} p m =
    record {
      follows = record {
        kind = ap (λ (z : Cell). z.kind) (m p.row p.known);
        label = ap (λ (z : Cell). z.label) (m p.row p.known);
        first = λ r k. stands r.a (ap (λ (z : Cell). z.a) (m r k));
        second = λ r k. stands r.b (ap (λ (z : Cell). z.b) (m r k));
        third = λ r k. stands r.c (ap (λ (z : Cell). z.c) (m r k));
      };
      marks = λ l.
          let v = of_type t.kind p.row p.known in
          ap (λ (z : Cell). z.c) (m p.row p.known) ∙ none (v.1.third (rw v.0 at l));
    }
  where
    none : {w : Use} → w ≡ unused → moved_field x y w t.c ≡ t.c
    none h = rw h
