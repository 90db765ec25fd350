-- A run that is placed is a marked run of the same tree: the parts of a cell are placed as the cell is, and the cell stands behind them. Over kind
-- and field. Assumes nothing.
use Prim.Native.Nat.{ℕ, suc, ◌+◌, ◌-◌, ◌≤◌}
use native.Mathlib.Omega.{arith}
use mathlib.Core.Path.{◌≡◌, ap, ◌∙◌}
use mathlib.Core.Bool.{true, false}
use mathlib.Core.List.{List}
use mathlib.Core.Option.{some}
use Rattle.format.specs.declared.Version.TheVariants.{Two}
use Rattle.format.specs.Table.{Sort, type_sort, term_sort, Use, refers, Row, row_of}
use Rattle.format.specs.Cell.{Cell, cell_at}
use Rattle.format.specs.Tree.{Tree, raw, node}
use Rattle.format.proofs.Encoding.{Good, leaf, cell}
use Rattle.cells.specs.Held.{MarkIs, Fields}
use Rattle.cells.proofs.Held.{in_range}
use Rattle.loading.proofs.Marking.{Names, marked}
use Rattle.emission.specs.Runs.{Run, r_unused, r_plain, r_refers}
use Rattle.emission.proofs.Runs.{grows, Parts, parts, held}
use Rattle.cells.specs.Moves.{moved_field}
use Rattle.moving.specs.Moves.{PlacedCell, Placed, Places}
use Rattle.moving.proofs.Runs.{renumber, named}

module _ {s w : List ℕ} {v t u : ℕ} (o : Placed s w v t u) where
  -- a run from x on before e, among the cells that are placed
  record Among (x e : ℕ) : Type 0 where
    low : v ≤ x
    high : e ≤ u

  module _ {x i e k m : ℕ} {f g h : Tree} {r : Row} (a : Among x e) (p : Parts false s x i e k m f g h r) where
    -- so its parts are among them
    first : Among x p.y
    first = record { low = a.low; high = omega (arith, a.high, p.last, grows p.second, grows p.third) }

    second : Among p.y p.z
    second = record { low = omega (arith, a.low, grows p.first); high = omega (arith, a.high, p.last, grows p.third) }

    third : Among p.z i
    third = record { low = omega (arith, a.low, grows p.first, grows p.second); high = omega (arith, a.high, p.last) }

    -- and its last cell
    over : v ≤ i
    over = omega (arith, third.low, grows p.third)

    placed_cell : PlacedCell s w v t i (i - v + t)
    placed_cell = o.cell i over (omega (arith, a.high, p.last))

    abbrev at : Cell
    at = cell_at w (i - v + t)

    same_kind : at.kind ≡ k
    same_kind = placed_cell.follows.kind ∙ ap (λ (j : Cell). j.kind) p.cell.is

    same_label : at.label ≡ p.l
    same_label = placed_cell.follows.label ∙ ap (λ (j : Cell). j.label) p.cell.is

    -- a type has its mark
    mark_is : (q : Sort) → Names w (i - v + t) q at (node k m f g h) → MarkIs q at.c (node k m f g h)
    mark_is type_sort n =
        let low = (in_range at.kind n.row n.found n.sort).1 in
        (rw p.cell.is at placed_cell.marks) (omega (arith, low, same_kind)) ∙ marked k n same_kind
    mark_is term_sort n = tt

    -- the cell behind its parts, which have been placed
    again : {q : Sort} → row_of k ≡ some r → r.sort ≡ q
        → Run true w (x - v + t) r.a (moved_field v t r.a p.a) f (p.y - v + t)
        → Run true w (p.y - v + t) r.b (moved_field v t r.b p.b) g (p.z - v + t)
        → Run true w (p.z - v + t) r.c (moved_field v t r.c p.c) h (i - v + t)
        → Run true w (x - v + t) (refers q) (i - v + t) (node k m f g h) (e - v + t)
    again {q} n so b c d =
        let z = placed_cell.follows in
        let first = renumber ((rw p.cell.is at z.first) r n) b in
        let second = renumber ((rw p.cell.is at z.second) r n) c in
        let third = renumber ((rw p.cell.is at z.third) r n) d in
        let last : e - v + t ≡ suc (i - v + t) = omega (arith, over, p.last) in
        let fields : Fields true w (i - v + t) at.kind r at (node k m f g h)
        = record {
          a = f;
          b = g;
          c = h;
          is = rw (same_kind, same_label, p.label);
          held_a = held (omega (arith, grows p.second, grows p.third)) first;
          held_b = held (omega (arith, grows p.third)) second;
          held_c = held (omega arith) third;
        } in
        let y = mark_is q (record { row = r; found = ap row_of same_kind ∙ n; sort = so; fields = fields }) in
        r_refers (named placed_cell.within same_kind same_label) n p.label first second third last (so, y)

  plainly : {x n e m : ℕ} {y : Use} → Run false s x y n (raw m) e → Run true w (x - v + t) y (moved_field v t y n) (raw m) (e - v + t)
  plainly r_unused = r_unused
  plainly r_plain = r_plain

  placed : {x n e : ℕ} {y : Use} {g : Tree} → Good Two y g → Among x e → Run false s x y n g e → Run true w (x - v + t) y (moved_field v t y n) g (e - v + t)
  placed (leaf h) a z = plainly z
  placed {x = x} {n = m} {e = e} (cell n so k l f g h) a z =
      let p = parts z n in
      again a p n so
      (placed {x = x} {n = p.a} {e = p.y} f (first a p) p.first)
      (placed {x = p.y} {n = p.b} {e = p.z} g (second a p) p.second)
      (placed {x = p.z} {n = p.c} {e = m} h (third a p) p.third)

-- a whole run that `place` has brought
module _ {s w z : List ℕ} {x y n : ℕ} (o : Places s w z x y n) where
  start : x - x + y ≡ y
  start = omega arith

  end : x + n - x + y ≡ y + n
  end = omega arith

  all : Among o.placed x (x + n)
  all = record { low = omega arith; high = omega arith }

  pub run_placed : {i : ℕ} {q : Sort} {t : Tree} → Good Two (refers q) t → Run false s x (refers q) i t (x + n) → Run true z y (refers q) (i - x + y) t (y + n)
  run_placed g r = rw (start, end) at (placed o.placed g all r)
