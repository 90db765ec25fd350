-- A run that comes from one buffer to another, cell by cell, types marked. Assumes nothing.
use Prim.Native.Nat.{ℕ, ◌+◌, ◌*◌, ◌-◌, ◌≤◌, ◌<◌}
use native.Mathlib.Decide.{dec_lt}
use native.Mathlib.Omega.{arith}
use mathlib.Core.Path.{◌≡◌, refl, sym, ◌∙◌}
use mathlib.Core.Option.{some}
use mathlib.Core.List.{List}
use lib.ListN.{length}
use lib.Seq.{sets}
use Rattle.format.specs.Cell.{IsBytes, Cell, cell_at, cell_bytes}
use Rattle.format.proofs.Tests.{cell_fits}
use Rattle.format.specs.Table.{Row, row_of}
use Rattle.cells.proofs.Held.{written}
use Rattle.loading.specs.Marks.{mark_by, MarkedReady, marked_by}
use Rattle.loading.proofs.Marking.{kept_mark, NewThird, of_type, of_term, third}
use Rattle.cells.specs.Moves.{moved_field, moved_cell, CellMoves}
use Rattle.moving.specs.Moves.{FieldIs, Follows, Rebased, PlacedCell, Wrote, OfRun, PlaceReady, Places, PlaceCellReady, PlacesCell}
use Rattle.moving.proofs.Rebasing.{cell_moves, rebased, of_type as row_type, lower}
use Rattle.moving.proofs.Writing.{wrote}

-- where the mark of a cell is read from: below it
module _ {t u : Cell} {x y e : ℕ} (p : OfRun t x e) (r : Follows t x y u) where
  first_lower : 4 ≤ t.kind → t.kind ≤ 5 → u.a < e - x + y
  first_lower a b =
      let v = row_type t.kind p.row p.known in
      lower p.row.a x y e t.a u.a (v.1.first (rw v.0 at a) (rw v.0 at b)) p.first (r.first p.row p.known)

  second_lower : 3 ≤ t.kind → t.kind ≤ 4 → u.b < e - x + y
  second_lower a b =
      let v = row_type t.kind p.row p.known in
      lower p.row.b x y e t.b u.b (v.1.second (rw v.0 at a) (rw v.0 at b)) p.second (r.second p.row p.known)

  -- so that writing anything from there on keeps it
  still : (s v : List ℕ) → ((j : ℕ) → j < e - x + y → cell_at v j ≡ cell_at s j) → mark_by v u t.kind ≡ mark_by s u t.kind
  still s v k = kept_mark s v u t.kind (λ a b. k u.a (first_lower a b)) (λ a b. k u.b (second_lower a b))

-- ---- one cell

module _ {s w : List ℕ} {x y i : ℕ} {t : Cell} (p : PlaceCellReady s w x y i) (e : t ≡ cell_at s (x + i)) where
  of : OfRun t x (x + i)
  of = rw e p.cell

  pub cell_ready : IsBytes s → CellMoves x y t
  cell_ready b = let f = cell_fits s b (x + i) in cell_moves (omega (arith, p.low_from)) (omega (arith, p.inside)) of (rw e (f.1, f.2, f.3))

  module _ {u : Cell} (m : (r : Row) → row_of t.kind ≡ some r → u ≡ moved_cell x y r t) where
    r : Rebased t x y u
    r = rebased of m

    pub mark_ready : MarkedReady w u
    mark_ready =
        record {
          ready = λ _. record {
            first = λ a b. omega (arith, p.inside, p.long, first_lower of r.follows (rw r.follows.kind at a) (rw r.follows.kind at b));
            second = λ a b. omega (arith, p.inside, p.long, second_lower of r.follows (rw r.follows.kind at a) (rw r.follows.kind at b));
          };
        }

    -- the cell with its new field c
    follows : {c : ℕ} → NewThird w u c → Follows t x y (record { kind = u.kind; label = u.label; a = u.a; b = u.b; c = c })
    follows {c} n = record { kind = f.kind; label = f.label; first = f.first; second = f.second; third = third n }
      where
        f : Follows t x y u
        f = r.follows

        third : NewThird w u c → (o : Row) → row_of t.kind ≡ some o → FieldIs o.c c (moved_field x y o.c t.c)
        third (of_type l q) o k = let v = row_type t.kind o k in rw (v.1.third (rw (f.kind, v.0) at l)) Prim.tt
        third (of_term l q) o k = rw q (f.third o k)

    marks : {v : List ℕ} {c : ℕ} → NewThird w u c → Wrote w v (y + i) → t.kind < 16 → c ≡ mark_by v u t.kind
    marks {v} (of_term l q) o h = absurd (omega (arith, l, h, r.follows.kind))
    marks {v} (of_type l q) o h =
        (rw r.follows.kind at q) ∙ sym (still of r.follows w v (λ j k. o.others j (λ z. absurd (omega (arith, k, z)))))

    places_by : {v : List ℕ} {c : ℕ} → NewThird w u c
        → v ≡ sets w (8 * (y + i)) (cell_bytes (record { kind = u.kind; label = u.label; a = u.a; b = u.b; c = c })) → PlacesCell s w v x y i
    places_by n d =
        let h : 8 * (y + i) + 8 ≤ length w = omega (arith, p.long, p.inside) in
        let z = written _ h d in
        let o = wrote _ h d in
        record {
          wrote = o;
          placed = record {
            within = z.there.within;
            follows = rw (z.there.is, ← e) (follows n);
            marks = rw (z.there.is, ← e) (marks n o);
          };
        }

    pub places_cell : {v : List ℕ} → v ≡ sets w (8 * (y + i)) (cell_bytes (marked_by w u)) → PlacesCell s w v x y i
    places_cell d = places_by (third w u) d

-- ---- the run

-- The first i cells of the run have come; the other cells are as they were.
pub record Placing (s w v : List ℕ) (x y i : ℕ) : Type 0 where
  pub long : length v ≡ length w
  pub done : (j : ℕ) → x ≤ j → j < x + i → PlacedCell s v x y j (j - x + y)
  pub below : (j : ℕ) → j < y → cell_at v j ≡ cell_at w j
  pub above : (j : ℕ) → y + i ≤ j → cell_at v j ≡ cell_at w j

pub placing_none : (s w : List ℕ) (x y : ℕ) → Placing s w w x y 0
placing_none s w x y = record { long = refl; done = λ j a b. absurd (omega (arith, a, b)); below = λ j a. refl; above = λ j a. refl }

pub placing_ready : {s w v : List ℕ} {x y n i : ℕ} → PlaceReady s w x y n → i < n → Placing s w v x y i → PlaceCellReady s v x y i
placing_ready {x = x} {y} {n} {i} p l q =
    record {
      low_from = omega (arith, p.low_from, l);
      long = q.long ∙ p.long;
      inside_from = omega (arith, p.inside_from, l);
      inside = omega (arith, p.inside, l);
      cell = p.cells (x + i) (omega arith) (omega (arith, l));
    }

pub placing_more : {s w v z : List ℕ} {x y n i : ℕ} → PlaceReady s w x y n → i < n → Placing s w v x y i → PlacesCell s v z x y i → Placing s w z x y (i + 1)
placing_more {s} {w} {v} {z} {x} {y} {n} {i} p l q d =
    record {
      long = d.wrote.long ∙ q.long;
      done = λ j a b. elim (dec_lt j (x + i)) [ yes h ↦ old j a h | no h ↦ new j b h ];
      below = λ j a. d.wrote.others j (λ e. absurd (omega (arith, a, e))) ∙ q.below j a;
      above = λ j a. d.wrote.others j (λ e. absurd (omega (arith, a, e))) ∙ q.above j (omega (arith, a));
    }
  where
    old : (j : ℕ) → x ≤ j → j < x + i → PlacedCell s z x y j (j - x + y)
    old j a h =
        let m = q.done j a h in
        let keep : (k : ℕ) → k ≤ j - x + y → cell_at z k ≡ cell_at v k = λ k b. d.wrote.others k (λ e. absurd (omega (arith, a, b, h, e))) in
        record {
          within = rw d.wrote.long m.within;
          follows = rw (keep (j - x + y) (omega arith)) m.follows;
          marks = rw (keep (j - x + y) (omega arith))
              (λ g. m.marks g ∙ sym (still (p.cells j a (omega (arith, h, l))) m.follows v z (λ k b. keep k (omega (arith, b)))));
        }

    new : (j : ℕ) → j < x + (i + 1) → (j < x + i → ⊥) → PlacedCell s z x y j (j - x + y)
    new j b h =
        let e : j ≡ x + i = omega (arith, b, h) in
        let f : x + i - x + y ≡ y + i = omega arith in
        rw (e, f) d.placed

pub placing_all : {s w v : List ℕ} {x y n : ℕ} → Placing s w v x y n → Places s w v x y n
placing_all q = record { placed = record { cell = q.done }; kept = record { long = q.long; below = q.below; above = q.above } }
