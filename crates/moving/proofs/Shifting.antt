-- A run that moves down within a buffer, cell by cell. Assumes nothing.
use Prim.Native.Nat.{ℕ, ◌+◌, ◌*◌, ◌-◌, ◌≤◌, ◌<◌}
use native.Mathlib.Decide.{dec_lt}
use native.Mathlib.Omega.{arith}
use mathlib.Core.Path.{◌≡◌, refl, ◌∙◌}
use mathlib.Core.List.{List}
use mathlib.Core.Option.{some}
use lib.ListN.{length}
use lib.Seq.{sets}
use Rattle.format.specs.Cell.{IsBytes, Cell, cell_at, cell_bytes}
use Rattle.format.proofs.Tests.{cell_fits}
use Rattle.cells.proofs.Held.{written}
use Rattle.format.specs.Table.{Row, row_of}
use Rattle.cells.specs.Moves.{moved_cell, CellMoves}
use Rattle.moving.specs.Moves.{Rebased, MovedCell, ShiftReady, Shifts, ShiftCellReady, ShiftsCell}
use Rattle.moving.proofs.Rebasing.{cell_moves, rebased}
use Rattle.moving.proofs.Writing.{wrote}

pub cell_ready : {w : List ℕ} {x y i : ℕ} {t : Cell} → IsBytes w → ShiftCellReady w x y i → t ≡ cell_at w (x + i) → CellMoves x y t
cell_ready {w} {x} {y} {i} b p e =
    let f = cell_fits w b (x + i) in
    rw e (cell_moves (omega (arith, p.inside)) (omega (arith, p.inside, p.down)) p.cell (f.1, f.2, f.3))

pub shifts_cell : {w v : List ℕ} {x y i : ℕ} {t n : Cell} → ShiftCellReady w x y i → t ≡ cell_at w (x + i)
    → ((r : Row) → row_of t.kind ≡ some r → n ≡ moved_cell x y r t) → v ≡ sets w (8 * (y + i)) (cell_bytes n) → ShiftsCell w v x y i
shifts_cell {w} {v} {x} {y} {i} {t} {n} p e m d =
    let r : Rebased t x y n = rebased {e = x + i} (rw e p.cell) m in
    let h : 8 * (y + i) + 8 ≤ length w = omega (arith, p.long, p.inside, p.down) in
    let z = written n h d in
    record { wrote = wrote n h d; moved = record { within = z.there.within; is = rw z.there.is (rw e at r) } }

-- The first i cells of the run have moved; what is behind them, and below y, is as it was.
pub record Shifting (w v : List ℕ) (x y i : ℕ) : Type 0 where
  pub long : length v ≡ length w
  pub done : (j : ℕ) → x ≤ j → j < x + i → MovedCell w v x y j (j - x + y)
  pub rest : (j : ℕ) → x + i ≤ j → cell_at v j ≡ cell_at w j
  pub below : (j : ℕ) → j < y → cell_at v j ≡ cell_at w j

pub shifting_none : (w : List ℕ) (x y : ℕ) → Shifting w w x y 0
shifting_none w x y = record { long = refl; done = λ j a b. absurd (omega (arith, a, b)); rest = λ j a. refl; below = λ j a. refl }

pub shifting_ready : {w v : List ℕ} {x y n i : ℕ} → ShiftReady w x y n → i < n → Shifting w v x y i → ShiftCellReady v x y i
shifting_ready {w} {v} {x} {y} {n} {i} p l s =
    record {
      long = s.long ∙ p.long;
      inside = omega (arith, p.inside, l);
      down = p.down;
      cell = rw (s.rest (x + i) (omega arith)) (p.cells (x + i) (omega arith) (omega (arith, l)));
    }

pub shifting_more : {w v z : List ℕ} {x y n i : ℕ} → ShiftReady w x y n → Shifting w v x y i → ShiftsCell v z x y i → Shifting w z x y (i + 1)
shifting_more {w} {v} {z} {x} {y} {n} {i} p s d =
    record {
      long = d.wrote.long ∙ s.long;
      done = λ j a b. elim (dec_lt j (x + i)) [ yes h ↦ old j a h | no h ↦ new j a b h ];
      rest = λ j a. d.wrote.others j (λ e. absurd (omega (arith, a, e, p.down))) ∙ s.rest j (omega (arith, a));
      below = λ j a. d.wrote.others j (λ e. absurd (omega (arith, a, e))) ∙ s.below j a;
    }
  where
    old : (j : ℕ) → x ≤ j → j < x + i → MovedCell w z x y j (j - x + y)
    old j a h =
        let m = s.done j a h in
        let same = d.wrote.others (j - x + y) (λ e. absurd (omega (arith, a, h, e))) in
        record { within = rw d.wrote.long m.within; is = rw same m.is }

    new : (j : ℕ) → x ≤ j → j < x + (i + 1) → (j < x + i → ⊥) → MovedCell w z x y j (j - x + y)
    new j a b h =
        let e : j ≡ x + i = omega (arith, b, h) in
        let f : x + i - x + y ≡ y + i = omega arith in
        let m = d.moved in
        rw (e, f) (record { within = m.within; is = rw (s.rest (x + i) (omega arith)) at m.is })

pub shifting_all : {w v : List ℕ} {x y n : ℕ} → Shifting w v x y n → Shifts w v x y n
shifting_all s = record { moved = record { cell = s.done }; kept = record { long = s.long; below = s.below; above = s.rest } }
