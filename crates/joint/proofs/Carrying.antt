-- The cells of a book, each in the joint's version and raised, one after the other. Assumes nothing.
use Prim.Native.Nat.{ℕ, zero, suc, ◌+◌, ◌*◌, ◌<◌}
use native.Mathlib.Nat.{add-zero, zero-add}
use native.Mathlib.Numerals.{add-one}
use native.Mathlib.Omega.{arith}
use mathlib.Core.Path.{◌≡◌, refl, sym, ap, ◌∙◌}
use mathlib.Core.List.{List, ◌++◌, append-nil, append_assoc}
use lib.ListN.{length}
use lib.Seq.{sets, length-sets}
use Rattle.format.specs.declared.Version.{Version}
use Rattle.format.specs.declared.Version.TheVariants.{One, Two}
use Rattle.format.specs.Table.{Use, unused, plain, refers, table, row_in, row_for}
use Rattle.format.specs.Cell.{IsBytes, Cell, cell_at, cell_bytes}
use Rattle.format.specs.Widths.{mapped_cells}
use Rattle.format.specs.Joint.{raised}
use Rattle.format.proofs.Tests.{FieldOk, cell_fault_says, cell_fits}
use Rattle.format.proofs.Restamping.{number_row, wide, by_kind, sign_fits, length_mapped}
use Rattle.cells.specs.Moves.{FieldMoves, CellMoves}
use Rattle.emission.proofs.Compose.{behind}
use Rattle.joint.specs.Writing.{cell_in, carried, CarryCellReady, CarriesCell, CarryReady, Carries}

-- ---- one cell

field_fits : (s : List ℕ) (i k : ℕ) → k + i < 8192 → (u : Use) (x : ℕ) → x < 65536 → FieldOk s i u x → FieldMoves 0 k u x
field_fits s i k l unused x h f = h
field_fits s i k l plain x h f = h
field_fits s i k l (refers o) x h f = (omega arith, omega (arith, f.0))

module _ {s d : List ℕ} {i k : ℕ} (bytes : IsBytes s) (p : CarryCellReady s d i k) where
  own_ready : CellMoves 0 k (cell_at s i)
  own_ready =
      let c = (cell_fault_says Two s i).0 p.sound in
      let f = cell_fits s bytes i in
      record {
        row = c.row;
        known = c.found;
        first = field_fits s i k p.low c.row.a (cell_at s i).a f.1 c.fields.a;
        second = field_fits s i k p.low c.row.b (cell_at s i).b f.2 c.fields.b;
        third = field_fits s i k p.low c.row.c (cell_at s i).c f.3 c.fields.c;
      }

  number_ready : (cell_at s i).kind ≡ 17 → CellMoves 0 k (wide (cell_at s i))
  unfolding row_for row_in table
  number_ready e =
      let f = cell_fits s bytes i in
      record { row = number_row; known = rw e refl; first = f.2; second = f.3; third = sign_fits (cell_at s i).c }

  in_version_ready : (u v : Version) → CellMoves 0 k (cell_in u v (cell_at s i))
  in_version_ready One v = own_ready
  in_version_ready Two One = by_kind (λ (t : Cell). CellMoves 0 k t) (cell_at s i) number_ready (λ e. own_ready)
  in_version_ready Two Two = own_ready

  pub carry_ready : {t : Cell} (u v : Version) → t ≡ cell_in u v (cell_at s i) → CellMoves 0 k t
  carry_ready u v e = rw e (in_version_ready u v)

pub carries_cell : {s d e : List ℕ} {i k : ℕ} {v u : Version} {x t y : Cell} → x ≡ cell_at s i → t ≡ cell_in u v x → y ≡ raised k t →
    e ≡ sets d (8 * (k + i)) (cell_bytes y) → CarriesCell s d e i k v u
carries_cell {d = d} {i = i} {k} {v} {u} a b c q =
    record { is = q ∙ ap (λ (z : Cell). sets d (8 * (k + i)) (cell_bytes z)) (c ∙ ap (raised k) (b ∙ ap (cell_in u v) a)) }

-- ---- n cells

mapped_last : (f : Cell → Cell) (s : List ℕ) (n i : ℕ) → mapped_cells f s (suc n) i ≡ mapped_cells f s n i ++ cell_bytes (f (cell_at s (i + n)))
unfolding mapped_cells
mapped_last f s zero i = rw add-zero (append-nil (cell_bytes (f (cell_at s i))))
mapped_last f s (suc n) i =
    let e : suc i + n ≡ i + suc n = omega arith in
    ap (λ (x : List ℕ). cell_bytes (f (cell_at s i)) ++ x) (rw e at (mapped_last f s n (suc i)))
    ∙ sym (append_assoc (cell_bytes (f (cell_at s i))) (mapped_cells f s n (suc i)) (cell_bytes (f (cell_at s (i + suc n)))))

pub carries_none : (s d : List ℕ) (k : ℕ) (v u : Version) → Carries s d d 0 k v u
unfolding mapped_cells
carries_none s d k v u = record { is = refl }

module _ {s d c : List ℕ} {i k : ℕ} {v u : Version} (q : Carries s d c i k v u) where
  pub carries_long : length c ≡ length d
  carries_long = ap length q.is ∙ length-sets d (8 * k) (mapped_cells (carried u v k) s i 0)

  pub cell_ready : {n : ℕ} → CarryReady s d n k → i < n → CarryCellReady s c i k
  cell_ready p l =
      record { within = omega (arith, p.within); room = omega (arith, p.room, carries_long); low = omega (arith, p.low); sound = p.sound i l }

  pub carries_more : {e : List ℕ} → CarriesCell s c e i k v u → Carries s d e (i + 1) k v u
  carries_more {e} r =
      let f = carried u v k in
      let n : length (mapped_cells f s i 0) ≡ 8 * i = length_mapped f s i 0 in
      record {
        is =
            r.is
            ∙ behind (mapped_cells f s i 0) (cell_bytes (f (cell_at s i))) d (8 * k) q.is (omega (arith, n))
            ∙ rw add-one (ap (sets d (8 * k)) (sym_last f));
      }
    where
      sym_last : (f : Cell → Cell) → mapped_cells f s i 0 ++ cell_bytes (f (cell_at s i)) ≡ mapped_cells f s (suc i) 0
      sym_last f = sym (rw zero-add at (mapped_last f s i 0))
