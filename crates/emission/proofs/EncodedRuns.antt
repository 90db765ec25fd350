-- A good tree that is encoded is a run: what emission leaves. Over kind and field. Assumes nothing.
use Prim.Native.Nat.{ℕ, suc, ◌+◌, ◌*◌, ◌≤◌}
use native.Mathlib.Nat.{add-zero}
use native.Mathlib.Omega.{arith}
use mathlib.Core.Path.{◌≡◌, refl, ap, ◌∙◌}
use mathlib.Core.Bool.{false}
use mathlib.Core.List.{List, ◌++◌}
use lib.ListN.{length, length-append}
use Rattle.format.specs.declared.Version.TheVariants.{Two}
use Rattle.format.specs.Table.{Use}
use Rattle.format.specs.Cell.{Cell, cell_bytes}
use Rattle.format.specs.Tree.{Tree, raw, cells, refer, encode}
use Rattle.format.proofs.Encoding.{Number, blank, number, Good, leaf, cell, Part, part_left, part_right, cell_back, length_encode}
use Rattle.cells.specs.Held.{IsCell, label_by_lem}
use Rattle.emission.specs.Runs.{Run, r_unused, r_plain, r_refers}

part_within : {s : List ℕ} {m : ℕ} {x : List ℕ} → Part s m x → 8 * m + length x ≤ length s
part_within {s} {m} {x} p =
    let e : length s ≡ length p.before + (length x + length p.after) = ap length p.split ∙ simp length-append refl in
    omega (arith, e, p.starts)

label_number : {n l : ℕ} {u : Use} → Number n u l → l ≡ label_by_lem u l
label_number blank = refl
label_number (number h) = refl

leaf_run : {s : List ℕ} {m x : ℕ} {u : Use} → Number 65536 u x → Run false s m u x (raw x) m
leaf_run blank = r_unused
leaf_run (number h) = r_plain

within : {s : List ℕ} {m : ℕ} (t : Cell) → Part s m (cell_bytes t) → 8 * m + 8 ≤ length s
unfolding cell_bytes
within t p = part_within p

pub encoded_run : {s : List ℕ} {u : Use} {t : Tree} (m : ℕ) → Good Two u t → Part s m (encode m t) → Run false s m u (refer m t) t (m + cells t)
unfolding encode cells refer
encoded_run m (leaf n) p = rw add-zero (leaf_run n)
encoded_run {s} m (cell {k = k} {l = l} {a = a} {b = b} {c = c} {r = r} e f h n ga gb gc) p =
    let xa = encode m a in
    let xb = encode (m + cells a) b in
    let xc = encode (m + cells a + cells b) c in
    let t : Cell = record { kind = k; label = l; a = refer m a; b = refer (m + cells a) b; c = refer (m + cells a + cells b) c } in
    let xd = cell_bytes t in
    let qb = part_right (cells a) xa (xb ++ (xc ++ xd)) (length_encode m a) p in
    let qc = part_right (cells b) xb (xc ++ xd) (length_encode (m + cells a) b) qb in
    let qd = part_right (cells c) xc xd (length_encode (m + cells a + cells b) c) qc in
    let root : m + (cells a + cells b + cells c) ≡ m + cells a + cells b + cells c = omega arith in
    let last : m + (1 + (cells a + cells b + cells c)) ≡ suc (m + cells a + cells b + cells c) = omega arith in
    let there : IsCell s (m + cells a + cells b + cells c) k l (refer m a) (refer (m + cells a) b) (refer (m + cells a + cells b) c)
    = record { within = within t qd; is = cell_back t qd } in
    rw root
    (r_refers
    there
    e
    (label_number n)
    (encoded_run m ga (part_left xa (xb ++ (xc ++ xd)) p))
    (encoded_run (m + cells a) gb (part_left xb (xc ++ xd) qb))
    (encoded_run (m + cells a + cells b) gc (part_left xc xd qc))
    last
    Prim.tt)
