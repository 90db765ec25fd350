-- A run can be moved, and moved it is a run of the same tree. Over kind and field, with no word of any one kind. Assumes nothing.
use Prim.Native.Nat.{ℕ, suc, ◌+◌, ◌*◌, ◌-◌, ◌≤◌, ◌<◌}
use native.Mathlib.Decide.{dec_lt}
use native.Mathlib.Omega.{arith}
use mathlib.Core.Bool.{Bool, true, false}
use mathlib.Core.Path.{◌≡◌, ap, ◌∙◌}
use mathlib.Core.List.{List}
use mathlib.Core.Option.{some}
use lib.ListN.{length}
use Rattle.format.specs.Table.{Sort, type_sort, term_sort, Use, refers, Row, row_of}
use Rattle.format.specs.Cell.{Cell, cell_at}
use Rattle.format.specs.Tree.{Tree}
use Rattle.cells.specs.Held.{IsCell, Marked}
use Rattle.cells.proofs.Held.{in_range}
use Rattle.emission.specs.Runs.{Run, r_unused, r_plain, r_refers}
use Rattle.emission.proofs.Runs.{grows}
use Rattle.cells.specs.Moves.{moved_field}
use Rattle.moving.specs.Moves.{FieldIs, Moved, Between, OfRun, ShiftReady, Shifts, PlaceReady}

-- ---- a run's cells

low : {q : Bool} {s : List ℕ} {x n e v m : ℕ} {u : Use} {t : Tree} → v ≤ x → e ≤ m → Run q s x u n t e → Between u v m n
low a b r_unused = Prim.tt
low a b r_plain = Prim.tt
low a b (r_refers p k m f g h z d) = (omega (arith, a, grows f, grows g, grows h), omega (arith, b, z))

pub of_run : {q : Bool} {s : List ℕ} {x n e v : ℕ} {u : Use} {t : Tree} → v ≤ x → Run q s x u n t e → (i : ℕ) → x ≤ i → i < e
    → OfRun (cell_at s i) v i
of_run a r_unused i j l = absurd (omega (arith, j, l))
of_run a r_plain i j l = absurd (omega (arith, j, l))
of_run {v = v} a (r_refers {y = y} {z = z} {i = w} {k = kd} {l = lb} {a = fa} {b = fb} {c = fc} {r = r} p k m f g h e d) i j l =
    elim (dec_lt i y) [
      | yes o ↦ of_run a f i j o
      | no o ↦
          elim (dec_lt i z) [
            | yes c ↦ of_run (omega (arith, a, grows f)) g i (omega (arith, o)) c
            | no c ↦
                elim (dec_lt i w) [
                  | yes n ↦ of_run (omega (arith, a, grows f, grows g)) h i (omega (arith, c)) n
                  | no n ↦ let same : i ≡ w = omega (arith, n, l, e) in rw (same, p.is) root
                ]
          ]
    ]
  where
    root : OfRun (record { kind = kd; label = lb; a = fa; b = fb; c = fc }) v w
    root =
        record {
          row = r;
          known = k;
          first = low a (omega (arith, grows g, grows h)) f;
          second = low (omega (arith, a, grows f)) (grows h) g;
          third = low (omega (arith, a, grows f, grows g)) (omega arith) h;
        }

pub shift_ready : {w : List ℕ} {q : Bool} {x n i : ℕ} {u : Use} {t : Tree} (y : ℕ) → length w ≡ 65536 → x + n ≤ 8192 → y ≤ x → Run q w x u i t (x + n)
    → ShiftReady w x y n
shift_ready y a b c r = record { long = a; inside = b; down = c; cells = of_run (omega arith) r }

pub place_ready : {s : List ℕ} {q : Bool} {x n i : ℕ} {u : Use} {t : Tree} (w : List ℕ) (y : ℕ) → 8 * (x + n) ≤ length s → length w ≡ 65536 → x + n ≤ 8192 → y + n ≤ 8192
    → Run q s x u i t (x + n)
    → PlaceReady s w x y n
place_ready w y a b c d r = record { inside_from = a; long = b; low_from = c; inside = d; cells = of_run (omega arith) r }

-- ---- a run that has moved

pub renumber : {q : Bool} {s : List ℕ} {x n m e : ℕ} {u : Use} {t : Tree} → FieldIs u m n → Run q s x u n t e → Run q s x u m t e
renumber v r_unused = r_unused
renumber v r_plain = rw v r_plain
renumber v (r_refers p k m f g h z d) = rw v (r_refers p k m f g h z d)

-- a cell of which the kind and the label are known
pub named : {t : List ℕ} {j k l : ℕ} → 8 * j + 8 ≤ length t → (cell_at t j).kind ≡ k → (cell_at t j).label ≡ l
    → IsCell t j k l (cell_at t j).a (cell_at t j).b (cell_at t j).c
named {t} {j} h p q =
    record {
      within = h;
      is = λ i. record { kind = p i; label = q i; a = (cell_at t j).a; b = (cell_at t j).b; c = (cell_at t j).c };
    }

marked_moved : (q : Bool) (o : Sort) {k c d : ℕ} (r : Row) (t : Tree) → row_of k ≡ some r → (k < 16 → d ≡ c) → Marked q o r c t → Marked q o r d t
marked_moved true type_sort {k} r t n e h = (h.0, e (omega (arith, (in_range k r n h.0).1)) ∙ h.1)
marked_moved true term_sort r t n e h = h
marked_moved false o r t n e h = h

pub moved : {q : Bool} {s t : List ℕ} {x y v w n e : ℕ} {u : Use} {f : Tree} → Moved s t v w e → v ≤ x → y ≤ e → Run q s x u n f y
    → Run q t (x - v + w) u (moved_field v w u n) f (y - v + w)
moved o a b r_unused = r_unused
moved o a b r_plain = r_plain
moved {q} {y = y} {v} {w} o a b (r_refers {i = i} {o = u} {r = r} p k m f g h z d) =
    let c = o.cell i (omega (arith, grows f, grows g, grows h)) (omega (arith, z)) in
    let j = c.is.follows in
    let last : y - v + w ≡ suc (i - v + w) = omega (arith, grows f, grows g, grows h, z) in
    r_refers
    (named c.within (j.kind ∙ ap (λ (q : Cell). q.kind) p.is) (j.label ∙ ap (λ (q : Cell). q.label) p.is))
    k
    m
    (renumber ((rw p.is at j.first) _ k) (moved o a (omega (arith, grows g, grows h, z)) f))
    (renumber ((rw p.is at j.second) _ k) (moved o (omega (arith, grows f)) (omega (arith, grows h, z)) g))
    (renumber ((rw p.is at j.third) _ k) (moved o (omega (arith, grows f, grows g)) (omega (arith, z)) h))
    last
    (marked_moved q u r _ k (rw p.is at c.is.marks) d)

-- a run that `shift` has moved
pub run_shifted : {w v : List ℕ} {q : Bool} {x y n i : ℕ} {o : Sort} {t : Tree} → Run q w x (refers o) i t (x + n) → Shifts w v x y n
    → Run q v y (refers o) (i - x + y) t (y + n)
run_shifted {x = x} {y} {n} r s =
    let e : x - x + y ≡ y = omega arith in
    let f : x + n - x + y ≡ y + n = omega arith in
    rw (e, f) at (moved s.moved (omega arith) (omega arith) r)
