-- What waits around a focus: it is not touched by what is written in the gap; its cells are counted; and made whole again, cell by cell, it
-- holds the term with whatever stands for the focus. Over kind and field. Assumes nothing.
use Prim.Native.Nat.{ℕ, suc, ◌+◌, ◌≤◌, ◌<◌}
use native.Mathlib.Omega.{arith}
use mathlib.Core.Bool.{true, false}
use mathlib.Core.Path.{◌≡◌, sym}
use mathlib.Core.List.{List, [], ◌∷◌}
use mathlib.Core.Option.{some}
use lib.ListN.{length}
use Rattle.format.specs.Table.{Sort, term_sort, Use, unused, refers, Row, row_of}
use Rattle.format.specs.Cell.{cell_at}
use Rattle.format.specs.Tree.{Tree, raw, node, cells}
use Rattle.cells.specs.Held.{IsCell, label_by_lem, HeldField, f_unused, f_refers}
use Rattle.cells.proofs.Held.{below, lower, kept_cell, kept_field}
use Rattle.emission.specs.Runs.{Run}
use Rattle.emission.proofs.Runs.{grows, counts, bare, kept_run}
use Rattle.moving.specs.Moves.{Kept}
use Rattle.running.specs.Waiting.{Frame, first, second, plug, fill, Waits, w_none, w_first, w_second, around}

pub held_less : {s : List ℕ} {n m x : ℕ} {o : Sort} {f : Tree} → n ≤ m → HeldField false s n (refers o) x f → HeldField false s m (refers o) x f
held_less l h = below h (omega (arith, lower h, l))

pub waits_right : {w : List ℕ} {j p q : ℕ} {K : List Frame} → Waits w j p q K → q ≤ 8192
waits_right w_none = omega arith
waits_right (w_first c r m a n g h l k) = omega (arith, grows g, grows h, waits_right k)
waits_right (w_second c r m a b d o f l k) = omega (arith, waits_right k)

pub kept_waits : {w v : List ℕ} {j p q : ℕ} {K : List Frame} → Kept w v p q → Waits w j p q K → Waits v j p q K
kept_waits s w_none = w_none
kept_waits {p = p} {q} s (w_first {j = j} c r m a n g h l k) =
    w_first
    (kept_cell s.long (s.above j (omega (arith, grows g, grows h))) c)
    r
    m
    a
    n
    (kept_run s.long (λ i x y. s.above i x) g)
    (kept_run s.long (λ i x y. s.above i (omega (arith, x, grows g))) h)
    l
    (kept_waits (record { long = s.long; below = s.below; above = λ i x. s.above i (omega (arith, x, grows g, grows h)) }) k)
kept_waits {p = p} {q} s (w_second {j = j} c r m a b d o f l k) =
    w_second
    (kept_cell s.long (s.above j (omega arith)) c)
    r
    m
    a
    b
    d
    o
    (kept_run s.long (λ i x y. s.below i y) f)
    l
    (kept_waits
    (record { long = s.long; below = λ i x. s.below i (omega (arith, x, grows f)); above = λ i x. s.above i (omega (arith, x)) })
    k)

-- counting
pub filled : (K : List Frame) (t : Tree) → cells (fill K t) ≡ around K + cells t
unfolding cells fill plug around
filled [] t = omega arith
filled (first k l g h ∷ K) t = omega (arith, filled K (node k l t g h))
filled (second k l f ∷ K) t = omega (arith, filled K (node k l f t (raw 0)))

pub waiting : {w : List ℕ} {j p q : ℕ} {K : List Frame} → Waits w j p q K → around K + q ≡ p + 8192
unfolding around
waiting w_none = omega arith
waiting (w_first c r m a n g h l k) = omega (arith, counts g, counts h, waiting k)
waiting (w_second c r m a b d o f l k) = omega (arith, counts f, waiting k)

-- The cell j that waited is whole again, with the focus at x; the cells beside it are as they were.
pub record Restored (w v : List ℕ) (j x : ℕ) (F : Frame) : Type 0 where
  pub long : length v ≡ length w
  pub others : (i : ℕ) → (i ≡ j → ⊥) → cell_at v i ≡ cell_at w i
  pub whole : (t : Tree) → HeldField false v j (refers term_sort) x t → HeldField false v (suc j) (refers term_sort) j (plug F t)

pub restore_first : {w v : List ℕ} {j q z k l m u b c x : ℕ} {r : Row} {g h : Tree} → IsCell w j k l u b c → row_of k ≡ some r → m ≡ label_by_lem r.label l
    → r.a ≡ refers term_sort → Run true w q r.b b g z → Run true w z r.c c h j → length v ≡ length w → ((i : ℕ) → (i ≡ j → ⊥) → cell_at v i ≡ cell_at w i)
    → IsCell v j k l x b c → Restored w v j x (first k m g h)
unfolding plug
restore_first {j = j} p r m a g h n o c =
    record {
      long = n;
      others = o;
      whole = λ t f.
          let low : j < suc j = omega arith in
          f_refers
          low
          c
          r
          m
          tt
          (rw (sym a) at f)
          (kept_field n (λ i y. o i (λ e. absurd (omega (arith, y, e)))) (bare (grows h) g))
          (kept_field n (λ i y. o i (λ e. absurd (omega (arith, y, e)))) (bare (omega arith) h));
    }

-- the rest of what waits still waits
pub restore_rest : {w v : List ℕ} {j x p u : ℕ} {F : Frame} {K : List Frame} → Restored w v j x F → p ≤ j → Waits w u p (suc j) K → Waits v u p (suc j) K
restore_rest {j = j} d l k =
    kept_waits
    (record { long = d.long; below = λ i y. d.others i (λ e. absurd (omega (arith, y, e, l))); above = λ i y. d.others i (λ e. absurd (omega (arith, y, e))) })
    k

none : {v : List ℕ} {n x : ℕ} {u : Use} → u ≡ unused → HeldField false v n u x (raw 0)
none e = rw e f_unused

pub restore_second : {w v : List ℕ} {j p o k l m a u c x y : ℕ} {r : Row} {f : Tree} → IsCell w j k l a u c → row_of k ≡ some r → m ≡ label_by_lem r.label l
    → r.a ≡ refers term_sort → r.b ≡ refers term_sort → r.c ≡ unused → Run true w o (refers term_sort) a f p → p ≤ j → length v ≡ length w
    → ((i : ℕ) → (i ≡ j → ⊥) → cell_at v i ≡ cell_at w i) → IsCell v j k l a x y → Restored w v j x (second k m f)
unfolding plug
restore_second {j = j} q r m a b d f l n o c =
    record {
      long = n;
      others = o;
      whole = λ t g.
          let low : j < suc j = omega arith in
          f_refers
          low
          c
          r
          m
          tt
          (rw (sym a) at (kept_field n (λ i y. o i (λ e. absurd (omega (arith, y, e)))) (bare l f)))
          (rw (sym b) at g)
          (none d);
    }
