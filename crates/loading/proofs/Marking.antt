-- The mark of a type from the marks of its parts. Assumes nothing.
use Prim.Native.Nat.{ℕ, zero, suc, ◌≤◌, ◌<◌}
use native.Mathlib.Decide.{ℕ_discrete}
use native.Mathlib.Omega.{arith}
use mathlib.Core.Path.{◌≡◌, refl, sym, ◌∙◌, subst}
use mathlib.Core.Bool.{Bool, true, false, cond, ◌&&◌}
use mathlib.Core.Option.{some, some-injective}
use mathlib.Core.List.{List}
use lib.Dec.{eqb, ltb, ltb→lt, nltb→le}
use Rattle.calculus.specs.Decide.{is_top_like}
use Rattle.format.specs.Table.{Sort, type_sort, refers, Row, table, row_in, row_for, row_of}
use Rattle.format.specs.Cell.{IsBytes, Cell, cell_at}
use Rattle.format.specs.Tree.{Tree}
use Rattle.format.specs.Terms.{to_type}
use Rattle.format.proofs.Tests.{cell_fits}
use Rattle.cells.specs.Held.{mark, HeldField, Fields}
use Rattle.cells.proofs.Held.{row_at, in_range}
use Rattle.loading.specs.Marks.{mark_by, MarkReady, marked_by}

-- t as cell i: the tree that it names by its row, all its references to cells that are held below i.
pub record Names (s : List ℕ) (i : ℕ) (o : Sort) (t : Cell) (x : Tree) : Type 0 where
  pub row : Row
  pub found : row_of t.kind ≡ some row
  pub sort : row.sort ≡ o
  pub fields : Fields true s i t.kind row t x

-- its fields, by the row of its kind
fields : {s : List ℕ} {i : ℕ} {o : Sort} {t : Cell} {x : Tree} (k : ℕ) (r : Row) → Names s i o t x → t.kind ≡ k → row_of k ≡ some r → Fields true s i k r t x
fields {s} {i} {t = t} {x = x} k r h f e =
    let q : h.row ≡ r = some-injective _ r (sym h.found ∙ rw f e) in
    subst (λ (n : ℕ). Fields true s i n r t x) f (subst (λ (z : Row). Fields true s i t.kind z t x) q h.fields)

-- the mark of a part
part_mark : {s : List ℕ} {i n : ℕ} {t : Tree} → HeldField true s i (refers type_sort) n t → (cell_at s n).c ≡ mark (to_type t)
part_mark h = (row_at h).marked.1

-- both or none
both_marked : (p q : Bool) → ◌≡◌ {A = ℕ} (cond (eqb (cond p 1 0) 1) (cond q 1 0) 0) (cond (p && q) 1 0)
both_marked true q = refl
both_marked false q = refl

pub marked : {s : List ℕ} {i : ℕ} {t : Cell} {x : Tree} (k : ℕ) → Names s i type_sort t x → t.kind ≡ k → mark_by s t k ≡ mark (to_type x)
unfolding is_top_like table row_in row_for to_type
marked {t = t} zero h f = absurd (omega (arith, f, in_range t.kind h.row h.found h.sort))
marked (suc zero) h f = rw (fields 1 _ h f refl).is
marked (suc (suc zero)) h f = rw (fields 2 _ h f refl).is
marked (suc (suc (suc zero))) h f = let w = fields 3 _ h f refl in rw (w.is, part_mark w.held_b)
marked (suc (suc (suc (suc zero)))) h f =
    let w = fields 4 _ h f refl in
    rw (w.is, part_mark w.held_a, part_mark w.held_b) (both_marked (is_top_like (to_type w.a)) (is_top_like (to_type w.b)))
marked (suc (suc (suc (suc (suc zero))))) h f = let w = fields 5 _ h f refl in rw (w.is, part_mark w.held_a)
marked {t = t} (suc (suc (suc (suc (suc (suc k)))))) h f = absurd (omega (arith, f, in_range t.kind h.row h.found h.sort))

-- the cells that are read lie within the buffer
pub mark_ready : {s : List ℕ} {i : ℕ} {t : Cell} {x : Tree} → Names s i type_sort t x → MarkReady s t
unfolding table row_in row_for
mark_ready {t = t} h =
    record {
      first = λ a b. elim (ℕ_discrete t.kind 4) [
        | yes e ↦ (row_at (fields 4 _ h e refl).held_a).within
        | no n ↦ (row_at (fields 5 _ h (omega (arith, a, b, n)) refl).held_a).within
      ];
      second = λ a b. elim (ℕ_discrete t.kind 3) [
        | yes e ↦ (row_at (fields 3 _ h e refl).held_b).within
        | no n ↦ (row_at (fields 4 _ h (omega (arith, a, b, n)) refl).held_b).within
      ];
    }

either_fits : (p : Bool) {b : ℕ} → b < 65536 → cond p b 0 < 65536
either_fits true h = h
either_fits false h = omega arith

-- a mark fits its field, whatever the cells hold
pub mark_fits : (s : List ℕ) → IsBytes s → (t : Cell) (k : ℕ) → mark_by s t k < 65536
mark_fits s y t zero = omega arith
mark_fits s y t (suc zero) = omega arith
mark_fits s y t (suc (suc zero)) = omega arith
mark_fits s y t (suc (suc (suc zero))) = (cell_fits s y t.b).3
mark_fits s y t (suc (suc (suc (suc zero)))) = either_fits (eqb (cell_at s t.a).c 1) (cell_fits s y t.b).3
mark_fits s y t (suc (suc (suc (suc (suc zero))))) = (cell_fits s y t.a).3
mark_fits s y t (suc (suc (suc (suc (suc (suc k)))))) = omega arith

-- a mark is the same where the cells that it is read from are
pub kept_mark : (s v : List ℕ) (t : Cell) (k : ℕ) → (4 ≤ k → k ≤ 5 → cell_at v t.a ≡ cell_at s t.a)
    → (3 ≤ k → k ≤ 4 → cell_at v t.b ≡ cell_at s t.b) → mark_by v t k ≡ mark_by s t k
kept_mark s v t zero a b = refl
kept_mark s v t (suc zero) a b = refl
kept_mark s v t (suc (suc zero)) a b = refl
kept_mark s v t (suc (suc (suc zero))) a b = rw (b (omega arith) (omega arith))
kept_mark s v t (suc (suc (suc (suc zero)))) a b = rw (a (omega arith) (omega arith), b (omega arith) (omega arith))
kept_mark s v t (suc (suc (suc (suc (suc zero))))) a b = rw (a (omega arith) (omega arith))
kept_mark s v t (suc (suc (suc (suc (suc (suc k)))))) a b = refl

-- ---- the cell with its mark

-- What field c of the cell t is to hold.
pub data NewThird (s : List ℕ) (t : Cell) (c : ℕ) : Type 0 where
  of_type : t.kind < 16 → c ≡ mark_by s t t.kind → NewThird s t c
  of_term : 16 ≤ t.kind → c ≡ t.c → NewThird s t c

pub third : (s : List ℕ) (t : Cell) → NewThird s t (marked_by s t).c
third s t = go (ltb t.kind 16) refl
  where
    go : (p : Bool) → ltb t.kind 16 ≡ p → NewThird s t (cond p (mark_by s t t.kind) t.c)
    go true q = of_type (ltb→lt t.kind 16 (rw q tt)) refl
    go false q = of_term (nltb→le t.kind 16 (rw q tt)) refl
