-- The walk over a book's cells, over kind and field: what each call of it needs, and what the answers about the parts say of the whole. Assumes nothing.
use Prim.Native.Nat.{ℕ, ◌+◌, ◌*◌, ◌≤◌, ◌<◌}
use native.Mathlib.Omega.{arith}
use mathlib.Core.Path.{◌≡◌, refl, sym, ap, ◌∙◌}
use mathlib.Core.Bool.{Bool, true, false, cond, ◌||◌}
use mathlib.Core.Option.{some}
use Rattle.std.specs.Prelude.{Option, Some, None}
use mathlib.Core.List.{List}
use lib.Dec.{eqb}
use lib.ListN.{length}
use Rattle.format.specs.declared.Version.TheVariants.{Two}
use Rattle.format.specs.Table.{term_sort, refers, row_of}
use Rattle.format.specs.Cell.{Cell, cell_at}
use Rattle.format.specs.Tree.{Tree, node, cells, field_tree, cell_tree, tree_at}
use Rattle.format.specs.Terms.{to_term_in}
use Rattle.format.specs.Book.{has_sort, version_of, size_limit}
use Rattle.format.proofs.Tests.{CellOk, FieldOk, cell_fault_says, cell_looser, sort_is_says}
use Rattle.format.proofs.Unsharing.{field_tree_lower, tree_at_cell}
use Rattle.cells.specs.Coded.{use_of, row_from}
use Rattle.cells.specs.declared.Use as Code
use Rattle.cells.specs.declared.Use.TheVariants.{Unused, Plain, ToType, ToTerm}
use Rattle.cells.specs.declared.Entry.{Entry}
use Rattle.cells.proofs.Rows.{Uses, uses, field_measure}
use Rattle.counting.specs.Counting.{own_steps_lem, counted_in, counted, CountableCell, Countable, Counts}
use Rattle.counting.proofs.ByKind.{plus, counts_law}

-- ---- a field that is no term

no_term : (b : List ℕ) (u : Code.Use) (x : ℕ) → (u ≡ ToTerm → ⊥) → Some 0 ≡ counted_in (use_of u) (to_term_in (version_of b) (tree_at b x))
no_term b Unused x n = refl
no_term b Plain x n = refl
no_term b ToType x n = refl
no_term b ToTerm x n = absurd (n refl)

pub counts_nothing : {b : List ℕ} {u : Code.Use} {x : ℕ} → (u ≡ ToTerm → ⊥) → Counts b u x (Some 0)
counts_nothing {b} {u} {x} n = record { is = no_term b u x n; small = λ m e t. absurd (n t) }

pub within : {b : List ℕ} {u : Code.Use} {x : ℕ} → u ≡ ToTerm → Countable b u x → 8 * x + 8 ≤ length b
within m p = let l = (p.cell m).low in let k = p.formed.formed.long in omega arith

not_steps : {n : ℕ} → None ≡ Some n → ⊥
not_steps e = let z : ◌≡◌ {A = ℕ} 0 1 = cc in omega arith

-- a kind counts one at most
own_small : (k o : ℕ) → own_steps_lem k ≡ Some o → o ≤ 1
own_small k o = go (eqb k 16 || (eqb k 21 || (eqb k 23 || eqb k 27))) (eqb k 19 || (eqb k 20 || (eqb k 25 || eqb k 26)))
  where
    go : (p q : Bool) → cond p None (cond q (Some 1) (Some 0)) ≡ Some o → o ≤ 1
    go true q e = absurd (not_steps e)
    go false true e = let z : 1 ≡ o = cc in omega arith
    go false false e = let z : 0 ≡ o = cc in omega arith

-- ---- a field of cell i that rows 7 and 8 pass

module _ (b : List ℕ) (i : ℕ) where
  -- its tree
  abbrev part : Code.Use → ℕ → Tree
  part v n = field_tree (tree_at b) i (use_of v) n

  part_term : (v : Code.Use) (n : ℕ) → v ≡ ToTerm → FieldOk b i (use_of v) n → (n < i) × (has_sort b term_sort n ≡ true) × (part v n ≡ tree_at b n)
  part_term v n m f = rw m (let g : FieldOk b i (refers term_sort) n = rw m at f in (g.0, g.1, field_tree_lower (tree_at b) i n term_sort g.0))

  part_less : (v : Code.Use) (n : ℕ) → FieldOk b i (use_of v) n → field_measure v n < 2 * i + 2
  part_less Unused n f = omega arith
  part_less Plain n f = omega arith
  part_less ToType n f = omega (arith, f.0)
  part_less ToTerm n f = omega (arith, f.0)

  part_counted : (v : Code.Use) (n : ℕ) → FieldOk b i (use_of v) n →
      counted_in (use_of v) (to_term_in (version_of b) (part v n)) ≡ counted_in (use_of v) (to_term_in (version_of b) (tree_at b n))
  part_counted Unused n f = refl
  part_counted Plain n f = refl
  part_counted ToType n f = refl
  part_counted ToTerm n f = let p = part_term ToTerm n refl f in rw p.2

  nothing : {m k : ℕ} {r : Option ℕ} → r ≡ Some 0 → r ≡ Some m → m ≤ k
  nothing {m} q e = let y : m ≡ 0 = cc in omega arith

  part_small : (v : Code.Use) (n m : ℕ) {r : Option ℕ} → FieldOk b i (use_of v) n → Counts b v n r → r ≡ Some m → m ≤ cells (part v n)
  part_small Unused n m f c e = nothing c.is e
  part_small Plain n m f c e = nothing c.is e
  part_small ToType n m f c e = nothing c.is e
  part_small ToTerm n m f c e = let p = part_term ToTerm n refl f in rw p.2 (c.small m e refl)

-- ---- x stands in cell i, of row e

pub record Inner (b : List ℕ) (u : Code.Use) (i : ℕ) (x : Cell) (e : Entry) : Type 0 where
  pub term : u ≡ ToTerm
  pub ready : Countable b u i
  pub cell : x ≡ cell_at b i
  pub row : row_from x.kind e ≡ row_of x.kind

module _ {b : List ℕ} {u : Code.Use} {i : ℕ} {x : Cell} {e : Entry} (w : Inner b u i x e) where
  at_i : CountableCell b i
  at_i = w.ready.cell w.term

  ok : CellOk Two b i
  ok = (cell_fault_says Two b i).0 (cell_looser (version_of b) b i (w.ready.formed.formed.sound i at_i.low))

  by_row : Uses e ok.row
  by_row = uses (cell_at b i).kind e ok.row (rw w.cell at w.row ∙ ok.found)

  field_a : FieldOk b i (use_of e.a) x.a
  field_a = rw (w.cell, ← by_row.a) ok.fields.a

  field_b : FieldOk b i (use_of e.b) x.b
  field_b = rw (w.cell, ← by_row.b) ok.fields.b

  abbrev a_part : Tree
  a_part = part b i e.a x.a

  abbrev b_part : Tree
  b_part = part b i e.b x.b

  abbrev c_part : Tree
  c_part = part b i e.c x.c

  tree_is : tree_at b i ≡ node x.kind x.label a_part b_part c_part
  unfolding cell_tree
  tree_is = rw (w.cell, ← by_row.a, ← by_row.b, ← by_row.c) (tree_at_cell b i ∙ rw ok.found)

  cells_are : cells (tree_at b i) ≡ 1 + (cells a_part + cells b_part + cells c_part)
  unfolding cells
  cells_are = rw tree_is

  -- what a field counts
  abbrev in_field : Code.Use → ℕ → Option ℕ
  in_field v n = counted_in (use_of v) (to_term_in (version_of b) (tree_at b n))

  -- the whole from its parts
  by_rule : (l : ℕ) (f g h : Tree) → let v = version_of b in
      counted (to_term_in v (node x.kind l f g h)) ≡ plus (own_steps_lem x.kind) (plus (counted_in (use_of e.a) (to_term_in v f)) (counted_in (use_of e.b) (to_term_in v g)))
  by_rule l f g h =
      let sorted = (sort_is_says term_sort ok.row).0 (rw ok.found at at_i.term) in
      let found : row_of x.kind ≡ some ok.row = ap (λ (t : Cell). row_of t.kind) w.cell ∙ ok.found in
      rw (← by_row.a, ← by_row.b) (counts_law (version_of b) x.kind ok.row found sorted l f g h)

  law : in_field u i ≡ plus (own_steps_lem x.kind) (plus (in_field e.a x.a) (in_field e.b x.b))
  law =
      rw (w.term, ← part_counted b i e.a x.a field_a, ← part_counted b i e.b x.b field_b, tree_is)
      (by_rule x.label a_part b_part c_part)

  -- a field, asked at less than t
  abbrev pub Asked : ℕ → Code.Use → ℕ → Type 0
  Asked t v n = (field_measure v n < t) × Countable b v n

  at_measure : field_measure u i ≡ 2 * i + 2
  at_measure = rw w.term

  ask : {t : ℕ} (v : Code.Use) (n : ℕ) → field_measure u i ≡ t → FieldOk b i (use_of v) n → cells (part b i v n) ≤ size_limit → Asked t v n
  ask v n m f l = (
    omega (arith, m, at_measure, part_less b i v n f),
    record {
      formed = w.ready.formed;
      cell = λ k. let p = part_term b i v n k f in record { low = omega (arith, p.0, at_i.low); term = p.1; small = rw p.2 at l };
    },
  )

  pub parts : {t : ℕ} → field_measure u i ≡ t → Asked t e.a x.a × Asked t e.b x.b
  parts m = (ask e.a x.a m field_a (omega (arith, cells_are, at_i.small)), ask e.b x.b m field_b (omega (arith, cells_are, at_i.small)))

  -- ---- what the answers about them say

  none_counted : None ≡ in_field u i → Counts b u i None
  none_counted e = record { is = e; small = λ n q l. absurd (not_steps q) }

  pub none_kind : own_steps_lem x.kind ≡ None → Counts b u i None
  none_kind o = none_counted (sym (law ∙ rw o))

  module _ {o : ℕ} {p : Option ℕ} (own : own_steps_lem x.kind ≡ Some o) (ca : Counts b e.a x.a p) where
    pub none_first : p ≡ None → Counts b u i None
    none_first q = none_counted (sym (law ∙ rw (own, ← ca.is, q)))

    module _ {n : ℕ} {q : Option ℕ} (first : p ≡ Some n) (cb : Counts b e.b x.b q) where
      pub none_second : q ≡ None → Counts b u i None
      none_second z = none_counted (sym (law ∙ rw (own, ← ca.is, first, ← cb.is, z)))

      module _ {m : ℕ} (second : q ≡ Some m) where
        -- no more than there are cells
        small : o + (n + m) ≤ cells (tree_at b i)
        small =
            omega (arith, cells_are, own_small x.kind o own, part_small b i e.a x.a n field_a ca first, part_small b i e.b x.b m field_b cb second)

        pub all_counted : (o + (n + m) ≤ size_limit) × Counts b u i (Some (o + (n + m)))
        all_counted = (
          omega (arith, small, at_i.small),
          record {
            is = sym (law ∙ rw (own, ← ca.is, first, ← cb.is, second));
            small = λ k z l. let y : o + (n + m) ≡ k = cc in omega (arith, small);
          },
        )
