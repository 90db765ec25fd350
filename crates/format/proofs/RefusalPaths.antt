-- The cell that a path leads to holds the part of the term that the path leads to; so typing's refusals name a cell of the kind that document 01
-- says. Assumes nothing.
use Prim.Native.Nat.{ℕ, zero, suc, ◌<◌}
use mathlib.Core.Path.{◌≡◌, refl, sym, ap, subst, ◌∙◌}
use mathlib.Core.Option.{Option, none, some, some-injective}
use mathlib.Core.List.{List, [], ◌∷◌, ◌++◌}
use native.Mathlib.Omega.{arith}
use Rattle.calculus.specs.Syntax.{Term}
use Rattle.calculus.specs.Infer.{Reason, unbound, not_function, no_field, conflict, mismatch, refused, infer}
use Rattle.calculus.specs.RefusalPaths.{At, here, in_anno, in_left, in_right, in_body, in_first, in_second, in_fix, in_content, in_read}
use Rattle.calculus.specs.RefusalPaths.{in_sum_left, in_sum_right, in_tested, in_zero, in_other}
use Rattle.calculus.specs.RefusalPaths.{ChecksPart, of_anno, of_argument, of_body, of_fix, of_sum_left, of_sum_right, of_tested, of_zero, of_other, NamesPart}
use Rattle.calculus.proofs.RefusalPaths.{infer_names}
use Rattle.format.specs.declared.Version.{Version}
use Rattle.format.specs.declared.Version.TheVariants.{Two}
use Rattle.format.specs.Table.{Sort, term_sort, Use, refers, Row, table, row_in, row_for, row_of, use_in}
use Rattle.format.specs.Cell.{IsBytes, cell_at}
use Rattle.format.specs.Tree.{Tree, node, field_tree, cell_tree, tree_at}
use Rattle.format.specs.Terms.{from_term_in}
use Rattle.format.specs.Book.{count, root_of, version_of, field_in, follow, root_term, WellFormedCells, WellFormed}
use Rattle.format.specs.Checking.{Checking, by_anno, by_application, by_function, by_fixpoint, by_sum_left, by_sum_right, by_tested, by_zero, by_other, Names}
use Rattle.format.proofs.Unsharing.{field_tree_lower, tree_at_cell}
use Rattle.format.proofs.Paths.{leads_at, follow_on}
use Rattle.format.proofs.Tests.{FieldOk, CellOk, cell_fault_says, cell_looser, root_term_tree}

-- a cell has its tree's kind
kind_is : (s : List ℕ) (i k l : ℕ) (x y z : Tree) → tree_at s i ≡ node k l x y z → (cell_at s i).kind ≡ k
unfolding cell_tree
kind_is s i k l x y z e = go (row_of (cell_at s i).kind) (sym (tree_at_cell s i) ∙ e)
  where
    go : (o : Option Row) → cell_tree (tree_at s) i (cell_at s i) o ≡ node k l x y z → (cell_at s i).kind ≡ k
    go none q = cc
    go (some r) q = cc

-- Field f of cell i leads to cell j, which holds t.
record Leads (s : List ℕ) (i f j : ℕ) (t : Tree) : Type 0 where
  lower : j < i
  holds : tree_at s j ≡ t
  path : (p : List ℕ) → follow s i (f ∷ p) ≡ follow s j p

-- the tree of field f
abbrev third : ℕ → Tree → Tree → Tree → Tree
third zero x y z = x
third (suc zero) x y z = y
third (suc (suc f)) x y z = z

-- a cell, its tree, and the row of its kind
module _ (s : List ℕ) (w : WellFormedCells s) (f i k l : ℕ) (x y z : Tree) (r : Row) (below : i < count s) (e : tree_at s i ≡ node k l x y z) (row : row_of k ≡ some r) where
  ok : CellOk Two s i
  ok = (cell_fault_says Two s i).0 (cell_looser (version_of s) s i (w.sound i below))

  same_row : ok.row ≡ r
  same_row = some-injective ok.row r (sym ok.found ∙ ap row_of (kind_is s i k l x y z e) ∙ row)

  abbrev unshared_field : ℕ → Tree
  unshared_field f = field_tree (tree_at s) i (use_in ok.row f) (field_in (cell_at s i) f)

  grown : node (cell_at s i).kind (cell_at s i).label (unshared_field 0) (unshared_field 1) (unshared_field 2) ≡ node k l x y z
  unfolding cell_tree
  grown = sym (tree_at_cell s i ∙ ap (cell_tree (tree_at s) i (cell_at s i)) ok.found) ∙ e

  passes : (f : ℕ) → FieldOk s i (use_in ok.row f) (field_in (cell_at s i) f)
  passes zero = ok.fields.a
  passes (suc zero) = ok.fields.b
  passes (suc (suc f)) = ok.fields.c

  decodes : (f : ℕ) → unshared_field f ≡ third f x y z
  decodes zero = cc grown
  decodes (suc zero) = cc grown
  decodes (suc (suc f)) = cc grown

  -- a field that passes 5 to 8 and names a cell
  leads : (o : Sort) → use_in r f ≡ refers o → Leads s i f (field_in (cell_at s i) f) (third f x y z)
  leads o u =
      let j = field_in (cell_at s i) f in
      let v = ap (λ (r : Row). use_in r f) same_row ∙ u in
      let l = subst (λ (u : Use). FieldOk s i u j) v (passes f) in
      record {
        lower = l.0;
        holds = sym (field_tree_lower (tree_at s) i j o l.0) ∙ ap (λ (u : Use). field_tree (tree_at s) i u j) (sym v) ∙ decodes f;
        path = follow_on s i f j (leads_at i f (cell_at s i) ok.row o ok.found v l.0);
      }

-- A path from cell i arrives at a cell of the book, which holds t, and can be gone on with.
record Arrives (s : List ℕ) (i : ℕ) (p : List ℕ) (t : Tree) : Type 0 where
  holds : tree_at s (follow s i p) ≡ t
  below : follow s i p < count s
  on : (q : List ℕ) → follow s i (p ++ q) ≡ follow s (follow s i p) q

-- The cell at the end of a path holds the part at its end.
module _ (v : Version) (s : List ℕ) (w : WellFormedCells s) where
  -- on by a field
  onward : {i f j : ℕ} {t u : Tree} (p : List ℕ) → i < count s → Leads s i f j t →
      ((j : ℕ) → j < count s → tree_at s j ≡ t → Arrives s j p u) → Arrives s i (f ∷ p) u
  onward {i} {f} {j} p b v h =
      let a = h j (omega (arith, v.lower)) v.holds in
      let e = v.path p in
      record {
        holds = ap (tree_at s) e ∙ a.holds;
        below = rw e a.below;
        on = λ q. v.path (p ++ q) ∙ a.on q ∙ ap (λ (k : ℕ). follow s k q) (sym e);
      }

  arrives : {e f : Term} {p : List ℕ} → At e p f → (i : ℕ) → i < count s → tree_at s i ≡ from_term_in v e → Arrives s i p (from_term_in v f)
  unfolding follow from_term_in table row_in row_for
  arrives here i b t = record { holds = t; below = b; on = λ q. refl }
  arrives (in_anno {p = p} h) i b t = onward p b (leads s w 0 i 19 0 _ _ _ _ b t refl term_sort refl) (arrives h)
  arrives (in_left {p = p} h) i b t = onward p b (leads s w 0 i 20 0 _ _ _ _ b t refl term_sort refl) (arrives h)
  arrives (in_right {p = p} h) i b t = onward p b (leads s w 1 i 20 0 _ _ _ _ b t refl term_sort refl) (arrives h)
  arrives (in_body {p = p} h) i b t = onward p b (leads s w 0 i 21 0 _ _ _ _ b t refl term_sort refl) (arrives h)
  arrives (in_first {p = p} h) i b t = onward p b (leads s w 0 i 22 0 _ _ _ _ b t refl term_sort refl) (arrives h)
  arrives (in_second {p = p} h) i b t = onward p b (leads s w 1 i 22 0 _ _ _ _ b t refl term_sort refl) (arrives h)
  arrives (in_fix {p = p} h) i b t = onward p b (leads s w 0 i 23 0 _ _ _ _ b t refl term_sort refl) (arrives h)
  arrives (in_content {l = l} {p = p} h) i b t = onward p b (leads s w 0 i 24 l _ _ _ _ b t refl term_sort refl) (arrives h)
  arrives (in_read {l = l} {p = p} h) i b t = onward p b (leads s w 0 i 25 l _ _ _ _ b t refl term_sort refl) (arrives h)
  arrives (in_sum_left {p = p} h) i b t = onward p b (leads s w 0 i 26 0 _ _ _ _ b t refl term_sort refl) (arrives h)
  arrives (in_sum_right {p = p} h) i b t = onward p b (leads s w 1 i 26 0 _ _ _ _ b t refl term_sort refl) (arrives h)
  arrives (in_tested {p = p} h) i b t = onward p b (leads s w 0 i 27 0 _ _ _ _ b t refl term_sort refl) (arrives h)
  arrives (in_zero {p = p} h) i b t = onward p b (leads s w 1 i 27 0 _ _ _ _ b t refl term_sort refl) (arrives h)
  arrives (in_other {p = p} h) i b t = onward p b (leads s w 2 i 27 0 _ _ _ _ b t refl term_sort refl) (arrives h)

  -- the cell j around a checked part: the part is one of its fields
  checks_at : {e f : Term} {n : ℕ} → ChecksPart e n f → (j : ℕ) → j < count s → tree_at s j ≡ from_term_in v e → Checking s j (follow s j (n ∷ []))
  unfolding follow from_term_in table row_in row_for
  checks_at of_anno j b t = by_anno (kind_is s j 19 _ _ _ _ t) ((leads s w 0 j 19 0 _ _ _ _ b t refl term_sort refl).path [])
  checks_at of_argument j b t = by_application (kind_is s j 20 _ _ _ _ t) ((leads s w 1 j 20 0 _ _ _ _ b t refl term_sort refl).path [])
  checks_at of_body j b t = by_function (kind_is s j 21 _ _ _ _ t) ((leads s w 0 j 21 0 _ _ _ _ b t refl term_sort refl).path [])
  checks_at of_fix j b t = by_fixpoint (kind_is s j 23 _ _ _ _ t) ((leads s w 0 j 23 0 _ _ _ _ b t refl term_sort refl).path [])
  checks_at of_sum_left j b t = by_sum_left (kind_is s j 26 _ _ _ _ t) ((leads s w 0 j 26 0 _ _ _ _ b t refl term_sort refl).path [])
  checks_at of_sum_right j b t = by_sum_right (kind_is s j 26 _ _ _ _ t) ((leads s w 1 j 26 0 _ _ _ _ b t refl term_sort refl).path [])
  checks_at of_tested j b t = by_tested (kind_is s j 27 _ _ _ _ t) ((leads s w 0 j 27 0 _ _ _ _ b t refl term_sort refl).path [])
  checks_at of_zero j b t = by_zero (kind_is s j 27 _ _ _ _ t) ((leads s w 1 j 27 0 _ _ _ _ b t refl term_sort refl).path [])
  checks_at of_other j b t = by_other (kind_is s j 27 _ _ _ _ t) ((leads s w 2 j 27 0 _ _ _ _ b t refl term_sort refl).path [])

module _ (v : Version) (s : List ℕ) (w : WellFormedCells s) (i : ℕ) (b : i < count s) (e : Term) (t : tree_at s i ≡ from_term_in v e) where
  named_cell : (r : Reason) (p : List ℕ) (f : Term) → At e p f → NamesPart r e p f → Names s r (follow s i p)
  unfolding from_term_in
  named_cell unbound p f a n = kind_is s (follow s i p) 16 _ _ _ _ ((arrives v s w a i b t).holds ∙ ap (from_term_in v) n.1)
  named_cell not_function p f a n = kind_is s (follow s i p) 20 _ _ _ _ ((arrives v s w a i b t).holds ∙ ap (from_term_in v) n.2)
  named_cell no_field p f a n = kind_is s (follow s i p) 25 _ _ _ _ ((arrives v s w a i b t).holds ∙ ap (from_term_in v) n.2)
  named_cell conflict p f a n = kind_is s (follow s i p) 22 _ _ _ _ ((arrives v s w a i b t).holds ∙ ap (from_term_in v) n.2)
  named_cell mismatch p f a n =
      let a = arrives v s w n.at i b t in
      let j = follow s i n.to in
      (j, subst (Checking s j) (sym (ap (follow s i) n.path ∙ a.on (n.last ∷ []))) (checks_at v s w n.checks j a.below a.holds))

pub refusal_names : (s : List ℕ) → IsBytes s → WellFormed s → (r : Reason) (p : List ℕ) → infer [] (root_term s) ≡ refused r p →
    Names s r (follow s (root_of s) p)
refusal_names s y w r p e =
    let x = infer_names [] (root_term s) r p e in
    named_cell (version_of s) s w.formed (root_of s) w.formed.rooted (root_term s) (sym (root_term_tree s y w)) r p x.part x.at x.named
