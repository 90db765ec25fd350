-- A cell of a book that passes rows 5 to 8 holds its tree in the book, where the cells below it do: in a buffer that has the book's cells, and in the
-- book's own bytes. Over kind and field. Assumes nothing.
use Prim.Native.Nat.{ℕ, zero, suc, ◌+◌, ◌*◌, ◌≤◌, ◌<◌}
use native.Mathlib.Decide.{dec_lt}
use native.Mathlib.Omega.{arith}
use mathlib.Core.Path.{◌≡◌, refl}
use mathlib.Core.Bool.{Bool, true, false}
use mathlib.Core.Option.{none}
use mathlib.Core.List.{List}
use lib.ListN.{length}
use Rattle.format.specs.declared.Version.TheVariants.{Two}
use Rattle.format.specs.Table.{Sort, Use, unused, plain, refers}
use Rattle.format.specs.Cell.{cell_at}
use Rattle.format.specs.Tree.{field_tree, cell_tree, tree_at}
use Rattle.format.specs.Book.{cell_fault, has_sort}
use Rattle.format.proofs.Tests.{FieldOk, CellOk, cell_fault_says}
use Rattle.format.proofs.Unsharing.{field_tree_lower, tree_at_cell}
use Rattle.cells.specs.Held.{label_by_lem, HeldField, f_unused, f_plain, f_refers, Fields}
use Rattle.cells.proofs.Held.{below}

-- the cells below i hold in s their trees in b
abbrev pub Lower : Bool → List ℕ → List ℕ → ℕ → Type 0
Lower q b s i = (j : ℕ) → j < i → (o : Sort) → has_sort b o j ≡ true → HeldField q s (suc j) (refers o) j (tree_at b j)

-- what holds of the cells below i, and of i
pub more : {P : ℕ → Type 0} {i : ℕ} → ((j : ℕ) → j < i → P j) → P i → (j : ℕ) → j < i + 1 → P j
more {i = i} f p j h = elim (dec_lt j i) [ yes l ↦ f j l | no u ↦ let e : j ≡ i = omega (arith, u) in rw e p ]

-- a field, by its use: it holds what it is in the book, unshared
held : {q : Bool} (b : List ℕ) {s : List ℕ} {i : ℕ} → Lower q b s i → (u : Use) (x : ℕ) → FieldOk b i u x → HeldField q s i u x (field_tree (tree_at b) i u x)
unfolding field_tree
held b l unused x h = rw h f_unused
held b l plain x h = f_plain
held b {i = i} l (refers o) x h = rw (field_tree_lower (tree_at b) i x o h.0) (below (l x h.0 o h.1) h.0)

label_kept : (b : List ℕ) (i : ℕ) (u : Use) (x : ℕ) → FieldOk b i u x → x ≡ label_by_lem u x
label_kept b i unused x h = h
label_kept b i plain x h = refl
label_kept b i (refers o) x h = refl

-- the tree of a cell that passes rows 5 to 8, by its row
pub fields : {q : Bool} {b s : List ℕ} {i : ℕ} (k : CellOk Two b i) → Lower q b s i → Fields q s i (cell_at b i).kind k.row (cell_at b i) (tree_at b i)
unfolding cell_tree
fields {b = b} {i = i} k l =
    let r = k.row in
    let t = cell_at b i in
    record {
      a = field_tree (tree_at b) i r.a t.a;
      b = field_tree (tree_at b) i r.b t.b;
      c = field_tree (tree_at b) i r.c t.c;
      is = rw (← label_kept b i r.label t.label k.fields.label, tree_at_cell b i, k.found);
      held_a = held b l r.a t.a k.fields.a;
      held_b = held b l r.b t.b k.fields.b;
      held_c = held b l r.c t.c k.fields.c;
    }

-- in the book's own bytes, which have no marks
module _ {b : List ℕ} {n : ℕ} (long : 8 * n ≤ length b) (sound : (i : ℕ) → i < n → cell_fault Two b i ≡ none) where
  whole : {i : ℕ} → i < n → Lower false b b i → (o : Sort) → HeldField false b (suc i) (refers o) i (tree_at b i)
  whole {i} h l o =
      let k = (cell_fault_says Two b i).0 (sound i h) in
      let f = fields k l in
      rw f.is (f_refers {n = suc i} {x = i} (omega arith) (record { within = omega arith; is = refl }) k.found refl tt f.held_a f.held_b f.held_c)

  all_lower : (i : ℕ) → i ≤ n → Lower false b b i
  all_lower zero h = λ j l. absurd (omega arith)
  all_lower (suc i) h = λ j l. let z = all_lower i (omega arith) in more z (λ o e. whole (omega arith) z o) j (omega arith)

  pub unshares : {i : ℕ} → i < n → (o : Sort) → HeldField false b (suc i) (refers o) i (tree_at b i)
  unshares {i} h = whole h (all_lower i (omega arith))
