-- Unshared sizes, capped at 4,096: a cell's from those of the lower cells, one more in a list of them. Assumes nothing.
use Prim.Native.Nat.{ℕ, ◌+◌, ◌<◌, min}
use mathlib.Core.Path.{◌≡◌, refl, ap, ◌∙◌}
use mathlib.Core.Bool.{true}
use mathlib.Core.Option.{none, some}
use mathlib.Core.List.{List}
use native.Mathlib.Omega.{arith}
use borrow.Author.Tests.{lt-ltb}
use native.Mathlib.Decide.{ℕ_discrete}
use lib.ListN.{length, get_or, set}
use lib.Seq.{get_or-set_same, get_or-set_other}
use Rattle.format.specs.declared.Version.TheVariants.{Two}
use Rattle.format.specs.Table.{Use, unused, plain, refers, row_of}
use Rattle.format.specs.Tree.{cells, field_tree, cell_tree, tree_at}
use Rattle.format.specs.Book.{reference_ok_lem, cell_fault}
use Rattle.format.proofs.Unsharing.{tree_at_cell}
use Rattle.format.proofs.Tests.{FieldOk, Each, cell_fault_says}
use Rattle.cells.specs.declared.Cell.{Cell}
use Rattle.cells.specs.declared.Entry.{Entry}
use Rattle.cells.specs.Coded.{as_cell, use_of, Refers}
use Rattle.book.specs.Form.{SizesUpTo, field_size_lem}
use Rattle.cells.proofs.Rows.{uses}
use Rattle.book.proofs.Fields.{Read, lower}

-- a field of a cell that passed test 7
reference_passed : (s : List ℕ) (i : ℕ) (u : Use) (x : ℕ) → FieldOk s i u x → reference_ok_lem i u x ≡ true
reference_passed s i unused x h = refl
reference_passed s i plain x h = refl
reference_passed s i (refers o) x h = lt-ltb x i h.0

-- what the list has for it is the capped size of its tree
field_size_law : (s z : List ℕ) (i : ℕ) → SizesUpTo s z i → (u : Use) (x : ℕ) → FieldOk s i u x → field_size_lem z u x ≡ min 4096 (cells (field_tree (tree_at s) i u x))
unfolding field_tree cells
field_size_law s z i h unused x k = refl
field_size_law s z i h plain x k = refl
field_size_law s z i h (refers o) x k = rw (lt-ltb x i k.0, field_tree) (h.sizes x k.0)

-- a cell that passed tests 5 to 8, with its entry
pub record Sized (s z : List ℕ) (i : ℕ) (e : Entry) (t : Cell) : Type 0 where
  pub a : ℕ
  pub b : ℕ
  pub c : ℕ
  pub a_size : field_size_lem z (use_of e.a) t.a ≡ min 4096 a
  pub b_size : field_size_lem z (use_of e.b) t.b ≡ min 4096 b
  pub c_size : field_size_lem z (use_of e.c) t.c ≡ min 4096 c
  pub whole : cells (tree_at s i) ≡ 1 + (a + b + c)
  pub a_lower : Refers e.a → t.a < i
  pub b_lower : Refers e.b → t.b < i
  pub c_lower : Refers e.c → t.c < i

pub sized : {s : List ℕ} {z : List ℕ} {i : ℕ} {e : Entry} {t : Cell} → Read Two s i e t → cell_fault Two s i ≡ none → SizesUpTo s z i → Sized s z i e t
unfolding cell_tree cells
sized {s} {z} {i} {e} {t} read ok h =
    let k = (cell_fault_says Two s i).0 ok in
    let w = k.row in
    let r : row_of t.kind ≡ some w = rw (← read.is) at k.found in
    let f : Each (FieldOk s i) w (as_cell t) = rw (← read.is) at k.fields in
    let u = uses t.kind e w (read.row ∙ r) in
    let x : FieldOk s i (use_of e.a) t.a = rw u.a at f.a in
    let y : FieldOk s i (use_of e.b) t.b = rw u.b at f.b in
    let v : FieldOk s i (use_of e.c) t.c = rw u.c at f.c in
    record {
      a = cells (field_tree (tree_at s) i (use_of e.a) t.a);
      b = cells (field_tree (tree_at s) i (use_of e.b) t.b);
      c = cells (field_tree (tree_at s) i (use_of e.c) t.c);
      a_size = field_size_law s z i h (use_of e.a) t.a x;
      b_size = field_size_law s z i h (use_of e.b) t.b y;
      c_size = field_size_law s z i h (use_of e.c) t.c v;
      whole = ap cells (tree_at_cell s i) ∙ rw (← read.is, r, u.a, u.b, u.c);
      a_lower = lower i e.a t.a (reference_passed s i (use_of e.a) t.a x);
      b_lower = lower i e.b t.b (reference_passed s i (use_of e.b) t.b y);
      c_lower = lower i e.c t.c (reference_passed s i (use_of e.c) t.c v);
    }

-- one more size
pub sizes_more : (s z : List ℕ) (i v : ℕ) → i < length z → SizesUpTo s z i → v ≡ min 4096 (cells (tree_at s i)) → SizesUpTo s (set z i v) (i + 1)
sizes_more s z i v l h e = record { sizes = λ j k. go j k (ℕ_discrete j i) }
  where
    go : (j : ℕ) → j < i + 1 → Dec (j ≡ i) → get_or (set z i v) j 0 ≡ min 4096 (cells (tree_at s j))
    go j k (yes p) = rw (p, get_or-set_same z i v 0 l) e
    go j k (no n) = get_or-set_other z i j v 0 n ∙ h.sizes j (omega arith)
