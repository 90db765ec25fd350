-- The row of a kind as the code has it, the fields of a cell by that row, and their measures. Over kind and field. Assumes nothing.
use Prim.Native.Nat.{ℕ, ◌+◌, ◌*◌, ◌<◌}
use native.Mathlib.Omega.{arith}
use mathlib.Core.Path.{◌≡◌, refl, sym, ap, ◌∙◌}
use mathlib.Core.Bool.{Bool}
use mathlib.Core.Option.{Option, some, some-injective, none-ne-some}
use mathlib.Core.List.{List}
use Rattle.format.specs.Table.{Sort, type_sort, term_sort, unused, plain, refers, Row, row_of}
use Rattle.format.specs.Cell.{Cell, cell_at}
use Rattle.format.specs.Tree.{Tree, raw, node}
use Rattle.cells.specs.Held.{label_by_lem, HeldField, f_unused, f_plain}
use Rattle.std.specs.Prelude.{Some, None}
use Rattle.std.specs.Prelude as Std
use Rattle.cells.specs.Coded.{use_of, row_from, Refers}
use Rattle.cells.specs.declared.Sort as Sorts
use Rattle.cells.specs.declared.Sort.TheVariants.{Types, Terms}
use Rattle.cells.specs.declared.Use as Code
use Rattle.cells.specs.declared.Use.TheVariants.{Unused, Plain, ToType, ToTerm}
use Rattle.cells.specs.declared.Entry.{Entry}
use Rattle.cells.proofs.Held.{fields_of, row_at, lower}

pub record Uses (y : Entry) (r : Row) : Type 0 where
  pub label : r.label ≡ use_of y.label
  pub a : r.a ≡ use_of y.a
  pub b : r.b ≡ use_of y.b
  pub c : r.c ≡ use_of y.c

pub uses : (k : ℕ) (y : Entry) (r : Row) → row_from k y ≡ some r → Uses y r
uses k y r e = go y.sort refl
  where
    by_sort : (o : Sort)
        → ◌≡◌ {A = Option Row} (some (record { kind = k; sort = o; label = use_of y.label; a = use_of y.a; b = use_of y.b; c = use_of y.c })) (some r)
        → Uses y r
    by_sort o q =
        let j = sym (some-injective _ r q) in
        record {
          label = ap (λ (x : Row). x.label) j;
          a = ap (λ (x : Row). x.a) j;
          b = ap (λ (x : Row). x.b) j;
          c = ap (λ (x : Row). x.c) j;
        }

    go : (n : Std.Option Sorts.Sort) → y.sort ≡ n → Uses y r
    go None q = absurd (none-ne-some r (rw q at e))
    go (Some Types) q = by_sort type_sort (rw q at e)
    go (Some Terms) q = by_sort term_sort (rw q at e)

pub label_unnamed : (u : Code.Use) (l : ℕ) → u ≡ Unused → 0 ≡ label_by_lem (use_of u) l
label_unnamed u l e = rw e

pub label_named : (u : Code.Use) (l : ℕ) → (u ≡ Unused → ⊥) → l ≡ label_by_lem (use_of u) l
label_named Unused l n = absurd (n refl)
label_named Plain l n = refl
label_named ToType l n = refl
label_named ToTerm l n = refl

-- t as cell i, of row y: the tree that it stands for, its fields held below i
pub record FieldsOf (q : Bool) (s : List ℕ) (i : ℕ) (t : Cell) (y : Entry) (x : Tree) : Type 0 where
  pub a : Tree
  pub b : Tree
  pub c : Tree
  pub is : x ≡ node t.kind (label_by_lem (use_of y.label) t.label) a b c
  pub holds_a : HeldField q s i (use_of y.a) t.a a
  pub holds_b : HeldField q s i (use_of y.b) t.b b
  pub holds_c : HeldField q s i (use_of y.c) t.c c

pub by_entry : {q : Bool} {s : List ℕ} {n i : ℕ} {t : Cell} {y : Entry} {o : Sort} {x : Tree} → t ≡ cell_at s i → row_from t.kind y ≡ row_of t.kind
    → HeldField q s n (refers o) i x → FieldsOf q s i t y x
by_entry {q} {s} {i = i} {y = y} {x = x} e w h = rw e own
  where
    own : FieldsOf q s i (cell_at s i) y x
    own =
        let v = row_at h in
        let f = fields_of _ v.row h refl v.found in
        let z = uses (cell_at s i).kind y v.row (rw e at w ∙ v.found) in
        record {
          a = f.a;
          b = f.b;
          c = f.c;
          is = rw (← z.label) f.is;
          holds_a = rw (← z.a) f.held_a;
          holds_b = rw (← z.b) f.held_b;
          holds_c = rw (← z.c) f.held_c;
        }

pub unused_is : {q : Bool} {s : List ℕ} {n x : ℕ} {f : Tree} → HeldField q s n unused x f → f ≡ raw 0
unused_is f_unused = refl

pub plain_is : {q : Bool} {s : List ℕ} {n x : ℕ} {f : Tree} → HeldField q s n plain x f → f ≡ raw x
plain_is f_plain = refl

-- A field that refers to nothing costs no call.
abbrev pub field_measure : Code.Use → ℕ → ℕ
field_measure Unused x = 0
field_measure Plain x = 0
field_measure ToType x = 2 * x + 2
field_measure ToTerm x = 2 * x + 2

pub field_less : {q : Bool} {s : List ℕ} {i x t : ℕ} {z : Tree} (u : Code.Use) → HeldField q s i (use_of u) x z → 2 * i + 1 ≡ t → field_measure u x < t
field_less Unused h e = omega arith
field_less Plain h e = omega arith
field_less ToType h e = omega (arith, lower h)
field_less ToTerm h e = omega (arith, lower h)

unnamed : {o : Sort} → unused ≡ refers o → ⊥
unnamed e = cc

numbered : {o : Sort} → plain ≡ refers o → ⊥
numbered e = cc

pub cell_less : (u : Code.Use) (x : ℕ) {t : ℕ} → Refers u → field_measure u x ≡ t → 2 * x + 1 < t
cell_less Unused x h e = absurd (unnamed h.1)
cell_less Plain x h e = absurd (numbered h.1)
cell_less ToType x h e = omega arith
cell_less ToTerm x h e = omega arith
