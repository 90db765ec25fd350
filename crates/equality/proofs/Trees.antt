-- Whether two cells, unshared, are the same tree, by the row of their kind: over kind and field. Assumes nothing.
use Prim.Native.Nat.{ℕ, ◌+◌, ◌*◌, ◌≤◌, ◌<◌}
use native.Mathlib.Omega.{arith}
use mathlib.Core.Path.{◌≡◌, refl, sym, ap, ◌∙◌, subst}
use mathlib.Core.Bool.{Bool, true, false}
use mathlib.Core.Logic.Iff
use mathlib.Core.Logic.{◌↔◌}
use mathlib.Core.List.{List}
use lib.Dec.{T, eqb}
use lib.ListN.{length}
use Rattle.calculus.proofs.Bools.{eqb_says}
use Rattle.format.specs.Table.{term_sort, Use, plain, row_of}
use Rattle.format.specs.Cell.{Cell, cell_at}
use Rattle.format.specs.Tree.{Tree, kind_in, tree_at}
use Rattle.format.specs.Book.{count, version_of, WellFormed}
use Rattle.cells.specs.Held.{label_by_lem, HeldField}
use Rattle.cells.specs.Coded.{use_of, row_from, Refers}
use Rattle.cells.specs.declared.Use as Code
use Rattle.cells.specs.declared.Use.TheVariants.{Unused, Plain, ToType, ToTerm}
use Rattle.cells.specs.declared.Entry.{Entry}
use Rattle.cells.proofs.Held.{fields_of, row_at, below, any_sort, field_one}
use Rattle.format.proofs.Tests.{cell_looser}
use Rattle.cells.proofs.Unshared.{unshares}
use Rattle.cells.proofs.Rows.{FieldsOf, by_entry, unused_is, plain_is, field_measure, field_less}
use Rattle.equality.specs.Trees.{Unshares, Unshared, Comparable, in_book, in_cells, SameTree, SameField, same_unused, same_plain, same_cells}

-- ---- every cell of a book is a tree, and what is said of cells that are trees is said of the book

book_unshares : {s : List ℕ} {i : ℕ} → WellFormed s → i < count s → Unshares s i (tree_at s i)
book_unshares {s} w h = let long = w.formed.long in let n : 8 * count s ≤ length s = omega arith in (term_sort, unshares n (λ i l. cell_looser (version_of s) s i (w.formed.sound i l)) h term_sort)

pub unshared : {s : List ℕ} {i j : ℕ} → Comparable s i j → Unshared s i × Unshared s j
unshared (in_book w h k) = ((_, book_unshares w h), (_, book_unshares w k))
unshared (in_cells f g) = (f, g)

pub answers : {s : List ℕ} {i j : ℕ} {r : Bool} → ((f g : Tree) → Unshares s i f → Unshares s j g → T r ↔ (f ≡ g)) → SameTree s i j r
answers q = record { book = λ w h k. q _ _ (book_unshares w h) (book_unshares w k); cells = q }

pub within : {s : List ℕ} {i : ℕ} → Unshared s i → 8 * i + 8 ≤ length s
within h = (row_at h.1.1).within

-- ---- one cell, and cells of two kinds

pub one_cell : {s : List ℕ} {i j : ℕ} → i ≡ j → SameTree s i j true
one_cell e = answers λ f g h k. (λ t. field_one (rw e at h.1) (any_sort k.1), λ q. tt)

tree_kind : {s : List ℕ} {i : ℕ} {x : Cell} {f : Tree} → x ≡ cell_at s i → Unshares s i f → x.kind ≡ kind_in f
unfolding kind_in
tree_kind p h = rw p (sym (ap kind_in (fields_of _ _ h.1 refl (row_at h.1).found).is))

pub other_kinds : {s : List ℕ} {i j : ℕ} {x y : Cell} → x ≡ cell_at s i → y ≡ cell_at s j → (x.kind ≡ y.kind → ⊥) → SameTree s i j false
other_kinds p q n = answers λ f g h k. (λ t. absurd t, λ e. n (tree_kind p h ∙ ap kind_in e ∙ sym (tree_kind q k)))

-- ---- two fields of one use

field_same : {s : List ℕ} {n m x y : ℕ} {f g : Tree} {u : Use} {r : Bool} → SameField s x y u r → HeldField false s n u x f → HeldField false s m u y g → T r ↔ (f ≡ g)
field_same same_unused h k = (λ t. unused_is h ∙ sym (unused_is k), λ q. tt)
field_same (same_plain e) h k = let a = plain_is h in let b = plain_is k in (λ t. let z = e.0 t in cc, λ q. e.1 (cc))
field_same {x = x} {y = y} (same_cells w) h k = w.cells _ _ (_, below h (omega arith)) (_, below k (omega arith))

field_ready : {s : List ℕ} {n m x y : ℕ} {f g : Tree} (u : Code.Use) → HeldField false s n (use_of u) x f → HeldField false s m (use_of u) y g → Refers u →
    Comparable s x y
field_ready u h k r = in_cells (_, (_, below (rw r.1 at h) (omega arith))) (_, (_, below (rw r.1 at k) (omega arith)))

-- a use that is neither unused nor plain
pub refers_else : (u : Code.Use) → (u ≡ Unused → ⊥) → (u ≡ Plain → ⊥) → Refers u
refers_else Unused n m = absurd (n refl)
refers_else Plain n m = absurd (m refl)
refers_else ToType n m = (_, refl)
refers_else ToTerm n m = (_, refl)

pub plain_same : {s : List ℕ} {x y : ℕ} → SameField s x y plain (eqb x y)
plain_same {x = x} {y = y} = same_plain (eqb_says x y)

pub cells_same : {s : List ℕ} {x y : ℕ} {r : Bool} (u : Code.Use) → Refers u → SameTree s x y r → SameField s x y (use_of u) r
cells_same u l w = rw l.1 (same_cells w)

-- ---- two cells of one kind, of row e

pub record Alike (s : List ℕ) (i j : ℕ) (x y : Cell) (e : Entry) : Type 0 where
  pub first : x ≡ cell_at s i
  pub second : y ≡ cell_at s j
  pub kinds : x.kind ≡ y.kind
  pub row : row_from x.kind e ≡ row_of x.kind

module _ {s : List ℕ} {i j : ℕ} {x y : Cell} {e : Entry} (w : Alike s i j x y e) where
  first : {f : Tree} → Unshares s i f → FieldsOf false s i x e f
  first h = by_entry w.first w.row h.1

  second : {g : Tree} → Unshares s j g → FieldsOf false s j y e g
  second h = by_entry w.second (rw (← w.kinds) w.row) h.1

  -- a pair of fields, asked at less than t
  abbrev pub Asked : ℕ → Code.Use → ℕ → ℕ → Type 0
  Asked t u n m = (field_measure u n < t) × (Refers u → Comparable s n m)

  pub parts : {t : ℕ} → Comparable s i j → 2 * i + 1 ≡ t → Asked t e.a x.a y.a × (Asked t e.b x.b y.b × Asked t e.c x.c y.c)
  parts {t} p m =
      let v = first (unshared p).0.1 in
      let z = second (unshared p).1.1 in
      (part e.a v.holds_a z.holds_a, (part e.b v.holds_b z.holds_b, part e.c v.holds_c z.holds_c))
    where
      part : {n k : ℕ} {f g : Tree} (u : Code.Use) → HeldField false s i (use_of u) n f → HeldField false s j (use_of u) k g → Asked t u n k
      part u h k = (field_less u h m, field_ready u h k)

  abbrev pub OneLabel : Type 0
  OneLabel = label_by_lem (use_of e.label) x.label ≡ label_by_lem (use_of e.label) y.label

  -- the same tree where label and fields are the same, and only there
  by_row : {r : Bool} → ((f g : Tree) (v : FieldsOf false s i x e f) (z : FieldsOf false s j y e g) → T r ↔ (OneLabel × ((v.a ≡ z.a) × ((v.b ≡ z.b) × (v.c ≡ z.c)))))
      → SameTree s i j r
  by_row q = answers λ f g h k.
      let v = first h in
      let z = second k in
      let vi = v.is in
      let zi = z.is in
      let d = w.kinds in
      Iff.trans (q f g v z) (λ p. let l = p.0 in let a = p.1.0 in let b = p.1.1.0 in let c = p.1.1.1 in cc, λ p. (cc, (cc, (cc, cc))))

  pub other_labels : (OneLabel → ⊥) → SameTree s i j false
  other_labels n = by_row λ f g v z. (λ t. absurd t, λ q. n q.0)

  -- what the answers about the fields say
  module _ {p : Bool} (fa : SameField s x.a y.a (use_of e.a) p) where
    pub no_first : p ≡ false → SameTree s i j p
    no_first n = by_row λ f g v z. (λ t. absurd (subst T n t), λ q. (field_same fa v.holds_a z.holds_a).1 q.1.0)

    module _ {o : Bool} (ya : p ≡ true) (fb : SameField s x.b y.b (use_of e.b) o) where
      pub no_second : o ≡ false → SameTree s i j o
      no_second n = by_row λ f g v z. (λ t. absurd (subst T n t), λ q. (field_same fb v.holds_b z.holds_b).1 q.1.1.0)

      pub by_third : {r : Bool} → OneLabel → o ≡ true → SameField s x.c y.c (use_of e.c) r → SameTree s i j r
      by_third l yb fc = by_row λ f g v z.
          let a = (field_same fa v.holds_a z.holds_a).0 (rw ya tt) in
          let b = (field_same fb v.holds_b z.holds_b).0 (rw yb tt) in
          let c = field_same fc v.holds_c z.holds_c in (λ t. (l, (a, (b, c.0 t))), λ q. c.1 q.1.1.1)
