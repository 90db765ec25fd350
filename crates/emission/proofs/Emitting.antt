-- What `emit` needs and leaves, call by call, from the cell that it reads and the row of its kind. Over kind and field. Assumes nothing.
use Prim.Native.Nat.{ℕ, ◌+◌, ◌*◌, ◌≤◌, ◌<◌}
use mathlib.Core.Path.{◌≡◌, refl, ◌∙◌}
use mathlib.Core.Option.{some}
use mathlib.Core.Bool.{false}
use mathlib.Core.Logic.{◌⊎◌, inl, inr}
use mathlib.Core.List.{List}
use lib.ListN.{length}
use Rattle.format.specs.Table.{Sort, type_sort, term_sort, Use, unused, plain, refers, Row, row_of}
use Rattle.format.specs.Cell.{IsBytes, Cell, cell_at}
use Rattle.format.specs.Tree.{Tree, node}
use Rattle.format.specs.Book.{size_limit}
use Rattle.format.proofs.Tests.{cell_fits}
use Rattle.cells.specs.Coded.{use_of, row_from, Refers}
use Rattle.cells.specs.declared.Entry.{Entry}
use Rattle.cells.specs.declared.Use as Code
use Rattle.cells.specs.declared.Use.TheVariants.{Unused, Plain, ToType, ToTerm}
use Rattle.cells.specs.Held.{IsCell, label_by_lem, HeldField, f_unused, f_plain, f_refers}
use Rattle.cells.proofs.Held.{any_sort}
use Rattle.cells.proofs.Rows.{uses, field_measure, field_less}
use Rattle.emission.specs.Emits.{Space, Emits, RowReady, FieldReady, EmitsField}
use Rattle.std.specs.Prelude.{Option, Some}
use Rattle.emission.proofs.Compose.{emits_raw}
use Rattle.emission.proofs.Chain.{Each, Chain, Third, FieldsOf, row_chain, row_ready}
use Rattle.emission.proofs.Fields.{field_stands}

-- the fields of a cell that was read
pub fields_fit : (s : List ℕ) (i : ℕ) {t : Cell} → IsBytes s → t ≡ cell_at s i → (t.a < 65536) × (t.b < 65536) × (t.c < 65536)
fields_fit s i y e = let f = cell_fits s y i in rw e (f.1, f.2, f.3)

-- ---- the field of a use: nothing, or the tree of its cell

-- a reference is to a type or to a term
pub a_reference : {u : Code.Use} → (u ≡ ToType) ⊎ (u ≡ ToTerm) → Refers u
a_reference (inl e) = (type_sort, rw e refl)
a_reference (inr e) = (term_sort, rw e refl)

as_term : {s : List ℕ} {n x : ℕ} {t : Tree} (u : Code.Use) → Refers u → HeldField false s n (use_of u) x t → HeldField false s n (refers term_sort) x t
as_term u l h = any_sort (rw l.1 at h)

pub cell_ready : {s d : List ℕ} {u : Code.Use} {x m : ℕ} → Refers u → FieldReady s d u x m → FieldReady s d ToTerm x m
cell_ready l p = record { space = p.space; cell = p.cell; tree = p.tree; holds = as_term _ l p.holds }

pub cell_emits : {s d e : List ℕ} {u : Code.Use} {x m : ℕ} {r : Option ℕ} → Refers u → EmitsField s d e ToTerm x m r → EmitsField s d e u x m r
cell_emits l p = record { says = λ n t h. p.says n t (as_term _ l h) }

pub none_emits : {s d : List ℕ} {u : Code.Use} {x m : ℕ} → (u ≡ Unused) ⊎ (u ≡ Plain) → m ≤ size_limit → EmitsField s d d u x m (Some m)
none_emits {s} {d} {u} {x} {m} l h = record { says = λ n t p. go l n t p }
  where
    no_cell : (n : ℕ) (t : Tree) → HeldField false s n unused x t → Emits d d m (Some m) t
    no_cell n t f_unused = emits_raw d m 0 h

    number : (n : ℕ) (t : Tree) → HeldField false s n plain x t → Emits d d m (Some m) t
    number n t f_plain = emits_raw d m x h

    go : (u ≡ Unused) ⊎ (u ≡ Plain) → (n : ℕ) (t : Tree) → HeldField false s n (use_of u) x t → Emits d d m (Some m) t
    go (inl e) n t p = no_cell n t (rw e at p)
    go (inr e) n t p = number n t (rw e at p)

-- ---- the cell that is read

-- t is cell i, y its row
pub record Read (s : List ℕ) (i : ℕ) (t : Cell) (y : Entry) : Type 0 where
  pub cell : t ≡ cell_at s i
  pub row : row_from t.kind y ≡ row_of t.kind
  pub bytes : IsBytes s

pub read_fits : {s : List ℕ} {i : ℕ} {t : Cell} {y : Entry} → Read s i t y → (t.a < 65536) × (t.b < 65536) × (t.c < 65536)
read_fits {s} {i} j = fields_fit s i j.bytes j.cell

-- its tree by its fields, whatever these hold
pub by_row : {I : Type 0} (F : I → Use → ℕ → Tree → Type 0) (p q : I) {s : List ℕ} {i k l a b c : ℕ} {t : Cell} {y : Entry} {r : Row} {x f g h : Tree}
    → Read s i t y → IsCell s i k l a b c → row_of k ≡ some r → x ≡ node k (label_by_lem r.label l) f g h
    → F p r.a a f → F q r.b b g → F q r.c c h → FieldsOf F t y p q x
by_row F p q {k = k} {t = t} {y} {r} {f = f} {g} {h} j i e is u v w =
    let c : t ≡ _ = j.cell ∙ i.is in
    let z = uses k y r (rw c at j.row ∙ e) in
    record {
      a = f;
      b = g;
      c = h;
      is = rw (c, ← z.label) is;
      holds_a = rw (c, ← z.a) u;
      holds_b = rw (c, ← z.b) v;
      holds_c = rw (c, ← z.c) w;
    }

-- ---- the tree that it holds

pub cell_within : {s : List ℕ} {n x : ℕ} {o : Sort} {t : Tree} → HeldField false s n (refers o) x t → 8 * x + 8 ≤ length s
cell_within (f_refers l p e q m f g h) = p.within

pub fields_of : {s : List ℕ} {i n : ℕ} {t : Cell} {y : Entry} {o : Sort} {x : Tree} → Read s i t y → HeldField false s n (refers o) i x → FieldsOf (HeldField false s) t y i i x
fields_of {s} {i} j (f_refers l p e q m u v w) = by_row (HeldField false s) i i j p e (rw q refl) u v w

-- all that the cell may be said to hold
abbrev pub Trees : List ℕ → ℕ → Type 0
Trees s i = (n : ℕ) × (x : Tree) × HeldField false s n (refers term_sort) i x

pub record Started (s d : List ℕ) (i m : ℕ) (t : Cell) (y : Entry) : Type 0 where
  pub ready : FieldReady s d ToTerm i m
  pub read : Read s i t y

module _ {s d : List ℕ} {i m : ℕ} {t : Cell} {y : Entry} (j : Started s d i m t y) where
  own : FieldsOf (HeldField false s) t y i i j.ready.tree
  own = fields_of j.read j.ready.holds

  pub less : {n : ℕ} → 2 * i + 1 ≡ n → (field_measure y.a t.a < n) × (field_measure y.b t.b < n) × (field_measure y.c t.c < n)
  less e = (field_less y.a own.holds_a e, field_less y.b own.holds_b e, field_less y.c own.holds_c e)

  abbrev pub tree_chain : Chain (Trees s i) (λ w. w.1) d m
  tree_chain = row_chain (λ i u n x h. field_stands h) (read_fits j.read) j.ready.space (j.ready.cell, j.ready.tree, j.ready.holds) (λ w. fields_of j.read w.2)

  pub tree_ready : {f g h : List ℕ} {x v w : ℕ} → Third tree_chain f x g v h w → RowReady h t y x v w
  tree_ready = row_ready (λ i u n x h. field_stands h) (read_fits j.read) j.ready.space (j.ready.cell, j.ready.tree, j.ready.holds) (λ w. fields_of j.read w.2)

  -- what each call needs, and says
  pub ready_a : FieldReady s d y.a t.a m
  ready_a = record { space = j.ready.space; cell = i; tree = own.a; holds = own.holds_a }

  pub each_a : {e : List ℕ} {r : Option ℕ} → EmitsField s d e y.a t.a m r → Each tree_chain.a.tree d e m r
  each_a p w = p.says i _ (fields_of j.read w.2).holds_a

  module _ {f : List ℕ} {x : ℕ} where
    pub ready_b : Space f x → FieldReady s f y.b t.b x
    ready_b h = record { space = h; cell = i; tree = own.b; holds = own.holds_b }

    pub each_b : {e : List ℕ} {r : Option ℕ} → EmitsField s f e y.b t.b x r → Each tree_chain.b.tree f e x r
    each_b p w = p.says i _ (fields_of j.read w.2).holds_b

    pub ready_c : Space f x → FieldReady s f y.c t.c x
    ready_c h = record { space = h; cell = i; tree = own.c; holds = own.holds_c }

    pub each_c : {e : List ℕ} {r : Option ℕ} → EmitsField s f e y.c t.c x r → Each tree_chain.c.tree f e x r
    each_c p w = p.says i _ (fields_of j.read w.2).holds_c

pub trees : {s d e : List ℕ} {i m : ℕ} {r : Option ℕ} → Each {W = Trees s i} (λ w. w.1) d e m r → EmitsField s d e ToTerm i m r
trees p = record { says = λ n x h. p (n, x, h) }
