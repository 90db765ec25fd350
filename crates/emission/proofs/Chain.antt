-- The fields of a tree emitted one after the other, and then its last cell. A call says what it emits for all that its cells may be said to
-- hold: W is all of that, and N the tree for each. Over the uniform tree: no word of any kind. Assumes nothing.
use Prim.Native.Nat.{ℕ, ◌≤◌, ◌<◌}
use native.Mathlib.Omega.{arith}
use mathlib.Core.Path.{◌≡◌}
use mathlib.Core.List.{List}
use Rattle.calculus.specs.Syntax.{Ty, Term}
use Rattle.format.specs.declared.Version.TheVariants.{Two}
use Rattle.format.specs.Table.{type_sort, term_sort, Use, unused, plain, refers}
use Rattle.format.specs.Cell.{Cell}
use Rattle.format.specs.Tree.{Tree, raw, node, cells}
use Rattle.format.specs.Terms.{from_type, from_term}
use Rattle.format.proofs.Trees.{type_positive, term_positive}
use Rattle.cells.specs.Coded.{as_cell, use_of}
use Rattle.cells.specs.declared.Cell.{Cell as Struct}
use Rattle.cells.specs.declared.Entry.{Entry}
use Rattle.cells.specs.Held.{label_by_lem}
use Rattle.emission.specs.Emits.{Space, Emits, LastReady, Finishes, refer_by, RowReady}
use Rattle.std.specs.Prelude.{Option, Some, None}
use Rattle.emission.proofs.Compose.{Placed, placed, no_room, placed_raw, placed_space}
use Rattle.emission.proofs.Compose.{Stands, s_unused, s_plain, s_refers, refer_stands, refer_ready, refer_fits}
use Rattle.emission.proofs.Compose.{emits_node, too_big}

-- ---- a field of the tree

-- Of this use and number, it stands for the tree of each.
pub record Field (W : Type 0) : Type 0 where
  pub by : Use
  pub number : ℕ
  pub fits : number < 65536
  pub tree : W → Tree
  pub stands : (w : W) → Stands by number (tree w)

module _ {W : Type 0} where
  abbrev pub of_none : Field W
  of_none = record { by = unused; number = 0; fits = omega arith; tree = λ w. raw 0; stands = λ w. s_unused }

  abbrev pub of_type : (W → Ty) → Field W
  of_type f = record { by = refers type_sort; number = 0; fits = omega arith; tree = λ w. from_type (f w); stands = λ w. s_refers (type_positive (f w)) }

  abbrev pub of_term : (W → Term) → Field W
  of_term f = record { by = refers term_sort; number = 0; fits = omega arith; tree = λ w. from_term (f w); stands = λ w. s_refers (term_positive Two (f w)) }

-- ---- the tree, to be emitted from cell m on

abbrev pub Each : {W : Type 0} → (W → Tree) → List ℕ → List ℕ → ℕ → Option ℕ → Type 0
Each {W} t d e m r = (w : W) → Emits d e m r (t w)

pub record Chain (W : Type 0) (N : W → Tree) (d : List ℕ) (m : ℕ) : Type 0 where
  pub space : Space d m
  pub own : W
  pub kind : ℕ
  pub label : ℕ
  pub a : Field W
  pub b : Field W
  pub c : Field W
  pub is : (w : W) → N w ≡ node kind label (a.tree w) (b.tree w) (c.tree w)

-- what stands after the first field, which ends before cell x of f; after the second; and after all three
module _ {W : Type 0} {N : W → Tree} {d : List ℕ} {m : ℕ} (z : Chain W N d m) where
  pub record First (f : List ℕ) (x : ℕ) : Type 0 where
    pub first : (w : W) → Placed d f m x (z.a.tree w)

  pub record Second (f : List ℕ) (x : ℕ) (g : List ℕ) (y : ℕ) : Type 0 where
    pub so_far : First f x
    pub second : (w : W) → Placed f g x y (z.b.tree w)

  pub record Third (f : List ℕ) (x : ℕ) (g : List ℕ) (y : ℕ) (h : List ℕ) (v : ℕ) : Type 0 where
    pub so_far : Second f x g y
    pub third : (w : W) → Placed g h y v (z.c.tree w)

  pub first : {f : List ℕ} {x : ℕ} {r : Option ℕ} → Each z.a.tree d f m r → r ≡ Some x → First f x
  first p q = record { first = λ w. placed (p w) q }

  pub none_first : {e : List ℕ} {r : Option ℕ} → Each z.a.tree d e m r → r ≡ None → Each N d e m None
  unfolding cells
  none_first p q w = rw (z.is w) (too_big (omega (arith, no_room (p w) q)))

-- A tree that is referred to ends behind cell 0.
abbrev pub Ends : Use → ℕ → Type 0
Ends unused x = Unit {0}
Ends plain x = Unit {0}
Ends (refers o) x = 1 ≤ x

ends_of : {d e : List ℕ} {m n x : ℕ} {u : Use} {t : Tree} → Stands u n t → Placed d e m x t → Ends u x
ends_of s_unused p = Prim.tt
ends_of s_plain p = Prim.tt
ends_of (s_refers h) p = omega (arith, p.next)

-- The last cell: each field has the number of its tree's last cell, or its own.
abbrev pub last_of : {W : Type 0} {N : W → Tree} {d : List ℕ} {m : ℕ} → Chain W N d m → ℕ → ℕ → ℕ → Struct
last_of z x y v =
    record {
      kind = z.kind;
      label = z.label;
      a = refer_by z.a.by z.a.number x;
      b = refer_by z.b.by z.b.number y;
      c = refer_by z.c.by z.c.number v;
    }

module _ {W : Type 0} {N : W → Tree} {d : List ℕ} {m : ℕ} {z : Chain W N d m} where
  module _ {f : List ℕ} {x : ℕ} (k : First z f x) where
    pub second_space : Space f x
    second_space = placed_space z.space (k.first z.own)

    pub second : {g : List ℕ} {y : ℕ} {r : Option ℕ} → Each z.b.tree f g x r → r ≡ Some y → Second z f x g y
    second p q = record { so_far = k; second = λ w. placed (p w) q }

    pub second_none : z.b ≡ of_none → Second z f x f x
    second_none e = record { so_far = k; second = λ w. rw e (placed_raw f x 0 second_space.used) }

    pub none_second : {e : List ℕ} {r : Option ℕ} → Each z.b.tree f e x r → r ≡ None → Each N d e m None
    unfolding cells
    none_second p q w = rw (z.is w) (too_big (omega (arith, (k.first w).next, no_room (p w) q)))

  module _ {f g : List ℕ} {x y : ℕ} (k : Second z f x g y) where
    pub third_space : Space g y
    third_space = placed_space (second_space k.so_far) (k.second z.own)

    pub third : {h : List ℕ} {v : ℕ} {r : Option ℕ} → Each z.c.tree g h y r → r ≡ Some v → Third z f x g y h v
    third p q = record { so_far = k; third = λ w. placed (p w) q }

    pub third_none : z.c ≡ of_none → Third z f x g y g y
    third_none e = record { so_far = k; third = λ w. rw e (placed_raw g y 0 third_space.used) }

    pub none_third : {e : List ℕ} {r : Option ℕ} → Each z.c.tree g e y r → r ≡ None → Each N d e m None
    unfolding cells
    none_third p q w = rw (z.is w) (too_big (omega (arith, (k.so_far.first w).next, (k.second w).next, no_room (p w) q)))

  module _ {f g h : List ℕ} {x y v : ℕ} (k : Third z f x g y h v) where
    last_space : Space h v
    last_space = placed_space (third_space k.so_far) (k.third z.own)

    pub ends : Ends z.a.by x × Ends z.b.by y × Ends z.c.by v
    ends =
        let w = z.own in
        (ends_of (z.a.stands w) (k.so_far.so_far.first w), ends_of (z.b.stands w) (k.so_far.second w), ends_of (z.c.stands w) (k.third w))

    pub last_ready : LastReady h (last_of z x y v)
    last_ready =
        record {
          long = last_space.long;
          fits = record {
            a = refer_fits z.a.by z.a.number x z.a.fits (second_space k.so_far.so_far).used;
            b = refer_fits z.b.by z.b.number y z.b.fits (third_space k.so_far).used;
            c = refer_fits z.c.by z.c.number v z.c.fits last_space.used;
          };
        }

    pub emitted : {e : List ℕ} {r : Option ℕ} → Finishes h e v (as_cell (last_of z x y v)) r → Each N d e m r
    emitted l w =
        let p = k.so_far.so_far.first w in
        let q = k.so_far.second w in
        rw (z.is w)
        (emits_node p q (k.third w) (refer_stands (z.a.stands w) p) (refer_stands (z.b.stands w) q) (refer_stands (z.c.stands w) (k.third w)) l)

-- ---- the same by the row y of the cell t; F says which trees a field stands for

pub record FieldsOf {I : Type 0} (F : I → Use → ℕ → Tree → Type 0) (t : Cell) (y : Entry) (p q : I) (x : Tree) : Type 0 where
  pub a : Tree
  pub b : Tree
  pub c : Tree
  pub is : x ≡ node t.kind (label_by_lem (use_of y.label) t.label) a b c
  pub holds_a : F p (use_of y.a) t.a a
  pub holds_b : F q (use_of y.b) t.b b
  pub holds_c : F q (use_of y.c) t.c c

module _ {I : Type 0} {F : I → Use → ℕ → Tree → Type 0} (stands : (i : I) (u : Use) (n : ℕ) (x : Tree) → F i u n x → Stands u n x)
    {t : Cell} {y : Entry} {W : Type 0} {p q : W → I} {N : W → Tree} {d : List ℕ} {m : ℕ} (l : (t.a < 65536) × (t.b < 65536) × (t.c < 65536))
    (s : Space d m) (own : W) (o : (w : W) → FieldsOf F t y (p w) (q w) (N w)) where
  abbrev pub row_chain : Chain W N d m
  row_chain =
      record {
        space = s;
        own = own;
        kind = t.kind;
        label = label_by_lem (use_of y.label) t.label;
        a = record { by = use_of y.a; number = t.a; fits = l.0; tree = λ w. (o w).a; stands = λ w. stands _ _ _ _ (o w).holds_a };
        b = record { by = use_of y.b; number = t.b; fits = l.1; tree = λ w. (o w).b; stands = λ w. stands _ _ _ _ (o w).holds_b };
        c = record { by = use_of y.c; number = t.c; fits = l.2; tree = λ w. (o w).c; stands = λ w. stands _ _ _ _ (o w).holds_c };
        is = λ w. (o w).is;
      }

  pub row_ready : {f g h : List ℕ} {x v w : ℕ} → Third row_chain f x g v h w → RowReady h t y x v w
  row_ready k =
      record {
        long = (last_ready k).long;
        fits = l;
        first = refer_ready y.a (stands _ _ _ _ (o own).holds_a) (k.so_far.so_far.first own);
        second = refer_ready y.b (stands _ _ _ _ (o own).holds_b) (k.so_far.second own);
        third = refer_ready y.c (stands _ _ _ _ (o own).holds_c) (k.third own);
      }
