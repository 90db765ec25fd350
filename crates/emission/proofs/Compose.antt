-- Trees emitted one after the other, and the cell behind them that refers to them, make one emitted tree. Over the uniform tree: no word
-- of any kind. Assumes nothing.
use Prim.Native.Nat.{ℕ, ◌+◌, ◌*◌, ◌-◌, ◌≤◌, ◌<◌}
use native.Mathlib.Decide.{dec_lt}
use native.Mathlib.Omega.{arith}
use mathlib.Core.Path.{◌≡◌, refl, sym, ap, ◌∙◌}
use mathlib.Core.List.{List, ◌++◌}
use lib.ListN.{length}
use lib.Seq.{sets, length-sets}
use Rattle.calculus.specs.Syntax.{unit}
use Rattle.format.specs.Table.{Sort, Use, unused, plain, refers}
use Rattle.format.specs.Cell.{Cell, cell_bytes}
use Rattle.format.specs.Tree.{Tree, raw, node, cells, refer, encode}
use Rattle.format.specs.Terms.{from_term_in, from_term}
use Rattle.format.specs.Book.{size_limit}
use Rattle.format.proofs.Encoding.{sets_append, length_encode}
use Rattle.cells.specs.Coded.{use_of}
use Rattle.cells.specs.declared.Cell.{Cell as Struct}
use Rattle.cells.specs.declared.Entry.{Entry}
use Rattle.cells.specs.declared.Use as Code
use Rattle.cells.specs.Held.{label_by_lem}
use Rattle.emission.specs.Emits.{Space, Emits, LastReady, Finishes, refer_by, ReferReady, row_cell, RowReady}
use Rattle.std.specs.Prelude.{Option, Some, None}

pub behind : (x y l : List ℕ) {k : List ℕ} (i : ℕ) {j : ℕ} → k ≡ sets l i x → j ≡ i + length x → sets k j y ≡ sets l i (x ++ y)
behind x y l i e f = rw (e, f) (sym (sets_append x y l i))

-- A tree that stands from cell m on; x is the next free cell.
pub record Placed (d e : List ℕ) (m x : ℕ) (t : Tree) : Type 0 where
  pub fits : x ≤ size_limit
  pub next : x ≡ m + cells t
  pub bytes : e ≡ sets d (8 * m) (encode m t)

-- ---- what an answer says of the tree

pub next_full : {r : Option ℕ} {x : ℕ} → r ≡ Some x → r ≡ None → ⊥
next_full p q = let z : ◌≡◌ {A = ℕ} 0 1 = cc in absurd (omega arith)

pub placed : {d e : List ℕ} {m x : ℕ} {r : Option ℕ} {t : Tree} → Emits d e m r t → r ≡ Some x → Placed d e m x t
placed {m = m} {x} {r} {t} p q =
    elim (dec_lt size_limit (m + cells t)) [
      | yes h ↦ absurd (next_full q (p.full h))
      | no h ↦
          let f = p.fits (omega (arith, h)) in
          let n : x ≡ m + cells t = cc (f.0, q) in
          record { fits = omega (arith, h); next = n; bytes = f.1 }
    ]

pub no_room : {d e : List ℕ} {m : ℕ} {r : Option ℕ} {t : Tree} → Emits d e m r t → r ≡ None → size_limit < m + cells t
no_room {m = m} {t = t} p q =
    elim (dec_lt size_limit (m + cells t)) [ yes h ↦ h | no h ↦ absurd (next_full (p.fits (omega (arith, h))).0 q) ]

-- a field that refers to nothing takes no cell
pub placed_raw : (d : List ℕ) (m v : ℕ) → m ≤ size_limit → Placed d d m m (raw v)
unfolding cells encode
placed_raw d m v h = record { fits = h; next = omega arith; bytes = refl }

pub emits_placed : {d e : List ℕ} {m x : ℕ} {t : Tree} → Placed d e m x t → Emits d e m (Some x) t
emits_placed p = record { fits = λ h. (ap Some p.next, p.bytes); full = λ h. absurd (omega (arith, p.fits, p.next)) }

pub emits_raw : (d : List ℕ) (m v : ℕ) → m ≤ size_limit → Emits d d m (Some m) (raw v)
emits_raw d m v h = emits_placed (placed_raw d m v h)

pub placed_length : {d e : List ℕ} {m x : ℕ} {t : Tree} → Placed d e m x t → length e ≡ length d
placed_length {d} {m = m} {t = t} p = ap length p.bytes ∙ length-sets d (8 * m) (encode m t)

pub placed_space : {d e : List ℕ} {m x : ℕ} {t : Tree} → Space d m → Placed d e m x t → Space e x
placed_space s p = record { long = omega (arith, placed_length p, s.long); used = p.fits }

-- ---- what stands in a field for a tree

pub refer_last : {d e : List ℕ} {m x : ℕ} {t : Tree} → Placed d e m x t → 1 ≤ cells t → x - 1 ≡ refer m t
unfolding cells refer
refer_last {t = raw x} p h = absurd (omega arith)
refer_last {t = node k l a b c} p h = omega (arith, p.next)

-- A tree that a field of this use and number can stand for.
pub data Stands : Use → ℕ → Tree → Type 0 where
  s_unused : {x : ℕ} → Stands unused x (raw 0)
  s_plain : {x : ℕ} → Stands plain x (raw x)
  s_refers : {o : Sort} {x : ℕ} {t : Tree} → 1 ≤ cells t → Stands (refers o) x t

pub refer_stands : {d e : List ℕ} {m x y : ℕ} {u : Use} {t : Tree} → Stands u x t → Placed d e m y t → refer_by u x y ≡ refer m t
unfolding refer
refer_stands s_unused p = refl
refer_stands s_plain p = refl
refer_stands (s_refers h) p = refer_last p h

positive : {o : Sort} {x : ℕ} {t : Tree} → Stands (refers o) x t → 1 ≤ cells t
positive (s_refers h) = h

pub refer_ready : {d e : List ℕ} {m x y : ℕ} {t : Tree} (u : Code.Use) → Stands (use_of u) x t → Placed d e m y t → ReferReady u y
refer_ready u h p = record { small = p.fits; last = λ l. omega (arith, p.next, positive (rw l.1 at h)) }

pub refer_fits : (u : Use) (x n : ℕ) → x < 65536 → n ≤ size_limit → refer_by u x n < 65536
refer_fits unused x n h g = omega arith
refer_fits plain x n h g = h
refer_fits (refers o) x n h g = omega arith

-- the last cell by its row, from the parts that are computed for it
pub row_finished : (t : Cell) (y : Entry) (x v w : ℕ) {d e : List ℕ} {l a b c : ℕ} {r : Option ℕ} → l ≡ label_by_lem (use_of y.label) t.label
    → a ≡ refer_by (use_of y.a) t.a x → b ≡ refer_by (use_of y.b) t.b v → c ≡ refer_by (use_of y.c) t.c w
    → Finishes d e w (record { kind = t.kind; label = l; a = a; b = b; c = c }) r → Finishes d e w (row_cell t y x v w) r
row_finished t y x v w el ea eb ec z = rw (el, ea, eb, ec) at z

pub row_last : (t : Cell) (y : Entry) (x v w : ℕ) {d : List ℕ} {z : Struct} → RowReady d t y x v w → z.a ≡ refer_by (use_of y.a) t.a x
    → z.b ≡ refer_by (use_of y.b) t.b v → z.c ≡ refer_by (use_of y.c) t.c w → LastReady d z
row_last t y x v w p ea eb ec =
    record {
      long = p.long;
      fits = record {
        a = rw ea (refer_fits (use_of y.a) t.a x p.fits.0 p.first.small);
        b = rw eb (refer_fits (use_of y.b) t.b v p.fits.1 p.second.small);
        c = rw ec (refer_fits (use_of y.c) t.c w p.fits.2 p.third.small);
      };
    }

-- ---- composition

-- Three trees one after the other, and the cell that refers to them.
pub emits_node : {d f g h e : List ℕ} {m x y z k l i j n : ℕ} {r : Option ℕ} {a b c : Tree}
    → Placed d f m x a → Placed f g x y b → Placed g h y z c → i ≡ refer m a → j ≡ refer x b → n ≡ refer y c
    → Finishes h e z (record { kind = k; label = l; a = i; b = j; c = n }) r → Emits d e m r (node k l a b c)
unfolding cells refer encode
emits_node {d} {f} {g} {h} {e} {m} {x} {y} {z} {k} {l} {i} {j} {n} {r} {a} {b} {c} p q o u v w s =
    record {
      fits = λ t. let s' = s.fits (omega (arith, p.next, q.next, o.next)) in
          (s'.0 ∙ ap Some (omega (arith, p.next, q.next, o.next)), bytes s'.1);
      full = λ t. s.full (omega (arith, p.next, q.next, o.next));
    }
  where
    last : List ℕ
    last = cell_bytes (record { kind = k; label = l; a = i; b = j; c = n })

    bytes : e ≡ sets h (8 * z) last → e ≡ sets d (8 * m) (encode m (node k l a b c))
    bytes t =
        t
        ∙ behind (encode y c) last g (8 * y) o.bytes (omega (arith, o.next, length_encode y c))
        ∙ behind (encode x b) (encode y c ++ last) f (8 * x) q.bytes (omega (arith, q.next, length_encode x b))
        ∙ behind (encode m a) (encode x b ++ (encode y c ++ last)) d (8 * m) p.bytes (omega (arith, p.next, length_encode m a))
        ∙ rw (u, v, w, q.next, p.next)

-- A tree that does not fit.
pub too_big : {d e : List ℕ} {m : ℕ} {t : Tree} → size_limit < m + cells t → Emits d e m None t
too_big h = record { fits = λ f. absurd (omega arith); full = λ f. refl }

-- a tree of one cell; the top value
pub emits_leaf : {d e : List ℕ} {m k l i j n : ℕ} {r : Option ℕ} → m ≤ size_limit
    → Finishes d e m (record { kind = k; label = l; a = i; b = j; c = n }) r → Emits d e m r (node k l (raw i) (raw j) (raw n))
unfolding refer
emits_leaf h f = emits_node (placed_raw _ _ _ h) (placed_raw _ _ _ h) (placed_raw _ _ _ h) refl refl refl f

pub emits_top : {d e : List ℕ} {m : ℕ} {r : Option ℕ} → m ≤ size_limit → Finishes d e m (record { kind = 18; label = 0; a = 0; b = 0; c = 0 }) r
    → Emits d e m r (from_term unit)
unfolding from_term_in
emits_top h f = emits_leaf h f
