-- Runs: how long they are, what they hold, what leaves them as they are. Over kind and field. Assumes nothing.
use Prim.Native.Nat.{ℕ, suc, ◌+◌, ◌*◌, ◌≤◌, ◌<◌}
use native.Mathlib.Omega.{arith}
use mathlib.Core.Bool.{Bool, true, false}
use mathlib.Core.Path.{◌≡◌, refl, sym, subst}
use mathlib.Core.List.{List}
use mathlib.Core.Option.{some}
use lib.ListN.{length}
use Rattle.calculus.specs.Syntax.{Ty, Term}
use Rattle.format.specs.declared.Version.TheVariants.{Two}
use Rattle.format.specs.Table.{Sort, type_sort, Use, unused, plain, refers, Row, row_of}
use Rattle.format.specs.Cell.{cell_at}
use Rattle.format.specs.Tree.{Tree, raw, node, kind_in, cells}
use Rattle.format.specs.Terms.{from_type, from_term}
use Rattle.format.proofs.Trees.{type_back, term_back}
use Rattle.cells.specs.Held.{IsCell, label_by_lem, HeldField, f_unused, f_plain, f_refers, HoldsType, HoldsTerm}
use Rattle.cells.proofs.Held.{kind_of_lem, below as lowered, unmarked, kept_cell}
use Rattle.emission.specs.Runs.{Run, r_unused, r_plain, r_refers, RunsType, RunsTerm}

pub grows : {q : Bool} {s : List ℕ} {x n e : ℕ} {u : Use} {t : Tree} → Run q s x u n t e → x ≤ e
grows r_unused = omega arith
grows r_plain = omega arith
grows (r_refers p k m f g h z _) = omega (arith, grows f, grows g, grows h, z)

-- a field that the row does not name has no cells
pub nothing : {q : Bool} {s : List ℕ} {x n e : ℕ} {t : Tree} → Run q s x unused n t e → x ≡ e
nothing r_unused = refl

-- what is referred to has a last cell, which lies within the buffer and ends the run
pub last : {q : Bool} {s : List ℕ} {x n e : ℕ} {o : Sort} {t : Tree} → Run q s x (refers o) n t e → x ≤ n
last (r_refers p k m f g h z _) = omega (arith, grows f, grows g, grows h)

pub run_within : {q : Bool} {s : List ℕ} {x n e : ℕ} {o : Sort} {t : Tree} → Run q s x (refers o) n t e → 8 * n + 8 ≤ length s
run_within (r_refers p k m f g h z _) = p.within

pub ends : {q : Bool} {s : List ℕ} {x n e : ℕ} {o : Sort} {t : Tree} → Run q s x (refers o) n t e → e ≡ suc n
ends (r_refers p k m f g h z _) = z

-- the same run, as it ends with its cell
pub whole : {q : Bool} {s : List ℕ} {x n e : ℕ} {o : Sort} {t : Tree} → Run q s x (refers o) n t e → Run q s x (refers o) n t (suc n)
whole r = rw (ends r) at r

-- the same run, its numbers told otherwise
pub at_run : {q : Bool} {s : List ℕ} {x y n m d e : ℕ} {u : Use} {t : Tree} → x ≡ y → n ≡ m → d ≡ e → Run q s x u n t d → Run q s y u m t e
at_run a b c r = rw (sym a, sym b, sym c) r

-- its cells are as many as the tree has
pub counts : {q : Bool} {s : List ℕ} {x n e : ℕ} {u : Use} {t : Tree} → Run q s x u n t e → e ≡ x + cells t
unfolding cells
counts r_unused = omega arith
counts r_plain = omega arith
counts (r_refers p k m f g h z _) = omega (arith, counts f, counts g, counts h, z)

-- a run is a held field
pub held : {q : Bool} {s : List ℕ} {x n e m : ℕ} {u : Use} {t : Tree} → e ≤ m → Run q s x u n t e → HeldField q s m u n t
held b r_unused = f_unused
held b r_plain = f_plain
held {m = m} b (r_refers {i = i} p k l f g h z d) =
    let low : i < m = omega (arith, z) in
    f_refers low p k l d (held (omega (arith, grows g, grows h)) f) (held (omega (arith, grows h)) g) (held (omega arith) h)

-- and where nothing is said of sorts and marks
pub bare : {q : Bool} {s : List ℕ} {x n e m : ℕ} {u : Use} {t : Tree} → e ≤ m → Run q s x u n t e → HeldField false s m u n t
bare b r = unmarked (held b r)

-- cells that are the same hold the same run
pub kept_run : {q : Bool} {s t : List ℕ} {x n e : ℕ} {u : Use} {f : Tree} → length t ≡ length s → ((i : ℕ) → x ≤ i → i < e → cell_at t i ≡ cell_at s i)
    → Run q s x u n f e → Run q t x u n f e
kept_run n w r_unused = r_unused
kept_run n w r_plain = r_plain
kept_run n w (r_refers {i = i} p k l f g h z d) =
    r_refers
    (kept_cell n (w i (omega (arith, grows f, grows g, grows h)) (omega (arith, z))) p)
    k
    l
    (kept_run n (λ j a b. w j a (omega (arith, a, b, grows g, grows h, z))) f)
    (kept_run n (λ j a b. w j (omega (arith, a, b, grows f)) (omega (arith, a, b, grows h, z))) g)
    (kept_run n (λ j a b. w j (omega (arith, a, b, grows f, grows g)) (omega (arith, a, b, z))) h)
    z
    d

pub record Parts (q : Bool) (s : List ℕ) (x i e k m : ℕ) (f g h : Tree) (r : Row) : Type 0 where
  pub l : ℕ
  pub a : ℕ
  pub b : ℕ
  pub c : ℕ
  pub y : ℕ
  pub z : ℕ
  pub cell : IsCell s i k l a b c
  pub label : m ≡ label_by_lem r.label l
  pub first : Run q s x r.a a f y
  pub second : Run q s y r.b b g z
  pub third : Run q s z r.c c h i
  pub last : e ≡ suc i

pub parts : {q : Bool} {s : List ℕ} {x i e k m : ℕ} {o : Sort} {f g h : Tree} {r : Row} → Run q s x (refers o) i (node k m f g h) e → row_of k ≡ some r → Parts q s x i e k m f g h r
parts {q} {s} {x} {i} {e} {k} {m} {o} {f} {g} {h} {r} (r_refers {y = y} {z = z} {l = l} {a = a'} {b = b'} {c = c'} {r = v'} p w n a b c d _) v =
    let j : v' ≡ r = cc (v, w) in
    subst (Parts q s x i e k m f g h) j (record { l = l; a = a'; b = b'; c = c'; y = y; z = z; cell = p; label = n; first = a; second = b; third = c; last = d })

-- the kind of its last cell is its tree's
pub run_kind : {q : Bool} {s : List ℕ} {x i e : ℕ} {o : Sort} {t : Tree} → Run q s x (refers o) i t e → (cell_at s i).kind ≡ kind_in t
unfolding kind_in
run_kind (r_refers p w n a b c d _) = kind_of_lem p

-- a run's last cell is what refers to it
pub below : {s : List ℕ} {x n i e : ℕ} {o : Sort} {t : Tree} → Run true s x (refers o) n t e → e ≤ i → n < i
below (r_refers p w n a b c d _) l = omega (arith, d, l)

pub plain_is : {s : List ℕ} {x n m e : ℕ} → Run true s x plain n (raw m) e → n ≡ m
plain_is r_plain = refl

-- what a run holds
run_held : {s : List ℕ} {x i e : ℕ} {o : Sort} {t : Tree} → Run true s x (refers o) i t e → HeldField true s (suc i) (refers o) i t
run_held {i = i} {e} r = lowered (held {m = e} (omega arith) r) (omega arith)

pub run_type : {s : List ℕ} {x i e : ℕ} (A : Ty) → Run true s x (refers type_sort) i (from_type A) e → HoldsType s i A
run_type A r = record { tree = from_type A; held = run_held r; is = sym (type_back A) }

pub holds_type : {s : List ℕ} {i : ℕ} {A : Ty} → RunsType s i A → HoldsType s i A
holds_type {A = A} r = run_type A r.run

pub holds_term : {s : List ℕ} {i : ℕ} {e : Term} → RunsTerm s i e → HoldsTerm s i e
holds_term {e = e} r = record { tree = from_term e; held = run_held r.run; is = sym (term_back Two e r.fits) }
