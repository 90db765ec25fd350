-- A cell that passes rows 5 to 8, over cells that are loaded, is loaded by writing it down. Over kind and field. Assumes nothing.
use Prim.Native.Nat.{ℕ, zero, suc, ◌+◌, ◌*◌, ◌≤◌, ◌<◌}
use native.Mathlib.Omega.{arith}
use mathlib.Core.Path.{◌≡◌, refl, ap, ◌∙◌, sym}
use mathlib.Core.Bool.{Bool, true, false, not}
use mathlib.Core.Logic.{◌⊎◌, inl, inr, ⊎_elim}
use mathlib.Core.Option.{some}
use mathlib.Core.List.{List}
use lib.Dec.{T, ltb, ltb→lt, nltb→le}
use lib.ListN.{length}
use lib.Seq.{sets}
use Rattle.format.specs.declared.Version.{Version}
use Rattle.format.specs.declared.Version.TheVariants.{Two}
use Rattle.format.specs.Table.{Sort, type_sort, term_sort, Use, unused, plain, refers, Row, table, row_of}
use Rattle.format.specs.Cell.{IsBytes, Cell, cell_at, cell_bytes}
use Rattle.format.specs.Tree.{Tree, tree_at}
use Rattle.format.specs.Terms.{to_type}
use Rattle.format.specs.Book.{lower_of, leads_to}
use Rattle.format.specs.Widths.{wide_cell, wide_cells}
use Rattle.format.proofs.Restamping.{wide_cell_lem, wide_sound, wide_bytes}
use Rattle.format.proofs.Tests.{CellOk, cell_fault_says, sort_is_says, cell_fits}
use Rattle.cells.specs.Coded.{as_cell, CellFits}
use Rattle.cells.specs.declared.Cell.{Cell as Struct}
use Rattle.cells.specs.Held.{mark, MarkIs, HeldField, f_unused, f_refers, Same}
use Rattle.cells.proofs.Held.{same_cell, same_field_lem, row_passes, Written, written}
use Rattle.cells.proofs.Unshared.{more, fields}
use Rattle.loading.specs.Marks.{mark_by, MarkedReady, marked_by}
use Rattle.loading.specs.Loaded.{Loadable, Loaded, LoadsNext}
use Rattle.loading.proofs.Marking.{Names, marked, mark_ready, NewThird, of_type, of_term, third}

-- ---- field c is kept, or the row does not name it

abbrev Kept : Use → ℕ → ℕ → Type 0
Kept u x y = (u ≡ unused) ⊎ (x ≡ y)

held_third : {s : List ℕ} {i x y : ℕ} {u : Use} {t : Tree} → Kept u y x → HeldField true s i u x t → HeldField true s i u y t
held_third (inl e) h = rw e (go (rw e at h))
  where
    go : {s : List ℕ} {i x y : ℕ} {t : Tree} → HeldField true s i unused x t → HeldField true s i unused y t
    go f_unused = f_unused
held_third (inr e) h = rw e h

lower_kept : (i x y : ℕ) (u : Use) → Kept u x y → lower_of i u x ≡ lower_of i u y
lower_kept i x y u (inl e) = rw e
lower_kept i x y u (inr e) = rw e

leads_third : (i : ℕ) (t : Cell) (c : ℕ) (r : Row) → row_of t.kind ≡ some r → Kept r.c c t.c → (f : ℕ)
    → leads_to i (record { kind = t.kind; label = t.label; a = t.a; b = t.b; c = c }) f ≡ leads_to i t f
leads_third i t c r e h zero = rw e
leads_third i t c r e h (suc zero) = rw e
leads_third i t c r e h (suc (suc f)) = rw e (lower_kept i c t.c r.c h)

-- no type names field c
abbrev is_free : Row → Bool
is_free r = elim r.sort [ type_sort ↦ elim r.c [ unused ↦ true | plain ↦ false | refers o ↦ false ] | term_sort ↦ true ]

type_third : (k : ℕ) (r : Row) → row_of k ≡ some r → r.sort ≡ type_sort → r.c ≡ unused
unfolding table
type_third k r e q = go r.c (rw q at (row_passes is_free tt k r e).1)
  where
    go : (u : Use) → T (elim u [ unused ↦ true | plain ↦ false | refers o ↦ false ]) → u ≡ unused
    go unused t = refl
    go plain t = absurd t
    go (refers o) t = absurd t

-- ---- one cell more

-- cells that are loaded stay so while they stay the same
loaded_same : {b s s' : List ℕ} {i : ℕ} → Loaded b s i → Same s s' i → Loaded b s' i
loaded_same l q =
    record {
      long = q.long ∙ l.long;
      held = λ j h o f. same_field_lem q h (l.held j h o f);
      leads = λ j h f. ap (λ (t : Cell). leads_to j t f) (same_cell q h) ∙ l.leads j h f;
    }

-- the cell written: its field c may be new
loaded_more : {b s s' : List ℕ} {i c : ℕ} (k : CellOk Two b i) → Loaded b s' i
    → Written s s' i (record { kind = (cell_at b i).kind; label = (cell_at b i).label; a = (cell_at b i).a; b = (cell_at b i).b; c = c })
    → Kept k.row.c c (cell_at b i).c → MarkIs k.row.sort c (tree_at b i)
    → Loaded b s' (i + 1)
loaded_more {b} {s} {s'} {i} {c} k l w q m =
    let n = fields k l.held in
    let h : HeldField true s' (suc i) (refers k.row.sort) i (tree_at b i)
    = rw n.is (f_refers {n = suc i} {x = i} (omega arith) w.there k.found refl (refl, rw n.is at m) n.held_a n.held_b (held_third q n.held_c)) in
    record {
      long = l.long;
      held = more l.held (λ o e. rw ((sort_is_says o k.row).0 (rw k.found at e)) at h);
      leads = more l.leads (λ f. ap (λ (t : Cell). leads_to i t f) w.there.is ∙ leads_third i (cell_at b i) c k.row k.found q f);
    }

-- the kinds below 16 are types, the others terms
abbrev is_sorted : Row → Bool
is_sorted r = elim r.sort [ type_sort ↦ ltb r.kind 16 | term_sort ↦ not (ltb r.kind 16) ]

by_kind : (k : ℕ) (r : Row) → row_of k ≡ some r → ((k < 16) × (r.sort ≡ type_sort)) ⊎ ((16 ≤ k) × (r.sort ≡ term_sort))
unfolding table
by_kind k r e = let v = row_passes is_sorted tt k r e in rw v.0 (go r.sort refl v.1)
  where
    go : (o : Sort) → r.sort ≡ o → T (elim r.sort [ type_sort ↦ ltb r.kind 16 | term_sort ↦ not (ltb r.kind 16) ]) →
        ((r.kind < 16) × (r.sort ≡ type_sort)) ⊎ ((16 ≤ r.kind) × (r.sort ≡ term_sort))
    go type_sort q t = inl (ltb→lt r.kind 16 (rw q at t), q)
    go term_sort q t = inr (nltb→le r.kind 16 (rw q at t), q)

type_row : (k : ℕ) (r : Row) → row_of k ≡ some r → k < 16 → r.sort ≡ type_sort
type_row k r e h = ⊎_elim (λ x. x.1) (λ x. absurd (omega (arith, x.0, h))) (by_kind k r e)

term_row : (k : ℕ) (r : Row) → row_of k ≡ some r → 16 ≤ k → r.sort ≡ term_sort
term_row k r e h = ⊎_elim (λ x. absurd (omega (arith, x.0, h))) (λ x. x.1) (by_kind k r e)

-- Cell i of the book c before it is written: t as it was read and widened.
pub record Read (v : Version) (c s : List ℕ) (i : ℕ) (x t : Cell) : Type 0 where
  pub next : LoadsNext c s i v
  pub own : x ≡ cell_at c i
  pub cell : t ≡ wide_cell v x
  pub bytes : IsBytes c

module _ {v : Version} {c₀ s : List ℕ} {i : ℕ} {x t : Cell} (n : Read v c₀ s i x t) where
  abbrev b : List ℕ
  b = wide_cells v c₀

  cell : t ≡ cell_at b i
  cell = n.cell ∙ ap (wide_cell v) n.own ∙ sym (wide_cell_lem v c₀ n.next.count i n.next.cells n.next.within)

  ok : CellOk Two b i
  ok = (cell_fault_says Two b i).0 (wide_sound v c₀ n.next.count n.next.cells i n.next.within n.next.sound)

  row : row_of t.kind ≡ some ok.row
  row = ap (λ (x : Cell). row_of x.kind) cell ∙ ok.found

  type_cell : t.kind < 16 → Names s i type_sort t (tree_at b i)
  type_cell q =
      rw cell record { row = ok.row; found = ok.found; sort = type_row t.kind ok.row row q; fields = fields ok n.next.done.held }

  type_marked : {c : ℕ} → t.kind < 16 → c ≡ mark_by s t t.kind → c ≡ mark (to_type (tree_at b i))
  type_marked q h = h ∙ marked t.kind (type_cell q) refl

  pub ready : MarkedReady s t
  ready = record { ready = λ q. mark_ready (type_cell q) }

  fields_fit : (t.label < 256) × (t.a < 65536) × (t.b < 65536) × (t.c < 65536)
  fields_fit = rw cell (cell_fits b (wide_bytes v c₀ n.bytes) i)

  third_kept : {c : ℕ} → NewThird s t c → Kept ok.row.c c (cell_at b i).c
  third_kept (of_type q h) = inl (type_third (cell_at b i).kind ok.row ok.found (type_row t.kind ok.row row q))
  third_kept (of_term q h) = inr (h ∙ ap (λ (x : Cell). x.c) cell)

  third_marked : {c : ℕ} → NewThird s t c → MarkIs ok.row.sort c (tree_at b i)
  third_marked (of_type q h) = rw (type_row t.kind ok.row row q) (type_marked q h)
  third_marked (of_term q h) = rw (term_row t.kind ok.row row q) tt

  pub room : 8 * i + 8 ≤ length s
  room = omega (arith, n.next.done.long, n.next.few)

  pub fits : {z : Struct} → as_cell z ≡ t → CellFits z
  fits e =
      record {
        a = rw (ap (λ (x : Cell). x.a) e) fields_fit.1;
        b = rw (ap (λ (x : Cell). x.b) e) fields_fit.2;
        c = rw (ap (λ (x : Cell). x.c) e) fields_fit.3;
      }

  loaded_by : {s' : List ℕ} {c : ℕ} → NewThird s t c
      → s' ≡ sets s (8 * i) (cell_bytes (record { kind = t.kind; label = t.label; a = t.a; b = t.b; c = c })) → Loaded b s' (i + 1)
  loaded_by h g =
      let w = rw cell at (written _ room g) in
      loaded_more ok (loaded_same n.next.done w.same) w (third_kept h) (third_marked h)

  pub loaded : {s' : List ℕ} → s' ≡ sets s (8 * i) (cell_bytes (marked_by s t)) → Loaded b s' (i + 1)
  loaded g = loaded_by (third s t) g

-- none is loaded at first
pub loaded_none : {b s : List ℕ} {n : ℕ} {v : Version} → Loadable b s n v → Loaded (wide_cells v b) s 0
loaded_none l = record { long = l.long; held = λ j h. absurd (omega arith); leads = λ j h. absurd (omega arith) }

pub loads_next : {b s s' : List ℕ} {n i : ℕ} {v : Version} → Loadable b s n v → i < n → Loaded (wide_cells v b) s' i → LoadsNext b s' i v
loads_next {i = i} l h d = record { count = _; cells = l.cells; within = h; few = omega (arith, l.few); sound = l.sound i h; done = d }
