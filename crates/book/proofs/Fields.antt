-- The tests of a cell's fields, by its entry in the code's table. Assumes nothing.
use Prim.Native.Nat.{ℕ, ◌*◌, ◌<◌}
use mathlib.Core.Path.{◌≡◌, refl, sym, ◌∙◌}
use mathlib.Core.Bool.{Bool, true, false, ◌&&◌}
use mathlib.Core.List.{List}
use Rattle.std.specs.Prelude as Std
use Rattle.std.specs.Prelude.{Some, None}
use Rattle.std.specs.Option.{option_eq}
use borrow.Author.Tests.{ltb-true}
use Rattle.format.specs.declared.Version.{Version}
use Rattle.format.specs.Table.{Use, unused, plain, refers, table, row_for, row_of}
use Rattle.format.specs.Cell.{byte, cell_at}
use Rattle.format.specs.Book.{reference_ok_lem}
use Rattle.format.proofs.Tests.{All, ◌also◌, view}
use Rattle.cells.specs.declared.Cell.{Cell}
use Rattle.cells.specs.declared.Entry.{Entry}
use Rattle.cells.specs.declared.Use as Uses
use Rattle.cells.specs.declared.Sort as Code
use Rattle.cells.specs.declared.Sort.TheVariants.{Types, Terms}
use Rattle.cells.specs.Coded.{as_cell, use_of, Refers, row_from}
use Rattle.cells.proofs.Rows.{uses}
use Rattle.book.specs.Form.{EveryField, is_of_sort_lem}

-- 7
pub lower : (i : ℕ) (u : Uses.Use) (x : ℕ) → reference_ok_lem i (use_of u) x ≡ true → Refers u → x < i
lower i u x h r = ltb-true x i (rw r.1 at h)

-- 8: a comparison with the sort of an entry
pub of_sort : (q : Code.Sort → Code.Sort → Bool) → q Types Types ≡ true → q Types Terms ≡ false → q Terms Types ≡ false → q Terms Terms ≡ true
    → (s : List ℕ) (x : ℕ) (e : Entry) (o : Code.Sort) {r : Bool} → row_from (byte s (8 * x)) e ≡ row_of (byte s (8 * x)) → r ≡ option_eq q e.sort (Some o)
    → r ≡ is_of_sort_lem s x o
unfolding cell_at
of_sort q f g h i s x e o w p = p ∙ go e.sort refl o
  where
    go : (n : Std.Option Code.Sort) → e.sort ≡ n → (o : Code.Sort) → option_eq q n (Some o) ≡ is_of_sort_lem s x o
    go None k Types = rw (← w, k)
    go None k Terms = rw (← w, k)
    go (Some Types) k Types = rw (← w, k) f
    go (Some Types) k Terms = rw (← w, k) g
    go (Some Terms) k Types = rw (← w, k) h
    go (Some Terms) k Terms = rw (← w, k) i

-- a cell as it was read, with its entry in a version
pub record Read (v : Version) (s : List ℕ) (i : ℕ) (e : Entry) (t : Cell) : Type 0 where
  pub is : as_cell t ≡ cell_at s i
  pub row : row_from t.kind e ≡ row_for v t.kind

-- a question asked of every field, by the uses in the entry
pub every : {q : Use → ℕ → Bool} {e : Entry} {t : Cell} {r : Bool}
    → r ≡ (q (use_of e.label) t.label && q (use_of e.a) t.a && q (use_of e.b) t.b && q (use_of e.c) t.c) → EveryField q e t r
every {e = e} {t} p = record { says = λ w k. let u = uses t.kind e w k in rw (u.label, u.a, u.b, u.c) p }

-- no label is a reference
abbrev NoReference : Use → Type 0
NoReference unused = Unit {0}
NoReference plain = Unit {0}
NoReference (refers o) = ⊥

labels : (v : Version) → All (λ r. NoReference r.label) (table v)
unfolding table
labels v = tt also tt also tt also tt also tt also tt also tt also tt also tt also tt also tt also tt also tt also tt also tt also tt also tt also tt

-- A question that is answered yes of all that is no reference need not be asked of the label.
pub by_numbers : {v : Version} {s : List ℕ} {i : ℕ} {q : Use → ℕ → Bool} {e : Entry} {t : Cell} {r : Bool} → Read v s i e t
    → ((x : ℕ) → q unused x ≡ true) → ((x : ℕ) → q plain x ≡ true)
    → r ≡ (q (use_of e.a) t.a && q (use_of e.b) t.b && q (use_of e.c) t.c) → EveryField q e t r
unfolding row_for
by_numbers {v} {q = q} {e = e} {t} rd f g p = record {
  says = λ w k.
      let u = uses t.kind e w k in
      let no = (view (λ r. NoReference r.label) (table v) (labels v) t.kind w (sym rd.row ∙ k)).1 in
      let yes = go w.label no t.label in
      rw (yes, u.a, u.b, u.c) p;
}
  where
    go : (u : Use) → NoReference u → (x : ℕ) → q u x ≡ true
    go unused n x = f x
    go plain n x = g x
    go (refers o) n x = absurd n
