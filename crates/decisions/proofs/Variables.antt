-- Closedness by the row of a kind: one law for all kinds but the variable, and what the calls of `closed` need and say.
-- Assumes nothing.
use Prim.Native.Nat.{ℕ, suc, ◌+◌, ◌*◌, ◌≤◌, ◌<◌}
use native.Mathlib.Omega.{arith}
use mathlib.Core.Path.{◌≡◌, refl, sym, ap, ◌∙◌}
use mathlib.Core.Bool.{Bool, true, false, ◌&&◌}
use mathlib.Core.List.{List}
use mathlib.Core.Option.{some}
use lib.Dec.{ltb}
use lib.ListN.{length}
use Rattle.calculus.specs.Decide.{is_closed}
use Rattle.format.specs.declared.Version.TheVariants.{Two}
use Rattle.format.specs.Table.{Sort, type_sort, term_sort, refers, Row, table, row_for, row_of, inside}
use Rattle.format.specs.Cell.{Cell, cell_at}
use Rattle.format.specs.Tree.{Tree, node}
use Rattle.format.specs.Terms.{to_term_in, to_term}
use Rattle.format.proofs.Tests.{All, ◌also◌, view}
use Rattle.cells.specs.Held.{HeldField}
use Rattle.cells.specs.Coded.{use_of, row_from}
use Rattle.cells.specs.declared.Use as Code
use Rattle.cells.specs.declared.Use.TheVariants.{Unused, Plain, ToType, ToTerm}
use Rattle.cells.specs.declared.Entry.{Entry}
use Rattle.cells.proofs.Held.{row_at, lower, holds, var_at}
use Rattle.cells.proofs.Inside.{inside_most}
use Rattle.cells.proofs.Rows.{uses, FieldsOf, by_entry, field_measure, field_less, cell_less}
use Rattle.decisions.specs.Questions.{closed_in, TermAt, TermSays, ClosedAt, ClosedSays}
use Rattle.decisions.proofs.Parts.{and_both, and_none}

abbrev ClosedOf : Sort → ℕ → ℕ → Tree → Bool → Type 0
ClosedOf type_sort kind k t q = Unit {0}
ClosedOf term_sort kind k t q = (kind ≡ 16 → ⊥) → is_closed k (to_term t) ≡ q

abbrev ClosedRow : ℕ → Row → Type 0
ClosedRow k r =
    (l : ℕ) (a b c : Tree) → ClosedOf r.sort r.kind k (node r.kind l a b c)
    (closed_in r.c k c && (closed_in r.a (inside r.kind k) a && closed_in r.b k b))

and_true : (b : Bool) → b ≡ (b && true)
and_true true = refl
and_true false = refl

-- a choice's parts, the third asked first
third_first : (a b c : Bool) → (a && b && c) ≡ (c && (a && b))
third_first true true c = and_true c
third_first true false true = refl
third_first true false false = refl
third_first false b true = refl
third_first false b false = refl

closed_rows : (k : ℕ) → All (ClosedRow k) (table Two)
unfolding table to_term_in is_closed
closed_rows k =
    (λ l a b c. tt) also (λ l a b c. tt) also (λ l a b c. tt) also (λ l a b c. tt) also (λ l a b c. tt)
    also (λ l a b c n. absurd (n refl))
    also (λ l a b c n. refl)
    also (λ l a b c n. refl)
    also (λ l a b c n. and_true _)
    also (λ l a b c n. refl)
    also (λ l a b c n. and_true _)
    also (λ l a b c n. refl)
    also (λ l a b c n. and_true _)
    also (λ l a b c n. and_true _)
    also (λ l a b c n. and_true _)
    also (λ l a b c n. refl)
    also (λ l a b c n. third_first (is_closed k (to_term a)) (is_closed k (to_term b)) (is_closed k (to_term c)))
    also tt

closed_law : (k kind : ℕ) (r : Row) → row_of kind ≡ some r → r.sort ≡ term_sort → (kind ≡ 16 → ⊥) → (l : ℕ) (a b c : Tree)
    → is_closed k (to_term (node kind l a b c)) ≡ (closed_in r.c k c && (closed_in r.a (inside kind k) a && closed_in r.b k b))
unfolding row_for
closed_law k kind r e o n l a b c =
    let v = view (ClosedRow k) (table Two) (closed_rows k) kind r e in
    let z : (r.kind ≡ 16 → ⊥) = λ m. n (v.0 ∙ m) in
    rw v.0 (rw o at (v.1 l a b c) z)

-- ---- a field

no_term : (u : Code.Use) (k : ℕ) (f : Tree) → (u ≡ ToTerm → ⊥) → closed_in (use_of u) k f ≡ true
no_term Unused k f n = refl
no_term Plain k f n = refl
no_term ToType k f n = refl
no_term ToTerm k f n = absurd (n refl)

pub none_closed : {s : List ℕ} {u : Code.Use} {i k : ℕ} → (u ≡ ToTerm → ⊥) → ClosedSays s u i k true
none_closed {u = u} {k = k} n = record { says = λ c f h. sym (no_term u k f n) }

-- a term
pub closed_at : {s : List ℕ} {i k : ℕ} → k + suc i ≤ 131072 → TermAt s i → ClosedAt s ToTerm i k
closed_at {i = i} l t = record { at = record { cell = suc i; tree = t.holds.tree; holds = t.holds.held }; small = l }

pub closed_says : {s : List ℕ} {i k : ℕ} {r : Bool} → ClosedSays s ToTerm i k r → TermSays s i (is_closed k) r
closed_says {k = k} w = record { says = λ e h. w.says _ _ h.held ∙ ap (is_closed k) (sym h.is) }

as_term : {s : List ℕ} {u : Code.Use} {i c : ℕ} {f : Tree} → u ≡ ToTerm → HeldField true s c (use_of u) i f → HeldField true s c (refers term_sort) i f
as_term more h = rw more at h

pub term_within : {s : List ℕ} {u : Code.Use} {i c : ℕ} {f : Tree} → u ≡ ToTerm → HeldField true s c (use_of u) i f → 8 * i + 8 ≤ length s
term_within more h = (row_at (as_term more h)).within

pub few_binders : {s : List ℕ} {u : Code.Use} {i k : ℕ} → u ≡ ToTerm → ClosedAt s u i k → k < 131072
few_binders more p = omega (arith, lower (as_term more p.at.holds), p.small)

pub variable_closed : {s : List ℕ} {u : Code.Use} {i k : ℕ} {x : Cell} → u ≡ ToTerm → x ≡ cell_at s i → x.kind ≡ 16 → ClosedSays s u i k (ltb x.a k)
unfolding is_closed
variable_closed {k = k} more at_i m = record {
  says = λ c f h. rw (at_i, more) (sym (ap (is_closed k) (var_at (holds (as_term more h)) (rw at_i at m))));
}

-- x stands in cell i, no variable, of row e; g binders are over its field a
pub record Inner (s : List ℕ) (u : Code.Use) (i k : ℕ) (x : Cell) (e : Entry) (g : ℕ) : Type 0 where
  pub term : u ≡ ToTerm
  pub cell : x ≡ cell_at s i
  pub inner : x.kind ≡ 16 → ⊥
  pub row : row_from x.kind e ≡ row_of x.kind
  pub skips : g ≡ inside x.kind k

module _ {s : List ℕ} {u : Code.Use} {i k : ℕ} {x : Cell} {e : Entry} {g : ℕ} (w : Inner s u i k x e g) where
  by_fields : {c : ℕ} {f : Tree} → HeldField true s c (use_of u) i f → FieldsOf true s i x e f
  by_fields h = by_entry w.cell w.row (as_term w.term h)

  by_rule : (r : Row) → row_of x.kind ≡ some r → r.sort ≡ term_sort → (l : ℕ) (a b c : Tree)
      → is_closed k (to_term (node x.kind l a b c)) ≡ (closed_in (use_of e.c) k c && (closed_in (use_of e.a) g a && closed_in (use_of e.b) k b))
  by_rule r q o l a b c =
      let z = uses x.kind e r (w.row ∙ q) in rw (w.skips, ← z.a, ← z.b, ← z.c) (closed_law k x.kind r q o w.inner l a b c)

  fields_closed : {c : ℕ} {f : Tree} (h : HeldField true s c (use_of u) i f) → let o = by_fields h in
      closed_in (use_of u) k f ≡ (closed_in (use_of e.c) k o.c && (closed_in (use_of e.a) g o.a && closed_in (use_of e.b) k o.b))
  fields_closed {f = f} h =
      let o = by_fields h in
      let v = row_at (as_term w.term h) in
      ap (λ z. closed_in (use_of z) k f) w.term ∙ ap (λ t. is_closed k (to_term t)) o.is
      ∙ by_rule v.row (rw w.cell v.found) v.marked.0 _ o.a o.b o.c

  -- a field, asked at less than t
  abbrev pub Asked : ℕ → Code.Use → ℕ → ℕ → Type 0
  Asked t v n d = (field_measure v n < t) × ClosedAt s v n d

  pub parts : {t : ℕ} → ClosedAt s u i k → field_measure u i ≡ t → Asked t e.a x.a g × (Asked t e.b x.b k × Asked t e.c x.c k)
  parts {t} p m =
      let o = by_fields p.at.holds in
      let l = lower (as_term w.term p.at.holds) in
      let d = p.small in
      (part e.a o.holds_a (omega (arith, l, d, w.skips, inside_most x.kind k)), (part e.b o.holds_b (omega (arith, l, d)), part e.c o.holds_c (omega (arith, l, d))))
    where
      part : {n d : ℕ} {f : Tree} (v : Code.Use) → HeldField true s i (use_of v) n f → d + i ≤ 131072 → Asked t v n d
      part v h l = (
        omega (arith, cell_less u i (term_sort, ap use_of w.term) m, field_less v h refl),
        record { at = record { cell = i; tree = _; holds = h }; small = l },
      )

  -- what the answers about them say
  module _ {p : Bool} (wc : ClosedSays s e.c x.c k p) where
    pub open_third : p ≡ false → ClosedSays s u i k p
    open_third n = record { says = λ c f h. and_none _ (fields_closed h) (wc.says _ _ (by_fields h).holds_c) n }

    module _ {q : Bool} (yc : p ≡ true) (wa : ClosedSays s e.a x.a g q) where
      pub open_first : q ≡ false → ClosedSays s u i k q
      open_first n = record {
        says = λ c f h. and_both (fields_closed h) (wc.says _ _ (by_fields h).holds_c) yc (and_none _ refl (wa.says _ _ (by_fields h).holds_a) n);
      }

      pub by_second : {r : Bool} → q ≡ true → ClosedSays s e.b x.b k r → ClosedSays s u i k r
      by_second ya wb = record {
        says = λ c f h.
            and_both (fields_closed h) (wc.says _ _ (by_fields h).holds_c) yc
            (and_both refl (wa.says _ _ (by_fields h).holds_a) ya (wb.says _ _ (by_fields h).holds_b));
      }
