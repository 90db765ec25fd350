-- Rows 5 to 8 of a cell, from the answers of its fields' tests; of cells ascending; and of the part of cells alone, which is tested
-- like the whole. Assumes nothing.
use Prim.Native.Nat.{ℕ, zero, suc, ◌+◌, ◌*◌, ◌-◌, ◌≤◌, ◌<◌}
use mathlib.Core.Path.{◌≡◌, refl, sym, ◌∙◌}
use mathlib.Core.Bool.{Bool, true, false, false≢true, and-eq-true_iff}
use mathlib.Core.Option.{Option, none, some}
use mathlib.Core.List.{List}
use Rattle.std.specs.Prelude as Std
use Rattle.std.specs.Prelude.{Some, None, is_some, Result, Ok, Err}
use native.Mathlib.Omega.{arith}
use native.Mathlib.Numerals.{add-one}
use borrow.Author.Tests.{ltb-true}
use lib.ListN.{length, take}
use lib.Seq.{get_or-take}
use Rattle.format.specs.declared.Version.{Version}
use Rattle.format.specs.Table as Table
use Rattle.format.specs.Table.{type_sort, term_sort, Use, unused, plain, refers, Row, row_for}
use Rattle.format.specs.Cell as Format
use Rattle.format.specs.Cell.{cell_at}
use Rattle.format.specs.Book.{Fault, bad_kind, bad_unnamed, bad_reference, bad_sort}
use Rattle.format.specs.Book.{unnamed_ok_lem, reference_ok_lem, sort_ok_lem, every_field, first_bad, row_fault, cell_fault, cells_finding}
use Rattle.cells.specs.declared.Cell.{Cell}
use Rattle.cells.specs.declared.Entry.{Entry}
use Rattle.cells.specs.declared.Sort as Code
use Rattle.cells.specs.declared.Sort.TheVariants.{Types, Terms}
use Rattle.cells.specs.Coded.{as_cell, use_of, Refers, row_from}
use Rattle.cells.proofs.Rows.{uses}
use Rattle.answers.specs.Answer.{refused, fault_number}
use Rattle.answers.specs.Cases.{refusal_answer}
use Rattle.answers.specs.declared.Refusal.{Refusal}
use Rattle.answers.specs.declared.Refusal.TheVariants.{Kind, Unnamed, Reference, Sort}
use Rattle.book.specs.Form.{MayAsk, EveryField, ChecksAs, at_cell, CellCheck, CellsCheck}
use Rattle.book.proofs.Fields.{Read, lower}

-- ---- one cell

found : (v : Version) (s : List ℕ) (i : ℕ) (f : Fault) (q : Refusal) → refusal_answer q ≡ refused (fault_number f) i → cell_fault v s i ≡ some f → CellCheck v s i (Err q)
found v s i f q h e = record { says = rw e (q, refl, h) }

clear : (v : Version) (s : List ℕ) (i : ℕ) → cell_fault v s i ≡ none → CellCheck v s i (Ok tt)
clear v s i e = record { says = rw e refl }

-- the row of a known kind
record Known (k : ℕ) (e : Entry) : Type 0 where
  row : Row
  found : row_from k e ≡ some row

abbrev row_with : ℕ → Entry → Table.Sort → Row
row_with k e o = record { kind = k; sort = o; label = use_of e.label; a = use_of e.a; b = use_of e.b; c = use_of e.c }

known : (k : ℕ) (e : Entry) → is_some e.sort ≡ true → Known k e
known k e h = go e.sort refl
  where
    go : (o : Std.Option Code.Sort) → e.sort ≡ o → Known k e
    go (Some Types) p = record { row = row_with k e type_sort; found = rw p }
    go (Some Terms) p = record { row = row_with k e term_sort; found = rw p }
    go None p = absurd (false≢true (rw p at h))

unknown : (k : ℕ) (e : Entry) → is_some e.sort ≡ false → row_from k e ≡ none
unknown k e h = go e.sort refl
  where
    go : (o : Std.Option Code.Sort) → e.sort ≡ o → row_from k e ≡ none
    go (Some o) p = absurd (false≢true (sym (rw p at h)))
    go None p = rw p refl

-- a question that is answered yes of every field
record Answered (q : Use → ℕ → Bool) (r : Row) (t : Format.Cell) : Type 0 where
  label : q r.label t.label ≡ true
  a : q r.a t.a ≡ true
  b : q r.b t.b ≡ true
  c : q r.c t.c ≡ true

every_field_true : (q : Use → ℕ → Bool) (r : Row) (t : Format.Cell) → every_field q r t ≡ true → Answered q r t
every_field_true q r t h =
    let p = (and-eq-true_iff _ _).0 h in
    let o = (and-eq-true_iff _ _).0 p.0 in
    let n = (and-eq-true_iff _ _).0 o.0 in
    record { label = n.0; a = n.1; b = o.1; c = p.1 }

-- the cells that a cell refers to have a kind byte
abbrev pub Within : List ℕ → Entry → Cell → Type 0
Within s = MayAsk (λ u x. Refers u → 8 * x < length s)

module _ {v : Version} {s : List ℕ} {i : ℕ} {e : Entry} {t : Cell} (read : Read v s i e t) where
  pub kind_unknown : is_some e.sort ≡ false → CellCheck v s i (Err (Kind i))
  unfolding cell_fault row_fault
  kind_unknown h =
      found v s i bad_kind (Kind i) refl
      (rw (← read.is, ← read.row, unknown t.kind e h))

  fault : (w : Row) → row_from t.kind e ≡ some w → cell_fault v s i ≡ row_fault s i (as_cell t) (some w)
  unfolding cell_fault
  fault w k = rw (← read.is, ← read.row, k)

  pub not_zero : is_some e.sort ≡ true → {a : Bool} → EveryField unnamed_ok_lem e t a → a ≡ false → CellCheck v s i (Err (Unnamed i))
  unfolding row_fault first_bad
  not_zero h {a} p n =
      let w = known t.kind e h in
      found v s i bad_unnamed (Unnamed i) refl
      (fault w.row w.found ∙ rw (← p.says w.row w.found, n))

  pub not_lower : is_some e.sort ≡ true → {a b : Bool} → EveryField unnamed_ok_lem e t a → a ≡ true → EveryField (reference_ok_lem i) e t b → b ≡ false
      → CellCheck v s i (Err (Reference i))
  unfolding row_fault first_bad
  not_lower h {a} {b} p m q n =
      let w = known t.kind e h in
      found v s i bad_reference (Reference i) refl
      (fault w.row w.found
      ∙ rw (← p.says w.row w.found, m, ← q.says w.row w.found, n))

  pub not_sorted : is_some e.sort ≡ true → {a b c : Bool} → EveryField unnamed_ok_lem e t a → a ≡ true → EveryField (reference_ok_lem i) e t b → b ≡ true
      → EveryField (sort_ok_lem s) e t c → c ≡ false → CellCheck v s i (Err (Sort i))
  unfolding row_fault first_bad
  not_sorted h {a} {b} {c} p m q n r o =
      let w = known t.kind e h in
      found v s i bad_sort (Sort i) refl
      (fault w.row w.found
      ∙ rw (← p.says w.row w.found, m, ← q.says w.row w.found, n, ← r.says w.row w.found, o))

  pub all_clear : is_some e.sort ≡ true → {a b c : Bool} → EveryField unnamed_ok_lem e t a → a ≡ true → EveryField (reference_ok_lem i) e t b → b ≡ true
      → EveryField (sort_ok_lem s) e t c → c ≡ true → CellCheck v s i (Ok tt)
  unfolding row_fault first_bad
  all_clear h {a} {b} {c} p m q n r o =
      let w = known t.kind e h in
      clear v s i
      (fault w.row w.found
      ∙ rw (← p.says w.row w.found, m, ← q.says w.row w.found, n, ← r.says w.row w.found, o))

  -- cells that are lower than one within the bytes are within them
  pub within : is_some e.sort ≡ true → 8 * i + 8 ≤ length s → {b : Bool} → EveryField (reference_ok_lem i) e t b → b ≡ true → Within s e t
  within h l {b} q n =
      let w = known t.kind e h in
      let r = uses t.kind e w.row w.found in
      let f = every_field_true (reference_ok_lem i) w.row (as_cell t) (sym (q.says w.row w.found) ∙ n) in
      record {
        label = λ u. below (lower i e.label t.label (rw r.label at f.label) u);
        a = λ u. below (lower i e.a t.a (rw r.a at f.a) u);
        b = λ u. below (lower i e.b t.b (rw r.b at f.b) u);
        c = λ u. below (lower i e.c t.c (rw r.c at f.c) u);
      }
    where
      below : {x : ℕ} → x < i → 8 * x < length s
      below {x} k = omega arith

-- ---- cells ascending

pub not_both : {q : Refusal} → ◌≡◌ {A = Result (Unit {0}) Refusal} (Err q) (Ok tt) → ⊥
not_both e = let z : ◌≡◌ {A = ℕ} 0 1 = cc in omega arith

-- a cell with a finding: the first of those from it on
stopped : (v : Version) (s : List ℕ) (m i : ℕ) (q : Refusal) → CellCheck v s i (Err q) → ChecksAs (Err q) (cells_finding v s (suc m) i)
unfolding cells_finding
stopped v s m i q h = go (cell_fault v s i) refl h.says
  where
    go : (o : Option Fault) → cell_fault v s i ≡ o → ChecksAs (Err q) (at_cell o i) → ChecksAs (Err q) (cells_finding v s (suc m) i)
    go none e h = absurd (not_both h)
    go (some f) e h = rw (e, cells_finding) h

-- a cell without
none_found : (v : Version) (s : List ℕ) (i : ℕ) → CellCheck v s i (Ok tt) → cell_fault v s i ≡ none
none_found v s i h = go (cell_fault v s i) refl h.says
  where
    go : (o : Option Fault) → cell_fault v s i ≡ o → ChecksAs (Ok tt) (at_cell o i) → cell_fault v s i ≡ none
    go none e h = e
    go (some f) e h = absurd (not_both (sym h.1))

passed : (v : Version) (s : List ℕ) (m i : ℕ) → cell_fault v s i ≡ none → cells_finding v s (suc m) i ≡ cells_finding v s m (suc i)
unfolding cells_finding
passed v s m i e = rw (e, cells_finding)

module _ {v : Version} {s : List ℕ} {n : ℕ} (i : ℕ) (so_far : cells_finding v s n 0 ≡ cells_finding v s (n - i) i) where
  pub stops : i < n → {q : Refusal} → CellCheck v s i (Err q) → CellsCheck v s n (Err q)
  stops l {q} h =
      let e : n - i ≡ suc (n - suc i) = omega arith in
      record { says = rw (so_far, e) (stopped v s (n - suc i) i q h) }

  pub goes_on : i < n → CellCheck v s i (Ok tt) → cells_finding v s n 0 ≡ cells_finding v s (n - (i + 1)) (i + 1)
  goes_on l h =
      let e : n - i ≡ suc (n - suc i) = omega arith in
      rw (so_far, e, add-one i) (passed v s (n - suc i) i (none_found v s i h))

  pub ends : n ≤ i → CellsCheck v s n (Ok tt)
  unfolding cells_finding
  ends h =
      let e : n - i ≡ 0 = omega arith in
      record { says = rw (so_far, e, cells_finding) refl }

-- ---- bytes that agree on the cells

module _ (v : Version) (s t : List ℕ) where
  sort_same : (i : ℕ) → ((x : ℕ) → x < i → cell_at s x ≡ cell_at t x) → (u : Use) (x : ℕ) → reference_ok_lem i u x ≡ true → sort_ok_lem s u x ≡ sort_ok_lem t u x
  sort_same i h unused x p = refl
  sort_same i h plain x p = refl
  sort_same i h (refers o) x p = rw (h x (ltb-true x i p))

  -- a sort is asked of a lower cell only
  row_same : (i : ℕ) → ((x : ℕ) → x < i → cell_at s x ≡ cell_at t x) → (c : Format.Cell) (o : Option Row) → row_fault s i c o ≡ row_fault t i c o
  unfolding row_fault first_bad
  row_same i h c none = refl
  row_same i h c (some r) = go (every_field (reference_ok_lem i) r c) refl
    where
      go : (b : Bool) → every_field (reference_ok_lem i) r c ≡ b → row_fault s i c (some r) ≡ row_fault t i c (some r)
      go false e = rw e
      go true e =
          let f = every_field_true (reference_ok_lem i) r c e in
          rw (
            sort_same i h r.label c.label f.label,
            sort_same i h r.a c.a f.a,
            sort_same i h r.b c.b f.b,
            sort_same i h r.c c.c f.c,
          )

  pub fault_same : (i : ℕ) → ((x : ℕ) → x ≤ i → cell_at s x ≡ cell_at t x) → cell_fault v s i ≡ cell_fault v t i
  unfolding cell_fault
  fault_same i h = rw (h i (omega arith)) (row_same i (λ x l. h x (omega arith)) (cell_at t i) (row_for v (cell_at t i).kind))

  pub findings_same : (n i : ℕ) → ((x : ℕ) → x < i + n → cell_at s x ≡ cell_at t x) → cells_finding v s n i ≡ cells_finding v t n i
  unfolding cells_finding
  findings_same zero i h = refl
  findings_same (suc n) i h =
      go (cell_fault v t i) (fault_same i (λ x l. h x (omega arith))) refl (findings_same n (suc i) (λ x l. h x (omega arith)))
    where
      go : (o : Option Fault) → cell_fault v s i ≡ o → cell_fault v t i ≡ o → cells_finding v s n (suc i) ≡ cells_finding v t n (suc i)
          → cells_finding v s (suc n) i ≡ cells_finding v t (suc n) i
      go none e f k = passed v s n i e ∙ k ∙ sym (passed v t n i f)
      go (some b) e f k = rw (e, f, cells_finding)

-- the part of cells
pub cell_part : (s : List ℕ) (n i : ℕ) → i < n → cell_at (take (8 * n) s) i ≡ cell_at s i
unfolding cell_at
cell_part s n i h =
    rw (
      get_or-take (8 * n) s (8 * i) 0 (omega arith),
      get_or-take (8 * n) s (8 * i + 1) 0 (omega arith),
      get_or-take (8 * n) s (8 * i + 2) 0 (omega arith),
      get_or-take (8 * n) s (8 * i + 2 + 1) 0 (omega arith),
      get_or-take (8 * n) s (8 * i + 4) 0 (omega arith),
      get_or-take (8 * n) s (8 * i + 4 + 1) 0 (omega arith),
      get_or-take (8 * n) s (8 * i + 6) 0 (omega arith),
      get_or-take (8 * n) s (8 * i + 6 + 1) 0 (omega arith),
    )
