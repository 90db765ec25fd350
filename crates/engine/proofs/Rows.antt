-- What the definition answers to a book that it refuses is the number and the cell of a row that meets the book, for both calls. Assumes
-- nothing.
use Prim.Native.Nat.{ℕ, ◌<◌}
use mathlib.Core.Path.{◌≡◌, refl, sym, subst, ◌∙◌}
use mathlib.Core.Logic.{◌≢◌}
use mathlib.Core.Bool.{Bool, true, false, false≢true}
use mathlib.Core.Option.{Option, none, some, some-injective, none-ne-some}
use mathlib.Core.List.{List, []}
use borrow.Author.Tests.{ltb-true, eqb-true, eqb-false}
use lib.Dec.{eqb}
use lib.ListN.{length}
use Rattle.calculus.specs.Syntax.{Ty}
use Rattle.calculus.specs.Infer.{Reason, unbound, not_function, no_field, conflict, mismatch, Found, found, infer}
use Rattle.calculus.specs.Infer as Infer
use Rattle.format.specs.declared.Version.{Version}
use Rattle.format.specs.declared.Version.TheVariants.{Two}
use Rattle.format.specs.Table as Table
use Rattle.format.specs.Table.{type_sort, term_sort}
use Rattle.format.specs.Cell.{IsBytes, cell_at}
use Rattle.format.specs.Book.{Fault, bad_length, bad_trailer, bad_count, bad_kind, bad_unnamed, bad_reference, bad_sort, bad_root, bad_size}
use Rattle.format.specs.Book.{Finding, first_bad, row_fault, cell_fault, cells_form, form_finding, every_field, unnamed_ok_lem, reference_ok_lem, sort_ok_lem}
use Rattle.format.specs.Book.{sort_is, has_sort, version_of, root_of, count, follow, root_term, WellFormed}
use Rattle.format.proofs.Tests.{sort_is_says, cell_fault_says, cell_looser, cells_form_says, form_finding_says}
use Rattle.format.proofs.Findings.{by_rows}
use Rattle.format.specs.Checking.{Names}
use Rattle.format.proofs.RefusalPaths.{refusal_names}
use Rattle.answers.specs.Answer.{fault_number, reason_number, refused, Result, result}
use Rattle.answers.specs.Engine.{work_length}
use Rattle.answers.specs.Definition.{judge, after_form, after_typing, refusal_result}
use Rattle.engine.specs.Rows.{RefusalRow, buffer, length_row, trailer, count_row, kind, unnamed, reference, sort, root, size}
use Rattle.engine.specs.Rows.{variable, application, field_read, merge, checked, Mistyped, Refuses}

-- ---- rows 5 to 8

-- the faults that a cell can have
abbrev OfCell : Fault → Type 0
OfCell f = elim f [ bad_length ↦ ⊥ | bad_trailer ↦ ⊥ | bad_count ↦ ⊥ | bad_kind ↦ Unit {0} | bad_unnamed ↦ Unit {0} | bad_reference ↦ Unit {0} | bad_sort ↦ Unit {0} | bad_root ↦ ⊥ | bad_size ↦ ⊥ ]

of_cell : (g f : Fault) → OfCell g → ◌≡◌ {A = Option Fault} (some g) (some f) → OfCell f
of_cell g f o e = subst OfCell (some-injective g f e) o

cell_faults : (u : Version) (s : List ℕ) (i : ℕ) (f : Fault) → cell_fault u s i ≡ some f → OfCell f
unfolding cell_fault row_fault first_bad
cell_faults u s i f e = go (Table.row_for u (cell_at s i).kind) e
  where
    three : (x y z : Bool) → ◌≡◌ {A = Option Fault} (elim x [ true ↦ elim y [ true ↦ elim z [ true ↦ none | false ↦ some bad_sort ] | false ↦ some bad_reference ] | false ↦ some bad_unnamed ]) (some f) → OfCell f
    three true true true q = absurd (none-ne-some f q)
    three true true false q = of_cell bad_sort f tt q
    three true false z q = of_cell bad_reference f tt q
    three false y z q = of_cell bad_unnamed f tt q

    go : (r : Option Table.Row) → row_fault s i (cell_at s i) r ≡ some f → OfCell f
    go none q = of_cell bad_kind f tt q
    go (some r) q =
        three (every_field unnamed_ok_lem r (cell_at s i)) (every_field (reference_ok_lem i) r (cell_at s i)) (every_field (sort_ok_lem s) r (cell_at s i)) q

module _ (b w : List ℕ) where
  -- a finding's row
  abbrev RowOf : Finding → Type 0
  RowOf f = RefusalRow b w (fault_number f.fault) f.cell

  cell_row : (i : ℕ) (f : Fault) → i < count b → cell_fault (version_of b) b i ≡ some f → OfCell f → RowOf (record { fault = f; cell = i })
  cell_row i bad_kind h e o = kind h e
  cell_row i bad_unnamed h e o = unnamed h e
  cell_row i bad_reference h e o = reference h e
  cell_row i bad_sort h e o = sort h e
  cell_row i bad_length h e o = elim o [ ]
  cell_row i bad_trailer h e o = elim o [ ]
  cell_row i bad_count h e o = elim o [ ]
  cell_row i bad_root h e o = elim o [ ]
  cell_row i bad_size h e o = elim o [ ]

  -- ---- rows 2 to 10

  -- past row 8 a root that is no term is a type
  root_type : cells_form b ≡ none → has_sort b term_sort (root_of b) ≡ false → has_sort b type_sort (root_of b) ≡ true
  root_type n h =
      let w = (cells_form_says b).0 n in
      let k = (cell_fault_says Two b (root_of b)).0 (cell_looser (version_of b) b (root_of b) (w.sound (root_of b) w.rooted)) in
      rw k.found (other k.row (rw k.found at h))
    where
      other : (r : Table.Row) → sort_is term_sort (some r) ≡ false → sort_is type_sort (some r) ≡ true
      other r q = by r.sort refl
        where
          by : (o : Table.Sort) → r.sort ≡ o → sort_is type_sort (some r) ≡ true
          by type_sort e = (sort_is_says type_sort r).1 e
          by term_sort e = absurd (false≢true (sym q ∙ (sort_is_says term_sort r).1 e))

  form_row : (f : Finding) → form_finding b ≡ some f → RowOf f
  form_row =
      by_rows RowOf b
      (record {
        row_2 = length_row;
        row_3 = trailer;
        row_4 = count_row;
        rows_5_to_8 = λ f i l h e. cell_row i f h e (cell_faults (version_of b) b i f e);
        row_9 = λ n h. root (root_type n h);
        row_10 = λ h. size (ltb-true _ _ h);
      })

  -- ---- rows 11 to 15

  typing_row : IsBytes b → (r : Reason) (p : List ℕ) → WellFormed b → infer [] (root_term b) ≡ Infer.refused r p → RefusalRow b w (reason_number r) (follow b (root_of b) p)
  typing_row y r p f e = by r (record { formed = f; path = p; reason = e; names = refl }) (refusal_names b y f r p e)
    where
      by : {i : ℕ} (r : Reason) → Mistyped b r i → Names b r i → RefusalRow b w (reason_number r) i
      by unbound m k = variable m k
      by not_function m k = application m k
      by no_field m k = field_read m k
      by conflict m k = merge m k
      by mismatch m k = checked m k.1

  -- ---- both calls

  first : {i : ℕ} → RefusalRow b w 1 i → length w ≢ work_length
  first (buffer h) = h

  refused_row : (m j n i : ℕ) → length w ≡ work_length → RefusalRow b w m j → (refusal_result m j).answer ≡ refused n i → Refuses b w (refusal_result m j).left n i
  unfolding refusal_result
  refused_row m j n i k r e =
      let p : m ≡ n = cc in
      let q : j ≡ i = cc in
      rw (sym p, sym q)
      (record { row = r; untouched = λ h. absurd (first (subst (λ (l : ℕ). RefusalRow b w l j) h r) k); zeroed = λ h. refl })

  -- g, which answers for the type found, refuses nothing
  module _ (y : IsBytes b) (g : Ty → Result) (never : (A : Ty) (n i : ℕ) → (g A).answer ≢ refused n i) where
    after_typing_lem : (x : Found) → length w ≡ work_length → WellFormed b → infer [] (root_term b) ≡ x → (n i : ℕ) → (after_typing b g x).answer ≡ refused n i →
        Refuses b w (after_typing b g x).left n i
    unfolding after_typing
    after_typing_lem (found A) k f e n i h = absurd (never A n i h)
    after_typing_lem (Infer.refused r p) k f e n i h = refused_row (reason_number r) (follow b (root_of b) p) n i k (typing_row y r p f e) h

    after_form_lem : (x : Option Finding) → length w ≡ work_length → form_finding b ≡ x → (n i : ℕ) → (after_form b g x).answer ≡ refused n i →
        Refuses b w (after_form b g x).left n i
    unfolding after_form
    after_form_lem none k e n i h = after_typing_lem (infer [] (root_term b)) k ((form_finding_says b).0 e) refl n i h
    after_form_lem (some f) k e n i h = refused_row (fault_number f.fault) f.cell n i k (form_row f e) h

    pub judge_refuses : (n i : ℕ) → (judge b w g).answer ≡ refused n i → Refuses b w (judge b w g).left n i
    unfolding judge
    judge_refuses n i = by (eqb (length w) work_length) refl
      where
        by : (t : Bool) → eqb (length w) work_length ≡ t → let x : Result = elim t [ true ↦ after_form b g (form_finding b) | false ↦ result (refused 1 0) w ] in
            x.answer ≡ refused n i → Refuses b w x.left n i
        by true p h = after_form_lem (form_finding b) (eqb-true _ _ p) refl n i h
        by false p h =
            let e : 1 ≡ n = cc in
            let j : 0 ≡ i = cc in
            rw (sym e, sym j) (record { row = buffer (eqb-false _ _ p); untouched = λ q. refl; zeroed = λ q. absurd (q refl) })
