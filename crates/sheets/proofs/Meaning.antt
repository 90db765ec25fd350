-- What the definition answers to a sheet means what document 02, (ix), says. Assumes nothing.
use Prim.Native.Nat.{ℕ}
use mathlib.Core.Path.{◌≡◌, refl, sym, ap, ◌∙◌, subst}
use mathlib.Core.Logic.Iff
use mathlib.Core.Logic.{◌↔◌, ◌≢◌, ◌⊎◌, inl, inr}
use mathlib.Core.Bool.{Bool, true, false, not, ◌&&◌}
use mathlib.Core.Option.{Option, none, some}
use mathlib.Core.List.{List, []}
use borrow.Author.Tests.{eqb-true, ne_eqb}
use lib.Dec.{T, eqb}
use lib.ListN.{length}
use Rattle.calculus.specs.Syntax.{Ty, size_type}
use Rattle.calculus.specs.Typing.{Typed}
use Rattle.calculus.specs.Sheet.{Sheet, is_sheet, count_steps}
use Rattle.calculus.proofs.Bools.{T_dec, T_true, T_false, and_says, not_says, eqb_says}
use Rattle.calculus.proofs.SheetStep.{is_sheet_says}
use Rattle.format.specs.Cell.{IsBytes}
use Rattle.format.specs.Book.{Finding, form_finding, WellFormed, version_of, root_of, root_term, type_book}
use Rattle.format.proofs.Tests.{form_finding_says}
use Rattle.answers.specs.Answer.{refused, accepted, Result, result}
use Rattle.answers.specs.Engine.{work_length, IsWork, zeros, padded}
use Rattle.answers.specs.Definition.{definition, check, judge, after_form, shown, refusal_result}
use Rattle.answers.specs.Demands.{Accepts}
use Rattle.answers.proofs.Demands.{clash, demand2, refused_accepted}
use Rattle.answers.proofs.Sheets.{sheets_run}
use Rattle.engine.specs.Rows.{RefusalRow, Refuses}
use Rattle.engine.proofs.Checked.{check_refuses}
use Rattle.sheets.specs.declared.SheetOutcome.{SheetOutcome}
use Rattle.sheets.specs.Sheet.{SheetResult, sheet_answer, sheet_steps_lem, passes, is_row17, beside, sheeted}
use Rattle.sheets.specs.Sheets.{Row17, Sheets}
use Rattle.sheets.specs.Stages.{GivesSheet}
use Rattle.sheets.proofs.Stages.{at_17, not_17}

-- ---- the row

passes_says : (b : List ℕ) → T (passes (form_finding b)) ↔ WellFormed b
passes_says b = Iff.trans (go (form_finding b)) (form_finding_says b)
  where
    go : (x : Option Finding) → T (passes x) ↔ (x ≡ none)
    go none = (λ t. refl, λ e. tt)
    go (some y) = (λ t. absurd t, λ e. absurd (clash cc))

row_says : (b w : List ℕ) → T (is_row17 b w) ↔ Row17 b w
unfolding is_row17
row_says b w =
    Iff.trans
    (and_says (eqb (length w) work_length) (passes (form_finding b) && not (is_sheet (root_term b))) (eqb_says (length w) work_length)
    (and_says (passes (form_finding b)) (not (is_sheet (root_term b))) (passes_says b) (not_says (is_sheet (root_term b)) (is_sheet_says (root_term b)))))
    (λ h. record { work = h.0; formed = h.1.0; no_sheet = h.1.1 }, λ r. (r.work, (r.formed, r.no_sheet)))

-- a check's rows are 1 to 15
no_row_17 : {b w : List ℕ} {i : ℕ} → ¬ RefusalRow b w 17 i
no_row_17 = elim [ ]

-- a check that accepts has its work buffer
work_accepted : (b w : List ℕ) {n : ℕ} → (check b w).answer ≡ accepted n → IsWork w
unfolding check judge
work_accepted b w {n} = go (eqb (length w) work_length) refl
  where
    go : (x : Bool) → eqb (length w) work_length ≡ x →
        (let y : Result = elim x [ true ↦ after_form b (shown (version_of b)) (form_finding b) | false ↦ result (refused 1 0) w ] in y.answer ≡ accepted n) → IsWork w
    go true p e = eqb-true _ _ p
    go false p e = absurd (refused_accepted 1 0 n e)

-- and one of another length is refusal 1
no_work : (b w : List ℕ) → length w ≢ work_length → check b w ≡ result (refused 1 0) w
unfolding check judge
no_work b w m = rw (ne_eqb (length w) work_length m, judge)

-- ---- the two ways

module _ (b w : List ℕ) {v : List ℕ} {r : SheetOutcome} (bytes : IsBytes b) (g : GivesSheet v r (sheeted b w)) where
  way : Row17 b w ⊎ (¬ Row17 b w)
  way = elim (T_dec (is_row17 b w) (row_says b w)) [ yes p ↦ inl p | no n ↦ inr n ]

  named : Row17 b w → (sheet_answer r ≡ refused 17 (root_of b)) × (sheet_steps_lem r ≡ 0) × (v ≡ zeros work_length)
  unfolding refusal_result
  named p = let e = at_17 b w (T_true (row_says b w) p) in (g.answer ∙ ap (λ (x : SheetResult). x.answer) e, g.steps ∙ ap (λ (x : SheetResult). x.steps) e, g.left ∙ ap (λ (x : SheetResult). x.left) e)

  checked : ¬ Row17 b w → (sheet_answer r ≡ (check b w).answer) × (sheet_steps_lem r ≡ beside (count_steps (root_term b)) (check b w).answer) × (v ≡ (check b w).left)
  checked n = let e = not_17 b w (T_false (row_says b w) n) in (g.answer ∙ ap (λ (x : SheetResult). x.answer) e, g.steps ∙ ap (λ (x : SheetResult). x.steps) e, g.left ∙ ap (λ (x : SheetResult). x.left) e)

  -- an acceptance is a check's, of a sheet
  accepted_checks : {n : ℕ} → sheet_answer r ≡ accepted n → (¬ Row17 b w) × ((check b w).answer ≡ accepted n)
  accepted_checks {n} e = elim way [ inl p ↦ absurd (refused_accepted 17 (root_of b) n (sym (named p).0 ∙ e)) | inr m ↦ (m, sym (checked m).0 ∙ e) ]

  -- and so is a refusal but 17
  refused_checks : {n i : ℕ} → sheet_answer r ≡ refused n i → n ≢ 17 → (¬ Row17 b w) × ((check b w).answer ≡ refused n i)
  refused_checks {n} {i} e m = elim way [ inl p ↦ let z : refused 17 (root_of b) ≡ refused n i = sym (named p).0 ∙ e in absurd (m cc) | inr x ↦ (x, sym (checked x).0 ∙ e) ]

  accepts_here : {n : ℕ} → sheet_answer r ≡ accepted n → Accepts definition b
  accepts_here {n} e = let c = (accepted_checks e).1 in record { work = w; is_work = work_accepted b w c; size = n; answers = c }

  -- what is accepted is a sheet
  accepted_sheet : {n : ℕ} → sheet_answer r ≡ accepted n → Sheet (root_term b)
  accepted_sheet {n} e =
      let c = accepted_checks e in
      let f = ((demand2 b bytes).accepts.0 (accepts_here e)).0 in
      elim (T_dec (is_sheet (root_term b)) (is_sheet_says (root_term b))) [
        | yes s ↦ s
        | no m ↦ absurd (c.0 (record { work = work_accepted b w c.1; formed = f; no_sheet = m }))
      ]

  -- a typed sheet meets no row
  shown_here : IsWork w → WellFormed b → Sheet (root_term b) → (A : Ty) → Typed [] (root_term b) A →
      (sheet_answer r ≡ accepted (size_type A)) × (v ≡ padded (type_book (version_of b) A))
  shown_here k f s A t =
      let x = checked (λ p. p.no_sheet s) in
      let e = (demand2 b bytes).shows A f t w k in
      (x.0 ∙ ap (λ (y : Result). y.answer) e, x.2 ∙ ap (λ (y : Result). y.left) e)

  pub meaning : Sheets b w v r
  meaning =
      record {
        answer = g.answer;
        steps = g.steps;
        left = g.left;
        first = λ m.
            let x = checked (λ p. m p.work) in
            let e = no_work b w m in
            (x.0 ∙ ap (λ (y : Result). y.answer) e, x.2 ∙ ap (λ (y : Result). y.left) e);
        turned_away = (
          λ x. elim way [ inl p ↦ p | inr m ↦ absurd (no_row_17 (check_refuses b w bytes 17 x.0 (sym (checked m).0 ∙ x.1)).row) ],
          λ p. (root_of b, (named p).0),
        );
        names_root = λ p. let x = named p in (x.0, x.2);
        as_check = λ m. let x = checked m in (x.0, x.2);
        count = λ n e. let c = accepted_checks e in (checked c.0).1 ∙ ap (beside (count_steps (root_term b))) c.1;
        no_count = λ n i e. elim way [ inl p ↦ (named p).1 | inr m ↦ let x = checked m in x.1 ∙ ap (beside (count_steps (root_term b))) (sym x.0 ∙ e) ];
        refuses = λ n i e m.
            let c = refused_checks e m in
            subst (λ (u : List ℕ). Refuses b w u n i) (sym (checked c.0).2) (check_refuses b w bytes n i c.1);
        accepts = λ k. (
          λ x. let t = (demand2 b bytes).accepts.0 (accepts_here x.1) in (t.0, accepted_sheet x.1, t.1),
          λ x. (size_type x.2.0, (shown_here k x.0 x.1 x.2.0 x.2.1).0),
        );
        shows = shown_here;
        runs = λ n e. sheets_run definition demand2 b bytes (accepts_here e) (accepted_sheet e);
      }
