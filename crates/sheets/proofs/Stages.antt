-- From the rows of the code to the definition: what each function of the sheet call answers is what `sheeted` says. Assumes nothing.
use Prim.Native.Nat.{ℕ}
use mathlib.Core.Path.{◌≡◌, refl, ap, ◌∙◌}
use mathlib.Core.Bool.{Bool, true, false, not, ◌&&◌, cond}
use mathlib.Core.Option.{Option, none, some}
use mathlib.Core.List.{List}
use borrow.Author.Tests.{eq-eqb, ne_eqb}
use lib.ListN.{length}
use Rattle.std.specs.Prelude as Prelude
use Rattle.std.specs.Prelude.{Some, None, Result, Err}
use Rattle.calculus.specs.Sheet.{is_sheet, count_steps}
use Rattle.format.specs.Book.{Finding, form_finding, version_of, root_of, root_term}
use Rattle.format.proofs.Tests.{form_finding_says}
use Rattle.answers.specs.Answer.{Answer, refused}
use Rattle.answers.specs.Definition.{check, judge, shown, refusal_result}
use Rattle.answers.specs.Cases.{refusal_answer, check_answer}
use Rattle.answers.specs.declared.Refusal.{Refusal}
use Rattle.answers.specs.declared.CheckOutcome.{CheckOutcome}
use Rattle.answers.proofs.Cases.{refusal_number}
use Rattle.answers.proofs.Demands.{clash}
use Rattle.book.specs.Form.{Finds}
use Rattle.book.specs.declared.Root.{Root}
use Rattle.cells.specs.declared.Use.TheVariants.{ToTerm}
use Rattle.counting.specs.Counting.{counted, Countable, Counts}
use Rattle.engine.specs.Stages.{FirstRows, row_1, rows_2_to_10, LeftByRefusal, Formed, Gives, AfterTyping}
use Rattle.engine.proofs.Judging.{refused_result, past_row_10}
use Rattle.sheets.specs.declared.SheetOutcome.{SheetOutcome}
use Rattle.sheets.specs.declared.SheetOutcome.TheVariants.{Refused, NoSheet, Accepted}
use Rattle.sheets.specs.Sheet.{sheet_answer, sheet_steps_lem, passes, is_row17, beside, with_steps, sheeted}
use Rattle.sheets.specs.Stages.{WithSteps, GivesSheet}

-- ---- the count

pub countable : {b w : List ℕ} {o : Root} → Formed b w o → Countable b ToTerm o.cell
countable p =
    let f = p.book.form in
    record { formed = f; cell = λ m. rw p.book.root (record { low = f.formed.rooted; term = f.term; small = f.small }) }

-- of the root it is that of the opened term
root_counted : {b w : List ℕ} {o : Root} {r : Prelude.Option ℕ} → Formed b w o → Counts b ToTerm o.cell r → r ≡ counted (root_term b)
unfolding root_term
root_counted p c = rw (← p.book.root) c.is

no_sheet : {r : Prelude.Option ℕ} (s : Bool) (n : ℕ) → r ≡ cond s (Some n) None → r ≡ None → s ≡ false
no_sheet true n e q = absurd (clash cc)
no_sheet false n e q = refl

a_sheet : {r : Prelude.Option ℕ} {k : ℕ} (s : Bool) (n : ℕ) → r ≡ cond s (Some n) None → r ≡ Some k → (s ≡ true) × (k ≡ n)
a_sheet true n e q = (refl, cc)
a_sheet false n e q = absurd (clash cc)

-- nothing stands beside a refusal
no_count : (k : ℕ) (q : Refusal) → 0 ≡ beside k (refusal_answer q)
no_count k q = let x = refusal_number q in rw x.2

pub with_refused : {o : CheckOutcome} {k : ℕ} {q : Refusal} → o ≡ CheckOutcome.Refused q → WithSteps o k (Refused q)
with_refused {k = k} {q = q} e = rw e (record { answer = refl; steps = no_count k q })

pub with_accepted : {o : CheckOutcome} {k n : ℕ} → o ≡ CheckOutcome.Accepted n → WithSteps o k (Accepted n k)
with_accepted e = rw e (record { answer = refl; steps = refl })

-- ---- row 17

module _ (b w : List ℕ) where
  past_form : {o : Root} → Formed b w o → is_row17 b w ≡ not (is_sheet (root_term b))
  unfolding is_row17
  past_form p = rw (eq-eqb (length w) 65536 p.work, (form_finding_says b).1 p.book.form)

  pub at_17 : is_row17 b w ≡ true → sheeted b w ≡ with_steps 0 (refusal_result 17 (root_of b))
  unfolding sheeted
  at_17 e = rw (e, sheeted)

  pub not_17 : is_row17 b w ≡ false → sheeted b w ≡ with_steps (count_steps (root_term b)) (check b w)
  unfolding sheeted
  not_17 e = rw (e, sheeted)

  -- a book that rows 1 to 10 meet
  malformed : {q : Refusal} {x : Result Root Refusal} → FirstRows b (length w) x → x ≡ Err q → is_row17 b w ≡ false
  unfolding is_row17
  malformed (row_1 n s) e = rw (ne_eqb (length w) 65536 n)
  malformed {q} {x} (rows_2_to_10 k f) e = rw (eq-eqb (length w) 65536 k) (go (form_finding b) refl f.says)
    where
      go : (y : Option Finding) → form_finding b ≡ y → Finds (record { version = version_of b; cell = root_of b }) x y → (passes y && not (is_sheet (root_term b))) ≡ false
      go none p h = absurd (clash cc)
      go (some y) p h = refl

  -- ---- what each return gives

  -- a check's result, with the count
  gives_check : {v : List ℕ} {a : Answer} {r : SheetOutcome} → is_row17 b w ≡ false → Gives v a (check b w) → sheet_answer r ≡ a →
      sheet_steps_lem r ≡ beside (count_steps (root_term b)) a → GivesSheet v r (sheeted b w)
  gives_check e g p q =
      rw (not_17 e) (record { answer = p ∙ g.answer; steps = q ∙ ap (beside (count_steps (root_term b))) g.answer; left = g.left })

  as_check : {v : List ℕ} {a : Answer} → Gives v a (judge b w (shown (version_of b))) → Gives v a (check b w)
  unfolding check
  as_check g = g

  -- rows 1 to 10
  pub refused_first : {v : List ℕ} {q : Refusal} {x : Result Root Refusal} → FirstRows b (length w) x → x ≡ Err q → LeftByRefusal w v →
      GivesSheet v (Refused q) (sheeted b w)
  refused_first {q = q} f e l =
      gives_check (malformed f e) (as_check (refused_result b w (shown (version_of b)) f e l)) refl (no_count (count_steps (root_term b)) q)

  -- row 17
  pub refused_17 : {v : List ℕ} {o : Root} {r : Prelude.Option ℕ} → Formed b w o → Counts b ToTerm o.cell r → r ≡ None → LeftByRefusal w v →
      GivesSheet v (NoSheet o.cell) (sheeted b w)
  unfolding refusal_result
  refused_17 p c e l =
      let n = no_sheet (is_sheet (root_term b)) (count_steps (root_term b)) (root_counted p c) e in
      rw (at_17 (past_form p ∙ ap not n)) (record { answer = ap (refused 17) p.book.root; steps = refl; left = l.zeroed p.work })

  -- rows 11 to 15, or accepted
  pub typed_sheet : {v : List ℕ} {o : Root} {k : ℕ} {r : Prelude.Option ℕ} {y : CheckOutcome} {x : SheetOutcome} → Formed b w o → Counts b ToTerm o.cell r → r ≡ Some k →
      AfterTyping b (shown (version_of b)) v (check_answer y) → WithSteps y k x → GivesSheet v x (sheeted b w)
  typed_sheet {y = y} p c e t s =
      let z = a_sheet (is_sheet (root_term b)) (count_steps (root_term b)) (root_counted p c) e in
      gives_check (past_form p ∙ ap not z.0) (as_check (past_row_10 b w (shown (version_of b)) p t)) s.answer
      (s.steps ∙ ap (λ (n : ℕ). beside n (check_answer y)) z.1)
