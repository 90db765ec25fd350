-- The sample sheets hold of the definition, by one computation. Assumes nothing.
use Prim.Native.Nat.{ℕ}
use mathlib.Core.Path.{◌≡◌, refl, ap, ◌∙◌}
use mathlib.Core.Bool.{Bool, true, false, not, ◌&&◌}
use mathlib.Core.List.{List, [], ◌∷◌, map}
use borrow.Author.Tests.{eq-eqb}
use lib.ListN.{length}
use Rattle.calculus.specs.Sheet.{is_sheet, count_steps}
use Rattle.format.specs.Table.{All}
use Rattle.format.specs.Book.{form_finding, version_of, root_of, root_term}
use Rattle.answers.specs.Engine.{IsWork}
use Rattle.answers.specs.Definition.{check, after_form, shown, refusal_result}
use Rattle.answers.proofs.AllSamples.{computing, in_work}
use Rattle.sheets.specs.Sheet.{SheetResult, passes, is_row17, with_steps, sheeted}
use Rattle.sheets.proofs.Stages.{at_17, not_17}
use Rattle.sheets.specs.Samples.{SheetSample, expected, Meets, sheet_samples}
use Rattle.sheets.specs.Samples.{one, annotated_one, annotated_twice, applied_top, function_type, two_sums, read_in_merge, plain_records, doubled_sums, unreached_variable, wide_sum, a_function, a_fixpoint, a_choice, free_variable, hidden_choice, ill_typed_function, applied_number, missing_field, unequal_numbers, added_top, a_type, doubled_variable, cut_short, type_int, type_top, type_of_records, wide_type_int}

-- the definition's answer, with any work buffer of 65,536 bytes
answered : List ℕ → SheetResult
answered b =
    elim (passes (form_finding b) && not (is_sheet (root_term b))) [
      | true ↦ with_steps 0 (refusal_result 17 (root_of b))
      | false ↦ with_steps (count_steps (root_term b)) (after_form b (shown (version_of b)) (form_finding b))
    ]

-- the one computation
computed : map (λ (s : SheetSample). answered s.book) sheet_samples ≡ map (λ (s : SheetSample). expected s.expects) sheet_samples
unfolding computing is_sheet count_steps answered sheet_samples one annotated_one annotated_twice applied_top function_type two_sums read_in_merge plain_records doubled_sums unreached_variable wide_sum a_function a_fixpoint a_choice free_variable hidden_choice ill_typed_function applied_number missing_field unequal_numbers added_top a_type doubled_variable cut_short type_int type_top type_of_records wide_type_int
computed = refl

as_answered : (b w : List ℕ) → IsWork w → sheeted b w ≡ answered b
unfolding check is_row17 answered
as_answered b w k = by (passes (form_finding b) && not (is_sheet (root_term b))) refl
  where
    row : is_row17 b w ≡ (passes (form_finding b) && not (is_sheet (root_term b)))
    row = rw (eq-eqb (length w) 65536 k)

    by : (x : Bool) → (passes (form_finding b) && not (is_sheet (root_term b))) ≡ x → sheeted b w ≡ answered b
    by true p = at_17 b w (row ∙ p) ∙ rw (p, answered)
    by false p = not_17 b w (row ∙ p) ∙ ap (with_steps (count_steps (root_term b))) (in_work b w (shown (version_of b)) k) ∙ rw (p, answered)

each : (ss : List SheetSample) → map (λ (s : SheetSample). answered s.book) ss ≡ map (λ (s : SheetSample). expected s.expects) ss → All Meets ss
each [] e = tt
each (s ∷ ss) e = ((λ w k. as_answered s.book w k ∙ cc), each ss cc)

pub sheet_samples_hold : All Meets sheet_samples
sheet_samples_hold = each sheet_samples computed
