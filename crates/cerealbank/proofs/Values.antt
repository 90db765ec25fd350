-- The value of every answer fits 32 bits, and its second figure 24. Assumes nothing.
use Prim.Native.Nat.{ℕ, ◌+◌, ◌%◌, ◌<◌, ◌≤◌}
use mathlib.Core.Path.{◌≡◌, refl, sym, ap, subst, ◌∙◌}
use mathlib.Core.Bool.{Bool, true, false}
use mathlib.Core.Option.{Option, none, some}
use mathlib.Core.List.{List, []}
use native.Mathlib.Omega.{arith}
use lib.Dec.{T, eqb}
use lib.ListN.{length, take}
use Rattle.calculus.specs.Syntax.{Ty, Term}
use Rattle.calculus.specs.Sheet.{count_steps}
use Rattle.calculus.specs.Infer as Infer
use Rattle.calculus.specs.Infer.{infer}
use Rattle.calculus.proofs.Bools.{◌and◌, equal, at_most}
use Rattle.calculus.proofs.Inference.{infer_says}
use Rattle.calculus.proofs.Typing.{typed_size}
use Rattle.format.specs.Cell.{IsBytes}
use Rattle.format.specs.declared.Version.{Version}
use Rattle.format.specs.Book.{size_limit, Finding, form_finding, length_ok_lem}
use Rattle.format.specs.Book.{version_of, root_of, trailer_at, root_term, WellFormed}
use Rattle.format.proofs.Findings.{by_rows}
use Rattle.format.proofs.Tests.{form_finding_says, root_term_small}
use Rattle.format.proofs.Paths.{follow_down}
use Rattle.answers.specs.Answer.{Result, result, refused}
use Rattle.answers.specs.Engine.{IsLimit, work_length, zeros}
use Rattle.answers.specs.Definition.{check, run, judge, after_form, after_typing, refusal_result, shown, reported}
use Rattle.answers.proofs.Demands.{outcome, work_at_hand, typed_accepts, definition_runs}
use Rattle.answers.specs.Exported.{value_of, second_of, tag_place}
use Rattle.answers.specs.Demands.{TakesSteps}
use Rattle.format.specs.Joint.{joint}
use Rattle.joining.specs.Join.{JoinResult, joined}
use Rattle.joining.proofs.Stages.{Ends, at_buffer, at_lent, at_project, at_part, at_full, at_joint, at_end, ends}
use Rattle.joining.proofs.Meaning.{take_bytes, joint_is}
use Rattle.sheets.specs.Sheet.{SheetResult, is_row17, with_steps, sheeted}
use Rattle.cerealbank.specs.Packed.{FiguresFit}
use Rattle.cerealbank.proofs.Packing.{ResultFits}

abbrev pub Fits : Result → Type 0
Fits x = FiguresFit x.answer (second_of x.answer)

-- a refusal has no second figure
refused_fits : {n i : ℕ} → i < 65536 → FiguresFit (refused n i) 0
refused_fits h = record { value = omega arith; second = omega arith }

-- ---- the cells that rows 2 to 10 name

root_low : (s : List ℕ) → IsBytes s → root_of s < 65536
root_low s y = omega (arith, y (trailer_at s + 4), y (trailer_at s + 4 + 1))

short : (s : List ℕ) → length_ok_lem s ≡ true → length s ≤ 32768
short s l = ((at_most 16 (length s) and at_most (length s) 32768 and equal (length s % 8) 0).1.0 (subst T (sym l) tt)).0.1

names : (s : List ℕ) → IsBytes s → (f : Finding) → form_finding s ≡ some f → f.cell < 65536
names s y =
    by_rows (λ (f : Finding). f.cell < 65536) s
    (record {
      row_2 = λ h. omega arith;
      row_3 = λ h. omega arith;
      row_4 = λ h. omega arith;
      rows_5_to_8 = λ f i l h e. omega (arith, h, short s l);
      row_9 = λ n h. root_low s y;
      row_10 = λ h. root_low s y;
    })

-- ---- both calls

module _ (b w : List ℕ) (y : IsBytes b) (g : Ty → Result) (h : (A : Ty) → WellFormed b → infer [] (root_term b) ≡ Infer.found A → Fits (g A)) where
  typing_fits : (x : Infer.Found) → WellFormed b → infer [] (root_term b) ≡ x → Fits (after_typing b g x)
  unfolding after_typing refusal_result
  typing_fits (Infer.found A) f e = h A f e
  typing_fits (Infer.refused r p) f e = refused_fits (omega (arith, follow_down b (root_of b) p, root_low b y))

  form_fits : (x : Option Finding) → form_finding b ≡ x → Fits (after_form b g x)
  unfolding after_form refusal_result
  form_fits none e = typing_fits (infer [] (root_term b)) ((form_finding_says b).0 e) refl
  form_fits (some f) e = refused_fits (names b y f e)

  judge_fits : Fits (judge b w g)
  unfolding judge
  judge_fits = by (eqb (length w) work_length)
    where
      by : (t : Bool) → Fits (elim t [ true ↦ after_form b g (form_finding b) | false ↦ result (refused 1 0) w ])
      by true = form_fits (form_finding b) refl
      by false = refused_fits (omega arith)

pub check_fits : (b w : List ℕ) → IsBytes b → Fits (check b w)
unfolding check shown
check_fits b w y =
    judge_fits b w y (shown (version_of b))
    (λ A f e. record { value = omega (arith, typed_size ((infer_says [] (root_term b) A).0 e), root_term_small b y f); second = omega arith })

-- the mark is the size of a term that the run reaches, and they are small
mark_small : {v : Version} {e : Term} {l : ℕ} {r : Result} (x : TakesSteps v e l r) → x.mark ≤ size_limit
mark_small x = let (k, f, i, r, z) = x.greatest.attained in omega (arith, x.small k f i r, z)

pub run_fits : (b w : List ℕ) (l : ℕ) → IsBytes b → IsLimit l → Fits (run b w l)
unfolding run
run_fits b w l y i = judge_fits b w y (reported b l) steps
  where
    steps : (A : Ty) → WellFormed b → infer [] (root_term b) ≡ Infer.found A → Fits (reported b l A)
    steps A f e =
        let t = (infer_says [] (root_term b) A).0 e in
        let r = definition_runs b (zeros work_length) l y work_at_hand (typed_accepts b (f, (A, t))) in
        let z = sym (outcome b (zeros work_length) (reported b l) A work_at_hand f t) ∙ r.says in
        let n : value_of (reported b l A).answer ≡ r.steps = ap (λ (x : Result). value_of x.answer) z in
        let m : second_of (reported b l A).answer ≡ r.mark = ap (λ (x : Result). second_of x.answer) z in
        record { value = omega (arith, r.taken); second = omega (arith, mark_small r) }

-- ---- the sheet call

pub sheet_value_fits : (b w : List ℕ) → IsBytes b → value_of (sheeted b w).answer < tag_place
unfolding sheeted refusal_result
sheet_value_fits b w y = by (is_row17 b w)
  where
    by : (t : Bool) → (let x : SheetResult = elim t [ true ↦ with_steps 0 (refusal_result 17 (root_of b)) | false ↦ with_steps (count_steps (root_term b)) (check b w) ] in value_of x.answer < tag_place)
    by true = omega (arith, root_low b y)
    by false = (check_fits b w y).value

-- ---- a join

end_fits : (l : List ℕ) (n : ℕ) (q w : List ℕ) → IsBytes l → IsBytes q → {x : JoinResult} → Ends l n q w x → ResultFits x
unfolding refusal_result
end_fits l n q w yl yq (at_buffer h) = record { value = omega arith; bytes = omega arith }
end_fits l n q w yl yq (at_lent k h) = record { value = omega arith; bytes = omega arith }
end_fits l n q w yl yq (at_project k e) = record { value = (check_fits (take n l) w (take_bytes n l yl)).value; bytes = omega arith }
end_fits l n q w yl yq (at_part k f e) = record { value = (check_fits q w yq).value; bytes = omega arith }
end_fits l n q w yl yq (at_full k f g h) = record { value = omega arith; bytes = omega arith }
end_fits l n q w yl yq (at_joint k f g h e) = let j = joint_is l n q w yl yq k f g h in record { value = (check_fits (joint (take n l) q) w j.bytes).value; bytes = omega arith }
end_fits l n q w yl yq (at_end k f g h e) =
    let j = joint_is l n q w yl yq k f g h in record { value = (check_fits (joint (take n l) q) w j.bytes).value; bytes = omega (arith, j.long, h) }

pub join_result_fits : (l : List ℕ) (n : ℕ) (q w : List ℕ) → IsBytes l → IsBytes q → ResultFits (joined l n q w)
join_result_fits l n q w yl yq = end_fits l n q w yl yq (ends l n q w)
