-- Of the joint of two accepted books only 10 and 14 can be said, at its last cell: it is too large, or the merge of the two roots has no type. Assumes nothing.
use Prim.Native.Nat.{ℕ, ◌+◌, ◌≤◌, ◌<◌}
use native.Mathlib.Decide.{dec_le}
use native.Mathlib.Omega.{arith}
use mathlib.Core.Path.{◌≡◌, refl, sym, ap, subst, ◌∙◌}
use mathlib.Core.Bool.{Bool, true, false, cond}
use mathlib.Core.Option.{Option, some}
use mathlib.Core.List.{List, []}
use borrow.Author.Tests.{lt-ltb}
use Rattle.calculus.specs.Syntax.{Ty, inter, merge}
use Rattle.calculus.specs.Typing.{Typed}
use Rattle.calculus.specs.Infer.{Found, found, infer, is_mergeable, merged}
use Rattle.calculus.specs.Infer as Infer
use Rattle.calculus.proofs.Inference.{infer_says}
use Rattle.format.specs.Tree.{cells, tree_at}
use Rattle.format.specs.Book.{bad_size, Finding, root_finding, form_finding, size_limit, WellFormed, count, version_of, root_of, root_term, follow}
use Rattle.format.specs.Joint.{joint, JointOf}
use Rattle.format.proofs.Tests.{cells_form_says, form_finding_says}
use Rattle.answers.specs.Answer.{refused, Result}
use Rattle.answers.specs.Engine.{IsWork}
use Rattle.answers.specs.Definition.{check, after_form, after_typing, refusal_result, shown}
use Rattle.answers.proofs.AllSamples.{in_work}
use Rattle.answers.proofs.Demands.{clash}
use Rattle.joining.specs.Joins.{JointRefusal, too_large, conflict}

-- a refusal is one of a number and a cell
pub same_refusal : (P : ℕ → ℕ → Type 0) {m i n j : ℕ} → refused m i ≡ refused n j → P m i → P n j
same_refusal P {m} {i} {n} {j} e p =
    let a : m ≡ n = cc in
    let b : i ≡ j = cc in
    subst (λ (x : ℕ). P x j) a (subst (P m) b p)

module _ {p q : List ℕ} (j : JointOf p q) {A B : Ty} (s : Typed [] (root_term p) A) (t : Typed [] (root_term q) B) (w : List ℕ) (k : IsWork w) where
  -- 10
  large_finding : size_limit < cells (tree_at (joint p q) (root_of (joint p q))) → form_finding (joint p q) ≡ some (record { fault = bad_size; cell = root_of (joint p q) })
  unfolding form_finding root_finding
  large_finding h = rw ((cells_form_says (joint p q)).1 j.well_formed, j.term, lt-ltb size_limit (cells (tree_at (joint p q) (root_of (joint p q)))) h, form_finding, root_finding) refl

  large : size_limit < cells (tree_at (joint p q) (root_of (joint p q))) → (check (joint p q) w).answer ≡ refused 10 (count p + count q)
  unfolding check after_form refusal_result
  large h =
      ap (λ (r : Result). r.answer) (in_work (joint p q) w (shown (version_of (joint p q))) k)
      ∙ ap (λ (f : Option Finding). (after_form (joint p q) (shown (version_of (joint p q))) f).answer) (large_finding h)
      ∙ ap (refused 10) j.rooted

  -- 14
  small_formed : cells (tree_at (joint p q) (root_of (joint p q))) ≤ size_limit → WellFormed (joint p q)
  small_formed h = record { formed = j.well_formed; term = j.term; small = h }

  found_merge : infer [] (root_term (joint p q)) ≡ cond (is_mergeable (root_term p) (root_term q) A B) (found (inter A B)) (Infer.refused Infer.conflict [])
  unfolding infer merged
  found_merge = rw (j.opens, (infer_says [] (root_term p) A).1 s, (infer_says [] (root_term q) B).1 t) refl

  small_answer : cells (tree_at (joint p q) (root_of (joint p q))) ≤ size_limit → (f : Found) → infer [] (root_term (joint p q)) ≡ f →
      (check (joint p q) w).answer ≡ (after_typing (joint p q) (shown (version_of (joint p q))) f).answer
  unfolding check after_form
  small_answer h f e =
      ap (λ (r : Result). r.answer) (in_work (joint p q) w (shown (version_of (joint p q))) k)
      ∙ ap (λ (f : Option Finding). (after_form (joint p q) (shown (version_of (joint p q))) f).answer) ((form_finding_says (joint p q)).1 (small_formed h))
      ∙ ap (λ (f : Found). (after_typing (joint p q) (shown (version_of (joint p q))) f).answer) e

  no_type : infer [] (root_term (joint p q)) ≡ Infer.refused Infer.conflict [] → (C : Ty) → ¬ Typed [] (merge (root_term p) (root_term q)) C
  no_type e C c =
      let x : infer [] (root_term (joint p q)) ≡ found C = (infer_says [] (root_term (joint p q)) C).1 (rw j.opens c) in
      let z : Infer.refused Infer.conflict [] ≡ found C = sym e ∙ x in
      clash cc

  pub joint_refused : (m i : ℕ) → (check (joint p q) w).answer ≡ refused m i → JointRefusal p q m i
  unfolding after_typing shown refusal_result follow
  joint_refused m i e =
      elim (dec_le (cells (tree_at (joint p q) (root_of (joint p q)))) size_limit) [
        | no n ↦ same_refusal (JointRefusal p q) (sym (large (omega arith)) ∙ e) (too_large (omega (arith, j.sized)))
        | yes h ↦ tested h (is_mergeable (root_term p) (root_term q) A B) refl
      ]
    where
      tested : cells (tree_at (joint p q) (root_of (joint p q))) ≤ size_limit → (b : Bool) → is_mergeable (root_term p) (root_term q) A B ≡ b → JointRefusal p q m i
      tested h true g =
          let f : infer [] (root_term (joint p q)) ≡ found (inter A B) = rw g at found_merge in
          let z = sym (small_answer h (found (inter A B)) f) ∙ e in
          absurd (clash cc)
      tested h false g =
          let f : infer [] (root_term (joint p q)) ≡ Infer.refused Infer.conflict [] = rw g at found_merge in
          same_refusal (JointRefusal p q) (ap (refused 14) (sym j.rooted) ∙ sym (small_answer h (Infer.refused Infer.conflict []) f) ∙ e) (conflict (omega (arith, h, j.sized)) s t (no_type f))
