-- The source's definitions and document 01's lists agree, a field read counts parts as document 02 does, sums and choices are as it says, substitution
-- keeps every part in its place, and the executable functions decide the relations. Assumes nothing.
use Prim.Native.Nat.{ℕ, suc}
use mathlib.Core.Path.{refl}
use mathlib.Core.List.{List}
use lib.Dec.{eqb}
use Rattle.calculus.specs.Syntax.{Term, substitute}
use Rattle.calculus.specs.RefusalPaths.{At, here, in_anno, in_left, in_right, in_body, in_first, in_second, in_fix, in_content, in_read}
use Rattle.calculus.specs.RefusalPaths.{in_sum_left, in_sum_right, in_tested, in_zero, in_other}
use Rattle.calculus.specs.Agreement.{ListsAgree, PartsCounted, FieldsKept, skips_in, SubstitutesInPlace, Decides}
use Rattle.calculus.proofs.Bools.{T_true, T_false, eqb_says}
use Rattle.calculus.proofs.Disjointness.{list→disjoint, disjoint→list}
use Rattle.calculus.proofs.Decisions.{is_top_like_says, is_below_says, is_disjoint_says}
use Rattle.calculus.proofs.Fields.{fields_runtime, one_part_says, top_part_says, no_content, part_unique}
use Rattle.calculus.proofs.Parts.{one_counted, none_counted, some_counted, projects_single, projects_inter}
use Rattle.calculus.proofs.Consistency.{list→consistent, consistent→list}
use Rattle.calculus.proofs.Tests.{is_value_says, is_consistent_says}
use Rattle.calculus.proofs.Typing.{typed_by_list}
use Rattle.calculus.proofs.Inference.{no_field_refused, infer_says}
use Rattle.calculus.proofs.Evaluation.{cast_says, next_says}
-- Proved there, told here:
-- sums_and_choices : SumsAndChoices
pub use Rattle.calculus.proofs.Sums.{sums_and_choices}

-- every part stands where it stood
parts_stay : (k : ℕ) (s : Term) {e f : Term} {p : List ℕ} (a : At e p f) → At (substitute k s e) p (substitute (skips_in a k) s f)
unfolding substitute
parts_stay k s here = here
parts_stay k s (in_anno a) = in_anno (parts_stay k s a)
parts_stay k s (in_left a) = in_left (parts_stay k s a)
parts_stay k s (in_right a) = in_right (parts_stay k s a)
parts_stay k s (in_body a) = in_body (parts_stay (suc k) s a)
parts_stay k s (in_first a) = in_first (parts_stay k s a)
parts_stay k s (in_second a) = in_second (parts_stay k s a)
parts_stay k s (in_fix a) = in_fix (parts_stay (suc k) s a)
parts_stay k s (in_content a) = in_content (parts_stay k s a)
parts_stay k s (in_read a) = in_read (parts_stay k s a)
parts_stay k s (in_sum_left a) = in_sum_left (parts_stay k s a)
parts_stay k s (in_sum_right a) = in_sum_right (parts_stay k s a)
parts_stay k s (in_tested a) = in_tested (parts_stay k s a)
parts_stay k s (in_zero a) = in_zero (parts_stay k s a)
parts_stay k s (in_other a) = in_other (parts_stay k s a)

pub substitutes_in_place : SubstitutesInPlace
unfolding substitute
substitutes_in_place =
    record {
      variable = λ k s. rw (T_true {b = eqb k k} (eqb_says k k) refl);
      others = λ k n s u. rw (T_false {b = eqb n k} (eqb_says n k) u);
      parts = λ k s e f p. parts_stay k s;
    }

pub lists_agree : ListsAgree
lists_agree =
    record {
      disjoint = λ A B. (disjoint→list A B, list→disjoint);
      consistent = λ v w A B a b. (consistent→list a b, list→consistent);
      typed = λ Γ e A. typed_by_list;
    }

pub parts_counted : PartsCounted
parts_counted =
    record {
      keeps = projects_single;
      reads = projects_inter;
      one = one_counted;
      none = none_counted;
      some_top_like = some_counted;
      otherwise = no_field_refused;
      one_content = λ l v A C. part_unique;
      no_content = λ l v A n w. no_content n w;
    }

pub fields_kept : FieldsKept
fields_kept = record { says = λ l A B. fields_runtime l }

pub decides : Decides
decides =
    record {
      top_like = is_top_like_says;
      one_field = one_part_says;
      top_field = top_part_says;
      below = is_below_says;
      disjoint = is_disjoint_says;
      value = is_value_says;
      consistent = λ v w A B. is_consistent_says;
      finds = infer_says;
      casts = λ v x A B. cast_says x;
      steps = λ h e f A. next_says h f;
    }
