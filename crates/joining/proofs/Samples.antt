-- The sample joins hold of the definition, by one computation. Assumes nothing.
use Prim.Native.Nat.{ℕ}
use native.Mathlib.Omega.{arith}
use mathlib.Core.Path.{◌≡◌, refl, ap, ◌∙◌}
use mathlib.Core.List.{List, [], ◌∷◌, map}
use lib.ListN.{length, take, length-take}
use Rattle.format.specs.Table.{All}
use Rattle.format.specs.Book.{form_finding, version_of}
use Rattle.format.specs.Widths.{mapped_cells, restamp}
use Rattle.format.specs.Joint.{together, joint}
use Rattle.answers.specs.Answer.{Result}
use Rattle.answers.specs.Engine.{IsWork}
use Rattle.answers.specs.Definition.{check, after_form, shown}
use Rattle.answers.proofs.AllSamples.{computing, in_work}
use Rattle.joining.specs.declared.Which.TheVariants.{Project, Part}
use Rattle.joining.specs.Join.{JoinResult, lent_length, after_check, after_books, after_project, after_lengths, joined}
use Rattle.joining.specs.Joins.{Lent}
use Rattle.joining.specs.Samples.{JoinSample, expected, Meets, join_samples}
use Rattle.joining.specs.Samples.{office, one, other_office, minus_five, register, applied_one, conflicting, a_type, cut_short, drafts, notes, counter, doubled}
use Rattle.joining.specs.Samples.{office_and_one, office_twice, minus_five_and_register, register_and_minus_five, drafts_and_notes, office_and_counter}
use Rattle.joining.specs.Samples.{type_of_office_and_one, type_of_office_twice, type_of_minus_five_and_register, type_of_register_and_minus_five, type_of_drafts_and_notes, type_of_office_and_counter}
use Rattle.joining.proofs.Stages.{is_lent, of_joint}

-- what a check answers, with any work buffer of 65,536 bytes
abbrev checked : List ℕ → Result
checked b = after_form b (shown (version_of b)) (form_finding b)

checked_is : (b w : List ℕ) → IsWork w → check b w ≡ checked b
unfolding check
checked_is b w k = in_work b w (shown (version_of b)) k

-- and a join
abbrev answered : List ℕ → JoinSample → JoinResult
answered l s =
    let p = s.project in
    let q = s.part in
    after_check Project l (checked p) (after_check Part l (checked q) (of_joint p q l (checked (joint p q))))

-- the one computation
computed : (l : List ℕ) → map (answered l) join_samples ≡ map (λ (s : JoinSample). expected l s.expects) join_samples
unfolding computing mapped_cells restamp together joint join_samples office one other_office minus_five register applied_one conflicting a_type cut_short drafts notes counter doubled office_and_one office_twice minus_five_and_register register_and_minus_five drafts_and_notes office_and_counter type_of_office_and_one type_of_office_twice type_of_minus_five_and_register type_of_register_and_minus_five type_of_drafts_and_notes type_of_office_and_counter
computed l = refl

module _ (s : JoinSample) (l w : List ℕ) (long : length l ≡ lent_length) (begins : take (length s.project) l ≡ s.project) (k : IsWork w) where
  is_lent_here : Lent l (length s.project) w
  is_lent_here = record { work = k; long = long; within = omega (arith, ap length begins, length-take (length s.project) l) }

  as_answered : joined l (length s.project) s.part w ≡ answered l s
  unfolding after_lengths after_project after_books
  as_answered =
      is_lent l (length s.project) s.part w is_lent_here
      ∙ ap (λ (p : List ℕ). after_lengths p s.part l w) begins
      ∙ cc (checked_is s.project w k, checked_is s.part w k, checked_is (joint s.project s.part) w k)

each : (ss : List JoinSample) → ((l : List ℕ) → map (answered l) ss ≡ map (λ (s : JoinSample). expected l s.expects) ss) → All Meets ss
each [] e = tt
each (s ∷ ss) e = ((λ l w h b k. as_answered s l w h b k ∙ (let z = e l in cc)), each ss (λ l. let z = e l in cc))

pub join_samples_hold : All Meets join_samples
join_samples_hold = each join_samples computed
