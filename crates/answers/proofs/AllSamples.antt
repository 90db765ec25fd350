-- All samples marked M hold of the definitions, by one computation, and so do the books of the field reads, of sums and choices, of bodies, of numbers of
-- 48 bits, of values in two orders, of terms that grow and shrink and of the refusals; closed facts beside them. Assumes nothing.
use Prim.Native.Nat.{ℕ}
use mathlib.Core.Path.{◌≡◌, refl, ◌∙◌}
use mathlib.Core.Bool.{decide}
use mathlib.Core.Option.{or_else}
use mathlib.Core.List.{List, [], ◌∷◌, map}
use native.Mathlib.Decide.{ℕ_discrete}
use lib.IntN.{pos}
use Rattle.calculus.specs.Syntax.{Ty, int, size, size_type, Term, var, lit, anno, fix, choice, substitute}
use Rattle.calculus.specs.Numbers.{hold, chosen}
use Rattle.calculus.specs.Decide.{is_top_like, both_parts, field_part, type_of, below_within, is_below, disjoint_int, disjoint_arrow, disjoint_field, is_disjoint, is_value, is_closed}
use Rattle.calculus.specs.Decide.{same_under, same_integer, same_type, same_term, each_part, consistent_lit, consistent_lam, consistent_rcd, is_consistent}
use Rattle.calculus.specs.Infer.{lookup, checked, applied, picked, projected, labelled, is_mergeable, merged, infer}
use Rattle.calculus.specs.Evaluate.{merge_both, first_part, cast_int, cast_arrow, cast_field, cast, apply, content, top_value, read_parts, project, number_of, choose, add, next}
use Rattle.format.specs.declared.Version.TheVariants.{One}
use Rattle.format.specs.Version.{half_of}
use Rattle.format.specs.Table.{All, table, row_in, row_for}
use Rattle.format.specs.Cell.{cell_at, cell_bytes, signed, unsigned}
use Rattle.format.specs.Tree.{cells, field_tree, cell_tree, unshare_within, tree_at, refer, encode}
use Rattle.format.specs.Terms.{from_type, from_term_in, plain_of, to_type, to_term_in}
use Rattle.format.specs.Book.{first_bad, row_fault, cell_fault, cells_finding, root_finding, cells_form, form_finding, version_of, follow, root_term, trailer, book}
use Rattle.format.specs.Widths.{mapped_cells, restamp}
use Rattle.answers.specs.Answer.{spent, room, refused, Result, result}
use Rattle.answers.specs.Engine.{IsWork, zeros, padded}
use Rattle.answers.specs.Definition.{definition, refusal_result, after_typing, after_form, shown, is_full, first_stop, ended, evaluate, run_from, end_result, reported}
use Rattle.answers.specs.Definition.{judge, check, run}
use Rattle.answers.specs.Samples as Samples
use Rattle.answers.specs.Samples.{Call, Sample, called, expected, Meets, samples}
use Rattle.answers.specs.Samples.{equal_numbers, unequal_numbers, merged_variable, twice_read, identity_on_merge, identity_under_top}
use Rattle.answers.specs.Samples.{applied_top, applied_number, hidden_field, own_fixpoint, doubled, refusals}
use Rattle.answers.specs.Samples.{merged_field, missing_field, two_fields, top_like_beside_field, top_like_fields, top_like_content, lone_top_like, top_like_function, nested_parts, hidden_unannotated, later_merge, two_fields_beside_top, top_like_other_label, top_part, lone_function, lone_other_label, field_reads}
use Rattle.answers.specs.Samples.{one_plus_two, past_upper_end, past_lower_end, at_upper_end, at_lower_end, both_ends, sum_of_sums, merged_side, merged_right_side, top_plus_variable, one_plus_top, choice_by_zero, choice_by_one, choice_by_minus_one, choice_by_high, waiting_loop, annotated_branch, choice_by_top, top_for_zero, top_for_other, free_in_other, sum_merged, equal_bodies, exchanged_bodies, equal_choices, exchanged_choices, other_third_part, choice_in_body, sum_in_body, triangle, sum_names_c, labelled_sum, labelled_choice, choice_of_itself, choice_of_type, unknown_kind, sums_and_choices}
use Rattle.answers.specs.Samples.{same_body, other_body, opened_bodies, uneven_sharing, other_label, other_high_half, other_low_half, other_type_in_body, other_last_field, other_input, disjoint_bodies, unreached_chains, bodies}
use Rattle.answers.specs.Samples.{wide_number, wide_minus_one, past_wide_upper_end, past_wide_lower_end, above32, below32, lowest_in_one, lowest_in_two, labelled_number, unequal_in_two, unequal_above32, equal_above32, other_above32, choice_above32, choice_above16, choice_low, choice_none, version_three, version_zero, identity_in_two, restamped_hidden_field, minus_five, restamped_minus_five, wide_numbers}
use Rattle.answers.specs.Samples.{choosing_loop, three_copies, unreached_cells, marks}
use Rattle.answers.specs.Samples.{number_first, record_first, number_first_read, record_first_read, number_first_turned, record_first_turned, grouped_left, grouped_right, grouped_left_read, grouped_right_read, part_twice, part_twice_swapped, conflicting_ends, conflicting_ends_regrouped, not_yet_value, not_yet_value_regrouped, open_value, open_value_regrouped, reordered_bodies, orders}

-- to name it on a line is to unfold every definition that a computation of an answer meets, but for the zero tail
unfoldable pub computing : ℕ
unfolding size size_type substitute is_top_like both_parts field_part type_of below_within is_below disjoint_int disjoint_arrow disjoint_field is_disjoint is_value is_closed decide same_under same_integer ℕ_discrete same_type same_term each_part consistent_lit consistent_lam consistent_rcd is_consistent lookup checked applied picked projected labelled is_mergeable merged infer or_else merge_both first_part cast_int cast_arrow cast_field cast apply content top_value read_parts project hold chosen number_of choose add next table row_in row_for cell_at cell_bytes signed unsigned cells field_tree cell_tree unshare_within tree_at refer encode from_type from_term_in plain_of to_type to_term_in first_bad row_fault cell_fault cells_finding root_finding cells_form form_finding follow root_term trailer book refusal_result after_typing after_form shown is_full first_stop evaluate end_result padded
computing = 0

-- with a work buffer of 65,536 bytes the rows from 2 on decide
pub in_work : (b w : List ℕ) (g : Ty → Result) → IsWork w → judge b w g ≡ after_form b g (form_finding b)
unfolding judge
in_work b w g k = rw (k, judge)

-- the definitions' answer to a call, with any work buffer of 65,536 bytes
answered : Sample → Result
answered s = by s.call
  where
    by : Call → Result
    by Samples.check = after_form s.book (shown (version_of s.book)) (form_finding s.book)
    by (Samples.run l) = after_form s.book (reported s.book l) (form_finding s.book)

-- the one computation
computed : map answered samples ≡ map expected samples
unfolding computing answered samples equal_numbers unequal_numbers merged_variable twice_read identity_on_merge identity_under_top applied_top applied_number hidden_field own_fixpoint
computed = refl

as_answered : (s : Sample) (w : List ℕ) → IsWork w → called definition s.call s.book w ≡ answered s
unfolding answered check run
as_answered s w k = by s.call refl
  where
    by : (c : Call) → s.call ≡ c → called definition s.call s.book w ≡ answered s
    by Samples.check e = rw (e, called, answered) (in_work s.book w (shown (version_of s.book)) k)
    by (Samples.run l) e = rw (e, called, answered) (in_work s.book w (reported s.book l) k)

each : (ss : List Sample) → map answered ss ≡ map expected ss → All (Meets definition) ss
each [] e = tt
each (s ∷ ss) e = ((λ w k. as_answered s w k ∙ cc), each ss cc)

pub samples_hold : All (Meets definition) samples
samples_hold = each samples computed

field_reads_computed : map answered field_reads ≡ map expected field_reads
unfolding computing answered field_reads two_fields_beside_top top_like_other_label top_part lone_function lone_other_label merged_field missing_field two_fields top_like_beside_field top_like_fields top_like_content lone_top_like top_like_function nested_parts hidden_unannotated later_merge
field_reads_computed = refl

pub field_reads_hold : All (Meets definition) field_reads
field_reads_hold = each field_reads field_reads_computed

sums_and_choices_computed : map answered sums_and_choices ≡ map expected sums_and_choices
unfolding computing answered sums_and_choices one_plus_two past_upper_end past_lower_end at_upper_end at_lower_end both_ends sum_of_sums merged_side merged_right_side top_plus_variable one_plus_top choice_by_zero choice_by_one choice_by_minus_one choice_by_high waiting_loop annotated_branch choice_by_top top_for_zero top_for_other free_in_other sum_merged equal_bodies exchanged_bodies equal_choices exchanged_choices other_third_part choice_in_body sum_in_body triangle sum_names_c labelled_sum labelled_choice choice_of_itself choice_of_type unknown_kind
sums_and_choices_computed = refl

pub sums_and_choices_hold : All (Meets definition) sums_and_choices
sums_and_choices_hold = each sums_and_choices sums_and_choices_computed

bodies_computed : map answered bodies ≡ map expected bodies
unfolding computing answered bodies same_body other_body opened_bodies uneven_sharing other_label other_high_half other_low_half other_type_in_body other_last_field other_input disjoint_bodies unreached_chains
bodies_computed = refl

pub bodies_hold : All (Meets definition) bodies
bodies_hold = each bodies bodies_computed

wide_numbers_computed : map answered wide_numbers ≡ map expected wide_numbers
unfolding computing answered wide_numbers past_upper_end past_lower_end wide_number wide_minus_one past_wide_upper_end past_wide_lower_end above32 below32 lowest_in_one lowest_in_two labelled_number unequal_in_two unequal_above32 equal_above32 other_above32 choice_above32 choice_above16 choice_low choice_none version_three version_zero identity_in_two restamped_hidden_field minus_five restamped_minus_five
wide_numbers_computed = refl

pub wide_numbers_hold : All (Meets definition) wide_numbers
wide_numbers_hold = each wide_numbers wide_numbers_computed

orders_computed : map answered orders ≡ map expected orders
unfolding computing answered orders number_first record_first number_first_read record_first_read number_first_turned record_first_turned grouped_left grouped_right grouped_left_read grouped_right_read part_twice part_twice_swapped conflicting_ends conflicting_ends_regrouped not_yet_value not_yet_value_regrouped open_value open_value_regrouped reordered_bodies
orders_computed = refl

pub orders_hold : All (Meets definition) orders
orders_hold = each orders orders_computed

marks_computed : map answered marks ≡ map expected marks
unfolding computing answered marks choosing_loop three_copies unreached_cells
marks_computed = refl

pub marks_hold : All (Meets definition) marks
marks_hold = each marks marks_computed

refusals_computed : map answered refusals ≡ map expected refusals
unfolding computing answered refusals unequal_numbers applied_number doubled
refusals_computed = refl

pub refusals_hold : All (Meets definition) refusals
refusals_hold = each refusals refusals_computed

-- ---- closed facts beside the samples

-- With a sum, a restamped book may run to another number: the last two.
restamped_books :
    map restamp (hidden_field ∷ minus_five ∷ past_upper_end ∷ past_lower_end ∷ []) ≡ (restamped_hidden_field ∷ restamped_minus_five ∷ above32 ∷ below32 ∷ [])
unfolding cell_at cell_bytes mapped_cells restamp trailer hidden_field minus_five past_upper_end past_lower_end restamped_hidden_field restamped_minus_five above32 below32
restamped_books = refl

-- The fixpoint at Int whose body is its own variable: sizes 3, 5, 7, .. With room for 5 the third term is too large.
abbrev growing : Term
growing = fix (var 0) int

-- limit 0: spent, 0
growing_0 : run_from (half_of One) 5 0 growing ≡ ended spent 0 3 growing
unfolding computing
growing_0 = refl

-- limit 1: spent after 1, "else no room": the third term is not asked for
growing_1 : run_from (half_of One) 5 1 growing ≡ ended spent 1 5 (anno growing int)
unfolding computing
growing_1 = refl

-- limit 2: no room, 1 step; "a successor that found no room is not counted", and it has 7 cells
growing_2 : run_from (half_of One) 5 2 growing ≡ ended room 1 5 (anno growing int)
unfolding computing
growing_2 = refl

-- A choice's other branch counts until it goes: with room for 7 the tested part, of 3 cells, cannot become one of 5.
waiting_branch_counts : run_from (half_of One) 7 1 (choice growing (lit (pos 1)) (lit (pos 2))) ≡ ended room 0 6 (choice growing (lit (pos 1)) (lit (pos 2)))
unfolding computing
waiting_branch_counts = refl

-- "Refusal 1 touches nothing": whatever the book and the call
refusal_1 : (c : Call) (b : List ℕ) → called definition c b (7 ∷ 8 ∷ 9 ∷ []) ≡ result (refused 1 0) (7 ∷ 8 ∷ 9 ∷ [])
unfolding zeros judge check run
refusal_1 Samples.check b = refl
refusal_1 (Samples.run l) b = refl
