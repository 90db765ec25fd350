-- Finding and checking meet their contracts. For each function: what is known at its points, as the records of the laws, and then the
-- answers to its goals. Assumes nothing.
use native.Mathlib.Omega.{arith}
use Prim.Native.Nat.{ℕ}
use Rattle.std.proofs.Common.{rules}
use Rattle.typing.proofs.Parts.{at_kind, at_last, room_for, as_read, AtCell, at_cell}
use Rattle.typing.proofs.Answers.{exit}
use Rattle.typing.proofs.Leaves.{INT_fits, TOP_fits, lit_found, unit_found}
use Rattle.typing.proofs.FirstParts.{app_first, merge_first, rcd_first, proj_first, merge_sides, right_asks, left_asks, left_refused, left_within}
use Rattle.typing.proofs.FirstParts.{AtLeft, at_left, AtType}
use Rattle.typing.proofs.Checking.{check_asks, check_found, check_mismatch, AtWanted, anno_asks, anno_finds}
use Rattle.typing.proofs.Applications.{app_top_right, app_right, app_top, app_else, app_right_refused, app_found}
use Rattle.typing.proofs.Functions.{lam_binds, lam_asks, lam_refused, lam_within, lam_room, lam_found, fix_binds, fix_asks, fix_finds, AtBody}
use Rattle.typing.proofs.Merges.{merge_right_refused, merge_asks, merge_adds, merge_conflict, merge_found, AtBoth}
use Rattle.typing.proofs.Records.{rcd_room, rcd_found}
use Rattle.typing.proofs.Records.{proj_top, proj_asks, proj_inter, proj_found, proj_other, proj_else}
use Rattle.typing.proofs.Sums.{sum_parts, choice_parts, AtPart, first_part, part_asks, part_refused, next_part, part_last}
use Rattle.typing.proofs.Types.+finding.Goals as goal
use Rattle.typing.proofs.Types.+finding.Goals.{check-In_ok-found, find_anno-After-read-t}
use Rattle.typing.proofs.Types.+finding.Goals.{find_app-After-read-g, find_app-After-read-t, find_app-In-Ok}
use Rattle.typing.proofs.Types.+finding.Goals.{find_choice-After-add-int, find_choice-After-read-choice, find_choice-In_ok-check}
use Rattle.typing.proofs.Types.+finding.Goals.{find_fix-After-read-t, find_lam-After-check, find_lam-After-read-t}
use Rattle.typing.proofs.Types.+finding.Goals.{find_merge-After-read-t, find_merge-In_ok-left, find_merge-In_ok-right}
use Rattle.typing.proofs.Types.+finding.Goals.{find_proj-After-read-content, find_proj-After-read-t, find_proj-In_ok-inside}
use Rattle.typing.proofs.Types.+finding.Goals.{find_rcd-After-read-content, find_rcd-After-read-t, find_rcd-In_ok-inside}
use Rattle.typing.proofs.Types.+finding.Goals.{find_sum-After-add-int, find_sum-After-read-sum, find_sum-In_ok-check}

-- ---- `check`

abbrev check_typed : (t : ℕ) (c : check-In_ok-found t) → AtWanted
check_typed t c =
    record {
      s = _;
      u = _;
      n = _;
      c = _;
      i = _;
      w = _;
      k = _;
      x = _;
      wanted = c.requires;
      found = record { answer = _; finds = c.find.ensures.finds; is = c.in_ok-found.was };
    }

pub check-subtype-requires : goal.check-subtype-requires
check-subtype-requires t c = let p = check_typed t (goal.at.check-subtype-requires t c).In_ok-found in check_asks p.wanted p.found

pub check-returns-then-subtype-clause-finds : goal.check-returns-then-subtype-clause-finds
check-returns-then-subtype-clause-finds t c =
    let p = check_typed t (goal.at.check-returns-then-subtype-clause-finds t c).In_ok-found in
    check_found p.wanted p.found c.subtype.ensures c.if-subtype.true

pub check-returns-else-subtype-clause-finds : goal.check-returns-else-subtype-clause-finds
check-returns-else-subtype-clause-finds t c =
    let p = check_typed t (goal.at.check-returns-else-subtype-clause-finds t c).In_ok-found in
    check_mismatch p.wanted p.found c.subtype.ensures c.if-subtype.false

-- ---- `find`

pub find-find_choice-requires : goal.find-find_choice-requires
find-find_choice-requires t c = (omega (arith, c.decreases), at_last c.requires c.read-t.ensures (search rules))

pub find-add-requires : goal.find-add-requires
find-add-requires t c = room_for c.requires INT_fits

pub find-returns-in-17-clause-finds : goal.find-returns-in-17-clause-finds
find-returns-in-17-clause-finds t c = lit_found (at_kind c.requires c.read-t.ensures c.in-17.is) c.add.ensures.adds

pub find-add-requires-in-18 : goal.find-add-requires-in-18
find-add-requires-in-18 t c = room_for c.requires TOP_fits

pub find-returns-in-18-clause-finds : goal.find-returns-in-18-clause-finds
find-returns-in-18-clause-finds t c = unit_found (at_kind c.requires c.read-t.ensures c.in-18.is) c.add-in-18.ensures.adds

-- ---- `find_anno`

abbrev anno_read : (t : ℕ) (c : find_anno-After-read-t t) → AtCell 19 t
anno_read t c = at_cell (as_read c.requires c.decreases c.read-t.ensures)

pub find_anno-check-requires : goal.find_anno-check-requires
find_anno-check-requires t c = anno_asks (anno_read t (goal.at.find_anno-check-requires t c).After-read-t).read

pub find_anno-returns-clause-finds : goal.find_anno-returns-clause-finds
find_anno-returns-clause-finds t c = anno_finds (anno_read t (goal.at.find_anno-returns-clause-finds t c).After-read-t).read c.check.ensures.finds

-- ---- `find_app`

abbrev app_read : (t : ℕ) (c : find_app-After-read-t t) → AtCell 20 t
app_read t c = at_cell (as_read c.requires c.decreases c.read-t.ensures)

abbrev app_left : (t : ℕ) (c : find_app-In-Ok t) → AtLeft 20 t
app_left t c = at_left (app_read t (goal.at.find_app-In-Ok t c).After-read-t) c.find_left-left.ensures.finds c.in-Ok.is

abbrev app_type : (t : ℕ) (c : find_app-After-read-g t) → AtType 20 t
app_type t c = record { at = app_left t (goal.at.find_app-After-read-g t c).In-Ok; g = _; type = c.read-g.ensures }

pub find_app-find_left-left-requires : goal.find_app-find_left-left-requires
find_app-find_left-left-requires t c =
    left_asks app_first (app_read t (goal.at.find_app-find_left-left-requires t c).After-read-t).read

pub find_app-returns-in_default-clause-finds : goal.find_app-returns-in_default-clause-finds
find_app-returns-in_default-clause-finds t c =
    rw c.in_default.is
    (left_refused app_first (app_read t (goal.at.find_app-returns-in_default-clause-finds t c).After-read-t).read c.find_left-left.ensures.finds c.in_default.is)

pub find_app-read-g-requires : goal.find_app-read-g-requires
find_app-read-g-requires t c =
    let p = app_left t (goal.at.find_app-read-g-requires t c).In-Ok in
    left_within app_first p.at.read p.left

pub find_app-check-requires : goal.find_app-check-requires
find_app-check-requires t c =
    let p = app_type t (goal.at.find_app-check-requires t c).After-read-g in
    app_top_right p.at.at.read p.at.left

pub find_app-returns-in-2-clause-finds : goal.find_app-returns-in-2-clause-finds
find_app-returns-in-2-clause-finds t c =
    let p = app_type t (goal.at.find_app-returns-in-2-clause-finds t c).After-read-g in
    app_top p.at.at.read p.at.left p.type c.in-2.is c.check.ensures.finds

pub find_app-returns-in_default-kind-clause-finds : goal.find_app-returns-in_default-kind-clause-finds
find_app-returns-in_default-kind-clause-finds t c =
    let p = app_type t (goal.at.find_app-returns-in_default-kind-clause-finds t c).After-read-g in
    app_else p.at.at.read p.at.left p.type (search rules) (search rules)

pub find_app-check-requires-in-3 : goal.find_app-check-requires-in-3
find_app-check-requires-in-3 t c =
    let p = app_type t (goal.at.find_app-check-requires-in-3 t c).After-read-g in
    app_right p.at.at.read p.at.left p.type c.in-3.is

pub find_app-returns-in_err-check-in-3-clause-finds : goal.find_app-returns-in_err-check-in-3-clause-finds
find_app-returns-in_err-check-in-3-clause-finds t c =
    let p = app_type t (goal.at.find_app-returns-in_err-check-in-3-clause-finds t c).After-read-g in
    rw (exit c.from_residual.ensures.1) (app_right_refused p.at.at.read p.at.left p.type c.in-3.is c.check-in-3.ensures.finds c.in_err-check-in-3.was)

pub find_app-returns-in_ok-check-in-3-clause-finds : goal.find_app-returns-in_ok-check-in-3-clause-finds
find_app-returns-in_ok-check-in-3-clause-finds t c =
    let p = app_type t (goal.at.find_app-returns-in_ok-check-in-3-clause-finds t c).After-read-g in
    app_found p.at.at.read p.at.left p.type c.in-3.is c.check-in-3.ensures.finds c.in_ok-check-in-3.was

-- ---- `find_choice`

abbrev choice_read : (t : ℕ) (c : find_choice-After-read-choice t) → AtCell 27 t
choice_read t c = at_cell (as_read c.requires c.decreases c.read-choice.ensures)

abbrev choice_first : (t : ℕ) (c : find_choice-After-add-int t) → AtPart 27 t 0 3
choice_first t c = first_part choice_parts (choice_read t (goal.at.find_choice-After-add-int t c).After-read-choice) c.add-int.ensures.adds

abbrev choice_second : (t : ℕ) (c : find_choice-In_ok-check t) → AtPart 27 t 1 2
choice_second t c = next_part (choice_first t (goal.at.find_choice-In_ok-check t c).After-add-int) c.check.ensures.finds c.in_ok-check.was

pub find_choice-add-int-requires : goal.find_choice-add-int-requires
find_choice-add-int-requires t c =
    let p = (choice_read t (goal.at.find_choice-add-int-requires t c).After-read-choice).read.ready in room_for p INT_fits

pub find_choice-check-requires : goal.find_choice-check-requires
find_choice-check-requires t c = part_asks (choice_first t (goal.at.find_choice-check-requires t c).After-add-int).turn

pub find_choice-returns-in_err-check-clause-finds : goal.find_choice-returns-in_err-check-clause-finds
find_choice-returns-in_err-check-clause-finds t c =
    rw (exit c.from_residual.ensures.1)
    (part_refused (choice_first t (goal.at.find_choice-returns-in_err-check-clause-finds t c).After-add-int).turn c.check.ensures.finds c.in_err-check.was)

pub find_choice-check-requires-2 : goal.find_choice-check-requires-2
find_choice-check-requires-2 t c = part_asks (choice_second t (goal.at.find_choice-check-requires-2 t c).In_ok-check).turn

pub find_choice-returns-in_err-check-2-clause-finds : goal.find_choice-returns-in_err-check-2-clause-finds
find_choice-returns-in_err-check-2-clause-finds t c =
    rw (exit c.from_residual-in_err-check-2.ensures.1)
    (part_refused (choice_second t (goal.at.find_choice-returns-in_err-check-2-clause-finds t c).In_ok-check).turn c.check-2.ensures.finds c.in_err-check-2.was)

pub find_choice-check-requires-3 : goal.find_choice-check-requires-3
find_choice-check-requires-3 t c =
    let p = choice_second t (goal.at.find_choice-check-requires-3 t c).In_ok-check in
    part_asks (next_part p c.check-2.ensures.finds c.in_ok-check-2.was).turn

pub find_choice-returns-clause-finds : goal.find_choice-returns-clause-finds
find_choice-returns-clause-finds t c =
    let p = choice_second t (goal.at.find_choice-returns-clause-finds t c).In_ok-check in
    part_last (next_part p c.check-2.ensures.finds c.in_ok-check-2.was).turn c.check-3.ensures.finds

-- ---- `find_fix`

abbrev fix_read : (t : ℕ) (c : find_fix-After-read-t t) → AtCell 23 t
fix_read t c = at_cell (as_read c.requires c.decreases c.read-t.ensures)

pub find_fix-bind-inner-requires : goal.find_fix-bind-inner-requires
find_fix-bind-inner-requires t c = fix_binds (fix_read t (goal.at.find_fix-bind-inner-requires t c).After-read-t).read

pub find_fix-check-requires : goal.find_fix-check-requires
find_fix-check-requires t c = fix_asks (fix_read t (goal.at.find_fix-check-requires t c).After-read-t).read c.bind-inner.ensures.binds

pub find_fix-returns-clause-finds : goal.find_fix-returns-clause-finds
find_fix-returns-clause-finds t c = fix_finds (fix_read t (goal.at.find_fix-returns-clause-finds t c).After-read-t).read c.bind-inner.ensures.binds c.check.ensures.finds

-- ---- `find_lam`

abbrev lam_read : (t : ℕ) (c : find_lam-After-read-t t) → AtCell 21 t
lam_read t c = at_cell (as_read c.requires c.decreases c.read-t.ensures)

abbrev lam_body : (t : ℕ) (c : find_lam-After-check t) → AtBody t
lam_body t c =
    record {
      at = lam_read t (goal.at.find_lam-After-check t c).After-read-t;
      t = _;
      u = _;
      m = _;
      k = _;
      o = _;
      answer = _;
      binds = c.bind-inner.ensures.binds;
      checks = c.check.ensures.finds;
    }

pub find_lam-bind-inner-requires : goal.find_lam-bind-inner-requires
find_lam-bind-inner-requires t c = lam_binds (lam_read t (goal.at.find_lam-bind-inner-requires t c).After-read-t).read

pub find_lam-check-requires : goal.find_lam-check-requires
find_lam-check-requires t c =
    lam_asks (lam_read t (goal.at.find_lam-check-requires t c).After-read-t).read c.bind-inner.ensures.binds

pub find_lam-returns-in_err-check-clause-finds : goal.find_lam-returns-in_err-check-clause-finds
find_lam-returns-in_err-check-clause-finds t c =
    let p = lam_body t (goal.at.find_lam-returns-in_err-check-clause-finds t c).After-check in
    rw (exit c.from_residual.ensures.1) (lam_refused p.at.read p.binds p.checks c.in_err-check.was)

pub find_lam-read-output-requires : goal.find_lam-read-output-requires
find_lam-read-output-requires t c =
    let p = lam_body t (goal.at.find_lam-read-output-requires t c).After-check in
    lam_within p.at.read p.binds p.checks c.in_ok-check.was

pub find_lam-add-requires : goal.find_lam-add-requires
find_lam-add-requires t c =
    let p = lam_body t (goal.at.find_lam-add-requires t c).After-check in
    lam_room p.at.read p.binds p.checks c.in_ok-check.was c.read-output.ensures

pub find_lam-returns-clause-finds : goal.find_lam-returns-clause-finds
find_lam-returns-clause-finds t c =
    let p = lam_body t (goal.at.find_lam-returns-clause-finds t c).After-check in
    lam_found p.at.read p.binds p.checks c.in_ok-check.was c.read-output.ensures c.add.ensures.adds

-- ---- `find_merge`

abbrev merge_read : (t : ℕ) (c : find_merge-After-read-t t) → AtCell 22 t
merge_read t c = at_cell (as_read c.requires c.decreases c.read-t.ensures)

abbrev merge_left : (t : ℕ) (c : find_merge-In_ok-left t) → AtLeft 22 t
merge_left t c = at_left (merge_read t (goal.at.find_merge-In_ok-left t c).After-read-t) c.find_left.ensures.finds c.in_ok-left.was

abbrev merge_both : (t : ℕ) (c : find_merge-In_ok-right t) → AtBoth t
merge_both t c =
    record {
      at = merge_left t (goal.at.find_merge-In_ok-right t c).In_ok-left;
      v = _;
      m = _;
      x = _;
      right = record { answer = _; finds = c.find.ensures.finds; is = c.in_ok-right.was };
    }

pub find_merge-find_left-requires : goal.find_merge-find_left-requires
find_merge-find_left-requires t c =
    left_asks merge_first (merge_read t (goal.at.find_merge-find_left-requires t c).After-read-t).read

pub find_merge-returns-in_err-left-clause-finds : goal.find_merge-returns-in_err-left-clause-finds
find_merge-returns-in_err-left-clause-finds t c =
    rw (exit c.from_residual.ensures.1)
    (left_refused merge_first (merge_read t (goal.at.find_merge-returns-in_err-left-clause-finds t c).After-read-t).read c.find_left.ensures.finds c.in_err-left.was)

pub find_merge-find-requires : goal.find_merge-find-requires
find_merge-find-requires t c =
    let p = merge_left t (goal.at.find_merge-find-requires t c).In_ok-left in
    let v = right_asks merge_sides p.at.read p.left in (omega (arith, v.0), v.1)

pub find_merge-returns-in_err-right-clause-finds : goal.find_merge-returns-in_err-right-clause-finds
find_merge-returns-in_err-right-clause-finds t c =
    let p = merge_left t (goal.at.find_merge-returns-in_err-right-clause-finds t c).In_ok-left in
    rw (exit c.from_residual-in_err-right.ensures.1) (merge_right_refused p.at.read p.left c.find.ensures.finds c.in_err-right.was)

pub find_merge-mergeable-requires : goal.find_merge-mergeable-requires
find_merge-mergeable-requires t c =
    let p = merge_both t (goal.at.find_merge-mergeable-requires t c).In_ok-right in
    merge_asks p.at.at.read p.at.left p.right

pub find_merge-add_inter-requires : goal.find_merge-add_inter-requires
find_merge-add_inter-requires t c =
    let p = merge_both t (goal.at.find_merge-add_inter-requires t c).In_ok-right in
    merge_adds p.at.at.read p.at.left p.right

pub find_merge-returns-then-mergeable-clause-finds : goal.find_merge-returns-then-mergeable-clause-finds
find_merge-returns-then-mergeable-clause-finds t c =
    let p = merge_both t (goal.at.find_merge-returns-then-mergeable-clause-finds t c).In_ok-right in
    merge_found p.at.at.read p.at.left p.right c.mergeable.ensures c.if-mergeable.true c.add_inter.ensures.adds

pub find_merge-returns-else-mergeable-clause-finds : goal.find_merge-returns-else-mergeable-clause-finds
find_merge-returns-else-mergeable-clause-finds t c =
    let p = merge_both t (goal.at.find_merge-returns-else-mergeable-clause-finds t c).In_ok-right in
    merge_conflict p.at.at.read p.at.left p.right c.mergeable.ensures c.if-mergeable.false

-- ---- `find_proj`

abbrev proj_read : (t : ℕ) (c : find_proj-After-read-t t) → AtCell 25 t
proj_read t c = at_cell (as_read c.requires c.decreases c.read-t.ensures)

abbrev proj_left : (t : ℕ) (c : find_proj-In_ok-inside t) → AtLeft 25 t
proj_left t c = at_left (proj_read t (goal.at.find_proj-In_ok-inside t c).After-read-t) c.find.ensures.finds c.in_ok-inside.was

abbrev proj_type : (t : ℕ) (c : find_proj-After-read-content t) → AtType 25 t
proj_type t c = record { at = proj_left t (goal.at.find_proj-After-read-content t c).In_ok-inside; g = _; type = c.read-content.ensures }

pub find_proj-find-requires : goal.find_proj-find-requires
find_proj-find-requires t c =
    let v = left_asks proj_first (proj_read t (goal.at.find_proj-find-requires t c).After-read-t).read in (omega (arith, v.0), v.1)

pub find_proj-returns-in_err-inside-clause-finds : goal.find_proj-returns-in_err-inside-clause-finds
find_proj-returns-in_err-inside-clause-finds t c =
    rw (exit c.from_residual.ensures.1)
    (left_refused proj_first (proj_read t (goal.at.find_proj-returns-in_err-inside-clause-finds t c).After-read-t).read c.find.ensures.finds c.in_err-inside.was)

pub find_proj-read-content-requires : goal.find_proj-read-content-requires
find_proj-read-content-requires t c =
    let p = proj_left t (goal.at.find_proj-read-content-requires t c).In_ok-inside in
    left_within proj_first p.at.read p.left

pub find_proj-returns-in-2-clause-finds : goal.find_proj-returns-in-2-clause-finds
find_proj-returns-in-2-clause-finds t c =
    let p = proj_type t (goal.at.find_proj-returns-in-2-clause-finds t c).After-read-content in
    proj_top p.at.at.read p.at.left p.type c.in-2.is

pub find_proj-find_field-requires : goal.find_proj-find_field-requires
find_proj-find_field-requires t c =
    let p = proj_type t (goal.at.find_proj-find_field-requires t c).After-read-content in
    proj_asks p.at.at.read p.at.left p.type

pub find_proj-returns-in-4-clause-finds : goal.find_proj-returns-in-4-clause-finds
find_proj-returns-in-4-clause-finds t c =
    let p = proj_type t (goal.at.find_proj-returns-in-4-clause-finds t c).After-read-content in
    proj_inter p.at.at.read p.at.left p.type c.in-4.is c.find_field.ensures.finds

pub find_proj-returns-in-5-clause-finds : goal.find_proj-returns-in-5-clause-finds
find_proj-returns-in-5-clause-finds t c =
    let p = proj_type t (goal.at.find_proj-returns-in-5-clause-finds t c).After-read-content in
    proj_found p.at.at.read p.at.left p.type c.in-5.is c.if-content-t.true

pub find_proj-returns-in_default-clause-finds : goal.find_proj-returns-in_default-clause-finds
find_proj-returns-in_default-clause-finds t c =
    let p = proj_type t (goal.at.find_proj-returns-in_default-clause-finds t c).After-read-content in
    proj_other p.at.at.read p.at.left p.type c.in-5.is c.if-content-t.false

pub find_proj-returns-in_default-2-clause-finds : goal.find_proj-returns-in_default-2-clause-finds
find_proj-returns-in_default-2-clause-finds t c =
    let p = proj_type t (goal.at.find_proj-returns-in_default-2-clause-finds t c).After-read-content in
    proj_else p.at.at.read p.at.left p.type (search rules) (search rules) (search rules)

-- ---- `find_rcd`

abbrev rcd_read : (t : ℕ) (c : find_rcd-After-read-t t) → AtCell 24 t
rcd_read t c = at_cell (as_read c.requires c.decreases c.read-t.ensures)

abbrev rcd_left : (t : ℕ) (c : find_rcd-In_ok-inside t) → AtLeft 24 t
rcd_left t c = at_left (rcd_read t (goal.at.find_rcd-In_ok-inside t c).After-read-t) c.find.ensures.finds c.in_ok-inside.was

abbrev rcd_type : (t : ℕ) (c : find_rcd-After-read-content t) → AtType 24 t
rcd_type t c = record { at = rcd_left t (goal.at.find_rcd-After-read-content t c).In_ok-inside; g = _; type = c.read-content.ensures }

pub find_rcd-find-requires : goal.find_rcd-find-requires
find_rcd-find-requires t c =
    let v = left_asks rcd_first (rcd_read t (goal.at.find_rcd-find-requires t c).After-read-t).read in (omega (arith, v.0), v.1)

pub find_rcd-returns-in_err-inside-clause-finds : goal.find_rcd-returns-in_err-inside-clause-finds
find_rcd-returns-in_err-inside-clause-finds t c =
    rw (exit c.from_residual.ensures.1)
    (left_refused rcd_first (rcd_read t (goal.at.find_rcd-returns-in_err-inside-clause-finds t c).After-read-t).read c.find.ensures.finds c.in_err-inside.was)

pub find_rcd-read-content-requires : goal.find_rcd-read-content-requires
find_rcd-read-content-requires t c =
    let p = rcd_left t (goal.at.find_rcd-read-content-requires t c).In_ok-inside in
    left_within rcd_first p.at.read p.left

pub find_rcd-add-requires : goal.find_rcd-add-requires
find_rcd-add-requires t c =
    let p = rcd_type t (goal.at.find_rcd-add-requires t c).After-read-content in
    rcd_room p.at.at.read p.at.left p.type

pub find_rcd-returns-clause-finds : goal.find_rcd-returns-clause-finds
find_rcd-returns-clause-finds t c =
    let p = rcd_type t (goal.at.find_rcd-returns-clause-finds t c).After-read-content in
    rcd_found p.at.at.read p.at.left p.type c.add.ensures.adds

-- ---- `find_sum`

abbrev sum_read : (t : ℕ) (c : find_sum-After-read-sum t) → AtCell 26 t
sum_read t c = at_cell (as_read c.requires c.decreases c.read-sum.ensures)

abbrev sum_first : (t : ℕ) (c : find_sum-After-add-int t) → AtPart 26 t 0 2
sum_first t c = first_part sum_parts (sum_read t (goal.at.find_sum-After-add-int t c).After-read-sum) c.add-int.ensures.adds

abbrev sum_second : (t : ℕ) (c : find_sum-In_ok-check t) → AtPart 26 t 1 1
sum_second t c = next_part (sum_first t (goal.at.find_sum-In_ok-check t c).After-add-int) c.check.ensures.finds c.in_ok-check.was

pub find_sum-add-int-requires : goal.find_sum-add-int-requires
find_sum-add-int-requires t c =
    let p = (sum_read t (goal.at.find_sum-add-int-requires t c).After-read-sum).read.ready in room_for p INT_fits

pub find_sum-check-requires : goal.find_sum-check-requires
find_sum-check-requires t c = part_asks (sum_first t (goal.at.find_sum-check-requires t c).After-add-int).turn

pub find_sum-returns-in_err-check-clause-finds : goal.find_sum-returns-in_err-check-clause-finds
find_sum-returns-in_err-check-clause-finds t c =
    rw (exit c.from_residual.ensures.1)
    (part_refused (sum_first t (goal.at.find_sum-returns-in_err-check-clause-finds t c).After-add-int).turn c.check.ensures.finds c.in_err-check.was)

pub find_sum-check-requires-2 : goal.find_sum-check-requires-2
find_sum-check-requires-2 t c = part_asks (sum_second t (goal.at.find_sum-check-requires-2 t c).In_ok-check).turn

pub find_sum-returns-clause-finds : goal.find_sum-returns-clause-finds
find_sum-returns-clause-finds t c = part_last (sum_second t (goal.at.find_sum-returns-clause-finds t c).In_ok-check).turn c.check-2.ensures.finds
