-- `running::project_merge` meets its contract. Assumes nothing.
use native.Mathlib.Omega.{arith}
use Rattle.running.proofs.Ranges.{redex_low}
use Rattle.running.proofs.Projecting.{becomes_at}
use Rattle.running.proofs.MergeReads.{merge_value, part_range, part_shift, none_only, projects_part}
use Rattle.running.proofs.project_merge.Goals as goal

pub value_part-requires : goal.value_part-requires
value_part-requires c = search merge_value

pub returns-in_default : goal.returns-in_default
returns-in_default c h =
    c.become_top.ensures.says h (none_only _ _ c.requires c.value_part.ensures h c.in_default.is)

pub overflow_sub-n : goal.overflow_sub-n
overflow_sub-n c =
    omega (arith, part_range _ _ c.requires c.value_part.ensures c.in-Some.is)

pub shift-requires : goal.shift-requires
shift-requires c =
    part_shift _ _ c.requires c.value_part.ensures c.in-Some.is

pub overflow_add-p : goal.overflow_add-p
overflow_add-p c =
    omega (arith, part_range _ _ c.requires c.value_part.ensures c.in-Some.is)

pub became-requires : goal.became-requires
became-requires c = search redex_low

pub returns : goal.returns
returns c h =
    becomes_at c.became.ensures
    (projects_part _ _ c.requires c.value_part.ensures c.in-Some.is c.shift.ensures)
