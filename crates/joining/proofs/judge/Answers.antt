-- `joining::judge` meets its contract. Assumes nothing.
use Rattle.std.proofs.Common.{◌≡◌, length, arith}
use Rattle.std.proofs.lemmas.Result.{err_from_is_err_and}
use lib.Seq.{length-take-le}
use mathlib.Core.Logic.{inl, inr}
use mathlib.Core.Path.{sym}
use Rattle.joining.specs.Joins.{Lent}
use Rattle.joining.proofs.Judging.{no_work, not_lent, project_refused, part_refused, BothPass, project_formed, part_formed, books_full, write_ready, prefix_fits, joint_refused, joint_accepted}
use Rattle.joining.proofs.judge.Goals as goal
use Rattle.joining.proofs.judge.Goals.{Else-length-gt-LENT, In_ok-accept-2}

-- ---- what is known past the lengths, and past both books

lent : (c : Else-length-gt-LENT) → length c.args.project.now ≡ 32768 → Lent c.args.project.now c.args.length c.args.work.now
lent c e = record { work = c.if-work-ne65536.false; long = e; within = omega arith }

both : (c : In_ok-accept-2) → length c.args.project.now ≡ 32768 → BothPass c.args.project.now c.args.length c.args.part.now c.args.work.now c.accept.new.work c.accept-2.new.work
both c e =
    record {
      lent = record { work = c.if-work-ne65536.false; long = e; within = omega arith };
      first = _;
      project = c.in_ok-accept.ensures;
      between = omega (arith, c.accept.auto.work, c.if-work-ne65536.false);
      second = _;
      part = c.in_ok-accept-2.ensures;
      behind = omega (arith, c.accept-2.auto.work, c.accept.auto.work, c.if-work-ne65536.false);
      project_bytes = λ j. (c.type_inv.project j).fits;
      part_bytes = λ j. (c.type_inv.part j).fits;
    }

-- ---- the returns

pub returns-then-work-ne65536 : goal.returns-then-work-ne65536
returns-then-work-ne65536 c = no_work _ _ _ _ c.if-work-ne65536.true c.refused.ensures

pub returns-then-project-ne-LENT : goal.returns-then-project-ne-LENT
returns-then-project-ne-LENT c =
    not_lent _ _ _ _ c.if-work-ne65536.false (elim c.then-project-ne-LENT.either [ inl h ↦ inl h | inr h ↦ inr h.1 ]) c.refuse_zeroed.ensures

pub returns-in_err-accept : goal.returns-in_err-accept
returns-in_err-accept c =
    let p = err_from_is_err_and c.from_residual.result c.from_residual.ensures.1 in
    rw (p.1, p.2) (project_refused _ _ _ _ (lent (goal.at.returns-in_err-accept c).Else-length-gt-LENT (omega arith)) c.in_err-accept.ensures)

pub returns-in_err-accept-2 : goal.returns-in_err-accept-2
returns-in_err-accept-2 c =
    let p = err_from_is_err_and c.from_residual-in_err-accept-2.result c.from_residual-in_err-accept-2.ensures.1 in
    rw (p.1, p.2) (part_refused _ _ _ _ (lent (goal.at.returns-in_err-accept-2 c).Else-length-gt-LENT (omega arith)) c.in_ok-accept.ensures (omega (arith, c.accept.auto.work, c.if-work-ne65536.false)) c.in_err-accept-2.ensures)

pub overflow_sub-held : goal.overflow_sub-held
overflow_sub-held c = let long = (project_formed (both c (omega arith))).formed.long in omega arith

pub overflow_sub-part : goal.overflow_sub-part
overflow_sub-part c = let long = (part_formed (both c (omega arith))).formed.long in omega arith

pub returns-then-held-part-gt-LIMIT : goal.returns-then-held-part-gt-LIMIT
returns-then-held-part-gt-LIMIT c = books_full (both (goal.at.returns-then-held-part-gt-LIMIT c).In_ok-accept-2 (omega arith)) (omega (arith, c.if-held-part-gt-LIMIT.true)) c.refuse_zeroed-then-held-part-gt-LIMIT.ensures

pub write_joint-bytes-requires : goal.write_joint-bytes-requires
write_joint-bytes-requires c = write_ready (both (goal.at.write_joint-bytes-requires c).In_ok-accept-2 (omega arith)) c.requires (omega (arith, c.if-held-part-gt-LIMIT.false))

pub slice_bounds-accept-end : goal.slice_bounds-accept-end
slice_bounds-accept-end c = prefix_fits (both (goal.at.slice_bounds-accept-end c).In_ok-accept-2 (omega arith)) c.requires (omega (arith, c.if-held-part-gt-LIMIT.false)) c.write_joint-bytes.ensures

pub slice_bounds-accept-end-2 : goal.slice_bounds-accept-end-2
slice_bounds-accept-end-2 c = sym (length-take-le _ _ (prefix_fits (both (goal.at.slice_bounds-accept-end-2 c).In_ok-accept-2 (omega arith)) c.requires (omega (arith, c.if-held-part-gt-LIMIT.false)) c.write_joint-bytes.ensures))

pub returns-in_err-size : goal.returns-in_err-size
returns-in_err-size c =
    let p = err_from_is_err_and c.from_residual-in_err-size.result c.from_residual-in_err-size.ensures.1 in
    rw (p.1, p.2) (joint_refused (both (goal.at.returns-in_err-size c).In_ok-accept-2 (omega arith)) c.requires (omega (arith, c.if-held-part-gt-LIMIT.false)) c.write_joint-bytes.ensures c.in_err-size.ensures)

pub returns : goal.returns
returns c = joint_accepted (both (goal.at.returns c).In_ok-accept-2 (omega arith)) c.requires (omega (arith, c.if-held-part-gt-LIMIT.false)) c.write_joint-bytes.ensures c.in_ok-size.ensures
