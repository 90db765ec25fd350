-- `engine::clear_refused` meets its contract. Assumes nothing.
use Rattle.engine.proofs.Judging.{cleared_work}
use Rattle.engine.proofs.clear_refused.Goals as goal

pub returns-then-work-eq65536 : goal.returns-then-work-eq65536
returns-then-work-eq65536 c =
    record { zeroed = λ k. cleared_work (c.fill.ensures.after (λ y h. h)) k; untouched = λ n. absurd (n c.if-work-eq65536.true) }
