-- `moving::shift` meets its contract. The loop's invariant: the first i cells have moved. Assumes nothing.
use Rattle.moving.proofs.Shifting.{Shifting}
use Rattle.moving.proofs.shift.Given as goal

abbrev pub invariant-loop-moved : goal.invariant-loop-moved
invariant-loop-moved l = Shifting l.fn.w l.w l.x l.y l.moved
