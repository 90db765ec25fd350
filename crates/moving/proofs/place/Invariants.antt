-- `moving::place` meets its contract. The loop's invariant: the first i cells have come. Assumes nothing.
use Rattle.moving.proofs.Placing.{Placing}
use Rattle.moving.proofs.place.Given as goal

abbrev pub invariant-loop-placed : goal.invariant-loop-placed
invariant-loop-placed l = Placing l.s l.fn.w l.w l.x l.y l.placed
