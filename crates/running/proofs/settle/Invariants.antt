-- `running::settle` meets its contract. Assumes nothing.
use Rattle.running.specs.Places.{distance}
use Rattle.running.proofs.Settling.{Under}
use Rattle.running.proofs.settle.Given as goal

abbrev pub invariant-loop-focus : goal.invariant-loop-focus
invariant-loop-focus l =
    Under l.fn.w l.initial.focus l.w l.focus

abbrev pub decreases-loop-focus : goal.decreases-loop-focus
decreases-loop-focus l =
    distance l.focus
