-- `running::unwind` meets its contract. Assumes nothing.
use Rattle.running.proofs.Settling.{Outward, outward}
use Rattle.running.proofs.unwind.Given as goal

abbrev pub invariant-loop-around : goal.invariant-loop-around
invariant-loop-around l =
    Outward l.fn.w l.up l.child l.w l.around l.root

abbrev pub decreases-loop-around : goal.decreases-loop-around
decreases-loop-around l =
    outward l.around
