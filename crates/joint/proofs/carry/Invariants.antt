-- `joint::carry` meets its contract. Assumes nothing.
use Rattle.joint.specs.Writing.{Carries}
use Rattle.joint.proofs.carry.Given as goal

abbrev pub invariant-loop-i : goal.invariant-loop-i
invariant-loop-i l = Carries l.s l.fn.d l.d l.i l.k l.own l.version
