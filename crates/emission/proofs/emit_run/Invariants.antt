-- `emission::emit_run` meets its contract: the cells copied so far are those that encoding the tree gives. Assumes nothing.
use Rattle.emission.proofs.Copies.{Copying}
use Rattle.emission.proofs.emit_run.Given as goal

abbrev pub invariant-loop-i : goal.invariant-loop-i
invariant-loop-i l = Copying l.s l.fn.d l.d l.x l.end l.m l.i
