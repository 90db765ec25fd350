-- `running::run_on` meets its contract. Assumes nothing.
use Rattle.running.proofs.Loop.{AllGoing}
use Rattle.std.proofs.Common.{◌-◌}
use Rattle.running.proofs.run_on.Given as goal

abbrev pub invariant-loop-next : goal.invariant-loop-next
invariant-loop-next l = AllGoing l.version l.limit l.initial.s l.initial.w l.initial.state.focus l.s l.w l.state

abbrev pub decreases-loop-next : goal.decreases-loop-next
decreases-loop-next l = l.limit - l.state.steps
