-- `running::cast_top` meets its contract. Assumes nothing.
use Rattle.running.proofs.Casting.{top_only}
use Rattle.running.proofs.cast_top.Goals as goal

pub returns : goal.returns
returns c h = c.become_top.ensures.says h (top_only h c.requires)
