-- `joining::refuse_zeroed` meets its contract. Assumes nothing.
use Rattle.answers.specs.Engine.{zeros}
use Rattle.joining.proofs.refuse_zeroed.Goals as goal

pub returns : goal.returns
unfolding zeros
returns c =
    record { says = c.refused.ensures; zeroed = c.fill.ensures.after (λ y h. h) }
