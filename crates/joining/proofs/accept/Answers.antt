-- `joining::accept` meets its contract. Assumes nothing.
use Rattle.joining.proofs.Judging.{passed, turned}
use Rattle.joining.proofs.accept.Goals as goal

pub returns-in-Refused : goal.returns-in-Refused
returns-in-Refused c = turned c.check.ensures c.in-Refused.is c.refused.ensures

pub returns-in-Accepted : goal.returns-in-Accepted
returns-in-Accepted c = passed c.check.ensures c.in-Accepted.is
