-- `lookup` meets its contract. Assumes nothing.
use Rattle.typing.proofs.Leaves.{looks_free, looks_here, looks_on}
use Rattle.typing.proofs.Types.+lookup.Goals as goal

pub returns-then-c-eq0 : goal.returns-then-c-eq0
returns-then-c-eq0 t c = looks_free c.if-c-eq0.true

pub returns-then-k-eq0 : goal.returns-then-k-eq0
returns-then-k-eq0 t c = looks_here c.read-t.ensures c.if-c-eq0.false c.if-k-eq0.true

pub returns : goal.returns
returns t c = looks_on c.read-t.ensures c.if-c-eq0.false c.if-k-eq0.false c.lookup.ensures
