-- `running::install` meets its contract. Assumes nothing.
use mathlib.Core.Path.{sym, subst}
use Rattle.running.specs.Places.{Installs}
use Rattle.running.proofs.Contracting.{ordered, root_low, place_left, installs_left, last_some, inside_within}
use Rattle.running.proofs.install.Goals as goal

pub overflow_sub-n : goal.overflow_sub-n
overflow_sub-n c = search ordered

pub place-requires : goal.place-requires
place-requires c = search place_left

pub became-requires : goal.became-requires
became-requires c = search root_low

pub returns-then-kind-eq19 : goal.returns-then-kind-eq19
returns-then-kind-eq19 c = subst (Installs _ _ _ _ _ _ _) (sym c.became.ensures) (search installs_left)

pub overflow_sub-end : goal.overflow_sub-end
overflow_sub-end c = search last_some

pub read_cell-requires : goal.read_cell-requires
read_cell-requires c = search inside_within
