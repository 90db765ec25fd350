-- `running::cast_in_place` meets its contract. Assumes nothing.
use mathlib.Core.Path.{refl}
use Rattle.running.specs.Places.{h_became}
use Rattle.running.proofs.Projecting.{becomes_at, redex_root}
use Rattle.running.proofs.Casting.{value_in, type_in, casts_number}
use Rattle.running.proofs.cast_in_place.Goals as goal

pub read_cell-y-requires : goal.read_cell-y-requires
read_cell-y-requires c = search type_in

pub returns-then-y-eq1 : goal.returns-then-y-eq1
returns-then-y-eq1 c = search (h_became)

pub read_cell-v-requires : goal.read_cell-v-requires
read_cell-v-requires c = search value_in

pub returns-in-21-eq3 : goal.returns-in-21-eq3
returns-in-21-eq3 c = search h_became

pub became-requires : goal.became-requires
became-requires c = search redex_root

pub returns-in-17-eq1 : goal.returns-in-17-eq1
returns-in-17-eq1 c = record { says = h_became refl (λ h. becomes_at c.became.ensures (search casts_number)) }
