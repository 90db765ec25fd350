-- The part by which a value is read: by the search in a merge, and any other value itself. Assumes nothing.
use Rattle.cells.proofs.Held.{held_within}
use Rattle.emission.proofs.Runs.{holds_term}
use Rattle.typed_reduction.proofs.Deciding.{found_part, itself_part}
use Rattle.typed_reduction.proofs.part_of.Goals as goal

pub read_cell-x-requires : goal.read_cell-x-requires
read_cell-x-requires c = held_within (holds_term c.requires.both.holds_value)

pub returns-then-x-eq22 : goal.returns-then-x-eq22
returns-then-x-eq22 c = found_part c.find_part.ensures

pub returns : goal.returns
returns c = itself_part c.read_cell-x.ensures c.if-x-eq22.false
