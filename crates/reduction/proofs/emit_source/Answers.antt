-- `reduction::emit_source` meets its contract. Assumes nothing.
use Rattle.reduction.proofs.Sources.{reading_ready, reading_emits, standing_ready, standing_emits}
use Rattle.reduction.proofs.emit_source.Goals as goal

pub emit_value_cast-requires : goal.emit_value_cast-requires
emit_value_cast-requires c = reading_ready (rw c.in-Reading.is at c.requires)

pub returns-in-Reading : goal.returns-in-Reading
returns-in-Reading c = rw c.in-Reading.is (reading_emits c.emit_value_cast.ensures)

pub emit_run-requires : goal.emit_run-requires
emit_run-requires c = standing_ready (rw c.in-Standing.is at c.requires)

pub returns-in-Standing : goal.returns-in-Standing
returns-in-Standing c = rw c.in-Standing.is (standing_emits c.emit_run.ensures)
