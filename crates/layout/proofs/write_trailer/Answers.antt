-- `layout::write_trailer` meets its contract. Assumes nothing.
use Rattle.layout.proofs.Encoded.{trailer_written}
use Rattle.layout.proofs.write_trailer.Goals as goal

pub returns : goal.returns
returns c = trailer_written c.args.version _ _ c.from.ensures c.write_cell.ensures
