-- `running::encode_whole` meets its contract. Assumes nothing.
use Rattle.cells.proofs.Asked.{asked, said}
use Rattle.running.proofs.Encoding.{in_place_ready, encodes_whole}
use Rattle.running.proofs.encode_whole.Goals as goal

pub encode_in_place-requires : goal.encode_in_place-requires
encode_in_place-requires c = asked (search in_place_ready)

pub returns : goal.returns
returns c = encodes_whole c.rebuild-root.ensures (said c.encode_in_place.ensures)
