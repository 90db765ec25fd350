-- `layout::encode_in_place` meets its contract. Assumes nothing.
use Rattle.layout.proofs.encode_in_place.Goals as goal

pub encode_tree-n-requires : goal.encode_tree-n-requires
encode_tree-n-requires g c = record { each = λ v e. (c.requires.each v e).ready }
