-- `layout::encode_tree` meets its contract: there is room, so the tree stands whole. Assumes nothing.
use Rattle.layout.proofs.Encoded.{encodes_tree}
use Rattle.layout.proofs.encode_tree.Goals as goal

pub returns : goal.returns
returns g c =
    record {
      became = c.into.result;
      converted = c.into.ensures;
      says = rw c.unwrap_or.ensures (encodes_tree (c.requires.each _ c.into.ensures) c.emit_field.ensures);
    }
