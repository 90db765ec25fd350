-- `layout::close` meets its contract. Assumes nothing.
use Rattle.layout.proofs.Encoded.{trailer_ready, closed}
use Rattle.layout.proofs.close.Goals as goal

pub write_trailer-requires : goal.write_trailer-requires
write_trailer-requires c = trailer_ready c.requires

pub returns : goal.returns
returns c = record { says = λ t l. closed c.args.version t c.requires.work l c.write_trailer.ensures (c.fill.ensures.after (λ y h. h)) }
