-- `running::start` meets its contract. Assumes nothing.
use mathlib.Core.Path.{refl}
use Rattle.running.proofs.Encoding.{place_start, ready_first, starts}
use Rattle.running.proofs.start.Goals as goal

pub place-requires : goal.place-requires
place-requires c = place_start c.requires c.copy_from_slice.ensures.after refl

pub settle-requires : goal.settle-requires
settle-requires c = ready_first c.requires c.copy_from_slice.ensures.after refl c.place.ensures

pub returns : goal.returns
returns c = starts c.requires c.copy_from_slice.ensures.after refl c.place.ensures c.settle.auto.w c.settle.ensures
