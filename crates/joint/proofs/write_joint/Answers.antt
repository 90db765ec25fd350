-- `joint::write_joint` meets its contract. Assumes nothing.
use mathlib.Core.Path.{refl, ◌∙◌}
use Rattle.joint.proofs.Whole.{max_higher, first_ready, second_ready, writes_joint}
use Rattle.joint.proofs.Carrying.{carries_long}
use Rattle.joint.proofs.write_joint.Goals as goal

pub carry-requires : goal.carry-requires
carry-requires c = first_ready (λ j. (c.type_inv.project j).fits) (λ j. (c.type_inv.part j).fits) c.requires

pub carry-requires-2 : goal.carry-requires-2
carry-requires-2 c =
    second_ready (λ j. (c.type_inv.project j).fits) (λ j. (c.type_inv.part j).fits) c.requires (carries_long c.carry.ensures)

pub returns : goal.returns
returns c =
    let own = c.version_from-own.ensures in
    let other = c.version_from-other.ensures in
    writes_joint (λ j. (c.type_inv.project j).fits) (λ j. (c.type_inv.part j).fits) c.requires own other
    (c.max-version.ensures ∙ max_higher c.version_from-own.result c.version_from-other.result ∙ rw (own, other) refl)
    c.carry.ensures c.carry-2.ensures
    (rw (c.read_pair-i.ensures, c.read_pair-j.ensures) at c.finish.ensures)
