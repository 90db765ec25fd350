-- The first part of a held value that is a number is found exactly. Assumes nothing.
use Rattle.std.proofs.Common.{rules}
use Rattle.cells.proofs.Held.{held_within}
use Rattle.emission.proofs.Runs.{holds_term}
use Rattle.typed_reduction.proofs.Parts.{part_runs}
use Rattle.typed_reduction.proofs.Numbers.{finds_number}
use Rattle.typed_reduction.proofs.number_part.Goals as goal

pub first_part-requires-clause-tested : goal.first_part-requires-clause-tested
first_part-requires-clause-tested c = λ p h. let b = held_within (holds_term (part_runs h c.requires.holds).holds) in search rules

pub returns : goal.returns
returns c = finds_number c.first_part.ensures (λ p b h. search rules)
