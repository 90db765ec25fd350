-- The number that a held value is read as under Int is read exactly. Assumes nothing.
use native.Mathlib.Omega.{arith}
use Rattle.format.specs.declared.Version.TheVariants.{Two}
use Rattle.format.specs.Version.{stored}
use Rattle.typed_reduction.specs.Casting.{ReadsNumber}
use Rattle.typed_reduction.proofs.Numbers.{number_found, number_within, reads_number}
use Rattle.typed_reduction.proofs.read_number.Goals as goal
use Rattle.typed_reduction.proofs.read_number.Goals.{After-read_cell-x}

-- what is known once the part's cell is read
number : (c : After-read_cell-x) → ReadsNumber c.args.s.now c.args.v (stored Two c.read_cell-x.result.a c.read_cell-x.result.b c.read_cell-x.result.c)
number c = reads_number c.requires c.number_part.ensures c.in-Some.is (λ j. (c.type_inv.s j).fits) c.read_cell-x.ensures

pub returns-in_default : goal.returns-in_default
returns-in_default c = absurd (number_found c.requires c.number_part.ensures c.in_default.is)

pub read_cell-x-requires : goal.read_cell-x-requires
read_cell-x-requires c = number_within c.requires c.number_part.ensures c.in-Some.is

pub overflow_mul-result : goal.overflow_mul-result
overflow_mul-result c = omega (arith, (number (goal.at.overflow_mul-result c).After-read_cell-x).fits)

pub overflow_add-result : goal.overflow_add-result
overflow_add-result c = omega (arith, (number (goal.at.overflow_add-result c).After-read_cell-x).fits)

pub overflow_mul-result-2 : goal.overflow_mul-result-2
overflow_mul-result-2 c = omega (arith, (number (goal.at.overflow_mul-result-2 c).After-read_cell-x).fits)

pub overflow_add-result-2 : goal.overflow_add-result-2
overflow_add-result-2 c = omega (arith, (number (goal.at.overflow_add-result-2 c).After-read_cell-x).fits)

pub returns : goal.returns
returns c = number (goal.at.returns c).After-read_cell-x
