-- `find_field` meets its contract: the content's type, a cell of Top that is added, or refusal 13. Assumes nothing.
use Rattle.typing.proofs.Fields.{field_one, field_top, field_none}
use Rattle.typing.proofs.Types.find_field.Goals as goal

pub returns-in-One-clause-finds : goal.returns-in-One-clause-finds
returns-in-One-clause-finds c = field_one c.requires c.part.ensures c.in-One.is

pub returns-in-TopLike-clause-finds : goal.returns-in-TopLike-clause-finds
returns-in-TopLike-clause-finds c = field_top c.requires c.part.ensures c.in-TopLike.is c.add.ensures.adds

pub returns-in_default-clause-finds : goal.returns-in_default-clause-finds
returns-in_default-clause-finds c = field_none c.requires c.part.ensures c.in_default.not-TopLike c.in_default.not-One
