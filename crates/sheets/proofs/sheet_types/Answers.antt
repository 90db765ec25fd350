-- `sheets::sheet_types` meets its contract. Assumes nothing.
use Rattle.cells.proofs.Asked.{said}
use Rattle.sheets.proofs.Stages.{refused_17, typed_sheet}
use Rattle.sheets.proofs.sheet_types.Goals as goal

pub returns-in-None : goal.returns-in-None
returns-in-None c = refused_17 _ _ c.requires (said c.count_steps.ensures) c.in-None.is c.clear_refused.ensures

pub returns-in-Some : goal.returns-in-Some
returns-in-Some c = typed_sheet _ _ c.requires (said c.count_steps.ensures) c.in-Some.is c.check_types.ensures c.with_steps.ensures
