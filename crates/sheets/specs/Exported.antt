-- How the answer of the sheet call is shown in numbers: a check's tag and value, and as the second figure the count of steps. Assumes nothing.
use Rattle.std.specs.Prelude.{ℕ, ◌+◌, ◌*◌}
use Rattle.answers.specs.Exported.{tag_of, value_of, tag_place, second_place}
use Rattle.sheets.specs.Sheet.{SheetResult}

-- all in one number
abbrev pub packed_sheet : SheetResult → ℕ
packed_sheet x = x.steps * second_place + tag_of x.answer * tag_place + value_of x.answer
