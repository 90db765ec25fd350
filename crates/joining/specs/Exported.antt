-- How the answer of a join, or of a preview, is shown in numbers: a check's tag and value, and as the second figure the book that is meant and the byte count. Assumes nothing.
use Rattle.std.specs.Prelude.{ℕ, ◌+◌, ◌*◌}
use Rattle.answers.specs.Exported.{tag_of, value_of, tag_place}
use Rattle.joining.specs.declared.Which.{Which}
use Rattle.joining.specs.declared.Which.TheVariants.{Project, Part, Joint}
use Rattle.joining.specs.Join.{JoinResult}

-- "which book is meant: project, part or joint"
abbrev pub which_number_lem : Which → ℕ
which_number_lem Project = 1
which_number_lem Part = 2
which_number_lem Joint = 3

-- 2 to the 40th: the book stands above a tag of 8 bits,
abbrev pub which_place : ℕ
which_place = 1099511627776

-- and 2 to the 48th: the byte count above the book.
abbrev pub bytes_place : ℕ
bytes_place = 281474976710656

-- all in one number
abbrev pub packed_join : JoinResult → ℕ
packed_join x = x.bytes * bytes_place + which_number_lem x.which * which_place + tag_of x.answer * tag_place + value_of x.answer
