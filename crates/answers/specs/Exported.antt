-- How an answer is shown in numbers: a tag, its value, a second figure, and all in one number of 64 bits. Assumes nothing.
use Rattle.std.specs.Prelude.{ℕ, ◌+◌, ◌*◌}
use Rattle.answers.specs.Answer.{Answer, refused, accepted, stopped, Stop, value, spent, room}

-- the tags of value, spent and no room
abbrev stop_tag : Stop → ℕ
stop_tag value = 33
stop_tag spent = 34
stop_tag room = 35

-- a refusal's own number: 1 to 31 are kept for these
abbrev pub tag_of : Answer → ℕ
tag_of (refused n i) = n
tag_of (accepted n) = 32
tag_of (stopped s n m) = stop_tag s

-- the refusal's cell, the type's size, the steps
abbrev pub value_of : Answer → ℕ
value_of (refused n i) = i
value_of (accepted n) = n
value_of (stopped s n m) = n

-- the second figure: of a run that is not refused its mark
abbrev pub second_of : Answer → ℕ
second_of (refused n i) = 0
second_of (accepted n) = 0
second_of (stopped s n m) = m

-- 2 to the 32nd: the tag stands above a value of 32 bits,
abbrev pub tag_place : ℕ
tag_place = 4294967296

-- and 2 to the 40th: the second figure above a tag of 8.
abbrev pub second_place : ℕ
second_place = 1099511627776

-- all in one number
abbrev pub packed : Answer → ℕ
packed a = second_of a * second_place + tag_of a * tag_place + value_of a
