-- The answers to a book, each with document 01's number and values. Assumes nothing.
use Rattle.std.specs.Prelude.{ℕ, List}
use Rattle.calculus.specs.Infer.{Reason, unbound, not_function, no_field, conflict, mismatch}
use Rattle.format.specs.Book.{Fault, bad_length, bad_trailer, bad_count, bad_kind, bad_unnamed, bad_reference, bad_sort, bad_root, bad_size}

-- "Where a book is turned back": the number of each row from 2 to 10,
abbrev pub fault_number : Fault → ℕ
fault_number bad_length = 2
fault_number bad_trailer = 3
fault_number bad_count = 4
fault_number bad_kind = 5
fault_number bad_unnamed = 6
fault_number bad_reference = 7
fault_number bad_sort = 8
fault_number bad_root = 9
fault_number bad_size = 10

-- and from 11 to 15.
abbrev pub reason_number : Reason → ℕ
reason_number unbound = 11
reason_number not_function = 12
reason_number no_field = 13
reason_number conflict = 14
reason_number mismatch = 15

-- "A run says value ..; else spent ..; else no room"
pub data Stop : Type 0 where
  value spent room : Stop

-- What a check or a run answers.
pub data Answer : Type 0 where
  -- document 01's "turned back": "Answer: number and cell (0 for 1 to 4)"
  refused : ℕ → ℕ → Answer
  -- "A check lays down the type and gives its size"
  accepted : ℕ → Answer
  -- "Each carries the steps taken"; document 02, (viii): and the mark, "the greatest size of any term so far"
  stopped : Stop → ℕ → ℕ → Answer

-- The steps that a run reports; 0 where it reports none.
abbrev pub steps_of : Answer → ℕ
steps_of (refused n i) = 0
steps_of (accepted n) = 0
steps_of (stopped s n m) = n

-- An answer, and every byte left in the work buffer.
pub record Result : Type 0 where
  pub answer : Answer
  pub left : List ℕ

-- The answer a, with the bytes w left.
abbrev pub result : Answer → List ℕ → Result
result a w = record { answer = a; left = w }
