-- Document 01, "Sample books": those marked M, as one list; books for the field reads, sums and choices, bodies, numbers of 48 bits, values in two orders, and
-- terms that grow and shrink of document 02, (i) to (v) and (viii); and a small book for each row from 2 to 15 of "Where a book is turned back". Bytes, answers and
-- encoded bytes are literals. Assumes nothing.
use Rattle.std.specs.Prelude.{ℕ, ◌≡◌, List, [], ◌∷◌, ◌++◌}
use Prim.Native.String.{String}
use Rattle.answers.specs.Answer.{value, spent, Answer, refused, accepted, stopped, Result, result}
use Rattle.answers.specs.Engine.{Engine, IsWork, padded}

-- A check, or a run with its limit.
pub data Call : Type 0 where
  check : Call
  run : ℕ → Call

-- A book, a call of it, and what is expected: the answer, and the bytes encoded (none after a refusal).
pub record Sample : Type 0 where
  pub name : String
  pub book : List ℕ
  pub call : Call
  pub answer : Answer
  pub encoded : List ℕ

-- A sample on one line.
abbrev sample : String → List ℕ → Call → Answer → List ℕ → Sample
sample n b c a l = record { name = n; book = b; call = c; answer = a; encoded = l }

-- What an engine answers to a call.
abbrev pub called : Engine → Call → List ℕ → List ℕ → Result
called E check b w = E.check b w
called E (run l) b w = E.run b w l

-- The whole answer and every byte left: "bytes past the laid-down book are zero".
abbrev pub expected : Sample → Result
expected s = result s.answer (padded s.encoded)

-- The engine answers as expected, with any work buffer of 65,536 bytes.
abbrev pub Meets : Engine → Sample → Type 0
Meets E s = (w : List ℕ) → IsWork w → called E s.call s.book w ≡ expected s

-- The eight bytes of a cell or of the trailer.
abbrev pub line : (k l a₀ a₁ b₀ b₁ c₀ c₁ : ℕ) → List ℕ
line k l a₀ a₁ b₀ b₁ c₀ c₁ = k ∷ l ∷ a₀ ∷ a₁ ∷ b₀ ∷ b₁ ∷ c₀ ∷ c₁ ∷ []

-- "1 merged with 1": accepted, value, 0 steps
unfoldable pub equal_numbers : List ℕ
equal_numbers =
    line 17 0 0 0 1 0 0 0
    ++ line 17 0 0 0 1 0 0 0
    ++ line 22 0 0 0 1 0 0 0
    ++ line 240 1 3 0 2 0 0 0

-- "1 merged with 2": 14
unfoldable pub unequal_numbers : List ℕ
unequal_numbers =
    line 17 0 0 0 1 0 0 0
    ++ line 17 0 0 0 2 0 0 0
    ++ line 22 0 0 0 1 0 0 0
    ++ line 240 1 3 0 2 0 0 0

-- "a variable merged with itself": 14
unfoldable pub merged_variable : List ℕ
merged_variable =
    line 1 0 0 0 0 0 0 0
    ++ line 16 0 0 0 0 0 0 0
    ++ line 22 0 1 0 1 0 0 0
    ++ line 21 0 2 0 0 0 0 0
    ++ line 240 1 4 0 3 0 0 0

-- "1 under Int and Int, then Int": 1 after 2 steps
unfoldable pub twice_read : List ℕ
twice_read =
    line 17 0 0 0 1 0 0 0
    ++ line 1 0 0 0 0 0 0 0
    ++ line 1 0 0 0 0 0 0 0
    ++ line 4 0 1 0 2 0 0 0
    ++ line 19 0 0 0 3 0 0 0
    ++ line 19 0 4 0 1 0 0 0
    ++ line 240 1 6 0 5 0 0 0

-- "the identity on a merge": 1 after 2 steps
unfoldable pub identity_on_merge : List ℕ
identity_on_merge =
    line 1 0 0 0 0 0 0 0
    ++ line 16 0 0 0 0 0 0 0
    ++ line 21 0 1 0 0 0 0 0
    ++ line 17 0 0 0 1 0 0 0
    ++ line 17 0 0 0 5 0 0 0
    ++ line 24 7 4 0 0 0 0 0
    ++ line 22 0 3 0 5 0 0 0
    ++ line 20 0 2 0 6 0 0 0
    ++ line 240 1 8 0 7 0 0 0

-- "the identity under Int to Top": top value, 1 step
unfoldable pub identity_under_top : List ℕ
identity_under_top =
    line 1 0 0 0 0 0 0 0
    ++ line 16 0 0 0 0 0 0 0
    ++ line 21 0 1 0 0 0 0 0
    ++ line 2 0 0 0 0 0 0 0
    ++ line 3 0 0 0 3 0 0 0
    ++ line 19 0 2 0 4 0 0 0
    ++ line 240 1 6 0 5 0 0 0

-- "the top value applied to 3": top value, 1 step
unfoldable pub applied_top : List ℕ
applied_top =
    line 18 0 0 0 0 0 0 0
    ++ line 17 0 0 0 3 0 0 0
    ++ line 20 0 0 0 1 0 0 0
    ++ line 240 1 3 0 2 0 0 0

-- "3 applied to 4": 12
unfoldable pub applied_number : List ℕ
applied_number =
    line 17 0 0 0 3 0 0 0
    ++ line 17 0 0 0 4 0 0 0
    ++ line 20 0 0 0 1 0 0 0
    ++ line 240 1 3 0 2 0 0 0

-- "the hidden field": 2 after 4 steps
unfoldable pub hidden_field : List ℕ
hidden_field =
    line 1 0 0 0 0 0 0 0
    ++ line 5 2 0 0 0 0 0 0
    ++ line 17 0 0 0 2 0 0 0
    ++ line 24 1 2 0 0 0 0 0
    ++ line 16 0 0 0 0 0 0 0
    ++ line 22 0 3 0 4 0 0 0
    ++ line 5 1 0 0 0 0 0 0
    ++ line 19 0 5 0 6 0 0 0
    ++ line 25 1 7 0 0 0 0 0
    ++ line 21 0 8 0 1 0 0 0
    ++ line 17 0 0 0 1 0 0 0
    ++ line 24 1 10 0 0 0 0 0
    ++ line 17 0 0 0 9 0 0 0
    ++ line 24 2 12 0 0 0 0 0
    ++ line 22 0 11 0 13 0 0 0
    ++ line 20 0 9 0 14 0 0 0
    ++ line 240 1 16 0 15 0 0 0

-- "the fixpoint of its own variable": limit 0: spent, 0
unfoldable pub own_fixpoint : List ℕ
own_fixpoint =
    line 16 0 0 0 0 0 0 0
    ++ line 1 0 0 0 0 0 0 0
    ++ line 23 0 0 0 1 0 0 0
    ++ line 240 1 3 0 2 0 0 0

-- the top value, merged with itself 12 times over by sharing
unfoldable pub doubled : List ℕ
doubled =
    line 18 0 0 0 0 0 0 0
    ++ line 22 0 0 0 0 0 0 0
    ++ line 22 0 1 0 1 0 0 0
    ++ line 22 0 2 0 2 0 0 0
    ++ line 22 0 3 0 3 0 0 0
    ++ line 22 0 4 0 4 0 0 0
    ++ line 22 0 5 0 5 0 0 0
    ++ line 22 0 6 0 6 0 0 0
    ++ line 22 0 7 0 7 0 0 0
    ++ line 22 0 8 0 8 0 0 0
    ++ line 22 0 9 0 9 0 0 0
    ++ line 22 0 10 0 10 0 0 0
    ++ line 22 0 11 0 11 0 0 0

-- every sample marked M: the check, and the run with a limit equal to its steps and with one above
unfoldable pub samples : List Sample
samples =
    sample "1 merged with 1" equal_numbers check (accepted 3) (line 1 0 0 0 0 0 0 0 ++ line 1 0 0 0 0 0 0 0 ++ line 4 0 0 0 1 0 0 0 ++ line 240 1 3 0 2 0 0 0)
    ∷ sample "1 merged with 1" equal_numbers (run 0) (stopped value 0 3) (line 17 0 0 0 1 0 0 0 ++ line 17 0 0 0 1 0 0 0 ++ line 22 0 0 0 1 0 0 0 ++ line 240 1 3 0 2 0 0 0)
    ∷ sample "1 merged with 1" equal_numbers (run 1) (stopped value 0 3) (line 17 0 0 0 1 0 0 0 ++ line 17 0 0 0 1 0 0 0 ++ line 22 0 0 0 1 0 0 0 ++ line 240 1 3 0 2 0 0 0)
    ∷ sample "1 merged with 2" unequal_numbers check (refused 14 2) []
    ∷ sample "1 merged with 2" unequal_numbers (run 0) (refused 14 2) []
    ∷ sample "1 merged with 2" unequal_numbers (run 1) (refused 14 2) []
    ∷ sample "a variable merged with itself" merged_variable check (refused 14 2) []
    ∷ sample "a variable merged with itself" merged_variable (run 0) (refused 14 2) []
    ∷ sample "a variable merged with itself" merged_variable (run 1) (refused 14 2) []
    ∷ sample "1 under Int and Int, then Int" twice_read check (accepted 1) (line 1 0 0 0 0 0 0 0 ++ line 240 1 1 0 0 0 0 0)
    ∷ sample "1 under Int and Int, then Int" twice_read (run 2) (stopped value 2 7) (line 17 0 0 0 1 0 0 0 ++ line 240 1 1 0 0 0 0 0)
    ∷ sample "1 under Int and Int, then Int" twice_read (run 3) (stopped value 2 7) (line 17 0 0 0 1 0 0 0 ++ line 240 1 1 0 0 0 0 0)
    ∷ sample "the identity on a merge" identity_on_merge check (accepted 1) (line 1 0 0 0 0 0 0 0 ++ line 240 1 1 0 0 0 0 0)
    ∷ sample "the identity on a merge" identity_on_merge (run 2) (stopped value 2 9) (line 17 0 0 0 1 0 0 0 ++ line 240 1 1 0 0 0 0 0)
    ∷ sample "the identity on a merge" identity_on_merge (run 3) (stopped value 2 9) (line 17 0 0 0 1 0 0 0 ++ line 240 1 1 0 0 0 0 0)
    ∷ sample "the identity under Int to Top" identity_under_top check (accepted 3) (line 1 0 0 0 0 0 0 0 ++ line 2 0 0 0 0 0 0 0 ++ line 3 0 0 0 1 0 0 0 ++ line 240 1 3 0 2 0 0 0)
    ∷ sample "the identity under Int to Top" identity_under_top (run 1) (stopped value 1 8) (line 18 0 0 0 0 0 0 0 ++ line 240 1 1 0 0 0 0 0)
    ∷ sample "the identity under Int to Top" identity_under_top (run 2) (stopped value 1 8) (line 18 0 0 0 0 0 0 0 ++ line 240 1 1 0 0 0 0 0)
    ∷ sample "the top value applied to 3" applied_top check (accepted 1) (line 2 0 0 0 0 0 0 0 ++ line 240 1 1 0 0 0 0 0)
    ∷ sample "the top value applied to 3" applied_top (run 1) (stopped value 1 3) (line 18 0 0 0 0 0 0 0 ++ line 240 1 1 0 0 0 0 0)
    ∷ sample "the top value applied to 3" applied_top (run 2) (stopped value 1 3) (line 18 0 0 0 0 0 0 0 ++ line 240 1 1 0 0 0 0 0)
    ∷ sample "3 applied to 4" applied_number check (refused 12 2) []
    ∷ sample "3 applied to 4" applied_number (run 0) (refused 12 2) []
    ∷ sample "3 applied to 4" applied_number (run 1) (refused 12 2) []
    ∷ sample "the hidden field" hidden_field check (accepted 1) (line 1 0 0 0 0 0 0 0 ++ line 240 1 1 0 0 0 0 0)
    ∷ sample "the hidden field" hidden_field (run 4) (stopped value 4 18) (line 17 0 0 0 2 0 0 0 ++ line 240 1 1 0 0 0 0 0)
    ∷ sample "the hidden field" hidden_field (run 5) (stopped value 4 18) (line 17 0 0 0 2 0 0 0 ++ line 240 1 1 0 0 0 0 0)
    ∷ sample "the fixpoint of its own variable" own_fixpoint check (accepted 1) (line 1 0 0 0 0 0 0 0 ++ line 240 1 1 0 0 0 0 0)
    ∷ sample "the fixpoint of its own variable" own_fixpoint (run 0) (stopped spent 0 3) (line 16 0 0 0 0 0 0 0 ++ line 1 0 0 0 0 0 0 0 ++ line 23 0 0 0 1 0 0 0 ++ line 240 1 3 0 2 0 0 0)
    ∷ sample "the fixpoint of its own variable" own_fixpoint (run 1) (stopped spent 1 5) (line 16 0 0 0 0 0 0 0 ++ line 1 0 0 0 0 0 0 0 ++ line 23 0 0 0 1 0 0 0 ++ line 1 0 0 0 0 0 0 0 ++ line 19 0 2 0 3 0 0 0 ++ line 240 1 5 0 4 0 0 0)
    ∷ []

-- "its content is the type"
unfoldable pub merged_field : List ℕ
merged_field =
    line 17 0 0 0 5 0 0 0
    ++ line 24 1 0 0 0 0 0 0
    ++ line 17 0 0 0 6 0 0 0
    ++ line 24 2 2 0 0 0 0 0
    ++ line 22 0 1 0 3 0 0 0
    ++ line 25 2 4 0 0 0 0 0
    ++ line 240 1 6 0 5 0 0 0

-- "Otherwise 13."
unfoldable pub missing_field : List ℕ
missing_field =
    line 17 0 0 0 5 0 0 0
    ++ line 24 1 0 0 0 0 0 0
    ++ line 17 0 0 0 6 0 0 0
    ++ line 24 2 2 0 0 0 0 0
    ++ line 22 0 1 0 3 0 0 0
    ++ line 25 3 4 0 0 0 0 0
    ++ line 240 1 6 0 5 0 0 0

-- two parts, though the merge is consistent
unfoldable pub two_fields : List ℕ
two_fields =
    line 17 0 0 0 1 0 0 0
    ++ line 24 1 0 0 0 0 0 0
    ++ line 17 0 0 0 1 0 0 0
    ++ line 24 1 2 0 0 0 0 0
    ++ line 22 0 1 0 3 0 0 0
    ++ line 25 1 4 0 0 0 0 0
    ++ line 240 1 6 0 5 0 0 0

-- two parts, whatever stands beside them
unfoldable pub two_fields_beside_top : List ℕ
two_fields_beside_top =
    line 17 0 0 0 1 0 0 0
    ++ line 24 1 0 0 0 0 0 0
    ++ line 17 0 0 0 1 0 0 0
    ++ line 24 1 2 0 0 0 0 0
    ++ line 22 0 1 0 3 0 0 0
    ++ line 18 0 0 0 0 0 0 0
    ++ line 22 0 4 0 5 0 0 0
    ++ line 25 1 6 0 0 0 0 0
    ++ line 240 1 8 0 7 0 0 0

-- "a record of that label and not top-like"
unfoldable pub top_like_beside_field : List ℕ
top_like_beside_field =
    line 18 0 0 0 0 0 0 0
    ++ line 24 1 0 0 0 0 0 0
    ++ line 17 0 0 0 5 0 0 0
    ++ line 24 1 2 0 0 0 0 0
    ++ line 22 0 1 0 3 0 0 0
    ++ line 25 1 4 0 0 0 0 0
    ++ line 240 1 6 0 5 0 0 0

-- "the type is Top"
unfoldable pub top_like_fields : List ℕ
top_like_fields =
    line 18 0 0 0 0 0 0 0
    ++ line 24 1 0 0 0 0 0 0
    ++ line 18 0 0 0 0 0 0 0
    ++ line 24 1 2 0 0 0 0 0
    ++ line 22 0 1 0 3 0 0 0
    ++ line 25 1 4 0 0 0 0 0
    ++ line 240 1 6 0 5 0 0 0

-- the top value, and not the content
unfoldable pub top_like_content : List ℕ
top_like_content =
    line 16 0 0 0 0 0 0 0
    ++ line 2 0 0 0 0 0 0 0
    ++ line 2 0 0 0 0 0 0 0
    ++ line 21 0 0 0 1 0 2 0
    ++ line 24 1 3 0 0 0 0 0
    ++ line 17 0 0 0 3 0 0 0
    ++ line 24 2 5 0 0 0 0 0
    ++ line 22 0 4 0 6 0 0 0
    ++ line 25 1 7 0 0 0 0 0
    ++ line 240 1 9 0 8 0 0 0

-- "A record type or Top keeps its rule."
unfoldable pub lone_top_like : List ℕ
lone_top_like =
    line 16 0 0 0 0 0 0 0
    ++ line 2 0 0 0 0 0 0 0
    ++ line 2 0 0 0 0 0 0 0
    ++ line 21 0 0 0 1 0 2 0
    ++ line 24 1 3 0 0 0 0 0
    ++ line 25 1 4 0 0 0 0 0
    ++ line 240 1 6 0 5 0 0 0

-- only Top itself is read where there are no parts
unfoldable pub lone_function : List ℕ
lone_function =
    line 16 0 0 0 0 0 0 0
    ++ line 1 0 0 0 0 0 0 0
    ++ line 2 0 0 0 0 0 0 0
    ++ line 21 0 0 0 1 0 2 0
    ++ line 25 9 3 0 0 0 0 0
    ++ line 240 1 5 0 4 0 0 0

-- and only a record of that label
unfoldable pub lone_other_label : List ℕ
lone_other_label =
    line 18 0 0 0 0 0 0 0
    ++ line 24 2 0 0 0 0 0 0
    ++ line 25 9 1 0 0 0 0 0
    ++ line 240 1 3 0 2 0 0 0

-- "some part is top-like", of whatever head
unfoldable pub top_like_function : List ℕ
top_like_function =
    line 17 0 0 0 3 0 0 0
    ++ line 16 0 0 0 0 0 0 0
    ++ line 1 0 0 0 0 0 0 0
    ++ line 2 0 0 0 0 0 0 0
    ++ line 21 0 1 0 2 0 3 0
    ++ line 22 0 0 0 4 0 0 0
    ++ line 25 9 5 0 0 0 0 0
    ++ line 240 1 7 0 6 0 0 0

-- a top-like record of another label
unfoldable pub top_like_other_label : List ℕ
top_like_other_label =
    line 17 0 0 0 3 0 0 0
    ++ line 18 0 0 0 0 0 0 0
    ++ line 24 2 1 0 0 0 0 0
    ++ line 22 0 0 0 2 0 0 0
    ++ line 25 9 3 0 0 0 0 0
    ++ line 240 1 5 0 4 0 0 0

-- a part that is Top
unfoldable pub top_part : List ℕ
top_part =
    line 17 0 0 0 3 0 0 0
    ++ line 18 0 0 0 0 0 0 0
    ++ line 22 0 0 0 1 0 0 0
    ++ line 25 9 2 0 0 0 0 0
    ++ line 240 1 4 0 3 0 0 0

-- "its parts that aren't themselves intersections"
unfoldable pub nested_parts : List ℕ
nested_parts =
    line 17 0 0 0 3 0 0 0
    ++ line 17 0 0 0 4 0 0 0
    ++ line 24 1 1 0 0 0 0 0
    ++ line 22 0 0 0 2 0 0 0
    ++ line 18 0 0 0 0 0 0 0
    ++ line 17 0 0 0 5 0 0 0
    ++ line 24 2 5 0 0 0 0 0
    ++ line 22 0 4 0 6 0 0 0
    ++ line 22 0 3 0 7 0 0 0
    ++ line 25 1 8 0 0 0 0 0
    ++ line 240 1 10 0 9 0 0 0

-- the hidden field, its annotation left out
unfoldable pub hidden_unannotated : List ℕ
hidden_unannotated =
    line 1 0 0 0 0 0 0 0
    ++ line 5 2 0 0 0 0 0 0
    ++ line 17 0 0 0 2 0 0 0
    ++ line 24 1 2 0 0 0 0 0
    ++ line 16 0 0 0 0 0 0 0
    ++ line 22 0 3 0 4 0 0 0
    ++ line 25 1 5 0 0 0 0 0
    ++ line 21 0 6 0 1 0 0 0
    ++ line 17 0 0 0 1 0 0 0
    ++ line 24 1 8 0 0 0 0 0
    ++ line 17 0 0 0 9 0 0 0
    ++ line 24 2 10 0 0 0 0 0
    ++ line 22 0 9 0 11 0 0 0
    ++ line 20 0 7 0 12 0 0 0
    ++ line 240 1 14 0 13 0 0 0

-- a merge that is no value yet
unfoldable pub later_merge : List ℕ
later_merge =
    line 1 0 0 0 0 0 0 0
    ++ line 5 1 0 0 0 0 0 0
    ++ line 17 0 0 0 4 0 0 0
    ++ line 24 1 2 0 0 0 0 0
    ++ line 19 0 3 0 1 0 0 0
    ++ line 17 0 0 0 2 0 0 0
    ++ line 22 0 4 0 5 0 0 0
    ++ line 25 1 6 0 0 0 0 0
    ++ line 240 1 8 0 7 0 0 0

-- The field reads of document 02, (i): the check, and the run with a limit equal to its steps.
unfoldable pub field_reads : List Sample
field_reads =
    sample "field 2 of {1 = 5} merged with {2 = 6}" merged_field check (accepted 1) (line 1 0 0 0 0 0 0 0 ++ line 240 1 1 0 0 0 0 0)
    ∷ sample "field 2 of {1 = 5} merged with {2 = 6}" merged_field (run 1) (stopped value 1 6) (line 17 0 0 0 6 0 0 0 ++ line 240 1 1 0 0 0 0 0)
    ∷ sample "field 3 of the same" missing_field check (refused 13 5) []
    ∷ sample "two records of one label" two_fields check (refused 13 5) []
    ∷ sample "two records of one label, and the top value" two_fields_beside_top check (refused 13 7) []
    ∷ sample "a top-like record beside a proper one of that label" top_like_beside_field check (accepted 1) (line 1 0 0 0 0 0 0 0 ++ line 240 1 1 0 0 0 0 0)
    ∷ sample "a top-like record beside a proper one of that label" top_like_beside_field (run 1) (stopped value 1 6) (line 17 0 0 0 5 0 0 0 ++ line 240 1 1 0 0 0 0 0)
    ∷ sample "only top-like records of that label" top_like_fields check (accepted 1) (line 2 0 0 0 0 0 0 0 ++ line 240 1 1 0 0 0 0 0)
    ∷ sample "only top-like records of that label" top_like_fields (run 1) (stopped value 1 6) (line 18 0 0 0 0 0 0 0 ++ line 240 1 1 0 0 0 0 0)
    ∷ sample "a record of a top-like function beside another label" top_like_content check (accepted 1) (line 2 0 0 0 0 0 0 0 ++ line 240 1 1 0 0 0 0 0)
    ∷ sample "a record of a top-like function beside another label" top_like_content (run 1) (stopped value 1 9) (line 18 0 0 0 0 0 0 0 ++ line 240 1 1 0 0 0 0 0)
    ∷ sample "the same record alone" lone_top_like check (accepted 3) (line 2 0 0 0 0 0 0 0 ++ line 2 0 0 0 0 0 0 0 ++ line 3 0 0 0 1 0 0 0 ++ line 240 1 3 0 2 0 0 0)
    ∷ sample "the same record alone" lone_top_like (run 1) (stopped value 1 6) (line 16 0 0 0 0 0 0 0 ++ line 2 0 0 0 0 0 0 0 ++ line 2 0 0 0 0 0 0 0 ++ line 21 0 0 0 1 0 2 0 ++ line 240 1 4 0 3 0 0 0)
    ∷ sample "a top-like function alone" lone_function check (refused 13 4) []
    ∷ sample "a top-like record of another label alone" lone_other_label check (refused 13 2) []
    ∷ sample "a number merged with a top-like function" top_like_function check (accepted 1) (line 2 0 0 0 0 0 0 0 ++ line 240 1 1 0 0 0 0 0)
    ∷ sample "a number merged with a top-like function" top_like_function (run 1) (stopped value 1 7) (line 18 0 0 0 0 0 0 0 ++ line 240 1 1 0 0 0 0 0)
    ∷ sample "a number merged with a top-like record" top_like_other_label check (accepted 1) (line 2 0 0 0 0 0 0 0 ++ line 240 1 1 0 0 0 0 0)
    ∷ sample "a number merged with a top-like record" top_like_other_label (run 1) (stopped value 1 5) (line 18 0 0 0 0 0 0 0 ++ line 240 1 1 0 0 0 0 0)
    ∷ sample "a number merged with the top value" top_part check (accepted 1) (line 2 0 0 0 0 0 0 0 ++ line 240 1 1 0 0 0 0 0)
    ∷ sample "a number merged with the top value" top_part (run 1) (stopped value 1 4) (line 18 0 0 0 0 0 0 0 ++ line 240 1 1 0 0 0 0 0)
    ∷ sample "parts nested on both sides" nested_parts check (accepted 1) (line 1 0 0 0 0 0 0 0 ++ line 240 1 1 0 0 0 0 0)
    ∷ sample "parts nested on both sides" nested_parts (run 1) (stopped value 1 10) (line 17 0 0 0 4 0 0 0 ++ line 240 1 1 0 0 0 0 0)
    ∷ sample "the hidden field without its annotation" hidden_unannotated check (accepted 1) (line 1 0 0 0 0 0 0 0 ++ line 240 1 1 0 0 0 0 0)
    ∷ sample "the hidden field without its annotation" hidden_unannotated (run 3) (stopped value 3 15) (line 17 0 0 0 2 0 0 0 ++ line 240 1 1 0 0 0 0 0)
    ∷ sample "a merge that steps first" later_merge check (accepted 1) (line 1 0 0 0 0 0 0 0 ++ line 240 1 1 0 0 0 0 0)
    ∷ sample "a merge that steps first" later_merge (run 2) (stopped value 2 8) (line 17 0 0 0 4 0 0 0 ++ line 240 1 1 0 0 0 0 0)
    ∷ []

-- "Kind 26 adds a and b"
unfoldable pub one_plus_two : List ℕ
one_plus_two =
    line 17 0 0 0 1 0 0 0
    ++ line 17 0 0 0 2 0 0 0
    ++ line 26 0 0 0 1 0 0 0
    ++ line 240 1 3 0 2 0 0 0

-- "held to the ends of the 32-bit range"
unfoldable pub past_upper_end : List ℕ
past_upper_end =
    line 17 0 0 0 255 255 255 127
    ++ line 17 0 0 0 1 0 0 0
    ++ line 26 0 0 0 1 0 0 0
    ++ line 240 1 3 0 2 0 0 0

-- the lower end
unfoldable pub past_lower_end : List ℕ
past_lower_end =
    line 17 0 0 0 0 0 0 128
    ++ line 17 0 0 0 255 255 255 255
    ++ line 26 0 0 0 1 0 0 0
    ++ line 240 1 3 0 2 0 0 0

-- a sum that is the upper end
unfoldable pub at_upper_end : List ℕ
at_upper_end =
    line 17 0 0 0 254 255 255 127
    ++ line 17 0 0 0 1 0 0 0
    ++ line 26 0 0 0 1 0 0 0
    ++ line 240 1 3 0 2 0 0 0

-- and one that is the lower
unfoldable pub at_lower_end : List ℕ
at_lower_end =
    line 17 0 0 0 1 0 0 128
    ++ line 17 0 0 0 255 255 255 255
    ++ line 26 0 0 0 1 0 0 0
    ++ line 240 1 3 0 2 0 0 0

-- both ends
unfoldable pub both_ends : List ℕ
both_ends =
    line 17 0 0 0 0 0 0 128
    ++ line 17 0 0 0 255 255 255 127
    ++ line 26 0 0 0 1 0 0 0
    ++ line 240 1 3 0 2 0 0 0

-- "Sides of a sum run left first"
unfoldable pub sum_of_sums : List ℕ
sum_of_sums =
    line 17 0 0 0 1 0 0 0
    ++ line 17 0 0 0 2 0 0 0
    ++ line 26 0 0 0 1 0 0 0
    ++ line 17 0 0 0 3 0 0 0
    ++ line 17 0 0 0 4 0 0 0
    ++ line 26 0 3 0 4 0 0 0
    ++ line 26 0 2 0 5 0 0 0
    ++ line 240 1 7 0 6 0 0 0

-- "both are read under Int"
unfoldable pub merged_side : List ℕ
merged_side =
    line 17 0 0 0 1 0 0 0
    ++ line 17 0 0 0 5 0 0 0
    ++ line 24 7 1 0 0 0 0 0
    ++ line 22 0 0 0 2 0 0 0
    ++ line 17 0 0 0 2 0 0 0
    ++ line 26 0 3 0 4 0 0 0
    ++ line 240 1 6 0 5 0 0 0

-- the right side may be a merge too
unfoldable pub merged_right_side : List ℕ
merged_right_side =
    line 17 0 0 0 2 0 0 0
    ++ line 17 0 0 0 1 0 0 0
    ++ line 17 0 0 0 5 0 0 0
    ++ line 24 7 2 0 0 0 0 0
    ++ line 22 0 1 0 3 0 0 0
    ++ line 26 0 0 0 4 0 0 0
    ++ line 240 1 6 0 5 0 0 0

-- "Typing checks each part before it walks the next."
unfoldable pub top_plus_variable : List ℕ
top_plus_variable =
    line 18 0 0 0 0 0 0 0
    ++ line 16 0 0 0 0 0 0 0
    ++ line 26 0 0 0 1 0 0 0
    ++ line 240 1 3 0 2 0 0 0

-- the right side
unfoldable pub one_plus_top : List ℕ
one_plus_top =
    line 17 0 0 0 1 0 0 0
    ++ line 18 0 0 0 0 0 0 0
    ++ line 26 0 0 0 1 0 0 0
    ++ line 240 1 3 0 2 0 0 0

-- "the choice becomes b for zero and c for anything else"
unfoldable pub choice_by_zero : List ℕ
choice_by_zero =
    line 17 0 0 0 0 0 0 0
    ++ line 17 0 0 0 5 0 0 0
    ++ line 17 0 0 0 7 0 0 0
    ++ line 27 0 0 0 1 0 2 0
    ++ line 240 1 4 0 3 0 0 0

-- one is not zero
unfoldable pub choice_by_one : List ℕ
choice_by_one =
    line 17 0 0 0 1 0 0 0
    ++ line 17 0 0 0 5 0 0 0
    ++ line 17 0 0 0 7 0 0 0
    ++ line 27 0 0 0 1 0 2 0
    ++ line 240 1 4 0 3 0 0 0

-- nor is a negative number
unfoldable pub choice_by_minus_one : List ℕ
choice_by_minus_one =
    line 17 0 0 0 255 255 255 255
    ++ line 17 0 0 0 5 0 0 0
    ++ line 17 0 0 0 7 0 0 0
    ++ line 27 0 0 0 1 0 2 0
    ++ line 240 1 4 0 3 0 0 0

-- nor one whose low 16 bits are 0
unfoldable pub choice_by_high : List ℕ
choice_by_high =
    line 17 0 0 0 0 0 1 0
    ++ line 17 0 0 0 5 0 0 0
    ++ line 17 0 0 0 7 0 0 0
    ++ line 27 0 0 0 1 0 2 0
    ++ line 240 1 4 0 3 0 0 0

-- "of a choice only a runs, while b and c wait"
unfoldable pub waiting_loop : List ℕ
waiting_loop =
    line 17 0 0 0 1 0 0 0
    ++ line 16 0 0 0 0 0 0 0
    ++ line 1 0 0 0 0 0 0 0
    ++ line 23 0 1 0 2 0 0 0
    ++ line 17 0 0 0 4 0 0 0
    ++ line 27 0 0 0 3 0 4 0
    ++ line 240 1 6 0 5 0 0 0

-- "either one annotated Int"
unfoldable pub annotated_branch : List ℕ
annotated_branch =
    line 17 0 0 0 0 0 0 0
    ++ line 17 0 0 0 1 0 0 0
    ++ line 17 0 0 0 2 0 0 0
    ++ line 24 1 2 0 0 0 0 0
    ++ line 22 0 1 0 3 0 0 0
    ++ line 17 0 0 0 3 0 0 0
    ++ line 27 0 0 0 4 0 5 0
    ++ line 17 0 0 0 5 0 0 0
    ++ line 24 1 7 0 0 0 0 0
    ++ line 22 0 6 0 8 0 0 0
    ++ line 240 1 10 0 9 0 0 0

-- the tested part
unfoldable pub choice_by_top : List ℕ
choice_by_top =
    line 18 0 0 0 0 0 0 0
    ++ line 16 0 3 0 0 0 0 0
    ++ line 16 0 4 0 0 0 0 0
    ++ line 27 0 0 0 1 0 2 0
    ++ line 240 1 4 0 3 0 0 0

-- the branch for zero
unfoldable pub top_for_zero : List ℕ
top_for_zero =
    line 17 0 0 0 0 0 0 0
    ++ line 18 0 0 0 0 0 0 0
    ++ line 16 0 0 0 0 0 0 0
    ++ line 27 0 0 0 1 0 2 0
    ++ line 240 1 4 0 3 0 0 0

-- the other branch
unfoldable pub top_for_other : List ℕ
top_for_other =
    line 17 0 0 0 0 0 0 0
    ++ line 17 0 0 0 1 0 0 0
    ++ line 18 0 0 0 0 0 0 0
    ++ line 27 0 0 0 1 0 2 0
    ++ line 240 1 4 0 3 0 0 0

-- a refusal inside it
unfoldable pub free_in_other : List ℕ
free_in_other =
    line 17 0 0 0 0 0 0 0
    ++ line 17 0 0 0 1 0 0 0
    ++ line 16 0 0 0 0 0 0 0
    ++ line 27 0 0 0 1 0 2 0
    ++ line 240 1 4 0 3 0 0 0

-- a sum is no value
unfoldable pub sum_merged : List ℕ
sum_merged =
    line 17 0 0 0 1 0 0 0
    ++ line 17 0 0 0 2 0 0 0
    ++ line 26 0 0 0 1 0 0 0
    ++ line 17 0 0 0 3 0 0 0
    ++ line 22 0 2 0 3 0 0 0
    ++ line 240 1 5 0 4 0 0 0

-- bodies with sums are compared as trees
unfoldable pub equal_bodies : List ℕ
equal_bodies =
    line 1 0 0 0 0 0 0 0
    ++ line 16 0 0 0 0 0 0 0
    ++ line 17 0 0 0 1 0 0 0
    ++ line 26 0 1 0 2 0 0 0
    ++ line 21 0 3 0 0 0 0 0
    ++ line 2 0 0 0 0 0 0 0
    ++ line 4 0 0 0 5 0 0 0
    ++ line 21 0 3 0 0 0 6 0
    ++ line 22 0 4 0 7 0 0 0
    ++ line 240 1 9 0 8 0 0 0

-- 1 + x is another body than x + 1
unfoldable pub exchanged_bodies : List ℕ
exchanged_bodies =
    line 1 0 0 0 0 0 0 0
    ++ line 16 0 0 0 0 0 0 0
    ++ line 17 0 0 0 1 0 0 0
    ++ line 26 0 1 0 2 0 0 0
    ++ line 21 0 3 0 0 0 0 0
    ++ line 2 0 0 0 0 0 0 0
    ++ line 4 0 0 0 5 0 0 0
    ++ line 26 0 2 0 1 0 0 0
    ++ line 21 0 7 0 0 0 6 0
    ++ line 22 0 4 0 8 0 0 0
    ++ line 240 1 10 0 9 0 0 0

-- and so are bodies with choices
unfoldable pub equal_choices : List ℕ
equal_choices =
    line 1 0 0 0 0 0 0 0
    ++ line 16 0 0 0 0 0 0 0
    ++ line 17 0 0 0 1 0 0 0
    ++ line 17 0 0 0 2 0 0 0
    ++ line 27 0 1 0 2 0 3 0
    ++ line 21 0 4 0 0 0 0 0
    ++ line 2 0 0 0 0 0 0 0
    ++ line 4 0 0 0 6 0 0 0
    ++ line 21 0 4 0 0 0 7 0
    ++ line 22 0 5 0 8 0 0 0
    ++ line 240 1 10 0 9 0 0 0

-- with the branches exchanged it is another body
unfoldable pub exchanged_choices : List ℕ
exchanged_choices =
    line 1 0 0 0 0 0 0 0
    ++ line 16 0 0 0 0 0 0 0
    ++ line 17 0 0 0 1 0 0 0
    ++ line 17 0 0 0 2 0 0 0
    ++ line 27 0 1 0 2 0 3 0
    ++ line 21 0 4 0 0 0 0 0
    ++ line 2 0 0 0 0 0 0 0
    ++ line 4 0 0 0 6 0 0 0
    ++ line 27 0 1 0 3 0 2 0
    ++ line 21 0 8 0 0 0 7 0
    ++ line 22 0 5 0 9 0 0 0
    ++ line 240 1 11 0 10 0 0 0

-- so it is with another third part
unfoldable pub other_third_part : List ℕ
other_third_part =
    line 1 0 0 0 0 0 0 0
    ++ line 16 0 0 0 0 0 0 0
    ++ line 17 0 0 0 1 0 0 0
    ++ line 17 0 0 0 2 0 0 0
    ++ line 27 0 1 0 2 0 3 0
    ++ line 21 0 4 0 0 0 0 0
    ++ line 2 0 0 0 0 0 0 0
    ++ line 4 0 0 0 6 0 0 0
    ++ line 27 0 1 0 2 0 2 0
    ++ line 21 0 8 0 0 0 7 0
    ++ line 22 0 5 0 9 0 0 0
    ++ line 240 1 11 0 10 0 0 0

-- what is substituted goes to where the variable stands
unfoldable pub choice_in_body : List ℕ
choice_in_body =
    line 1 0 0 0 0 0 0 0
    ++ line 17 0 0 0 0 0 0 0
    ++ line 16 0 0 0 0 0 0 0
    ++ line 17 0 0 0 7 0 0 0
    ++ line 27 0 1 0 2 0 3 0
    ++ line 21 0 4 0 0 0 0 0
    ++ line 17 0 0 0 5 0 0 0
    ++ line 20 0 5 0 6 0 0 0
    ++ line 240 1 8 0 7 0 0 0

-- of a sum too
unfoldable pub sum_in_body : List ℕ
sum_in_body =
    line 1 0 0 0 0 0 0 0
    ++ line 16 0 0 0 0 0 0 0
    ++ line 17 0 0 0 2 0 0 0
    ++ line 26 0 1 0 2 0 0 0
    ++ line 21 0 3 0 0 0 0 0
    ++ line 17 0 0 0 1 0 0 0
    ++ line 20 0 4 0 5 0 0 0
    ++ line 240 1 7 0 6 0 0 0

-- a fixpoint that counts: x + .. + 1
unfoldable pub triangle : List ℕ
triangle =
    line 1 0 0 0 0 0 0 0
    ++ line 16 0 0 0 0 0 0 0
    ++ line 17 0 0 0 0 0 0 0
    ++ line 16 0 1 0 0 0 0 0
    ++ line 17 0 0 0 255 255 255 255
    ++ line 26 0 1 0 4 0 0 0
    ++ line 20 0 3 0 5 0 0 0
    ++ line 26 0 1 0 6 0 0 0
    ++ line 27 0 1 0 2 0 7 0
    ++ line 21 0 8 0 0 0 0 0
    ++ line 3 0 0 0 0 0 0 0
    ++ line 23 0 9 0 10 0 0 0
    ++ line 17 0 0 0 4 0 0 0
    ++ line 20 0 11 0 12 0 0 0
    ++ line 240 1 14 0 13 0 0 0

-- a sum names a and b alone
unfoldable pub sum_names_c : List ℕ
sum_names_c =
    line 17 0 0 0 1 0 0 0
    ++ line 26 0 0 0 0 0 1 0
    ++ line 240 1 2 0 1 0 0 0

-- and no label
unfoldable pub labelled_sum : List ℕ
labelled_sum =
    line 17 0 0 0 1 0 0 0
    ++ line 26 3 0 0 0 0 0 0
    ++ line 240 1 2 0 1 0 0 0

-- nor does a choice
unfoldable pub labelled_choice : List ℕ
labelled_choice =
    line 17 0 0 0 1 0 0 0
    ++ line 27 3 0 0 0 0 0 0
    ++ line 240 1 2 0 1 0 0 0

-- its third part is a reference
unfoldable pub choice_of_itself : List ℕ
choice_of_itself =
    line 17 0 0 0 1 0 0 0
    ++ line 27 0 0 0 0 0 1 0
    ++ line 240 1 2 0 1 0 0 0

-- to a term
unfoldable pub choice_of_type : List ℕ
choice_of_type =
    line 1 0 0 0 0 0 0 0
    ++ line 17 0 0 0 1 0 0 0
    ++ line 27 0 1 0 1 0 0 0
    ++ line 240 1 3 0 2 0 0 0

-- the kind after them
unfoldable pub unknown_kind : List ℕ
unknown_kind =
    line 17 0 0 0 1 0 0 0
    ++ line 28 0 0 0 0 0 0 0
    ++ line 240 1 2 0 1 0 0 0

-- The sums and choices of document 02, (ii): the check, and the run with a limit equal to its steps, or below.
unfoldable pub sums_and_choices : List Sample
sums_and_choices =
    sample "1 + 2" one_plus_two check (accepted 1) (line 1 0 0 0 0 0 0 0 ++ line 240 1 1 0 0 0 0 0)
    ∷ sample "1 + 2" one_plus_two (run 0) (stopped spent 0 3) (line 17 0 0 0 1 0 0 0 ++ line 17 0 0 0 2 0 0 0 ++ line 26 0 0 0 1 0 0 0 ++ line 240 1 3 0 2 0 0 0)
    ∷ sample "1 + 2" one_plus_two (run 1) (stopped value 1 3) (line 17 0 0 0 3 0 0 0 ++ line 240 1 1 0 0 0 0 0)
    ∷ sample "2147483647 + 1" past_upper_end (run 1) (stopped value 1 3) (line 17 0 0 0 255 255 255 127 ++ line 240 1 1 0 0 0 0 0)
    ∷ sample "-2147483648 + -1" past_lower_end (run 1) (stopped value 1 3) (line 17 0 0 0 0 0 0 128 ++ line 240 1 1 0 0 0 0 0)
    ∷ sample "2147483646 + 1" at_upper_end (run 1) (stopped value 1 3) (line 17 0 0 0 255 255 255 127 ++ line 240 1 1 0 0 0 0 0)
    ∷ sample "-2147483647 + -1" at_lower_end (run 1) (stopped value 1 3) (line 17 0 0 0 0 0 0 128 ++ line 240 1 1 0 0 0 0 0)
    ∷ sample "-2147483648 + 2147483647" both_ends (run 1) (stopped value 1 3) (line 17 0 0 0 255 255 255 255 ++ line 240 1 1 0 0 0 0 0)
    ∷ sample "(1 + 2) + (3 + 4)" sum_of_sums (run 1) (stopped spent 1 7) (line 17 0 0 0 3 0 0 0 ++ line 17 0 0 0 3 0 0 0 ++ line 17 0 0 0 4 0 0 0 ++ line 26 0 1 0 2 0 0 0 ++ line 26 0 0 0 3 0 0 0 ++ line 240 1 5 0 4 0 0 0)
    ∷ sample "(1 + 2) + (3 + 4)" sum_of_sums (run 3) (stopped value 3 7) (line 17 0 0 0 10 0 0 0 ++ line 240 1 1 0 0 0 0 0)
    ∷ sample "(1 merged with {7 = 5}) + 2" merged_side (run 1) (stopped value 1 6) (line 17 0 0 0 3 0 0 0 ++ line 240 1 1 0 0 0 0 0)
    ∷ sample "2 + (1 merged with {7 = 5})" merged_right_side (run 1) (stopped value 1 6) (line 17 0 0 0 3 0 0 0 ++ line 240 1 1 0 0 0 0 0)
    ∷ sample "the top value + a free variable" top_plus_variable check (refused 15 0) []
    ∷ sample "1 + the top value" one_plus_top check (refused 15 1) []
    ∷ sample "if 0 then 5 else 7" choice_by_zero check (accepted 1) (line 1 0 0 0 0 0 0 0 ++ line 240 1 1 0 0 0 0 0)
    ∷ sample "if 0 then 5 else 7" choice_by_zero (run 0) (stopped spent 0 4) (line 17 0 0 0 0 0 0 0 ++ line 17 0 0 0 5 0 0 0 ++ line 17 0 0 0 7 0 0 0 ++ line 27 0 0 0 1 0 2 0 ++ line 240 1 4 0 3 0 0 0)
    ∷ sample "if 0 then 5 else 7" choice_by_zero (run 1) (stopped spent 1 4) (line 17 0 0 0 5 0 0 0 ++ line 1 0 0 0 0 0 0 0 ++ line 19 0 0 0 1 0 0 0 ++ line 240 1 3 0 2 0 0 0)
    ∷ sample "if 0 then 5 else 7" choice_by_zero (run 2) (stopped value 2 4) (line 17 0 0 0 5 0 0 0 ++ line 240 1 1 0 0 0 0 0)
    ∷ sample "if 1 then 5 else 7" choice_by_one (run 1) (stopped spent 1 4) (line 17 0 0 0 7 0 0 0 ++ line 1 0 0 0 0 0 0 0 ++ line 19 0 0 0 1 0 0 0 ++ line 240 1 3 0 2 0 0 0)
    ∷ sample "if 1 then 5 else 7" choice_by_one (run 2) (stopped value 2 4) (line 17 0 0 0 7 0 0 0 ++ line 240 1 1 0 0 0 0 0)
    ∷ sample "if -1 then 5 else 7" choice_by_minus_one (run 1) (stopped spent 1 4) (line 17 0 0 0 7 0 0 0 ++ line 1 0 0 0 0 0 0 0 ++ line 19 0 0 0 1 0 0 0 ++ line 240 1 3 0 2 0 0 0)
    ∷ sample "if -1 then 5 else 7" choice_by_minus_one (run 2) (stopped value 2 4) (line 17 0 0 0 7 0 0 0 ++ line 240 1 1 0 0 0 0 0)
    ∷ sample "if 65536 then 5 else 7" choice_by_high (run 1) (stopped spent 1 4) (line 17 0 0 0 7 0 0 0 ++ line 1 0 0 0 0 0 0 0 ++ line 19 0 0 0 1 0 0 0 ++ line 240 1 3 0 2 0 0 0)
    ∷ sample "if 65536 then 5 else 7" choice_by_high (run 2) (stopped value 2 4) (line 17 0 0 0 7 0 0 0 ++ line 240 1 1 0 0 0 0 0)
    ∷ sample "if 1 then a loop else 4" waiting_loop (run 2) (stopped value 2 6) (line 17 0 0 0 4 0 0 0 ++ line 240 1 1 0 0 0 0 0)
    ∷ sample "(if 0 then 1 merged with {1 = 2} else 3) merged with {1 = 5}" annotated_branch check (accepted 4) (line 1 0 0 0 0 0 0 0 ++ line 1 0 0 0 0 0 0 0 ++ line 5 1 1 0 0 0 0 0 ++ line 4 0 0 0 2 0 0 0 ++ line 240 1 4 0 3 0 0 0)
    ∷ sample "(if 0 then 1 merged with {1 = 2} else 3) merged with {1 = 5}" annotated_branch (run 2) (stopped value 2 10) (line 17 0 0 0 1 0 0 0 ++ line 17 0 0 0 5 0 0 0 ++ line 24 1 1 0 0 0 0 0 ++ line 22 0 0 0 2 0 0 0 ++ line 240 1 4 0 3 0 0 0)
    ∷ sample "if the top value then a free variable else another" choice_by_top check (refused 15 0) []
    ∷ sample "if 0 then the top value else a free variable" top_for_zero check (refused 15 1) []
    ∷ sample "if 0 then 1 else the top value" top_for_other check (refused 15 2) []
    ∷ sample "if 0 then 1 else a free variable" free_in_other check (refused 11 2) []
    ∷ sample "(1 + 2) merged with 3" sum_merged check (refused 14 4) []
    ∷ sample "two functions with the body x + 1" equal_bodies check (accepted 9) (line 1 0 0 0 0 0 0 0 ++ line 1 0 0 0 0 0 0 0 ++ line 3 0 0 0 1 0 0 0 ++ line 1 0 0 0 0 0 0 0 ++ line 1 0 0 0 0 0 0 0 ++ line 2 0 0 0 0 0 0 0 ++ line 4 0 4 0 5 0 0 0 ++ line 3 0 3 0 6 0 0 0 ++ line 4 0 2 0 7 0 0 0 ++ line 240 1 9 0 8 0 0 0)
    ∷ sample "functions with the bodies x + 1 and 1 + x" exchanged_bodies check (refused 14 9) []
    ∷ sample "two functions with the body if x then 1 else 2" equal_choices check (accepted 9) (line 1 0 0 0 0 0 0 0 ++ line 1 0 0 0 0 0 0 0 ++ line 3 0 0 0 1 0 0 0 ++ line 1 0 0 0 0 0 0 0 ++ line 1 0 0 0 0 0 0 0 ++ line 2 0 0 0 0 0 0 0 ++ line 4 0 4 0 5 0 0 0 ++ line 3 0 3 0 6 0 0 0 ++ line 4 0 2 0 7 0 0 0 ++ line 240 1 9 0 8 0 0 0)
    ∷ sample "functions with the bodies if x then 1 else 2 and if x then 2 else 1" exchanged_choices check (refused 14 10) []
    ∷ sample "functions with the bodies if x then 1 else 2 and if x then 1 else 1" other_third_part check (refused 14 10) []
    ∷ sample "the function if 0 then x else 7 on 5" choice_in_body (run 1) (stopped spent 1 9) (line 17 0 0 0 0 0 0 0 ++ line 17 0 0 0 5 0 0 0 ++ line 17 0 0 0 7 0 0 0 ++ line 27 0 0 0 1 0 2 0 ++ line 1 0 0 0 0 0 0 0 ++ line 19 0 3 0 4 0 0 0 ++ line 240 1 6 0 5 0 0 0)
    ∷ sample "the function if 0 then x else 7 on 5" choice_in_body (run 4) (stopped value 4 9) (line 17 0 0 0 5 0 0 0 ++ line 240 1 1 0 0 0 0 0)
    ∷ sample "the function x + 2 on 1" sum_in_body (run 1) (stopped spent 1 8) (line 17 0 0 0 1 0 0 0 ++ line 17 0 0 0 2 0 0 0 ++ line 26 0 0 0 1 0 0 0 ++ line 1 0 0 0 0 0 0 0 ++ line 19 0 2 0 3 0 0 0 ++ line 240 1 5 0 4 0 0 0)
    ∷ sample "the function x + 2 on 1" sum_in_body (run 3) (stopped value 3 8) (line 17 0 0 0 3 0 0 0 ++ line 240 1 1 0 0 0 0 0)
    ∷ sample "the triangular number of 4" triangle (run 38) (stopped value 38 61) (line 17 0 0 0 10 0 0 0 ++ line 240 1 1 0 0 0 0 0)
    ∷ sample "a sum with field c" sum_names_c check (refused 6 1) []
    ∷ sample "a sum with a label" labelled_sum check (refused 6 1) []
    ∷ sample "a choice with a label" labelled_choice check (refused 6 1) []
    ∷ sample "a choice whose third part is itself" choice_of_itself check (refused 7 1) []
    ∷ sample "a choice whose third part is a type" choice_of_type check (refused 8 2) []
    ∷ sample "kind 28" unknown_kind check (refused 5 1) []
    ∷ []

-- the same body by two cells: the types are not disjoint
unfoldable pub same_body : List ℕ
same_body =
    line 1 0 0 0 0 0 0 0
    ++ line 16 0 0 0 0 0 0 0
    ++ line 21 0 1 0 0 0 0 0
    ++ line 16 0 0 0 0 0 0 0
    ++ line 2 0 0 0 0 0 0 0
    ++ line 4 0 0 0 4 0 0 0
    ++ line 21 0 3 0 0 0 5 0
    ++ line 22 0 2 0 6 0 0 0
    ++ line 240 1 8 0 7 0 0 0

-- another body
unfoldable pub other_body : List ℕ
other_body =
    line 1 0 0 0 0 0 0 0
    ++ line 16 0 0 0 0 0 0 0
    ++ line 21 0 1 0 0 0 0 0
    ++ line 17 0 0 0 1 0 0 0
    ++ line 2 0 0 0 0 0 0 0
    ++ line 4 0 0 0 4 0 0 0
    ++ line 21 0 3 0 0 0 5 0
    ++ line 22 0 2 0 6 0 0 0
    ++ line 240 1 8 0 7 0 0 0

-- equal bodies that share no cell
unfoldable pub opened_bodies : List ℕ
opened_bodies =
    line 1 0 0 0 0 0 0 0
    ++ line 16 0 0 0 0 0 0 0
    ++ line 24 1 1 0 0 0 0 0
    ++ line 25 1 2 0 0 0 0 0
    ++ line 21 0 3 0 0 0 0 0
    ++ line 16 0 0 0 0 0 0 0
    ++ line 24 1 5 0 0 0 0 0
    ++ line 25 1 6 0 0 0 0 0
    ++ line 21 0 7 0 0 0 0 0
    ++ line 22 0 4 0 8 0 0 0
    ++ line 240 1 10 0 9 0 0 0

-- and bodies in which one cell stands for two
unfoldable pub uneven_sharing : List ℕ
uneven_sharing =
    line 1 0 0 0 0 0 0 0
    ++ line 16 0 0 0 0 0 0 0
    ++ line 26 0 1 0 1 0 0 0
    ++ line 21 0 2 0 0 0 0 0
    ++ line 16 0 0 0 0 0 0 0
    ++ line 16 0 0 0 0 0 0 0
    ++ line 26 0 4 0 5 0 0 0
    ++ line 21 0 6 0 0 0 0 0
    ++ line 22 0 3 0 7 0 0 0
    ++ line 240 1 9 0 8 0 0 0

-- bodies that differ in one label
unfoldable pub other_label : List ℕ
other_label =
    line 1 0 0 0 0 0 0 0
    ++ line 16 0 0 0 0 0 0 0
    ++ line 24 1 1 0 0 0 0 0
    ++ line 24 2 1 0 0 0 0 0
    ++ line 22 0 2 0 3 0 0 0
    ++ line 25 1 4 0 0 0 0 0
    ++ line 21 0 5 0 0 0 0 0
    ++ line 25 2 4 0 0 0 0 0
    ++ line 21 0 7 0 0 0 0 0
    ++ line 22 0 6 0 8 0 0 0
    ++ line 240 1 10 0 9 0 0 0

-- numbers that differ in field c alone
unfoldable pub other_high_half : List ℕ
other_high_half =
    line 1 0 0 0 0 0 0 0
    ++ line 17 0 0 0 255 255 255 255
    ++ line 21 0 1 0 0 0 0 0
    ++ line 17 0 0 0 255 255 0 0
    ++ line 21 0 3 0 0 0 0 0
    ++ line 22 0 2 0 4 0 0 0
    ++ line 240 1 6 0 5 0 0 0

-- and in field b alone
unfoldable pub other_low_half : List ℕ
other_low_half =
    line 1 0 0 0 0 0 0 0
    ++ line 17 0 0 0 0 0 1 0
    ++ line 21 0 1 0 0 0 0 0
    ++ line 17 0 0 0 1 0 1 0
    ++ line 21 0 3 0 0 0 0 0
    ++ line 22 0 2 0 4 0 0 0
    ++ line 240 1 6 0 5 0 0 0

-- bodies that differ in a type
unfoldable pub other_type_in_body : List ℕ
other_type_in_body =
    line 1 0 0 0 0 0 0 0
    ++ line 16 0 0 0 0 0 0 0
    ++ line 19 0 1 0 0 0 0 0
    ++ line 21 0 2 0 0 0 0 0
    ++ line 4 0 0 0 0 0 0 0
    ++ line 19 0 1 0 4 0 0 0
    ++ line 21 0 5 0 0 0 0 0
    ++ line 22 0 3 0 6 0 0 0
    ++ line 240 1 8 0 7 0 0 0

-- in the last field of a function inside
unfoldable pub other_last_field : List ℕ
other_last_field =
    line 1 0 0 0 0 0 0 0
    ++ line 16 0 0 0 0 0 0 0
    ++ line 21 0 1 0 0 0 0 0
    ++ line 20 0 2 0 1 0 0 0
    ++ line 21 0 3 0 0 0 0 0
    ++ line 2 0 0 0 0 0 0 0
    ++ line 4 0 0 0 5 0 0 0
    ++ line 21 0 1 0 0 0 6 0
    ++ line 20 0 7 0 1 0 0 0
    ++ line 21 0 8 0 0 0 0 0
    ++ line 22 0 4 0 9 0 0 0
    ++ line 240 1 11 0 10 0 0 0

-- the input types are compared, too
unfoldable pub other_input : List ℕ
other_input =
    line 1 0 0 0 0 0 0 0
    ++ line 16 0 0 0 0 0 0 0
    ++ line 21 0 1 0 0 0 0 0
    ++ line 4 0 0 0 0 0 0 0
    ++ line 21 0 1 0 3 0 0 0
    ++ line 22 0 2 0 4 0 0 0
    ++ line 240 1 6 0 5 0 0 0

-- other bodies, but disjoint types
unfoldable pub disjoint_bodies : List ℕ
disjoint_bodies =
    line 1 0 0 0 0 0 0 0
    ++ line 16 0 0 0 0 0 0 0
    ++ line 5 1 0 0 0 0 0 0
    ++ line 24 1 1 0 0 0 0 0
    ++ line 21 0 3 0 0 0 2 0
    ++ line 5 2 0 0 0 0 0 0
    ++ line 24 2 1 0 0 0 0 0
    ++ line 21 0 6 0 0 0 5 0
    ++ line 22 0 4 0 7 0 0 0
    ++ line 240 1 9 0 8 0 0 0

-- two equal chains of 18 merges that nothing reaches
unfoldable pub unreached_chains : List ℕ
unreached_chains =
    line 18 0 0 0 0 0 0 0
    ++ line 18 0 0 0 0 0 0 0
    ++ line 22 0 1 0 1 0 0 0
    ++ line 22 0 2 0 2 0 0 0
    ++ line 22 0 3 0 3 0 0 0
    ++ line 22 0 4 0 4 0 0 0
    ++ line 22 0 5 0 5 0 0 0
    ++ line 22 0 6 0 6 0 0 0
    ++ line 22 0 7 0 7 0 0 0
    ++ line 22 0 8 0 8 0 0 0
    ++ line 22 0 9 0 9 0 0 0
    ++ line 22 0 10 0 10 0 0 0
    ++ line 22 0 11 0 11 0 0 0
    ++ line 22 0 12 0 12 0 0 0
    ++ line 22 0 13 0 13 0 0 0
    ++ line 22 0 14 0 14 0 0 0
    ++ line 22 0 15 0 15 0 0 0
    ++ line 22 0 16 0 16 0 0 0
    ++ line 22 0 17 0 17 0 0 0
    ++ line 22 0 18 0 18 0 0 0
    ++ line 18 0 0 0 0 0 0 0
    ++ line 22 0 20 0 20 0 0 0
    ++ line 22 0 21 0 21 0 0 0
    ++ line 22 0 22 0 22 0 0 0
    ++ line 22 0 23 0 23 0 0 0
    ++ line 22 0 24 0 24 0 0 0
    ++ line 22 0 25 0 25 0 0 0
    ++ line 22 0 26 0 26 0 0 0
    ++ line 22 0 27 0 27 0 0 0
    ++ line 22 0 28 0 28 0 0 0
    ++ line 22 0 29 0 29 0 0 0
    ++ line 22 0 30 0 30 0 0 0
    ++ line 22 0 31 0 31 0 0 0
    ++ line 22 0 32 0 32 0 0 0
    ++ line 22 0 33 0 33 0 0 0
    ++ line 22 0 34 0 34 0 0 0
    ++ line 22 0 35 0 35 0 0 0
    ++ line 22 0 36 0 36 0 0 0
    ++ line 22 0 37 0 37 0 0 0
    ++ line 240 1 39 0 0 0 0 0

-- Bodies compared, document 02, (iii): "yes exactly when both, sharing opened, are the same tree".
unfoldable pub bodies : List Sample
bodies =
    sample "two functions with the body x, in two cells" same_body check (accepted 9) (line 1 0 0 0 0 0 0 0 ++ line 1 0 0 0 0 0 0 0 ++ line 3 0 0 0 1 0 0 0 ++ line 1 0 0 0 0 0 0 0 ++ line 1 0 0 0 0 0 0 0 ++ line 2 0 0 0 0 0 0 0 ++ line 4 0 4 0 5 0 0 0 ++ line 3 0 3 0 6 0 0 0 ++ line 4 0 2 0 7 0 0 0 ++ line 240 1 9 0 8 0 0 0)
    ∷ sample "functions with the bodies x and 1" other_body check (refused 14 7) []
    ∷ sample "two functions with the body {1 = x}.1, each in cells of its own" opened_bodies check (accepted 7) (line 1 0 0 0 0 0 0 0 ++ line 1 0 0 0 0 0 0 0 ++ line 3 0 0 0 1 0 0 0 ++ line 1 0 0 0 0 0 0 0 ++ line 1 0 0 0 0 0 0 0 ++ line 3 0 3 0 4 0 0 0 ++ line 4 0 2 0 5 0 0 0 ++ line 240 1 7 0 6 0 0 0)
    ∷ sample "two functions with the body x + x, over one cell for x and over two" uneven_sharing check (accepted 7) (line 1 0 0 0 0 0 0 0 ++ line 1 0 0 0 0 0 0 0 ++ line 3 0 0 0 1 0 0 0 ++ line 1 0 0 0 0 0 0 0 ++ line 1 0 0 0 0 0 0 0 ++ line 3 0 3 0 4 0 0 0 ++ line 4 0 2 0 5 0 0 0 ++ line 240 1 7 0 6 0 0 0)
    ∷ sample "functions that read field 1 and field 2" other_label check (refused 14 9) []
    ∷ sample "functions with the bodies -1 and 65535" other_high_half check (refused 14 5) []
    ∷ sample "functions with the bodies 65536 and 65537" other_low_half check (refused 14 5) []
    ∷ sample "functions with the bodies x : Int and x : Int & Int" other_type_in_body check (refused 14 7) []
    ∷ sample "functions whose bodies apply functions with the outputs Int and Int & Top" other_last_field check (refused 14 10) []
    ∷ sample "functions with the body x and the inputs Int and Int & Int" other_input check (refused 14 5) []
    ∷ sample "functions with the bodies {1 = x} and {2 = x}" disjoint_bodies check (accepted 9) (line 1 0 0 0 0 0 0 0 ++ line 1 0 0 0 0 0 0 0 ++ line 5 1 1 0 0 0 0 0 ++ line 3 0 0 0 2 0 0 0 ++ line 1 0 0 0 0 0 0 0 ++ line 1 0 0 0 0 0 0 0 ++ line 5 2 5 0 0 0 0 0 ++ line 3 0 4 0 6 0 0 0 ++ line 4 0 3 0 7 0 0 0 ++ line 240 1 9 0 8 0 0 0)
    ∷ sample "the top value, beside two equal doubling chains that nothing reaches" unreached_chains check (accepted 1) (line 2 0 0 0 0 0 0 0 ++ line 240 1 1 0 0 0 0 0)
    ∷ []

-- "Version 2 in the trailer stores a number in bytes 2–7, signed."
unfoldable pub wide_number : List ℕ
wide_number =
    line 17 0 0 0 0 0 0 1
    ++ line 240 2 1 0 0 0 0 0

-- all six bytes hold the sign
unfoldable pub wide_minus_one : List ℕ
wide_minus_one =
    line 17 0 255 255 255 255 255 255
    ++ line 240 2 1 0 0 0 0 0

-- "Sums in version 2 are held to the ends of 48 bits"
unfoldable pub past_wide_upper_end : List ℕ
past_wide_upper_end =
    line 17 0 255 255 255 255 255 127
    ++ line 17 0 1 0 0 0 0 0
    ++ line 26 0 0 0 1 0 0 0
    ++ line 240 2 3 0 2 0 0 0

-- the lower end of 48 bits
unfoldable pub past_wide_lower_end : List ℕ
past_wide_lower_end =
    line 17 0 0 0 0 0 0 128
    ++ line 17 0 255 255 255 255 255 255
    ++ line 26 0 0 0 1 0 0 0
    ++ line 240 2 3 0 2 0 0 0

-- "in version 1 to those of 32": version 2 passes them
unfoldable pub above32 : List ℕ
above32 =
    line 17 0 255 255 255 127 0 0
    ++ line 17 0 1 0 0 0 0 0
    ++ line 26 0 0 0 1 0 0 0
    ++ line 240 2 3 0 2 0 0 0

-- both ends
unfoldable pub below32 : List ℕ
below32 =
    line 17 0 0 0 0 128 255 255
    ++ line 17 0 255 255 255 255 255 255
    ++ line 26 0 0 0 1 0 0 0
    ++ line 240 2 3 0 2 0 0 0

-- field a of a number is unnamed in version 1
unfoldable pub lowest_in_one : List ℕ
lowest_in_one =
    line 17 0 1 0 5 0 0 0
    ++ line 240 1 1 0 0 0 0 0

-- and named in version 2
unfoldable pub lowest_in_two : List ℕ
lowest_in_two =
    line 17 0 1 0 5 0 0 0
    ++ line 240 2 1 0 0 0 0 0

-- its label is not
unfoldable pub labelled_number : List ℕ
labelled_number =
    line 17 7 1 0 0 0 0 0
    ++ line 240 2 1 0 0 0 0 0

-- consistency reads the whole number: field a,
unfoldable pub unequal_in_two : List ℕ
unequal_in_two =
    line 17 0 1 0 0 0 0 0
    ++ line 17 0 2 0 0 0 0 0
    ++ line 22 0 0 0 1 0 0 0
    ++ line 240 2 3 0 2 0 0 0

-- and field c
unfoldable pub unequal_above32 : List ℕ
unequal_above32 =
    line 17 0 1 0 0 0 0 0
    ++ line 17 0 1 0 0 0 1 0
    ++ line 22 0 0 0 1 0 0 0
    ++ line 240 2 3 0 2 0 0 0

-- equal in all three
unfoldable pub equal_above32 : List ℕ
equal_above32 =
    line 17 0 0 0 0 0 0 1
    ++ line 17 0 0 0 0 0 0 1
    ++ line 22 0 0 0 1 0 0 0
    ++ line 240 2 3 0 2 0 0 0

-- bodies that differ above 32 bits alone
unfoldable pub other_above32 : List ℕ
other_above32 =
    line 1 0 0 0 0 0 0 0
    ++ line 17 0 0 0 0 0 1 0
    ++ line 17 0 0 0 0 0 0 0
    ++ line 21 0 1 0 0 0 0 0
    ++ line 21 0 2 0 0 0 0 0
    ++ line 22 0 3 0 4 0 0 0
    ++ line 240 2 6 0 5 0 0 0

-- a choice reads the whole number: 0 in fields a and b is not zero,
unfoldable pub choice_above32 : List ℕ
choice_above32 =
    line 17 0 0 0 0 0 1 0
    ++ line 17 0 1 0 0 0 0 0
    ++ line 17 0 2 0 0 0 0 0
    ++ line 27 0 0 0 1 0 2 0
    ++ line 240 2 4 0 3 0 0 0

-- nor is 0 in field a
unfoldable pub choice_above16 : List ℕ
choice_above16 =
    line 17 0 0 0 1 0 0 0
    ++ line 17 0 1 0 0 0 0 0
    ++ line 17 0 2 0 0 0 0 0
    ++ line 27 0 0 0 1 0 2 0
    ++ line 240 2 4 0 3 0 0 0

-- nor 1 in it
unfoldable pub choice_low : List ℕ
choice_low =
    line 17 0 1 0 0 0 0 0
    ++ line 17 0 1 0 0 0 0 0
    ++ line 17 0 2 0 0 0 0 0
    ++ line 27 0 0 0 1 0 2 0
    ++ line 240 2 4 0 3 0 0 0

-- 0 in all three is
unfoldable pub choice_none : List ℕ
choice_none =
    line 17 0 0 0 0 0 0 0
    ++ line 17 0 1 0 0 0 0 0
    ++ line 17 0 2 0 0 0 0 0
    ++ line 27 0 0 0 1 0 2 0
    ++ line 240 2 4 0 3 0 0 0

-- there are two versions
unfoldable pub version_three : List ℕ
version_three =
    line 17 0 0 0 1 0 0 0
    ++ line 240 3 1 0 0 0 0 0

-- and no version 0
unfoldable pub version_zero : List ℕ
version_zero =
    line 17 0 0 0 1 0 0 0
    ++ line 240 0 1 0 0 0 0 0

-- "A laid-down book has the version it came from."
unfoldable pub identity_in_two : List ℕ
identity_in_two =
    line 1 0 0 0 0 0 0 0
    ++ line 16 0 0 0 0 0 0 0
    ++ line 21 0 1 0 0 0 0 0
    ++ line 240 2 3 0 2 0 0 0

-- the hidden field, "restamped as version 2 with each number extended by its sign" (`restamped_books` in proofs/AllSamples)
unfoldable pub restamped_hidden_field : List ℕ
restamped_hidden_field =
    line 1 0 0 0 0 0 0 0
    ++ line 5 2 0 0 0 0 0 0
    ++ line 17 0 2 0 0 0 0 0
    ++ line 24 1 2 0 0 0 0 0
    ++ line 16 0 0 0 0 0 0 0
    ++ line 22 0 3 0 4 0 0 0
    ++ line 5 1 0 0 0 0 0 0
    ++ line 19 0 5 0 6 0 0 0
    ++ line 25 1 7 0 0 0 0 0
    ++ line 21 0 8 0 1 0 0 0
    ++ line 17 0 1 0 0 0 0 0
    ++ line 24 1 10 0 0 0 0 0
    ++ line 17 0 9 0 0 0 0 0
    ++ line 24 2 12 0 0 0 0 0
    ++ line 22 0 11 0 13 0 0 0
    ++ line 20 0 9 0 14 0 0 0
    ++ line 240 2 16 0 15 0 0 0

-- -5 in version 1,
unfoldable pub minus_five : List ℕ
minus_five =
    line 17 0 0 0 251 255 255 255
    ++ line 240 1 1 0 0 0 0 0

-- and restamped
unfoldable pub restamped_minus_five : List ℕ
restamped_minus_five =
    line 17 0 251 255 255 255 255 255
    ++ line 240 2 1 0 0 0 0 0

-- Numbers of 48 bits, document 02, (iv): the check, and the run with a limit equal to its steps or above.
unfoldable pub wide_numbers : List Sample
wide_numbers =
    sample "2^40 in version 2" wide_number check (accepted 1) (line 1 0 0 0 0 0 0 0 ++ line 240 2 1 0 0 0 0 0)
    ∷ sample "2^40 in version 2" wide_number (run 10) (stopped value 0 1) (line 17 0 0 0 0 0 0 1 ++ line 240 2 1 0 0 0 0 0)
    ∷ sample "-1 in version 2" wide_minus_one (run 10) (stopped value 0 1) (line 17 0 255 255 255 255 255 255 ++ line 240 2 1 0 0 0 0 0)
    ∷ sample "(2^47 - 1) + 1 in version 2" past_wide_upper_end (run 1) (stopped value 1 3) (line 17 0 255 255 255 255 255 127 ++ line 240 2 1 0 0 0 0 0)
    ∷ sample "-2^47 + -1 in version 2" past_wide_lower_end (run 1) (stopped value 1 3) (line 17 0 0 0 0 0 0 128 ++ line 240 2 1 0 0 0 0 0)
    ∷ sample "2147483647 + 1 in version 2" above32 (run 1) (stopped value 1 3) (line 17 0 0 0 0 128 0 0 ++ line 240 2 1 0 0 0 0 0)
    ∷ sample "2147483647 + 1 in version 1" past_upper_end (run 1) (stopped value 1 3) (line 17 0 0 0 255 255 255 127 ++ line 240 1 1 0 0 0 0 0)
    ∷ sample "-2147483648 + -1 in version 2" below32 (run 1) (stopped value 1 3) (line 17 0 255 255 255 127 255 255 ++ line 240 2 1 0 0 0 0 0)
    ∷ sample "-2147483648 + -1 in version 1" past_lower_end (run 1) (stopped value 1 3) (line 17 0 0 0 0 0 0 128 ++ line 240 1 1 0 0 0 0 0)
    ∷ sample "a version 1 number with field a" lowest_in_one check (refused 6 0) []
    ∷ sample "the same bytes in version 2" lowest_in_two check (accepted 1) (line 1 0 0 0 0 0 0 0 ++ line 240 2 1 0 0 0 0 0)
    ∷ sample "a version 2 number with a label" labelled_number check (refused 6 0) []
    ∷ sample "1 merged with 2 in version 2" unequal_in_two check (refused 14 2) []
    ∷ sample "1 merged with 2^32 + 1" unequal_above32 check (refused 14 2) []
    ∷ sample "2^40 merged with 2^40" equal_above32 check (accepted 3) (line 1 0 0 0 0 0 0 0 ++ line 1 0 0 0 0 0 0 0 ++ line 4 0 0 0 1 0 0 0 ++ line 240 2 3 0 2 0 0 0)
    ∷ sample "2^40 merged with 2^40" equal_above32 (run 1) (stopped value 0 3) (line 17 0 0 0 0 0 0 1 ++ line 17 0 0 0 0 0 0 1 ++ line 22 0 0 0 1 0 0 0 ++ line 240 2 3 0 2 0 0 0)
    ∷ sample "functions with the bodies 2^32 and 0" other_above32 check (refused 14 5) []
    ∷ sample "if 2^32 then 1 else 2" choice_above32 (run 2) (stopped value 2 4) (line 17 0 2 0 0 0 0 0 ++ line 240 2 1 0 0 0 0 0)
    ∷ sample "if 65536 then 1 else 2 in version 2" choice_above16 (run 2) (stopped value 2 4) (line 17 0 2 0 0 0 0 0 ++ line 240 2 1 0 0 0 0 0)
    ∷ sample "if 1 then 1 else 2 in version 2" choice_low (run 2) (stopped value 2 4) (line 17 0 2 0 0 0 0 0 ++ line 240 2 1 0 0 0 0 0)
    ∷ sample "if 0 then 1 else 2 in version 2" choice_none (run 2) (stopped value 2 4) (line 17 0 1 0 0 0 0 0 ++ line 240 2 1 0 0 0 0 0)
    ∷ sample "version 3" version_three check (refused 3 0) []
    ∷ sample "version 0" version_zero check (refused 3 0) []
    ∷ sample "the identity in version 2" identity_in_two check (accepted 3) (line 1 0 0 0 0 0 0 0 ++ line 1 0 0 0 0 0 0 0 ++ line 3 0 0 0 1 0 0 0 ++ line 240 2 3 0 2 0 0 0)
    ∷ sample "the hidden field, restamped" restamped_hidden_field check (accepted 1) (line 1 0 0 0 0 0 0 0 ++ line 240 2 1 0 0 0 0 0)
    ∷ sample "the hidden field, restamped" restamped_hidden_field (run 4) (stopped value 4 18) (line 17 0 2 0 0 0 0 0 ++ line 240 2 1 0 0 0 0 0)
    ∷ sample "-5 in version 1" minus_five (run 10) (stopped value 0 1) (line 17 0 0 0 251 255 255 255 ++ line 240 1 1 0 0 0 0 0)
    ∷ sample "-5, restamped" restamped_minus_five (run 10) (stopped value 0 1) (line 17 0 251 255 255 255 255 255 ++ line 240 2 1 0 0 0 0 0)
    ∷ []

-- 1,,{1=2}
unfoldable pub number_first : List ℕ
number_first =
    line 17 0 0 0 1 0 0 0
    ++ line 17 0 0 0 2 0 0 0
    ++ line 24 1 1 0 0 0 0 0
    ++ line 22 0 0 0 2 0 0 0
    ++ line 240 1 4 0 3 0 0 0

-- {1=2},,1: the halves swapped
unfoldable pub record_first : List ℕ
record_first =
    line 17 0 0 0 2 0 0 0
    ++ line 24 1 0 0 0 0 0 0
    ++ line 17 0 0 0 1 0 0 0
    ++ line 22 0 1 0 2 0 0 0
    ++ line 240 1 4 0 3 0 0 0

-- (1,,{1=2}) : Int & {1:Int}
unfoldable pub number_first_read : List ℕ
number_first_read =
    line 17 0 0 0 1 0 0 0
    ++ line 17 0 0 0 2 0 0 0
    ++ line 24 1 1 0 0 0 0 0
    ++ line 22 0 0 0 2 0 0 0
    ++ line 1 0 0 0 0 0 0 0
    ++ line 1 0 0 0 0 0 0 0
    ++ line 5 1 5 0 0 0 0 0
    ++ line 4 0 4 0 6 0 0 0
    ++ line 19 0 3 0 7 0 0 0
    ++ line 240 1 9 0 8 0 0 0

-- ({1=2},,1) : Int & {1:Int}
unfoldable pub record_first_read : List ℕ
record_first_read =
    line 17 0 0 0 2 0 0 0
    ++ line 24 1 0 0 0 0 0 0
    ++ line 17 0 0 0 1 0 0 0
    ++ line 22 0 1 0 2 0 0 0
    ++ line 1 0 0 0 0 0 0 0
    ++ line 1 0 0 0 0 0 0 0
    ++ line 5 1 5 0 0 0 0 0
    ++ line 4 0 4 0 6 0 0 0
    ++ line 19 0 3 0 7 0 0 0
    ++ line 240 1 9 0 8 0 0 0

-- (1,,{1=2}) : {1:Int} & Int
unfoldable pub number_first_turned : List ℕ
number_first_turned =
    line 17 0 0 0 1 0 0 0
    ++ line 17 0 0 0 2 0 0 0
    ++ line 24 1 1 0 0 0 0 0
    ++ line 22 0 0 0 2 0 0 0
    ++ line 1 0 0 0 0 0 0 0
    ++ line 5 1 4 0 0 0 0 0
    ++ line 1 0 0 0 0 0 0 0
    ++ line 4 0 5 0 6 0 0 0
    ++ line 19 0 3 0 7 0 0 0
    ++ line 240 1 9 0 8 0 0 0

-- ({1=2},,1) : {1:Int} & Int
unfoldable pub record_first_turned : List ℕ
record_first_turned =
    line 17 0 0 0 2 0 0 0
    ++ line 24 1 0 0 0 0 0 0
    ++ line 17 0 0 0 1 0 0 0
    ++ line 22 0 1 0 2 0 0 0
    ++ line 1 0 0 0 0 0 0 0
    ++ line 5 1 4 0 0 0 0 0
    ++ line 1 0 0 0 0 0 0 0
    ++ line 4 0 5 0 6 0 0 0
    ++ line 19 0 3 0 7 0 0 0
    ++ line 240 1 9 0 8 0 0 0

-- (1,,{1=2}),,{2=3}
unfoldable pub grouped_left : List ℕ
grouped_left =
    line 17 0 0 0 1 0 0 0
    ++ line 17 0 0 0 2 0 0 0
    ++ line 24 1 1 0 0 0 0 0
    ++ line 22 0 0 0 2 0 0 0
    ++ line 17 0 0 0 3 0 0 0
    ++ line 24 2 4 0 0 0 0 0
    ++ line 22 0 3 0 5 0 0 0
    ++ line 240 1 7 0 6 0 0 0

-- 1,,({1=2},,{2=3}): regrouped
unfoldable pub grouped_right : List ℕ
grouped_right =
    line 17 0 0 0 1 0 0 0
    ++ line 17 0 0 0 2 0 0 0
    ++ line 24 1 1 0 0 0 0 0
    ++ line 17 0 0 0 3 0 0 0
    ++ line 24 2 3 0 0 0 0 0
    ++ line 22 0 2 0 4 0 0 0
    ++ line 22 0 0 0 5 0 0 0
    ++ line 240 1 7 0 6 0 0 0

-- ((1,,{1=2}),,{2=3}) : {2:Int} & Int
unfoldable pub grouped_left_read : List ℕ
grouped_left_read =
    line 17 0 0 0 1 0 0 0
    ++ line 17 0 0 0 2 0 0 0
    ++ line 24 1 1 0 0 0 0 0
    ++ line 22 0 0 0 2 0 0 0
    ++ line 17 0 0 0 3 0 0 0
    ++ line 24 2 4 0 0 0 0 0
    ++ line 22 0 3 0 5 0 0 0
    ++ line 1 0 0 0 0 0 0 0
    ++ line 5 2 7 0 0 0 0 0
    ++ line 1 0 0 0 0 0 0 0
    ++ line 4 0 8 0 9 0 0 0
    ++ line 19 0 6 0 10 0 0 0
    ++ line 240 1 12 0 11 0 0 0

-- (1,,({1=2},,{2=3})) : {2:Int} & Int
unfoldable pub grouped_right_read : List ℕ
grouped_right_read =
    line 17 0 0 0 1 0 0 0
    ++ line 17 0 0 0 2 0 0 0
    ++ line 24 1 1 0 0 0 0 0
    ++ line 17 0 0 0 3 0 0 0
    ++ line 24 2 3 0 0 0 0 0
    ++ line 22 0 2 0 4 0 0 0
    ++ line 22 0 0 0 5 0 0 0
    ++ line 1 0 0 0 0 0 0 0
    ++ line 5 2 7 0 0 0 0 0
    ++ line 1 0 0 0 0 0 0 0
    ++ line 4 0 8 0 9 0 0 0
    ++ line 19 0 6 0 10 0 0 0
    ++ line 240 1 12 0 11 0 0 0

-- (1,,{1=2}),,1: consistent, not disjoint
unfoldable pub part_twice : List ℕ
part_twice =
    line 17 0 0 0 1 0 0 0
    ++ line 17 0 0 0 2 0 0 0
    ++ line 24 1 1 0 0 0 0 0
    ++ line 22 0 0 0 2 0 0 0
    ++ line 17 0 0 0 1 0 0 0
    ++ line 22 0 3 0 4 0 0 0
    ++ line 240 1 6 0 5 0 0 0

-- 1,,(1,,{1=2})
unfoldable pub part_twice_swapped : List ℕ
part_twice_swapped =
    line 17 0 0 0 1 0 0 0
    ++ line 17 0 0 0 1 0 0 0
    ++ line 17 0 0 0 2 0 0 0
    ++ line 24 1 2 0 0 0 0 0
    ++ line 22 0 1 0 3 0 0 0
    ++ line 22 0 0 0 4 0 0 0
    ++ line 240 1 6 0 5 0 0 0

-- (1,,{1=2}),,2: the first part and the last are not consistent
unfoldable pub conflicting_ends : List ℕ
conflicting_ends =
    line 17 0 0 0 1 0 0 0
    ++ line 17 0 0 0 2 0 0 0
    ++ line 24 1 1 0 0 0 0 0
    ++ line 22 0 0 0 2 0 0 0
    ++ line 17 0 0 0 2 0 0 0
    ++ line 22 0 3 0 4 0 0 0
    ++ line 240 1 6 0 5 0 0 0

-- 1,,({1=2},,2)
unfoldable pub conflicting_ends_regrouped : List ℕ
conflicting_ends_regrouped =
    line 17 0 0 0 1 0 0 0
    ++ line 17 0 0 0 2 0 0 0
    ++ line 24 1 1 0 0 0 0 0
    ++ line 17 0 0 0 2 0 0 0
    ++ line 22 0 2 0 3 0 0 0
    ++ line 22 0 0 0 4 0 0 0
    ++ line 240 1 6 0 5 0 0 0

-- (1,,1),,({1=2} : {1:Int}): no value yet
unfoldable pub not_yet_value : List ℕ
not_yet_value =
    line 17 0 0 0 1 0 0 0
    ++ line 17 0 0 0 1 0 0 0
    ++ line 22 0 0 0 1 0 0 0
    ++ line 17 0 0 0 2 0 0 0
    ++ line 24 1 3 0 0 0 0 0
    ++ line 1 0 0 0 0 0 0 0
    ++ line 5 1 5 0 0 0 0 0
    ++ line 19 0 4 0 6 0 0 0
    ++ line 22 0 2 0 7 0 0 0
    ++ line 240 1 9 0 8 0 0 0

-- 1,,(1,,({1=2} : {1:Int})): its halves are neither disjoint nor both values
unfoldable pub not_yet_value_regrouped : List ℕ
not_yet_value_regrouped =
    line 17 0 0 0 1 0 0 0
    ++ line 17 0 0 0 1 0 0 0
    ++ line 17 0 0 0 2 0 0 0
    ++ line 24 1 2 0 0 0 0 0
    ++ line 1 0 0 0 0 0 0 0
    ++ line 5 1 4 0 0 0 0 0
    ++ line 19 0 3 0 5 0 0 0
    ++ line 22 0 1 0 6 0 0 0
    ++ line 22 0 0 0 7 0 0 0
    ++ line 240 1 9 0 8 0 0 0

-- a function that gives (1,,1),,(a function that gives its argument): not closed
unfoldable pub open_value : List ℕ
open_value =
    line 17 0 0 0 1 0 0 0
    ++ line 17 0 0 0 1 0 0 0
    ++ line 22 0 0 0 1 0 0 0
    ++ line 16 0 1 0 0 0 0 0
    ++ line 1 0 0 0 0 0 0 0
    ++ line 1 0 0 0 0 0 0 0
    ++ line 21 0 3 0 4 0 5 0
    ++ line 22 0 2 0 6 0 0 0
    ++ line 1 0 0 0 0 0 0 0
    ++ line 1 0 0 0 0 0 0 0
    ++ line 21 0 7 0 8 0 9 0
    ++ line 240 1 11 0 10 0 0 0

-- 1,,(1,,(a function that gives its argument)) in the same place
unfoldable pub open_value_regrouped : List ℕ
open_value_regrouped =
    line 17 0 0 0 1 0 0 0
    ++ line 17 0 0 0 1 0 0 0
    ++ line 16 0 1 0 0 0 0 0
    ++ line 1 0 0 0 0 0 0 0
    ++ line 1 0 0 0 0 0 0 0
    ++ line 21 0 2 0 3 0 4 0
    ++ line 22 0 1 0 5 0 0 0
    ++ line 22 0 0 0 6 0 0 0
    ++ line 1 0 0 0 0 0 0 0
    ++ line 1 0 0 0 0 0 0 0
    ++ line 21 0 7 0 8 0 9 0
    ++ line 240 1 11 0 10 0 0 0

-- functions with the bodies 1,,{1=2} and {1=2},,1
unfoldable pub reordered_bodies : List ℕ
reordered_bodies =
    line 17 0 0 0 1 0 0 0
    ++ line 17 0 0 0 2 0 0 0
    ++ line 24 1 1 0 0 0 0 0
    ++ line 22 0 0 0 2 0 0 0
    ++ line 1 0 0 0 0 0 0 0
    ++ line 1 0 0 0 0 0 0 0
    ++ line 1 0 0 0 0 0 0 0
    ++ line 5 1 6 0 0 0 0 0
    ++ line 4 0 5 0 7 0 0 0
    ++ line 21 0 3 0 4 0 8 0
    ++ line 17 0 0 0 2 0 0 0
    ++ line 24 1 10 0 0 0 0 0
    ++ line 17 0 0 0 1 0 0 0
    ++ line 22 0 11 0 12 0 0 0
    ++ line 1 0 0 0 0 0 0 0
    ++ line 1 0 0 0 0 0 0 0
    ++ line 1 0 0 0 0 0 0 0
    ++ line 5 1 16 0 0 0 0 0
    ++ line 4 0 15 0 17 0 0 0
    ++ line 21 0 13 0 14 0 18 0
    ++ line 22 0 9 0 19 0 0 0
    ++ line 240 1 21 0 20 0 0 0

-- Document 02, (v): values in two orders, what they are read as, and what is not promised: with no step taken, of a merge that is no value yet, of a value that is
-- not closed, and inside a body.
unfoldable pub orders : List Sample
orders =
    sample "1,,{1=2}" number_first check (accepted 4) (line 1 0 0 0 0 0 0 0 ++ line 1 0 0 0 0 0 0 0 ++ line 5 1 1 0 0 0 0 0 ++ line 4 0 0 0 2 0 0 0 ++ line 240 1 4 0 3 0 0 0)
    ∷ sample "{1=2},,1" record_first check (accepted 4) (line 1 0 0 0 0 0 0 0 ++ line 5 1 0 0 0 0 0 0 ++ line 1 0 0 0 0 0 0 0 ++ line 4 0 1 0 2 0 0 0 ++ line 240 1 4 0 3 0 0 0)
    ∷ sample "1,,{1=2}" number_first (run 1) (stopped value 0 4) (line 17 0 0 0 1 0 0 0 ++ line 17 0 0 0 2 0 0 0 ++ line 24 1 1 0 0 0 0 0 ++ line 22 0 0 0 2 0 0 0 ++ line 240 1 4 0 3 0 0 0)
    ∷ sample "{1=2},,1" record_first (run 1) (stopped value 0 4) (line 17 0 0 0 2 0 0 0 ++ line 24 1 0 0 0 0 0 0 ++ line 17 0 0 0 1 0 0 0 ++ line 22 0 1 0 2 0 0 0 ++ line 240 1 4 0 3 0 0 0)
    ∷ sample "(1,,{1=2}) : Int & {1:Int}" number_first_read (run 0) (stopped spent 0 9) (line 17 0 0 0 1 0 0 0 ++ line 17 0 0 0 2 0 0 0 ++ line 24 1 1 0 0 0 0 0 ++ line 22 0 0 0 2 0 0 0 ++ line 1 0 0 0 0 0 0 0 ++ line 1 0 0 0 0 0 0 0 ++ line 5 1 5 0 0 0 0 0 ++ line 4 0 4 0 6 0 0 0 ++ line 19 0 3 0 7 0 0 0 ++ line 240 1 9 0 8 0 0 0)
    ∷ sample "({1=2},,1) : Int & {1:Int}" record_first_read (run 0) (stopped spent 0 9) (line 17 0 0 0 2 0 0 0 ++ line 24 1 0 0 0 0 0 0 ++ line 17 0 0 0 1 0 0 0 ++ line 22 0 1 0 2 0 0 0 ++ line 1 0 0 0 0 0 0 0 ++ line 1 0 0 0 0 0 0 0 ++ line 5 1 5 0 0 0 0 0 ++ line 4 0 4 0 6 0 0 0 ++ line 19 0 3 0 7 0 0 0 ++ line 240 1 9 0 8 0 0 0)
    ∷ sample "(1,,{1=2}) : Int & {1:Int}" number_first_read (run 1) (stopped value 1 9) (line 17 0 0 0 1 0 0 0 ++ line 17 0 0 0 2 0 0 0 ++ line 24 1 1 0 0 0 0 0 ++ line 22 0 0 0 2 0 0 0 ++ line 240 1 4 0 3 0 0 0)
    ∷ sample "({1=2},,1) : Int & {1:Int}" record_first_read (run 1) (stopped value 1 9) (line 17 0 0 0 1 0 0 0 ++ line 17 0 0 0 2 0 0 0 ++ line 24 1 1 0 0 0 0 0 ++ line 22 0 0 0 2 0 0 0 ++ line 240 1 4 0 3 0 0 0)
    ∷ sample "(1,,{1=2}) : {1:Int} & Int" number_first_turned (run 1) (stopped value 1 9) (line 17 0 0 0 2 0 0 0 ++ line 24 1 0 0 0 0 0 0 ++ line 17 0 0 0 1 0 0 0 ++ line 22 0 1 0 2 0 0 0 ++ line 240 1 4 0 3 0 0 0)
    ∷ sample "({1=2},,1) : {1:Int} & Int" record_first_turned (run 1) (stopped value 1 9) (line 17 0 0 0 2 0 0 0 ++ line 24 1 0 0 0 0 0 0 ++ line 17 0 0 0 1 0 0 0 ++ line 22 0 1 0 2 0 0 0 ++ line 240 1 4 0 3 0 0 0)
    ∷ sample "(1,,{1=2}),,{2=3}" grouped_left check (accepted 7) (line 1 0 0 0 0 0 0 0 ++ line 1 0 0 0 0 0 0 0 ++ line 5 1 1 0 0 0 0 0 ++ line 4 0 0 0 2 0 0 0 ++ line 1 0 0 0 0 0 0 0 ++ line 5 2 4 0 0 0 0 0 ++ line 4 0 3 0 5 0 0 0 ++ line 240 1 7 0 6 0 0 0)
    ∷ sample "1,,({1=2},,{2=3})" grouped_right check (accepted 7) (line 1 0 0 0 0 0 0 0 ++ line 1 0 0 0 0 0 0 0 ++ line 5 1 1 0 0 0 0 0 ++ line 1 0 0 0 0 0 0 0 ++ line 5 2 3 0 0 0 0 0 ++ line 4 0 2 0 4 0 0 0 ++ line 4 0 0 0 5 0 0 0 ++ line 240 1 7 0 6 0 0 0)
    ∷ sample "((1,,{1=2}),,{2=3}) : {2:Int} & Int" grouped_left_read (run 1) (stopped value 1 12) (line 17 0 0 0 3 0 0 0 ++ line 24 2 0 0 0 0 0 0 ++ line 17 0 0 0 1 0 0 0 ++ line 22 0 1 0 2 0 0 0 ++ line 240 1 4 0 3 0 0 0)
    ∷ sample "(1,,({1=2},,{2=3})) : {2:Int} & Int" grouped_right_read (run 1) (stopped value 1 12) (line 17 0 0 0 3 0 0 0 ++ line 24 2 0 0 0 0 0 0 ++ line 17 0 0 0 1 0 0 0 ++ line 22 0 1 0 2 0 0 0 ++ line 240 1 4 0 3 0 0 0)
    ∷ sample "(1,,{1=2}),,1" part_twice check (accepted 6) (line 1 0 0 0 0 0 0 0 ++ line 1 0 0 0 0 0 0 0 ++ line 5 1 1 0 0 0 0 0 ++ line 4 0 0 0 2 0 0 0 ++ line 1 0 0 0 0 0 0 0 ++ line 4 0 3 0 4 0 0 0 ++ line 240 1 6 0 5 0 0 0)
    ∷ sample "1,,(1,,{1=2})" part_twice_swapped check (accepted 6) (line 1 0 0 0 0 0 0 0 ++ line 1 0 0 0 0 0 0 0 ++ line 1 0 0 0 0 0 0 0 ++ line 5 1 2 0 0 0 0 0 ++ line 4 0 1 0 3 0 0 0 ++ line 4 0 0 0 4 0 0 0 ++ line 240 1 6 0 5 0 0 0)
    ∷ sample "(1,,{1=2}),,2" conflicting_ends check (refused 14 5) []
    ∷ sample "1,,({1=2},,2)" conflicting_ends_regrouped check (refused 14 5) []
    ∷ sample "(1,,1),,({1=2} : {1:Int})" not_yet_value check (accepted 6) (line 1 0 0 0 0 0 0 0 ++ line 1 0 0 0 0 0 0 0 ++ line 4 0 0 0 1 0 0 0 ++ line 1 0 0 0 0 0 0 0 ++ line 5 1 3 0 0 0 0 0 ++ line 4 0 2 0 4 0 0 0 ++ line 240 1 6 0 5 0 0 0)
    ∷ sample "1,,(1,,({1=2} : {1:Int}))" not_yet_value_regrouped check (refused 14 8) []
    ∷ sample "a function whose body is (1,,1) beside a function that gives the argument" open_value check (accepted 3) (line 1 0 0 0 0 0 0 0 ++ line 1 0 0 0 0 0 0 0 ++ line 3 0 0 0 1 0 0 0 ++ line 240 1 3 0 2 0 0 0)
    ∷ sample "the same body, regrouped" open_value_regrouped check (refused 14 7) []
    ∷ sample "functions with the bodies 1,,{1=2} and {1=2},,1" reordered_bodies check (refused 14 20) []
    ∷ []

-- fix.(if 0 then #0 else 1) : Int: sizes 6, 11, 10, 15, 14, ..
unfoldable pub choosing_loop : List ℕ
choosing_loop =
    line 17 0 0 0 0 0 0 0
    ++ line 16 0 0 0 0 0 0 0
    ++ line 17 0 0 0 1 0 0 0
    ++ line 27 0 0 0 1 0 2 0
    ++ line 1 0 0 0 0 0 0 0
    ++ line 23 0 3 0 4 0 0 0
    ++ line 240 1 6 0 5 0 0 0

-- a function on Int & (Int & Int) that puts its argument in three records and shows one, on 1: its 13 cells are a term of 18
unfoldable pub three_copies : List ℕ
three_copies =
    line 1 0 0 0 0 0 0 0
    ++ line 16 0 0 0 0 0 0 0
    ++ line 24 1 1 0 0 0 0 0
    ++ line 24 2 1 0 0 0 0 0
    ++ line 24 3 1 0 0 0 0 0
    ++ line 22 0 3 0 4 0 0 0
    ++ line 22 0 2 0 5 0 0 0
    ++ line 4 0 0 0 0 0 0 0
    ++ line 4 0 0 0 7 0 0 0
    ++ line 5 1 0 0 0 0 0 0
    ++ line 21 0 6 0 8 0 9 0
    ++ line 17 0 0 0 1 0 0 0
    ++ line 20 0 10 0 11 0 0 0
    ++ line 240 1 13 0 12 0 0 0

-- 1 : Int in a book of eight cells, five of which the root does not reach
unfoldable pub unreached_cells : List ℕ
unreached_cells =
    line 1 0 0 0 0 0 0 0
    ++ line 17 0 0 0 1 0 0 0
    ++ line 22 0 1 0 1 0 0 0
    ++ line 22 0 2 0 2 0 0 0
    ++ line 22 0 3 0 3 0 0 0
    ++ line 22 0 4 0 4 0 0 0
    ++ line 22 0 5 0 5 0 0 0
    ++ line 19 0 1 0 0 0 0 0
    ++ line 240 1 8 0 7 0 0 0

-- Document 02, (viii): the greatest term is the first, one on the way, or the last; of a book that shares cells, or has cells that its root does not reach, it is
-- the term that counts.
unfoldable pub marks : List Sample
marks =
    sample "the fixpoint if 0 then itself else 1" choosing_loop (run 0) (stopped spent 0 6) (line 17 0 0 0 0 0 0 0 ++ line 16 0 0 0 0 0 0 0 ++ line 17 0 0 0 1 0 0 0 ++ line 27 0 0 0 1 0 2 0 ++ line 1 0 0 0 0 0 0 0 ++ line 23 0 3 0 4 0 0 0 ++ line 240 1 6 0 5 0 0 0)
    ∷ sample "the fixpoint if 0 then itself else 1" choosing_loop (run 1) (stopped spent 1 11) (line 17 0 0 0 0 0 0 0 ++ line 17 0 0 0 0 0 0 0 ++ line 16 0 0 0 0 0 0 0 ++ line 17 0 0 0 1 0 0 0 ++ line 27 0 1 0 2 0 3 0 ++ line 1 0 0 0 0 0 0 0 ++ line 23 0 4 0 5 0 0 0 ++ line 17 0 0 0 1 0 0 0 ++ line 27 0 0 0 6 0 7 0 ++ line 1 0 0 0 0 0 0 0 ++ line 19 0 8 0 9 0 0 0 ++ line 240 1 11 0 10 0 0 0)
    ∷ sample "the fixpoint if 0 then itself else 1" choosing_loop (run 2) (stopped spent 2 11) (line 17 0 0 0 0 0 0 0 ++ line 16 0 0 0 0 0 0 0 ++ line 17 0 0 0 1 0 0 0 ++ line 27 0 0 0 1 0 2 0 ++ line 1 0 0 0 0 0 0 0 ++ line 23 0 3 0 4 0 0 0 ++ line 1 0 0 0 0 0 0 0 ++ line 19 0 5 0 6 0 0 0 ++ line 1 0 0 0 0 0 0 0 ++ line 19 0 7 0 8 0 0 0 ++ line 240 1 10 0 9 0 0 0)
    ∷ sample "the fixpoint if 0 then itself else 1" choosing_loop (run 3) (stopped spent 3 15) (line 17 0 0 0 0 0 0 0 ++ line 17 0 0 0 0 0 0 0 ++ line 16 0 0 0 0 0 0 0 ++ line 17 0 0 0 1 0 0 0 ++ line 27 0 1 0 2 0 3 0 ++ line 1 0 0 0 0 0 0 0 ++ line 23 0 4 0 5 0 0 0 ++ line 17 0 0 0 1 0 0 0 ++ line 27 0 0 0 6 0 7 0 ++ line 1 0 0 0 0 0 0 0 ++ line 19 0 8 0 9 0 0 0 ++ line 1 0 0 0 0 0 0 0 ++ line 19 0 10 0 11 0 0 0 ++ line 1 0 0 0 0 0 0 0 ++ line 19 0 12 0 13 0 0 0 ++ line 240 1 15 0 14 0 0 0)
    ∷ sample "the fixpoint if 0 then itself else 1" choosing_loop (run 4) (stopped spent 4 15) (line 17 0 0 0 0 0 0 0 ++ line 16 0 0 0 0 0 0 0 ++ line 17 0 0 0 1 0 0 0 ++ line 27 0 0 0 1 0 2 0 ++ line 1 0 0 0 0 0 0 0 ++ line 23 0 3 0 4 0 0 0 ++ line 1 0 0 0 0 0 0 0 ++ line 19 0 5 0 6 0 0 0 ++ line 1 0 0 0 0 0 0 0 ++ line 19 0 7 0 8 0 0 0 ++ line 1 0 0 0 0 0 0 0 ++ line 19 0 9 0 10 0 0 0 ++ line 1 0 0 0 0 0 0 0 ++ line 19 0 11 0 12 0 0 0 ++ line 240 1 14 0 13 0 0 0)
    ∷ sample "the argument in three records, one shown" three_copies (run 0) (stopped spent 0 18) (line 16 0 0 0 0 0 0 0 ++ line 24 1 0 0 0 0 0 0 ++ line 16 0 0 0 0 0 0 0 ++ line 24 2 2 0 0 0 0 0 ++ line 16 0 0 0 0 0 0 0 ++ line 24 3 4 0 0 0 0 0 ++ line 22 0 3 0 5 0 0 0 ++ line 22 0 1 0 6 0 0 0 ++ line 1 0 0 0 0 0 0 0 ++ line 1 0 0 0 0 0 0 0 ++ line 1 0 0 0 0 0 0 0 ++ line 4 0 9 0 10 0 0 0 ++ line 4 0 8 0 11 0 0 0 ++ line 1 0 0 0 0 0 0 0 ++ line 5 1 13 0 0 0 0 0 ++ line 21 0 7 0 12 0 14 0 ++ line 17 0 0 0 1 0 0 0 ++ line 20 0 15 0 16 0 0 0 ++ line 240 1 18 0 17 0 0 0)
    ∷ sample "the argument in three records, one shown" three_copies (run 1) (stopped spent 1 23) (line 17 0 0 0 1 0 0 0 ++ line 17 0 0 0 1 0 0 0 ++ line 17 0 0 0 1 0 0 0 ++ line 22 0 1 0 2 0 0 0 ++ line 22 0 0 0 3 0 0 0 ++ line 24 1 4 0 0 0 0 0 ++ line 17 0 0 0 1 0 0 0 ++ line 17 0 0 0 1 0 0 0 ++ line 17 0 0 0 1 0 0 0 ++ line 22 0 7 0 8 0 0 0 ++ line 22 0 6 0 9 0 0 0 ++ line 24 2 10 0 0 0 0 0 ++ line 17 0 0 0 1 0 0 0 ++ line 17 0 0 0 1 0 0 0 ++ line 17 0 0 0 1 0 0 0 ++ line 22 0 13 0 14 0 0 0 ++ line 22 0 12 0 15 0 0 0 ++ line 24 3 16 0 0 0 0 0 ++ line 22 0 11 0 17 0 0 0 ++ line 22 0 5 0 18 0 0 0 ++ line 1 0 0 0 0 0 0 0 ++ line 5 1 20 0 0 0 0 0 ++ line 19 0 19 0 21 0 0 0 ++ line 240 1 23 0 22 0 0 0)
    ∷ sample "the argument in three records, one shown" three_copies (run 2) (stopped value 2 23) (line 17 0 0 0 1 0 0 0 ++ line 24 1 0 0 0 0 0 0 ++ line 240 1 2 0 1 0 0 0)
    ∷ sample "the argument in three records, one shown" three_copies (run 3) (stopped value 2 23) (line 17 0 0 0 1 0 0 0 ++ line 24 1 0 0 0 0 0 0 ++ line 240 1 2 0 1 0 0 0)
    ∷ sample "1 under Int, five cells beside it" unreached_cells (run 0) (stopped spent 0 3) (line 17 0 0 0 1 0 0 0 ++ line 1 0 0 0 0 0 0 0 ++ line 19 0 0 0 1 0 0 0 ++ line 240 1 3 0 2 0 0 0)
    ∷ sample "1 under Int, five cells beside it" unreached_cells (run 1) (stopped value 1 3) (line 17 0 0 0 1 0 0 0 ++ line 240 1 1 0 0 0 0 0)
    ∷ []

-- A small book for each row from 2 to 15, with the number and the cell that it is refused with. docs/FORMAT.md has the same books.
unfoldable pub refusals : List Sample
refusals =
    sample "a number and a trailer cut short" (line 17 0 0 0 1 0 0 0 ++ 240 ∷ 1 ∷ 1 ∷ 0 ∷ 0 ∷ 0 ∷ 0 ∷ []) check (refused 2 0) []
    ∷ sample "a trailer that does not begin with F0" (line 17 0 0 0 1 0 0 0 ++ line 0 1 1 0 0 0 0 0) check (refused 3 0) []
    ∷ sample "one cell counted as two" (line 17 0 0 0 1 0 0 0 ++ line 240 1 2 0 0 0 0 0) check (refused 4 0) []
    ∷ sample "a cell of kind 0" (line 17 0 0 0 1 0 0 0 ++ line 0 0 0 0 0 0 0 0 ++ line 240 1 2 0 1 0 0 0) check (refused 5 1) []
    ∷ sample "a top value with a label" (line 17 0 0 0 1 0 0 0 ++ line 18 7 0 0 0 0 0 0 ++ line 240 1 2 0 1 0 0 0) check (refused 6 1) []
    ∷ sample "a merge with itself" (line 17 0 0 0 1 0 0 0 ++ line 22 0 0 0 1 0 0 0 ++ line 240 1 2 0 1 0 0 0) check (refused 7 1) []
    ∷ sample "a type annotated" (line 1 0 0 0 0 0 0 0 ++ line 19 0 0 0 0 0 0 0 ++ line 240 1 2 0 1 0 0 0) check (refused 8 1) []
    ∷ sample "a root that is a type" (line 17 0 0 0 1 0 0 0 ++ line 1 0 0 0 0 0 0 0 ++ line 240 1 2 0 1 0 0 0) check (refused 9 1) []
    ∷ sample "the top value merged with itself 12 times over" (doubled ++ line 240 1 13 0 12 0 0 0) check (refused 10 12) []
    ∷ sample "a variable under too few binders" (line 1 0 0 0 0 0 0 0 ++ line 16 0 1 0 0 0 0 0 ++ line 21 0 1 0 0 0 0 0 ++ line 240 1 3 0 2 0 0 0) check (refused 11 1) []
    ∷ sample "3 applied to 4" applied_number check (refused 12 2) []
    ∷ sample "field 8 of a record with label 7" (line 17 0 0 0 5 0 0 0 ++ line 24 7 0 0 0 0 0 0 ++ line 25 8 1 0 0 0 0 0 ++ line 240 1 3 0 2 0 0 0) check (refused 13 2) []
    ∷ sample "1 merged with 2" unequal_numbers check (refused 14 2) []
    ∷ sample "the top value under Int" (line 1 0 0 0 0 0 0 0 ++ line 18 0 0 0 0 0 0 0 ++ line 19 0 1 0 0 0 0 0 ++ line 240 1 3 0 2 0 0 0) check (refused 15 1) []
    ∷ []
