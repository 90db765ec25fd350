-- Sheets with their whole answers, by document 02, (ix), and near misses. Books and the types left in the work buffer are literals. Assumes nothing.
use Rattle.std.specs.Prelude.{ℕ, ◌≡◌, List, [], ◌∷◌, ◌++◌}
use Prim.Native.String.{String}
use Rattle.answers.specs.Answer.{accepted, result}
use Rattle.answers.specs.Engine.{IsWork, padded}
use Rattle.answers.specs.Definition.{refusal_result}
use Rattle.answers.specs.Samples.{line}
use Rattle.sheets.specs.Sheet.{SheetResult, with_steps, sheeted}

-- What is expected: the size of the type, the count and the bytes of the type; or a refusal.
pub data Expected : Type 0 where
  accepts : (size steps : ℕ) (type : List ℕ) → Expected
  refuses : (number cell : ℕ) → Expected

-- A book, and what is expected.
pub record SheetSample : Type 0 where
  pub name : String
  pub book : List ℕ
  pub expects : Expected

-- A sample on one line.
abbrev sample : String → List ℕ → Expected → SheetSample
sample n b e = record { name = n; book = b; expects = e }

-- The whole answer, and every byte left.
abbrev pub expected : Expected → SheetResult
expected (accepts n k t) = with_steps k (result (accepted n) (padded t))
expected (refuses m i) = with_steps 0 (refusal_result m i)

-- So answered in any work buffer of 65,536 bytes.
abbrev pub Meets : SheetSample → Type 0
Meets s = (w : List ℕ) → IsWork w → sheeted s.book w ≡ expected s.expects

-- the number 1
unfoldable pub one : List ℕ
one =
    line 17 0 0 0 1 0 0 0
    ++ line 240 1 1 0 0 0 0 0

-- 1 : Int
unfoldable pub annotated_one : List ℕ
annotated_one =
    line 17 0 0 0 1 0 0 0
    ++ line 1 0 0 0 0 0 0 0
    ++ line 19 0 0 0 1 0 0 0
    ++ line 240 1 3 0 2 0 0 0

-- (1 : Int & Int) : Int
unfoldable pub annotated_twice : List ℕ
annotated_twice =
    line 17 0 0 0 1 0 0 0
    ++ line 1 0 0 0 0 0 0 0
    ++ line 4 0 1 0 1 0 0 0
    ++ line 19 0 0 0 2 0 0 0
    ++ line 19 0 3 0 1 0 0 0
    ++ line 240 1 5 0 4 0 0 0

-- the top value applied to 3
unfoldable pub applied_top : List ℕ
applied_top =
    line 18 0 0 0 0 0 0 0
    ++ line 17 0 0 0 3 0 0 0
    ++ line 20 0 0 0 1 0 0 0
    ++ line 240 1 3 0 2 0 0 0

-- (top : Int -> Top) applied to 3 : Int; a function type is no function
unfoldable pub function_type : List ℕ
function_type =
    line 18 0 0 0 0 0 0 0
    ++ line 1 0 0 0 0 0 0 0
    ++ line 2 0 0 0 0 0 0 0
    ++ line 3 0 1 0 2 0 0 0
    ++ line 19 0 0 0 3 0 0 0
    ++ line 17 0 0 0 3 0 0 0
    ++ line 19 0 5 0 1 0 0 0
    ++ line 20 0 4 0 6 0 0 0
    ++ line 240 1 8 0 7 0 0 0

-- 1 + (2 + 3)
unfoldable pub two_sums : List ℕ
two_sums =
    line 17 0 0 0 1 0 0 0
    ++ line 17 0 0 0 2 0 0 0
    ++ line 17 0 0 0 3 0 0 0
    ++ line 26 0 1 0 2 0 0 0
    ++ line 26 0 0 0 3 0 0 0
    ++ line 240 1 5 0 4 0 0 0

-- ({1 = 1 : Int} ,, {2 = 2}).1
unfoldable pub read_in_merge : List ℕ
read_in_merge =
    line 17 0 0 0 1 0 0 0
    ++ line 1 0 0 0 0 0 0 0
    ++ line 19 0 0 0 1 0 0 0
    ++ line 24 1 2 0 0 0 0 0
    ++ line 17 0 0 0 2 0 0 0
    ++ line 24 2 4 0 0 0 0 0
    ++ line 22 0 3 0 5 0 0 0
    ++ line 25 1 6 0 0 0 0 0
    ++ line 240 1 8 0 7 0 0 0

-- {1 = 1} ,, {2 = 2}: records and merges count nothing
unfoldable pub plain_records : List ℕ
plain_records =
    line 17 0 0 0 1 0 0 0
    ++ line 24 1 0 0 0 0 0 0
    ++ line 17 0 0 0 2 0 0 0
    ++ line 24 2 2 0 0 0 0 0
    ++ line 22 0 1 0 3 0 0 0
    ++ line 240 1 5 0 4 0 0 0

-- 1 : Int, then the sum of the cell before with itself, nine times: 512 annotations and 511 sums in twelve cells
unfoldable pub doubled_sums : List ℕ
doubled_sums =
    line 1 0 0 0 0 0 0 0
    ++ line 17 0 0 0 1 0 0 0
    ++ line 19 0 1 0 0 0 0 0
    ++ line 26 0 2 0 2 0 0 0
    ++ line 26 0 3 0 3 0 0 0
    ++ line 26 0 4 0 4 0 0 0
    ++ line 26 0 5 0 5 0 0 0
    ++ line 26 0 6 0 6 0 0 0
    ++ line 26 0 7 0 7 0 0 0
    ++ line 26 0 8 0 8 0 0 0
    ++ line 26 0 9 0 9 0 0 0
    ++ line 26 0 10 0 10 0 0 0
    ++ line 240 1 12 0 11 0 0 0

-- a variable in a cell that the root does not reach, and the number 4
unfoldable pub unreached_variable : List ℕ
unreached_variable =
    line 16 0 7 0 0 0 0 0
    ++ line 17 0 0 0 4 0 0 0
    ++ line 240 1 2 0 1 0 0 0

-- version 2: 4,294,967,296 + 1
unfoldable pub wide_sum : List ℕ
wide_sum =
    line 17 0 0 0 0 0 1 0
    ++ line 17 0 1 0 0 0 0 0
    ++ line 26 0 0 0 1 0 0 0
    ++ line 240 2 3 0 2 0 0 0

-- the identity at Int
unfoldable pub a_function : List ℕ
a_function =
    line 16 0 0 0 0 0 0 0
    ++ line 1 0 0 0 0 0 0 0
    ++ line 21 0 0 0 1 0 1 0
    ++ line 240 1 3 0 2 0 0 0

-- the fixpoint at Int whose body is its own variable
unfoldable pub a_fixpoint : List ℕ
a_fixpoint =
    line 16 0 0 0 0 0 0 0
    ++ line 1 0 0 0 0 0 0 0
    ++ line 23 0 0 0 1 0 0 0
    ++ line 240 1 3 0 2 0 0 0

-- a choice of numbers
unfoldable pub a_choice : List ℕ
a_choice =
    line 17 0 0 0 1 0 0 0
    ++ line 27 0 0 0 0 0 0 0
    ++ line 240 1 2 0 1 0 0 0

-- a variable without binder
unfoldable pub free_variable : List ℕ
free_variable =
    line 16 0 0 0 0 0 0 0
    ++ line 240 1 1 0 0 0 0 0

-- a record of a sum, whose second side is a choice
unfoldable pub hidden_choice : List ℕ
hidden_choice =
    line 17 0 0 0 1 0 0 0
    ++ line 27 0 0 0 0 0 0 0
    ++ line 26 0 0 0 1 0 0 0
    ++ line 24 5 2 0 0 0 0 0
    ++ line 240 1 4 0 3 0 0 0

-- 1 applied to a function, whose variable has no binder
unfoldable pub ill_typed_function : List ℕ
ill_typed_function =
    line 17 0 0 0 1 0 0 0
    ++ line 16 0 3 0 0 0 0 0
    ++ line 1 0 0 0 0 0 0 0
    ++ line 21 0 1 0 2 0 2 0
    ++ line 20 0 0 0 3 0 0 0
    ++ line 240 1 5 0 4 0 0 0

-- 1 applied to 1
unfoldable pub applied_number : List ℕ
applied_number =
    line 17 0 0 0 1 0 0 0
    ++ line 20 0 0 0 0 0 0 0
    ++ line 240 1 2 0 1 0 0 0

-- field 2 of a record of label 1
unfoldable pub missing_field : List ℕ
missing_field =
    line 17 0 0 0 1 0 0 0
    ++ line 24 1 0 0 0 0 0 0
    ++ line 25 2 1 0 0 0 0 0
    ++ line 240 1 3 0 2 0 0 0

-- 1 merged with 2
unfoldable pub unequal_numbers : List ℕ
unequal_numbers =
    line 17 0 0 0 1 0 0 0
    ++ line 17 0 0 0 2 0 0 0
    ++ line 22 0 0 0 1 0 0 0
    ++ line 240 1 3 0 2 0 0 0

-- 1 + top
unfoldable pub added_top : List ℕ
added_top =
    line 17 0 0 0 1 0 0 0
    ++ line 18 0 0 0 0 0 0 0
    ++ line 26 0 0 0 1 0 0 0
    ++ line 240 1 3 0 2 0 0 0

-- the type Int
unfoldable pub a_type : List ℕ
a_type =
    line 1 0 0 0 0 0 0 0
    ++ line 240 1 1 0 0 0 0 0

-- a variable, merged with itself twelve times over
unfoldable pub doubled_variable : List ℕ
doubled_variable =
    line 16 0 0 0 0 0 0 0
    ++ line 22 0 0 0 0 0 0 0
    ++ line 22 0 1 0 1 0 0 0
    ++ line 22 0 2 0 2 0 0 0
    ++ line 22 0 3 0 3 0 0 0
    ++ line 22 0 4 0 4 0 0 0
    ++ line 22 0 5 0 5 0 0 0
    ++ line 22 0 6 0 6 0 0 0
    ++ line 22 0 7 0 7 0 0 0
    ++ line 22 0 8 0 8 0 0 0
    ++ line 22 0 9 0 9 0 0 0
    ++ line 22 0 10 0 10 0 0 0
    ++ line 22 0 11 0 11 0 0 0
    ++ line 240 1 13 0 12 0 0 0

-- one cell and no trailer
unfoldable pub cut_short : List ℕ
cut_short =
    line 17 0 0 0 1 0 0 0

-- Int
unfoldable pub type_int : List ℕ
type_int =
    line 1 0 0 0 0 0 0 0
    ++ line 240 1 1 0 0 0 0 0

-- Top
unfoldable pub type_top : List ℕ
type_top =
    line 2 0 0 0 0 0 0 0
    ++ line 240 1 1 0 0 0 0 0

-- {1 : Int} & {2 : Int}
unfoldable pub type_of_records : List ℕ
type_of_records =
    line 1 0 0 0 0 0 0 0
    ++ line 5 1 0 0 0 0 0 0
    ++ line 1 0 0 0 0 0 0 0
    ++ line 5 2 2 0 0 0 0 0
    ++ line 4 0 1 0 3 0 0 0
    ++ line 240 1 5 0 4 0 0 0

-- Int, in version 2
unfoldable pub wide_type_int : List ℕ
wide_type_int =
    line 1 0 0 0 0 0 0 0
    ++ line 240 2 1 0 0 0 0 0

-- The type that is left, of the version of the book, stands behind the count.
unfoldable pub sheet_samples : List SheetSample
sheet_samples =
    sample "a number" one (accepts 1 0 type_int)
    ∷ sample "an annotation" annotated_one (accepts 1 1 type_int)
    ∷ sample "two annotations" annotated_twice (accepts 1 2 type_int)
    ∷ sample "the top value applied" applied_top (accepts 1 1 type_top)
    ∷ sample "a function type in an annotation" function_type (accepts 1 3 type_top)
    ∷ sample "sums" two_sums (accepts 1 2 type_int)
    ∷ sample "a field read inside a merge" read_in_merge (accepts 1 2 type_int)
    ∷ sample "records and merges count nothing" plain_records (accepts 5 0 type_of_records)
    ∷ sample "sharing is opened" doubled_sums (accepts 1 1023 type_int)
    ∷ sample "cells that the root does not reach" unreached_variable (accepts 1 0 type_int)
    ∷ sample "version 2" wide_sum (accepts 1 1 wide_type_int)
    ∷ sample "a function" a_function (refuses 17 2)
    ∷ sample "a fixpoint" a_fixpoint (refuses 17 2)
    ∷ sample "a choice" a_choice (refuses 17 1)
    ∷ sample "a variable without binder" free_variable (refuses 17 0)
    ∷ sample "a choice inside: the root is named" hidden_choice (refuses 17 3)
    ∷ sample "17 comes before typing" ill_typed_function (refuses 17 4)
    ∷ sample "an application of something else" applied_number (refuses 12 1)
    ∷ sample "a field read of something else" missing_field (refuses 13 2)
    ∷ sample "a merge that conflicts" unequal_numbers (refuses 14 2)
    ∷ sample "a side that is no number" added_top (refuses 15 1)
    ∷ sample "a type" a_type (refuses 9 0)
    ∷ sample "10 comes before 17" doubled_variable (refuses 10 12)
    ∷ sample "a book cut short" cut_short (refuses 2 0)
    ∷ []
