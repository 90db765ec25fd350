-- Joins with their whole answers, by document 02, (vi). Books, joints and the types left in the work buffer are literals. Assumes nothing.
use Rattle.std.specs.Prelude.{ℕ, ◌≡◌, List, [], ◌∷◌, ◌++◌, length, take}
use Prim.Native.String.{String}
use Rattle.answers.specs.Answer.{accepted, result}
use Rattle.answers.specs.Engine.{IsWork, padded}
use Rattle.answers.specs.Definition.{refusal_result}
use Rattle.answers.specs.Samples.{line}
use Rattle.joining.specs.declared.Which.{Which}
use Rattle.joining.specs.declared.Which.TheVariants.{Project, Part, Joint}
use Rattle.joining.specs.Join.{JoinResult, lent_length, refusal, acceptance, joined}

-- What is expected: a joint with the size and the bytes of its type, or a refusal of one of the books.
pub data Expected : Type 0 where
  joins : (size : ℕ) (joint type : List ℕ) → Expected
  refuses : Which → (number cell : ℕ) → Expected

-- A project, a part, and what is expected.
pub record JoinSample : Type 0 where
  pub name : String
  pub project : List ℕ
  pub part : List ℕ
  pub expects : Expected

-- A sample on one line.
abbrev sample : String → List ℕ → List ℕ → Expected → JoinSample
sample n p q e = record { name = n; project = p; part = q; expects = e }

-- The whole answer, every byte left and every lent byte of l.
abbrev pub expected : List ℕ → Expected → JoinResult
expected l (joins n b t) = acceptance b (result (accepted n) (padded t))
expected l (refuses x m i) = refusal x l (refusal_result m i)

-- So answered of whatever 32,768 lent bytes that begin with the project, in any work buffer of 65,536.
abbrev pub Meets : JoinSample → Type 0
Meets s = (l w : List ℕ) → length l ≡ lent_length → take (length s.project) l ≡ s.project → IsWork w →
    joined l (length s.project) s.part w ≡ expected l s.expects

-- the record, label 1, of 7
unfoldable pub office : List ℕ
office =
    line 17 0 0 0 7 0 0 0
    ++ line 24 1 0 0 0 0 0 0
    ++ line 240 1 2 0 1 0 0 0

-- the number 1
unfoldable pub one : List ℕ
one =
    line 17 0 0 0 1 0 0 0
    ++ line 240 1 1 0 0 0 0 0

-- the record, label 1, of 2
unfoldable pub other_office : List ℕ
other_office =
    line 17 0 0 0 2 0 0 0
    ++ line 24 1 0 0 0 0 0 0
    ++ line 240 1 2 0 1 0 0 0

-- -5, in version 1
unfoldable pub minus_five : List ℕ
minus_five =
    line 17 0 0 0 251 255 255 255
    ++ line 240 1 1 0 0 0 0 0

-- the record, label 2, of 2 to the 40th, in version 2
unfoldable pub register : List ℕ
register =
    line 17 0 0 0 0 0 0 1
    ++ line 24 2 0 0 0 0 0 0
    ++ line 240 2 2 0 1 0 0 0

-- 1 applied to 1
unfoldable pub applied_one : List ℕ
applied_one =
    line 17 0 0 0 1 0 0 0
    ++ line 17 0 0 0 1 0 0 0
    ++ line 20 0 0 0 1 0 0 0
    ++ line 240 1 3 0 2 0 0 0

-- 1 merged with 2
unfoldable pub conflicting : List ℕ
conflicting =
    line 17 0 0 0 1 0 0 0
    ++ line 17 0 0 0 2 0 0 0
    ++ line 22 0 0 0 1 0 0 0
    ++ line 240 1 3 0 2 0 0 0

-- Int: the root is a type
unfoldable pub a_type : List ℕ
a_type =
    line 1 0 0 0 0 0 0 0
    ++ line 240 1 1 0 0 0 0 0

-- a record that has no last byte
unfoldable pub cut_short : List ℕ
cut_short =
    line 17 0 0 0 7 0 0 0
    ++ line 24 1 0 0 0 0 0 0
    ++ 240 ∷ 1 ∷ 2 ∷ 0 ∷ 1 ∷ 0 ∷ 0 ∷ []

-- the record, label 4, of 1; the root does not reach a variable that skips 5 binders, and -1
unfoldable pub drafts : List ℕ
drafts =
    line 17 0 0 0 1 0 0 0
    ++ line 16 0 5 0 0 0 0 0
    ++ line 17 0 0 0 255 255 255 255
    ++ line 24 4 0 0 0 0 0 0
    ++ line 240 1 4 0 3 0 0 0

-- the record, label 5, of 9, in version 2; the root does not reach a variable that skips 3
unfoldable pub notes : List ℕ
notes =
    line 17 0 9 0 0 0 0 0
    ++ line 16 0 3 0 0 0 0 0
    ++ line 24 5 0 0 0 0 0 0
    ++ line 240 2 3 0 2 0 0 0

-- A function from Int to Int: if its argument is 0, the argument and 1, else the argument. Each of its cells refers by every field that its kind has.
unfoldable pub counter : List ℕ
counter =
    line 1 0 0 0 0 0 0 0
    ++ line 16 0 0 0 0 0 0 0
    ++ line 17 0 0 0 1 0 0 0
    ++ line 26 0 1 0 2 0 0 0
    ++ line 27 0 1 0 3 0 1 0
    ++ line 21 0 4 0 0 0 0 0
    ++ line 240 1 6 0 5 0 0 0

-- the top value merged with itself 11 times over by sharing: 4,095 cells
unfoldable pub doubled : List ℕ
doubled =
    line 18 0 0 0 0 0 0 0
    ++ line 22 0 0 0 0 0 0 0
    ++ line 22 0 1 0 1 0 0 0
    ++ line 22 0 2 0 2 0 0 0
    ++ line 22 0 3 0 3 0 0 0
    ++ line 22 0 4 0 4 0 0 0
    ++ line 22 0 5 0 5 0 0 0
    ++ line 22 0 6 0 6 0 0 0
    ++ line 22 0 7 0 7 0 0 0
    ++ line 22 0 8 0 8 0 0 0
    ++ line 22 0 9 0 9 0 0 0
    ++ line 22 0 10 0 10 0 0 0
    ++ line 240 1 12 0 11 0 0 0

-- "cells of the project, cells of the part with references raised, then a merge of both roots, then a trailer"
unfoldable pub office_and_one : List ℕ
office_and_one =
    line 17 0 0 0 7 0 0 0
    ++ line 24 1 0 0 0 0 0 0
    ++ line 17 0 0 0 1 0 0 0
    ++ line 22 0 1 0 2 0 0 0
    ++ line 240 1 4 0 3 0 0 0

unfoldable pub office_twice : List ℕ
office_twice =
    line 17 0 0 0 7 0 0 0
    ++ line 24 1 0 0 0 0 0 0
    ++ line 17 0 0 0 7 0 0 0
    ++ line 24 1 2 0 0 0 0 0
    ++ line 22 0 1 0 3 0 0 0
    ++ line 240 1 5 0 4 0 0 0

-- "the higher version and numbers extended as in (iv)"
unfoldable pub minus_five_and_register : List ℕ
minus_five_and_register =
    line 17 0 251 255 255 255 255 255
    ++ line 17 0 0 0 0 0 0 1
    ++ line 24 2 1 0 0 0 0 0
    ++ line 22 0 0 0 2 0 0 0
    ++ line 240 2 4 0 3 0 0 0

unfoldable pub register_and_minus_five : List ℕ
register_and_minus_five =
    line 17 0 0 0 0 0 0 1
    ++ line 24 2 0 0 0 0 0 0
    ++ line 17 0 251 255 255 255 255 255
    ++ line 22 0 1 0 2 0 0 0
    ++ line 240 2 4 0 3 0 0 0

-- cells that a root does not reach are carried along, and their numbers extended; skips stay
unfoldable pub drafts_and_notes : List ℕ
drafts_and_notes =
    line 17 0 1 0 0 0 0 0
    ++ line 16 0 5 0 0 0 0 0
    ++ line 17 0 255 255 255 255 255 255
    ++ line 24 4 0 0 0 0 0 0
    ++ line 17 0 9 0 0 0 0 0
    ++ line 16 0 3 0 0 0 0 0
    ++ line 24 5 4 0 0 0 0 0
    ++ line 22 0 3 0 6 0 0 0
    ++ line 240 2 8 0 7 0 0 0

-- every reference of the part is raised by 2
unfoldable pub office_and_counter : List ℕ
office_and_counter =
    line 17 0 0 0 7 0 0 0
    ++ line 24 1 0 0 0 0 0 0
    ++ line 1 0 0 0 0 0 0 0
    ++ line 16 0 0 0 0 0 0 0
    ++ line 17 0 0 0 1 0 0 0
    ++ line 26 0 3 0 4 0 0 0
    ++ line 27 0 3 0 5 0 3 0
    ++ line 21 0 6 0 2 0 2 0
    ++ line 22 0 1 0 7 0 0 0
    ++ line 240 1 9 0 8 0 0 0

-- Int with label 1, and Int
unfoldable pub type_of_office_and_one : List ℕ
type_of_office_and_one =
    line 1 0 0 0 0 0 0 0
    ++ line 5 1 0 0 0 0 0 0
    ++ line 1 0 0 0 0 0 0 0
    ++ line 4 0 1 0 2 0 0 0
    ++ line 240 1 4 0 3 0 0 0

-- Int with label 1, twice
unfoldable pub type_of_office_twice : List ℕ
type_of_office_twice =
    line 1 0 0 0 0 0 0 0
    ++ line 5 1 0 0 0 0 0 0
    ++ line 1 0 0 0 0 0 0 0
    ++ line 5 1 2 0 0 0 0 0
    ++ line 4 0 1 0 3 0 0 0
    ++ line 240 1 5 0 4 0 0 0

-- Int, and Int with label 2, in version 2
unfoldable pub type_of_minus_five_and_register : List ℕ
type_of_minus_five_and_register =
    line 1 0 0 0 0 0 0 0
    ++ line 1 0 0 0 0 0 0 0
    ++ line 5 2 1 0 0 0 0 0
    ++ line 4 0 0 0 2 0 0 0
    ++ line 240 2 4 0 3 0 0 0

-- Int with label 2, and Int, in version 2
unfoldable pub type_of_register_and_minus_five : List ℕ
type_of_register_and_minus_five =
    line 1 0 0 0 0 0 0 0
    ++ line 5 2 0 0 0 0 0 0
    ++ line 1 0 0 0 0 0 0 0
    ++ line 4 0 1 0 2 0 0 0
    ++ line 240 2 4 0 3 0 0 0

-- Int with label 4, and with label 5, in version 2
unfoldable pub type_of_drafts_and_notes : List ℕ
type_of_drafts_and_notes =
    line 1 0 0 0 0 0 0 0
    ++ line 5 4 0 0 0 0 0 0
    ++ line 1 0 0 0 0 0 0 0
    ++ line 5 5 2 0 0 0 0 0
    ++ line 4 0 1 0 3 0 0 0
    ++ line 240 2 5 0 4 0 0 0

-- Int with label 1, and a function from Int to Int
unfoldable pub type_of_office_and_counter : List ℕ
type_of_office_and_counter =
    line 1 0 0 0 0 0 0 0
    ++ line 5 1 0 0 0 0 0 0
    ++ line 1 0 0 0 0 0 0 0
    ++ line 1 0 0 0 0 0 0 0
    ++ line 3 0 2 0 3 0 0 0
    ++ line 4 0 1 0 4 0 0 0
    ++ line 240 1 6 0 5 0 0 0

-- The type that is left, of the joint's version, stands behind the joint.
unfoldable pub join_samples : List JoinSample
join_samples =
    sample "a record and a number" office one (joins 4 office_and_one type_of_office_and_one)
    ∷ sample "a record and itself" office office (joins 5 office_twice type_of_office_twice)
    ∷ sample "version 1, then 2" minus_five register (joins 4 minus_five_and_register type_of_minus_five_and_register)
    ∷ sample "version 2, then 1" register minus_five (joins 4 register_and_minus_five type_of_register_and_minus_five)
    ∷ sample "cells that no root reaches" drafts notes (joins 5 drafts_and_notes type_of_drafts_and_notes)
    ∷ sample "references by every field" office counter (joins 6 office_and_counter type_of_office_and_counter)
    ∷ sample "the project is checked before the part" conflicting applied_one (refuses Project 14 2)
    ∷ sample "a part that is refused" office applied_one (refuses Part 12 2)
    ∷ sample "a part that is a type" office a_type (refuses Part 9 0)
    ∷ sample "a project cut short" cut_short one (refuses Project 2 0)
    ∷ sample "a part cut short" office cut_short (refuses Part 2 0)
    ∷ sample "two that conflict" office other_office (refuses Joint 14 4)
    ∷ sample "two that are too large together" doubled one (refuses Joint 10 13)
    ∷ []
