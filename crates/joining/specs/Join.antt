-- Document 02, (vi): a join as an executable definition, from the project's lent bytes, how many of them hold it, the part and the work buffer to the whole
-- answer, every byte left and every lent byte; and every case of the code's answers with the document's number and values. Assumes nothing.
use Rattle.std.specs.Prelude.{ℕ, ◌-◌, true, false, not, ◌&&◌, List, ◌++◌, eqb, ltb, length, take}
use Rattle.format.specs.Book.{size_limit}
use Rattle.format.specs.Joint.{joint_count, joint}
use Rattle.answers.specs.Answer.{Answer, refused, accepted, stopped, Result, result}
use Rattle.answers.specs.Engine.{work_length, zeros}
use Rattle.answers.specs.Definition.{check, refusal_result}
use Rattle.answers.specs.Cases.{refusal_answer}
use Rattle.joining.specs.declared.Which.{Which}
use Rattle.joining.specs.declared.Which.TheVariants.{Project, Part, Joint}
use Rattle.joining.specs.declared.JoinAnswer.{JoinAnswer}
use Rattle.joining.specs.declared.JoinAnswer.TheVariants.{Accepted, Refused, Full}

-- What a join answers and leaves. "The answer names which book is meant: project, part or joint"; the call "gives back how many hold the joint".
pub record JoinResult : Type 0 where
  pub which : Which
  pub answer : Answer
  pub bytes : ℕ
  -- the project's lent bytes
  pub lent : List ℕ
  -- the work buffer
  pub left : List ℕ

-- rows 1 to 15, and "16, under joint with cell 0"
abbrev pub join_answer : JoinAnswer → Answer
join_answer (Accepted n) = accepted n
join_answer (Refused r) = refusal_answer r
join_answer Full = refused 16 0

-- "the project's lent 32,768 bytes"
abbrev pub lent_length : ℕ
lent_length = 32768

-- "0 when refused"; "Any refusal leaves all the project's lent bytes, those past the project too."
abbrev pub refusal : Which → List ℕ → Result → JoinResult
refusal x l r = record { which = x; answer = r.answer; bytes = 0; lent = l; left = r.left }

-- "It is written over the project's lent 32,768 bytes, the rest zero."
unfoldable pub written : List ℕ → List ℕ
written b = b ++ zeros (lent_length - length b)

-- The joint b is accepted, and its check's answer and bytes are the join's.
abbrev pub acceptance : List ℕ → Result → JoinResult
acceptance b r = record { which = Joint; answer = r.answer; bytes = length b; lent = written b; left = r.left }

-- The rows of one of the books: refused as its check refuses it, or else on to x.
abbrev pub after_check : Which → List ℕ → Result → JoinResult → JoinResult
after_check b l r x = elim r.answer [ refused n i ↦ refusal b l r | accepted n ↦ x | stopped s n m ↦ x ]

-- "16, under joint with cell 0, when the joint has more than 4,095 cells, tested after both books were accepted on their own and before the joint is"
unfoldable pub after_books : List ℕ → List ℕ → List ℕ → List ℕ → JoinResult
after_books p q l w =
    elim (ltb size_limit (joint_count p q)) [
      | true ↦ refusal Joint l (refusal_result 16 0)
      | false ↦ after_check Joint l (check (joint p q) w) (acceptance (joint p q) (check (joint p q) w))
    ]

-- The part's rows, after the project's.
unfoldable pub after_project : List ℕ → List ℕ → List ℕ → List ℕ → JoinResult
after_project p q l w = after_check Part l (check q w) (after_books p q l w)

-- "The project is checked before the part."
unfoldable pub after_lengths : List ℕ → List ℕ → List ℕ → List ℕ → JoinResult
after_lengths p q l w = after_check Project l (check p w) (after_project p q l w)

-- "Refusal 1 comes first, under joint"; "Project bytes lent at another length are answered 2, project": and so is a told length above 32,768.
unfoldable pub joined : List ℕ → ℕ → List ℕ → List ℕ → JoinResult
joined l n q w =
    elim (eqb (length w) work_length) [
      | false ↦ refusal Joint l (result (refused 1 0) w)
      | true ↦ elim (eqb (length l) lent_length && not (ltb lent_length n)) [
        | false ↦ refusal Project l (refusal_result 2 0)
        | true ↦ after_lengths (take n l) q l w
      ]
    ]
