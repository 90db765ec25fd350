-- The line that a program prints of an answer, without its end. Assumes nothing.
use Rattle.std.specs.Prelude.{ℕ, List, ◌++◌, codes}
use Rattle.std.specs.Fmt.{decimal}
use Rattle.answers.specs.Exported.{tag_of, value_of}
use Rattle.answers.specs.Cases.{refusal_answer}
use Rattle.answers.specs.declared.Refusal.{Refusal}
use Rattle.answers.specs.declared.Stop.{Stop}
use Rattle.answers.specs.declared.Stop.TheVariants.{Value, Spent, Room}
use Rattle.answers.specs.declared.CheckOutcome.{CheckOutcome}
use Rattle.answers.specs.declared.CheckOutcome.TheVariants.{Refused, Accepted}
use Rattle.answers.specs.declared.RunOutcome.{RunOutcome}
use Rattle.answers.specs.declared.RunOutcome.TheVariants.{Refused as RunOutcome-as-Refused, Stopped}

-- the number and the cell
abbrev pub refusal_line : Refusal → List ℕ
refusal_line r = codes "refused " ++ decimal (tag_of (refusal_answer r)) ++ codes " " ++ decimal (value_of (refusal_answer r))

-- the word and the steps
abbrev pub stop_line : Stop → List ℕ
stop_line (Value n) = codes "value " ++ decimal n
stop_line (Spent n) = codes "spent " ++ decimal n
stop_line (Room n) = codes "room " ++ decimal n

-- the refusal, or the size of the type
abbrev pub check_line : CheckOutcome → List ℕ
check_line (Refused r) = refusal_line r
check_line (Accepted n) = codes "accepted " ++ decimal n

-- the refusal, or the stop; the mark is not on it
abbrev pub run_line : RunOutcome → List ℕ
run_line (RunOutcome-as-Refused r) = refusal_line r
run_line (Stopped s m) = stop_line s
