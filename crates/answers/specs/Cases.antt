-- Every case of the code's answers, with document 01's number and values. Assumes nothing.
use Rattle.std.specs.Prelude.{ℕ}
use Rattle.answers.specs.Answer.{Answer, refused, accepted, stopped, value, spent, room}
use Rattle.answers.specs.declared.Refusal.{Refusal}
use Rattle.answers.specs.declared.Refusal.TheVariants.{Buffer, Length, Trailer, Count, Kind, Unnamed, Reference, Sort, Root, Size}
use Rattle.answers.specs.declared.Refusal.TheVariants.{Unbound, Application, Projection, Merge, Mismatch}
use Rattle.answers.specs.declared.Stop.{Stop}
use Rattle.answers.specs.declared.Stop.TheVariants.{Value, Spent, Room}
use Rattle.answers.specs.declared.CheckOutcome.{CheckOutcome}
use Rattle.answers.specs.declared.CheckOutcome.TheVariants.{Refused, Accepted}
use Rattle.answers.specs.declared.RunOutcome.{RunOutcome}
use Rattle.answers.specs.declared.RunOutcome.TheVariants.{Refused as RunOutcome-as-Refused, Stopped}

-- rows 1 to 15, "cell (0 for 1 to 4)"
abbrev pub refusal_answer : Refusal → Answer
refusal_answer Buffer = refused 1 0
refusal_answer Length = refused 2 0
refusal_answer Trailer = refused 3 0
refusal_answer Count = refused 4 0
refusal_answer (Kind i) = refused 5 i
refusal_answer (Unnamed i) = refused 6 i
refusal_answer (Reference i) = refused 7 i
refusal_answer (Sort i) = refused 8 i
refusal_answer (Root i) = refused 9 i
refusal_answer (Size i) = refused 10 i
refusal_answer (Unbound i) = refused 11 i
refusal_answer (Application i) = refused 12 i
refusal_answer (Projection i) = refused 13 i
refusal_answer (Merge i) = refused 14 i
refusal_answer (Mismatch i) = refused 15 i

-- "value when the term is one; else spent ..; else no room ..": "Each carries the steps taken", and the mark m
abbrev pub stop_answer : Stop → ℕ → Answer
stop_answer (Value n) m = stopped value n m
stop_answer (Spent n) m = stopped spent n m
stop_answer (Room n) m = stopped room n m

-- of a check: a refusal, or an acceptance with the size of the type
abbrev pub check_answer : CheckOutcome → Answer
check_answer (Refused r) = refusal_answer r
check_answer (Accepted n) = accepted n

-- of a run: a refusal, or a stop; never an acceptance
abbrev pub run_answer : RunOutcome → Answer
run_answer (RunOutcome-as-Refused r) = refusal_answer r
run_answer (Stopped s m) = stop_answer s m
