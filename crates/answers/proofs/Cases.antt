-- The numbers of the code's answers: each case has its row's, and no two cases have one answer, so that a contract that gives the answer gives
-- the case. Assumes nothing.
use Prim.Native.Nat.{ℕ, ◌-◌, ◌<◌}
use mathlib.Core.Path.{◌≡◌, refl, sym, ◌∙◌, ap}
use mathlib.Core.Logic.{◌≢◌}
use mathlib.Core.Option.{Option, none, some, some-injective}
use mathlib.Core.List.{List, [], ◌∷◌}
use lib.Dec.{lit<}
use lib.ListN.{get_elem?}
use Rattle.answers.specs.Answer.{Answer, refused, accepted, stopped, value, spent, room}
use Rattle.answers.specs.Cases.{refusal_answer, stop_answer, check_answer, run_answer}
use Rattle.answers.specs.declared.Refusal.{Refusal}
use Rattle.answers.specs.declared.Refusal.TheVariants.{Buffer, Length, Trailer, Count, Kind, Unnamed, Reference, Sort, Root, Size}
use Rattle.answers.specs.declared.Refusal.TheVariants.{Unbound, Application, Projection, Merge, Mismatch}
use Rattle.answers.specs.declared.Stop.{Stop}
use Rattle.answers.specs.declared.Stop.TheVariants.{Value, Spent, Room}
use Rattle.answers.specs.declared.CheckOutcome.{CheckOutcome}
use Rattle.answers.specs.declared.CheckOutcome.TheVariants.{Refused, Accepted}
use Rattle.answers.specs.declared.RunOutcome.{RunOutcome}
use Rattle.answers.specs.declared.RunOutcome.TheVariants.{Refused as RunOutcome-as-Refused, Stopped}
use Rattle.answers.proofs.Demands.{clash}

-- Document 01's table downward: the cases that its rows name, with cell i.
abbrev pub rows : ℕ → List Refusal
rows i =
    Buffer
    ∷ Length
    ∷ Trailer
    ∷ Count
    ∷ Kind i
    ∷ Unnamed i
    ∷ Reference i
    ∷ Sort i
    ∷ Root i
    ∷ Size i
    ∷ Unbound i
    ∷ Application i
    ∷ Projection i
    ∷ Merge i
    ∷ Mismatch i
    ∷ []

-- A refusal's number, below 16, and cell; it is the case that its row names.
pub refusal_number : (q : Refusal) → (n : ℕ) × (i : ℕ) × (refusal_answer q ≡ refused n i) × (n < 16) × (get_elem? (rows i) (n - 1) ≡ some q)
refusal_number Buffer = (_, _, refl, lit< tt, refl)
refusal_number Length = (_, _, refl, lit< tt, refl)
refusal_number Trailer = (_, _, refl, lit< tt, refl)
refusal_number Count = (_, _, refl, lit< tt, refl)
refusal_number (Kind i) = (_, _, refl, lit< tt, refl)
refusal_number (Unnamed i) = (_, _, refl, lit< tt, refl)
refusal_number (Reference i) = (_, _, refl, lit< tt, refl)
refusal_number (Sort i) = (_, _, refl, lit< tt, refl)
refusal_number (Root i) = (_, _, refl, lit< tt, refl)
refusal_number (Size i) = (_, _, refl, lit< tt, refl)
refusal_number (Unbound i) = (_, _, refl, lit< tt, refl)
refusal_number (Application i) = (_, _, refl, lit< tt, refl)
refusal_number (Projection i) = (_, _, refl, lit< tt, refl)
refusal_number (Merge i) = (_, _, refl, lit< tt, refl)
refusal_number (Mismatch i) = (_, _, refl, lit< tt, refl)

-- The refusal of an answer: row n for number n.
abbrev pub refusal_of : Answer → Option Refusal
refusal_of (refused n i) = get_elem? (rows i) (n - 1)
refusal_of (accepted n) = none
refusal_of (stopped s n m) = none

refusal_of_lem : (q : Refusal) → refusal_of (refusal_answer q) ≡ some q
refusal_of_lem q = let x = refusal_number q in ap refusal_of x.2 ∙ x.4

pub refusal_fixes : (q r : Refusal) → refusal_answer q ≡ refusal_answer r → q ≡ r
refusal_fixes q r e = some-injective q r (sym (refusal_of_lem q) ∙ ap refusal_of e ∙ refusal_of_lem r)

-- no refusal of these rows is an answer of another kind, or of another row
pub refused_alone : (q : Refusal) (a : Answer) → refusal_of a ≡ none → refusal_answer q ≢ a
refused_alone q a n e = let z : some q ≡ none = sym (refusal_of_lem q) ∙ ap refusal_of e ∙ n in clash cc

pub check_fixes : (o p : CheckOutcome) → check_answer o ≡ check_answer p → o ≡ p
check_fixes (Refused q) (Refused r) e = ap Refused (refusal_fixes q r e)
check_fixes (Refused q) (Accepted n) e = absurd (refused_alone q (accepted n) refl e)
check_fixes (Accepted n) (Refused r) e = absurd (refused_alone r (accepted n) refl (sym e))
check_fixes (Accepted n) (Accepted m) e = let z : n ≡ m = cc in ap Accepted z

-- The stop of an answer.
abbrev stop_of : Answer → Option RunOutcome
stop_of (refused n i) = none
stop_of (accepted n) = none
stop_of (stopped value n m) = some (Stopped (Value n) m)
stop_of (stopped spent n m) = some (Stopped (Spent n) m)
stop_of (stopped room n m) = some (Stopped (Room n) m)

stop_of_lem : (s : Stop) (m : ℕ) → (stop_of (stop_answer s m) ≡ some (Stopped s m)) × (refusal_of (stop_answer s m) ≡ none)
stop_of_lem (Value n) m = (refl, refl)
stop_of_lem (Spent n) m = (refl, refl)
stop_of_lem (Room n) m = (refl, refl)

pub run_fixes : (o p : RunOutcome) → run_answer o ≡ run_answer p → o ≡ p
run_fixes (RunOutcome-as-Refused q) (RunOutcome-as-Refused r) e = ap RunOutcome-as-Refused (refusal_fixes q r e)
run_fixes (RunOutcome-as-Refused q) (Stopped s m) e = absurd (refused_alone q (stop_answer s m) (stop_of_lem s m).1 e)
run_fixes (Stopped s m) (RunOutcome-as-Refused r) e = absurd (refused_alone r (stop_answer s m) (stop_of_lem s m).1 (sym e))
run_fixes (Stopped s m) (Stopped t n) e = some-injective (Stopped s m) (Stopped t n) (sym (stop_of_lem s m).0 ∙ ap stop_of e ∙ (stop_of_lem t n).0)
