-- No two cases of the code's answer to a join have one number and value, so that a contract that gives these gives the case. Assumes nothing.
use Prim.Native.Nat.{ℕ}
use mathlib.Core.Path.{◌≡◌, refl, sym, ap}
use Rattle.answers.specs.Answer.{Stop, refused, accepted, stopped}
use Rattle.answers.proofs.Cases.{refusal_fixes, refused_alone}
use Rattle.answers.proofs.Demands.{clash}
use Rattle.joining.specs.declared.JoinAnswer.{JoinAnswer}
use Rattle.joining.specs.declared.JoinAnswer.TheVariants.{Accepted, Refused, Full}
use Rattle.joining.specs.declared.Joined.{Joined}
use Rattle.joining.specs.Join.{join_answer}

pub never_stopped : (a : JoinAnswer) (s : Stop) (n k : ℕ) → ¬ (join_answer a ≡ stopped s n k)
never_stopped (Accepted m) s n k e = clash cc
never_stopped (Refused q) s n k e = refused_alone q (stopped s n k) refl e
never_stopped Full s n k e = clash cc

pub join_answer_fixes : (a b : JoinAnswer) → join_answer a ≡ join_answer b → a ≡ b
join_answer_fixes (Accepted n) (Accepted m) e = let z : n ≡ m = cc in ap Accepted z
join_answer_fixes (Accepted n) (Refused r) e = absurd (refused_alone r (accepted n) refl (sym e))
join_answer_fixes (Accepted n) Full e = absurd (clash cc)
join_answer_fixes (Refused q) (Accepted m) e = absurd (refused_alone q (accepted m) refl e)
join_answer_fixes (Refused q) (Refused r) e = ap Refused (refusal_fixes q r e)
join_answer_fixes (Refused q) Full e = absurd (refused_alone q (refused 16 0) refl e)
join_answer_fixes Full (Accepted m) e = absurd (clash cc)
join_answer_fixes Full (Refused r) e = absurd (refused_alone r (refused 16 0) refl (sym e))
join_answer_fixes Full Full e = refl

-- nor two whole answers with one book, number, value and byte count
pub same_joined : (r r' : Joined) → r.which ≡ r'.which → join_answer r.answer ≡ join_answer r'.answer → r.bytes ≡ r'.bytes → r ≡ r'
same_joined r r' x a b = let e = join_answer_fixes r.answer r'.answer a in λ i. record { which = x i; answer = e i; bytes = b i }
