-- Two books that are joinable are joinable the other way about. Assumes nothing.
use Prim.Native.Nat.{ℕ}
use native.Mathlib.Omega.{arith}
use mathlib.Core.List.{List}
use Rattle.calculus.specs.Syntax.{Ty, Term, merge}
use Rattle.calculus.specs.Typing.{Typed, HasType, t_merge, t_mergev}
use Rattle.calculus.proofs.Disjointness.{disjoint_sym}
use Rattle.calculus.proofs.Consistency.{consistent_sym}
use Rattle.joining.specs.Joins.{Joinable, EitherWay}

-- disjoint and consistent are symmetric, so a merge has a type either way about
merge_turned : {Γ : List Ty} {e f : Term} {A : Ty} → Typed Γ (merge e f) A → HasType Γ (merge f e)
merge_turned (t_merge s t d) = (_, t_merge t s (disjoint_sym d))
merge_turned (t_mergev v w s t k) = (_, t_mergev w v t s (consistent_sym k))

turned : {p q : List ℕ} → Joinable p q → Joinable q p
turned j =
    record {
      project = j.part;
      part = j.project;
      few = omega (arith, j.few);
      small = omega (arith, j.small);
      typed = merge_turned j.typed.1;
    }

pub joinable_either_way : EitherWay
joinable_either_way p q = (turned, turned)
