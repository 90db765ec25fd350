-- The size that an accepted join gives. Assumes nothing.
use Prim.Native.Nat.{ℕ}
use mathlib.Core.Path.{◌≡◌, sym, ap, subst, ◌∙◌}
use mathlib.Core.List.{List, []}
use lib.ListN.{take}
use Rattle.calculus.specs.Syntax.{Ty, Term, merge, size_type}
use Rattle.calculus.specs.Typing.{Typed}
use Rattle.format.specs.Book.{root_term}
use Rattle.answers.specs.Answer.{accepted, Result}
use Rattle.joining.specs.declared.Joined.{Joined}
use Rattle.joining.specs.Join.{join_answer}
use Rattle.joining.specs.Joins.{Joins}

-- the size that an accepted join gives is that of the type of the merge
pub type_shown : {l k : List ℕ} {n : ℕ} {q w v : List ℕ} {r : Joined} → Joins l k n q w v r → (m : ℕ) → join_answer r.answer ≡ accepted m →
    (A : Ty) × Typed [] (merge (root_term (take n l)) (root_term q)) A × (m ≡ size_type A)
type_shown {w = w} c m e =
    let x = c.writes m e in
    let o = x.3.owed in
    let t = o.demand2.accepts.0 o.accepts in
    let s = ap (λ (y : Result). y.answer) (o.demand2.shows t.1.0 t.0 t.1.1 w x.1.work) in
    let z : accepted m ≡ accepted (size_type t.1.0) = sym x.3.answer ∙ s in
    (t.1.0, subst (λ (y : Term). Typed [] y t.1.0) x.2.opens t.1.1, cc)
