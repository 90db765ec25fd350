-- Two held types or terms are the same where their cells are the same tree, unshared. Assumes nothing.
use Prim.Native.Nat.{ℕ}
use mathlib.Core.Path.{◌≡◌, ap, sym, ◌∙◌}
use mathlib.Core.Logic.Iff
use mathlib.Core.Logic.{◌↔◌}
use mathlib.Core.Bool.{Bool}
use mathlib.Core.List.{List}
use lib.Dec.{T}
use Rattle.calculus.specs.Decide.{same_type, same_term}
use Rattle.calculus.proofs.Bools.{T_same}
use Rattle.calculus.proofs.Tests.{same_type_says, same_term_says}
use Rattle.format.specs.Table.{Sort, type_sort, term_sort}
use Rattle.format.specs.Cell.{IsBytes}
use Rattle.cells.specs.Held.{Thing, thing, Holds}
use Rattle.cells.proofs.Held.{unmarked}
use Rattle.cells.proofs.Back.{from, held_back}
use Rattle.equality.specs.Trees.{Comparable, in_cells, SameTree}
use Rattle.decisions.specs.Questions.{PairAt, PairSays}

abbrev same : (o : Sort) → Thing o → Thing o → Bool
same type_sort = same_type
same term_sort = same_term

same_says : (o : Sort) (x y : Thing o) → T (same o x y) ↔ (x ≡ y)
same_says type_sort = same_type_says
same_says term_sort = same_term_says

module _ (o : Sort) {s : List ℕ} {i j : ℕ} where
  pub comparable : PairAt (Holds s o) i j → Comparable s i j
  comparable p = in_cells (_, (o, unmarked p.holds_first.held)) (_, (o, unmarked p.holds_second.held))

  module _ {r : Bool} (b : IsBytes s) (w : SameTree s i j r) where
    pub same_things : {x y : Thing o} → Holds s o i x → Holds s o j y → T r ↔ (x ≡ y)
    same_things h k = Iff.trans (w.cells _ _ (o, unmarked h.held) (o, unmarked k.held))
        (λ e. h.is ∙ ap (thing o) e ∙ sym k.is, λ e. sym (held_back b h) ∙ ap (from o) e ∙ held_back b k)

    pub same_test : PairSays (Holds s o) i j (same o) r
    same_test = record { says = λ x y h k. T_same (same_things h k) (same_says o x y) }
