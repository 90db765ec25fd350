-- The reading of a value that is no merge, under a type that is neither an intersection nor top-like: by the head of the type, and none
-- where the kind of the value's cell is another. Assumes nothing.
use Prim.Native.Nat.{ℕ}
use mathlib.Core.Path.{◌≡◌, refl, ap, ◌∙◌}
use mathlib.Core.List.{List}
use mathlib.Core.Option.{Option, none}
use Rattle.calculus.specs.Syntax.{Ty, int, arrow, field, Term}
use Rattle.calculus.specs.Subtyping.{TopLike}
use Rattle.calculus.specs.Evaluate.{first_part, cast_int, cast_arrow, cast_field, cast}
use Rattle.calculus.proofs.Tests.{cast_arrow_lem, cast_field_lem}
use Rattle.format.specs.Table.{term_sort}
use Rattle.format.specs.Cell.{cell_at}
use Rattle.format.specs.Tree.{kind_in}
use Rattle.format.specs.Terms.{from_term_in}
use Rattle.cells.proofs.Held.{kind_of, kind_of_held}
use Rattle.cells.proofs.Forms.{form_else, parts_single}
use Rattle.cells.specs.Held.{HoldsTerm}
use Rattle.typed_reduction.specs.Casting.{NoMerge}

first_single : (f : Term → Option Term) (e : Term) → NoMerge e → first_part f e ≡ f e
unfolding first_part
first_single f e h = parts_single f _ e h

pub single_int : (e : Term) → NoMerge e → cast int e ≡ cast_int e
unfolding cast
single_int e h = first_single cast_int e h

pub single_arrow : (C D : Ty) (e : Term) → ¬ TopLike D → NoMerge e → cast (arrow C D) e ≡ cast_arrow C D e
single_arrow C D e n h = cast_arrow_lem C D e n ∙ first_single (cast_arrow C D) e h

pub single_field : (l : ℕ) (A : Ty) (e : Term) → ¬ TopLike A → NoMerge e → cast (field l A) e ≡ cast_field l (cast A) e
single_field l A e n h = cast_field_lem l A e n ∙ first_single (cast_field l (cast A)) e h

-- of another kind
module _ {s : List ℕ} {i : ℕ} {e : Term} (h : HoldsTerm s i e) where
  pub no_number : ((cell_at s i).kind ≡ 17 → ⊥) → cast_int e ≡ none
  unfolding cast_int
  no_number n = form_else e (λ k. absurd (n (kind_of_held h ∙ k))) (λ k. refl) (λ k b A B. refl) (λ k l b. refl)

  pub no_function : (C D : Ty) → ((cell_at s i).kind ≡ 21 → ⊥) → cast_arrow C D e ≡ none
  unfolding cast_arrow
  no_function C D n = form_else e (λ k j. refl) (λ k. refl) (λ k. absurd (n (kind_of_held h ∙ k))) (λ k l b. refl)

  pub no_record : (l : ℕ) (f : Term → Option Term) → ((cell_at s i).kind ≡ 24 → ⊥) → cast_field l f e ≡ none
  unfolding cast_field
  no_record l f n = form_else e (λ k j. refl) (λ k. refl) (λ k b A B. refl) (λ k. absurd (n (kind_of_held h ∙ k)))

  pub no_merge : ((cell_at s i).kind ≡ 22 → ⊥) → NoMerge e
  unfolding from_term_in kind_in
  no_merge n f g q = n (kind_of_held h ∙ ap (kind_of term_sort) q)
