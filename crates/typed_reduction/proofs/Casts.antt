-- What a reading is made of, by the kinds of the cells of the value and of the type: where a value is read, its parts are. Assumes nothing.
use Prim.Native.Nat.{ℕ}
use native.Mathlib.Decide.{ℕ_discrete}
use mathlib.Core.Path.{◌≡◌, refl, sym, ap, ◌∙◌}
use mathlib.Core.Bool.{Bool, true, false, ◌&&◌, cond}
use mathlib.Core.List.{List}
use mathlib.Core.Option.{Option, none, some, map, some-injective, none-ne-some}
use mathlib.Core.Logic.{by_cases}
use lib.Dec.{eqb}
use borrow.Author.Tests.{eqb-true}
use Rattle.calculus.specs.Syntax.{Ty, int, arrow, inter, field}
use Rattle.calculus.specs.Syntax.{Term, lit, lam, merge, rcd}
use Rattle.calculus.specs.Subtyping.{TopLike}
use Rattle.calculus.specs.Decide.{is_below}
use Rattle.calculus.specs.Evaluate.{merge_both, cast_int, cast_arrow, cast_field, cast}
use Rattle.format.specs.declared.Version.TheVariants.{Two}
use Rattle.format.specs.Version.{half_of, stored}
use Rattle.format.specs.Cell.{cell_at, signed}
use Rattle.cells.proofs.Held.{lit_at}
use Rattle.emission.specs.Runs.{RunsTerm}
use Rattle.emission.proofs.Runs.{holds_term}
use Rattle.emission.proofs.RunParts.{FunctionAt, OneTerm, lam_at, rcd_at}
use Rattle.typed_reduction.specs.Casting.{NoMerge}
use Rattle.typed_reduction.proofs.Single.{single_int, single_arrow, single_field, no_number, no_function, no_record}

-- under an intersection, the readings under both halves
pub record BothRead (A B : Ty) (e x : Term) : Type 0 where
  pub first : Term
  pub second : Term
  pub is : x ≡ merge first second
  pub casts_first : cast A e ≡ some first
  pub casts_second : cast B e ≡ some second

no_answer : {X : Type 0} {x : Term} → none ≡ some x → X
no_answer {x = x} e = absurd (none-ne-some x e)

pub both_read : (A B : Ty) (e x : Term) → cast (inter A B) e ≡ some x → BothRead A B e x
unfolding cast merge_both
both_read A B e x = go (cast A e) (cast B e) refl refl
  where
    go : (o q : Option Term) → cast A e ≡ o → cast B e ≡ q → merge_both o q ≡ some x → BothRead A B e x
    go none q f g h = no_answer h
    go (some u) none f g h = no_answer h
    go (some u) (some w) f g h =
        record { first = u; second = w; is = sym (some-injective _ _ h); casts_first = f; casts_second = g }

pub when_some : {x y : Term} (t : Bool) → cond t (some y) none ≡ some x → x ≡ y
when_some true e = sym (some-injective _ _ e)
when_some false e = no_answer e

-- the content's reading
pub record WithinRead (l k : ℕ) (o : Option Term) (x : Term) : Type 0 where
  pub content : Term
  pub same : l ≡ k
  pub casts : o ≡ some content
  pub is : x ≡ rcd l content

within_some : {x : Term} (l k : ℕ) (o : Option Term) → cond (eqb l k) (map (rcd l) o) none ≡ some x → WithinRead l k o x
within_some {x} l k o = go (eqb l k) refl o refl
  where
    go : (t : Bool) → eqb l k ≡ t → (q : Option Term) → o ≡ q → cond t (map (rcd l) q) none ≡ some x → WithinRead l k o x
    go true e none f h = no_answer h
    go true e (some w) f h = record { content = w; same = eqb-true l k e; casts = f; is = sym (some-injective _ _ h) }
    go false e q f h = no_answer h

-- the function f at i, read as x with the output type D
pub record FunctionRead (s : List ℕ) (i : ℕ) (f x : Term) (D : Ty) : Type 0 where
  pub function : FunctionAt s i f
  pub holds : RunsTerm s i (lam function.body function.input function.output)
  pub is : x ≡ lam function.body function.input D

-- the record f at i, read as x with its content read under A
pub record RecordRead (s : List ℕ) (i : ℕ) (f x : Term) (A : Ty) : Type 0 where
  pub held : OneTerm s i rcd f
  pub content : Term
  pub casts : cast A held.term ≡ some content
  pub is : x ≡ rcd (cell_at s i).label content

module _ {s : List ℕ} {i : ℕ} {f x : Term} (h : RunsTerm s i f) (n : NoMerge f) where
  -- a number is read as it is
  pub number_read : cast int f ≡ some x → x ≡ lit (signed (half_of Two) (stored Two (cell_at s i).a (cell_at s i).b (cell_at s i).c))
  unfolding cast_int
  number_read e =
      let g : cast_int f ≡ some x = sym (single_int f n) ∙ e in
      by_cases (ℕ_discrete (cell_at s i).kind 17) (λ k. sym (some-injective _ _ (rw (lit_at (holds_term h) k) at g)))
      (λ k. no_answer (sym (no_number (holds_term h) k) ∙ g))

  pub function_read : (C D : Ty) → ¬ TopLike D → cast (arrow C D) f ≡ some x → FunctionRead s i f x D
  unfolding cast_arrow
  function_read C D t e =
      let g : cast_arrow C D f ≡ some x = sym (single_arrow C D f t n) ∙ e in
      by_cases (ℕ_discrete (cell_at s i).kind 21)
      (λ k.
      let z = lam_at h k in
      record { function = z; holds = rw z.is at h; is = when_some (is_below C z.input && is_below z.output D) (rw z.is at g) })
      (λ k. no_answer (sym (no_function (holds_term h) C D k) ∙ g))

  pub record_read : (l : ℕ) (A : Ty) → ¬ TopLike A → cast (field l A) f ≡ some x → RecordRead s i f x A
  unfolding cast_field
  record_read l A t e =
      let g : cast_field l (cast A) f ≡ some x = sym (single_field l A f t n) ∙ e in
      by_cases (ℕ_discrete (cell_at s i).kind 24)
      (λ k.
      let z = rcd_at h k in
      let w = within_some l (cell_at s i).label (cast A z.term) (rw z.is at g) in
      record { held = z; content = w.content; casts = w.casts; is = w.is ∙ ap (λ m. rcd m w.content) w.same })
      (λ k. no_answer (sym (no_record (holds_term h) l (cast A) k) ∙ g))
