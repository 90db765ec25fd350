-- What stands in cell t as cell i, by the shape of its kind: its parts, their cells lower, each held there as H says. Assumes nothing.
use Prim.Native.Nat.{ℕ, ◌<◌}
use mathlib.Core.Path.{◌≡◌}
use Rattle.calculus.specs.Syntax.{Ty, field, Term, lam, choice}
use Rattle.format.specs.Table.{Sort, type_sort, term_sort}
use Rattle.format.specs.Cell.{Cell}
use Rattle.cells.specs.Held.{Thing}

-- two types, or two terms; f makes the whole
pub record Two (H : (o : Sort) → ℕ → Thing o → Type 0) (t : Cell) (i : ℕ) (o : Sort) (f : Thing o → Thing o → Thing o) (x : Thing o) : Type 0 where
  pub first : Thing o
  pub second : Thing o
  pub is : x ≡ f first second
  pub first_lower : t.a < i
  pub second_lower : t.b < i
  pub holds_first : H o t.a first
  pub holds_second : H o t.b second

-- an annotation or a fixpoint: f e A
pub record TermAndType (H : (o : Sort) → ℕ → Thing o → Type 0) (t : Cell) (i : ℕ) (f : Term → Ty → Term) (e : Term) : Type 0 where
  pub term : Term
  pub type : Ty
  pub is : e ≡ f term type
  pub term_lower : t.a < i
  pub type_lower : t.b < i
  pub holds_term : H term_sort t.a term
  pub holds_type : H type_sort t.b type

-- a record type; a record or a field read: f l e
pub record OneType (H : (o : Sort) → ℕ → Thing o → Type 0) (t : Cell) (i : ℕ) (A : Ty) : Type 0 where
  pub content : Ty
  pub is : A ≡ field t.label content
  pub lower : t.a < i
  pub holds : H type_sort t.a content

pub record OneTerm (H : (o : Sort) → ℕ → Thing o → Type 0) (t : Cell) (i : ℕ) (f : ℕ → Term → Term) (e : Term) : Type 0 where
  pub term : Term
  pub is : e ≡ f t.label term
  pub lower : t.a < i
  pub holds : H term_sort t.a term

pub record FunctionAt (H : (o : Sort) → ℕ → Thing o → Type 0) (t : Cell) (i : ℕ) (e : Term) : Type 0 where
  pub body : Term
  pub input : Ty
  pub output : Ty
  pub is : e ≡ lam body input output
  pub body_lower : t.a < i
  pub input_lower : t.b < i
  pub output_lower : t.c < i
  pub holds_body : H term_sort t.a body
  pub holds_input : H type_sort t.b input
  pub holds_output : H type_sort t.c output

-- a choice: the tested part, the branch for zero, the other
pub record ChoiceAt (H : (o : Sort) → ℕ → Thing o → Type 0) (t : Cell) (i : ℕ) (e : Term) : Type 0 where
  pub tested : Term
  pub zero : Term
  pub other : Term
  pub is : e ≡ choice tested zero other
  pub tested_lower : t.a < i
  pub zero_lower : t.b < i
  pub other_lower : t.c < i
  pub holds_tested : H term_sort t.a tested
  pub holds_zero : H term_sort t.b zero
  pub holds_other : H term_sort t.c other
