-- The part that a field read takes, of held types and of values that run: what a call needs, and what it answers. Assumes nothing.
use Rattle.std.specs.Prelude.{ℕ, suc, ◌≤◌, ◌<◌, ◌≡◌, Bool, true, List}
use Rattle.std.specs.Prelude.{Option, None, Some}
use Rattle.projection.specs.declared.Content.{Content}
use Rattle.std.proofs.Math.Option as maybe
use Rattle.std.proofs.Math.Option.{none, some}
use Rattle.calculus.specs.Syntax.{Ty, Term}
use Rattle.calculus.specs.Decide as Decide
use Rattle.calculus.specs.Decide.{is_top_like, field_part, both_parts, is_value, type_of}
use Rattle.calculus.specs.Evaluate.{first_part, content}
use Rattle.format.specs.Table.{term_sort, refers}
use Rattle.format.specs.Cell.{Cell, cell_at}
use Rattle.format.specs.Terms.{from_term}
use Rattle.cells.specs.Held.{HoldsType}
use Rattle.emission.specs.Runs.{Run}
use Rattle.projection.specs.declared.FieldPart.{FieldPart}
use Rattle.projection.specs.declared.FieldPart.TheVariants.{Absent, TopLike, One, More}

-- A cell holds a type.
pub record TypeAt (s : List ℕ) (a : ℕ) : Type 0 where
  pub type : Ty
  pub holds : HoldsType s a type

-- What is answered for a part of a type: one part by the cell of its content, before cell a.
abbrev pub PartIs : List ℕ → ℕ → FieldPart → Decide.FieldPart → Type 0
PartIs s a r Decide.no_part = r ≡ Absent
PartIs s a r Decide.top_part = r ≡ TopLike
PartIs s a r Decide.more_parts = r ≡ More
PartIs s a r (Decide.one_part C) = (p : ℕ) × (r ≡ One p) × (p < a) × HoldsType s p C

-- The answer for an intersection, from those for its halves.
pub record Joins (x y r : FieldPart) : Type 0 where
  pub says : (s : List ℕ) (a : ℕ) (p q : Decide.FieldPart) → PartIs s a x p → PartIs s a y q → PartIs s a r (both_parts p q)

-- The part of the type that has the field of label l.
pub record FindsFieldPart (s : List ℕ) (a l : ℕ) (r : FieldPart) : Type 0 where
  pub says : (A : Ty) → HoldsType s a A → PartIs s a r (field_part l A)

-- The same of the type whose cell is x, wherever it is, unless it is an intersection that is not top-like.
pub record FindsSingle (x : Cell) (l : ℕ) (r : FieldPart) : Type 0 where
  pub says : (s : List ℕ) (a : ℕ) → x ≡ cell_at s a → (x.kind ≡ 4 → x.c ≡ 1) → FindsFieldPart s a l r

-- The value e, its cells from start on, its last cell v.
pub record IsValueFrom (s : List ℕ) (start v : ℕ) (e : Term) : Type 0 where
  pub run : Run true s start (refers term_sort) v (from_term e) (suc v)
  pub final : is_value e ≡ true

-- Some value is there;
pub record ValueFrom (s : List ℕ) (start v : ℕ) : Type 0 where
  pub value : Term
  pub is : IsValueFrom s start v value

-- wherever it begins.
pub record ValueAt (s : List ℕ) (v : ℕ) : Type 0 where
  pub start : ℕ
  pub from : ValueFrom s start v

-- r is whether the type that the value shows is top-like.
pub record ShowsTopLike (s : List ℕ) (v : ℕ) (r : Bool) : Type 0 where
  pub says : (x : ℕ) (e : Term) → IsValueFrom s x v e → r ≡ is_top_like (type_of e)

-- The cells of a content, from start on before v; or that there is none.
abbrev pub ContentIs : List ℕ → ℕ → ℕ → Option Content → maybe.Option Term → Type 0
ContentIs s start v r none = r ≡ None
ContentIs s start v r (some e) = (x : ℕ) × (y : ℕ) × (r ≡ Some (record { start = x; end = suc y })) × (start ≤ x) × (suc y ≤ v) × IsValueFrom s x y e

-- The content of the first part of the value that has the field of label l.
pub record FindsContent (s : List ℕ) (start v l : ℕ) (r : Option Content) : Type 0 where
  pub says : (e : Term) → IsValueFrom s start v e → ContentIs s start v r (first_part (content l) e)
