-- Reading a value under a type, each the end of a run of cells: what a call needs, and what it answers and leaves. Assumes nothing.
use Rattle.std.specs.Prelude.{ℕ, ◌*◌, ◌<◌, ◌≡◌, Bool, true, false, List, Option, None, Some}
use Rattle.std.proofs.Math.Option.{Option as Maybe, none, some, or_else}
use Rattle.calculus.specs.Syntax.{Ty, int, arrow, Term, lit, lam, merge}
use Rattle.calculus.specs.Subtyping.{Ordinary, TopLike}
use Rattle.calculus.specs.Evaluate.{cast}
use Rattle.format.specs.declared.Version.TheVariants.{Two}
use Rattle.format.specs.Version.{half_of}
use Rattle.format.specs.Cell.{cell_at, signed}
use Rattle.format.specs.Terms.{from_term}
use Rattle.emission.specs.Emits.{Space, Emits}
use Rattle.emission.specs.Runs.{RunsType, RunsTerm}

-- There is an answer.
abbrev pub is_some : Maybe Term → Bool
is_some none = false
is_some (some x) = true

-- A value at v and a type at a.
pub record ValueAndType (s : List ℕ) (v a : ℕ) : Type 0 where
  pub value : Term
  pub type : Ty
  pub holds_value : RunsTerm s v value
  pub holds_type : RunsType s a type

-- Whether the value can be read under the type.
pub record Castable (s : List ℕ) (v a : ℕ) (r : Bool) : Type 0 where
  pub says : (e : Term) (A : Ty) → RunsTerm s v e → RunsType s a A → r ≡ is_some (cast A e)

-- The type is neither an intersection nor top-like.
pub record ProperAt (s : List ℕ) (v a : ℕ) : Type 0 where
  pub both : ValueAndType s v a
  pub ordinary : Ordinary both.type
  pub proper : ¬ TopLike both.type

-- A value that has no halves to be read from.
abbrev pub NoMerge : Term → Type 0
NoMerge f = (g h : Term) → ¬ (f ≡ merge g h)

-- The same, and the value is no merge.
pub record SingleAt (s : List ℕ) (v a : ℕ) : Type 0 where
  pub at : ProperAt s v a
  pub single : NoMerge at.both.value

-- The cell p is a part of the value at v, no merge: the value itself, or a part of a half.
pub data PartAt (s : List ℕ) : ℕ → ℕ → Type 0 where
  itself : {v : ℕ} {e : Term} → RunsTerm s v e → NoMerge e → PartAt s v v
  in_left : {v p : ℕ} → (cell_at s v).kind ≡ 22 → PartAt s (cell_at s v).a p → PartAt s v p
  in_right : {v p : ℕ} → (cell_at s v).kind ≡ 22 → PartAt s (cell_at s v).b p → PartAt s v p

-- A reading goes into the halves of a merge, the left one first.
abbrev pub Splits : (Term → Maybe Term) → Type 0
Splits q = (e f : Term) → q (merge e f) ≡ or_else (q e) (q f)

-- The test says of every part of the value whether it can be read.
abbrev pub TestsParts : (s : List ℕ) → (Term → Maybe Term) → (ℕ → Bool → Type 0) → Type 0
TestsParts s q test = (p : ℕ) (e : Term) (b : Bool) → RunsTerm s p e → NoMerge e → test p b → b ≡ is_some (q e)

-- The first part of the value that a reading has an answer for: what it reads, the value reads.
abbrev pub FirstBy : (s : List ℕ) (q : Term → Maybe Term) → Option ℕ → Maybe Term → Type 0
FirstBy s q r none = r ≡ None
FirstBy s q r (some x) = (p : ℕ) × (f : Term) × (r ≡ Some p) × RunsTerm s p f × (q f ≡ some x) × NoMerge f

-- The same of reading under a type.
abbrev pub PartBy : (s : List ℕ) (A : Ty) → Option ℕ → Maybe Term → Type 0
PartBy s A = FirstBy s (cast A)

-- The first part that passes the test, whatever reading the test decides; none if no part passes.
pub record FindsFirst (s : List ℕ) (v : ℕ) (test : ℕ → Bool → Type 0) (r : Option ℕ) : Type 0 where
  pub says : (q : Term → Maybe Term) → Splits q → TestsParts s q test → (e : Term) → RunsTerm s v e → FirstBy s q r (q e)

-- That part; none if the value cannot be read.
pub record FindsPart (s : List ℕ) (v a : ℕ) (r : Option ℕ) : Type 0 where
  pub says : (e : Term) (A : Ty) → RunsTerm s v e → RunsType s a A → PartBy s A r (cast A e)

-- The part by which a value that can be read is read.
pub record PartOf (s : List ℕ) (v a : ℕ) (r : Option ℕ) : Type 0 where
  pub says : (e x : Term) (A : Ty) → RunsTerm s v e → RunsType s a A → cast A e ≡ some x → PartBy s A r (some x)

-- A value that can be read under a type, and a buffer for its reading.
pub record CastReady (s d : List ℕ) (v a m : ℕ) : Type 0 where
  pub space : Space d m
  pub both : ValueAndType s v a
  pub reduct : Term
  pub casts : cast both.type both.value ≡ some reduct

-- The same, under a type that is neither an intersection nor top-like.
pub record PartReady (s d : List ℕ) (v a m : ℕ) : Type 0 where
  pub ready : CastReady s d v a m
  pub ordinary : Ordinary ready.both.type
  pub proper : ¬ TopLike ready.both.type

-- The reading is emitted.
pub record EmitsCast (s d t : List ℕ) (v a m : ℕ) (r : Option ℕ) : Type 0 where
  pub says : (e x : Term) (A : Ty) → RunsTerm s v e → RunsType s a A → cast A e ≡ some x → Emits d t m r (from_term x)

-- A function, a function type, and a buffer.
pub record FunctionReady (s d : List ℕ) (p a m : ℕ) : Type 0 where
  pub space : Space d m
  pub body : Term
  pub input : Ty
  pub output : Ty
  pub first : Ty
  pub second : Ty
  pub holds_function : RunsTerm s p (lam body input output)
  pub holds_type : RunsType s a (arrow first second)

-- The function with the output type of the other.
pub record EmitsFunction (s d t : List ℕ) (p a m : ℕ) (r : Option ℕ) : Type 0 where
  pub says : (e : Term) (A B C D : Ty) → RunsTerm s p (lam e A B) → RunsType s a (arrow C D) → Emits d t m r (from_term (lam e A D))

-- A value at v.
pub record ValueEnds (s : List ℕ) (v : ℕ) : Type 0 where
  pub value : Term
  pub holds : RunsTerm s v value

-- The part by which it is read under Int; none if it cannot be.
pub record FindsNumber (s : List ℕ) (v : ℕ) (r : Option ℕ) : Type 0 where
  pub says : (e : Term) → RunsTerm s v e → PartBy s int r (cast int e)

-- A value that can be read under Int.
pub record NumberReady (s : List ℕ) (v : ℕ) : Type 0 where
  pub at : ValueEnds s v
  pub reduct : Term
  pub casts : cast int at.value ≡ some reduct

-- The number that it is read as, stored: "The reader of a number now promises 48 bits".
pub record ReadsNumber (s : List ℕ) (v r : ℕ) : Type 0 where
  pub fits : r < 2 * half_of Two
  pub says : (e x : Term) → RunsTerm s v e → cast int e ≡ some x → x ≡ lit (signed (half_of Two) r)
