-- Contraction on cells: what a call needs, and what it answers and leaves. Assumes nothing.
use Rattle.std.specs.Prelude.{ℕ, suc, ◌+◌, ◌≤◌, ◌<◌, ◌≡◌, true, List, Option}
use Rattle.std.proofs.Math.Option.{some}
use Rattle.calculus.specs.Syntax.{Ty, int, Term, anno, app, fix, choice, substitute}
use Rattle.calculus.specs.Decide.{is_value}
use Rattle.calculus.specs.Evaluate.{cast, next}
use Rattle.format.specs.Cell.{cell_at}
use Rattle.format.specs.Table.{Use, unused, plain, refers, type_sort, term_sort}
use Rattle.format.specs.Tree.{Tree, raw}
use Rattle.format.specs.Terms.{from_type, from_term}
use Rattle.cells.specs.Held.{IsCell}
use Rattle.cells.specs.Coded.{use_of}
use Rattle.cells.specs.declared.Use as Code
use Rattle.emission.specs.Emits.{Space, Emits}
use Rattle.emission.specs.Runs.{Run, RunsType, RunsTerm}
use Rattle.reduction.specs.declared.Source.{Source}
use Rattle.reduction.specs.declared.Source.TheVariants.{Reading, Standing}

-- What is substituted for a variable: the reading of a value under a type, or a term as it stands.
pub data Substitutes (s : List ℕ) : Source → Term → Type 0 where
  casts : {v a : ℕ} {e x : Term} {A : Ty} → RunsTerm s v e → RunsType s a A → cast A e ≡ some x → Substitutes s (Reading v a) x
  stands : {b i : ℕ} {x : Term} → Run true s b (refers term_sort) i (from_term x) (suc i) → Substitutes s (Standing b i) x

-- Something is substituted, and there is a buffer for it.
pub record SourceReady (s d : List ℕ) (m : ℕ) (p : Source) : Type 0 where
  pub space : Space d m
  pub substituted : Term
  pub substitutes : Substitutes s p substituted

-- What is substituted is emitted.
pub record EmitsSource (s d t : List ℕ) (m : ℕ) (p : Source) (r : Option ℕ) : Type 0 where
  pub says : (x : Term) → Substitutes s p x → Emits d t m r (from_term x)

-- The tree of a field n of a body's cell i: a term has x substituted for the variable that skips k binders, all else is as it stands.
pub data SubstitutedField (s : List ℕ) (i k : ℕ) (x : Term) : Use → ℕ → Tree → Type 0 where
  p_unused : {n : ℕ} → SubstitutedField s i k x unused n (raw 0)
  p_plain : {n : ℕ} → SubstitutedField s i k x plain n (raw n)
  p_type : {n : ℕ} {A : Ty} → n < i → RunsType s n A → SubstitutedField s i k x (refers type_sort) n (from_type A)
  p_term : {n : ℕ} {e : Term} → n < i → RunsTerm s n e → SubstitutedField s i k x (refers term_sort) n (from_term (substitute k x e))

-- A field n of use u, of some cell, and what is substituted.
pub record FieldSubstituteReady (s d : List ℕ) (u : Code.Use) (n k m : ℕ) (p : Source) : Type 0 where
  pub source : SourceReady s d m p
  pub cell : ℕ
  pub small : k + cell ≤ 131072
  pub tree : Tree
  pub holds : SubstitutedField s cell k source.substituted (use_of u) n tree

-- The tree of the field is emitted.
pub record EmitsSubstitutedField (s d t : List ℕ) (u : Code.Use) (n k m : ℕ) (p : Source) (r : Option ℕ) : Type 0 where
  pub says : (i : ℕ) (x : Term) (f : Tree) → Substitutes s p x → SubstitutedField s i k x (use_of u) n f → Emits d t m r f

-- A body at i, and what is substituted for its variable that skips k binders.
pub record SubstituteReady (s d : List ℕ) (i k m : ℕ) (p : Source) : Type 0 where
  pub source : SourceReady s d m p
  pub small : k + i < 131072
  pub body : Term
  pub holds : RunsTerm s i body

-- The same at a variable.
pub record VariableReady (s d : List ℕ) (i k m : ℕ) (p : Source) : Type 0 where
  pub ready : SubstituteReady s d i k m p
  pub kind : (cell_at s i).kind ≡ 16

-- The body with that substituted is emitted.
pub record EmitsSubstituted (s d t : List ℕ) (i k m : ℕ) (p : Source) (r : Option ℕ) : Type 0 where
  pub says : (e x : Term) → RunsTerm s i e → Substitutes s p x → Emits d t m r (from_term (substitute k x e))

-- A body at i, what is substituted for its variable 0, and the type at a that is to annotate it.
pub record InstanceReady (s d : List ℕ) (i a m : ℕ) (p : Source) : Type 0 where
  pub body : SubstituteReady s d i 0 m p
  pub type : Ty
  pub holds : RunsType s a type

-- The body with that substituted, annotated, is emitted.
pub record EmitsInstance (s d t : List ℕ) (i a m : ℕ) (p : Source) (r : Option ℕ) : Type 0 where
  pub says : (e x : Term) (A : Ty) → RunsTerm s i e → Substitutes s p x → RunsType s a A → Emits d t m r (from_term (anno (substitute 0 x e) A))

-- A term at i that is to be annotated Int, and a buffer for it.
pub record AnnotateReady (s d : List ℕ) (i m : ℕ) : Type 0 where
  pub space : Space d m
  pub term : Term
  pub holds : RunsTerm s i term

-- The term, annotated Int, is emitted.
pub record EmitsAnnotated (s d t : List ℕ) (i m : ℕ) (r : Option ℕ) : Type 0 where
  pub says : (e : Term) → RunsTerm s i e → Emits d t m r (from_term (anno e int))

-- A redex at i: an annotated value, a value applied to a value, a choice by a value, each part the end of a run; or a fixpoint, the end of a run itself.
pub data Redex (s : List ℕ) (i : ℕ) : Term → Type 0 where
  at_anno : {l a b c : ℕ} {v : Term} {A : Ty} → IsCell s i 19 l a b c → a < i → b < i → is_value v ≡ true → RunsTerm s a v → RunsType s b A → Redex s i (anno v A)
  at_app : {l a b c : ℕ} {v u : Term} → IsCell s i 20 l a b c → a < i → b < i → is_value v ≡ true → is_value u ≡ true → RunsTerm s a v → RunsTerm s b u →
      Redex s i (app v u)
  at_choice : {l a b c : ℕ} {v e f : Term} → IsCell s i 27 l a b c → a < i → b < i → c < i → is_value v ≡ true → RunsTerm s a v → RunsTerm s b e →
      RunsTerm s c f → Redex s i (choice v e f)
  at_fix : {e : Term} {A : Ty} → RunsTerm s i (fix e A) → Redex s i (fix e A)

-- A redex that has a successor, sums being held to some range, and a buffer for it.
pub record ContractReady (s d : List ℕ) (i m : ℕ) : Type 0 where
  pub space : Space d m
  pub low : i < 8192
  pub term : Term
  pub redex : Redex s i term
  pub half : ℕ
  pub successor : Term
  pub steps : next half term ≡ some successor

-- The same, at a cell of kind k.
pub record ContractAt (s d : List ℕ) (i m k : ℕ) : Type 0 where
  pub ready : ContractReady s d i m
  pub kind : (cell_at s i).kind ≡ k

-- The successor is emitted, to whatever range sums are held; h is half of it.
pub record EmitsContractum (s d t : List ℕ) (i m : ℕ) (r : Option ℕ) : Type 0 where
  pub says : (h : ℕ) (e f : Term) → Redex s i e → next h e ≡ some f → Emits d t m r (from_term f)
