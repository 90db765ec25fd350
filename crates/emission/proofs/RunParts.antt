-- The parts of a run, by the kind of its last cell: each is a run of its own, and begins where the one before it ends. Assumes nothing.
use Prim.Native.Nat.{ℕ, suc}
use mathlib.Core.Bool.{Bool, true}
use mathlib.Core.Option.{some}
use mathlib.Core.Path.{◌≡◌, refl}
use mathlib.Core.List.{List}
use Rattle.calculus.specs.Syntax.{Ty, arrow, inter}
use Rattle.calculus.specs.Syntax.{Term, lam, merge, fix, rcd}
use Rattle.format.specs.Table.{Sort, type_sort, term_sort, refers, Row, row_for, row_of, row_in, table}
use Rattle.format.specs.Cell.{Cell, cell_at}
use Rattle.format.specs.Tree.{Tree, node}
use Rattle.format.specs.Terms.{from_type, from_term_in, from_term, WideFits}
use Rattle.cells.specs.Held.{Thing, Holds}
use Rattle.cells.proofs.Held as Held
use Rattle.cells.proofs.Shapes as Shapes
use Rattle.cells.proofs.Shapes.{Two, TermAndType}
use Rattle.emission.specs.Runs.{Run, RunsType, RunsTerm}
use Rattle.emission.proofs.Runs.{ends, whole, parts, holds_type, holds_term}

pub runs_type : {s : List ℕ} {x n e : ℕ} {A : Ty} → Run true s x (refers type_sort) n (from_type A) e → RunsType s n A
runs_type {x = x} r = record { start = x; run = whole r }

pub runs_term : {s : List ℕ} {x n e : ℕ} {t : Term} → WideFits t → Run true s x (refers term_sort) n (from_term t) e → RunsTerm s n t
runs_term {x = x} f r = record { start = x; run = whole r; fits = f }

-- the fields of the cell i
pub record Fields (q : Bool) (s : List ℕ) (x i : ℕ) (f g h : Tree) (r : Row) : Type 0 where
  pub y : ℕ
  pub z : ℕ
  pub first : Run q s x r.a (cell_at s i).a f y
  pub second : Run q s y r.b (cell_at s i).b g z
  pub third : Run q s z r.c (cell_at s i).c h i

pub fields : {q : Bool} {s : List ℕ} {x i e k m : ℕ} {o : Sort} {f g h : Tree} {r : Row} → Run q s x (refers o) i (node k m f g h) e → row_of k ≡ some r → Fields q s x i f g h r
fields t w =
    let p = parts t w in
    let c = p.cell.is in
    record { y = p.y; z = p.z; first = rw c p.first; second = rw c p.second; third = rw c p.third }

-- ---- what stands there, in the shapes that `Holds` has

abbrev Runs : List ℕ → (o : Sort) → ℕ → Thing o → Type 0
Runs s type_sort = RunsType s
Runs s term_sort = RunsTerm s

abbrev pub TwoTypes : List ℕ → ℕ → (Ty → Ty → Ty) → Ty → Type 0
TwoTypes s i = Two (Runs s) (cell_at s i) i type_sort

abbrev pub OneType : List ℕ → ℕ → Ty → Type 0
OneType s i = Shapes.OneType (Runs s) (cell_at s i) i

abbrev pub FunctionAt : List ℕ → ℕ → Term → Type 0
FunctionAt s i = Shapes.FunctionAt (Runs s) (cell_at s i) i

abbrev pub OneTerm : List ℕ → ℕ → (ℕ → Term → Term) → Term → Type 0
OneTerm s i = Shapes.OneTerm (Runs s) (cell_at s i) i

two : {s : List ℕ} {t : Cell} {i : ℕ} {o : Sort} {f : Thing o → Thing o → Thing o} {x : Thing o} (w : Two (Holds s) t i o f x) → Runs s o t.a w.first → Runs s o t.b w.second
    → Two (Runs s) t i o f x
two w a b =
    record { first = w.first; second = w.second; is = w.is; first_lower = w.first_lower; second_lower = w.second_lower; holds_first = a; holds_second = b }

module _ {s : List ℕ} {i : ℕ} {A : Ty} (r : RunsType s i A) where
  pub arrow_at : (cell_at s i).kind ≡ 3 → TwoTypes s i arrow A
  unfolding from_type table row_in row_for
  arrow_at k =
      let w = Held.arrow_at (holds_type r) k in
      let p = fields (rw w.is at r).run refl in
      two {o = type_sort} w (runs_type p.first) (runs_type p.second)

  pub inter_at : (cell_at s i).kind ≡ 4 → TwoTypes s i inter A
  unfolding from_type table row_in row_for
  inter_at k =
      let w = Held.inter_at (holds_type r) k in
      let p = fields (rw w.is at r).run refl in
      two {o = type_sort} w (runs_type p.first) (runs_type p.second)

  pub field_at : (cell_at s i).kind ≡ 5 → OneType s i A
  unfolding from_type table row_in row_for
  field_at k =
      let w = Held.field_at (holds_type r) k in
      let p = fields (rw w.is at r).run refl in
      record { content = w.content; is = w.is; lower = w.lower; holds = runs_type p.first }

module _ {s : List ℕ} {i : ℕ} {e : Term} (r : RunsTerm s i e) where
  pub lam_at : (cell_at s i).kind ≡ 21 → FunctionAt s i e
  unfolding from_term_in table row_in row_for
  lam_at k =
      let w = Held.lam_at (holds_term r) k in
      let t = rw w.is at r in
      let p = fields t.run refl in
      record {
        body = w.body;
        input = w.input;
        output = w.output;
        is = w.is;
        body_lower = w.body_lower;
        input_lower = w.input_lower;
        output_lower = w.output_lower;
        holds_body = runs_term t.fits.0 p.first;
        holds_input = runs_type p.second;
        holds_output = runs_type p.third;
      }

  pub merge_at : (cell_at s i).kind ≡ 22 → Two (Runs s) (cell_at s i) i term_sort merge e
  unfolding from_term_in table row_in row_for
  merge_at k =
      let w = Held.merge_at (holds_term r) k in
      let t = rw w.is at r in
      let p = fields t.run refl in
      two {o = term_sort} w (runs_term t.fits.0 p.first) (runs_term t.fits.1 p.second)

  pub fix_at : (cell_at s i).kind ≡ 23 → TermAndType (Runs s) (cell_at s i) i fix e
  unfolding from_term_in table row_in row_for
  fix_at k =
      let w = Held.fix_at (holds_term r) k in
      let t = rw w.is at r in
      let p = fields t.run refl in
      record {
        term = w.term;
        type = w.type;
        is = w.is;
        term_lower = w.term_lower;
        type_lower = w.type_lower;
        holds_term = runs_term t.fits.0 p.first;
        holds_type = runs_type p.second;
      }

  pub rcd_at : (cell_at s i).kind ≡ 24 → OneTerm s i rcd e
  unfolding from_term_in table row_in row_for
  rcd_at k =
      let w = Held.rcd_at (holds_term r) k in
      let t = rw w.is at r in
      let p = fields t.run refl in
      record { term = w.term; is = w.is; lower = w.lower; holds = runs_term t.fits.1 p.first }

-- the second part begins behind the first
pub behind : {q : Bool} {s : List ℕ} {x y z n m : ℕ} {o u : Sort} {f g : Tree} → Run q s x (refers o) n f y → Run q s y (refers u) m g z → Run q s (suc n) (refers u) m g (suc m)
behind r t = rw (ends r) at (whole t)

module _ {s : List ℕ} {i : ℕ} where
  pub arrow_second : {A B : Ty} → RunsType s i (arrow A B) → Run true s (suc (cell_at s i).a) (refers type_sort) (cell_at s i).b (from_type B) (suc (cell_at s i).b)
  unfolding from_type table row_in row_for
  arrow_second r = let p = fields r.run refl in behind p.first p.second

  pub lam_second : {e : Term} {A B : Ty} → RunsTerm s i (lam e A B) → Run true s (suc (cell_at s i).a) (refers type_sort) (cell_at s i).b (from_type A) (suc (cell_at s i).b)
  unfolding from_term_in table row_in row_for
  lam_second r = let p = fields r.run refl in behind p.first p.second
