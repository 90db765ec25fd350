-- The parts of a term in a buffer, by the fields of its cell as it was read; contexts and types in cells; and that a part is ready.
-- Assumes nothing.
use Prim.Native.Nat.{ℕ, zero, suc, ◌+◌, ◌*◌, ◌≤◌, ◌<◌}
use native.Mathlib.Omega.{arith}
use mathlib.Core.Path.{◌≡◌, refl, ◌∙◌}
use mathlib.Core.List.{List, ◌∷◌}
use mathlib.Core.Option.{some}
use Rattle.std.specs.Prelude.{Result, Ok}
use Rattle.answers.specs.declared.Refusal.{Refusal}
use Rattle.calculus.specs.Syntax.{Ty, top, arrow, field}
use Rattle.calculus.specs.Syntax.{Term, anno, app, lam, merge, fix, rcd, proj, size}
use Rattle.calculus.specs.Infer.{infer}
use Rattle.format.specs.declared.Version.TheVariants.{Two as Version-as-Two}
use Rattle.format.specs.Table.{term_sort, refers, Row, table, row_in, row_for, row_of}
use Rattle.format.specs.Cell.{Cell, cell_at}
use Rattle.format.proofs.Trees.{term_cells, term_positive}
use Rattle.cells.specs.declared.Cell as Code
use Rattle.cells.specs.Coded.{CellFits}
use Rattle.cells.specs.Held.{HoldsType, HoldsTerm, Same}
use Rattle.cells.proofs.Held.{TermAndType, TwoTerms, OneTerm, held_kinds, top_at, arrow_at, field_at, anno_at, app_at, lam_at, merge_at, fix_at, rcd_at, proj_at}
use Rattle.cells.proofs.Held.{same_held, same_context}
use Rattle.typing.specs.Finding.{FindReady, ReadyAt, Finds, RoomFor, Binds}
use Rattle.typing.proofs.Paths.{Leads, leads}
use Rattle.typing.proofs.Answers.{finding, IsFound, typed}

pub size_one : (e : Term) → 1 ≤ size e
size_one e = omega (arith, term_cells Version-as-Two e, term_positive Version-as-Two e)

-- field f of cell i is the lower cell j, which holds the term e
pub record Part (s : List ℕ) (i f j : ℕ) (e : Term) : Type 0 where
  pub leads : Leads s i f j
  pub holds : HoldsTerm s j e

-- an application or a merge
pub record Two (s : List ℕ) (i : ℕ) (y : Cell) (f : Term → Term → Term) (e : Term) : Type 0 where
  pub first : Term
  pub second : Term
  pub is : e ≡ f first second
  pub left : Part s i 0 y.a first
  pub right : Part s i 1 y.b second

two : {s : List ℕ} {i k : ℕ} {y : Cell} {f : Term → Term → Term} {e : Term} {r : Row} → y ≡ cell_at s i → (cell_at s i).kind ≡ k → row_of k ≡ some r
    → r.a ≡ refers term_sort → r.b ≡ refers term_sort → TwoTerms s i f e → Two s i y f e
two p k w a b t =
    rw p
    (record {
      first = t.first;
      second = t.second;
      is = t.is;
      left = record { leads = leads 0 k w a t.first_lower; holds = t.holds_first };
      right = record { leads = leads 1 k w b t.second_lower; holds = t.holds_second };
    })

-- an annotation or a fixpoint
pub record Noted (s : List ℕ) (i : ℕ) (y : Cell) (f : Term → Ty → Term) (e : Term) : Type 0 where
  pub term : Term
  pub type : Ty
  pub is : e ≡ f term type
  pub left : Part s i 0 y.a term
  pub lower : y.b < i
  pub holds : HoldsType s y.b type

noted : {s : List ℕ} {i k : ℕ} {y : Cell} {f : Term → Ty → Term} {e : Term} {r : Row} → y ≡ cell_at s i → (cell_at s i).kind ≡ k → row_of k ≡ some r
    → r.a ≡ refers term_sort → TermAndType s i f e → Noted s i y f e
noted p k w a t =
    rw p
    (record {
      term = t.term;
      type = t.type;
      is = t.is;
      left = record { leads = leads 0 k w a t.term_lower; holds = t.holds_term };
      lower = t.type_lower;
      holds = t.holds_type;
    })

pub record Function (s : List ℕ) (i : ℕ) (y : Cell) (e : Term) : Type 0 where
  pub body : Term
  pub input : Ty
  pub output : Ty
  pub is : e ≡ lam body input output
  pub left : Part s i 0 y.a body
  pub input_lower : y.b < i
  pub output_lower : y.c < i
  pub holds_input : HoldsType s y.b input
  pub holds_output : HoldsType s y.c output

-- a record or a field read
pub record One (s : List ℕ) (i : ℕ) (y : Cell) (f : ℕ → Term → Term) (e : Term) : Type 0 where
  pub term : Term
  pub is : e ≡ f y.label term
  pub left : Part s i 0 y.a term

one : {s : List ℕ} {i k : ℕ} {y : Cell} {f : ℕ → Term → Term} {e : Term} {r : Row} → y ≡ cell_at s i → (cell_at s i).kind ≡ k → row_of k ≡ some r
    → r.a ≡ refers term_sort → OneTerm s i f e → One s i y f e
one p k w a t = rw p (record { term = t.term; is = t.is; left = record { leads = leads 0 k w a t.lower; holds = t.holds } })

-- a term by the kind of its cell
module _ {s : List ℕ} {i : ℕ} {y : Cell} {e : Term} (p : y ≡ cell_at s i) (h : HoldsTerm s i e) where
  pub anno_of : (cell_at s i).kind ≡ 19 → Noted s i y anno e
  unfolding table row_in row_for
  anno_of k = noted p k refl refl (anno_at h k)

  pub app_of : (cell_at s i).kind ≡ 20 → Two s i y app e
  unfolding table row_in row_for
  app_of k = two p k refl refl refl (app_at h k)

  pub lam_of : (cell_at s i).kind ≡ 21 → Function s i y e
  unfolding table row_in row_for
  lam_of k = let t = lam_at h k in
      rw p
      (record {
        body = t.body;
        input = t.input;
        output = t.output;
        is = t.is;
        left = record { leads = leads 0 k refl refl t.body_lower; holds = t.holds_body };
        input_lower = t.input_lower;
        output_lower = t.output_lower;
        holds_input = t.holds_input;
        holds_output = t.holds_output;
      })

  pub merge_of : (cell_at s i).kind ≡ 22 → Two s i y merge e
  unfolding table row_in row_for
  merge_of k = two p k refl refl refl (merge_at h k)

  pub fix_of : (cell_at s i).kind ≡ 23 → Noted s i y fix e
  unfolding table row_in row_for
  fix_of k = noted p k refl refl (fix_at h k)

  pub rcd_of : (cell_at s i).kind ≡ 24 → One s i y rcd e
  unfolding table row_in row_for
  rcd_of k = one p k refl refl (rcd_at h k)

  pub proj_of : (cell_at s i).kind ≡ 25 → One s i y proj e
  unfolding table row_in row_for
  proj_of k = one p k refl refl (proj_at h k)

-- a function type
pub record Arrow (s : List ℕ) (i : ℕ) (y : Cell) (A : Ty) : Type 0 where
  pub input : Ty
  pub output : Ty
  pub is : A ≡ arrow input output
  pub input_lower : y.a < i
  pub output_lower : y.b < i
  pub holds_input : HoldsType s y.a input
  pub holds_output : HoldsType s y.b output

pub arrow_of : {s : List ℕ} {i : ℕ} {y : Cell} {A : Ty} → y ≡ cell_at s i → y.kind ≡ 3 → HoldsType s i A → Arrow s i y A
arrow_of p k h =
    let t = arrow_at h (rw p at k) in
    rw p
    (record {
      input = t.first;
      output = t.second;
      is = t.is;
      input_lower = t.first_lower;
      output_lower = t.second_lower;
      holds_input = t.holds_first;
      holds_output = t.holds_second;
    })

-- a record type
pub record Labelled (s : List ℕ) (i : ℕ) (y : Cell) (A : Ty) : Type 0 where
  pub content : Ty
  pub is : A ≡ field y.label content
  pub lower : y.a < i
  pub holds : HoldsType s y.a content

pub labelled_of : {s : List ℕ} {i : ℕ} {y : Cell} {A : Ty} → y ≡ cell_at s i → y.kind ≡ 5 → HoldsType s i A → Labelled s i y A
labelled_of p k h =
    let t = field_at h (rw p at k) in
    rw p (record { content = t.content; is = t.is; lower = t.lower; holds = t.holds })

pub top_of : {s : List ℕ} {i : ℕ} {y : Cell} {A : Ty} → y ≡ cell_at s i → y.kind ≡ 2 → HoldsType s i A → A ≡ top
top_of p k h = top_at h (rw p at k)

-- A part is ready in the buffer as it is later, with m cells used.
pub ready_part : {s u : List ℕ} {n m c i f j : ℕ} {e : Term} → FindReady s n c i → Part s i f j e → Same s u n → n ≤ m → m + size e ≤ 8192 → FindReady u m c j
ready_part {e = e} r p q l k =
    record {
      long = q.long ∙ r.long;
      context = r.context;
      holds_context = same_context q r.context_below r.holds_context;
      context_below = omega (arith, r.context_below);
      term = e;
      holds_term = same_held q (omega (arith, p.leads.lower, r.term_below)) p.holds;
      term_below = omega (arith, p.leads.lower, r.term_below);
      room = k;
    }

-- The body of a function or a fixpoint is ready under it.
pub ready_body : {s t : List ℕ} {n m k a c i f j : ℕ} {A : Ty} {e : Term} → FindReady s n c i → Part s i f j e →
    Binds s t n m a c k → HoldsType s a A → n + 1 + size e ≤ 8192 → FindReady t m k j
ready_body {A = A} {e = e} r p w h k =
    record {
      long = w.same.long ∙ r.long;
      context = A ∷ r.context;
      holds_context = w.holds A r.context h r.holds_context;
      context_below = omega (arith, w.answers, w.counts);
      term = e;
      holds_term = same_held w.same (omega (arith, p.leads.lower, r.term_below)) p.holds;
      term_below = omega (arith, w.counts, p.leads.lower, r.term_below);
      room = omega (arith, w.counts);
    }

-- What was found at a cell that was ready.
pub found : {s u : List ℕ} {n k c i x : ℕ} {r : Result ℕ Refusal} → (p : FindReady s n c i) → Finds s u n k c i r → r ≡ Ok x →
    IsFound s u n k (size p.term) x (infer p.context p.term)
found p f e = typed (finding f p.holds_context p.holds_term) e

-- There is room for a cell.
room_one : {s : List ℕ} {n c i : ℕ} → FindReady s n c i → n < 8192
room_one p = omega (arith, p.room, size_one p.term)

pub room_for : {s : List ℕ} {n c i : ℕ} {y : Code.Cell} → FindReady s n c i → CellFits y → RoomFor s n y
room_for p f = record { long = p.long; room = room_one p; fits = f }

-- The kind that was read, of a cell that is ready.
pub at_kind : {s : List ℕ} {n c i k : ℕ} {y : Cell} → FindReady s n c i → y ≡ cell_at s i → y.kind ≡ k → ReadyAt s n c i k
at_kind p o e = record { ready = p; kind = rw o at e }

-- k is none of the n numbers from m on
abbrev pub NoneOf : ℕ → ℕ → ℕ → Type 0
NoneOf k m zero = Unit {0}
NoneOf k m (suc n) = NoneOf k m n × ¬ (k ≡ m + n)

none_of : (k m n : ℕ) → m ≤ k → NoneOf k m n → m + n ≤ k
none_of k m zero h r = omega arith
none_of k m (suc n) h r = let b = none_of k m n h r.0 in omega (arith, r.1)

exactly : {k : ℕ} → (16 ≤ k) × (k ≤ 27) → 27 ≤ k → k ≡ 27
exactly b l = omega arith

-- A term of none of the other kinds is a choice.
pub at_last : {s : List ℕ} {n c i : ℕ} {y : Cell} → FindReady s n c i → y ≡ cell_at s i → NoneOf y.kind 16 11 → ReadyAt s n c i 27
at_last {y = y} p o r =
    let b : (16 ≤ y.kind) × (y.kind ≤ 27) = rw o (held_kinds p.holds_term) in
    at_kind p o (exactly b (none_of y.kind 16 11 b.0 r))

-- ---- what is known at a point of the code

-- A term of kind k is ready at cell i, which was read as y; the measure of its arm is μ.
pub record Read (s : List ℕ) (n c i k μ : ℕ) (y : Cell) : Type 0 where
  pub ready : FindReady s n c i
  pub kind : (cell_at s i).kind ≡ k
  pub cell : y ≡ cell_at s i
  pub measure : 3 * i ≡ μ

pub as_read : {s : List ℕ} {n c i k μ : ℕ} {y : Cell} → ReadyAt s n c i k → 3 * i ≡ μ → y ≡ cell_at s i → Read s n c i k μ y
as_read p m o = record { ready = p.ready; kind = p.kind; cell = o; measure = m }

-- The same, at some cell of some buffer.
pub record AtCell (k μ : ℕ) : Type 0 where
  pub s : List ℕ
  pub n : ℕ
  pub c : ℕ
  pub i : ℕ
  pub y : Cell
  pub read : Read s n c i k μ y

abbrev pub at_cell : {s : List ℕ} {n c i k μ : ℕ} {y : Cell} → Read s n c i k μ y → AtCell k μ
at_cell {s} {n} {c} {i} {y = y} p = record { s = s; n = n; c = c; i = i; y = y; read = p }

-- The term at cell j was asked for its type, which is at cell x, of k that are used then.
pub record FoundAt (s u : List ℕ) (n k c j x : ℕ) : Type 0 where
  pub answer : Result ℕ Refusal
  pub finds : Finds s u n k c j answer
  pub is : answer ≡ Ok x
