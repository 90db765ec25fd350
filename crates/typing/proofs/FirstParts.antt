-- Application, merge, record and field read find the type of the part at field a first, and hand its refusal on. Assumes nothing.
use Prim.Native.Nat.{ℕ, ◌+◌, ◌*◌, ◌≤◌, ◌<◌}
use native.Mathlib.Omega.{arith}
use mathlib.Core.Path.{◌≡◌, refl, ◌∙◌, ap}
use mathlib.Core.List.{List, ◌∷◌}
use lib.ListN.{length}
use Rattle.std.specs.Prelude.{Result, Ok, Err}
use Rattle.calculus.specs.Syntax.{Ty, Term, app, merge, size}
use Rattle.calculus.specs.Infer as Infer
use Rattle.calculus.specs.Infer.{Reason, applied, merged, labelled, projected, infer}
use Rattle.format.specs.Cell.{Cell, cell_at}
use Rattle.answers.specs.declared.Refusal.{Refusal}
use Rattle.cells.specs.Held.{HoldsTerm, HoldsContext}
use Rattle.cells.proofs.Held.{same_held, same_context, same_refl, held_within}
use Rattle.typing.specs.Finding.{FindReady, Finds}
use Rattle.typing.proofs.Answers.{finding, IsFound, typed, refused_by, handed}
use Rattle.typing.proofs.Parts.{Part, Two, ready_part, Read, AtCell, FoundAt, app_of, merge_of, rcd_of, proj_of}

-- The term e at cell i, whose part at field a is cell j.
pub record Left (s : List ℕ) (i j : ℕ) (e : Term) : Type 0 where
  pub term : Term
  pub part : Part s i 0 j term
  pub smaller : size term < size e
  pub hands : (Γ : List Ty) (r : Reason) (p : List ℕ) → infer Γ term ≡ Infer.refused r p → infer Γ e ≡ Infer.refused r (0 ∷ p)

-- whatever term the cell holds
pub record Lefts (s : List ℕ) (i j : ℕ) : Type 0 where
  pub of : {e : Term} → HoldsTerm s i e → Left s i j e

module _ {s : List ℕ} {i : ℕ} {y : Cell} (o : y ≡ cell_at s i) where
  app_lefts : (cell_at s i).kind ≡ 20 → Lefts s i y.a
  unfolding infer applied size
  app_lefts k =
      record {
        of = λ h.
            let v = app_of o h k in
            record { term = v.first; part = v.left; smaller = omega (arith, ap size v.is); hands = λ Γ r p q. ap (infer Γ) v.is ∙ rw q };
      }

  merge_lefts : (cell_at s i).kind ≡ 22 → Lefts s i y.a
  unfolding infer merged size
  merge_lefts k =
      record {
        of = λ h.
            let v = merge_of o h k in
            record { term = v.first; part = v.left; smaller = omega (arith, ap size v.is); hands = λ Γ r p q. ap (infer Γ) v.is ∙ rw q };
      }

  rcd_lefts : (cell_at s i).kind ≡ 24 → Lefts s i y.a
  unfolding infer labelled size
  rcd_lefts k =
      record {
        of = λ h.
            let v = rcd_of o h k in
            record { term = v.term; part = v.left; smaller = omega (arith, ap size v.is); hands = λ Γ r p q. ap (infer Γ) v.is ∙ rw q };
      }

  proj_lefts : (cell_at s i).kind ≡ 25 → Lefts s i y.a
  unfolding infer projected size
  proj_lefts k =
      record {
        of = λ h.
            let v = proj_of o h k in
            record { term = v.term; part = v.left; smaller = omega (arith, ap size v.is); hands = λ Γ r p q. ap (infer Γ) v.is ∙ rw q };
      }

-- the kinds that begin so
pub data HasFirstPart : ℕ → Type 0 where
  app_first : HasFirstPart 20
  merge_first : HasFirstPart 22
  rcd_first : HasFirstPart 24
  proj_first : HasFirstPart 25

lefts : {s : List ℕ} {n c i k μ : ℕ} {y : Cell} → HasFirstPart k → Read s n c i k μ y → Lefts s i y.a
lefts app_first p = app_lefts p.cell p.kind
lefts merge_first p = merge_lefts p.cell p.kind
lefts rcd_first p = rcd_lefts p.cell p.kind
lefts proj_first p = proj_lefts p.cell p.kind

module _ {s : List ℕ} {n c i k μ : ℕ} {y : Cell} (b : HasFirstPart k) (p : Read s n c i k μ y) where
  pub left_asks : (3 * y.a + 2 < μ) × FindReady s n c y.a
  left_asks =
      let v = (lefts b p).of p.ready.holds_term in
      (omega (arith, v.part.leads.lower, p.measure), ready_part p.ready v.part (same_refl s n) (omega arith) (omega (arith, v.smaller, p.ready.room)))

  pub left_refused : {u : List ℕ} {m : ℕ} {r : Result ℕ Refusal} {q : Refusal} → Finds s u n m c y.a r → r ≡ Err q → Finds s u n m c i (Err q)
  left_refused f e =
      record {
        says = λ Γ d g h.
            let v = (lefts b p).of h in
            let z = refused_by (finding f g v.part.holds) e in
            rw (v.hands Γ z.reason z.path z.is) (handed v.part.leads p.ready.term_below (same_refl s n) z);
      }

  -- the found type's cell can be read
  pub left_within : {u : List ℕ} {m x : ℕ} → FoundAt s u n m c y.a x → 8 * x + 8 ≤ length u
  left_within f =
      let v = (lefts b p).of p.ready.holds_term in
      held_within (typed (finding f.finds p.ready.holds_context v.part.holds) f.is).holds

-- ---- two sides: the left's type is found, and the right side comes next

-- a kind of two terms
pub data Sides : ℕ → (Term → Term → Term) → Type 0 where
  app_sides : Sides 20 app
  merge_sides : Sides 22 merge

sides_at : {s : List ℕ} {i k : ℕ} {y : Cell} {f : Term → Term → Term} {e : Term} → Sides k f → y ≡ cell_at s i → HoldsTerm s i e → (cell_at s i).kind ≡ k → Two s i y f e
sides_at app_sides p h k = app_of p h k
sides_at merge_sides p h k = merge_of p h k

sides_size : {k : ℕ} {f : Term → Term → Term} → Sides k f → (a b : Term) → size (f a b) ≡ 1 + size a + size b
unfolding size
sides_size app_sides a b = refl
sides_size merge_sides a b = refl

module _ {s u : List ℕ} {n m c i k x μ : ℕ} {y : Cell} {f : Term → Term → Term} (d : Sides k f) (p : Read s n c i k μ y)
    (q : FoundAt s u n m c y.a x) where
  -- of whatever context and term the cells hold
  pub record Known (Γ : List Ty) (t : Term) : Type 0 where
    pub sides : Two s i y f t
    pub sizes : size t ≡ 1 + size sides.first + size sides.second
    pub left : IsFound s u n m (size sides.first) x (infer Γ sides.first)
    pub context : HoldsContext u c Γ
    pub right : HoldsTerm u y.b sides.second

  pub known : {Γ : List Ty} {t : Term} → HoldsContext s c Γ → HoldsTerm s i t → Known Γ t
  known g h =
      let v = sides_at d p.cell h p.kind in
      let z = typed (finding q.finds g v.left.holds) q.is in
      record {
        sides = v;
        sizes = ap size v.is ∙ sides_size d v.first v.second;
        left = z;
        context = same_context z.same p.ready.context_below g;
        right = same_held z.same (omega (arith, v.right.leads.lower, p.ready.term_below)) v.right.holds;
      }

  pub own : Known p.ready.context p.ready.term
  own = known p.ready.holds_context p.ready.holds_term

  pub right_asks : (3 * y.b + 2 < μ) × FindReady u m c y.b
  right_asks =
      let z = own in (
        omega (arith, z.sides.right.leads.lower, p.measure),
        ready_part p.ready z.sides.right z.left.same z.left.more (omega (arith, p.ready.room, z.sizes, z.left.less)),
      )

-- ---- the points of the code where the part's type is found, and where its cell is read

pub record AtLeft (k μ : ℕ) : Type 0 where
  pub at : AtCell k μ
  pub u : List ℕ
  pub m : ℕ
  pub x : ℕ
  pub left : FoundAt at.s u at.n m at.c at.y.a x

abbrev pub at_left : {k m x μ : ℕ} {u : List ℕ} {r : Result ℕ Refusal} (p : AtCell k μ) → Finds p.s u p.n m p.c p.y.a r → r ≡ Ok x → AtLeft k μ
at_left {m = m} {x = x} {u = u} {r = r} p f e = record { at = p; u = u; m = m; x = x; left = record { answer = r; finds = f; is = e } }

pub record AtType (k μ : ℕ) : Type 0 where
  pub at : AtLeft k μ
  pub g : Cell
  pub type : g ≡ cell_at at.u at.x
