-- Looking a variable up, the arms with no call of finding, and the cell of an intersection. Assumes nothing.
use Prim.Native.Nat.{ℕ, zero, suc, ◌+◌, ◌*◌, ◌-◌, ◌≤◌, ◌<◌}
use native.Mathlib.Omega.{arith}
use native.Mathlib.Numerals.{sub-one}
use mathlib.Core.Path.{◌≡◌, refl}
use mathlib.Core.Bool.{Bool, true, false, ◌&&◌, cond}
use mathlib.Core.Option as Math
use mathlib.Core.Option.{none, some}
use mathlib.Core.List.{List, [], ◌∷◌}
use lib.ListN.{length, get_elem?}
use lib.Seq.{sets}
use Rattle.std.specs.Prelude.{Option, Some, None, Result, Ok, ok_or}
use Rattle.calculus.specs.Syntax.{Ty, inter, Term, var, size}
use Rattle.calculus.specs.Infer as Infer
use Rattle.calculus.specs.Infer.{infer}
use Rattle.calculus.specs.Decide.{is_top_like}
use Rattle.format.specs.Cell.{Cell, cell_at, cell_bytes}
use Rattle.format.specs.Book.{follow}
use Rattle.answers.specs.declared.Refusal.{Refusal}
use Rattle.answers.specs.declared.Refusal.TheVariants.{Unbound}
use Rattle.cells.specs.declared.Cell as Code
use Rattle.cells.specs.Coded.{as_cell, CellFits}
use Rattle.cells.specs.Held.{mark, HoldsType, HoldsTerm, HoldsContext, h_empty, h_bind}
use Rattle.cells.proofs.Makes.{h_int, h_top, h_inter}
use Rattle.cells.proofs.Held.{same_held, same_context, same_refl, type_mark, mark_one, written, var_at, lit_at, unit_at}
use Rattle.typing.specs.declared.TheConstants.{INT, TOP}
use Rattle.typing.specs.Finding.{Answered, ReadyAt, Finds, BoundBy, ContextAt, Looks, RoomFor, Adds, BinderBelow, Binds, TypesBelow, AddsInter}

-- ---- contexts

pub context_empty : {s : List ℕ} {c : ℕ} {Γ : List Ty} → HoldsContext s c Γ → c ≡ 0 → Γ ≡ []
context_empty h_empty e = refl
context_empty (h_bind p a b h g) e = absurd (omega arith)

pub context_within : {s : List ℕ} {c : ℕ} {Γ : List Ty} → HoldsContext s c Γ → ¬ (c ≡ 0) → 8 * c + 8 ≤ length s
context_within h_empty z = absurd (z refl)
context_within (h_bind p a b h g) z = p.within

-- a context of one type and the rest
pub record Bind (s : List ℕ) (c : ℕ) (y : Cell) (Γ : List Ty) : Type 0 where
  pub type : Ty
  pub rest : List Ty
  pub is : Γ ≡ type ∷ rest
  pub type_lower : y.a < c
  pub rest_lower : y.b < c
  pub holds_type : HoldsType s y.a type
  pub holds_rest : HoldsContext s y.b rest

pub bind_at : {s : List ℕ} {c : ℕ} {y : Cell} {Γ : List Ty} → y ≡ cell_at s c → HoldsContext s c Γ → ¬ (c ≡ 0) → Bind s c y Γ
bind_at o h_empty z = absurd (z refl)
bind_at o (h_bind {A = A} {Γ = Γ} p a b h g) z =
    rw (o, p.is) (record { type = A; rest = Γ; is = refl; type_lower = a; rest_lower = b; holds_type = h; holds_rest = g })

-- ---- a cell more

pub adds : {s t : List ℕ} {n : ℕ} (y : Code.Cell) → RoomFor s n y → t ≡ sets s (8 * n) (cell_bytes (as_cell y)) →
    Adds s t n (n + 1) y n
adds y p e =
    let w = written _ (omega (arith, p.long, p.room)) e in
    record { answers = refl; counts = refl; same = w.same; there = w.there }

-- the cell of a binder, above all cells
pub binds : {s t : List ℕ} {n k a c r : ℕ} → BinderBelow s n a c → Adds s t n k (record { kind = 0; label = 0; a = a; b = c; c = 0 }) r →
    Binds s t n k a c r
binds p w =
    record {
      answers = w.answers;
      counts = w.counts;
      same = w.same;
      holds = λ A Γ h g. rw w.answers (h_bind w.there p.type_below p.context_below (same_held w.same p.type_below h) (same_context w.same p.context_below g));
    }

-- ---- `lookup`

pub looks_free : {s : List ℕ} {c k : ℕ} → c ≡ 0 → Looks s c k None
looks_free e = record { says = λ Γ h. rw (context_empty h e) refl }

module _ {s : List ℕ} {c : ℕ} {y : Cell} (o : y ≡ cell_at s c) (z : ¬ (c ≡ 0)) where
  pub looks_here : {k : ℕ} → k ≡ 0 → Looks s c k (Some y.a)
  looks_here e =
      record {
        says = λ Γ h.
            let v = bind_at o h z in
            rw (v.is, e) (y.a, refl, v.type_lower, v.holds_type);
      }

  pub looks_asks : ContextAt s c → (y.b < c) × ContextAt s y.b
  looks_asks p =
      let v = bind_at o p.holds z in
      (v.rest_lower, record { long = p.long; context = v.rest; holds = v.holds_rest })

  pub looks_on : {r : Option ℕ} {k : ℕ} → ¬ (k ≡ 0) → Looks s y.b (k - 1) r → Looks s c k r
  looks_on {r} {k} e f = go k e (rw sub-one at f)
    where
      lift : (b : ℕ) (o : Math.Option Ty) → b < c → BoundBy s b r o → BoundBy s c r o
      lift b none l h = h
      lift b (some A) l h = (h.0, h.1, omega (arith, h.2), h.3)

      go : (m : ℕ) → ¬ (m ≡ 0) → Looks s y.b (Prim.Native.Nat.pred m) r → Looks s c m r
      go zero e f = absurd (e refl)
      go (suc m) e f =
          record {
            says = λ Γ h.
                let v = bind_at o h z in
                rw v.is (lift y.b (get_elem? v.rest m) v.rest_lower (f.says v.rest v.holds_rest));
          }

-- ---- a variable

module _ {s : List ℕ} {n c i : ℕ} {y : Cell} (p : ReadyAt s n c i 16) (o : y ≡ cell_at s i) where
  var_is : {e : Term} → HoldsTerm s i e → e ≡ var y.a
  var_is h = rw o (var_at h p.kind)

  pub var_finds : {o : Option ℕ} {r : Result ℕ Refusal} → Looks s c y.a o → r ≡ ok_or o (Unbound i) → Finds s s n n c i r
  unfolding infer Infer.lookup size follow
  var_finds {o} f e =
      record { says = λ Γ d g h. rw (var_is h, e) (go (get_elem? Γ y.a) (f.says Γ g)) }
    where
      go : (w : Math.Option Ty) → BoundBy s c o w → Answered s s n n 1 i (ok_or o (Unbound i)) (Infer.lookup w)
      go none b = rw b (Unbound i, refl, refl)
      go (some A) b =
          rw b.1 (b.0, refl, omega arith, omega arith, same_refl s n, omega (arith, b.2, p.ready.context_below), b.3)

-- ---- a number and the top value: a cell of their type

pub INT_fits : CellFits INT
INT_fits = record { a = omega arith; b = omega arith; c = omega arith }

pub TOP_fits : CellFits TOP
TOP_fits = record { a = omega arith; b = omega arith; c = omega arith }

module _ {s t : List ℕ} {n k c i r : ℕ} where
  pub lit_found : ReadyAt s n c i 17 → Adds s t n k INT r → Finds s t n k c i (Ok r)
  unfolding infer size is_top_like
  lit_found p w =
      record { says = λ Γ d g h. rw (lit_at h p.kind, w.answers, w.counts) (n, refl, omega arith, omega arith, w.same, omega arith, h_int w.there refl) }

  pub unit_found : ReadyAt s n c i 18 → Adds s t n k TOP r → Finds s t n k c i (Ok r)
  unfolding infer size is_top_like
  unit_found p w =
      record { says = λ Γ d g h. rw (unit_at h p.kind, w.answers, w.counts) (n, refl, omega arith, omega arith, w.same, omega arith, h_top w.there refl) }

-- ---- the cell of an intersection

mark_inter : (A B : Ty) → mark A * mark B ≡ mark (inter A B)
unfolding is_top_like
mark_inter A B = go (is_top_like A) (is_top_like B)
  where
    go : (a b : Bool) → cond a 1 0 * cond b 1 0 ≡ cond (a && b) 1 0
    go true true = refl
    go true false = refl
    go false true = refl
    go false false = refl

module _ {s : List ℕ} {n a b : ℕ} {x y : Cell} (p : TypesBelow s n a b) (o : x ≡ cell_at s a) (q : y ≡ cell_at s b) where
  mark_of : {A B : Ty} → HoldsType s a A → HoldsType s b B → x.c * y.c ≡ mark (inter A B)
  mark_of {A} {B} g h = rw (o, q, type_mark g, type_mark h) (mark_inter A B)

  pub inter_mark : x.c * y.c ≤ 1
  inter_mark = rw (mark_of p.types.holds_first p.types.holds_second) (mark_one (inter p.types.first p.types.second))

  pub inter_adds : {t : List ℕ} {k r : ℕ} → Adds s t n k (record { kind = 4; label = 0; a = a; b = b; c = x.c * y.c }) r → AddsInter s t n k a b r
  inter_adds w =
      record {
        answers = w.answers;
        counts = w.counts;
        same = w.same;
        holds = λ A B g h.
            rw w.answers
            (h_inter w.there (mark_of g h) p.first_below p.second_below (same_held w.same p.first_below g) (same_held w.same p.second_below h));
      }
