-- A focus that is to come: what it becomes by the kind of its cell. Assumes nothing.
use Prim.Native.Nat.{ℕ, suc}
use native.Mathlib.Omega.{arith}
use mathlib.Core.Path.{◌≡◌, refl, sym, ◌∙◌, subst}
use mathlib.Core.Bool.{Bool, true, false, cond}
use mathlib.Core.Logic.{◌⊎◌, inl, inr}
use mathlib.Core.List.{List, ◌∷◌}
use mathlib.Core.Option.{some}
use lib.Dec.{eqb}
use lib.IntN.{ℤ}
use Rattle.calculus.specs.Syntax.{Ty, Term, var, lit, unit, anno, app, lam, merge, fix, rcd, proj, sum, choice}
use Rattle.calculus.specs.Decide.{is_value}
use Rattle.format.specs.Table.{Sort, term_sort, unused, refers, Row, row_for, row_of, row_in, table}
use Rattle.format.specs.Cell.{Cell, cell_at}
use Rattle.format.specs.Tree.{Tree, kind_in}
use Rattle.format.specs.Terms.{from_term_in, from_term}
use Rattle.cells.specs.Held.{IsCell}
use Rattle.cells.proofs.Held.{kind_of}
use Rattle.emission.specs.Runs.{Run}
use Rattle.emission.proofs.Runs.{Parts, parts, run_kind}
use Rattle.moving.specs.Moves.{Wrote}
use Rattle.running.specs.Waiting.{Frame, first, Waits}
use Rattle.running.specs.Contexts.{Around, anno_of, app_left, merge_left, rcd_of, proj_of, sum_left, choice_of, plug_term, Proper, frame, frames}
use Rattle.running.specs.Places.{IsAhead, IsRedex, of_fix, third_of}
use Rattle.running.specs.declared.Place.{Place}
use Rattle.running.proofs.Going.{any_number, descends}

-- a term by the kind of its cell
pub data Kind : ℕ → Term → Type 0 where
  k_var : {n : ℕ} → Kind 16 (var n)
  k_lit : {z : ℤ} → Kind 17 (lit z)
  k_unit : Kind 18 unit
  k_anno : {e : Term} {A : Ty} → Kind 19 (anno e A)
  k_app : {e f : Term} → Kind 20 (app e f)
  k_lam : {e : Term} {A B : Ty} → Kind 21 (lam e A B)
  k_merge : {e f : Term} → Kind 22 (merge e f)
  k_fix : {e : Term} {A : Ty} → Kind 23 (fix e A)
  k_rcd : {l : ℕ} {e : Term} → Kind 24 (rcd l e)
  k_proj : {l : ℕ} {e : Term} → Kind 25 (proj l e)
  k_sum : {e f : Term} → Kind 26 (sum e f)
  k_choice : {e f g : Term} → Kind 27 (choice e f g)

by_kind : (f : Term) → Kind (kind_of term_sort f) f
unfolding from_term_in kind_in
by_kind (var n) = k_var
by_kind (lit z) = k_lit
by_kind unit = k_unit
by_kind (anno e A) = k_anno
by_kind (app e f) = k_app
by_kind (lam e A B) = k_lam
by_kind (merge e f) = k_merge
by_kind (fix e A) = k_fix
by_kind (rcd l e) = k_rcd
by_kind (proj l e) = k_proj
by_kind (sum e f) = k_sum
by_kind (choice e f g) = k_choice

-- the term of which a cell of kind k is the last
pub term_kind : {q : Bool} {w : List ℕ} {x i e k : ℕ} {o : Sort} (f : Term) → Run q w x (refers o) i (from_term f) e → (cell_at w i).kind ≡ k → Kind k f
term_kind f r h = subst (λ (n : ℕ). Kind n f) (sym (run_kind r) ∙ h) (by_kind f)

-- numbers, the top value and functions are values at sight
pub value_lit : {f : Term} → Kind 17 f → is_value f ≡ true
unfolding is_value
value_lit k_lit = refl

pub value_unit : {f : Term} → Kind 18 f → is_value f ≡ true
unfolding is_value
value_unit k_unit = refl

pub value_lam : {f : Term} → Kind 21 f → is_value f ≡ true
unfolding is_value
value_lam k_lam = refl

-- a fixpoint is a redex as it stands
pub enters_fix : {w : List ℕ} {p : Place} {K : List Around} {f : Term} → IsAhead w p K f → Kind 23 f → IsRedex w p K f
enters_fix a k_fix = record { parts = of_fix a.starts a.run; waits = a.waits; apart = omega (arith, a.starts, a.apart) }

-- the place below: its first part
abbrev below : Place → ℕ → Place
below p a = record { left = p.left; start = p.start; right = p.right; root = a; up = p.root }

-- a term that steps inside, and its first part
pub record Descends (v : List ℕ) (p : Place) (K : List Around) (f : Term) (a : ℕ) : Type 0 where
  pub around : Around
  pub part : Term
  pub is : f ≡ plug_term around part
  pub proper : Proper around
  pub ahead : IsAhead v (below p a) (around ∷ K) part

-- the kinds of terms that step in their first part
abbrev Steps : ℕ → Type 0
Steps k = (k ≡ 16 → ⊥) × (k ≡ 17 → ⊥) × (k ≡ 18 → ⊥) × (k ≡ 21 → ⊥) × (k ≡ 23 → ⊥)

-- a cell of kind k has no third part, or is a choice
abbrev Third : ℕ → Row → Type 0
Third k r = ((r.c ≡ unused) × (eqb k 27 ≡ false)) ⊎ ((r.c ≡ refers term_sort) × (eqb k 27 ≡ true))

-- its field c, as it is kept while the cell waits
kept_third : {w : List ℕ} (k : ℕ) {c x e : ℕ} {h : Tree} (r : Row) → Third k r → Run true w x r.c c h e →
    Run true w x r.c (cond (eqb k 27) c 0) h e × (r.c ≡ unused → cond (eqb k 27) c 0 ≡ 0)
kept_third k r (inl (n, q)) h = rw q (any_number 0 n h, λ _. refl)
kept_third k r (inr (n, q)) h = rw q (h, λ o. absurd (let z : ◌≡◌ {A = ℕ} 0 1 = cc in omega arith))

module _ {w v : List ℕ} (p : Place) {K : List Around} (d : Wrote w v p.root) where
  -- the cell of a term that steps in its first part waits, whatever its kind
  waits_for : {f : Term} {k m : ℕ} {g h : Tree} {r : Row} (F : Around) (x : Term) (t : Cell) → IsAhead w p K f → frame F ≡ first k m g h → row_of k ≡ some r →
      r.a ≡ refers term_sort → Third k r → Proper F → Parts true w p.right p.root (suc p.root) k m (from_term x) g h r → t ≡ cell_at w p.root →
      IsCell v p.root t.kind t.label p.up t.b (third_of t) → Descends v p K (plug_term F x) t.a
  unfolding frames
  waits_for {k = k} {r = r} F x t o i n one two f q e c =
      let s : t ≡ record { kind = k; label = q.l; a = q.a; b = q.b; c = q.c } = e ∙ q.cell.is in
      let third = kept_third k r two q.third in
      let y = descends n q.label q.first q.second third.0 one third.1 o.waits o.apart d (rw s at c) in
      rw s
      (record {
        around = F;
        part = x;
        is = refl;
        proper = f;
        ahead = record { starts = o.starts; run = y.run; waits = subst (λ (G : Frame). Waits v p.root p.start (suc q.a) (G ∷ frames K)) (sym i) y.waits; apart = y.apart };
      })

  -- the cell t of the focus waits
  pub enters_part : (f : Term) (t : Cell) → IsAhead w p K f → t ≡ cell_at w p.root → IsCell v p.root t.kind t.label p.up t.b (third_of t) →
      Steps (kind_of term_sort f) → Descends v p K f t.a
  unfolding from_term_in kind_in table row_in row_for plug_term frame
  enters_part (var n) t a e c h = absurd (h.0 refl)
  enters_part (lit i) t a e c h = absurd (h.1 refl)
  enters_part unit t a e c h = absurd (h.2 refl)
  enters_part (lam x A B) t a e c h = absurd (h.3 refl)
  enters_part (fix x A) t a e c h = absurd (h.4 refl)
  enters_part (anno x A) t a e c h = waits_for (anno_of A) x t a refl refl refl (inl (refl, refl)) Prim.tt (parts a.run refl) e c
  enters_part (app x y) t a e c h = waits_for (app_left y) x t a refl refl refl (inl (refl, refl)) Prim.tt (parts a.run refl) e c
  enters_part (merge x y) t a e c h = waits_for (merge_left y) x t a refl refl refl (inl (refl, refl)) Prim.tt (parts a.run refl) e c
  enters_part (rcd l x) t a e c h = waits_for (rcd_of l) x t a refl refl refl (inl (refl, refl)) Prim.tt (parts a.run refl) e c
  enters_part (proj l x) t a e c h = waits_for (proj_of l) x t a refl refl refl (inl (refl, refl)) Prim.tt (parts a.run refl) e c
  enters_part (sum x y) t a e c h = waits_for (sum_left y) x t a refl refl refl (inl (refl, refl)) Prim.tt (parts a.run refl) e c
  enters_part (choice x y z) t a e c h = waits_for (choice_of y z) x t a refl refl refl (inr (refl, refl)) Prim.tt (parts a.run refl) e c
