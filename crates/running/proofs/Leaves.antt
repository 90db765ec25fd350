-- What the functions that leave a value say: the term stands as it did, its focus moved. Assumes nothing.
use Prim.Native.Nat.{ℕ, suc, ◌+◌, ◌-◌}
use native.Mathlib.Omega.{arith}
use mathlib.Core.Path.{◌≡◌, refl, sym, ◌∙◌, subst}
use mathlib.Core.Logic.{inl, inr}
use mathlib.Core.Bool.{◌||◌}
use mathlib.Core.List.{List, [], ◌∷◌}
use lib.Dec.{T, eqb}
use lib.ListN.{length}
use Rattle.calculus.specs.Syntax.{Ty, Term}
use Rattle.format.specs.Table.{row_for, row_in, table}
use Rattle.format.specs.Cell.{Cell, cell_at}
use Rattle.cells.specs.Held.{IsCell}
use Rattle.moving.specs.Moves.{Wrote}
use Rattle.running.specs.Waiting.{Waits, w_none}
use Rattle.running.specs.Contexts.{Around, anno_of, app_left, app_right, merge_left, merge_right, rcd_of, proj_of, sum_left, sum_right, choice_of}
use Rattle.running.specs.Contexts.{plug_term, whole, Proper, AllProper, p_more, frame, frames}
use Rattle.running.specs.Places.{FocusIs, IsDone, of_app, of_sum, Standing, Moves, GoesOn, WaitsTwice}
use Rattle.running.specs.declared.Place.{Place}
use Rattle.running.specs.declared.Focus.{Focus}
use Rattle.running.specs.declared.Focus.TheVariants.{Ahead, Done, Redex, Whole}
use Rattle.running.proofs.Leaving.{waits_first, waits_second, waits_none, closed, redexed, onward}
use Rattle.running.proofs.Leaving.{leaves_record, leaves_anno, leaves_proj, leaves_choice, leaves_first, leaves_merge, leaves_both}

-- what waits around a focus, by the kind of its cell and by field c, which is 0 for all that wait for a first part but a choice
pub data Waiter : ℕ → ℕ → Around → Type 0 where
  at_anno : {A : Ty} → Waiter 19 0 (anno_of A)
  at_app : {f : Term} → Waiter 20 0 (app_left f)
  at_argument : {c : ℕ} {v : Term} → Waiter 20 (suc c) (app_right v)
  at_merge : {f : Term} → Waiter 22 0 (merge_left f)
  at_merged : {c : ℕ} {v : Term} → Waiter 22 (suc c) (merge_right v)
  at_record : {l : ℕ} → Waiter 24 0 (rcd_of l)
  at_read : {l : ℕ} → Waiter 25 0 (proj_of l)
  at_sum : {f : Term} → Waiter 26 0 (sum_left f)
  at_added : {c : ℕ} {v : Term} → Waiter 26 (suc c) (sum_right v)
  at_choice : {c : ℕ} {f g : Term} → Waiter 27 c (choice_of f g)

seen : {w : List ℕ} {j k l a b c d : ℕ} {F : Around} → IsCell w j k l a b c → c ≡ d → Waiter k d F → Waiter (cell_at w j).kind (cell_at w j).c F
seen i e h = rw (i.is, e) h

pub waiter : {w : List ℕ} {j p q : ℕ} (F : Around) (K : List Around) → Waits w j p q (frames (F ∷ K)) → Waiter (cell_at w j).kind (cell_at w j).c F
unfolding frames frame table row_in row_for
waiter (anno_of A) K h = let q = waits_first h refl in seen q.cell (q.unused refl) at_anno
waiter (app_left f) K h = let q = waits_first h refl in seen q.cell (q.unused refl) at_app
waiter (app_right v) K h = let q = waits_second h refl in seen q.cell q.start at_argument
waiter (merge_left f) K h = let q = waits_first h refl in seen q.cell (q.unused refl) at_merge
waiter (merge_right v) K h = let q = waits_second h refl in seen q.cell q.start at_merged
waiter (rcd_of l) K h = let q = waits_first h refl in seen q.cell (q.unused refl) at_record
waiter (proj_of l) K h = let q = waits_first h refl in seen q.cell (q.unused refl) at_read
waiter (sum_left f) K h = let q = waits_first h refl in seen q.cell (q.unused refl) at_sum
waiter (sum_right v) K h = let q = waits_second h refl in seen q.cell q.start at_added
waiter (choice_of f g) K h = let q = waits_first h refl in seen q.cell refl at_choice

-- where field c is not 0
pub turned : {k c : ℕ} {F : Around} → (c ≡ 0 → ⊥) → Waiter k c F → Waiter k (suc (c - 1)) F
turned {k} {c} {F} z h = let e : c ≡ suc (c - 1) = omega arith in subst (λ (n : ℕ). Waiter k n F) e h

-- no cell waits: the value is the whole term
pub leaves_whole : {w : List ℕ} {p : Place} → p.up ≡ 0 → GoesOn w w (Done p) (Whole p)
leaves_whole {w} {p} h = record { moves = record { says = λ e s _. go s }; falls = omega arith }
  where
    go : {e : Term} → Standing w (Done p) e → Standing w (Whole p) e
    go s =
        record {
          long = s.long;
          around = s.around;
          focus = s.focus;
          is = s.is;
          proper = s.proper;
          at = (waits_none s.around (subst (λ (j : ℕ). Waits w j p.start p.right (frames s.around)) h s.at.waits), s.at);
        }

pub none_waits : {w : List ℕ} {j a b : ℕ} → Waits w j a b [] → j ≡ 0
none_waits w_none = refl

-- a kind that waits twice is one of the three
is_two : {k : ℕ} → WaitsTwice k → T (eqb k 20 || eqb k 22 || eqb k 26)
is_two (inl e) = rw e tt
is_two (inr (inl e)) = rw e tt
is_two (inr (inr e)) = rw e tt

-- a focus f within K, and the term around it
stands : {v : List ℕ} {y : Focus} (K : List Around) (f : Term) → length v ≡ 65536 → AllProper K → FocusIs v y K f → Standing v y (whole K f)
stands K f l a h = record { long = l; around = K; focus = f; is = refl; proper = a; at = h }

module _ {w v : List ℕ} (p : Place) (t : Cell) (some : p.up ≡ 0 → ⊥) (cell : t ≡ cell_at w p.up) where
  -- the focus has moved to y if it does so from whatever waits for it
  leaving : {y : Focus} → length v ≡ length w →
      ((f : Term) (F : Around) (K : List Around) → length v ≡ 65536 → Proper F → AllProper K → IsDone w p (F ∷ K) f → Waiter t.kind t.c F → Standing v y (whole K (plug_term F f))) →
      Moves w v (Done p) y
  unfolding whole frames
  leaving {y} n leads = record { says = λ e s r. subst (Standing v y) (sym s.is) (go s.around s.proper s.at (n ∙ s.long)) }
    where
      go : {f : Term} (K : List Around) → AllProper K → IsDone w p K f → length v ≡ 65536 → Standing v y (whole K f)
      go [] a d l = absurd (some (none_waits d.waits))
      go {f} (F ∷ K) (p_more b a) d l = leads f F K l b a d (rw cell (waiter F K d.waits))

  pub single_done : t.kind ≡ 24 → Wrote w v p.left → IsCell v p.left t.kind t.label (p.left - 1) t.b t.c →
      Moves w v (Done p) (Done (closed p p.start t.a))
  unfolding plug_term
  single_done k x y = leaving x.long (λ f F K l b a d h. stands K _ l a (go d (rw k at h)))
    where
      go : {f : Term} {F : Around} {K : List Around} {c : ℕ} → IsDone w p (F ∷ K) f → Waiter 24 c F → FocusIs v (Done (closed p p.start t.a)) K (plug_term F f)
      go {f} d at_record = leaves_record p f t d cell x y

  pub single_redex : (t.kind ≡ 20 → ⊥) → (t.kind ≡ 22 → ⊥) → (t.kind ≡ 26 → ⊥) → (t.kind ≡ 24 → ⊥) → Wrote w v p.up →
      IsCell v p.up t.kind t.label (p.left - 1) t.b t.c → Moves w v (Done p) (Redex (redexed p p.start t.a))
  single_redex k20 k22 k26 k24 x y = leaving x.long (λ f F K l b a d h. stands K _ l a (go k20 k22 k26 k24 d h))
    where
      go : {f : Term} {F : Around} {K : List Around} {k c : ℕ} → (k ≡ 20 → ⊥) → (k ≡ 22 → ⊥) → (k ≡ 26 → ⊥) → (k ≡ 24 → ⊥) → IsDone w p (F ∷ K) f → Waiter k c F →
          FocusIs v (Redex (redexed p p.start t.a)) K (plug_term F f)
      go {f} k20 k22 k26 k24 d at_anno = leaves_anno p f t cell x y d
      go {f} k20 k22 k26 k24 d at_read = leaves_proj p f t cell x y d
      go {f} k20 k22 k26 k24 d at_choice = leaves_choice p f t cell x y d
      go k20 k22 k26 k24 d at_app = absurd (k20 refl)
      go k20 k22 k26 k24 d at_argument = absurd (k20 refl)
      go k20 k22 k26 k24 d at_merge = absurd (k22 refl)
      go k20 k22 k26 k24 d at_merged = absurd (k22 refl)
      go k20 k22 k26 k24 d at_sum = absurd (k26 refl)
      go k20 k22 k26 k24 d at_added = absurd (k26 refl)
      go k20 k22 k26 k24 d at_record = absurd (k24 refl)

  pub second_on : WaitsTwice t.kind → t.c ≡ 0 → Wrote w v p.up → IsCell v p.up t.kind t.label (p.left - 1) t.a (p.start + 1) →
      Moves w v (Done p) (Ahead (onward p t.b))
  unfolding whole plug_term frame row_for row_in table
  second_on k z x y = leaving x.long (λ f F K l b a d h. go K k l a d (rw z at h))
    where
      go : {f : Term} {F : Around} {k : ℕ} (K : List Around) → WaitsTwice k → length v ≡ 65536 → AllProper K → IsDone w p (F ∷ K) f → Waiter k 0 F →
          Standing v (Ahead (onward p t.b)) (whole K (plug_term F f))
      go {f} K k l a d (at_app {f = h}) =
          stands (app_right f ∷ K) h l (p_more d.value a) (leaves_first p f h (app_left h) (app_right f) t d refl refl refl refl refl refl cell x y)
      go {f} K k l a d (at_merge {f = h}) =
          stands (merge_right f ∷ K) h l (p_more d.value a) (leaves_first p f h (merge_left h) (merge_right f) t d refl refl refl refl refl refl cell x y)
      go {f} K k l a d (at_sum {f = h}) =
          stands (sum_right f ∷ K) h l (p_more d.value a) (leaves_first p f h (sum_left h) (sum_right f) t d refl refl refl refl refl refl cell x y)
      go K k l a d at_anno = absurd (is_two k)
      go K k l a d at_record = absurd (is_two k)
      go K k l a d at_read = absurd (is_two k)
      go K k l a d at_choice = absurd (is_two k)

  pub both_done : t.kind ≡ 22 → (t.c ≡ 0 → ⊥) → Wrote w v p.left → IsCell v p.left t.kind t.label t.a (p.left - 1) 0 →
      Moves w v (Done p) (Done (closed p (t.c - 1) t.b))
  unfolding plug_term
  both_done k z x y = leaving x.long (λ f F K l b a d h. stands K _ l a (go b d (turned z (rw k at h))))
    where
      go : {f : Term} {F : Around} {K : List Around} {c : ℕ} → Proper F → IsDone w p (F ∷ K) f → Waiter 22 (suc c) F →
          FocusIs v (Done (closed p (t.c - 1) t.b)) K (plug_term F f)
      go {f} b d at_merged = leaves_merge p f t d b cell x y

  pub both_redex : WaitsTwice t.kind → (t.kind ≡ 22 → ⊥) → (t.c ≡ 0 → ⊥) → Wrote w v p.up → IsCell v p.up t.kind t.label t.a (p.left - 1) 0 →
      Moves w v (Done p) (Redex (redexed p (t.c - 1) t.b))
  unfolding plug_term frame row_for row_in table
  both_redex k m z x y = leaving x.long (λ f F K l b a d h. stands K _ l a (go k m b d (turned z h)))
    where
      go : {f : Term} {F : Around} {K : List Around} {k c : ℕ} → WaitsTwice k → (k ≡ 22 → ⊥) → Proper F → IsDone w p (F ∷ K) f → Waiter k (suc c) F →
          FocusIs v (Redex (redexed p (t.c - 1) t.b)) K (plug_term F f)
      go {f} k m b d (at_argument {v = u}) = leaves_both p f (app_right u) t d refl refl b cell x y of_app
      go {f} k m b d (at_added {v = u}) = leaves_both p f (sum_right u) t d refl refl b cell x y of_sum
      go k m b d at_merged = absurd (m refl)
      go k m b d at_choice = absurd (is_two k)
