-- The focus on its way to the redex, and the waiting cells on theirs to be whole: what the loops keep. Assumes nothing.
use Prim.Native.Nat.{ℕ, zero, suc, ◌*◌, ◌-◌, ◌≤◌, ◌<◌}
use native.Mathlib.Omega.{arith}
use mathlib.Core.Path.{◌≡◌, refl, sym, ap, ◌∙◌, subst}
use mathlib.Core.Logic.{◌⊎◌, inl, inr}
use mathlib.Core.Bool.{false}
use mathlib.Core.List.{List, []}
use lib.ListN.{length}
use lib.Seq.{sets}
use Rattle.format.specs.Cell.{Cell, cell_at, cell_bytes, IsBytes}
use Rattle.format.specs.Table.{term_sort, refers}
use Rattle.format.specs.Tree.{Tree}
use Rattle.cells.specs.Held.{HeldField}
use Rattle.running.specs.Waiting.{fill, Waits}
use Rattle.running.specs.Contexts.{Around, frames}
use Rattle.running.specs.Places.{Standing, FocusReady, Moves, GoesOn, distance, Settled, Settles, Held, Unwinding, RestoreReady, RestoredTo, Restores, Unwinds}
use Rattle.running.specs.declared.Place.{Place}
use Rattle.running.specs.declared.Focus.{Focus}
use Rattle.running.specs.declared.Focus.TheVariants.{Redex, Whole}
use Rattle.running.proofs.Waiting.{held_less, waits_right}
use Rattle.running.proofs.Leaving.{waits_none}
use Rattle.running.proofs.Unwinding.{restore_within, child_fits, restores_first, restores_second, restores_up}
use Rattle.running.proofs.Ranges.{read_fits, stored}

-- the focus has come from x₀ to x
pub record Under (w₀ : List ℕ) (x₀ : Focus) (w : List ℕ) (x : Focus) : Type 0 where
  pub long : length w ≡ length w₀
  pub ready : FocusReady w x
  pub moves : Moves w₀ w x₀ x

pub under_first : {w : List ℕ} {x : Focus} → FocusReady w x → Under w x w x
under_first r = record { long = refl; ready = r; moves = record { says = λ e s t. s } }

pub under_next : {w₀ w v : List ℕ} {x₀ x y r : Focus} → Under w₀ x₀ w x → x ≡ y → length v ≡ length w → GoesOn w v y r → Under w₀ x₀ v r
under_next {w₀} {w} {v} {x₀} {x} {y} {r} u q l g =
    record {
      long = l ∙ u.long;
      ready = record {
        term = u.ready.term;
        standing = g.moves.says u.ready.term (at u.ready.standing) u.ready.runnable;
        runnable = u.ready.runnable;
      };
      moves = record { says = λ e s t. g.moves.says e (at (u.moves.says e s t)) t };
    }
  where
    at : {e : Rattle.calculus.specs.Syntax.Term} → Standing w x e → Standing w y e
    at {e} s = subst (λ (z : Focus). Standing w z e) q s

pub under_ready : {w₀ w : List ℕ} {x₀ x y : Focus} → Under w₀ x₀ w x → x ≡ y → FocusReady w y
under_ready {w = w} u q = subst (FocusReady w) q u.ready

pub under_falls : {w v : List ℕ} {x y r : Focus} → x ≡ y → GoesOn w v y r → distance r < distance x
under_falls {x = x} {y} {r} q g = subst (λ (z : Focus). distance r < distance z) (sym q) g.falls

pub under_settled : {w₀ w : List ℕ} {x₀ x : Focus} → Under w₀ x₀ w x → ((p : Place) × (x ≡ Redex p)) ⊎ ((p : Place) × (x ≡ Whole p)) → Settles w₀ w x₀ x
under_settled u (inl q) = record { settled = subst Settled (sym q.1) Prim.tt; moves = u.moves }
under_settled u (inr q) = record { settled = subst Settled (sym q.1) Prim.tt; moves = u.moves }

-- ---- unwinding

-- how far it may still be to the root
abbrev pub outward : ℕ → ℕ
outward zero = 0
outward (suc n) = 8192 - n

pub record Outward (w₀ : List ℕ) (up child : ℕ) (w : List ℕ) (around root : ℕ) : Type 0 where
  pub long : length w ≡ length w₀
  pub unwinding : Unwinding w around root
  pub says : (K : List Around) (t : Tree) → Held w₀ up child K t → RestoredTo w root around (fill (frames K) t)

pub outward_first : {w : List ℕ} {up child : ℕ} → Unwinding w up child → Outward w up child w up child
outward_first u = record { long = refl; unwinding = u; says = λ K t h. record { around = K; tree = t; held = h; same = refl } }

-- the cell up is written, whole again
module _ {w : List ℕ} {up child : ℕ} {t : Cell} (d : RestoreReady w up child) (c : t ≡ cell_at w up) where
  pub restore_fits : IsBytes w → (t.a < 65536) × (t.b < 65536) × (t.c < 65536) × (child < 65536)
  restore_fits y = let f = read_fits w up y c in (f.0, f.1, f.2, child_fits d)

  restores : {v : List ℕ} {r o : ℕ} → ((K : List Around) (f : Tree) → Held w up child K f → RestoredTo v up o (fill (frames K) f)) → r ≡ o → Restores w v up child r
  restores {v} m i =
      let u = d.unwinding in
      subst (Restores w v up child) (sym i) (record { higher = restores_up (m u.around u.tree u.held); says = m })

  pub first_restores : {v : List ℕ} {r : ℕ} → (t.c ≡ 0) ⊎ (t.kind ≡ 27) → v ≡ sets w (8 * up) (cell_bytes (record { kind = t.kind; label = t.label; a = child; b = t.b; c = t.c })) →
      r ≡ t.a → Restores w v up child r
  first_restores z e i = let x = stored _ (restore_within d) e in restores (restores_first c x.wrote d.some z x.there) i

  pub second_restores : {v : List ℕ} {r : ℕ} → (t.c ≡ 0 → ⊥) → (t.kind ≡ 27 → ⊥) →
      v ≡ sets w (8 * up) (cell_bytes (record { kind = t.kind; label = t.label; a = t.a; b = child; c = 0 })) → r ≡ t.b → Restores w v up child r
  second_restores z n e i = let x = stored _ (restore_within d) e in restores (restores_second c x.wrote d.some z n x.there) i

pub restore_ready : {w₀ w : List ℕ} {up child around root : ℕ} → Outward w₀ up child w around root → 0 < around → RestoreReady w around root
restore_ready o h = record { unwinding = o.unwinding; some = λ e. absurd (omega (arith, e, h)) }

pub outward_next : {w₀ w v : List ℕ} {up child around root r : ℕ} → Outward w₀ up child w around root → length v ≡ length w → Restores w v around root r →
    Outward w₀ up child v r around
outward_next {w₀} {w} {v} {up} {child} {around} {root} {r} o l m =
    let n = m.says o.unwinding.around o.unwinding.tree o.unwinding.held in
    record {
      long = l ∙ o.long;
      unwinding = record { long = l ∙ o.unwinding.long; around = n.around; tree = n.tree; held = n.held };
      says = go;
    }
  where
    go : (K : List Around) (t : Tree) → Held w₀ up child K t → RestoredTo v around r (fill (frames K) t)
    go K t h =
        let a = o.says K t h in
        let b = m.says a.around a.tree a.held in
        record { around = b.around; tree = b.tree; held = b.held; same = b.same ∙ a.same }

pub outward_less : {w v : List ℕ} {around root r : ℕ} → Restores w v around root r → 0 < around → around < 8192 → outward r < outward around
outward_less {around = zero} m h l = absurd (omega (arith, h))
outward_less {around = suc n} {r = zero} m h l = omega (arith, l)
outward_less {around = suc n} {r = suc k} m h l = go m.higher
  where
    go : (suc k ≡ 0) ⊎ ((suc n < suc k) × (suc k < 8192)) → 8192 - k < 8192 - n
    go (inl e) = absurd (omega (arith, e))
    go (inr e) = omega (arith, e.0, e.1)

filled_none : (K : List Around) (t : Tree) → K ≡ [] → fill (frames K) t ≡ t
unfolding fill frames
filled_none K t e = ap (λ (k : List Around). fill (frames k) t) e

pub outward_ends : {w₀ w : List ℕ} {up child around root : ℕ} → Outward w₀ up child w around root → around ≤ 0 → Unwinds w₀ w up child root
outward_ends {w₀} {w} {up} {child} {around} {root} o l = record { says = go }
  where
    z : around ≡ 0
    z = omega (arith, l)

    go : (K : List Around) (t : Tree) → Held w₀ up child K t → HeldField false w 8192 (refers term_sort) root (fill (frames K) t)
    go K t h =
        let a = o.says K t h in
        let n = waits_none a.around (subst (λ (j : ℕ). Waits w j a.held.start a.held.end (frames a.around)) z a.held.waits) in
        subst (HeldField false w 8192 (refers term_sort) root) (sym (filled_none a.around a.tree n) ∙ a.same)
        (held_less (waits_right a.held.waits) a.held.holds)
