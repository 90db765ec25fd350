-- Waiting cells made whole, the innermost first: the whole tree stays the same, and at last the root holds it. Assumes nothing.
use Prim.Native.Nat.{ℕ, suc, ◌+◌, ◌*◌, ◌≤◌, ◌<◌}
use native.Mathlib.Omega.{arith}
use mathlib.Core.Path.{◌≡◌, refl, sym, ◌∙◌, subst}
use mathlib.Core.Logic.{◌⊎◌, inl, inr}
use mathlib.Core.Bool.{false}
use mathlib.Core.List.{List, [], ◌∷◌}
use mathlib.Core.Option.{some}
use lib.ListN.{length}
use Rattle.format.specs.Table.{term_sort, unused, refers, Row, row_for, row_of, row_in, table}
use Rattle.format.specs.Cell.{Cell, cell_at}
use Rattle.format.specs.Tree.{Tree}
use Rattle.cells.specs.Held.{IsCell, HeldField}
use Rattle.cells.proofs.Held.{lower, kept_field}
use Rattle.emission.proofs.Runs.{grows}
use Rattle.moving.specs.Moves.{Wrote}
use Rattle.running.specs.Waiting.{Frame, first, second, plug, fill, Waits, w_none, w_first, w_second}
use Rattle.running.specs.Contexts.{Around, anno_of, app_left, app_right, merge_left, merge_right, rcd_of, proj_of, sum_left, sum_right, choice_of, frame, frames}
use Rattle.running.specs.Places.{Held, Unwinding, RestoreReady, RestoredTo}
use Rattle.running.proofs.Waiting.{held_less, waits_right, Restored, restore_first, restore_second, restore_rest}
use Rattle.running.proofs.Leaving.{First, Second, waits_first, waits_second}
use Rattle.running.proofs.Leaves.{Waiter, at_anno, at_app, at_argument, at_merge, at_merged, at_record, at_read, at_sum, at_added, at_choice, waiter, turned, none_waits}

-- a cell that waits around another stands above it
pub waits_up : {w : List ℕ} {u p q : ℕ} {K : List Frame} → Waits w u p q K → (u ≡ 0) ⊎ ((q ≤ u) × (u < 8192))
waits_up w_none = inl refl
waits_up (w_first c r m a n g h l k) = inr (omega (arith, grows g, grows h), waits_right k)
waits_up (w_second c r m a b d o f l k) = inr (omega arith, waits_right k)

module _ {w v : List ℕ} {j : ℕ} where
  -- the cell j is whole, and what waited around it waits for it
  restored : {x p q u : ℕ} {t : Tree} (F : Around) (K : List Around) → Restored w v j x (frame F) → HeldField false w q (refers term_sort) x t → q ≤ j → p ≤ j →
      Waits w u p (suc j) (frames K) → RestoredTo v j u (fill (frames (F ∷ K)) t)
  unfolding frames fill
  restored {x} {p} {q} {u} {t} F K m h l b k =
      record {
        around = K;
        tree = plug (frame F) t;
        held = record {
          start = p;
          end = suc j;
          waits = restore_rest m b k;
          low = omega (arith, b);
          holds = m.whole t (held_less l (kept_field m.long (λ i y. m.others i (λ e. absurd (omega (arith, y, e, l)))) h));
        };
        same = refl;
      }

  module _ {t : Cell} (cell : t ≡ cell_at w j) (d : Wrote w v j) where
    -- a cell that waited for its first part, whatever its kind
    first_of : {x p q k m : ℕ} {g h f : Tree} {r : Row} (F : Around) (K : List Around) → frame F ≡ first k m g h → row_of k ≡ some r → r.a ≡ refers term_sort
        → First w j p q k m g h (frames K) r → IsCell v j t.kind t.label x t.b t.c → HeldField false w q (refers term_sort) x f
        → RestoredTo v j t.a (fill (frames (F ∷ K)) f)
    first_of {x} {p} {q} {k} {m} {g} {h} {f} F K i e a y c b =
        let s : t ≡ record { kind = k; label = y.l; a = y.u; b = y.b; c = y.c } = cell ∙ y.cell.is in
        let u = grows y.second in
        let z = grows y.third in
        let restore : Restored w v j x (frame F) = subst (Restored w v j x) (sym i) (restore_first y.cell e y.label a y.second y.third d.long d.others (rw s at c)) in
        rw s (restored F K restore b (omega (arith, u, z)) (omega (arith, u, z, y.low)) y.rest)

    -- a cell that waited for its second part
    second_of : {x p q k m : ℕ} {g f : Tree} {r : Row} (F : Around) (K : List Around) → frame F ≡ second k m g → row_of k ≡ some r → r.a ≡ refers term_sort
        → r.b ≡ refers term_sort → r.c ≡ unused → Second w j p q k m g (frames K) r → IsCell v j t.kind t.label t.a x 0
        → HeldField false w q (refers term_sort) x f → RestoredTo v j t.b (fill (frames (F ∷ K)) f)
    second_of {x} {p} {q} {k} {m} {g} {f} F K i e a o n y c b =
        let s : t ≡ record { kind = k; label = y.l; a = y.a; b = y.u; c = y.c } = cell ∙ y.cell.is in
        let restore : Restored w v j x (frame F) = subst (Restored w v j x) (sym i) (restore_second y.cell e y.label a o n y.run y.low d.long d.others (rw s at c)) in
        rw s (restored F K restore b (omega (arith, y.here)) (omega (arith, grows y.run, y.low)) y.rest)

    waits_there : {x : ℕ} {f : Tree} (F : Around) (K : List Around) → Held w j x (F ∷ K) f → Waiter t.kind t.c F
    waits_there F K h = rw cell (waiter F K h.waits)

    -- it waited for its first part
    pub restores_first : {x : ℕ} → (j ≡ 0 → ⊥) → (t.c ≡ 0) ⊎ (t.kind ≡ 27) → IsCell v j t.kind t.label x t.b t.c → (K : List Around) (f : Tree)
        → Held w j x K f → RestoredTo v j t.a (fill (frames K) f)
    unfolding frames frame table row_in row_for
    restores_first j0 z c [] f h = absurd (j0 (none_waits h.waits))
    restores_first {x} j0 z c (F ∷ K) f h = by z
      where
        choice_restored : {n : ℕ} {F : Around} → Waiter 27 n F → Held w j x (F ∷ K) f → RestoredTo v j t.a (fill (frames (F ∷ K)) f)
        choice_restored (at_choice {f = y} {g = i}) h = first_of (choice_of y i) K refl refl refl (waits_first h.waits refl) c h.holds

        go : {k : ℕ} {F : Around} → Waiter k 0 F → Held w j x (F ∷ K) f → RestoredTo v j t.a (fill (frames (F ∷ K)) f)
        go (at_anno {A}) h = first_of (anno_of A) K refl refl refl (waits_first h.waits refl) c h.holds
        go (at_app {f = y}) h = first_of (app_left y) K refl refl refl (waits_first h.waits refl) c h.holds
        go (at_merge {f = y}) h = first_of (merge_left y) K refl refl refl (waits_first h.waits refl) c h.holds
        go (at_record {l}) h = first_of (rcd_of l) K refl refl refl (waits_first h.waits refl) c h.holds
        go (at_read {l}) h = first_of (proj_of l) K refl refl refl (waits_first h.waits refl) c h.holds
        go (at_sum {f = y}) h = first_of (sum_left y) K refl refl refl (waits_first h.waits refl) c h.holds
        go at_choice h = choice_restored {n = 0} at_choice h

        by : (t.c ≡ 0) ⊎ (t.kind ≡ 27) → RestoredTo v j t.a (fill (frames (F ∷ K)) f)
        by (inl e) = go (rw e at (waits_there F K h)) h
        by (inr e) = choice_restored (rw e at (waits_there F K h)) h

    -- it waited for its second part
    pub restores_second : {x : ℕ} → (j ≡ 0 → ⊥) → (t.c ≡ 0 → ⊥) → (t.kind ≡ 27 → ⊥) → IsCell v j t.kind t.label t.a x 0 → (K : List Around) (f : Tree)
        → Held w j x K f → RestoredTo v j t.b (fill (frames K) f)
    unfolding frames frame table row_in row_for
    restores_second j0 z n c [] f h = absurd (j0 (none_waits h.waits))
    restores_second {x} j0 z n c (F ∷ K) f h = go n (turned z (waits_there F K h)) h
      where
        go : {k n : ℕ} {F : Around} → (k ≡ 27 → ⊥) → Waiter k (suc n) F → Held w j x (F ∷ K) f → RestoredTo v j t.b (fill (frames (F ∷ K)) f)
        go n (at_argument {v = y}) h = second_of (app_right y) K refl refl refl refl refl (waits_second h.waits refl) c h.holds
        go n (at_merged {v = y}) h = second_of (merge_right y) K refl refl refl refl refl (waits_second h.waits refl) c h.holds
        go n (at_added {v = y}) h = second_of (sum_right y) K refl refl refl refl refl (waits_second h.waits refl) c h.holds
        go n at_choice h = absurd (n refl)

-- what waits around is above the cell that is whole
pub restores_up : {v : List ℕ} {j r : ℕ} {t : Tree} → RestoredTo v j r t → (r ≡ 0) ⊎ ((j < r) × (r < 8192))
restores_up {j = j} {r} m = go (waits_up m.held.waits)
  where
    go : (r ≡ 0) ⊎ ((m.held.end ≤ r) × (r < 8192)) → (r ≡ 0) ⊎ ((j < r) × (r < 8192))
    go (inl e) = inl e
    go (inr e) = inr (omega (arith, e.0, lower m.held.holds), e.1)

pub restore_within : {w : List ℕ} {up child : ℕ} → RestoreReady w up child → 8 * up + 8 ≤ length w
restore_within {w} {up} p = go (waits_up p.unwinding.held.waits)
  where
    go : (up ≡ 0) ⊎ ((p.unwinding.held.end ≤ up) × (up < 8192)) → 8 * up + 8 ≤ length w
    go (inl e) = absurd (p.some e)
    go (inr e) = omega (arith, e.1, p.unwinding.long)

pub child_fits : {w : List ℕ} {up child : ℕ} → RestoreReady w up child → child < 65536
child_fits p = omega (arith, lower p.unwinding.held.holds, waits_right p.unwinding.held.waits)

pub around_low : {w : List ℕ} {up child : ℕ} → Unwinding w up child → up < 8192
around_low {w} {up} u = go (waits_up u.held.waits)
  where
    go : (up ≡ 0) ⊎ ((u.held.end ≤ up) × (up < 8192)) → up < 8192
    go (inl e) = omega (arith, e)
    go (inr e) = e.1
