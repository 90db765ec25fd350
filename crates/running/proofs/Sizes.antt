-- The size of the whole term is what stands left and right of the gap, wherever the focus is: a run tells its greatest size from its
-- places alone. Assumes nothing.
use Prim.Native.Nat.{ℕ, suc, ◌+◌}
use native.Mathlib.Omega.{arith}
use mathlib.Core.Path.{◌≡◌, ap, ◌∙◌}
use mathlib.Core.List.{List}
use Rattle.calculus.specs.Syntax.{Term, fix, size}
use Rattle.format.specs.declared.Version.TheVariants.{Two}
use Rattle.format.proofs.Trees.{term_cells, type_cells}
use Rattle.emission.proofs.Runs.{counts}
use Rattle.running.specs.Waiting.{around}
use Rattle.running.specs.Contexts.{Around, frames}
use Rattle.running.specs.Places.{BothDone, RedexParts, of_anno, of_app, of_fix, of_proj, of_sum, of_choice, FocusIs, Standing, FocusReady, focus_place, GapWithin, standing_cells_lem}
use Rattle.running.specs.declared.Place.{Place}
use Rattle.running.specs.declared.Focus.{Focus}
use Rattle.running.specs.declared.Focus.TheVariants.{Ahead, Done, Redex, Whole}
use Rattle.running.proofs.Waiting.{waiting}
use Rattle.running.proofs.Ranges.{ahead_range, done_range, redex_range}
use Rattle.running.proofs.Projecting.{size_whole}

-- wherever the focus is, the gap lies in the work buffer
gap_at : (w : List ℕ) (x : Focus) (K : List Around) (f : Term) → FocusIs w x K f → GapWithin (focus_place x)
gap_at w (Ahead p) K f a = let r = ahead_range a in record { apart = r.apart; right = omega (arith, r.right, r.root) }
gap_at w (Done p) K f d = let r = done_range d in record { apart = r.apart; right = r.right }
gap_at w (Redex p) K f d = let r = redex_range d in record { apart = r.apart; right = omega (arith, r.right, r.root) }
gap_at w (Whole p) K f d = let r = done_range d.1 in record { apart = r.apart; right = r.right }

pub gap_within : {w : List ℕ} {x : Focus} → FocusReady w x → GapWithin (focus_place x)
gap_within {w} {x} h = let s = h.standing in gap_at w x s.around s.focus s.at

both_cells : {w : List ℕ} {p : Place} {k : ℕ} {v u : Term} → BothDone w p k v u → suc (size v + size u) + p.start + p.right ≡ p.left + suc p.root
both_cells {v = v} {u} d = omega (arith, counts d.first, counts d.second, d.nothing, term_cells Two v, term_cells Two u)

redex_cells : {w : List ℕ} {p : Place} {f : Term} → RedexParts w p f → size f + p.start + p.right ≡ p.left + suc p.root
unfolding size
redex_cells (of_anno {v = v} {A = A} c x a b) = omega (arith, counts a, counts b, term_cells Two v, type_cells A)
redex_cells (of_app d) = omega (arith, both_cells d)
redex_cells (of_fix {e = e} {A = A} i r) = omega (arith, counts r, i, term_cells Two (fix e A))
redex_cells (of_proj {v = v} c x a e) = omega (arith, counts a, e, term_cells Two v)
redex_cells (of_sum d) = omega (arith, both_cells d)
redex_cells (of_choice {v = v} {e = e} {f = f} c x a y z) = omega (arith, counts a, counts y, counts z, term_cells Two v, term_cells Two e, term_cells Two f)

focus_cells : (w : List ℕ) (x : Focus) (K : List Around) (f : Term) → FocusIs w x K f → around (frames K) + size f ≡ standing_cells_lem (focus_place x)
focus_cells w (Ahead p) K f a = let r = ahead_range a in omega (arith, waiting a.waits, counts a.run, term_cells Two f, r.starts, r.right, r.root)
focus_cells w (Done p) K f d = let r = done_range d in omega (arith, waiting d.waits, counts d.run, term_cells Two f, r.start, r.right)
focus_cells w (Redex p) K f d = let r = redex_range d in omega (arith, waiting d.waits, redex_cells d.parts, r.start, r.right, r.root)
focus_cells w (Whole p) K f d = let r = done_range d.1 in omega (arith, waiting d.1.waits, counts d.1.run, term_cells Two f, r.start, r.right)

pub standing_size : {w : List ℕ} {x : Focus} {e : Term} → Standing w x e → size e ≡ standing_cells_lem (focus_place x)
standing_size {w} {x} s = ap size s.is ∙ size_whole s.around s.focus ∙ focus_cells w x s.around s.focus s.at
