-- Where the cells of a place lie; a cell that is read fits its fields, a cell that is written stands there. Assumes nothing.
use Prim.Native.Nat.{ℕ, suc, ◌+◌, ◌*◌, ◌≤◌, ◌<◌}
use native.Mathlib.Omega.{arith}
use borrow.Author.Tests.{eq-eqb, ne_eqb}
use mathlib.Core.Path.{◌≡◌, sym, ap, ◌∙◌}
use mathlib.Core.Logic.{◌⊎◌, inl, inr}
use mathlib.Core.Bool.{Bool, true, false, cond}
use mathlib.Core.List.{List}
use lib.Dec.{eqb}
use lib.ListN.{length}
use lib.Seq.{sets}
use Rattle.calculus.specs.Syntax.{Term}
use Rattle.format.specs.Cell.{Cell, cell_at, cell_bytes, IsBytes}
use Rattle.format.proofs.Tests.{cell_fits}
use Rattle.cells.specs.Held.{IsCell}
use Rattle.cells.proofs.Held.{written}
use Rattle.emission.proofs.Runs.{grows, last, ends}
use Rattle.moving.specs.Moves.{Wrote}
use Rattle.moving.proofs.Writing.{wrote}
use Rattle.running.specs.Contexts.{Around}
use Rattle.running.specs.Places.{IsAhead, IsDone, BothDone, IsRedex, RedexParts, of_anno, of_app, of_fix, of_proj, of_sum, of_choice, Standing, third_of, Descending, Waiting}
use Rattle.running.specs.declared.Place.{Place}
use Rattle.running.specs.declared.Focus.TheVariants.{Ahead, Done, Redex}
use Rattle.running.proofs.Waiting.{waits_right}
use Rattle.running.proofs.Unwinding.{waits_up}

-- a waiting cell, if any, stands from q on
abbrev pub Above : ℕ → ℕ → Type 0
Above q up = (up ≡ 0) ⊎ ((q ≤ up) × (up < 8192))

pub above_some : {q up : ℕ} → Above q up → (up ≡ 0 → ⊥) → (q ≤ up) × (up < 8192)
above_some (inl e) h = absurd (h e)
above_some (inr a) h = a

pub above_low : {q up : ℕ} → Above q up → up < 8192
above_low (inl e) = omega (arith, e)
above_low (inr a) = a.1

pub record DoneRange (p : Place) : Type 0 where
  pub some : 1 ≤ p.left
  pub start : p.start < p.left
  pub apart : p.left < p.right
  pub right : p.right ≤ 8192
  pub up : Above p.right p.up

pub done_range : {w : List ℕ} {p : Place} {K : List Around} {f : Term} → IsDone w p K f → DoneRange p
done_range d =
    let e = ends d.run in
    let l = last d.run in
    record { some = omega (arith, e); start = omega (arith, e, l); apart = d.apart; right = waits_right d.waits; up = waits_up d.waits }

pub record AheadRange (p : Place) : Type 0 where
  pub starts : p.start ≡ p.left
  pub apart : p.left < p.right
  pub right : p.right ≤ p.root
  pub root : p.root < 8192
  pub up : Above (suc p.root) p.up

pub ahead_range : {w : List ℕ} {p : Place} {K : List Around} {f : Term} → IsAhead w p K f → AheadRange p
ahead_range a =
    record {
      starts = a.starts;
      apart = omega (arith, a.starts, a.apart);
      right = last a.run;
      root = waits_right a.waits;
      up = waits_up a.waits;
    }

pub record RedexRange (p : Place) : Type 0 where
  pub start : p.start ≤ p.left
  pub apart : p.left < p.right
  pub right : p.right ≤ p.root
  pub root : p.root < 8192
  pub up : Above (suc p.root) p.up

pub redex_range : {w : List ℕ} {p : Place} {K : List Around} {f : Term} → IsRedex w p K f → RedexRange p
redex_range {w} {p} {K} {f} d =
    let g = go d.parts in
    record { start = g.0; apart = d.apart; right = g.1; root = waits_right d.waits; up = waits_up d.waits }
  where
    both : {k : ℕ} {v u : Term} → BothDone w p k v u → (p.start ≤ p.left) × (p.right ≤ p.root)
    both d = (omega (arith, grows d.first, grows d.second), omega (arith, d.nothing))

    go : {f : Term} → RedexParts w p f → (p.start ≤ p.left) × (p.right ≤ p.root)
    go (of_anno c v a b) = (grows a, grows b)
    go (of_app d) = both d
    go (of_fix e r) = (omega (arith, e), last r)
    go (of_proj c v a e) = (grows a, omega (arith, e))
    go (of_sum d) = both d
    go (of_choice c v a x y) = (grows a, omega (arith, grows x, grows y))

-- a bound by itself
module _ {w : List ℕ} {p : Place} {K : List Around} {f : Term} where
  pub ahead_low : IsAhead w p K f → p.root < 8192
  ahead_low a = (ahead_range a).root

  pub ahead_some : IsAhead w p K f → p.right ≤ p.root
  ahead_some a = (ahead_range a).right

  pub done_left : IsDone w p K f → 1 ≤ p.left
  done_left d = (done_range d).some

  pub done_right : IsDone w p K f → p.right ≤ 8192
  done_right d = (done_range d).right

  pub done_start : IsDone w p K f → p.start < 8192
  done_start d = let r = done_range d in omega (arith, r.start, r.apart, r.right)

  pub redex_low : IsRedex w p K f → p.root < 8192
  redex_low d = (redex_range d).root

  pub redex_start : IsRedex w p K f → p.start < 8192
  redex_start d = let r = redex_range d in omega (arith, r.start, r.apart, r.right, r.root)

-- ---- cells read and written

-- the kind of a cell that was read
pub kind_at : {t u : Cell} {n : ℕ} → t ≡ u → t.kind ≡ n → u.kind ≡ n
kind_at e k = sym (ap (λ (c : Cell). c.kind) e) ∙ k

pub kind_not : {t u : Cell} {n : ℕ} → t ≡ u → (t.kind ≡ n → ⊥) → (u.kind ≡ n → ⊥)
kind_not e h q = h (ap (λ (c : Cell). c.kind) e ∙ q)

pub read_fits : (w : List ℕ) (j : ℕ) {t : Cell} → IsBytes w → t ≡ cell_at w j → (t.a < 65536) × (t.b < 65536) × (t.c < 65536)
read_fits w j y e = let f = cell_fits w y j in rw e (f.1, f.2, f.3)

-- the numbers that a waiting cell gets, and those it has
pub waiting_fits : {w : List ℕ} {p : Place} {t : Cell} → Waiting w p t → IsBytes w →
    (p.start < p.left) × (p.left < 8192) × (t.a < 65536) × (t.b < 65536) × (t.c < 65536)
waiting_fits {w} {p} d y =
    let r = done_range d.ready.standing.at in
    let f = read_fits w p.up y d.cell in
    (r.start, omega (arith, r.apart, r.right), f.0, f.1, f.2)

-- field c of a cell that waits for its first part
pub third_kept : {k c : ℕ} → k ≡ 27 → c ≡ cond (eqb k 27) c 0
third_kept {k} h = rw (eq-eqb k 27 h)

pub third_none : {k : ℕ} (c : ℕ) → (k ≡ 27 → ⊥) → 0 ≡ cond (eqb k 27) c 0
third_none {k} c h = rw (ne_eqb k 27 h)

-- the numbers of a cell that begins to wait
pub descending_fits : {w : List ℕ} {p : Place} {t : Cell} {n : ℕ} → Descending w p t → IsBytes w → n ≡ third_of t → (p.up < 8192) × (t.b < 65536) × (n < 65536)
descending_fits {w} {p} {t} d y e =
    let f = read_fits w p.root y d.cell in
    (above_low (ahead_range d.ready.standing.at).up, f.1, rw e (go (eqb t.kind 27) f.2))
  where
    go : (q : Bool) → t.c < 65536 → cond q t.c 0 < 65536
    go true h = h
    go false h = omega arith

-- cell n holds x, all others are as they were
pub record Stored (w v : List ℕ) (n : ℕ) (x : Cell) : Type 0 where
  pub wrote : Wrote w v n
  pub there : IsCell v n x.kind x.label x.a x.b x.c

pub stored : {w v : List ℕ} {n : ℕ} (x : Cell) → 8 * n + 8 ≤ length w → v ≡ sets w (8 * n) (cell_bytes x) → Stored w v n x
stored x h e = record { wrote = wrote x h e; there = (written x h e).there }

pub left_within : {w : List ℕ} {p : Place} {e : Term} → Standing w (Done p) e → 8 * p.left + 8 ≤ length w
left_within s = let r = done_range s.at in omega (arith, r.apart, r.right, s.long)

pub up_within : {w : List ℕ} {p : Place} {e : Term} → Standing w (Done p) e → (p.up ≡ 0 → ⊥) → 8 * p.up + 8 ≤ length w
up_within s h = let u = above_some (done_range s.at).up h in omega (arith, u.1, s.long)

pub root_within : {w : List ℕ} {p : Place} {e : Term} → Standing w (Ahead p) e → 8 * p.root + 8 ≤ length w
root_within s = omega (arith, (ahead_range s.at).root, s.long)

pub redex_within : {w : List ℕ} {p : Place} {e : Term} → Standing w (Redex p) e → 8 * p.root + 8 ≤ length w
redex_within s = omega (arith, (redex_range s.at).root, s.long)

pub start_within : {w : List ℕ} {p : Place} {e : Term} → Standing w (Redex p) e → 8 * p.start + 8 ≤ length w
start_within s = let r = redex_range s.at in omega (arith, r.start, r.apart, r.right, r.root, s.long)
