-- A focus that is a value: what the cell that waits for it becomes. Assumes nothing.
use Prim.Native.Nat.{ℕ, suc, ◌+◌, ◌-◌, ◌≤◌, ◌<◌}
use native.Mathlib.Omega.{arith}
use mathlib.Core.Path.{◌≡◌, refl, sym, ap, ◌∙◌, subst}
use mathlib.Core.Bool.{true}
use mathlib.Core.List.{List, [], ◌∷◌}
use mathlib.Core.Option.{some}
use Rattle.calculus.specs.Syntax.{Ty, Term, merge, rcd}
use Rattle.calculus.specs.Decide.{is_value}
use Rattle.format.specs.Table.{term_sort, unused, refers, Row, row_for, row_of, row_in, table}
use Rattle.format.specs.Cell.{Cell, cell_at}
use Rattle.format.specs.Tree.{Tree, raw}
use Rattle.format.specs.Terms.{from_term_in, from_term}
use Rattle.cells.specs.Held.{IsCell, label_by_lem}
use Rattle.emission.specs.Runs.{Run}
use Rattle.emission.proofs.Runs.{grows, nothing, ends, at_run}
use Rattle.moving.specs.Moves.{Wrote}
use Rattle.running.specs.Waiting.{Frame, first, second, Waits, w_first, w_second}
use Rattle.running.specs.Contexts.{Around, anno_of, merge_right, rcd_of, proj_of, choice_of, plug_term, frame, frames}
use Rattle.running.specs.Places.{IsAhead, IsDone, BothDone, RedexParts, of_anno, of_proj, of_choice, IsRedex}
use Rattle.running.specs.declared.Place.{Place}
use Rattle.running.proofs.Waiting.{kept_waits}
use Rattle.running.proofs.Going.{DoneTree, wrote_run, wrote_kept, goes_on, closes_one, closes_both}

-- a cell that waits for its first part, by the row of its kind
pub record First (w : List ℕ) (j p q k m : ℕ) (g h : Tree) (K : List Frame) (r : Row) : Type 0 where
  pub l : ℕ
  pub u : ℕ
  pub b : ℕ
  pub c : ℕ
  pub z : ℕ
  pub cell : IsCell w j k l u b c
  pub label : m ≡ label_by_lem r.label l
  pub unused : r.c ≡ unused → c ≡ 0
  pub second : Run true w q r.b b g z
  pub third : Run true w z r.c c h j
  pub low : p < q
  pub rest : Waits w u p (suc j) K

pub waits_first : {w : List ℕ} {j p q k m : ℕ} {g h : Tree} {K : List Frame} {r : Row} → Waits w j p q (first k m g h ∷ K) → row_of k ≡ some r →
    First w j p q k m g h K r
waits_first {w} {j} {p} {q} {k} {m} {g} {h} {K} {r} (w_first {z = z} {u = u} {l = l} {b = b} {c = c} {r = v} x e n a d s t f y) o =
    let i : v ≡ r = cc (o, e) in
    subst (First w j p q k m g h K) i
    (record { l = l; u = u; b = b; c = c; z = z; cell = x; label = n; unused = d; second = s; third = t; low = f; rest = y })

-- a cell that waits for its second part
pub record Second (w : List ℕ) (j p q k m : ℕ) (f : Tree) (K : List Frame) (r : Row) : Type 0 where
  pub l : ℕ
  pub a : ℕ
  pub u : ℕ
  pub c : ℕ
  pub o : ℕ
  pub cell : IsCell w j k l a u c
  pub label : m ≡ label_by_lem r.label l
  pub start : c ≡ suc o
  pub run : Run true w o (refers term_sort) a f p
  pub low : p ≤ j
  pub here : q ≡ j
  pub rest : Waits w u o (suc j) K

pub waits_second : {w : List ℕ} {j p q k m : ℕ} {f : Tree} {K : List Frame} {r : Row} → Waits w j p q (second k m f ∷ K) → row_of k ≡ some r →
    Second w j p q k m f K r
waits_second {w} {j} {p} {q} {k} {m} {f} {K} {r} (w_second {o = o'} {u = u} {l = l} {a = a} {c = c} {r = v} x e n s b d t y g z) h =
    let i : v ≡ r = cc (h, e) in
    subst (Second w j p q k m f K) i
    (record { l = l; a = a; u = u; c = c; o = o'; cell = x; label = n; start = t; run = y; low = g; here = refl; rest = z })

-- what waits is a cell right of the gap
pub waits_some : {w : List ℕ} {j p q : ℕ} {F : Frame} {K : List Frame} → Waits w j p q (F ∷ K) → 1 ≤ j
waits_some (w_first c r m a n g h l k) = omega (arith, grows g, grows h, l)
waits_some (w_second c r m a b d o f l k) = omega (arith, ends f, l)

pub waits_none : {w : List ℕ} {p q : ℕ} (K : List Around) → Waits w 0 p q (frames K) → K ≡ []
unfolding frames
waits_none [] h = refl
waits_none (F ∷ K) h = absurd (omega (arith, waits_some h))

-- the places that follow: a cell closed behind its part, a redex
abbrev pub closed : Place → ℕ → ℕ → Place
closed p start up = record { left = p.left + 1; start = start; right = p.right + 1; root = p.root; up = up }

abbrev pub redexed : Place → ℕ → ℕ → Place
redexed p start up = record { left = p.left; start = start; right = p.right; root = p.up; up = up }

abbrev pub onward : Place → ℕ → Place
onward p b = record { left = p.left; start = p.left; right = p.right; root = b; up = p.up }

done_of : {v : List ℕ} (p : Place) {K : List Around} {o u : ℕ} {f : Term} {t : Tree} → is_value f ≡ true → t ≡ from_term f →
    DoneTree v o (suc (p.left - 1)) (suc p.right) u t (frames K) → 1 ≤ p.left → IsDone v (closed p o u) K f
done_of {v} p {K} {o} {u} h e d l =
    record {
      value = h;
      run = at_run refl (omega (arith, l)) (omega (arith, l)) (rw e at d.run);
      waits = subst (λ (q : ℕ). Waits v u o q (frames K)) (omega arith) d.waits;
      apart = omega (arith, d.apart, l);
    }

module _ {w v : List ℕ} (p : Place) {K : List Around} where
  -- a record is done
  pub leaves_record : {l : ℕ} (f : Term) (t : Cell) → IsDone w p (rcd_of l ∷ K) f → t ≡ cell_at w p.up → Wrote w v p.left →
      IsCell v p.left t.kind t.label (p.left - 1) t.b t.c → IsDone v (closed p p.start t.a) K (rcd l f)
  unfolding frames frame from_term_in is_value table row_in row_for
  leaves_record {l} f t d e x y =
      let q = waits_first d.waits refl in
      let s : t ≡ record { kind = 24; label = q.l; a = q.u; b = q.b; c = q.c } = e ∙ q.cell.is in
      let n : p.left ≡ suc (p.left - 1) = ends d.run in
      let i : p.right ≡ p.up = nothing q.second ∙ nothing q.third in
      let c : DoneTree v p.start (suc (p.left - 1)) (suc p.up) q.u (from_term (rcd l f)) (frames K)
      = closes_one q.cell refl q.label refl refl refl q.second q.third q.rest
      (at_run refl refl n d.run) (omega (arith, n, d.apart)) refl (subst (Wrote w v) n x)
      (subst (λ (z : ℕ). IsCell v z 24 q.l (p.left - 1) q.b q.c) n (rw s at y)) in
      rw s (done_of p d.value refl (subst (λ (z : ℕ). DoneTree v p.start (suc (p.left - 1)) (suc z) q.u (from_term (rcd l f)) (frames K)) (sym i) c)
      (omega (arith, n)))

  -- the cell, with its first part done, is a redex: its other fields are as they were
  leaves_one : {k m : ℕ} {g h : Tree} {r : Row} (f : Term) (F : Around) (t : Cell) → IsDone w p (F ∷ K) f → frame F ≡ first k m g h → row_of k ≡ some r →
      t ≡ cell_at w p.up → Wrote w v p.up → IsCell v p.up t.kind t.label (p.left - 1) t.b t.c →
      ((l b c z : ℕ) → m ≡ label_by_lem r.label l → IsCell v p.up k l (p.left - 1) b c → Run true v p.start (refers term_sort) (p.left - 1) (from_term f) p.left →
      Run true v p.right r.b b g z → Run true v z r.c c h p.up → RedexParts v (redexed p p.start t.a) (plug_term F f)) →
      IsRedex v (redexed p p.start t.a) K (plug_term F f)
  unfolding frames
  leaves_one {k} f F t d i o e x y parts-of =
      let q = waits_first (subst (λ (z : Frame). Waits w p.up p.start p.right (z ∷ frames K)) i d.waits) o in
      let s : t ≡ record { kind = k; label = q.l; a = q.u; b = q.b; c = q.c } = e ∙ q.cell.is in
      let g = grows q.second in
      let h = grows q.third in
      record {
        parts = parts-of q.l q.b q.c q.z q.label (rw s at y) (wrote_run x (omega (arith, d.apart, g, h)) d.run) (wrote_run x h q.second) (wrote_run x (omega arith) q.third);
        waits = rw s (kept_waits (wrote_kept x (omega (arith, q.low, g, h)) (omega arith)) q.rest);
        apart = d.apart;
      }

  module _ (f : Term) (t : Cell) (e : t ≡ cell_at w p.up) (x : Wrote w v p.up) (y : IsCell v p.up t.kind t.label (p.left - 1) t.b t.c) where
    -- an annotated value
    pub leaves_anno : {A : Ty} → IsDone w p (anno_of A ∷ K) f → IsRedex v (redexed p p.start t.a) K (plug_term (anno_of A) f)
    unfolding plug_term frame table row_in row_for
    leaves_anno {A} d = leaves_one f (anno_of A) t d refl refl e x y (λ _ _ _ _ m c a g h. of_anno c d.value a (at_run refl refl (nothing h) g))

    -- a field read of a value
    pub leaves_proj : {l : ℕ} → IsDone w p (proj_of l ∷ K) f → IsRedex v (redexed p p.start t.a) K (plug_term (proj_of l) f)
    unfolding plug_term frame table row_in row_for
    leaves_proj {l} d = leaves_one f (proj_of l) t d refl refl e x y (λ _ _ _ _ m c a g h. of_proj (rw (sym m) at c) d.value a (nothing g ∙ nothing h))

    -- a choice by a value
    pub leaves_choice : {g h : Term} → IsDone w p (choice_of g h ∷ K) f → IsRedex v (redexed p p.start t.a) K (plug_term (choice_of g h) f)
    unfolding plug_term frame table row_in row_for
    leaves_choice {g} {h} d = leaves_one f (choice_of g h) t d refl refl e x y (λ _ _ _ _ m c a g h. of_choice c d.value a g h)

  -- the cell waits for its second part, whatever its kind
  pub leaves_first : {k m : ℕ} {r : Row} (f h : Term) (F G : Around) (t : Cell) → IsDone w p (F ∷ K) f → frame F ≡ first k m (from_term h) (raw 0) →
      frame G ≡ second k m (from_term f) → row_of k ≡ some r → r.a ≡ refers term_sort → r.b ≡ refers term_sort → r.c ≡ unused → t ≡ cell_at w p.up →
      Wrote w v p.up → IsCell v p.up t.kind t.label (p.left - 1) t.a (p.start + 1) → IsAhead v (onward p t.b) (G ∷ K) h
  unfolding frames
  leaves_first {k} f h F G t d i j o one two none e x y =
      let q = waits_first (subst (λ (z : Frame). Waits w p.up p.start p.right (z ∷ frames K)) i d.waits) o in
      let s : t ≡ record { kind = k; label = q.l; a = q.u; b = q.b; c = q.c } = e ∙ q.cell.is in
      let n : p.start + 1 ≡ suc p.start = omega arith in
      let a = goes_on q.cell o q.label one two none q.second q.third q.rest d.run d.apart x
      (subst (IsCell v p.up k q.l (p.left - 1) q.u) n (rw s at y)) in
      rw s
      (record { starts = refl; run = a.run; waits = subst (λ (z : Frame). Waits v p.up p.left (suc q.b) (z ∷ frames K)) (sym j) a.waits; apart = a.apart })

  -- a merge of values is done
  pub leaves_merge : (f : Term) {g : Term} (t : Cell) → IsDone w p (merge_right g ∷ K) f → is_value g ≡ true → t ≡ cell_at w p.up → Wrote w v p.left →
      IsCell v p.left t.kind t.label t.a (p.left - 1) 0 → IsDone v (closed p (t.c - 1) t.b) K (merge g f)
  unfolding frames frame from_term_in is_value table row_in row_for
  leaves_merge f {g} t d h e x y =
      let q = waits_second d.waits refl in
      let s : t ≡ record { kind = 22; label = q.l; a = q.a; b = q.u; c = q.c } = e ∙ q.cell.is in
      let n : p.left ≡ suc (p.left - 1) = ends d.run in
      let o : q.c - 1 ≡ q.o = omega (arith, q.start) in
      let i = q.here in
      let c : DoneTree v q.o (suc (p.left - 1)) (suc p.up) q.u (from_term (merge g f)) (frames K)
      = closes_both q.cell refl q.label refl refl refl q.run q.rest
      (at_run refl refl n d.run) (omega (arith, n, d.apart, i)) refl (subst (Wrote w v) n x)
      (subst (λ (z : ℕ). IsCell v z 22 q.l q.a (p.left - 1) 0) n (rw s at y)) in
      rw (s, o) (done_of p (rw (h, d.value)) refl (subst (λ (z : ℕ). DoneTree v q.o (suc (p.left - 1)) (suc z) q.u (from_term (merge g f)) (frames K)) (sym i) c)
      (omega (arith, n)))

  -- a cell with both parts done is a redex
  pub leaves_both : {k m : ℕ} {r : Row} (f : Term) {g : Term} (G : Around) (t : Cell) → IsDone w p (G ∷ K) f → frame G ≡ second k m (from_term g) → row_of k ≡ some r →
      is_value g ≡ true → t ≡ cell_at w p.up → Wrote w v p.up → IsCell v p.up t.kind t.label t.a (p.left - 1) 0 →
      (BothDone v (redexed p (t.c - 1) t.b) k g f → RedexParts v (redexed p (t.c - 1) t.b) (plug_term G f)) →
      IsRedex v (redexed p (t.c - 1) t.b) K (plug_term G f)
  unfolding frames
  leaves_both {k} f G t d j n h e x y parts-of =
      let q = waits_second (subst (λ (z : Frame). Waits w p.up p.start p.right (z ∷ frames K)) j d.waits) n in
      let s : t ≡ record { kind = k; label = q.l; a = q.a; b = q.u; c = q.c } = e ∙ q.cell.is in
      let o : t.c - 1 ≡ q.o = omega (arith, q.start, ap (λ (c : Cell). c.c) s) in
      let i = q.here in
      record {
        parts = parts-of
            (record {
              label = q.l;
              a = q.a;
              b = p.left - 1;
              c = 0;
              end = p.start;
              cell = rw s at y;
              first_value = h;
              second_value = d.value;
              first = rw o (wrote_run x q.low q.run);
              second = wrote_run x (omega (arith, d.apart, i)) d.run;
              nothing = i;
            });
        waits = rw (o, s) (kept_waits (wrote_kept x (omega (arith, grows q.run, q.low)) (omega arith)) q.rest);
        apart = d.apart;
      }
