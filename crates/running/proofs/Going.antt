-- The moves of the focus: down into a first part, on to a second, and over a cell whose parts are done. Over kind and field. Assumes nothing.
use Prim.Native.Nat.{ℕ, suc, ◌-◌, ◌≤◌, ◌<◌}
use native.Mathlib.Omega.{arith}
use mathlib.Core.Path.{◌≡◌, refl, sym, subst}
use mathlib.Core.Bool.{Bool, true}
use mathlib.Core.List.{List, ◌∷◌}
use mathlib.Core.Option.{some}
use Rattle.format.specs.Table.{term_sort, Use, unused, refers, Row, row_of}
use Rattle.format.specs.Tree.{Tree, raw, node}
use Rattle.cells.specs.Held.{IsCell, label_by_lem}
use Rattle.emission.specs.Runs.{Run, r_unused, r_refers}
use Rattle.emission.proofs.Runs.{grows, nothing, ends, kept_run}
use Rattle.moving.specs.Moves.{Kept, Wrote}
use Rattle.running.specs.Waiting.{Frame, first, second, Waits, w_first, w_second}
use Rattle.running.proofs.Waiting.{kept_waits}

-- a focus ahead, and what waits around it
pub record AheadTree (w : List ℕ) (start right root up : ℕ) (t : Tree) (K : List Frame) : Type 0 where
  pub run : Run true w right (refers term_sort) root t (suc root)
  pub waits : Waits w up start (suc root) K
  pub apart : start < right

-- a focus that is done
pub record DoneTree (w : List ℕ) (start last right up : ℕ) (t : Tree) (K : List Frame) : Type 0 where
  pub run : Run true w start (refers term_sort) last t (suc last)
  pub waits : Waits w up start right K
  pub apart : suc last < right

pub wrote_kept : {w v : List ℕ} {j p q : ℕ} → Wrote w v j → p ≤ j → j < q → Kept w v p q
wrote_kept d l h =
    record {
      long = d.long;
      below = λ i y. d.others i (λ e. absurd (omega (arith, y, e, l)));
      above = λ i y. d.others i (λ e. absurd (omega (arith, y, e, h)));
    }

pub wrote_run : {q : Bool} {w v : List ℕ} {j x n e : ℕ} {u : Use} {t : Tree} → Wrote w v j → e ≤ j → Run q w x u n t e → Run q v x u n t e
wrote_run d l r = kept_run d.long (λ i a b. d.others i (λ e. absurd (omega (arith, b, e, l)))) r

as_use : {q : Bool} {s : List ℕ} {x n e : ℕ} {u v : Use} {t : Tree} → u ≡ v → Run q s x u n t e → Run q s x v n t e
as_use e r = rw (sym e) r

-- a field that the row does not name may hold any number
pub any_number : {q : Bool} {s : List ℕ} {x n e : ℕ} {u : Use} {t : Tree} (m : ℕ) → u ≡ unused → Run q s x u n t e → Run q s x u m t e
any_number {q} {s} m e r = as_use (sym e) (go (as_use e r))
  where
    go : {x n e : ℕ} {t : Tree} → Run q s x unused n t e → Run q s x unused m t e
    go r_unused = r_unused

-- down: the cell of the focus waits for its first part, and keeps what else its row names
pub descends : {w v : List ℕ} {start right root up k l m a b c y z : ℕ} {f g h : Tree} {K : List Frame} {r : Row} → row_of k ≡ some r
    → m ≡ label_by_lem r.label l → Run true w right r.a a f y → Run true w y r.b b g z → Run true w z r.c c h root → r.a ≡ refers term_sort
    → (r.c ≡ unused → c ≡ 0) → Waits w up start (suc root) K → start < right → Wrote w v root → IsCell v root k l up b c
    → AheadTree v start right a root f (first k m g h ∷ K)
descends {start = start} {right = right} {a = a} {y = y} {r = r} e m f g h s n q l d c =
    let one = as_use s f in
    let last : y ≡ suc a = ends one in
    let low : start < y = omega (arith, l, grows f) in
    record {
      run = rw last at (wrote_run d (omega (arith, grows g, grows h)) one);
      waits =
          rw last at
          (w_first
          c
          e
          m
          s
          n
          (wrote_run d (grows h) g)
          (wrote_run d (omega arith) h)
          low
          (kept_waits (wrote_kept d (omega (arith, l, grows f, grows g, grows h)) (omega arith)) q));
      apart = l;
    }

-- on: the first part is done, the cell waits for the second
pub goes_on : {w v : List ℕ} {start left right j u k l m b c x : ℕ} {t g h : Tree} {K : List Frame} {r : Row} → IsCell w j k l u b c → row_of k ≡ some r
    → m ≡ label_by_lem r.label l → r.a ≡ refers term_sort → r.b ≡ refers term_sort → r.c ≡ unused → Run true w right r.b b g x → Run true w x r.c c h j
    → Waits w u start (suc j) K → Run true w start (refers term_sort) (left - 1) t left → left < right → Wrote w v j → IsCell v j k l (left - 1) u (suc start)
    → AheadTree v left right b j g (second k m t ∷ K)
goes_on {v = v} {left = left} {j = j} {k = kd} {m = lb} {b = b} {x = x} {t = part} {K = K} p e m s o n g h q t l d c =
    let two = as_use o g in
    let last : x ≡ suc b = ends two in
    let end : x ≡ j = nothing (as_use n h) in
    let far : left ≤ j = omega (arith, l, grows g, end) in
    let here : j ≡ suc b = omega (arith, last, end) in
    record {
      run = rw last at (wrote_run d (omega (arith, end)) two);
      waits = subst (λ (z : ℕ). Waits v j left z (second kd lb part ∷ K)) here (w_second c e m s o n refl (wrote_run d far t) far (kept_waits (wrote_kept d (omega (arith, far, grows t)) (omega arith)) q));
      apart = l;
    }

-- a field that the row does not name, elsewhere
elsewhere : {q : Bool} {s v : List ℕ} {x n e : ℕ} {u : Use} {t : Tree} (y m : ℕ) → u ≡ unused → Run q s x u n t e → Run q v y u m t y
elsewhere {q} {s} {v} {t = t} y m e r = as_use (sym e) (go (as_use e r))
  where
    go : {x n e : ℕ} {f : Tree} → Run q s x unused n f e → Run q v y unused m f y
    go r_unused = r_unused

-- over: the one part is done, and the cell follows it
pub closes_one : {w v : List ℕ} {start last right j u k l m b c x d₁ d₂ : ℕ} {t g h : Tree} {K : List Frame} {r : Row} → IsCell w j k l u b c → row_of k ≡ some r
    → m ≡ label_by_lem r.label l → r.a ≡ refers term_sort → r.b ≡ unused → r.c ≡ unused → Run true w right r.b b g x → Run true w x r.c c h j
    → Waits w u start (suc j) K → Run true w start (refers term_sort) last t (suc last) → suc last < right → r.sort ≡ term_sort → Wrote w v (suc last)
    → IsCell v (suc last) k l last d₁ d₂ → DoneTree v start (suc last) (suc j) u (node k m t g h) K
closes_one {start = start} {last} {right} {j} {x = x} {d₁} {d₂} p e m s o n g h q t l y d c =
    let end : x ≡ j = nothing (as_use n h) in
    let start : right ≡ x = nothing (as_use o g) in
    record {
      run =
          r_refers
          c
          e
          m
          (as_use (sym s) (wrote_run d (omega arith) t))
          (elsewhere (suc last) d₁ o g)
          (elsewhere (suc last) d₂ n h)
          refl
          (y, tt);
      waits = kept_waits (wrote_kept d (omega (arith, grows t)) (omega (arith, l, end, start))) q;
      apart = omega (arith, l, end, start);
    }

-- over: both parts are done
pub closes_both : {w v : List ℕ} {start last j u o k l m a c : ℕ} {f t : Tree} {K : List Frame} {r : Row} → IsCell w j k l a u c → row_of k ≡ some r
    → m ≡ label_by_lem r.label l → r.a ≡ refers term_sort → r.b ≡ refers term_sort → r.c ≡ unused → Run true w o (refers term_sort) a f start
    → Waits w u o (suc j) K → Run true w start (refers term_sort) last t (suc last) → suc last < j → r.sort ≡ term_sort → Wrote w v (suc last)
    → IsCell v (suc last) k l a last 0 → DoneTree v o (suc last) (suc j) u (node k m f t (raw 0)) K
closes_both {start = start} {last} {j} p e m s b n f q t l y d c =
    record {
      run =
          r_refers
          c
          e
          m
          (as_use (sym s) (wrote_run d (omega (arith, grows t)) f))
          (as_use (sym b) (wrote_run d (omega arith) t))
          (as_use (sym n) r_unused)
          refl
          (y, tt);
      waits = kept_waits (wrote_kept d (omega (arith, grows f, grows t)) (omega (arith, l))) q;
      apart = omega (arith, l);
    }
