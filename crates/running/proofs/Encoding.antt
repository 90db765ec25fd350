-- A term encoded in the work buffer comes to its place, and from its place it is encoded again. Assumes nothing.
use Prim.Native.Nat.{ℕ, suc, ◌+◌, ◌*◌, ◌-◌, ◌≤◌, ◌<◌}
use native.Mathlib.Omega.{arith}
use mathlib.Core.Path.{◌≡◌, refl, sym, ap, ◌∙◌, subst}
use mathlib.Core.Bool.{false}
use mathlib.Core.Logic.{◌⊎◌, inl, inr}
use mathlib.Core.List.{List, [], ◌++◌}
use mathlib.Core.Option.{some}
use lib.ListN.{length, take, drop, take-append-drop, length-append, length-drop}
use lib.Seq.{take_at, length-take-le}
use Rattle.calculus.specs.Syntax.{Ty, Term, size}
use Rattle.calculus.specs.Typing.{Typed}
use Rattle.format.specs.declared.Version.TheVariants.{Two}
use Rattle.format.specs.Table.{term_sort, unused, refers, Row, row_for, row_of, row_in, table}
use Rattle.format.specs.Tree.{raw, node, encode}
use Rattle.format.specs.Terms.{from_term_in, from_term}
use Rattle.format.proofs.Trees.{term_cells, term_positive}
use Rattle.format.proofs.Encoding.{Part, root_last}
use Rattle.format.proofs.RoundTrip.{term_good}
use Rattle.cells.specs.declared.Use.TheVariants.{ToTerm}
use Rattle.cells.specs.Held.{HeldField, f_unused, f_refers}
use Rattle.emission.specs.Runs.{Run}
use Rattle.emission.proofs.Runs.{grows, at_run, bare}
use Rattle.emission.proofs.EncodedRuns.{encoded_run}
use Rattle.layout.specs.Encoding.{EncodesTree, InPlaceReady}
use Rattle.layout.proofs.Encoded.{encode_ready}
use Rattle.moving.specs.Moves.{PlaceReady, Places}
use Rattle.moving.proofs.Runs.{place_ready}
use Rattle.moving.proofs.PlacedRuns.{run_placed}
use Rattle.running.specs.Waiting.{w_none}
use Rattle.running.specs.Contexts.{Around, whole, p_none, frames}
use Rattle.running.specs.Places.{IsAhead, IsDone, BothDone, IsRedex, RedexParts, of_anno, of_app, of_fix, of_proj, of_sum, of_choice}
use Rattle.running.specs.Places.{Standing, Runnable, FocusReady, Settles, Held, Unwinding, Unwinds, Rebuilds}
use Rattle.running.specs.Turns.{EncodedTerm, StepReady, Starts, WholeReady, EncodesWhole}
use Rattle.running.specs.declared.Place.{Place}
use Rattle.running.specs.declared.Focus.{Focus}
use Rattle.running.specs.declared.Focus.TheVariants.{Ahead, Done, Redex, Whole}
use Rattle.running.proofs.Contexts.{framed}
use Rattle.running.proofs.Ranges.{ahead_range, done_range, redex_range}

-- ---- to its place

module _ {w : List ℕ} {n : ℕ} {e : Term} (l : EncodedTerm w n e) where
  -- the cells of a term that lies somewhere are a run
  pub term_run : (s : List ℕ) → take (8 * n) s ≡ take (8 * n) w → Run false s 0 (refers term_sort) (n - 1) (from_term e) (0 + n)
  term_run s q =
      let g = term_good Two e l.fits in
      let c = l.tree.count in
      let part : Part s 0 (encode 0 (from_term e)) =
      record { before = []; after = drop (8 * n) s; starts = refl; split = sym (take-append-drop (8 * n) s) ∙ ap (λ (x : List ℕ). x ++ drop (8 * n) s) (q ∙ l.tree.encoded) } in
      at_run refl (omega (arith, root_last 0 g, c)) (omega (arith, c)) (encoded_run 0 g part)

  start_place : (s : List ℕ) → 32768 ≤ length s → length w ≡ 65536 → take (8 * n) s ≡ take (8 * n) w → PlaceReady s w 0 (8192 - n) n
  start_place s h k q = place_ready w (8192 - n) (omega (arith, h, l.tree.small)) k (omega (arith, l.tree.small)) (omega (arith, l.tree.small)) (term_run s q)

  -- it lies in as many cells as it has
  pub encoded_size : size e ≡ n
  encoded_size = omega (arith, l.tree.count, term_cells Two e)

  pub encoded_runnable : {A : Ty} → Typed [] e A → Runnable e
  encoded_runnable {A} t = record { type = A; typed = t; fits = l.fits; small = omega (arith, l.tree.small, encoded_size) }

-- the place of a whole term of n cells that is to come
abbrev pub first : ℕ → Place
first n = record { left = 0; start = 0; right = 8192 - n; root = 8191; up = 0 }

starts_ahead : {s w v : List ℕ} {n : ℕ} {e : Term} → EncodedTerm w n e → length v ≡ 65536 → take (8 * n) s ≡ take (8 * n) w → Places s w v 0 (8192 - n) n → Standing v (Ahead (first n)) e
unfolding whole frames
starts_ahead {s} {w} {v} {n} {e} l h q x =
    record {
      long = h;
      around = [];
      focus = e;
      is = refl;
      proper = p_none;
      at = record {
        starts = refl;
        run = at_run refl (omega (arith, l.tree.small, l.tree.some)) (omega (arith, l.tree.small)) (run_placed x (term_good Two e l.fits) (term_run l s q));
        waits = w_none;
        apart = omega (arith, l.tree.small);
      };
    }

-- The buffer t is s with the term's cells copied to it.
module _ {s t w z : List ℕ} {n : ℕ} (d : StepReady s w n) (q : z ≡ take (8 * n) w) (y : t ≡ z ++ drop (8 * n) s) where
  copied_long : length z ≡ 8 * n
  copied_long = let l = d.at.encoded in ap length q ∙ length-take-le (8 * n) w (omega (arith, l.tree.small, l.tree.long))

  copied : take (8 * n) t ≡ take (8 * n) w
  copied = ap (take (8 * n)) y ∙ take_at z (drop (8 * n) s) (8 * n) copied_long ∙ q

  pub place_start : PlaceReady t w 0 (8192 - n) n
  place_start =
      let l = d.at.encoded in
      let h : length t ≡ length s = ap length y ∙ simp (length-append, length-drop) (omega (arith, copied_long, l.tree.small, d.long)) in
      start_place d.at.encoded t (omega (arith, h, d.long)) d.work copied

  module _ {v : List ℕ} (x : Places t w v 0 (8192 - n) n) where
    standing_first : {e : Term} → EncodedTerm w n e → Standing v (Ahead (first n)) e
    standing_first l = starts_ahead l (x.kept.long ∙ d.work) copied x

    pub ready_first : FocusReady v (Ahead (first n))
    ready_first =
        let a = d.at in
        record { term = a.term; standing = standing_first a.encoded; runnable = encoded_runnable a.encoded a.typed }

    pub starts : {u : List ℕ} {r : Focus} → length u ≡ length v → Settles v u (Ahead (first n)) r → Starts w u n r
    starts k m =
        record {
          long = k ∙ x.kept.long ∙ d.work;
          settled = m.settled;
          says = λ e A l t. m.moves.says e (standing_first l) (encoded_runnable l t);
        }

-- ---- from its place

held_ahead : {w : List ℕ} {p : Place} {K : List Around} {f : Term} → IsAhead w p K f → Held w p.up p.root K (from_term f)
held_ahead {p = p} a =
    let r = ahead_range a in
    record { start = p.start; end = suc p.root; waits = a.waits; low = omega (arith, r.starts, r.apart, r.right); holds = bare (omega arith) a.run }

held_done : {w : List ℕ} {p : Place} {K : List Around} {f : Term} → IsDone w p K f → Held w p.up (p.left - 1) K (from_term f)
held_done {p = p} d =
    let r = done_range d in
    record { start = p.start; end = p.right; waits = d.waits; low = omega (arith, r.start, r.apart); holds = bare (omega (arith, r.apart)) d.run }

-- a kind with two terms and nothing else
abbrev two : ℕ → Row
two k = record { kind = k; sort = term_sort; label = unused; a = refers term_sort; b = refers term_sort; c = unused }

held_both : {w : List ℕ} {p : Place} {k : ℕ} {v u : Term} → p.left < p.right → row_of k ≡ some (two k) → BothDone w p k v u →
    HeldField false w (suc p.root) (refers term_sort) p.root (node k 0 (from_term v) (from_term u) (raw 0))
held_both {p = p} l i d =
    let z : p.root < suc p.root = omega arith in
    f_refers z d.cell i refl tt (bare (omega (arith, l, d.nothing, grows d.second)) d.first) (bare (omega (arith, l, d.nothing)) d.second) f_unused

held_parts : {w : List ℕ} {p : Place} {f : Term} → p.left < p.right → p.right ≤ p.root → RedexParts w p f → HeldField false w (suc p.root) (refers term_sort) p.root (from_term f)
unfolding from_term_in table row_in row_for
held_parts {p = p} l r (of_anno c v a b) =
    let z : p.root < suc p.root = omega arith in
    f_refers z c refl refl tt (bare (omega (arith, l, r)) a) (bare (omega arith) b) f_unused
held_parts l r (of_app d) = held_both l refl d
held_parts l r (of_fix e x) = bare (omega arith) x
held_parts {p = p} l r (of_proj c v a e) =
    let z : p.root < suc p.root = omega arith in
    f_refers z c refl refl tt (bare (omega (arith, l, r)) a) f_unused f_unused
held_parts l r (of_sum d) = held_both l refl d
held_parts {p = p} l r (of_choice c v a x y) =
    let z : p.root < suc p.root = omega arith in
    f_refers z c refl refl tt (bare (omega (arith, l, r)) a) (bare (grows y) x) (bare (omega arith) y)

held_redex : {w : List ℕ} {p : Place} {K : List Around} {f : Term} → IsRedex w p K f → Held w p.up p.root K (from_term f)
held_redex {p = p} d =
    let r = redex_range d in
    record {
      start = p.start;
      end = suc p.root;
      waits = d.waits;
      low = omega (arith, r.start, r.apart, r.right);
      holds = held_parts r.apart r.right d.parts;
    }

unwinding : {w : List ℕ} {x : Focus} {e : Term} {up child : ℕ} (s : Standing w x e) → Held w up child s.around (from_term s.focus) → Unwinding w up child
unwinding s h = record { long = s.long; around = s.around; tree = from_term s.focus; held = h }

-- the whole tree is the term's
whole_tree : {w v : List ℕ} {x : Focus} {e : Term} {up child r : ℕ} (s : Standing w x e) → Held w up child s.around (from_term s.focus) → Unwinds w v up child r →
    HeldField false v 8192 (refers term_sort) r (from_term e)
whole_tree {v = v} {r = r} s h u =
    subst (HeldField false v 8192 (refers term_sort) r) (framed s.around s.focus ∙ ap from_term (sym s.is)) (u.says s.around (from_term s.focus) h)

module _ {w : List ℕ} {x : Focus} (y : FocusReady w x) where
  at : {z : Focus} → x ≡ z → Standing w z y.term
  at q = subst (λ (z : Focus). Standing w z y.term) q y.standing

  -- a focus to come or a redex, by its last cell; a value, by the one before the gap
  pub unwinds_ahead : {p : Place} → (x ≡ Ahead p) ⊎ (x ≡ Redex p) → Unwinding w p.up p.root
  unwinds_ahead (inl q) = let s = at q in unwinding s (held_ahead s.at)
  unwinds_ahead (inr q) = let s = at q in unwinding s (held_redex s.at)

  pub unwinds_done : {p : Place} → (x ≡ Done p) ⊎ (x ≡ Whole p) → Unwinding w p.up (p.left - 1)
  unwinds_done (inl q) = let s = at q in unwinding s (held_done s.at)
  unwinds_done (inr q) = let s = at q in unwinding s (held_done s.at.1)

  pub done_some : {p : Place} → (x ≡ Done p) ⊎ (x ≡ Whole p) → 1 ≤ p.left
  done_some (inl q) = (done_range (at q).at).some
  done_some (inr q) = (done_range (at q).at.1).some

module _ {w v : List ℕ} {x : Focus} {r : ℕ} where
  rebuilt : {z : Focus} → x ≡ z → ((e : Term) → Standing w z e → HeldField false v 8192 (refers term_sort) r (from_term e)) → Rebuilds w v x r
  rebuilt q h = record { says = λ e s. h e (subst (λ (z : Focus). Standing w z e) q s) }

  pub holds_ahead : {p : Place} → (x ≡ Ahead p) ⊎ (x ≡ Redex p) → Unwinds w v p.up p.root r → Rebuilds w v x r
  holds_ahead (inl q) u = rebuilt q (λ e s. whole_tree s (held_ahead s.at) u)
  holds_ahead (inr q) u = rebuilt q (λ e s. whole_tree s (held_redex s.at) u)

  pub holds_done : {p : Place} → (x ≡ Done p) ⊎ (x ≡ Whole p) → Unwinds w v p.up (p.left - 1) r → Rebuilds w v x r
  holds_done (inl q) u = rebuilt q (λ e s. whole_tree s (held_done s.at) u)
  holds_done (inr q) u = rebuilt q (λ e s. whole_tree s (held_done s.at.1) u)

-- ---- encoded

module _ {s w v : List ℕ} {x : Focus} {r : ℕ} (l : WholeReady s w x) (h : Rebuilds w v x r) (k : length v ≡ length w) where
  pub in_place_ready : InPlaceReady s v ToTerm r
  in_place_ready =
      let y = l.ready in
      record {
        long = omega (arith, k, y.standing.long);
        ready = encode_ready l.long (h.says y.term y.standing) (term_positive Two y.term) (omega (arith, term_cells Two y.term, y.runnable.small));
      }

pub encodes_whole : {w v u : List ℕ} {x : Focus} {r n : ℕ} → Rebuilds w v x r → EncodesTree v u ToTerm r n → EncodesWhole w u x n
encodes_whole h d =
    record {
      says = λ e s r.
          record {
            tree = d.says 8192 (from_term e) (h.says e s) (term_positive Two e) (omega (arith, term_cells Two e, r.small));
            fits = r.fits;
          };
    }
