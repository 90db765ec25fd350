-- What a redex became, encoded in the other buffer, comes to its place; or the whole successor has no room. Assumes nothing.
use Prim.Native.Nat.{ℕ, suc, ◌+◌, ◌*◌, ◌-◌, ◌≤◌, ◌<◌}
use native.Mathlib.Decide.{dec_le}
use native.Mathlib.Omega.{arith}
use mathlib.Core.Path.{◌≡◌, refl, sym, ap, ◌∙◌, subst, subst⁻¹}
use mathlib.Core.Bool.{true, false}
use mathlib.Core.List.{List, append_assoc}
use mathlib.Core.Option.{some}
use Rattle.std.specs.Prelude.{Option, Some, None}
use lib.Dec.{T}
use lib.ListN.{length, take, drop}
use lib.Seq.{sets, sets-eq, length-take-le}
use Rattle.calculus.specs.Syntax.{Ty, Term, var, lit, unit, lam, merge, rcd, anno, app, fix, proj, sum, choice, size}
use Rattle.calculus.specs.Decide.{is_value}
use Rattle.calculus.specs.Evaluate.{next}
use Rattle.calculus.specs.Step.{Step, s_anno, s_cast}
use Rattle.calculus.proofs.Bools.{T_true}
use Rattle.calculus.proofs.Tests.{is_value_says}
use Rattle.calculus.proofs.TypedReduction.{cast_to}
use Rattle.calculus.proofs.Soundness.{value_no_step}
use Rattle.calculus.proofs.Evaluation.{next_sound}
use Rattle.format.specs.Version.{half_of}
use Rattle.format.specs.declared.Version.TheVariants.{Two}
use Rattle.format.specs.Table.{term_sort, refers, row_for, row_in, table}
use Rattle.format.specs.Cell.{Cell, cell_at}
use Rattle.format.specs.Tree.{cells, encode}
use Rattle.format.specs.Terms.{from_term_in, from_term, WideFits}
use Rattle.format.specs.Book.{size_limit}
use Rattle.format.proofs.Trees.{term_cells}
use Rattle.format.proofs.Encoding.{Part, length_encode, root_last}
use Rattle.format.proofs.RoundTrip.{term_good}
use Rattle.cells.proofs.Held.{kind_of_lem}
use Rattle.emission.specs.Emits.{Emits}
use Rattle.emission.specs.Runs.{Run}
use Rattle.emission.proofs.Runs.{grows, last, ends, run_within, at_run, parts, below}
use Rattle.emission.proofs.RunParts.{runs_type, runs_term}
use Rattle.emission.proofs.EncodedRuns.{encoded_run}
use Rattle.moving.specs.Moves.{Kept, PlaceReady, Places}
use Rattle.moving.proofs.Runs.{place_ready}
use Rattle.moving.proofs.PlacedRuns.{run_placed}
use Rattle.reduction.specs.Steps as Reduction
use Rattle.reduction.proofs.Nexts.{any_range}
use Rattle.running.specs.Waiting.{Waits, around}
use Rattle.running.specs.Contexts.{Around, whole, frames}
use Rattle.running.specs.Places.{RedexParts, of_anno, of_app, of_fix, of_proj, of_sum, of_choice, Standing, Runnable}
use Rattle.running.specs.Places.{InPlaceBy, h_became, h_elsewhere, CastsInPlace}
use Rattle.running.specs.Places.{Becomes, ContractumAt, Installing, Installs, Emitting, ContractsTo, c_to, c_full, Contracts}
use Rattle.running.specs.declared.Place.{Place}
use Rattle.running.specs.declared.Focus.{Focus}
use Rattle.running.specs.declared.Focus.TheVariants.{Ahead, Done, Redex}
use Rattle.running.proofs.Contexts.{Inside, next_inside, next_whole}
use Rattle.running.proofs.Waiting.{kept_waits, waiting, waits_right}
use Rattle.running.proofs.Entering.{Kind, k_anno, term_kind}
use Rattle.running.proofs.Ranges.{redex_range, redex_low, kind_at, kind_not}
use Rattle.running.proofs.Standing.{goes, standing_fits, successor_fits}
use Rattle.running.proofs.Projecting.{size_whole, redex_value, redex_kind}

-- ---- installing

anno_low : {s : List ℕ} {x i e : ℕ} {h : Term} → Run false s x (refers term_sort) i (from_term h) e → Kind 19 h → (cell_at s i).a < e
unfolding from_term_in table row_in row_for
anno_low r k_anno =
    let q = parts r refl in
    omega (arith, ap (λ (c : Cell). c.a) q.cell.is, ends q.first, grows q.second, grows q.third, q.last)

module _ {s w : List ℕ} {p : Place} {kind m end : ℕ} (i : Installing s w p kind m end) where
  pub ordered : m ≤ end
  ordered = omega (arith, grows i.contractum.run)

  -- it ends long before what is to come
  pub far : p.start + (end - m) + 4097 ≤ suc p.root
  far = omega (arith, i.around, i.small, ordered)

  pub root_low : suc p.root ≤ 8192
  root_low = waits_right i.contractum.waits

  pub last_some : 1 ≤ end
  last_some = omega (arith, ends i.contractum.run)

  pub last_within : 8 * (end - 1) + 8 ≤ length s
  last_within = run_within i.contractum.run

  -- what an annotation refers to
  pub inside_within : {t : Cell} {a : ℕ} → t ≡ cell_at s (end - 1) → t.kind ≡ 19 → a ≡ t.a → 8 * a + 8 ≤ length s
  inside_within e k o =
      let l = anno_low i.contractum.run (term_kind i.term i.contractum.run (kind_at e k)) in
      omega (arith, o, l, ap (λ (c : Cell). c.a) e, i.small, i.long)

  cut : {K : List Around} {h : Term} → ContractumAt s w p kind m end K h → Run false s m (refers term_sort) (end - 1) (from_term h) (m + (end - m))
  cut b = at_run refl refl (omega (arith, ordered)) b.run

  pub place_left : PlaceReady s w m p.start (end - m)
  place_left = place_ready w p.start (omega (arith, ordered, i.small, i.long)) i.buffer (omega (arith, ordered, i.small)) (omega (arith, far, root_low)) (cut i.contractum)

  pub place_right : PlaceReady s w m (p.root + 1 - (end - m)) (end - m)
  place_right = place_ready w (p.root + 1 - (end - m)) (omega (arith, ordered, i.small, i.long)) i.buffer (omega (arith, ordered, i.small)) (omega (arith, far, root_low)) (cut i.contractum)

  module _ {v : List ℕ} where
    -- the cells around it are as they were
    around_kept : (K : List Around) {y : ℕ} → Kept w v y (y + (end - m)) → p.start ≤ y → y + (end - m) ≤ suc p.root →
        Waits w p.up p.start (suc p.root) (frames K) → Waits v p.up p.start (suc p.root) (frames K)
    around_kept K k a b q =
        kept_waits
        (record { long = k.long; below = λ j h. k.below j (omega (arith, h, a)); above = λ j h. k.above j (omega (arith, h, b)) })
        q

    -- a value is done
    pub installs_left : kind ≡ 19 → Places s w v m p.start (end - m) →
        Installs s w v p kind m end (Done (record { left = p.start + (end - m); start = p.start; right = p.root + 1; root = p.root; up = p.up }))
    installs_left k x =
        record {
          says = λ K h b.
              record {
                long = x.kept.long ∙ i.buffer;
                around = K;
                focus = h;
                is = refl;
                proper = b.proper;
                at = record {
                  value = b.value k;
                  run = at_run refl (omega (arith, ends b.run, last b.run, ordered)) refl (run_placed x (term_good Two h b.fits) (cut b));
                  waits = subst (λ (n : ℕ). Waits v p.up p.start n (frames K)) (omega arith) (around_kept K x.kept (omega arith) (omega (arith, far)) b.waits);
                  apart = omega (arith, far);
                };
              };
        }

    -- all else is to come
    pub installs_right : Places s w v m (p.root + 1 - (end - m)) (end - m) →
        Installs s w v p kind m end (Ahead (record { left = p.start; start = p.start; right = p.root + 1 - (end - m); root = p.root; up = p.up }))
    installs_right x =
        record {
          says = λ K h b.
              record {
                long = x.kept.long ∙ i.buffer;
                around = K;
                focus = h;
                is = refl;
                proper = b.proper;
                at = record {
                  starts = refl;
                  run = at_run refl (omega (arith, ends b.run, last b.run, ordered, far)) (omega (arith, far)) (run_placed x (term_good Two h b.fits) (cut b));
                  waits = around_kept K x.kept (omega (arith, far)) (omega (arith, far)) b.waits;
                  apart = omega (arith, far);
                };
              };
        }

-- ---- contracting

-- bytes that were set are a part
part_set : (s : List ℕ) {t : List ℕ} (m : ℕ) (x : List ℕ) → 8 * m + length x ≤ length s → t ≡ sets s (8 * m) x → Part t m x
part_set s {t} m x h e =
    record {
      before = take (8 * m) s;
      after = drop (8 * m + length x) s;
      starts = length-take-le (8 * m) s (omega (arith, h));
      split = e ∙ sets-eq x s (8 * m) h ∙ append_assoc (take (8 * m) s) x (drop (8 * m + length x) s);
    }

-- a term that was emitted is a run
pub emitted_run : (s : List ℕ) {t : List ℕ} (m : ℕ) (h : Term) → WideFits h → 32768 ≤ length s → m + cells (from_term h) ≤ size_limit → t ≡ sets s (8 * m) (encode m (from_term h)) →
    Run false t m (refers term_sort) (m + cells (from_term h) - 1) (from_term h) (m + cells (from_term h))
emitted_run s {t} m h f n l e =
    let g = term_good Two h f in
    let z = length_encode m (from_term h) in
    at_run refl (omega (arith, root_last m g)) refl (encoded_run m g (part_set s m (encode m (from_term h)) (omega (arith, z, l, n)) e))

-- an annotated value becomes a value
anno_value : {half : ℕ} {v h : Term} {A : Ty} → is_value v ≡ true → Step half (anno v A) h → is_value h ≡ true
anno_value {v} f (s_anno x) = absurd (value_no_step ((is_value_says v).0 (subst⁻¹ T f tt)).1 x)
anno_value {h = h} f (s_cast c) = T_true (is_value_says h) (cast_to c)

module _ {w : List ℕ} (p : Place) {e : Term} (s : Standing w (Redex p) e) (r : Runnable e) where
  -- as many cells stand around the redex as it is emitted behind
  pub around_is : p.start + 8191 - p.root ≡ around (frames s.around)
  around_is = let z = redex_range s.at in omega (arith, waiting s.at.waits, z.root)

  whole_size : size e ≡ around (frames s.around) + size s.focus
  whole_size = ap size s.is ∙ size_whole s.around s.focus

  pub around_small : p.start + 8191 - p.root ≤ size_limit
  around_small = omega (arith, around_is, whole_size, r.small)

  -- the redex, as reduction asks for it
  redex_of : (f : Term) → WideFits f → RedexParts w p f → ((cell_at w p.root).kind ≡ 25 → ⊥) → ((cell_at w p.root).kind ≡ 26 → ⊥) → Reduction.Redex w p.root f
  redex_of (anno v A) f (of_anno c x y z) k m =
      let q = redex_range s.at in
      Reduction.at_anno c (below y (omega (arith, q.apart, q.right))) (below z (omega arith)) x (runs_term f.0 y) (runs_type z)
  redex_of (app v u) f (of_app d) k m =
      let q = redex_range s.at in
      Reduction.at_app d.cell (below d.first (omega (arith, grows d.second, q.apart, q.right))) (below d.second (omega (arith, q.apart, q.right)))
      d.first_value d.second_value (runs_term f.0 d.first) (runs_term f.1 d.second)
  redex_of (choice v e g) f (of_choice c x y z u) k m =
      let q = redex_range s.at in
      Reduction.at_choice c (below y (omega (arith, q.apart, q.right))) (below z (grows u)) (below u (omega arith)) x (runs_term f.0 y) (runs_term f.1 z) (runs_term f.2 u)
  redex_of (fix g A) f (of_fix i x) k m = Reduction.at_fix (runs_term f x)
  redex_of (proj l v) f (of_proj c x y i) k m = absurd (k (kind_of_lem c))
  redex_of (sum v u) f (of_sum d) k m = absurd (m (kind_of_lem d.cell))
  redex_of (var _) f x5 k m = elim x5 [ ]
  redex_of (lit _) f x6 k m = elim x6 [ ]
  redex_of unit f x6 k m = elim x6 [ ]
  redex_of (lam _ _ _) f x10 k m = elim x10 [ ]
  redex_of (merge _ _) f x10 k m = elim x10 [ ]
  redex_of (rcd _ _) f x11 k m = elim x11 [ ]

  pub redex_at : ((cell_at w p.root).kind ≡ 25 → ⊥) → ((cell_at w p.root).kind ≡ 26 → ⊥) → Reduction.Redex w p.root s.focus
  redex_at k m = redex_of s.focus (standing_fits s r) s.at.parts k m

  pub successor_of : (half : ℕ) → (h : Term) × (next half s.focus ≡ some h)
  successor_of half = goes half s.around s.focus s.is s.proper r (redex_value s.at.parts)

  pub within_of : (half : ℕ) {g : Term} → next half e ≡ some g → Inside half s.around s.focus g
  within_of half {g} n = next_inside half s.around s.focus g s.proper (redex_value s.at.parts) (sym (ap (next half) s.is) ∙ n)

  fits_after : (half : ℕ) {g : Term} (n : next half e ≡ some g) → Reduction.Redex w p.root s.focus → WideFits (within_of half n).to
  fits_after half n x =
      let i = within_of half n in
      successor_fits Two s.focus i.to (any_range (half_of Two) half x ∙ i.steps) (standing_fits s r)

  size_after : (half : ℕ) {g : Term} (n : next half e ≡ some g) → size g ≡ p.start + 8191 - p.root + cells (from_term (within_of half n).to)
  size_after half {g} n =
      let i = within_of half n in
      let a = ap size i.is ∙ size_whole s.around i.to in
      omega (arith, a, around_is, term_cells Two i.to)

  -- an annotated value becomes a value
  value_after : (half : ℕ) {g : Term} (n : next half e ≡ some g) → (cell_at w p.root).kind ≡ 19 → is_value (within_of half n).to ≡ true
  value_after half n k = go (redex_kind s.at.parts k) s.at.parts (within_of half n).steps
    where
      go : {f h : Term} → Kind 19 f → RedexParts w p f → next half f ≡ some h → is_value h ≡ true
      go {f} {h} k_anno (of_anno c v a b) q = anno_value v (next_sound half f h q)

pub emit_ready : {s w : List ℕ} {p : Place} {t : Cell} → Emitting s w p t → Reduction.ContractReady w s p.root (p.start + 8191 - p.root)
emit_ready {p = p} d =
    let y = d.contracting.ready in
    let a = successor_of p y.standing y.runnable (half_of Two) in
    record {
      space = record { long = d.contracting.long; used = around_small p y.standing y.runnable };
      low = redex_low y.standing.at;
      term = y.standing.focus;
      redex = redex_at p y.standing y.runnable (kind_not d.cell d.no_read) (kind_not d.cell d.no_sum);
      half = half_of Two;
      successor = a.0;
      steps = a.1;
    }

-- the two answers of emission
module _ {s s' w : List ℕ} {p : Place} {t : Cell} (d : Emitting s w p t) {o : Option ℕ}
    (x : Reduction.EmitsContractum w s s' p.root (p.start + 8191 - p.root) o) where
  abbrev m : ℕ
  m = p.start + 8191 - p.root

  redex_here : {e : Term} (st : Standing w (Redex p) e) → Runnable e → Reduction.Redex w p.root st.focus
  redex_here st r = redex_at p st r (kind_not d.cell d.no_read) (kind_not d.cell d.no_sum)

  emits_after : (half : ℕ) {e g : Term} (st : Standing w (Redex p) e) (r : Runnable e) (n : next half e ≡ some g) → Emits s s' m o (from_term (within_of p st r half n).to)
  emits_after half st r n = let i = within_of p st r half n in x.says half st.focus i.to (redex_here st r) i.steps

  pub contracts_full : {half : ℕ} {r : Option Focus} → o ≡ None → r ≡ None → Contracts half w w p r
  contracts_full {half} q z = rw z (record { says = go })
    where
      go : (e g : Term) → Standing w (Redex p) e → Runnable e → next half e ≡ some g → ContractsTo w w g None
      go e g st r n = by (dec_le (m + cells (from_term (within_of p st r half n).to)) size_limit)
        where
          by : Dec (m + cells (from_term (within_of p st r half n).to) ≤ size_limit) → ContractsTo w w g None
          by (yes l) = let a = ((emits_after half st r n).fits l).0 in let z : ◌≡◌ {A = ℕ} 0 1 = cc in absurd (omega arith)
          by (no l) = c_full (omega (arith, size_after p st r half n, l)) refl refl

  module _ {end : ℕ} (q : o ≡ Some end) where
    became_after : (half : ℕ) {e g : Term} (st : Standing w (Redex p) e) (r : Runnable e) (n : next half e ≡ some g) →
        ((end ≡ m + cells (from_term (within_of p st r half n).to)) × (end ≤ size_limit) × ContractumAt s' w p t.kind m end st.around (within_of p st r half n).to)
    became_after half st r n = by (dec_le (m + cells (from_term h)) size_limit)
      where
        h : Term
        h = (within_of p st r half n).to

        by : Dec (m + cells (from_term h) ≤ size_limit) → (end ≡ m + cells (from_term h)) × (end ≤ size_limit) × ContractumAt s' w p t.kind m end st.around h
        by (yes l) =
            let a = (emits_after half st r n).fits l in
            let z : end ≡ m + cells (from_term h) = cc in
            let y = emitted_run s m h (fits_after p st r half n (redex_here st r)) d.contracting.long l a.1 in (
              z,
              omega (arith, z, l),
              record {
                proper = st.proper;
                waits = st.at.waits;
                run = at_run refl (omega (arith, z)) (sym z) y;
                fits = fits_after p st r half n (redex_here st r);
                value = λ v. value_after p st r half n (kind_at d.cell v);
              },
            )
        by (no l) = let a = (emits_after half st r n).full (omega (arith, l)) in let z : ◌≡◌ {A = ℕ} 0 1 = cc in absurd (omega arith)

    pub installing : {kind : ℕ} → length s' ≡ length s → kind ≡ t.kind → Installing s' w p kind m end
    installing l i =
        let y = d.contracting.ready in
        let st = y.standing in
        let half = half_of Two in
        let a = successor_of p st y.runnable half in
        let n : next half y.term ≡ some (whole st.around a.0) = ap (next half) st.is ∙ next_whole half st.around st.focus a.0 st.proper (redex_value st.at.parts) a.1 in
        let b = became_after half st y.runnable n in
        subst (λ (k : ℕ). Installing s' w p k m end) (sym i)
        (record {
          long = omega (arith, l, d.contracting.long);
          buffer = st.long;
          around = omega (arith, (redex_range st.at).root);
          small = b.1;
          within = st.around;
          term = (within_of p st y.runnable half n).to;
          contractum = b.2;
        })

    pub contracts_next : {half : ℕ} {v : List ℕ} {y : Focus} → Installs s' w v p t.kind m end y → Contracts half w v p (Some y)
    contracts_next {half} {v} {y} z = record { says = go }
      where
        go : (e g : Term) → Standing w (Redex p) e → Runnable e → next half e ≡ some g → ContractsTo w v g (Some y)
        go e g st r n =
            let b = became_after half st r n in
            c_to (omega (arith, b.0, b.1, size_after p st r half n)) refl
            (subst (Standing v y) (sym (within_of p st r half n).is) (z.says st.around (within_of p st r half n).to b.2))

pub contracts_in_place : {half : ℕ} {w v : List ℕ} {p : Place} {y : Focus} → Becomes half w v p y → Contracts half w v p (Some y)
contracts_in_place x = record { says = λ e g st r n. let a = x.says e g st r n in c_to (omega (arith, a.1, r.small)) refl a.0 }

-- ---- an annotated value, in place or not

module _ {w v : List ℕ} {p : Place} {r : Option Focus} (h : CastsInPlace w v p r) where
  pub became_is : {half : ℕ} {x : Focus} → r ≡ Some x → Contracts half w v p (Some x)
  became_is {half} {x} q = go h.says
    where
      go : InPlaceBy w v p r → Contracts half w v p (Some x)
      go (h_became {x = y} e b) = let i : y ≡ x = cc in subst (λ (z : Focus). Contracts half w v p (Some z)) i (contracts_in_place (b half))
      go (h_elsewhere e b) = let z : ◌≡◌ {A = ℕ} 0 1 = cc in absurd (omega arith)
