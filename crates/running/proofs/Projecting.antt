-- A redex that has become a value in place: a value of one cell is written. A field read of the top value or of a record: the top value stays, the
-- record loses its last cell. Assumes nothing.
use Prim.Native.Nat.{ℕ, suc, ◌+◌, ◌*◌, ◌-◌, ◌≤◌, ◌<◌}
use native.Mathlib.Omega.{arith}
use mathlib.Core.Path.{◌≡◌, refl, sym, ap, ◌∙◌, subst}
use mathlib.Core.Bool.{true, false}
use mathlib.Core.List.{List}
use mathlib.Core.Option.{some, some-injective, none-ne-some}
use lib.Dec.{eqb}
use lib.ListN.{length}
use lib.Seq.{sets}
use Rattle.calculus.specs.Syntax.{Ty, Term, unit, rcd, proj, Value, v_lit, v_unit, v_lam, v_merge, v_rcd, size}
use Rattle.calculus.specs.Decide.{is_value}
use Rattle.calculus.specs.Evaluate.{next, project}
use Rattle.calculus.proofs.Bools.{true_says}
use Rattle.calculus.proofs.Tests.{is_value_says}
use Rattle.format.specs.declared.Version.TheVariants.{Two}
use Rattle.format.specs.Table.{term_sort, refers, row_for, row_in, table}
use Rattle.format.specs.Cell.{Cell, cell_at, cell_bytes}
use Rattle.format.specs.Tree.{kind_in}
use Rattle.format.specs.Terms.{from_term_in, from_term}
use Rattle.format.proofs.Trees.{term_cells, term_positive}
use Rattle.format.proofs.Tests.{number_2}
use Rattle.cells.proofs.Held.{kind_of_lem}
use Rattle.emission.specs.Runs.{Run, r_unused, r_plain, r_refers}
use Rattle.emission.proofs.Runs.{nothing, ends, run_within, at_run, parts, run_kind}
use Rattle.moving.specs.Moves.{Kept}
use Rattle.typed_reduction.proofs.Casts.{when_some}
use Rattle.running.specs.Waiting.{Waits, around}
use Rattle.running.specs.Contexts.{Around, whole, frames}
use Rattle.running.specs.Places.{RedexParts, of_anno, of_app, of_fix, of_proj, of_sum, of_choice, Standing, Runnable, done_at, Becomes, RedexAt}
use Rattle.running.specs.Places.{SingleCell, top_cell, number_cell, SingleReady, AtRedex, BecomesSingle, BecomesTop}
use Rattle.running.specs.declared.Place.{Place}
use Rattle.running.specs.declared.Focus.{Focus}
use Rattle.running.specs.declared.Focus.TheVariants.{Redex}
use Rattle.running.proofs.Contexts.{next_inside, framed}
use Rattle.running.proofs.Waiting.{filled, kept_waits}
use Rattle.running.proofs.Going.{wrote_kept}
use Rattle.running.proofs.Entering.{Kind, k_unit, k_anno, k_app, k_proj, k_sum, k_choice, term_kind}
use Rattle.running.proofs.Ranges.{RedexRange, redex_range, redex_low, Stored, stored, start_within, kind_at, kind_not}

-- the size of the whole term: the cells around the focus, and the focus
pub size_whole : (K : List Around) (f : Term) → size (whole K f) ≡ around (frames K) + size f
size_whole K f =
    sym (term_cells Two (whole K f)) ∙ ap Rattle.format.specs.Tree.cells (sym (framed K f)) ∙ filled (frames K) (from_term f) ∙ ap (λ (n : ℕ). around (frames K) + n) (term_cells Two f)

-- a redex is no value
pub redex_value : {w : List ℕ} {p : Place} {f : Term} → RedexParts w p f → is_value f ≡ false
unfolding is_value
redex_value (of_anno c v a b) = refl
redex_value (of_app d) = refl
redex_value (of_fix e r) = refl
redex_value (of_proj c v a e) = refl
redex_value (of_sum d) = refl
redex_value (of_choice c v a x y) = refl

-- and is what the kind of its cell says
pub redex_kind : {w : List ℕ} {p : Place} {f : Term} {k : ℕ} → RedexParts w p f → (cell_at w p.root).kind ≡ k → Kind k f
redex_kind (of_anno c v a b) e = rw (sym e ∙ kind_of_lem c) k_anno
redex_kind (of_app d) e = rw (sym e ∙ kind_of_lem d.cell) k_app
redex_kind (of_fix s r) e = term_kind _ r e
redex_kind (of_proj c v a r) e = rw (sym e ∙ kind_of_lem c) k_proj
redex_kind (of_sum d) e = rw (sym e ∙ kind_of_lem d.cell) k_sum
redex_kind (of_choice c v a x y) e = rw (sym e ∙ kind_of_lem c) k_choice

-- the field read of cell t, and its value
pub record Read (w : List ℕ) (p : Place) (f : Term) (t : Cell) : Type 0 where
  pub value : Term
  pub is : f ≡ proj t.label value
  pub final : is_value value ≡ true
  pub run : Run true w p.start (refers term_sort) t.a (from_term value) p.left

read_of : {w : List ℕ} (p : Place) {f : Term} (t : Cell) → Kind 25 f → RedexParts w p f → t ≡ cell_at w p.root → Read w p f t
read_of p t k_proj (of_proj {v = v} c f r i) e =
    let a : t.a ≡ _ = ap (λ (c : Cell). c.a) (e ∙ c.is) in
    let l : t.label ≡ _ = ap (λ (c : Cell). c.label) (e ∙ c.is) in
    record { value = v; is = ap (λ (n : ℕ). proj n v) (sym l); final = f; run = at_run refl (sym a) refl r }

-- a field read of a value, by the rule
next_proj : (half : ℕ) (l : ℕ) (v : Term) → is_value v ≡ true → next half (proj l v) ≡ project l v
unfolding next
next_proj half l v f = rw (f, next) refl

-- a value of at most n cells that runs from start and ends before left
pub record Reduct (w : List ℕ) (start left n : ℕ) (h : Term) : Type 0 where
  pub final : is_value h ≡ true
  pub run : Run true w start (refers term_sort) (left - 1) (from_term h) left
  pub small : size h ≤ n

-- the same of a redex f, which becomes h
pub reduct_of : {w : List ℕ} {start left : ℕ} {f g x h : Term} → f ≡ g → x ≡ h → Reduct w start left (size g) x → Reduct w start left (size f) h
reduct_of {w} {start} {left} {f} {x = x} i j c = subst (Reduct w start left (size f)) j (subst (λ (t : Term). Reduct w start left (size t) x) (sym i) c)

-- a redex that has become such a value in place
pub becomes : {half : ℕ} {w v : List ℕ} (p : Place) {left : ℕ} → Kept w v p.start (suc p.root) → left ≤ p.root →
    ((e : Term) (s : Standing w (Redex p) e) → Runnable e → (h : Term) → next half s.focus ≡ some h → Reduct v p.start left (size s.focus) h) →
    Becomes half w v p (done_at p left)
becomes {half} {w} {v} p {left} k l c = record { says = λ e g s r n. go s r n }
  where
    go : {e g : Term} → Standing w (Redex p) e → Runnable e → next half e ≡ some g → Standing v (done_at p left) g × (size g ≤ size e)
    go {e} {g} s r n =
        let K = s.around in
        let i = next_inside half K s.focus g s.proper (redex_value s.at.parts) (sym (ap (next half) s.is) ∙ n) in
        let m = c e s r i.to i.steps in
        let a : size g ≡ size (whole K i.to) = ap size i.is in
        let b : size e ≡ size (whole K s.focus) = ap size s.is in (
          record {
            long = k.long ∙ s.long;
            around = K;
            focus = i.to;
            is = i.is;
            proper = s.proper;
            at = record {
              value = m.final;
              run = m.run;
              waits = subst (λ (n : ℕ). Waits v p.up p.start n (frames K)) (omega arith) (kept_waits k s.at.waits);
              apart = omega (arith, l);
            };
          },
          omega (arith, size_whole K i.to, size_whole K s.focus, a, b, m.small),
        )

pub becomes_at : {half : ℕ} {w v : List ℕ} {p : Place} {left : ℕ} {r : Focus} → r ≡ done_at p left → Becomes half w v p (done_at p left) → Becomes half w v p r
becomes_at {half} {w} {v} {p} e b = subst (Becomes half w v p) (sym e) b

pub unchanged : {w : List ℕ} (p : Place) → Kept w w p.start (suc p.root)
unchanged p = record { long = refl; below = λ i h. refl; above = λ i h. refl }

-- a value of one cell, written where the redex begins
module _ {w v : List ℕ} {p : Place} {t : Cell} (d : SingleReady w p t) (o : v ≡ sets w (8 * p.start) (cell_bytes t)) where
  x : Stored w v p.start t
  x = stored _ (start_within d.ready.standing) o

  r : RedexRange p
  r = redex_range d.ready.standing.at

  kept : Kept w v p.start (suc p.root)
  kept = wrote_kept x.wrote (omega arith) (omega (arith, r.start, r.apart, r.right))

  single_reduct : {f : Term} {n : ℕ} → SingleCell t f → 1 ≤ n → Reduct v p.start (p.start + 1) n f
  unfolding is_value from_term_in table row_in row_for size
  single_reduct (top_cell i) l =
      let y = rw i at x.there in
      record { final = refl; run = at_run refl (omega arith) (omega arith) (r_refers y refl refl r_unused r_unused r_unused refl (refl, tt)); small = l }
  single_reduct (number_cell {a = a} {b = b} {c = c} i) l =
      let y = rw i at x.there in
      let tree =
      number_2 a b c (omega (arith, d.a_fits, ap (λ (c : Cell). c.a) i)) (omega (arith, d.b_fits, ap (λ (c : Cell). c.b) i))
      (omega (arith, d.c_fits, ap (λ (c : Cell). c.c) i)) in
      record { final = refl; run = rw tree (at_run refl (omega arith) (omega arith) (r_refers y refl refl r_plain r_plain r_plain refl (refl, tt))); small = l }

  pub becomes_single : {f : Focus} → f ≡ done_at p (p.start + 1) → BecomesSingle w v p t f
  becomes_single is =
      record {
        says = λ k y c m.
            becomes_at is (becomes p kept (omega (arith, r.start, r.apart, r.right))
            (λ e s r h n. subst (Reduct v p.start (p.start + 1) (size s.focus)) (m e s r h n)
            (single_reduct c (omega (arith, term_positive Two s.focus, term_cells Two s.focus)))));
      }

-- the top value
pub top_single : {w : List ℕ} {p : Place} → AtRedex w p → SingleReady w p (record { kind = 18; label = 0; a = 0; b = 0; c = 0 })
top_single d = record { ready = d; a_fits = omega arith; b_fits = omega arith; c_fits = omega arith; value = unit; single = top_cell refl }

pub becomes_top : {w v : List ℕ} {p : Place} {r : Focus} → BecomesSingle w v p (record { kind = 18; label = 0; a = 0; b = 0; c = 0 }) r → BecomesTop w v p r
becomes_top b = record { says = λ h m. b.says h unit (top_cell refl) m }

module _ {w : List ℕ} {start left a : ℕ} (l : ℕ) where
  reduct_top : {v : Term} (h : Term) → Run true w start (refers term_sort) a (from_term v) left → Kind 18 v → project l v ≡ some h →
      Reduct w start left (size (proj l v)) h
  unfolding project is_value size
  reduct_top h r k_unit n =
      subst (Reduct w start left 2) (some-injective unit h n)
      (record { final = refl; run = at_run refl (omega (arith, ends r)) refl r; small = omega arith })

  reduct_record : {v : Term} {A : Ty} (h : Term) → Value v A → is_value v ≡ true → Run true w start (refers term_sort) a (from_term v) left → ((cell_at w a).kind ≡ 18 → ⊥) →
      ((cell_at w a).kind ≡ 22 → ⊥) → project l v ≡ some h → Reduct w start (left - 1) (size (proj l v)) h
  unfolding project is_value size kind_in from_term_in table row_in row_for
  reduct_record h v_unit f r k m n = absurd (k (run_kind r))
  reduct_record h (v_rcd {l = i} {v = x} _) f r k m n =
      let q = parts r refl in
      let y : q.y ≡ a = nothing q.second ∙ nothing q.third in
      subst (Reduct w start (left - 1) (size (proj l (rcd i x)))) (sym (when_some (eqb l i) n))
      (record {
        final = f;
        run = at_run refl (omega (arith, ends q.first, y, q.last)) (omega (arith, y, q.last)) q.first;
        small = omega arith;
      })
  reduct_record h v_lit f r k m n = absurd (none-ne-some h n)
  reduct_record h v_lam f r k m n = absurd (none-ne-some h n)
  reduct_record h (v_merge _ _) f r k m n = absurd (m (run_kind r))

pub redex_root : {w : List ℕ} {p : Place} {t : Cell} {k : ℕ} → RedexAt w p t k → p.root < 8192
redex_root d = redex_low d.ready.standing.at

module _ {w : List ℕ} (p : Place) (t : Cell) (d : RedexAt w p t 25) where
  pub field_read : {e : Term} (s : Standing w (Redex p) e) → Read w p s.focus t
  field_read s = read_of p t (redex_kind s.at.parts (kind_at d.cell d.kind)) s.at.parts d.cell

  pub value_within : 8 * t.a + 8 ≤ length w
  value_within = run_within (field_read d.ready.standing).run

  pub value_left : 1 ≤ p.left
  value_left = omega (arith, ends (field_read d.ready.standing).run)

  left_low : p.left ≤ p.root
  left_low = let r = redex_range d.ready.standing.at in omega (arith, r.apart, r.right)

  -- what the read becomes, by the rule
  pub project_is : (half : ℕ) {e : Term} (s : Standing w (Redex p) e) {h : Term} → next half s.focus ≡ some h → project t.label (field_read s).value ≡ some h
  project_is half s n = let q = field_read s in sym (next_proj half t.label q.value q.final) ∙ sym (ap (next half) q.is) ∙ n

  pub projects_top : {half : ℕ} {v : Cell} → v ≡ cell_at w t.a → v.kind ≡ 18 → Becomes half w w p (done_at p p.left)
  projects_top {half} i k =
      becomes p (unchanged p) left_low
      (λ e s r h n. let q = field_read s in reduct_of q.is refl (reduct_top t.label h q.run (term_kind q.value q.run (kind_at i k)) (project_is half s n)))

  pub projects_record : {half : ℕ} {v : Cell} → v ≡ cell_at w t.a → (v.kind ≡ 18 → ⊥) → (v.kind ≡ 22 → ⊥) → Becomes half w w p (done_at p (p.left - 1))
  projects_record {half} i k m =
      becomes p (unchanged p) (omega (arith, left_low))
      (λ e s r h n. let q = field_read s in
      reduct_of q.is refl (reduct_record t.label h ((is_value_says q.value).0 ((true_says _).1 q.final)).1 q.final q.run (kind_not i k) (kind_not i m) (project_is half s n)))
