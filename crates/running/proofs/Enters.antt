-- What the functions that enter a focus say: the term stands as it did, its focus moved. Assumes nothing.
use Prim.Native.Nat.{ℕ, suc, ◌+◌, ◌*◌, ◌-◌}
use native.Mathlib.Omega.{arith}
use mathlib.Core.Path.{◌≡◌, refl, sym, ap, ◌∙◌, subst}
use mathlib.Core.Bool.{true}
use mathlib.Core.Logic.{◌⊎◌, inl, inr}
use mathlib.Core.List.{List, ◌∷◌}
use lib.ListN.{length}
use lib.Seq.{sets}
use Rattle.calculus.specs.Syntax.{Term, var}
use Rattle.calculus.specs.Decide.{is_value}
use Rattle.format.specs.Cell.{Cell, cell_at, cell_bytes}
use Rattle.format.specs.Table.{term_sort, refers}
use Rattle.format.specs.Terms.{from_term}
use Rattle.cells.proofs.Held.{kind_of}
use Rattle.emission.specs.Runs.{Run}
use Rattle.emission.proofs.Runs.{at_run, run_kind}
use Rattle.moving.specs.Moves.{Kept, ShiftReady, Shifts}
use Rattle.moving.proofs.Runs.{shift_ready, run_shifted}
use Rattle.running.specs.Contexts.{Around, whole, AllProper, p_more}
use Rattle.running.specs.Places.{IsAhead, IsDone, Standing, Runnable, GoesOn, Taking, third_of, Descending}
use Rattle.running.specs.declared.Place.{Place}
use Rattle.running.specs.declared.Focus.TheVariants.{Ahead, Done, Redex}
use Rattle.running.proofs.Waiting.{kept_waits}
use Rattle.running.proofs.Standing.{no_variable}
use Rattle.running.proofs.Ranges.{ahead_range, above_some, stored, root_within}
use Rattle.running.proofs.Entering.{Kind, k_var, term_kind, value_lit, value_unit, value_lam, enters_fix, Descends, enters_part}

-- the cells of the focus
pub focus_cells : {w : List ℕ} {p : Place} {e : Term} → Standing w (Ahead p) e → ShiftReady w p.right p.left (p.root + 1 - p.right)
focus_cells {w} {p} s =
    let r = ahead_range s.at in
    shift_ready p.left s.long (omega (arith, r.right, r.root)) (omega (arith, r.apart)) (at_run refl refl (omega (arith, r.right)) s.at.run)

-- the place of a focus that was taken over
abbrev pub taken : Place → Place
taken p = record { left = p.left + (p.root + 1 - p.right); start = p.start; right = p.root + 1; root = p.root; up = p.up }

pub enters_value : {w v : List ℕ} {p : Place} → Taking w p → Shifts w v p.right p.left (p.root + 1 - p.right) →
    GoesOn w v (Ahead p) (Done (taken p))
enters_value {w} {v} {p} t x =
    let r = ahead_range t.ready.standing.at in
    record { moves = record { says = λ e s _. go s }; falls = omega (arith, r.right, r.root) }
  where
    sight : (f : Term) → Run true w p.right (refers term_sort) p.root (from_term f) (suc p.root) →
        ((cell_at w p.root).kind ≡ 17) ⊎ (((cell_at w p.root).kind ≡ 18) ⊎ ((cell_at w p.root).kind ≡ 21)) → is_value f ≡ true
    sight f r (inl h) = value_lit (term_kind f r h)
    sight f r (inr (inl h)) = value_unit (term_kind f r h)
    sight f r (inr (inr h)) = value_lam (term_kind f r h)

    done : {K : List Around} {f : Term} → IsAhead w p K f → IsDone v (taken p) K f
    done {K} {f} a =
        let r = ahead_range a in
        record {
          value = sight f a.run t.value;
          run = at_run (sym a.starts) (omega (arith, r.right)) refl
              (run_shifted (at_run refl refl (omega (arith, r.right)) a.run) x);
          waits = subst (λ (q : ℕ). Rattle.running.specs.Waiting.Waits v p.up p.start q (Rattle.running.specs.Contexts.frames K)) (omega arith)
              (kept_waits (kept a.starts r) a.waits);
          apart = omega (arith, r.apart, r.right);
        }
      where
        kept : p.start ≡ p.left → Rattle.running.proofs.Ranges.AheadRange p → Kept w v p.start (suc p.root)
        kept e r =
            record {
              long = x.kept.long;
              below = λ i h. x.kept.below i (omega (arith, h, e));
              above = λ i h. x.kept.above i (omega (arith, h, r.right));
            }

    go : {e : Term} → Standing w (Ahead p) e → Standing v (Done (taken p)) e
    go s = record { long = x.kept.long ∙ s.long; around = s.around; focus = s.focus; is = s.is; proper = s.proper; at = done s.at }

pub enters_redex : {w : List ℕ} {p : Place} → (cell_at w p.root).kind ≡ 23 → GoesOn w w (Ahead p) (Redex p)
enters_redex k =
    record {
      moves = record {
        says = λ e s _.
            record {
              long = s.long;
              around = s.around;
              focus = s.focus;
              is = s.is;
              proper = s.proper;
              at = enters_fix s.at (term_kind s.focus s.at.run k);
            };
      };
      falls = omega arith;
    }

-- a focus is no variable
not_16 : (K : List Around) {e : Term} {f : Term} → e ≡ whole K f → AllProper K → Runnable e → Kind 16 f → ⊥
not_16 K i p r (k_var {n}) = no_variable K (var n) i p r refl

abbrev below : Place → ℕ → Place
below p a = record { left = p.left; start = p.start; right = p.right; root = a; up = p.root }

pub enters_below : {w v : List ℕ} {p q : Place} {t : Cell} {c : ℕ} → Descending w p t → c ≡ third_of t →
    v ≡ sets w (8 * p.root) (cell_bytes (record { kind = t.kind; label = t.label; a = p.up; b = t.b; c = c })) → q ≡ below p t.a → GoesOn w v (Ahead p) (Ahead q)
unfolding whole
enters_below {w} {v} {p} {t = t} d third o i =
    let r = ahead_range d.ready.standing.at in
    let u = above_some (ahead_range (go d.ready.standing d.ready.runnable).at).up (λ h. absurd (omega (arith, h, r.apart, r.right))) in
    subst (λ (z : Place). GoesOn w v (Ahead p) (Ahead z)) (sym i) (record { moves = record { says = λ e s r. go s r }; falls = omega (arith, u.0) })
  where
    inside : {e : Term} (s : Standing w (Ahead p) e) → length v ≡ length w → Descends v p s.around s.focus t.a → Standing v (Ahead (below p t.a)) e
    inside s l c =
        record {
          long = l ∙ s.long;
          around = c.around ∷ s.around;
          focus = c.part;
          is = s.is ∙ ap (whole s.around) c.is;
          proper = p_more c.proper s.proper;
          at = c.ahead;
        }

    go : {e : Term} → Standing w (Ahead p) e → Runnable e → Standing v (Ahead (below p t.a)) e
    go s r =
        let x = stored _ (root_within s) o in
        let k : t.kind ≡ kind_of term_sort s.focus = ap (λ (c : Cell). c.kind) d.cell ∙ run_kind s.at.run in
        let n : kind_of term_sort s.focus ≡ 16 → ⊥ = λ h. not_16 s.around s.is s.proper r (term_kind s.focus s.at.run (run_kind s.at.run ∙ h)) in
        inside s x.wrote.long
        (enters_part p x.wrote s.focus t s.at d.cell (rw third at x.there)
        (n, λ h. d.no_number (k ∙ h), λ h. d.no_top (k ∙ h), λ h. d.no_function (k ∙ h), λ h. d.no_fixpoint (k ∙ h)))
