-- A body with a source substituted for variable 0, annotated: what `emit_instance` needs and leaves, call by call, and its two callers, a
-- fixpoint and a function applied to a value; and a redex of any kind. Assumes nothing.
use Prim.Native.Nat.{ℕ, ◌+◌, ◌*◌, ◌≤◌, ◌<◌}
use native.Mathlib.Omega.{arith}
use mathlib.Core.Path.{◌≡◌, refl}
use mathlib.Core.List.{List}
use lib.ListN.{length}
use Rattle.calculus.specs.Syntax.{Ty, Term, unit, anno, fix, substitute}
use Rattle.format.specs.Cell.{Cell, cell_at}
use Rattle.format.specs.Tree.{raw, node}
use Rattle.format.specs.Terms.{from_type, from_term_in, from_term}
use Rattle.cells.proofs.Held.{held_within, unit_at}
use Rattle.emission.specs.Emits.{Space, Emits}
use Rattle.emission.specs.Copies.{StartReady, StartsAt, EmitsEnd}
use Rattle.std.specs.Prelude.{Option}
use Rattle.emission.proofs.Chain.{of_none, of_type, of_term, Each, Chain}
use Rattle.emission.proofs.Copies.{start_ready, start_is, run_emits}
use Rattle.emission.specs.Runs.{RunsType, RunsTerm}
use Rattle.emission.proofs.Runs.{holds_term}
use Rattle.emission.proofs.RunParts.{fix_at}
use Rattle.typed_reduction.specs.Casting.{CastReady, EmitsCast}
use Rattle.reduction.specs.Steps.{Substitutes, casts, stands, EmitsSubstituted, InstanceReady, EmitsInstance, ContractReady, ContractAt, EmitsContractum}
use Rattle.reduction.specs.declared.Source.{Source}
use Rattle.reduction.specs.declared.Source.TheVariants.{Reading, Standing}
use Rattle.reduction.proofs.Nexts.{fix_instance, anno_redex, Arguments, app_redex, fix_redex, last_kind, unit_applies, Applied, applied}

-- ---- a term, annotated

pub anno_tree : (e : Term) (A : Ty) → from_term (anno e A) ≡ node 19 0 (from_term e) (from_type A) (raw 0)
unfolding from_term_in
anno_tree e A = refl

-- W is all that the cells may be said to hold
abbrev pub anno_chain : {W : Type 0} {d : List ℕ} {m : ℕ} (e : W → Term) (A : W → Ty) → Space d m → W → Chain W (λ w. from_term (anno (e w) (A w))) d m
anno_chain e A h own =
    record { space = h; own = own; kind = 19; label = 0; a = of_term e; b = of_type A; c = of_none; is = λ w. anno_tree (e w) (A w) }

-- ---- `emit_instance`

-- all that the cells i and a may be said to hold, and what is substituted
abbrev pub Instances : List ℕ → ℕ → ℕ → Source → Type 0
Instances s i a p = (e : Term) × (x : Term) × (A : Ty) × RunsTerm s i e × Substitutes s p x × RunsType s a A

pub instance : {s d o : List ℕ} {i a m : ℕ} {p : Source} {r : Option ℕ}
    → Each {W = Instances s i a p} (λ w. from_term (anno (substitute 0 w.1 w.0) w.2)) d o m r → EmitsInstance s d o i a m p r
instance q = record { says = λ e x A h v k. q (e, x, A, h, v, k) }

module _ {s d : List ℕ} {i a m : ℕ} {p : Source} (o : InstanceReady s d i a m p) where
  abbrev pub instance_chain : Chain (Instances s i a p) (λ w. from_term (anno (substitute 0 w.1 w.0) w.2)) d m
  instance_chain =
      let b = o.body in
      anno_chain (λ w. substitute 0 w.1 w.0) (λ w. w.2) b.source.space
      (b.body, b.source.substituted, o.type, b.holds, b.source.substitutes, o.holds)

  pub body_each : {f : List ℕ} {r : Option ℕ} → EmitsSubstituted s d f i 0 m p r → Each instance_chain.a.tree d f m r
  body_each q w = q.says w.0 w.1 w.3 w.4

  pub type_each : {f g : List ℕ} {x : ℕ} {r : Option ℕ} → EmitsEnd s f g a x r → Each instance_chain.b.tree f g x r
  type_each q w = run_emits w.5.run q

-- ---- a fixpoint: t is the cell as it was read

module _ {s d : List ℕ} {i m : ℕ} (o : ContractAt s d i m 23) where
  own_fix : RunsTerm s i o.ready.term
  own_fix = fix_redex o.ready.redex o.kind

  pub fix_start : StartReady s i
  fix_start = start_ready own_fix.run

  -- it begins at b
  module _ {b : ℕ} (n : StartsAt s i b) where
    itself : {e : Term} → RunsTerm s i e → Substitutes s (Standing b i) e
    itself h = stands (rw (start_is h.run n) h.run)

    module _ {t : Cell} (c : t ≡ cell_at s i) where
      pub fix_ready : InstanceReady s d t.a t.b m (Standing b i)
      fix_ready =
          let r = o.ready in
          let w = fix_at own_fix o.kind in
          record {
            body = record {
              source = record { space = r.space; substituted = r.term; substitutes = itself own_fix };
              small = rw c (omega (arith, w.term_lower, r.low));
              body = w.term;
              holds = rw c w.holds_term;
            };
            type = w.type;
            holds = rw c w.holds_type;
          }

      pub fix_emits : {e : List ℕ} {r : Option ℕ} → EmitsInstance s d e t.a t.b m (Standing b i) r → EmitsContractum s d e i m r
      fix_emits q =
          record {
            says = λ u e g x k.
                let h = fix_redex x o.kind in
                let w = fix_at h o.kind in
                rw (fix_instance u w.term w.type (rw w.is at k))
                (q.says w.term (fix w.term w.type) w.type (rw c w.holds_term) (itself (rw w.is at h)) (rw c w.holds_type));
          }

-- ---- a value applied to a value: t is the application's cell as it was read, u that of the value on the left

pub first_within : {s d : List ℕ} {i m : ℕ} {t : Cell} → t ≡ cell_at s i → ContractAt s d i m 20 → 8 * t.a + 8 ≤ length s
first_within c o = rw c (held_within (holds_term (app_redex o.ready.half o.ready.redex o.ready.steps o.kind).holds_first))

pub record Applying (s d : List ℕ) (i m : ℕ) (t u : Cell) : Type 0 where
  pub at : ContractAt s d i m 20
  pub cell : t ≡ cell_at s i
  pub left : u ≡ cell_at s t.a

module _ {s d : List ℕ} {i m : ℕ} {t u : Cell} (j : Applying s d i m t u) where
  pub unit_applied : {e : List ℕ} {r : Option ℕ} → u.kind ≡ 18 → Emits d e m r (from_term unit) → EmitsContractum s d e i m r
  unit_applied k f =
      record {
        says = λ b e g x n.
            let w = app_redex b x n j.at.kind in
            let is : g ≡ unit = unit_applies w.second (rw (unit_at (holds_term w.holds_first) (rw (j.left, j.cell) at k)) at w.applies) in
            rw is f;
      }

  module _ (k : u.kind ≡ 18 → ⊥) where
    function : {g : Term} (w : Arguments s i g) → Applied s t.a u w.second g
    function w = applied j.left (rw j.cell w.holds_first) k w.applies

    argument : {g : Term} (w : Arguments s i g) → RunsTerm s t.b w.second
    argument w = rw j.cell w.holds_second

    pub function_ready : InstanceReady s d u.a u.c m (Reading t.b u.b)
    function_ready =
        let r = j.at.ready in
        let own = app_redex r.half r.redex r.steps j.at.kind in
        let f = function own in
        let l : t.a < i = rw j.cell own.lower in
        record {
          body = record {
            source = record { space = r.space; substituted = f.reduct; substitutes = casts (argument own) f.holds_input f.casts };
            small = omega (arith, f.lower, l, r.low);
            body = f.body;
            holds = f.holds_body;
          };
          type = f.output;
          holds = f.holds_output;
        }

    pub function_emits : {e : List ℕ} {r : Option ℕ} → EmitsInstance s d e u.a u.c m (Reading t.b u.b) r
        → EmitsContractum s d e i m r
    function_emits q =
        record {
          says = λ b e g x n.
              let w = app_redex b x n j.at.kind in
              let f = function w in
              rw f.is
              (q.says f.body f.reduct f.output f.holds_body
              (casts (argument w) f.holds_input f.casts)
              f.holds_output);
        }

-- ---- a redex: t is its cell as it was read

module _ {s d : List ℕ} {i m : ℕ} {t : Cell} (c : t ≡ cell_at s i) (r : ContractReady s d i m) where
  pub read_ready : t.kind ≡ 19 → CastReady s d t.a t.b m
  read_ready k =
      let w = anno_redex r.half r.redex r.steps (rw c at k) in
      record {
        space = r.space;
        both = record { value = w.value; type = w.type; holds_value = rw c w.holds_value; holds_type = rw c w.holds_type };
        reduct = r.successor;
        casts = w.casts;
      }

  pub read_emits : {e : List ℕ} {l : Option ℕ} → t.kind ≡ 19 → EmitsCast s d e t.a t.b m l → EmitsContractum s d e i m l
  read_emits k q =
      record {
        says = λ b e g x n.
            let w = anno_redex b x n (rw c at k) in
            q.says w.value g w.type (rw c w.holds_value) (rw c w.holds_type) w.casts;
      }

  pub at_kind : {k : ℕ} → t.kind ≡ k → ContractAt s d i m k
  at_kind e = record { ready = r; kind = rw (← c) e }

  pub at_last : (t.kind ≡ 19 → ⊥) → (t.kind ≡ 20 → ⊥) → (t.kind ≡ 27 → ⊥) → ContractAt s d i m 23
  at_last n o q = record { ready = r; kind = last_kind r.redex (rw c at n) (rw c at o) (rw c at q) }
