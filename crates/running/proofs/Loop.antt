-- The loop of a run follows the definition: what is still to be evaluated from the term that stands in the work buffer is what was to be
-- evaluated at first. Assumes nothing.
use Prim.Native.Nat.{ℕ, suc, ◌+◌, ◌-◌, ◌≤◌, ◌<◌, max}
use mathlib.Core.Path.{◌≡◌, refl, sym, ◌∙◌, ap, ap₂, subst}
use mathlib.Core.List.{List}
use native.Mathlib.Nat.{sub-zero}
use native.Mathlib.Omega.{arith}
use borrow.Author.Tests.{ltb-false}
use lib.ListN.{length}
use Rattle.calculus.specs.Syntax.{Term, size}
use Rattle.format.specs.declared.Version.{Version}
use Rattle.format.specs.Version.{half_of}
use Rattle.format.specs.Book.{size_limit}
use Rattle.answers.specs.Answer as Answer
use Rattle.answers.specs.Definition.{ended, evaluate, run_from}
use Rattle.answers.proofs.Running.{evaluate_value, evaluate_spent, evaluate_room, evaluate_step}
use Rattle.std.specs.declared.ops.ControlFlow.{ControlFlow}
use Rattle.std.specs.declared.ops.ControlFlow.TheVariants.{Continue, Break}
use Rattle.answers.specs.declared.Stop.{Stop}
use Rattle.answers.specs.declared.Stop.TheVariants.{Value, Spent, Room}
use Rattle.running.specs.Places.{Standing, Runnable, FocusReady, Settled}
use Rattle.running.specs.Turns.{StepReady, Starts, WholeReady, TurnReady, TurnOf, t_value, t_spent, t_room, t_next, Steps, EncodesWhole, RunOf, Runs}
use Rattle.running.specs.declared.Focus.{Focus}
use Rattle.running.specs.declared.State.{State}
use Rattle.running.proofs.Standing.{next_runnable}
use Rattle.running.proofs.Sizes.{standing_size}
use Rattle.running.proofs.Encoding.{encoded_size, encoded_runnable}

-- the run of e₀ with limit l has come to a term that stands in the work buffer
pub record Going (u : Version) (l : ℕ) (e₀ : Term) (w : List ℕ) (x : State) : Type 0 where
  pub term : Term
  pub standing : Standing w x.focus term
  pub runnable : Runnable term
  pub left : run_from (half_of u) size_limit l e₀ ≡ evaluate (half_of u) size_limit (l - x.steps) x.steps x.mark term

-- that of every term that stood there at first, and there was one; both buffers are as long as they were
pub record AllGoing (u : Version) (l : ℕ) (s₀ w₀ : List ℕ) (x₀ : Focus) (s w : List ℕ) (x : State) : Type 0 where
  pub same : length s ≡ length s₀
  pub long : 32768 ≤ length s
  pub work : length w ≡ 65536
  pub first : FocusReady w₀ x₀
  pub settled : Settled x.focus
  pub taken : x.steps ≤ l
  pub says : (e₀ : Term) → Standing w₀ x₀ e₀ → Runnable e₀ → Going u l e₀ w x

pub going_first : (u : Version) {l n : ℕ} {s t w v : List ℕ} {x : Focus} → StepReady s w n → length t ≡ length s → Starts w v n x →
    AllGoing u l t v x t v (record { focus = x; steps = 0; mark = n })
going_first u {l} {n} {v = v} {x = x} d k s =
    let h = d.at in
    let here : Standing v x h.term = s.says h.term h.type h.encoded h.typed in
    record {
      same = refl;
      long = omega (arith, k, d.long);
      work = s.long;
      first = record { term = h.term; standing = here; runnable = encoded_runnable h.encoded h.typed };
      settled = s.settled;
      taken = omega arith;
      says = λ e i t.
          let z : size e ≡ n = standing_size i ∙ sym (standing_size here) ∙ encoded_size h.encoded in
          record { term = e; standing = i; runnable = t; left = rw (z, sub-zero) };
    }

module _ {u : Version} {l : ℕ} {s₀ w₀ s w : List ℕ} {x₀ : Focus} {x : State} (g : AllGoing u l s₀ w₀ x₀ s w x) where
  abbrev now : Going u l g.first.term w x
  now = g.says g.first.term g.first.standing g.first.runnable

  -- what the next step needs
  pub going_ready : TurnReady s w x l
  going_ready =
      record { long = g.long; ready = record { term = now.term; standing = now.standing; runnable = now.runnable }; settled = g.settled; taken = g.taken }

module _ {u : Version} {l : ℕ} {s₀ w₀ s w v : List ℕ} {x₀ : Focus} {x : State} {r : ControlFlow Stop State} (g : AllGoing u l s₀ w₀ x₀ s w x) where
  -- a turn that goes on took one step of those left
  going_more : {y : State} → Steps u w v x l r → r ≡ Continue y → (y.steps ≡ x.steps + 1) × (x.steps < l) × Settled y.focus
  going_more {y} o q = by (o.says (now g).term (now g).standing (now g).runnable)
    where
      by : TurnOf u v x l (now g).term r → (y.steps ≡ x.steps + 1) × (x.steps < l) × Settled y.focus
      by (t_value a c i) = let z : ◌≡◌ {A = ℕ} 0 1 = cc in absurd (omega arith)
      by (t_spent a b c i) = let z : ◌≡◌ {A = ℕ} 0 1 = cc in absurd (omega arith)
      by (t_room a b d f c i) = let z : ◌≡◌ {A = ℕ} 0 1 = cc in absurd (omega arith)
      by (t_next {y = n} a b d m c j e k i) =
          let z : n ≡ y = cc in
          (ap (λ (n : State). n.steps) (sym z) ∙ j, b, subst (λ (n : State). Settled n.focus) z k)

  pub going_less : {y : State} → Steps u w v x l r → r ≡ Continue y → l - y.steps < l - x.steps
  going_less o q = let m = going_more o q in omega (arith, m.0, m.1)

  pub going_next : {t : List ℕ} {y : State} → length t ≡ length s → length v ≡ length w → Steps u w v x l r → r ≡ Continue y → AllGoing u l s₀ w₀ x₀ t v y
  going_next {y = y} a b o q =
      let m = going_more o q in
      record { same = a ∙ g.same; long = omega (arith, a, g.long); work = b ∙ g.work; first = g.first; settled = m.2; taken = omega (arith, m.0, m.1); says = go }
    where
      go : (e₀ : Term) → Standing w₀ x₀ e₀ → Runnable e₀ → Going u l e₀ v y
      go e₀ i t = by (o.says p.term p.standing p.runnable)
        where
          p : Going u l e₀ w x
          p = g.says e₀ i t

          by : TurnOf u v x l p.term r → Going u l e₀ v y
          by (t_value a c i) = let z : ◌≡◌ {A = ℕ} 0 1 = cc in absurd (omega arith)
          by (t_spent a b c i) = let z : ◌≡◌ {A = ℕ} 0 1 = cc in absurd (omega arith)
          by (t_room a b d f c i) = let z : ◌≡◌ {A = ℕ} 0 1 = cc in absurd (omega arith)
          by (t_next {f = f} {y = n} a b d m h j e k i) =
              let z : n ≡ y = cc in
              let c = x.steps in
              let c' : y.steps ≡ suc c = ap (λ (n : State). n.steps) (sym z) ∙ j ∙ omega arith in
              let e' : y.mark ≡ max x.mark (size f) = ap (λ (n : State). n.mark) (sym z) ∙ e in
              let on : evaluate (half_of u) size_limit (l - c) c x.mark p.term ≡ evaluate (half_of u) size_limit (l - suc c) (suc c) (max x.mark (size f)) f =
              ap (λ (b : ℕ). evaluate (half_of u) size_limit b c x.mark p.term) (omega arith)
              ∙ evaluate_step (half_of u) size_limit (l - suc c) c x.mark p.term f a d m in
              record {
                term = f;
                standing = subst (λ (n : State). Standing v n.focus f) z i;
                runnable = next_runnable u p.runnable d (ltb-false size_limit (size f) m);
                left = p.left ∙ on ∙ ap₂ (λ (b k : ℕ). evaluate (half_of u) size_limit (l - b) b k f) (sym c') (sym e');
              }

  -- a turn that ends the run leaves the term where it stands
  ending_ready : {z : Stop} → Steps u w v x l r → r ≡ Break z → FocusReady v x.focus
  ending_ready {z} o q = by (o.says (now g).term (now g).standing (now g).runnable)
    where
      at : Standing v x.focus (now g).term → FocusReady v x.focus
      at i = record { term = (now g).term; standing = i; runnable = (now g).runnable }

      by : TurnOf u v x l (now g).term r → FocusReady v x.focus
      by (t_value a c i) = at i
      by (t_spent a b c i) = at i
      by (t_room a b d f c i) = at i
      by (t_next a b d m c j e k i) = let z : ◌≡◌ {A = ℕ} 0 1 = cc in absurd (omega arith)

  pub ending_whole : {t : List ℕ} {z : Stop} → length t ≡ length s → Steps u w v x l r → r ≡ Break z → WholeReady t v x.focus
  ending_whole a o q = record { long = omega (arith, a, g.long); ready = ending_ready o q }

  pub going_ends : {z : Stop} {a₁ : List ℕ} {m : ℕ} → Steps u w v x l r → r ≡ Break z → EncodesWhole v a₁ x.focus m →
      {a : List ℕ} {n : ℕ} → Starts a w₀ n x₀ → Runs u a a₁ n l (record { stop = z; cells = m; mark = x.mark })
  going_ends {z} {a₁} {m} o q d b = record { says = λ e A i t. go e (b.says e A i t) (encoded_runnable i t) }
    where
      go : (e₀ : Term) → Standing w₀ x₀ e₀ → Runnable e₀ → RunOf u a₁ l e₀ (record { stop = z; cells = m; mark = x.mark })
      go e₀ i t = by (o.says p.term p.standing p.runnable)
        where
          p : Going u l e₀ w x
          p = g.says e₀ i t

          done : (a : Answer.Stop) → evaluate (half_of u) size_limit (l - x.steps) x.steps x.mark p.term ≡ ended a x.steps x.mark p.term →
              Rattle.answers.specs.Cases.stop_answer z x.mark ≡ Answer.stopped a x.steps x.mark → Standing v x.focus p.term →
              RunOf u a₁ l e₀ (record { stop = z; cells = m; mark = x.mark })
          done a b c i =
              record {
                stop = a;
                steps = x.steps;
                mark = x.mark;
                term = p.term;
                ends = p.left ∙ b;
                answer = c;
                encoded = d.says p.term i p.runnable;
              }

          by : TurnOf u v x l p.term r → RunOf u a₁ l e₀ (record { stop = z; cells = m; mark = x.mark })
          by (t_value a c i) =
              let b : Value x.steps ≡ z = cc in
              done Answer.value (evaluate_value (half_of u) size_limit (l - x.steps) x.steps x.mark p.term a) (rw (← b)) i
          by (t_spent a c h i) =
              let b : Spent x.steps ≡ z = cc in
              done Answer.spent
              (ap (λ (n : ℕ). evaluate (half_of u) size_limit n x.steps x.mark p.term) (omega arith) ∙ evaluate_spent (half_of u) size_limit x.steps x.mark p.term a)
              (rw (← b)) i
          by (t_room {f = f} a c h' f' h i) =
              let b : Room x.steps ≡ z = cc in
              done Answer.room
              (ap (λ (n : ℕ). evaluate (half_of u) size_limit n x.steps x.mark p.term) (omega arith)
              ∙ evaluate_room (half_of u) size_limit (l - suc x.steps) x.steps x.mark p.term f a h' f')
              (rw (← b)) i
          by (t_next a c h' f' h j d k i) = let x : ◌≡◌ {A = ℕ} 0 1 = cc in absurd (omega arith)
