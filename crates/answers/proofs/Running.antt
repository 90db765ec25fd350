-- The executable run takes the calculus's steps: how it ends is what a run is. Assumes nothing.
use Prim.Native.Nat.{ℕ, zero, suc, ◌+◌, ◌≤◌, max}
use mathlib.Core.Path.{◌≡◌, refl, sym, ap, subst, subst⁻¹, subst₂}
use mathlib.Core.Bool.{Bool, true, false, not}
use mathlib.Core.Logic.{◌⊎◌, inl, inr}
use mathlib.Core.Option.{some}
use mathlib.Core.List.{[]}
use native.Mathlib.Decide.{dec_le}
use native.Mathlib.Omega.{arith}
use lib.Dec.{T, ltb, ltb→lt, nltb→le}
use Rattle.calculus.specs.Syntax.{Ty, Term, size, IsValue}
use Rattle.calculus.specs.Typing.{Typed}
use Rattle.calculus.specs.Step.{Step, Reaches, r_zero, r_suc, Ends}
use Rattle.calculus.specs.Soundness.{Reached}
use Rattle.calculus.specs.Decide.{is_value}
use Rattle.calculus.specs.Evaluate.{next}
use Rattle.calculus.proofs.Bools.{T_true, T_false}
use Rattle.calculus.proofs.Chain.{sound}
use Rattle.calculus.proofs.Tests.{is_value_says}
use Rattle.calculus.proofs.Evaluation.{next_says}
use Rattle.format.specs.Book.{size_limit}
use Rattle.answers.specs.Answer.{Stop, value, spent, room}
use Rattle.answers.specs.Definition.{Ended, ended, is_full, first_stop, evaluate}
use Rattle.answers.specs.Demands.{StopsBy, GreatestSize}

-- how the run of e, with this limit, ended
pub record Ran (h : ℕ) (e : Term) (limit : ℕ) (r : Ended) : Type 0 where
  pub taken : r.steps ≤ limit
  pub reached : Reaches h r.steps e r.term
  pub small : (n : ℕ) (f : Term) → n ≤ r.steps → Reaches h n e f → size f ≤ size_limit
  pub greatest : GreatestSize h r.steps e r.mark
  pub why : StopsBy h r.stop limit r.steps r.term

-- the four ways on, as equations
pub evaluate_value : (h l m n k : ℕ) (e : Term) → is_value e ≡ true → evaluate h l m n k e ≡ ended value n k e
unfolding evaluate first_stop
evaluate_value h l zero n k e v = rw (v, evaluate, first_stop)
evaluate_value h l (suc m) n k e v = rw (v, evaluate, first_stop)

pub evaluate_spent : (h l n k : ℕ) (e : Term) → is_value e ≡ false → evaluate h l zero n k e ≡ ended spent n k e
unfolding evaluate first_stop
evaluate_spent h l n k e v = rw (v, evaluate, first_stop)

pub evaluate_room : (h l m n k : ℕ) (e f : Term) → is_value e ≡ false → next h e ≡ some f → ltb l (size f) ≡ true → evaluate h l (suc m) n k e ≡ ended room n k e
unfolding evaluate first_stop is_full
evaluate_room h l m n k e f v s g = rw (v, s, g, evaluate, first_stop, is_full)

pub evaluate_step : (h l m n k : ℕ) (e f : Term) → is_value e ≡ false → next h e ≡ some f → ltb l (size f) ≡ false →
    evaluate h l (suc m) n k e ≡ evaluate h l m (suc n) (max k (size f)) f
unfolding evaluate first_stop is_full
evaluate_step h l m n k e f v s g = rw (v, s, g, evaluate, first_stop, is_full) (rw s)

module _ (h : ℕ) {e₀ : Term} {A : Ty} (t : Typed [] e₀ A) where
  abbrev Small : ℕ → Type 0
  Small n = (k : ℕ) (f : Term) → k ≤ n → Reaches h k e₀ f → size f ≤ size_limit

  -- a term that is reached within one more step is one of those before, or the new one
  within_suc : {n : ℕ} {f : Term} → Reaches h (suc n) e₀ f → (k : ℕ) (g : Term) → k ≤ suc n → Reaches h k e₀ g → (k ≤ n) ⊎ (size g ≡ size f)
  within_suc {n} {f} r k g l q =
      elim (dec_le k n) [
        | yes a ↦ inl a
        | no u ↦
            let z : k ≡ suc n = omega arith in
            inr (ap size ((sound t (suc n) f r).only g (subst (λ (j : ℕ). Reaches h j e₀ g) z q)))
      ]

  -- one more term, and it is small too
  small_suc : {n : ℕ} {f : Term} → Small n → Reaches h (suc n) e₀ f → size f ≤ size_limit → Small (suc n)
  small_suc s r i k g l q = elim (within_suc r k g l q) [ inl a ↦ s k g a q | inr z ↦ omega (arith, z, i) ]

  -- of the first term alone its size is the greatest,
  greatest_first : GreatestSize h 0 e₀ (size e₀)
  greatest_first = record { bounds = first; attained = (0, e₀, omega arith, r_zero, refl) }
    where
      first : (k : ℕ) (f : Term) → k ≤ 0 → Reaches h k e₀ f → size f ≤ size e₀
      first k f i r_zero = omega arith
      first k f i (r_suc r s) = absurd (omega arith)

  -- and with one more term the larger of both
  greatest_suc : {n m : ℕ} {f : Term} → GreatestSize h n e₀ m → Reaches h (suc n) e₀ f → GreatestSize h (suc n) e₀ (max m (size f))
  greatest_suc {n} {m} {f} x r = record { bounds = bound; attained = elim (dec_le (size f) m) [ yes a ↦ before a | no u ↦ (suc n, f, omega arith, r, omega arith) ] }
    where
      bound : (k : ℕ) (g : Term) → k ≤ suc n → Reaches h k e₀ g → size g ≤ max m (size f)
      bound k g l q = elim (within_suc r k g l q) [ inl a ↦ omega (arith, x.bounds k g a q) | inr z ↦ omega (arith, z) ]

      before : size f ≤ m → (k : ℕ) × (g : Term) × (k ≤ suc n) × Reaches h k e₀ g × (size g ≡ max m (size f))
      before a = let (k, g, i, q, z) = x.attained in (k, g, omega arith, q, omega (arith, z))

  -- a term that is reached is a value, or the function next gives its successor
  value_or_step : {n : ℕ} {e : Term} → Reaches h n e₀ e →
      ((is_value e ≡ true) × IsValue e) ⊎ ((is_value e ≡ false) × (¬ IsValue e) × ((f : Term) × (next h e ≡ some f) × Step h e f))
  value_or_step {n} {e} r = go p.ends
    where
      p : Reached h e₀ A n e
      p = sound t n e r

      go : Ends h e → ((is_value e ≡ true) × IsValue e) ⊎ ((is_value e ≡ false) × (¬ IsValue e) × ((f : Term) × (next h e ≡ some f) × Step h e f))
      go (inl v) = inl (T_true (is_value_says e) v.0, v.0)
      go (inr s) =
          inr
          (T_false (is_value_says e) s.0, s.0, (s.1.0, (next_says h s.1.0 p.typed.1).1 s.1.1, s.1.1))

  -- the terms up to step n: all small, k the greatest size
  pub record SoFar (n k : ℕ) (e : Term) : Type 0 where
    pub reached : Reaches h n e₀ e
    pub small : Small n
    pub greatest : GreatestSize h n e₀ k

  -- the first term alone
  pub so_far_first : size e₀ ≤ size_limit → SoFar 0 (size e₀) e₀
  so_far_first i = record { reached = r_zero; small = λ k f l r. omega (arith, greatest_first.bounds k f l r, i); greatest = greatest_first }

  further : {n k : ℕ} {e f : Term} → SoFar n k e → Step h e f → size f ≤ size_limit → SoFar (suc n) (max k (size f)) f
  further c s i =
      let r = r_suc c.reached s in
      record { reached = r; small = small_suc c.small r i; greatest = greatest_suc c.greatest r }

  ended_as : (s : Stop) {n k l : ℕ} {e : Term} {r : Ended} → r ≡ ended s n k e → SoFar n k e → n ≤ l → StopsBy h s l n e → Ran h e₀ l r
  ended_as s {l = l} q c i w =
      subst⁻¹ (λ (x : Ended). Ran h e₀ l x) q (record { taken = i; reached = c.reached; small = c.small; greatest = c.greatest; why = w })

  pub ran : (m n k : ℕ) (e : Term) → SoFar n k e → Ran h e₀ (n + m) (evaluate h size_limit m n k e)
  ran zero n k e c =
      elim (value_or_step c.reached) [
        | inl v ↦ ended_as value (evaluate_value h size_limit 0 n k e v.0) c (omega arith) v.1
        | inr w ↦ ended_as spent (evaluate_spent h size_limit n k e w.0) c (omega arith) (w.1, omega arith)
      ]
  ran (suc m) n k e c =
      elim (value_or_step c.reached) [
        | inl v ↦ ended_as value (evaluate_value h size_limit (suc m) n k e v.0) c (omega arith) v.1
        | inr w ↦ is_fits m (λ j f d. ran m (suc n) j f d) w.0 w.1 w.2.0 w.2.1 w.2.2 (ltb size_limit (size w.2.0)) refl
      ]
    where
      is_fits : (m : ℕ) → ((j : ℕ) (f : Term) → SoFar (suc n) j f → Ran h e₀ (suc n + m) (evaluate h size_limit m (suc n) j f)) →
          is_value e ≡ false → ¬ IsValue e → (f : Term) → next h e ≡ some f → Step h e f → (b : Bool) → ltb size_limit (size f) ≡ b →
          Ran h e₀ (n + suc m) (evaluate h size_limit (suc m) n k e)
      is_fits m go v u f x y true i =
          ended_as room (evaluate_room h size_limit m n k e f v x i) c (omega arith) (u, omega arith, (f, y, ltb→lt size_limit (size f) (subst⁻¹ T i tt)))
      is_fits m go v u f x y false i =
          let z : suc n + m ≡ n + suc m = omega arith in
          let b : size f ≤ size_limit = nltb→le size_limit (size f) (subst⁻¹ (λ (c : Bool). T (not c)) i tt) in
          subst₂ (λ (l : ℕ) (q : Ended). Ran h e₀ l q) z (sym (evaluate_step h size_limit m n k e f v x i)) (go (max k (size f)) f (further c y b))
