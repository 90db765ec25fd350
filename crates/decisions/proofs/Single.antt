-- Whether a held term is a closed value, by the kind of its cell. Assumes nothing.
use Prim.Native.Nat.{ℕ, ◌≤◌, ◌<◌}
use mathlib.Core.Path.{◌≡◌, refl, sym, ap, ◌∙◌}
use mathlib.Core.Bool.{Bool, true, false, ◌&&◌}
use mathlib.Core.List.{List}
use native.Mathlib.Decide.{dec_lt}
use native.Mathlib.Omega.{arith}
use Rattle.calculus.specs.Syntax.{Term}
use Rattle.calculus.specs.Decide.{is_value, is_closed}
use Rattle.format.specs.Table.{term_sort}
use Rattle.format.specs.Cell.{Cell, cell_at}
use Rattle.cells.specs.Held.{HoldsTerm}
use Rattle.cells.proofs.Held.{TwoTerms, merge_at, rcd_at, lam_at, lit_at, unit_at, kind_of, kind_of_held}
use Rattle.cells.proofs.Forms.{fold_else}
use Rattle.decisions.specs.Questions.{TermAt, TermSays, is_closed_value}
use Rattle.decisions.proofs.Parts.{and_both, and_none}

-- q of the term at i is p of a part that cell a holds
pub record OnePasses (s : List ℕ) (q p : Term → Bool) (i a : ℕ) (e : Term) : Type 0 where
  pub part : TermAt s a
  pub less : a < i
  pub is : q e ≡ p part.term

-- q of the term at i is q of both parts, which cells a and b hold
pub record OneSplits (s : List ℕ) (q : Term → Bool) (i a b : ℕ) (e : Term) : Type 0 where
  pub first : TermAt s a
  pub second : TermAt s b
  pub first_less : a < i
  pub second_less : b < i
  pub is : q e ≡ (q first.term && q second.term)

module _ {s : List ℕ} {q : Term → Bool} {i : ℕ} where
  pub one_outright : {r : Bool} → ((e : Term) → HoldsTerm s i e → r ≡ q e) → TermSays s i q r
  one_outright f = record { says = f }

  pub one_flagged : {r u : Bool} → r ≡ u → ((e : Term) → HoldsTerm s i e → u ≡ q e) → TermSays s i q r
  one_flagged e f = record { says = λ t h. e ∙ f t h }

  pub one_passed : {p : Term → Bool} {a : ℕ} {r : Bool} → ((e : Term) → HoldsTerm s i e → OnePasses s q p i a e) → TermSays s a p r → TermSays s i q r
  one_passed f u = record { says = λ e h. let v = f e h in u.says _ v.part.holds ∙ sym v.is }

  module _ {a b : ℕ} {p : Bool} where
    pub one_both : {r : Bool} → ((e : Term) → HoldsTerm s i e → OneSplits s q i a b e) → TermSays s a q p → p ≡ true → TermSays s b q r → TermSays s i q r
    one_both f u t v = record { says = λ e h. let w = f e h in and_both w.is (u.says _ w.first.holds) t (v.says _ w.second.holds) }

    pub one_none : ((e : Term) → HoldsTerm s i e → OneSplits s q i a b e) → TermSays s a q p → p ≡ false → TermSays s i q p
    one_none f u t = record { says = λ e h. let w = f e h in and_none _ w.is (u.says _ w.first.holds) t }

-- two tests of both parts are both tests of each
pairs : (a b c d : Bool) → ((a && b) && (c && d)) ≡ ((a && c) && (b && d))
pairs false b c d = refl
pairs true false false d = refl
pairs true false true d = refl
pairs true true false d = refl
pairs true true true d = refl

module _ {s : List ℕ} {i : ℕ} {e : Term} {x : Cell} (at_i : x ≡ cell_at s i) (h : HoldsTerm s i e) where
  splits : {f : Term → Term → Term} (q : Term → Bool) → ((u v : Term) → q (f u v) ≡ (q u && q v)) → TwoTerms s i f e → OneSplits s q i x.a x.b e
  splits q eq p = rw at_i record {
    first = record { term = p.first; holds = p.holds_first };
    second = record { term = p.second; holds = p.holds_second };
    first_less = p.first_lower;
    second_less = p.second_lower;
    is = ap q p.is ∙ eq p.first p.second;
  }

  pub merge_value : x.kind ≡ 22 → OneSplits s is_closed_value i x.a x.b e
  unfolding is_value is_closed
  merge_value k = splits is_closed_value (λ u v. pairs (is_value u) (is_value v) (is_closed 0 u) (is_closed 0 v)) (merge_at h (rw at_i at k))

  pub record_value : x.kind ≡ 24 → OnePasses s is_closed_value is_closed_value i x.a e
  unfolding is_value is_closed
  record_value k = rw at_i let p = rcd_at h (rw at_i at k) in record {
    part = record { term = p.term; holds = p.holds };
    less = p.lower;
    is = ap is_closed_value p.is;
  }

  pub function_value : x.kind ≡ 21 → OnePasses s is_closed_value (is_closed 1) i x.a e
  unfolding is_value is_closed
  function_value k = rw at_i let p = lam_at h (rw at_i at k) in record {
    part = record { term = p.body; holds = p.holds_body };
    less = p.body_lower;
    is = ap is_closed_value p.is;
  }

  pub plain_value : 17 ≤ x.kind → x.kind < 19 → true ≡ is_closed_value e
  unfolding is_value is_closed
  plain_value m n =
      elim (dec_lt x.kind 18) [
        | yes p ↦ let k : x.kind ≡ 17 = omega (arith, m, p) in sym (ap is_closed_value (lit_at h (rw at_i at k)))
        | no p ↦ let k : x.kind ≡ 18 = omega (arith, n, p) in sym (ap is_closed_value (unit_at h (rw at_i at k)))
      ]

-- no other term is a value
pub no_closed_value : {s : List ℕ} {i : ℕ} {e : Term} {x : Cell} → x ≡ cell_at s i → HoldsTerm s i e →
    (x.kind ≡ 22 → ⊥) → (x.kind ≡ 24 → ⊥) → (x.kind ≡ 21 → ⊥) → (x.kind ≡ 17 → ⊥) → (x.kind ≡ 18 → ⊥) → false ≡ is_closed_value e
unfolding is_value is_closed
no_closed_value {e = e} {x = x} at_i h m r f n u =
    let k : kind_of term_sort e ≡ x.kind = sym (ap (λ (t : Cell). t.kind) at_i ∙ kind_of_held h) in
    sym (ap (λ b. b && is_closed 0 e) (fold_else _ _ _ _ _ e (rw k record {
      number = n;
      top_value = u;
      function = f;
      merged = m;
      recorded = r;
    })))
