-- Consistency of two held terms, by the kinds of their cells: what it asks of the parts, and what it answers outright.
-- Assumes nothing.
use Prim.Native.Nat.{ℕ, ◌+◌, ◌*◌, ◌<◌}
use mathlib.Core.Path.{◌≡◌, refl, sym, ap, ap₂, subst, ◌∙◌}
use mathlib.Core.Logic.Iff
use mathlib.Core.Logic.{◌⊎◌, inl, inr, ⊎_elim}
use mathlib.Core.Bool.{Bool, true, false, not, ◌&&◌, ◌||◌, and-false, decide}
use mathlib.Core.List.{List}
use native.Mathlib.Omega.{arith}
use lib.Dec.{T, eqb}
use lib.IntN.{ℤ}
use borrow.Author.Tests.{eq-eqb, ne_eqb, eqb-true}
use Rattle.calculus.specs.Syntax.{Ty, Term, lit, unit, lam, merge, rcd}
use Rattle.calculus.specs.Decide.{same_type, same_term, is_disjoint, same_integer, each_part, consistent_lit, consistent_lam, consistent_rcd, is_consistent}
use Rattle.calculus.proofs.Bools.{T_same, T_true, decide_says}
use Rattle.format.specs.Table.{type_sort, term_sort}
use Rattle.format.specs.Cell.{IsBytes, Cell, cell_at}
use Rattle.format.specs.Tree.{kind_in}
use Rattle.format.specs.Terms.{from_term_in}
use Rattle.format.proofs.Tests.{cell_fits}
use Rattle.cells.specs.Held.{HoldsTerm}
use Rattle.cells.proofs.Held.{lit_at, unit_at, lam_at, merge_at, rcd_at, kind_of, kind_of_held}
use Rattle.cells.proofs.Forms.{NoValue, fold_else, parts_else}
use Rattle.equality.specs.Trees.{SameTree}
use Rattle.decisions.specs.Questions.{TypesAt, TypesSay, TermsAt, TermsSay, Plain, PlainAt, PlainPair, Agreeing}
use Rattle.decisions.proofs.Parts.{Passes, Splits, Whenever}
use Rattle.decisions.proofs.Forms.{Terms, kind_first, kind_second}
use Rattle.decisions.proofs.Trees.{same_things, same_test}

-- a number, a function or a record
data PlainTerm : Term → Type 0 where
  plain_lit : {z : ℤ} → PlainTerm (lit z)
  plain_lam : {e : Term} {A B : Ty} → PlainTerm (lam e A B)
  plain_rcd : {l : ℕ} {e : Term} → PlainTerm (rcd l e)

plain_term : {s : List ℕ} {i : ℕ} {e : Term} → HoldsTerm s i e → Plain (cell_at s i).kind → PlainTerm e
plain_term h =
    ⊎_elim (λ k. rw (lit_at h k) plain_lit) (⊎_elim (λ k. rw (lam_at h k).is plain_lam) (λ k. rw (rcd_at h k).is plain_rcd))

no_value : {s : List ℕ} {i : ℕ} {e : Term} → HoldsTerm s i e → ((cell_at s i).kind ≡ 18 → ⊥) → ((cell_at s i).kind ≡ 22 → ⊥) →
    (Plain (cell_at s i).kind → ⊥) → NoValue (kind_of term_sort e)
no_value h u m n = rw (← kind_of_held h) record {
  number = λ k. n (inl k);
  top_value = u;
  function = λ k. n (inr (inl k));
  merged = m;
  recorded = λ k. n (inr (inr k));
}

-- the test's equations
other_left : (e f : Term) → NoValue (kind_of term_sort e) → false ≡ is_consistent e f
unfolding is_consistent
other_left e f h = sym (ap (λ (g : Term → Bool). g f) (fold_else _ _ _ _ _ e h))

other_right : {e : Term} (f : Term) → PlainTerm e → NoValue (kind_of term_sort f) → false ≡ is_consistent e f
unfolding is_consistent each_part consistent_lit consistent_lam consistent_rcd
other_right f plain_lit h = sym (parts_else _ _ _ _ _ f h)
other_right f plain_lam h = sym (parts_else _ _ _ _ _ f h)
other_right f plain_rcd h = sym (parts_else _ _ _ _ _ f h)

unit_right : {e : Term} → PlainTerm e → true ≡ is_consistent e unit
unfolding is_consistent each_part consistent_lit consistent_lam consistent_rcd
unit_right plain_lit = refl
unit_right plain_lam = refl
unit_right plain_rcd = refl

merge_right : {e : Term} → PlainTerm e → (u v : Term) → is_consistent e (merge u v) ≡ (is_consistent e u && is_consistent e v)
unfolding is_consistent each_part
merge_right plain_lit u v = refl
merge_right plain_lam u v = refl
merge_right plain_rcd u v = refl

kinds_apart : {e f : Term} → PlainTerm e → PlainTerm f → (kind_of term_sort e ≡ kind_of term_sort f → ⊥) → true ≡ is_consistent e f
unfolding is_consistent each_part consistent_lit consistent_lam consistent_rcd from_term_in kind_in
kinds_apart plain_lit plain_lit d = absurd (d refl)
kinds_apart plain_lit plain_lam d = refl
kinds_apart plain_lit plain_rcd d = refl
kinds_apart plain_lam plain_lit d = refl
kinds_apart plain_lam plain_lam d = absurd (d refl)
kinds_apart plain_lam plain_rcd d = refl
kinds_apart plain_rcd plain_lit d = refl
kinds_apart plain_rcd plain_lam d = refl
kinds_apart plain_rcd plain_rcd d = absurd (d refl)

two_numbers : (z w : ℤ) → is_consistent (lit z) (lit w) ≡ decide (same_integer z w)
unfolding is_consistent each_part consistent_lit
two_numbers z w = refl

two_records : (l m : ℕ) (u v : Term) → is_consistent (rcd l u) (rcd m v) ≡ (not (eqb l m) || is_consistent u v)
unfolding is_consistent each_part consistent_rcd
two_records l m u v = refl

two_functions : (u : Term) (A B : Ty) (v : Term) (C D : Ty) → is_consistent (lam u A B) (lam v C D) ≡ ((same_term u v && same_type A C) || is_disjoint B D)
unfolding is_consistent each_part consistent_lam
two_functions u A B v C D = refl

-- The left side: unit, a merge, a term that is no value; else each part of the right side is asked.
module _ {s : List ℕ} {i : ℕ} {x : Cell} {e : Term} (at_i : x ≡ cell_at s i) (h : HoldsTerm s i e) where
  pub left_unit : (f : Term) → x.kind ≡ 18 → true ≡ is_consistent e f
  unfolding is_consistent
  left_unit f k = sym (ap (λ u. is_consistent u f) (unit_at h (rw at_i at k)))

  pub left_none : (f : Term) → (x.kind ≡ 18 → ⊥) → (x.kind ≡ 22 → ⊥) → (Plain x.kind → ⊥) → false ≡ is_consistent e f
  left_none f u m n = other_left e f (no_value h (rw at_i at u) (rw at_i at m) (rw at_i at n))

  pub left_halves : {j : ℕ} {f : Term} → HoldsTerm s j f → x.kind ≡ 22 → Splits (HoldsTerm s) is_consistent ◌&&◌ (i + j) x.a j x.b j e f
  unfolding is_consistent
  left_halves {f} k m = rw at_i let p = merge_at h (rw at_i at m) in record {
    first = record { first = p.first; second = f; holds_first = p.holds_first; holds_second = k };
    second = record { first = p.second; second = f; holds_first = p.holds_second; holds_second = k };
    first_less = omega arith;
    second_less = omega arith;
    is = ap (λ u. is_consistent u f) p.is;
  }

pub plain_left : {s : List ℕ} {i j : ℕ} {x : Cell} → x ≡ cell_at s i → TermsAt s i j → Plain x.kind → PlainAt s i j
plain_left at_i p k = record { terms = p; plain = rw at_i at k }

-- A number, a function or a record on the left, by the right side.
module _ {s : List ℕ} {i j : ℕ} {y : Cell} {e f : Term} (at_j : y ≡ cell_at s j) (plain : Plain (cell_at s i).kind) (h : HoldsTerm s i e) (k : HoldsTerm s j f) where
  pub each_unit : y.kind ≡ 18 → true ≡ is_consistent e f
  each_unit m = unit_right (plain_term h plain) ∙ sym (ap (is_consistent e) (unit_at k (rw at_j at m)))

  pub each_none : (y.kind ≡ 18 → ⊥) → (y.kind ≡ 22 → ⊥) → (Plain y.kind → ⊥) → false ≡ is_consistent e f
  each_none u m n = other_right f (plain_term h plain) (no_value k (rw at_j at u) (rw at_j at m) (rw at_j at n))

  pub each_half_lem : y.kind ≡ 22 → Splits (HoldsTerm s) is_consistent ◌&&◌ (i + j) i y.a i y.b e f
  each_half_lem m = rw at_j let p = merge_at k (rw at_j at m) in record {
    first = record { first = e; second = p.first; holds_first = h; holds_second = p.holds_first };
    second = record { first = e; second = p.second; holds_first = h; holds_second = p.holds_second };
    first_less = omega arith;
    second_less = omega arith;
    is = ap (is_consistent e) p.is ∙ merge_right (plain_term h plain) p.first p.second;
  }

pub plain_pair : {s : List ℕ} {i j : ℕ} {y : Cell} → y ≡ cell_at s j → PlainAt s i j → Plain y.kind → PlainPair s i j
plain_pair at_j p k = record { first = p; plain = rw at_j at k }

-- Two functions agree if body and input are the same, or the outputs are disjoint.
pub record Agrees (s : List ℕ) (x y : Cell) (e f : Term) : Type 0 where
  pub bodies : TermsAt s x.a y.a
  pub inputs : TypesAt s x.b y.b
  pub outputs : TypesAt s x.c y.c
  pub is : is_consistent e f
      ≡ ((same_term bodies.first bodies.second && same_type inputs.first inputs.second) || is_disjoint outputs.first outputs.second)

-- Two of these.
module _ {s : List ℕ} {i j : ℕ} {x y : Cell} {e f : Term} (t : Terms s i j x y e f) where
  pub pair_kinds : Plain (cell_at s i).kind → Plain (cell_at s j).kind → (x.kind ≡ y.kind → ⊥) → true ≡ is_consistent e f
  pair_kinds u v d = kinds_apart (plain_term t.holds_first u) (plain_term t.holds_second v) λ q.
      d (rw (t.is_first, t.is_second) (kind_of_held t.holds_first ∙ q ∙ sym (kind_of_held t.holds_second)))

  module _ (k : x.kind ≡ y.kind) where
    -- two numbers are consistent where they are the same
    pub numbers : {r : Bool} → IsBytes s → x.kind ≡ 17 → SameTree s i j r → r ≡ is_consistent e f
    numbers b m w =
        let p = lit_at t.holds_first (kind_first t m) in
        let r = lit_at t.holds_second (kind_second t k m) in
        T_same (same_things term_sort b w t.holds_first t.holds_second) (rw (p, r) (Iff.trans (rw two_numbers (decide_says (same_integer _ _))) (ap lit, λ q. cc)))

    pub records : x.kind ≡ 24 → x.label ≡ y.label → Passes (HoldsTerm s) is_consistent (i + j) x.a y.a e f
    records m l = rw (t.is_first, t.is_second)
        let p = rcd_at t.holds_first (kind_first t m) in
        let r = rcd_at t.holds_second (kind_second t k m) in
        record {
          part = record { first = p.term; second = r.term; holds_first = p.holds; holds_second = r.holds };
          less = omega arith;
          is = ap₂ is_consistent p.is r.is ∙ two_records _ _ p.term r.term ∙ rw (eq-eqb _ _ (rw (t.is_first, t.is_second) at l)) refl;
        }

    pub other_records : x.kind ≡ 24 → (x.label ≡ y.label → ⊥) → true ≡ is_consistent e f
    other_records m l =
        let p = rcd_at t.holds_first (kind_first t m) in
        let r = rcd_at t.holds_second (kind_second t k m) in
        sym (ap₂ is_consistent p.is r.is ∙ two_records _ _ p.term r.term ∙ rw (ne_eqb _ _ (rw (t.is_first, t.is_second) at l)) refl)

    function_kind : Plain (cell_at s i).kind → (x.kind ≡ 17 → ⊥) → (x.kind ≡ 24 → ⊥) → x.kind ≡ 21
    function_kind u v w =
        let e = ap (λ (u : Cell). u.kind) t.is_first in
        ⊎_elim (λ a. absurd (v (e ∙ a))) (⊎_elim (λ a. e ∙ a) (λ a. absurd (w (e ∙ a)))) u

    pub functions : Plain (cell_at s i).kind → (x.kind ≡ 17 → ⊥) → (x.kind ≡ 24 → ⊥) → Agrees s x y e f
    functions u v w = rw (t.is_first, t.is_second)
        let m = function_kind u v w in
        let p = lam_at t.holds_first (kind_first t m) in
        let r = lam_at t.holds_second (kind_second t k m) in
        record {
          bodies = record { first = p.body; second = r.body; holds_first = p.holds_body; holds_second = r.holds_body };
          inputs = record { first = p.input; second = r.input; holds_first = p.holds_input; holds_second = r.holds_input };
          outputs = record { first = p.output; second = r.output; holds_first = p.holds_output; holds_second = r.holds_output };
          is = ap₂ is_consistent p.is r.is ∙ two_functions p.body p.input p.output r.body r.input r.output;
        }

module _ {s : List ℕ} {i j : ℕ} {x y : Cell} {p : Bool} (w : Whenever (HoldsTerm s) i j (Agrees s x y)) (bytes : IsBytes s) (u : SameTree s x.b y.b p) where
  inputs_same : {e f : Term} (l : Agrees s x y e f) → p ≡ same_type l.inputs.first l.inputs.second
  inputs_same l = (same_test type_sort bytes u).says _ _ l.inputs.holds_first l.inputs.holds_second

  bodies_same : {q : Bool} {e f : Term} → SameTree s x.a y.a q → (l : Agrees s x y e f) → q ≡ same_term l.bodies.first l.bodies.second
  bodies_same v l = (same_test term_sort bytes v).says _ _ l.bodies.holds_first l.bodies.holds_second

  -- the same function
  pub agree_same : {q : Bool} → p ≡ true → SameTree s x.a y.a q → q ≡ true → TermsSay s i j is_consistent true
  agree_same t v o = record {
    says = λ e f h k. let l = w e f h k in sym (l.is ∙ rw (sym (bodies_same v l) ∙ o, sym (inputs_same l) ∙ t) refl);
  }

  -- two functions that differ
  pub agree_apart : {r : Bool} → (p ≡ false) ⊎ SameTree s x.a y.a false → TypesSay s x.c y.c is_disjoint r → TermsSay s i j is_consistent r
  agree_apart {r} d z = record {
    says = λ e f h k.
        let l = w e f h k in
        let c = z.says _ _ l.outputs.holds_first l.outputs.holds_second in
        ⊎_elim (λ t. let a = sym (inputs_same l) ∙ t in c ∙ sym (l.is ∙ rw (a, and-false) refl))
        (λ v. let b = bodies_same v l in c ∙ sym (l.is ∙ rw (← b) refl))
        d;
  }

-- a no says nothing; two numbers whose three fields are the same are one number
pub no_answer : {s : List ℕ} {i j : ℕ} {r : Bool} → r ≡ false → Agreeing s i j r
no_answer e = record { says = λ t. absurd (subst T (sym t ∙ e) tt) }

-- the fields of a cell fit their bytes
abbrev pub Fit : Cell → Type 0
Fit x = (x.b < 65536) × (x.c < 65536)

pub cell_fit : (s : List ℕ) (i : ℕ) {x : Cell} → IsBytes s → x ≡ cell_at s i → Fit x
cell_fit s i y e = let f = cell_fits s y i in rw e (f.2, f.3)

pub one_number : {s : List ℕ} {i j : ℕ} {x y : Cell} → IsBytes s → x ≡ cell_at s i → y ≡ cell_at s j → x.kind ≡ 17 → y.kind ≡ 17 → x.a ≡ y.a →
    Agreeing s i j (eqb (x.b + 65536 * x.c) (y.b + 65536 * y.c))
one_number {s} {i} {j} {x} {y} o p q m n a = record {
  says = λ t.
      let z = eqb-true (x.b + 65536 * x.c) (y.b + 65536 * y.c) t in
      let f = cell_fit s i o p in
      let g = cell_fit s j o q in
      let b : x.b ≡ y.b = omega (arith, f.0, g.0, z) in
      let c : x.c ≡ y.c = omega (arith, f.0, g.0, z) in
      record {
        says = λ e f h k.
            let u = lit_at h (rw p at m) in
            let v = lit_at k (rw q at n) in
            let one : f ≡ e = v ∙ rw (← p, ← q, a, b, c) refl ∙ sym u in
            rw (one, u) (sym (rw two_numbers (T_true (decide_says (same_integer _ _)) refl)));
      };
}
