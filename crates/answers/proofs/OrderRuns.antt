-- Two runs, by whatever engines, of roots that annotate one value in two orders: term by term they are of one size, and after a step at one term. Assumes nothing.
use Prim.Native.Nat.{ℕ, suc, ◌≤◌}
use mathlib.Core.Path.{◌≡◌, refl, sym, ◌∙◌, ap}
use mathlib.Core.Logic.{◌≢◌}
use mathlib.Core.List.{[], append_cancel_right}
use native.Mathlib.Omega.{arith}
use lib.ListN.{length}
use Rattle.calculus.specs.Syntax.{Term, size, IsValue}
use Rattle.calculus.specs.Typing.{HasType}
use Rattle.calculus.specs.Step.{Step, Reaches, r_zero, r_suc}
use Rattle.calculus.specs.Order.{SameValue}
use Rattle.calculus.proofs.TypedReduction.{cast_to}
use Rattle.calculus.proofs.Typing.{typed_closed}
use Rattle.calculus.proofs.Soundness.{value_no_step}
use Rattle.calculus.proofs.Reordered.{reordered_sym, reordered_value, reordered_size}
use Rattle.calculus.proofs.Order.{order_free}
use Rattle.calculus.proofs.OrderUses.{anno_step, anno_reordered, step_reordered}
use Rattle.format.specs.declared.Version.{Version}
use Rattle.format.specs.Version.{half_of}
use Rattle.format.specs.Terms.{TermFits, from_term_in}
use Rattle.format.specs.Book.{size_limit, root_term, term_book}
use Rattle.format.proofs.Trees.{term_cells}
use Rattle.format.proofs.RoundTrip.{book_length, term_round_trip}
use Rattle.answers.specs.Answer.{Stop, value, spent, room, stopped, steps_of, Result, result}
use Rattle.answers.specs.Engine.{padded}
use Rattle.answers.specs.Demands.{StopsBy, GreatestSize, TakesSteps}
use Rattle.answers.specs.Order.{Values, UnderOneType, under_one_type}
use Rattle.answers.proofs.Demands.{runs_unique}

-- ---- the roots

pub values_sym : {e f : Term} → Values e f → Values f e
values_sym (v, r) = (let x = reordered_value r v.1 in (x.0, x.1), reordered_sym r)

pub annotated_sym : {e f : Term} → UnderOneType e f → UnderOneType f e
annotated_sym (under_one_type p) = under_one_type (values_sym p)

-- the promise of the calculus, of a typed value
pub same : {e f : Term} → Values e f → HasType [] e → SameValue [] e f
same {e} {f} p t = order_free [] e f p.0 (typed_closed t.1) p.1

pub values_typed : {e f : Term} → Values e f → HasType [] e → HasType [] f
values_typed p t = (same p t).accepted.0 t

pub annotated_typed : {e f : Term} → UnderOneType e f → HasType [] e → HasType [] f
annotated_typed (under_one_type p) t = anno_reordered p.0.1 p.1 t

pub annotated_size : {e f : Term} → UnderOneType e f → size f ≡ size e
unfolding size
annotated_size (under_one_type p) = let h = reordered_size p.1 in omega arith

no_value : {e f : Term} → UnderOneType e f → ¬ IsValue e
no_value (under_one_type p) v = elim v.1 [ ]

-- an annotated value becomes a value, and so does the other
annotated_step : {h : ℕ} {e f g : Term} (k : ℕ) → UnderOneType e f → HasType [] e → Step h e g → IsValue g × Step k f g
annotated_step k (under_one_type p) t s = (cast_to (anno_step p.0.1 s), step_reordered p.0.1 p.1 k t s)

-- ---- the terms that two such books reach

-- after n steps the one is at g and the other at d: both at the root, or at one value
data Abreast (e f : Term) : ℕ → Term → Term → Type 0 where
  at_roots : Abreast e f 0 e f
  at_value : {g : Term} → IsValue g → Abreast e f 1 g g

-- where the other is, at its range, when the one is at g
record Beside (k : ℕ) (e f : Term) (n : ℕ) (g : Term) : Type 0 where
  other : Term
  abreast : Abreast e f n g other
  reached : Reaches k n f other

beside_step : {h n : ℕ} {e f g d g' : Term} (k : ℕ) → UnderOneType e f → HasType [] e → Abreast e f n g d → Step h g g' → Beside k e f (suc n) g'
beside_step k p t at_roots s = let (v, u) = annotated_step k p t s in record { other = _; abreast = at_value v; reached = r_suc r_zero u }
beside_step k p t (at_value v) s = absurd (value_no_step v.1 s)

beside : {h n : ℕ} {e f g : Term} (k : ℕ) → UnderOneType e f → HasType [] e → Reaches h n e g → Beside k e f n g
beside k p t r_zero = record { other = _; abreast = at_roots; reached = r_zero }
beside k p t (r_suc r s) = beside_step k p t (beside k p t r).abreast s

abreast_size : {e f g d : Term} {n : ℕ} → UnderOneType e f → Abreast e f n g d → size d ≡ size g
abreast_size p at_roots = annotated_size p
abreast_size p (at_value v) = refl

-- after a step they are at one term, before it each is at its root
abreast_after : {e f g d : Term} {n : ℕ} → Abreast e f n g d → n ≢ 0 → g ≡ d
abreast_after at_roots i = absurd (i refl)
abreast_after (at_value v) i = refl

abreast_before : {e f g d : Term} {n : ℕ} → Abreast e f n g d → n ≡ 0 → (g ≡ e) × (d ≡ f)
abreast_before at_roots i = (refl, refl)
abreast_before (at_value v) i = absurd (omega arith)

-- the other stops for the same reason
other_why : {n : ℕ} {e f g d : Term} (h k : ℕ) → UnderOneType e f → HasType [] e → (s : Stop) (l : ℕ) → Abreast e f n g d → StopsBy h s l n g → StopsBy k s l n d
other_why h k p t value l at_roots w = absurd (no_value p w)
other_why h k p t value l (at_value v) w = w
other_why h k p t spent l at_roots w = (no_value (annotated_sym p), w.1)
other_why h k p t spent l (at_value v) w = absurd (w.0 v)
other_why h k p t room l at_roots w = (no_value (annotated_sym p), w.1, (w.2.0, (annotated_step k p t w.2.1).1, w.2.2))
other_why h k p t room l (at_value v) w = absurd (w.0 v)

-- ---- the bytes of the roots

-- terms of one size that are encoded alike are the same
pub encoded_alike : (v : Version) (e f : Term) → TermFits (half_of v) e → TermFits (half_of v) f → size e ≤ size_limit → size f ≡ size e →
    padded (term_book v e) ≡ padded (term_book v f) → e ≡ f
unfolding padded
encoded_alike v e f x y h s q =
    let n : length (term_book v f) ≡ length (term_book v e) = omega (arith, book_length v (from_term_in v e), book_length v (from_term_in v f), term_cells v e, term_cells v f) in
    let z : term_book v e ≡ term_book v f = append_cancel_right (term_book v e) (term_book v f) _ (rw n at q) in
    sym (term_round_trip v e x h).decodes ∙ ap root_term z ∙ (term_round_trip v f y (omega arith)).decodes

-- ---- two runs, by whatever engines

module _ {u v : Version} {e f : Term} {l : ℕ} {x y : Result} (p : UnderOneType e f) (t : HasType [] e) (one : TakesSteps u e l x) (two : TakesSteps v f l y) where
  abbrev behind : Beside (half_of v) e f one.steps one.term
  behind = beside (half_of v) p t one.reached

  -- a run of the one is a run of the other, but for the root
  other_small : (n : ℕ) (d : Term) → n ≤ one.steps → Reaches (half_of v) n f d → size d ≤ size_limit
  other_small n d i q =
      let o = beside (half_of u) (annotated_sym p) (annotated_typed p t) q in
      omega (arith, abreast_size (annotated_sym p) o.abreast, one.small n o.other i o.reached)

  -- and of one size, term by term
  other_greatest : GreatestSize (half_of v) one.steps f one.mark
  other_greatest =
      let (k, g, i, r, z) = one.greatest.attained in
      let o = beside (half_of v) p t r in
      record { bounds = bound; attained = (k, o.other, i, o.reached, omega (arith, abreast_size p o.abreast, z)) }
    where
      bound : (k : ℕ) (d : Term) → k ≤ one.steps → Reaches (half_of v) k f d → size d ≤ one.mark
      bound k d i q =
          let o = beside (half_of u) (annotated_sym p) (annotated_typed p t) q in
          omega (arith, abreast_size (annotated_sym p) o.abreast, one.greatest.bounds k o.other i o.reached)

  other_run : TakesSteps v f l (result (stopped one.stop one.steps one.mark) (padded (term_book v behind.other)))
  other_run =
      record {
        stop = one.stop;
        steps = one.steps;
        mark = one.mark;
        term = behind.other;
        says = refl;
        taken = one.taken;
        reached = behind.reached;
        small = other_small;
        greatest = other_greatest;
        why = other_why (half_of u) (half_of v) p t one.stop l behind.abreast one.why;
      }

  other : y ≡ result (stopped one.stop one.steps one.mark) (padded (term_book v behind.other))
  other = runs_unique (annotated_typed p t).1 two other_run

  steps : steps_of x.answer ≡ one.steps
  steps = ap (λ (r : Result). steps_of r.answer) one.says

  left_one : x.left ≡ padded (term_book u one.term)
  left_one = ap (λ (r : Result). r.left) one.says

  left_other : y.left ≡ padded (term_book v behind.other)
  left_other = ap (λ (r : Result). r.left) other

  pub alike : x.answer ≡ y.answer
  alike = ap (λ (r : Result). r.answer) one.says ∙ sym (ap (λ (r : Result). r.answer) other)

  -- after a step, and before
  pub after : steps_of x.answer ≢ 0 → u ≡ v → x.left ≡ y.left
  after n q = left_one ∙ rw (q, abreast_after behind.abreast (λ z. n (steps ∙ z))) (sym left_other)

  pub before : steps_of x.answer ≡ 0 → (x.left ≡ padded (term_book u e)) × (y.left ≡ padded (term_book v f))
  before n =
      let (g, h) = abreast_before behind.abreast (sym steps ∙ n) in
      (left_one ∙ ap (λ (d : Term). padded (term_book u d)) g, left_other ∙ ap (λ (d : Term). padded (term_book v d)) h)
