-- Demands 2 and 3 hold of the executable definitions; and demand 3 follows from demand 2, of any engine. Assumes nothing.
use Prim.Native.Nat.{ℕ, ◌≤◌, min}
use mathlib.Core.Path.{◌≡◌, refl, sym, ◌∙◌, ap, subst, subst⁻¹}
use mathlib.Core.Bool.{Bool, true, false}
use mathlib.Core.Logic.{◌≢◌, ◌⊎◌, inl, inr}
use mathlib.Core.Option.{Option, none, some}
use mathlib.Core.List.{List, []}
use native.Mathlib.Nat.{zero-add, le_refl}
use native.Mathlib.Omega.{arith}
use lib.Dec.{eqb}
use lib.ListN.{length, length-replicate}
use Rattle.calculus.specs.Syntax.{Ty, size_type, Term, size, IsValue}
use Rattle.calculus.specs.Typing.{Typed}
use Rattle.calculus.specs.Step.{Step, Reaches}
use Rattle.calculus.specs.Infer.{Found, found, infer}
use Rattle.calculus.specs.Infer as Infer
use Rattle.calculus.proofs.Chain.{sound}
use Rattle.calculus.proofs.Soundness.{value_no_step}
use Rattle.calculus.proofs.Inference.{infer_says}
use Rattle.format.specs.declared.Version.{Version}
use Rattle.format.specs.Version.{half_of}
use Rattle.format.specs.Cell.{IsBytes}
use Rattle.format.specs.Book.{size_limit, Finding, form_finding, WellFormed, version_of, root_of, follow, root_term, term_book}
use Rattle.format.proofs.Tests.{form_finding_says, root_term_fits, root_term_small}
use Rattle.format.specs.RoundTrip.{TermRoundTrip}
use Rattle.format.proofs.RoundTrip.{term_round_trip}
use Rattle.answers.specs.Answer.{fault_number, reason_number, Stop, value, spent, room, refused, accepted, stopped, steps_of, Result, result}
use Rattle.answers.specs.Engine.{Engine, work_length, IsWork, IsLimit, zeros}
use Rattle.answers.specs.Definition.{definition, check, run, judge, after_form, after_typing, refusal_result, shown, end_result, ending, reported}
use Rattle.answers.specs.Demands.{Accepts, TakesSteps, Agree, Demand2, Demand3For, Demand3}
use Rattle.answers.proofs.AllSamples.{in_work}
use Rattle.answers.proofs.Fits.{reaches_fits, half_positive}
use Rattle.answers.proofs.Running.{Ran, so_far_first, ran}
use Rattle.answers.proofs.Agreement.{end_result_alike, lesser_steps, same_mark, same_result}

-- Two runs of a typed term, by whatever engines, agree.
only_one : {h : ℕ} {e : Term} {A : Ty} → Typed [] e A → (n : ℕ) (f g : Term) → Reaches h n e f → Reaches h n e g → f ≡ g
only_one t n f g r q = (sound t n g q).only f r

final : {h : ℕ} (f g : Term) → IsValue f → ¬ Step h f g
final f g u s = value_no_step u.1 s

pub runs_agree : {v : Version} {e : Term} {A : Ty} {l k : ℕ} {x y : Result} → Typed [] e A → TakesSteps v e l x → TakesSteps v e k y → Agree l k x y
runs_agree {v} {e} {l = l} t p q =
    record {
      lesser = λ i. steps_of_lem p ∙ lesser_steps v (only_one t) final p q i ∙ ap (min l) (sym (steps_of_lem q));
      same = λ i u. same_result v (only_one t) final p q i
          (λ s. u p.steps p.mark (ap (λ (r : Result). r.answer) p.says ∙ ap (λ (s : Stop). stopped s p.steps p.mark) s));
    }
  where
    steps_of_lem : {n : ℕ} {r : Result} (z : TakesSteps v e n r) → steps_of r.answer ≡ z.steps
    steps_of_lem z = ap (λ (r : Result). steps_of r.answer) z.says

-- what `cc` finds in an equation of two constructors
pub clash : ¬ (◌≡◌ {A = ℕ} 0 1)
clash z = omega arith

is_spent : (s : Stop) → Dec (s ≡ spent)
is_spent value = no (λ h. clash cc)
is_spent spent = yes refl
is_spent room = no (λ h. clash cc)

-- A run of a typed term has one answer.
pub runs_unique : {v : Version} {e : Term} {A : Ty} {l : ℕ} {r q : Result} → Typed [] e A → TakesSteps v e l r → TakesSteps v e l q → r ≡ q
runs_unique {v} {e} {l = l} t x y =
    elim (is_spent x.stop) [
      | no n ↦ same_result v (only_one t) final x y (le_refl l) n
      | yes p ↦ elim (is_spent y.stop) [
        | no n ↦ sym (same_result v (only_one t) final y x (le_refl l) n)
        | yes k ↦ x.says ∙ end_result_alike v (p ∙ sym k) steps (same_mark v (only_one t) final x y (le_refl l) steps) term ∙ sym y.says
      ]
    ]
  where
    steps : x.steps ≡ y.steps
    steps = omega (arith, lesser_steps v (only_one t) final x y (le_refl l), y.taken)

    term : x.term ≡ y.term
    term = only_one t x.steps x.term y.term x.reached (subst⁻¹ (λ (n : ℕ). Reaches (half_of v) n e y.term) steps y.reached)

-- Demand 2 fixes what an engine says of accepted books, so the theorem of the calculus gives demand 3.
module _ (E : Engine) (d : Demand2 E) (b : List ℕ) (bytes : IsBytes b) (a : Accepts E b) where
  well_typed : WellFormed b × ((A : Ty) × Typed [] (root_term b) A)
  well_typed = (d b bytes).accepts.0 a

  book_accepted : (n : ℕ) (f : Term) → Reaches (half_of (version_of b)) n (root_term b) f → size f ≤ size_limit → (w : List ℕ) → IsWork w →
      (m : ℕ) × ((E.check (term_book (version_of b) f) w).answer ≡ accepted m)
  book_accepted n f r h w k =
      let v = version_of b in
      let fits = reaches_fits (half_of v) (half_positive v) (le_refl (half_of v)) r (root_term_fits b bytes well_typed.0) in
      let l : TermRoundTrip v f = term_round_trip v f fits h in
      let t = (sound well_typed.1.1 n f r).typed in
      let u : Typed [] (root_term (term_book v f)) t.0 = subst⁻¹ (λ (x : Term). Typed [] x t.0) l.decodes t.1 in
      (_, ap (λ (x : Result). x.answer) ((d (term_book v f) l.bytes).shows t.0 l.well_formed u w k))

  runs_of : (w : List ℕ) (l : ℕ) → IsWork w → IsLimit l → TakesSteps (version_of b) (root_term b) l (E.run b w l)
  runs_of = (d b bytes).runs a

  pub demand3_for : Demand3For E b
  demand3_for =
      record {
        only = only_one well_typed.1.1;
        ends = λ n f r. (sound well_typed.1.1 n f r).ends;
        typed = λ n f r. let p = (sound well_typed.1.1 n f r).typed in (well_typed.1.0, p.0, well_typed.1.1, p.1, p.2);
        book = book_accepted;
        encodes = λ w l k h. let x = runs_of w l k h in (x.stop, x.steps, x.mark, x.term, x.reached, x.says);
        agree = λ w v l m j k h i. runs_agree well_typed.1.1 (runs_of w l j h) (runs_of v m k i);
      }

pub demand3_from_2 : (E : Engine) → Demand2 E → Demand3 E
demand3_from_2 E d b bytes a = demand3_for E d b bytes a

-- The definitions.
pub outcome : (b w : List ℕ) (g : Ty → Result) (A : Ty) → IsWork w → WellFormed b → Typed [] (root_term b) A → judge b w g ≡ g A
unfolding after_form after_typing
outcome b w g A k f t = in_work b w g k ∙ rw ((form_finding_says b).1 f) (rw ((infer_says [] (root_term b) A).1 t))

-- a book is well-formed and typed, or refused whatever is answered for a type
abbrev Judged : List ℕ → Type 0
Judged b =
    (WellFormed b × ((A : Ty) × Typed [] (root_term b) A))
    ⊎ ((n : ℕ) × (i : ℕ) × ((g : Ty → Result) → after_form b g (form_finding b) ≡ refusal_result n i))

judged : (b : List ℕ) → Judged b
unfolding after_form after_typing
judged b = form (form_finding b) refl
  where
    typing : (x : Found) → form_finding b ≡ none → infer [] (root_term b) ≡ x → Judged b
    typing (found A) f e = inl ((form_finding_says b).0 f, (A, (infer_says [] (root_term b) A).0 e))
    typing (Infer.refused r p) f e = inr (reason_number r, follow b (root_of b) p, λ g. rw f (rw e))

    form : (x : Option Finding) → form_finding b ≡ x → Judged b
    form none f = typing (infer [] (root_term b)) f refl
    form (some y) f = inr (fault_number y.fault, y.cell, λ g. rw f)

pub work_at_hand : IsWork (zeros work_length)
unfolding zeros
work_at_hand = length-replicate {A = ℕ} work_length 0

pub refused_accepted : (m i n : ℕ) → refused m i ≢ accepted n
refused_accepted m i n h = clash cc

-- a check that accepts met no row
accepts_typed : (b : List ℕ) → Accepts definition b → Judged b → WellFormed b × ((A : Ty) × Typed [] (root_term b) A)
unfolding check refusal_result
accepts_typed b a (inl t) = t
accepts_typed b a (inr x) =
    absurd
    (refused_accepted x.0 x.1 a.size
    (sym (ap (λ (y : Result). y.answer) (in_work b a.work (shown (version_of b)) a.is_work ∙ x.2 (shown (version_of b)))) ∙ a.answers))

pub typed_accepts : (b : List ℕ) → WellFormed b × ((A : Ty) × Typed [] (root_term b) A) → Accepts definition b
unfolding check shown
typed_accepts b t =
    record {
      work = zeros work_length;
      is_work = work_at_hand;
      size = size_type t.1.0;
      answers = ap (λ (y : Result). y.answer) (outcome b (zeros work_length) (shown (version_of b)) t.1.0 work_at_hand t.0 t.1.1);
    }

-- the executable run from the root
pub root_ran : (b : List ℕ) (l : ℕ) {A : Ty} → IsBytes b → WellFormed b → Typed [] (root_term b) A → Ran (half_of (version_of b)) (root_term b) l (ending b l)
root_ran b l bytes f t =
    let h = half_of (version_of b) in
    subst (λ (n : ℕ). Ran h (root_term b) n (ending b l)) (zero-add l) (ran h t l 0 (size (root_term b)) (root_term b) (so_far_first h t (root_term_small b bytes f)))

pub definition_runs : (b w : List ℕ) (l : ℕ) → IsBytes b → IsWork w → Accepts definition b → TakesSteps (version_of b) (root_term b) l (run b w l)
unfolding run end_result
definition_runs b w l bytes k a =
    let t = accepts_typed b a (judged b) in
    let r : Ran (half_of (version_of b)) (root_term b) l (ending b l) = root_ran b l bytes t.0 t.1.1 in
    record {
      stop = _;
      steps = _;
      mark = _;
      term = _;
      says = outcome b w (reported b l) t.1.0 k t.0 t.1.1;
      taken = r.taken;
      reached = r.reached;
      small = r.small;
      greatest = r.greatest;
      why = r.why;
    }

-- whatever is answered for a type, a book that is refused is refused alike
refused_alike : (b w : List ℕ) (g h : Ty → Result) → after_form b g (form_finding b) ≡ after_form b h (form_finding b) → judge b w g ≡ judge b w h
unfolding judge
refused_alike b w g h e = go (eqb (length w) work_length)
  where
    go : (x : Bool) →
        ◌≡◌ {A = Result} (elim x [ true ↦ after_form b g (form_finding b) | false ↦ result (refused 1 0) w ])
        (elim x [ true ↦ after_form b h (form_finding b) | false ↦ result (refused 1 0) w ])
    go true = e
    go false = refl

definition_refuses : (b w : List ℕ) (l : ℕ) → Judged b → ¬ Accepts definition b → run b w l ≡ check b w
unfolding run check
definition_refuses b w l (inl t) n = absurd (n (typed_accepts b t))
definition_refuses b w l (inr x) n = refused_alike b w (reported b l) (shown (version_of b)) (x.2 _ ∙ sym (x.2 (shown (version_of b))))

pub demand2 : Demand2 definition
unfolding check shown
demand2 b bytes =
    record {
      accepts = ((λ a. accepts_typed b a (judged b)), typed_accepts b);
      shows = λ A f t w k. outcome b w (shown (version_of b)) A k f t;
      runs = λ a w l k h. definition_runs b w l bytes k a;
      refuses = λ n w l h. definition_refuses b w l (judged b) n;
    }

pub demand3 : Demand3 definition
demand3 = demand3_from_2 definition demand2
