-- An engine that obeys demand 2 shows the same type of a restamped book and runs it in the same steps, where it has no sum. Assumes nothing.
use Prim.Native.Nat.{ℕ}
use mathlib.Core.Path.{◌≡◌, refl}
use mathlib.Core.List.{List, []}
use native.Mathlib.Omega.{arith}
use lib.IntN.{pos}
use Rattle.calculus.specs.Syntax.{Ty, int, Term, lit}
use Rattle.calculus.specs.Numbers.{NoSum}
use Rattle.calculus.specs.Subtyping.{b_int}
use Rattle.calculus.specs.TypedReduction.{c_lit}
use Rattle.calculus.specs.Typing.{Typed, t_lit, t_sum}
use Rattle.calculus.specs.Step.{s_sum, r_zero, r_suc}
use Rattle.calculus.proofs.Chain.{reaches_unique}
use Rattle.calculus.proofs.WithoutSums.{step_without, reaches_without, reaches_alike}
use Rattle.format.specs.declared.Version.{Version}
use Rattle.format.specs.declared.Version.TheVariants.{One, Two}
use Rattle.format.specs.Version.{half_of}
use Rattle.format.specs.Cell.{IsBytes}
use Rattle.format.specs.Book.{WellFormed, version_of, root_term, term_book}
use Rattle.format.specs.Widths.{mapped_cells, restamp}
use Rattle.format.proofs.Tests.{form_finding_says}
use Rattle.format.proofs.Restamping.{restamp_count, restamp_root, restamp_extends, restamp_version, restamp_bytes, restamp_well_formed, restamp_root_term}
use Rattle.answers.specs.Answer.{Stop, value, spent, room, stopped, Result, result}
use Rattle.answers.specs.Engine.{Engine, IsWork, IsLimit, padded}
use Rattle.answers.specs.Definition.{definition}
use Rattle.answers.specs.Demands.{Accepts, StopsBy, TakesSteps, Demand2}
use Rattle.answers.specs.Restamping.{SameRun, RestampedFor, RestampKeeps}
use Rattle.answers.specs.Samples.{past_upper_end}
use Rattle.answers.proofs.AllSamples.{computing}
use Rattle.answers.proofs.Demands.{runs_unique, typed_accepts}

-- without sums, a run stops for the same reason at every range,
same_why : (h k : ℕ) (s : Stop) (l n : ℕ) (f : Term) → NoSum f → StopsBy h s l n f → StopsBy k s l n f
same_why h k value l n f m w = w
same_why h k spent l n f m w = w
same_why h k room l n f m w = (w.0, w.1, (w.2.0, (step_without m w.2.1).0, w.2.2))

-- so that a run in one version is one in the other, but for its bytes
pub same_steps : {v : Version} {e : Term} {l : ℕ} {r : Result} (u : Version) → NoSum e → (x : TakesSteps v e l r) →
    TakesSteps u e l (result (stopped x.stop x.steps x.mark) (padded (term_book u x.term)))
same_steps {v} {l = l} u m x =
    let r = reaches_without m x.reached in
    let (n, f, i, q, z) = x.greatest.attained in
    record {
      stop = x.stop;
      steps = x.steps;
      mark = x.mark;
      term = x.term;
      says = refl;
      taken = x.taken;
      reached = r.0;
      small = λ n f i q. x.small n f i (reaches_without m q).0;
      greatest = record { bounds = λ n f i q. x.greatest.bounds n f i (reaches_without m q).0; attained = (n, f, i, (reaches_without m q).0, z) };
      why = same_why (half_of v) (half_of u) x.stop l x.steps x.term r.1 x.why;
    }

module _ (E : Engine) (d : Demand2 E) (b : List ℕ) (bytes : IsBytes b) (a : Accepts E b) (one : version_of b ≡ One) (m : NoSum (root_term b)) where
  well_typed : WellFormed b × ((A : Ty) × Typed [] (root_term b) A)
  well_typed = (d b bytes).accepts.0 a

  bytes_too : IsBytes (restamp b)
  bytes_too = restamp_bytes b well_typed.0.formed bytes

  formed_too : WellFormed (restamp b)
  formed_too = restamp_well_formed b bytes well_typed.0 one

  same_root : root_term (restamp b) ≡ root_term b
  same_root = restamp_root_term b bytes well_typed.0 one

  typed_too : (A : Ty) → Typed [] (root_term b) A → Typed [] (root_term (restamp b)) A
  typed_too A t = rw same_root t

  accepts_too : Accepts E (restamp b)
  accepts_too = (d (restamp b) bytes_too).accepts.1 (formed_too, (well_typed.1.0, typed_too well_typed.1.0 well_typed.1.1))

  same_run : (w v : List ℕ) (l : ℕ) → IsWork w → IsWork v → IsLimit l → SameRun E b w v l
  same_run w v l j k i =
      let x : TakesSteps One (root_term b) l (E.run b w l) = rw one at ((d b bytes).runs a w l j i) in
      let y : TakesSteps Two (root_term b) l (E.run (restamp b) v l) =
      rw (restamp_version b, same_root) at ((d (restamp b) bytes_too).runs accepts_too v l k i) in
      record {
        stop = y.stop;
        steps = y.steps;
        mark = y.mark;
        term = y.term;
        reached = (reaches_without m y.reached).0;
        first = runs_unique well_typed.1.1 x (same_steps One m y);
        second = y.says;
      }

  restamped_for : RestampedFor E b
  restamped_for =
      record {
        bytes = bytes_too;
        formed = formed_too;
        version = restamp_version b;
        accepted_too = accepts_too;
        counted = restamp_count b;
        cells = restamp_extends b bytes;
        rooted = restamp_root b;
        root = same_root;
        shows = λ A t w v j k. (
          rw one at ((d b bytes).shows A well_typed.0 t w j),
          rw (restamp_version b) at ((d (restamp b) bytes_too).shows A formed_too (typed_too A t) v k),
        );
        steps = λ n f. rw same_root (reaches_alike m);
        runs = same_run;
      }

pub restamped : (E : Engine) → Demand2 E → RestampKeeps E
restamped E d b bytes a one m = restamped_for E d b bytes a one m

-- With a sum it is otherwise: 2147483647 + 1 is accepted in version 1, and restamped it steps to another number.
sum_accepted : Accepts definition past_upper_end
unfolding computing past_upper_end
sum_accepted = typed_accepts past_upper_end ((form_finding_says past_upper_end).0 refl, (int, t_sum t_lit b_int t_lit b_int))

sum_differs : (E : Engine) → ¬ RestampedFor E past_upper_end
unfolding computing mapped_cells restamp past_upper_end
sum_differs E r =
    let q = (r.steps 1 (lit (pos 2147483647))).0 (r_suc r_zero (s_sum c_lit c_lit)) in
    let z : lit (pos 2147483648) ≡ lit (pos 2147483647) = reaches_unique (t_sum t_lit b_int t_lit b_int) q (r_suc r_zero (s_sum c_lit c_lit)) in
    let n : ◌≡◌ {A = ℕ} 2147483648 2147483647 = cc in
    absurd (omega arith)
