-- An engine that obeys demand 2 ignores the order in which the parts of a value are listed. Assumes nothing.
use Prim.Native.Nat.{ℕ}
use mathlib.Core.Path.{◌≡◌, refl, sym, ◌∙◌, ap, ap₂}
use mathlib.Core.Logic.{◌↔◌, ◌≢◌}
use mathlib.Core.List.{List, []}
use native.Mathlib.Omega.{arith}
use lib.Dec.{lit<}
use lib.IntN.{ℤ}
use Rattle.calculus.specs.Syntax.{Ty, int, inter, field, size_type, Term, lit, anno, merge, rcd, v_lit, v_merge, v_rcd}
use Rattle.calculus.specs.Typing.{HasType}
use Rattle.calculus.specs.Step.{r_zero}
use Rattle.calculus.specs.Order.{swapped, to_right}
use Rattle.format.specs.declared.Version.{Version}
use Rattle.format.specs.Version.{half_of}
use Rattle.format.specs.Cell.{IsBytes}
use Rattle.format.specs.Terms.{TermFits}
use Rattle.format.specs.Book.{WellFormed, version_of, root_term, term_book}
use Rattle.format.proofs.Tests.{root_term_fits}
use Rattle.answers.specs.Answer.{accepted, steps_of, Result, result}
use Rattle.answers.specs.Engine.{Engine, IsWork, IsLimit, padded}
use Rattle.answers.specs.Definition.{run, reported}
use Rattle.answers.specs.Demands.{Accepts, TakesSteps, Demand2}
use Rattle.answers.specs.Order.{Values, UnderOneType, under_one_type, Books, SameReading, IgnoresOrder, StepNeeded}
pub use Rattle.answers.proofs.OrderRuns.{annotated_typed}
use Rattle.answers.proofs.OrderRuns.{values_sym, annotated_sym, same, values_typed, annotated_size, encoded_alike, alike, after, before}
use Rattle.answers.specs.Samples.{number_first_read, record_first_read, grouped_left, grouped_right}
use Rattle.answers.proofs.AllSamples.{computing}
use Rattle.answers.proofs.Demands.{clash, outcome}
use Rattle.answers.proofs.Impostors.{Accepted, is_bytes, computed, demand2_determines}

-- ---- two runs, by whatever engines

module _ {u v : Version} {e f : Term} {l : ℕ} {x y : Result} (p : UnderOneType e f) (t : HasType [] e) (one : TakesSteps u e l x) (two : TakesSteps v f l y) where
  pub same_reading : TermFits (half_of u) e → TermFits (half_of v) f → SameReading u v e f x y
  same_reading fits fits-other =
      record {
        answer = alike p t one two;
        stepped = after p t one two;
        unstepped = before p t one two;
        differ = λ n q d z.
            let (g, h) = before p t one two n in
            let k : padded (term_book v e) ≡ padded (term_book v f) = rw q at (sym g ∙ z ∙ h) in
            d (encoded_alike v e f (rw (← q) fits) fits-other (one.small 0 e (omega arith) r_zero) (annotated_size p) k);
      }

-- ---- the promise

-- of two books that are accepted together, if a type of either root gives one of the other
module _ (E : Engine) (d : Demand2 E) where
  accepted_typed : (b : List ℕ) → IsBytes b → Accepts E b → HasType [] (root_term b)
  accepted_typed b y a = ((d b y).accepts.0 a).1

  accepted_too : (b c : List ℕ) → IsBytes b → IsBytes c → WellFormed c → (HasType [] (root_term b) → HasType [] (root_term c)) → Accepts E b → Accepts E c
  accepted_too b c y z g f a = (d c z).accepts.1 (g, f (accepted_typed b y a))

  accepted_together : {R : Term → Term → Type 0} {b c : List ℕ} → Books R b c → (HasType [] (root_term b) → HasType [] (root_term c)) →
      (HasType [] (root_term c) → HasType [] (root_term b)) → Accepts E b ↔ Accepts E c
  accepted_together {b = b} {c = c} p f g = (
    accepted_too b c p.bytes.0 p.bytes.1 p.formed.1 f,
    accepted_too c b p.bytes.1 p.bytes.0 p.formed.0 g,
  )

  accepts_values : (b c : List ℕ) → Books Values b c → Accepts E b ↔ Accepts E c
  accepts_values b c p = accepted_together p (values_typed p.roots) (values_typed (values_sym p.roots))

  accepts_annotated : (b c : List ℕ) → Books UnderOneType b c → Accepts E b ↔ Accepts E c
  accepts_annotated b c p = accepted_together p (annotated_typed p.roots) (annotated_typed (annotated_sym p.roots))

  -- what a check answers of a book with a type
  shown_size : (b w : List ℕ) → IsBytes b → WellFormed b → IsWork w → (t : HasType [] (root_term b)) → (E.check b w).answer ≡ accepted (size_type t.0)
  shown_size b w y g j t = ap (λ (r : Result). r.answer) ((d b y).shows t.0 g t.1 w j)

  same_answer : (b c : List ℕ) → Books Values b c → Accepts E b → (w x : List ℕ) → IsWork w → IsWork x → (E.check b w).answer ≡ (E.check c x).answer
  same_answer b c p a w x j k =
      let t = accepted_typed b p.bytes.0 a in
      let u = values_typed p.roots t in
      shown_size b w p.bytes.0 p.formed.0 j t ∙ ap accepted ((same p.roots t).types t.0 u.0 t.1 u.1).2
      ∙ sym (shown_size c x p.bytes.1 p.formed.1 k u)

  pub ignores_order : IgnoresOrder E
  ignores_order =
      record {
        accepts = accepts_values;
        answers = same_answer;
        together = accepts_annotated;
        runs = λ b c p a w x l j k i. same_reading p.roots (accepted_typed b p.bytes.0 a)
            ((d b p.bytes.0).runs a w l j i) ((d c p.bytes.1).runs ((accepts_annotated b c p).0 a) x l k i)
            (root_term_fits b p.bytes.0 p.formed.0) (root_term_fits c p.bytes.1 p.formed.1);
      }

-- ---- the witness

abbrev number_first_type : Ty
number_first_type = inter int (field 1 int)

number_first_accepted : Accepted number_first_read number_first_type
unfolding computing number_first_read is_bytes
number_first_accepted = computed number_first_read _ refl refl refl

record_first_accepted : Accepted record_first_read number_first_type
unfolding computing record_first_read is_bytes
record_first_accepted = computed record_first_read _ refl refl refl

two_orders : UnderOneType (root_term number_first_read) (root_term record_first_read)
unfolding computing number_first_read record_first_read
two_orders = under_one_type ((_, v_merge v_lit (v_rcd v_lit)), swapped)

no_record : {i : ℤ} {l : ℕ} {e f g : Term} {A B : Ty} → anno (merge (lit i) e) A ≢ anno (merge (rcd l f) g) B
no_record h = clash (cc h)

roots_differ : root_term number_first_read ≢ root_term record_first_read
unfolding computing number_first_read record_first_read
roots_differ h = no_record h

one_version : version_of number_first_read ≡ version_of record_first_read
unfolding computing number_first_read record_first_read
one_version = refl

-- the steps of the true run under limits 0 and 1
no_step : steps_of (reported number_first_read 0 number_first_type).answer ≡ 0
unfolding computing number_first_read
no_step = refl

one_step : steps_of (reported number_first_read 1 number_first_type).answer ≡ 1
unfolding computing number_first_read
one_step = refl

books_of : Books UnderOneType number_first_read record_first_read
books_of =
    let a = number_first_accepted in
    let c = record_first_accepted in
    record { bytes = (a.bytes, c.bytes); formed = (a.formed, c.formed); roots = two_orders }

module _ (E : Engine) (d : Demand2 E) where
  number_first_taken : Accepts E number_first_read
  number_first_taken = let a = number_first_accepted in (d number_first_read a.bytes).accepts.1 (a.formed, (_, a.typed))

  -- an engine that obeys demand 2 takes those
  engine_steps : (w : List ℕ) (l : ℕ) → IsWork w → IsLimit l → steps_of (E.run number_first_read w l).answer ≡ steps_of (reported number_first_read l number_first_type).answer
  unfolding run
  engine_steps w l k h =
      let a = number_first_accepted in
      ap (λ (r : Result). steps_of r.answer)
      (demand2_determines a E d w l k h ∙ outcome number_first_read w (reported number_first_read l) number_first_type k a.formed a.typed)

  reading : (w x : List ℕ) (l : ℕ) → IsWork w → IsWork x → IsLimit l →
      SameReading (version_of number_first_read) (version_of record_first_read) (root_term number_first_read) (root_term record_first_read)
      (E.run number_first_read w l) (E.run record_first_read x l)
  reading w x l = (ignores_order E d).runs number_first_read record_first_read books_of number_first_taken w x l

  pub step_needed : StepNeeded E
  step_needed =
      record {
        books = books_of;
        accepted = (number_first_taken, ((ignores_order E d).together number_first_read record_first_read books_of).0 number_first_taken);
        same = λ w x j k.
            let r = reading w x 1 j k (lit< tt) in
            ap₂ result r.answer (r.stepped (λ z. clash (sym z ∙ engine_steps w 1 j (lit< tt) ∙ one_step)) one_version);
        differ = λ w x j k. (reading w x 0 j k (lit< tt)).differ (engine_steps w 0 j (lit< tt) ∙ no_step) one_version roots_differ;
      }

-- ---- the promise asked of (1,,{1=2}),,{2=3} and 1,,({1=2},,{2=3}): accepted together, with the same answer, by the promise alone

grouped_left_accepted : Accepted grouped_left (inter number_first_type (field 2 int))
unfolding computing grouped_left is_bytes
grouped_left_accepted = computed grouped_left _ refl refl refl

grouped_right_accepted : Accepted grouped_right (inter int (inter (field 1 int) (field 2 int)))
unfolding computing grouped_right is_bytes
grouped_right_accepted = computed grouped_right _ refl refl refl

two_groupings : Values (root_term grouped_left) (root_term grouped_right)
unfolding computing grouped_left grouped_right
two_groupings = ((_, v_merge (v_merge v_lit (v_rcd v_lit)) (v_rcd v_lit)), to_right)

grouped_alike : (E : Engine) → IgnoresOrder E → Accepts E grouped_left → (w x : List ℕ) → IsWork w → IsWork x →
    Accepts E grouped_right × ((E.check grouped_left w).answer ≡ (E.check grouped_right x).answer)
grouped_alike E o a w x j k =
    let l = grouped_left_accepted in
    let r = grouped_right_accepted in
    let p : Books Values grouped_left grouped_right = record { bytes = (l.bytes, r.bytes); formed = (l.formed, r.formed); roots = two_groupings } in
    ((o.accepts grouped_left grouped_right p).0 a, o.answers grouped_left grouped_right p a w x j k)
