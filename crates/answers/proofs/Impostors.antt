-- Which of demands 2 and 3 each impostor breaks, at a witness book, and which it obeys. Assumes nothing.
use Prim.Native.Nat.{ℕ, zero, suc, ◌≤◌, min}
use mathlib.Core.Path.{◌≡◌, refl, sym, ◌∙◌, ap, subst, subst⁻¹}
use mathlib.Core.Bool.{Bool, true, false, ◌&&◌, and-eq-true_iff}
use mathlib.Core.Logic.{◌≢◌}
use mathlib.Core.Option.{none}
use mathlib.Core.List.{List, [], ◌∷◌, ◌++◌}
use native.Mathlib.Decide.{dec_le}
use native.Mathlib.Omega.{arith}
use lib.Dec.{T, ltb, ltb→lt, lit<}
use lib.ListN.{get_or}
use Rattle.calculus.specs.Syntax.{Ty, int, inter, size_type, Term, size, IsValue, v_lit}
use Rattle.calculus.specs.Typing.{Typed}
use Rattle.calculus.specs.Step.{Step, Reaches, r_zero}
use Rattle.calculus.specs.Infer.{conflict, found, infer}
use Rattle.calculus.specs.Infer as Infer
use Rattle.calculus.specs.Decide.{is_value}
use Rattle.calculus.proofs.Chain.{reaches_unique}
use Rattle.calculus.proofs.Soundness.{value_no_step}
use Rattle.calculus.proofs.Inference.{infer_says}
use Rattle.format.specs.Version.{half_of}
use Rattle.format.specs.Cell.{IsBytes}
use Rattle.format.specs.Book.{size_limit, form_finding, WellFormed, version_of, root_term, term_book}
use Rattle.format.proofs.Tests.{form_finding_says}
use Rattle.answers.specs.Answer.{Stop, value, spent, accepted, stopped, steps_of, Result, result}
use Rattle.answers.specs.Engine.{Engine, work_length, IsWork, IsLimit, zeros, padded}
use Rattle.answers.specs.Exported.{second_of}
use Rattle.answers.specs.Definition.{definition, run, refusal_result, end_result, Ended, ending}
use Rattle.answers.specs.Demands.{Accepts, Demand2, Demand3For, Demand3}
use Rattle.answers.specs.Impostors.{posing, at_most_one, hurried, early, figured, invented_steps, marked, invented_mark, repeating, repeats_first, returns_book, fixed_reply}
use Rattle.answers.specs.Impostors.{RefusesAll, one_refusal, Impostors}
use Rattle.answers.specs.Samples.{line, equal_numbers, unequal_numbers, twice_read}
use Rattle.answers.proofs.Reaching.{onward}
use Rattle.answers.proofs.Running.{Ran, evaluate_value, evaluate_spent}
use Rattle.answers.proofs.Demands.{clash, runs_unique, outcome, work_at_hand, refused_accepted, typed_accepts, root_ran, demand2, demand3}
use Rattle.answers.proofs.AllSamples.{computing}

-- ---- the witnesses

-- a book that is accepted, with the type that is shown
pub record Accepted (b : List ℕ) (A : Ty) : Type 0 where
  pub bytes : IsBytes b
  pub formed : WellFormed b
  pub typed : Typed [] (root_term b) A

unfoldable pub is_bytes : List ℕ → Bool
is_bytes [] = true
is_bytes (n ∷ s) = ltb n 256 && is_bytes s

all_bytes : (s : List ℕ) → is_bytes s ≡ true → IsBytes s
unfolding is_bytes
all_bytes [] h i = lit< tt
all_bytes (n ∷ s) h zero = ltb→lt n 256 (subst⁻¹ T ((and-eq-true_iff (ltb n 256) (is_bytes s)).0 h).0 tt)
all_bytes (n ∷ s) h (suc i) = all_bytes s ((and-eq-true_iff (ltb n 256) (is_bytes s)).0 h).1 i

-- three computations
pub computed : (b : List ℕ) (A : Ty) → is_bytes b ≡ true → form_finding b ≡ none → infer [] (root_term b) ≡ found A → Accepted b A
computed b A h f t = record { bytes = all_bytes b h; formed = (form_finding_says b).0 f; typed = (infer_says [] (root_term b) A).0 t }

-- 1 annotated with Int: 1 after 1 step
annotated : List ℕ
annotated = line 17 0 0 0 1 0 0 0 ++ line 1 0 0 0 0 0 0 0 ++ line 19 0 0 0 1 0 0 0 ++ line 240 1 3 0 2 0 0 0

annotated_accepted : Accepted annotated int
unfolding computing annotated is_bytes
annotated_accepted = computed annotated int refl refl refl

-- a top value that the root does not reach, then the root 1
unreached : List ℕ
unreached = line 18 0 0 0 0 0 0 0 ++ line 17 0 0 0 1 0 0 0 ++ line 240 1 2 0 1 0 0 0

unreached_accepted : Accepted unreached int
unfolding computing unreached is_bytes
unreached_accepted = computed unreached int refl refl refl

-- the sample "1 under Int and Int, then Int": 1 after 2 steps
twice_read_accepted : Accepted twice_read int
unfolding computing twice_read is_bytes
twice_read_accepted = computed twice_read int refl refl refl

-- the sample "1 merged with 1"
equal_accepted : Accepted equal_numbers (inter int int)
unfolding computing equal_numbers is_bytes
equal_accepted = computed equal_numbers (inter int int) refl refl refl

-- the sample "1 merged with 2", which has no type
unequal_bytes : IsBytes unequal_numbers
unfolding is_bytes unequal_numbers
unequal_bytes = all_bytes unequal_numbers refl

unequal_untyped : (A : Ty) → ¬ Typed [] (root_term unequal_numbers) A
unfolding computing unequal_numbers
unequal_untyped A t = let p : Infer.refused conflict [] ≡ found A = (infer_says [] (root_term unequal_numbers) A).1 t in clash (cc p)

-- ---- what the demands leave to an engine

module _ {b : List ℕ} {A : Ty} (a : Accepted b A) where
  true_accepts : Accepts definition b
  true_accepts = typed_accepts b (a.formed, (A, a.typed))

  -- Demand 2 leaves nothing of an accepted book's run open: it is the definitions' run.
  pub demand2_determines : (E : Engine) → Demand2 E → (w : List ℕ) (l : ℕ) → IsWork w → IsLimit l → E.run b w l ≡ run b w l
  demand2_determines E d w l k h =
      let e : Accepts E b = (d b a.bytes).accepts.1 (a.formed, (A, a.typed)) in
      runs_unique a.typed ((d b a.bytes).runs e w l k h) ((demand2 b a.bytes).runs true_accepts w l k h)

  true_ran : (l : ℕ) → Ran (half_of (version_of b)) (root_term b) l (ending b l)
  true_ran l = root_ran b l a.bytes a.formed a.typed

  -- the only term after the steps of a true run is its last
  true_term : (l : ℕ) {f : Term} → Reaches (half_of (version_of b)) (ending b l).steps (root_term b) f → f ≡ (ending b l).term
  true_term l r = reaches_unique a.typed (true_ran l).reached r

  -- and past a value there is none
  no_further : (l : ℕ) {n : ℕ} {f : Term} → IsValue (ending b l).term → Reaches (half_of (version_of b)) n (root_term b) f → n ≤ (ending b l).steps
  no_further l {n} v r =
      elim (dec_le n (ending b l).steps) [
        | yes h ↦ h
        | no u ↦
            let o = onward r (ending b l).steps (omega arith) in
            absurd (value_no_step v.1 (subst (λ (e : Term). Step (half_of (version_of b)) e o.1) (true_term l o.2) o.3))
      ]

-- ---- engines that check and refuse truly; the definitions are such an engine

posing_true : posing (λ b l. end_result (version_of b) (ending b l)) ≡ definition
unfolding posing run
posing_true = refl

module _ (g : List ℕ → ℕ → Result) {b : List ℕ} {A : Ty} (a : Accepted b A) where
  posing_accepts : Accepts (posing g) b
  unfolding posing
  posing_accepts =
      let t = true_accepts a in
      record { work = t.work; is_work = t.is_work; size = t.size; answers = t.answers }

  posing_runs : (w : List ℕ) (l : ℕ) → IsWork w → (posing g).run b w l ≡ g b l
  unfolding posing
  posing_runs w l k = outcome b w (λ A. g b l) A k a.formed a.typed

  -- demand 2: g gives the true run's answer
  posing_2 : Demand2 (posing g) → (l : ℕ) → IsLimit l → (g b l).answer ≡ (end_result (version_of b) (ending b l)).answer
  unfolding run
  posing_2 d l h =
      let w = zeros work_length in
      let true-run = outcome b w (λ A. end_result (version_of b) (ending b l)) A work_at_hand a.formed a.typed in
      ap (λ (r : Result). r.answer) (sym (posing_runs w l work_at_hand) ∙ demand2_determines a (posing g) d w l work_at_hand h ∙ true-run)

  -- demand 3: g encodes the term reached after the steps that it reports;
  posing_3 : Demand3 (posing g) → (l : ℕ) → IsLimit l →
      (s : Stop) × (n : ℕ) × (m : ℕ) × (f : Term) × Reaches (half_of (version_of b)) n (root_term b) f × (g b l ≡ result (stopped s n m) (padded (term_book (version_of b) f)))
  posing_3 d l h =
      let w = zeros work_length in
      let x = (d b a.bytes posing_accepts).encodes w l work_at_hand h in
      (x.0, x.1, x.2, x.3, x.4, sym (posing_runs w l work_at_hand) ∙ x.5)

  -- which is the last term of the true run of as many
  posing_encodes : Demand3 (posing g) → (l m : ℕ) → IsLimit l → steps_of (g b l).answer ≡ (ending b m).steps →
      (g b l).left ≡ padded (term_book (version_of b) (ending b m).term)
  posing_encodes d l m h q =
      let x = posing_3 d l h in
      let n : x.1 ≡ (ending b m).steps = sym (ap (λ (r : Result). steps_of r.answer) x.5) ∙ q in
      let r : Reaches (half_of (version_of b)) (ending b m).steps (root_term b) x.3 = rw n at x.4 in
      ap (λ (r : Result). r.left) x.5 ∙ ap (λ (f : Term). padded (term_book (version_of b) f)) (true_term a m r)

-- ---- `room` or `spent` early

-- 1 annotated with Int is a value after one step: neither room nor steps were wanting
early_breaks_2 : (s : Stop) → s ≢ value → ¬ Demand2 (early s)
unfolding early at_most_one hurried computing annotated
early_breaks_2 s n d = let p : stopped s 1 3 ≡ stopped value 1 3 = posing_2 _ annotated_accepted d 1 (lit< tt) in n (cc p)

module _ (s : Stop) {b : List ℕ} {A : Ty} (a : Accepted b A) where
  -- the true run behind it
  abbrev behind : ℕ → Ended
  behind l = ending b (at_most_one l)

  early_runs : (w : List ℕ) (l : ℕ) → IsWork w → (early s).run b w l ≡ end_result (version_of b) (hurried s (behind l))
  unfolding early
  early_runs w l k = posing_runs _ a w l k

  early_lesser : (l m : ℕ) → l ≤ m → (behind l).steps ≡ min l (behind m).steps
  unfolding at_most_one
  early_lesser zero m h = omega (arith, (true_ran a 0).taken)
  early_lesser (suc l) zero h = absurd (omega arith)
  early_lesser (suc l) (suc m) h = omega (arith, (true_ran a 1).taken)

  early_same : (l m : ℕ) → l ≤ m → ((n k : ℕ) → (end_result (version_of b) (hurried s (behind l))).answer ≢ stopped spent n k) →
      end_result (version_of b) (hurried s (behind l)) ≡ end_result (version_of b) (hurried s (behind m))
  unfolding at_most_one end_result hurried
  early_same zero m h n = go (is_value (root_term b)) refl
    where
      go : (v : Bool) → is_value (root_term b) ≡ v → end_result (version_of b) (hurried s (behind 0)) ≡ end_result (version_of b) (hurried s (behind m))
      go true p =
          let k = size (root_term b) in
          rw (evaluate_value (half_of (version_of b)) size_limit 0 0 k (root_term b) p, evaluate_value (half_of (version_of b)) size_limit (at_most_one m) 0 k (root_term b) p)
      go false p = let k = size (root_term b) in absurd (n 0 k (rw (evaluate_spent (half_of (version_of b)) size_limit 0 k (root_term b) p)))
  early_same (suc l) zero h n = absurd (omega arith)
  early_same (suc l) (suc m) h n = refl

-- a book that the definitions accept
accepted_book : {b : List ℕ} → IsBytes b → Accepts definition b → (A : Ty) × Accepted b A
accepted_book {b} bytes a = let t = (demand2 b bytes).accepts.0 a in (t.1.0, record { bytes = bytes; formed = t.0; typed = t.1.1 })

-- whatever reason it gives early, it obeys demand 3
early_obeys_3 : (s : Stop) → Demand3 (early s)
unfolding early posing end_result hurried
early_obeys_3 s b bytes x =
    let y : Accepts definition b = record { work = x.work; is_work = x.is_work; size = x.size; answers = x.answers } in
    let d : Demand3For definition b = demand3 b bytes y in
    let a = (accepted_book bytes y).1 in
    record {
      only = d.only;
      ends = d.ends;
      typed = d.typed;
      book = d.book;
      encodes = λ w l k h. (_, _, _, _, (true_ran a (at_most_one l)).reached, early_runs s a w l k);
      agree = λ w v l m j k h i.
          let p = early_runs s a w l j in
          record {
            lesser = λ q. rw (p, early_runs s a v m k) (early_lesser s a l m q);
            same = λ q u. p ∙ early_same s a l m q (λ n k e. u n k (ap (λ (r : Result). r.answer) p ∙ e)) ∙ sym (early_runs s a v m k);
          };
    }

-- ---- invented steps

-- 1 annotated with Int takes one step: any other figure breaks demand 2
invented_steps_break_2 : (k : ℕ → ℕ → ℕ) → k 1 1 ≢ 1 → ¬ Demand2 (invented_steps k)
unfolding invented_steps figured computing annotated
invented_steps_break_2 k n d = let p : stopped value (k 1 1) 3 ≡ stopped value 1 3 = posing_2 _ annotated_accepted d 1 (lit< tt) in n (cc p)

-- and demand 3: after no steps another term is reached, and after more than one none
invented_steps_break_3 : (k : ℕ → ℕ → ℕ) → k 1 1 ≢ 1 → ¬ Demand3 (invented_steps k)
unfolding invented_steps figured computing annotated
invented_steps_break_3 k n d =
    let x = posing_3 _ annotated_accepted d 1 (lit< tt) in
    let m : k 1 1 ≡ x.1 = ap (λ (r : Result). steps_of r.answer) x.5 in
    let h : x.1 ≤ 1 = no_further annotated_accepted 1 (int, v_lit) x.4 in
    let p : ◌≡◌ {A = ℕ} 240 1 = ap (λ (s : List ℕ). get_or s 8 0) (posing_encodes _ annotated_accepted d 1 0 (lit< tt) (omega arith)) in
    absurd (omega arith)

-- ---- another mark

-- with the definition's it is the definitions' run
true_mark : (b w : List ℕ) (l : ℕ) → (invented_mark (λ b l. (ending b l).mark)).run b w l ≡ definition.run b w l
unfolding invented_mark posing marked run
true_mark b w l = refl

-- demand 2 leaves no other, of any accepted book,
another_mark_breaks_2 : (k : List ℕ → ℕ → ℕ) (b : List ℕ) (l : ℕ) → IsBytes b → Accepts definition b → IsLimit l → k b l ≢ (ending b l).mark → ¬ Demand2 (invented_mark k)
unfolding invented_mark marked end_result
another_mark_breaks_2 k b l bytes x h n d = n (ap second_of (posing_2 _ (accepted_book bytes x).1 d l h))

-- and demand 3 none that differs where the answer is to be the same
two_marks_break_3 : (k : List ℕ → ℕ → ℕ) (b : List ℕ) (l m : ℕ) → IsBytes b → Accepts definition b → IsLimit l → IsLimit m → l ≤ m → (ending b l).stop ≢ spent →
    k b l ≢ k b m → ¬ Demand3 (invented_mark k)
unfolding invented_mark marked end_result
two_marks_break_3 k b l m bytes x h i j u n d =
    let a = (accepted_book bytes x).1 in
    let w = zeros work_length in
    let p = posing_runs false_mark a w l work_at_hand in
    let q = posing_runs false_mark a w m work_at_hand in
    let g = (d b bytes (posing_accepts false_mark a)).agree w w l m work_at_hand work_at_hand h i in
    let e = g.same j (λ c f z. let y : stopped (ending b l).stop (ending b l).steps (k b l) ≡ stopped spent c f = sym (ap (λ (r : Result). r.answer) p) ∙ z in u (cc y)) in
    n (ap (λ (r : Result). second_of r.answer) (sym p ∙ e ∙ q))
  where
    false_mark : List ℕ → ℕ → Result
    false_mark b l = end_result (version_of b) (marked (k b l) (ending b l))

-- ---- the first step, and then that term again

-- "1 under Int and Int, then Int" is a value after two steps, not spent
repeats_first_breaks_2 : ¬ Demand2 repeats_first
unfolding repeats_first repeating at_most_one computing twice_read
repeats_first_breaks_2 d = let p : stopped spent 2 7 ≡ stopped value 2 7 = posing_2 _ twice_read_accepted d 2 (lit< tt) in clash (cc p)

-- and after two steps the term is 1, whose book has its trailer where the repeated one has a cell
repeats_first_breaks_3 : ¬ Demand3 repeats_first
unfolding repeats_first repeating at_most_one computing twice_read
repeats_first_breaks_3 d =
    let p : ◌≡◌ {A = ℕ} 17 240 = ap (λ (s : List ℕ). get_or s 8 0) (posing_encodes _ twice_read_accepted d 2 2 (lit< tt) refl) in
    absurd (omega arith)

-- ---- the book handed back untouched

-- 1 annotated with Int takes a step
returns_book_breaks_2 : ¬ Demand2 returns_book
unfolding returns_book computing annotated
returns_book_breaks_2 d = let p : stopped value 0 3 ≡ stopped value 1 3 = posing_2 _ annotated_accepted d 1 (lit< tt) in clash (cc p)

-- a book with a cell that the root does not reach is not the root encoded
returns_book_breaks_3 : ¬ Demand3 returns_book
unfolding returns_book computing unreached
returns_book_breaks_3 d =
    let p : ◌≡◌ {A = ℕ} 18 17 = ap (λ (s : List ℕ). get_or s 0 0) (posing_encodes _ unreached_accepted d 0 0 (lit< tt) refl) in
    absurd (omega arith)

-- ---- a fixed reply

-- two books have types of two sizes: every fixed reply breaks demand 2
fixed_reply_breaks_2 : (c r : Result) → ¬ Demand2 (fixed_reply c r)
unfolding fixed_reply size_type
fixed_reply_breaks_2 c r d =
    let p : accepted 1 ≡ accepted 3 = sym (size_shown annotated_accepted) ∙ size_shown equal_accepted in
    absurd (omega (arith, accepted_size p))
  where
    size_shown : {b : List ℕ} {A : Ty} → Accepted b A → c.answer ≡ accepted (size_type A)
    size_shown {b} {A} a = ap (λ (r : Result). r.answer) ((d b a.bytes).shows A a.formed a.typed (zeros work_length) work_at_hand)

    accepted_size : {n m : ℕ} → accepted n ≡ accepted m → n ≡ m
    accepted_size h = cc

-- one that accepts, accepts "1 merged with 2", and breaks demand 3
fixed_reply_breaks_3 : (c r : Result) (n : ℕ) → c.answer ≡ accepted n → ¬ Demand3 (fixed_reply c r)
unfolding fixed_reply
fixed_reply_breaks_3 c r n h d =
    let a : Accepts (fixed_reply c r) unequal_numbers = record { work = zeros work_length; is_work = work_at_hand; size = n; answers = h } in
    let t = (d unequal_numbers unequal_bytes a).typed 0 (root_term unequal_numbers) r_zero in
    unequal_untyped t.0 t.2

-- ---- every book refused

-- 1 annotated with Int has a type, and demand 2 has it accepted
refuses_all_breaks_2 : (E : Engine) → RefusesAll E → ¬ Demand2 E
refuses_all_breaks_2 E n d =
    let a = annotated_accepted in
    n annotated ((d annotated a.bytes).accepts.1 (a.formed, (int, a.typed)))

-- demand 3 speaks of accepted books only
refuses_all_obeys_3 : (E : Engine) → RefusesAll E → Demand3 E
refuses_all_obeys_3 E n b bytes a = absurd (n b a)

-- such is the engine that has one refusal for every book
one_refusal_refuses_all : (n i : ℕ) → RefusesAll (one_refusal n i)
unfolding fixed_reply refusal_result
one_refusal_refuses_all n i b a = refused_accepted n i a.size a.answers

pub impostors : Impostors
impostors =
    record {
      early_2 = early_breaks_2;
      early_3 = early_obeys_3;
      invented_2 = invented_steps_break_2;
      invented_3 = invented_steps_break_3;
      mark_true = true_mark;
      mark_2 = another_mark_breaks_2;
      mark_3 = two_marks_break_3;
      repeats_2 = repeats_first_breaks_2;
      repeats_3 = repeats_first_breaks_3;
      returns_book_2 = returns_book_breaks_2;
      fixed_2 = fixed_reply_breaks_2;
      refuses_2 = refuses_all_breaks_2;
      by_one_refusal = one_refusal_refuses_all;
      returns_book_3 = returns_book_breaks_3;
      fixed_3 = fixed_reply_breaks_3;
      refuses_3 = refuses_all_obeys_3;
    }
