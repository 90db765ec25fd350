-- What the definition of a join answers means what document 02 says, and so does what the call answers. Assumes nothing.
use Prim.Native.Nat.{ℕ, zero, suc, ◌-◌, ◌≤◌, ◌<◌}
use native.Mathlib.Omega.{arith}
use mathlib.Core.Path.{◌≡◌, refl, sym, ap, subst, ◌∙◌}
use mathlib.Core.Logic.{◌≢◌, inl, inr}
use mathlib.Core.List.{List, [], ◌∷◌}
use lib.Dec.{lit<}
use lib.ListN.{length, take}
use lib.Seq.{take_at, drop_at}
use Rattle.calculus.specs.Syntax.{Ty, Term, size_type}
use Rattle.calculus.specs.Typing.{Typed}
use Rattle.format.specs.Cell.{IsBytes}
use Rattle.format.specs.Book.{size_limit, WellFormed, root_term}
use Rattle.format.specs.Joint.{joint_count, joint, JointOf}
use Rattle.format.proofs.Joint.{joint_of}
use Rattle.answers.specs.Answer.{Answer, refused, accepted, Result}
use Rattle.answers.specs.Engine.{work_length, IsWork, zeros}
use Rattle.answers.specs.Definition.{definition, check, refusal_result}
use Rattle.answers.specs.Demands.{Accepts}
use Rattle.answers.proofs.Demands.{clash, demand2, demand3}
use Rattle.answers.proofs.Restamping.{restamped}
use Rattle.answers.proofs.Sheets.{sheets_run}
use Rattle.engine.proofs.Checked.{check_refuses}
use Rattle.joining.specs.declared.Which.{Which}
use Rattle.joining.specs.declared.Which.TheVariants.{Project, Part, Joint}
use Rattle.joining.specs.declared.Joined.{Joined}
use Rattle.joining.specs.Join.{JoinResult, join_answer, lent_length, refusal, written, acceptance, joined}
use Rattle.joining.specs.Joins.{too_large, conflict, JoinRow, buffer, lent, of_project, of_part, full, of_joint, SaidOfJoint, Lent, BothAccepted, Joinable, Owed, Written, Says, Joins}
use Rattle.joining.specs.Stages.{Judged}
use Rattle.joining.proofs.Stages.{Ends, at_buffer, at_lent, at_project, at_part, at_full, at_joint, at_end, ends}
use Rattle.joining.proofs.Stages as Stages
use Rattle.joining.proofs.Refusals.{same_refusal, joint_refused}

-- ---- accepted books

module _ {b : List ℕ} (y : IsBytes b) (w : List ℕ) (k : IsWork w) where
  accepts : {m : ℕ} → (check b w).answer ≡ accepted m → Accepts definition b
  accepts {m} e = record { work = w; is_work = k; size = m; answers = e }

  typed : {m : ℕ} → (check b w).answer ≡ accepted m → WellFormed b × ((A : Ty) × Typed [] (root_term b) A)
  typed e = (demand2 b y).accepts.0 (accepts e)

  passes : (A : Ty) → WellFormed b → Typed [] (root_term b) A → (check b w).answer ≡ accepted (size_type A)
  passes A f t = ap (λ (r : Result). r.answer) ((demand2 b y).shows A f t w k)

  pub accepted_here : Accepts definition b → (m : ℕ) × ((check b w).answer ≡ accepted m)
  accepted_here a = let t = (demand2 b y).accepts.0 a in (size_type t.1.0, passes t.1.0 t.0 t.1.1)

owed : {b : List ℕ} → IsBytes b → Accepts definition b → Owed b
owed {b} y a =
    record {
      bytes = y;
      accepts = a;
      demand2 = demand2 b y;
      demand3 = demand3 b y a;
      restamped = restamped definition demand2 b y a;
      sheet = sheets_run definition demand2 b y a;
    }

pub take_bytes : (n : ℕ) (l : List ℕ) → IsBytes l → IsBytes (take n l)
take_bytes zero l y i = lit< tt
take_bytes (suc n) [] y i = lit< tt
take_bytes (suc n) (x ∷ l) y zero = y zero
take_bytes (suc n) (x ∷ l) y (suc i) = take_bytes n l (λ j. y (suc j)) i

-- ---- the definition

-- what is promised of the result x
record Meant (l : List ℕ) (n : ℕ) (q w : List ℕ) (x : JoinResult) : Type 0 where
  refuses : (m i : ℕ) → x.answer ≡ refused m i → JoinRow l n q w x.which m i
  untouched : (m i : ℕ) → x.answer ≡ refused m i → (x.lent ≡ l) × (x.bytes ≡ 0)
  kept : (i : ℕ) → x.answer ≡ refused 1 i → x.left ≡ w
  zeroed : (m i : ℕ) → m ≢ 1 → x.answer ≡ refused m i → x.left ≡ zeros work_length
  writes : (m : ℕ) → x.answer ≡ accepted m → (x.which ≡ Joint) × Lent l n w × JointOf (take n l) q × Written (joint (take n l) q) w x.lent x.left m x.bytes
  joinable : (m : ℕ) → x.answer ≡ accepted m → Joinable (take n l) q

module _ (l : List ℕ) (n : ℕ) (q w : List ℕ) where
  refusal_meant : (x : Which) (r : Result) (m i : ℕ) → r.answer ≡ refused m i → JoinRow l n q w x m i → (m ≡ 1 → r.left ≡ w) → (m ≢ 1 → r.left ≡ zeros work_length) →
      Meant l n q w (refusal x l r)
  refusal_meant x r m i e row one other =
      record {
        refuses = λ m' i' e'. same_refusal (JoinRow l n q w x) (sym e ∙ e') row;
        untouched = λ m' i' e'. (refl, refl);
        kept = λ i' e'. let z : refused m i ≡ refused 1 i' = sym e ∙ e' in one cc;
        zeroed = λ m' i' u e'. let z : refused m i ≡ refused m' i' = sym e ∙ e' in other (λ o. let a : m ≡ m' = cc in u (sym a ∙ o));
        writes = λ m' e'. let z : refused m i ≡ accepted m' = sym e ∙ e' in absurd (clash cc);
        joinable = λ m' e'. let z : refused m i ≡ accepted m' = sym e ∙ e' in absurd (clash cc);
      }

  -- 2 for the lengths, and 16
  plain_meant : (x : Which) (m i : ℕ) → m ≢ 1 → JoinRow l n q w x m i → Meant l n q w (refusal x l (refusal_result m i))
  unfolding refusal_result
  plain_meant x m i u row = refusal_meant x (refusal_result m i) m i refl row (λ o. absurd (u o)) (λ _. refl)

  -- a check's
  check_meant : (x : Which) (b : List ℕ) → IsBytes b → (m i : ℕ) → (check b w).answer ≡ refused m i → JoinRow l n q w x m i → Meant l n q w (refusal x l (check b w))
  check_meant x b y m i e row = let f = check_refuses b w y m i e in refusal_meant x (check b w) m i e row f.untouched f.zeroed

  both : IsBytes l → IsBytes q → Lent l n w → {a b : ℕ} → (check (take n l) w).answer ≡ accepted a → (check q w).answer ≡ accepted b → BothAccepted (take n l) q
  both yl yq k f g = record { project = accepts (take_bytes n l yl) w k.work f; part = accepts yq w k.work g }

  module _ (yl : IsBytes l) (yq : IsBytes q) (k : Lent l n w) {a b : ℕ} (f : (check (take n l) w).answer ≡ accepted a) (g : (check q w).answer ≡ accepted b)
      (h : joint_count (take n l) q ≤ size_limit) where
    pub joint_is : JointOf (take n l) q
    joint_is = joint_of (take n l) q (take_bytes n l yl) yq (typed (take_bytes n l yl) w k.work f).0 (typed yq w k.work g).0 h

    joint_meant : (m i : ℕ) → (check (joint (take n l) q) w).answer ≡ refused m i → Meant l n q w (refusal Joint l (check (joint (take n l) q) w))
    joint_meant m i e =
        let s = typed (take_bytes n l yl) w k.work f in
        let t = typed yq w k.work g in
        check_meant Joint (joint (take n l) q) joint_is.bytes m i e (of_joint k (both yl yq k f g) h (joint_refused joint_is s.1.1 t.1.1 w k.work m i e))

    end_joinable : {m : ℕ} → (check (joint (take n l) q) w).answer ≡ accepted m → Joinable (take n l) q
    end_joinable e =
        let t = typed joint_is.bytes w k.work e in
        record {
          project = typed (take_bytes n l yl) w k.work f;
          part = typed yq w k.work g;
          few = h;
          small = omega (arith, t.0.small, joint_is.sized);
          typed = (t.1.0, subst (λ (x : Term). Typed [] x t.1.0) joint_is.opens t.1.1);
        }

    end_written : {m : ℕ} → (check (joint (take n l) q) w).answer ≡ accepted m →
        Written (joint (take n l) q) w (written (joint (take n l) q)) (check (joint (take n l) q) w).left m (length (joint (take n l) q))
    unfolding written
    end_written e =
        record {
          bytes = refl;
          joint = take_at (joint (take n l) q) (zeros (lent_length - length (joint (take n l) q))) _ refl;
          rest = drop_at (joint (take n l) q) (zeros (lent_length - length (joint (take n l) q))) _ refl;
          answer = e;
          left = refl;
          owed = owed joint_is.bytes (accepts joint_is.bytes w k.work e);
        }

    end_meant : (m : ℕ) → (check (joint (take n l) q) w).answer ≡ accepted m → Meant l n q w (acceptance (joint (take n l) q) (check (joint (take n l) q) w))
    end_meant m e =
        record {
          refuses = λ m' i' e'. let z : accepted m ≡ refused m' i' = sym e ∙ e' in absurd (clash cc);
          untouched = λ m' i' e'. let z : accepted m ≡ refused m' i' = sym e ∙ e' in absurd (clash cc);
          kept = λ i' e'. let z : accepted m ≡ refused 1 i' = sym e ∙ e' in absurd (clash cc);
          zeroed = λ m' i' u e'. let z : accepted m ≡ refused m' i' = sym e ∙ e' in absurd (clash cc);
          writes = λ m' e'. (refl, k, joint_is, end_written e');
          joinable = λ m' e'. end_joinable e';
        }

  meant : IsBytes l → IsBytes q → {x : JoinResult} → Ends l n q w x → Meant l n q w x
  meant yl yq (at_buffer h) = refusal_meant Joint _ 1 0 refl (buffer h) (λ _. refl) (λ u. absurd (u refl))
  meant yl yq (at_lent k h) = plain_meant Project 2 0 (λ o. absurd (omega (arith, o))) (lent k h)
  meant yl yq (at_project {m} {i} k e) =
      check_meant Project (take n l) (take_bytes n l yl) m i e (of_project k (check_refuses (take n l) w (take_bytes n l yl) m i e).row)
  meant yl yq (at_part {m = m} {i} k f e) = check_meant Part q yq m i e (of_part k (accepts (take_bytes n l yl) w k.work f) (check_refuses q w yq m i e).row)
  meant yl yq (at_full k f g h) = plain_meant Joint 16 0 (λ o. absurd (omega (arith, o))) (full k (both yl yq k f g) h)
  meant yl yq (at_joint {m = m} {i} k f g h e) = joint_meant yl yq k f g h m i e
  meant yl yq (at_end {m = m} k f g h e) = end_meant yl yq k f g h m e

-- what the rows leave to say of a joint
said_of_joint : {l : List ℕ} {n : ℕ} {q w : List ℕ} {x : Which} {m i : ℕ} → IsWork w → x ≡ Joint → JoinRow l n q w x m i → SaidOfJoint (take n l) q m i
said_of_joint k e (buffer h) = absurd (h k)
said_of_joint k e (lent j h) = absurd (clash cc)
said_of_joint k e (of_project j h) = absurd (clash cc)
said_of_joint k e (of_part j a h) = absurd (clash cc)
said_of_joint k e (full j a h) = inl (refl, refl)
said_of_joint k e (of_joint j a h (too_large o)) = inr (inl refl, refl)
said_of_joint k e (of_joint j a h (conflict o s t u)) = inr (inr refl, refl)

-- a result with bytes is of lent bytes of the right length
bytes_lent : {l : List ℕ} {n : ℕ} {q w : List ℕ} {x : JoinResult} → Ends l n q w x → 0 < x.bytes → Lent l n w
bytes_lent (at_buffer h) o = absurd (omega (arith, o))
bytes_lent (at_lent k h) o = absurd (omega (arith, o))
bytes_lent (at_project k e) o = absurd (omega (arith, o))
bytes_lent (at_part k f e) o = absurd (omega (arith, o))
bytes_lent (at_full k f g h) o = absurd (omega (arith, o))
bytes_lent (at_joint k f g h e) o = absurd (omega (arith, o))
bytes_lent (at_end k f g h e) o = k

-- ---- the call

module _ (l : List ℕ) (n : ℕ) (q w : List ℕ) {v : List ℕ} {r : Joined} (j : Judged v r (joined l n q w)) where
  -- where there is a joint to write, what is lent has the lengths that are asked for
  pub lent_here : 0 < r.bytes → Lent l n w
  lent_here h = bytes_lent (ends l n q w) (rw j.bytes at h)

  answers : {m i : ℕ} {x : Which} {y : Result} → joined l n q w ≡ refusal x l y → y.answer ≡ refused m i → Says r x m i
  answers p e =
      record {
        which = j.which ∙ ap (λ (z : JoinResult). z.which) p;
        answer = j.answer ∙ ap (λ (z : JoinResult). z.answer) p ∙ e;
      }

  of_the_joint : {x : JoinResult} → joined l n q w ≡ x → {y : Answer} → x.which ≡ Joint → x.answer ≡ y → (r.which ≡ Joint) × (join_answer r.answer ≡ y)
  of_the_joint p a b = (j.which ∙ ap (λ (z : JoinResult). z.which) p ∙ a, j.answer ∙ ap (λ (z : JoinResult). z.answer) p ∙ b)

  module _ (yl : IsBytes l) (yq : IsBytes q) where
    yp : IsBytes (take n l)
    yp = take_bytes n l yl

    means : Meant l n q w (joined l n q w)
    means = meant l n q w yl yq (ends l n q w)

    joint_last : Lent l n w → BothAccepted (take n l) q → joint_count (take n l) q ≤ size_limit →
        JointOf (take n l) q × (r.which ≡ Joint) × (join_answer r.answer ≡ (check (joint (take n l) q) w).answer)
    joint_last k a h =
        let f = (accepted_here yp w k.work a.project).1 in
        let g = (accepted_here yq w k.work a.part).1 in
        let j = joint_is l n q w yl yq k f g h in
        elim (Stages.verdict (joint (take n l) q) w) [
          | Stages.turned e ↦ let o = of_the_joint (Stages.joint_refused l n q w k f g h e) refl refl in (j, o.0, o.1)
          | Stages.passed e ↦ let o = of_the_joint (Stages.joint_accepted l n q w k f g h e) refl refl in (j, o.0, o.1)
        ]

    row_of_lem : (m i : ℕ) → join_answer r.answer ≡ refused m i → JoinRow l n q w r.which m i
    row_of_lem m i e = subst (λ (x : Which). JoinRow l n q w x m i) (sym j.which) (means.refuses m i (sym j.answer ∙ e))

    joins_joinable : Lent l n w → Joinable (take n l) q → (m : ℕ) × (join_answer r.answer ≡ accepted m)
    joins_joinable k t =
        let f = passes yp w k.work t.project.1.0 t.project.0 t.project.1.1 in
        let g = passes yq w k.work t.part.1.0 t.part.0 t.part.1.1 in
        let o = joint_of (take n l) q yp yq t.project.0 t.part.0 t.few in
        let s : WellFormed (joint (take n l) q) = record { formed = o.well_formed; term = o.term; small = omega (arith, t.small, o.sized) } in
        let e = passes o.bytes w k.work t.typed.0 s (subst (λ (x : Term). Typed [] x t.typed.0) (sym o.opens) t.typed.1) in
        (_, (of_the_joint (Stages.joint_accepted l n q w k f g t.few e) refl e).1)

    pub joins : {k : List ℕ} → k ≡ (joined l n q w).lent → Joins l k n q w v r
    unfolding refusal_result
    joins {k} z =
        record {
          which = j.which;
          answer = j.answer;
          bytes = j.bytes;
          lent = z;
          left = j.left;
          first = λ h. answers (Stages.no_work l n q w h) refl;
          another_length = λ c h. answers (Stages.not_lent l n q w c h) refl;
          project_first = λ c m i e. answers (Stages.project_refused l n q w c e) e;
          part_second = λ c a m i e. answers (Stages.part_refused l n q w c (accepted_here yp w c.work a).1 e) e;
          full = λ c a h. answers (Stages.books_full l n q w c (accepted_here yp w c.work a.project).1 (accepted_here yq w c.work a.part).1 h) refl;
          joint_last = joint_last;
          refuses = row_of_lem;
          of_joint = λ c m i s. said_of_joint c s.which (row_of_lem m i s.answer);
          untouched = λ m i e. let u = means.untouched m i (sym j.answer ∙ e) in (z ∙ u.0, j.bytes ∙ u.1);
          kept = λ i e. j.left ∙ means.kept i (sym j.answer ∙ e);
          zeroed = λ m i u e. j.left ∙ means.zeroed m i u (sym j.answer ∙ e);
          accepts = λ c. ((λ m. means.joinable m.0 (sym j.answer ∙ m.1)), joins_joinable c);
          writes = λ m e.
              let t = means.writes m (sym j.answer ∙ e) in
              (j.which ∙ t.0, t.1, t.2, rw (z, j.left, j.bytes) t.3);
        }
