-- What the functions behind a join answer is the definition's, stage by stage. Assumes nothing.
use Prim.Native.Nat.{ℕ, zero, suc, ◌+◌, ◌*◌, ◌-◌, ◌≤◌, ◌<◌}
use native.Mathlib.Nat.{zero-add}
use native.Mathlib.Omega.{arith}
use mathlib.Core.Path.{◌≡◌, refl, sym, ap, subst, ◌∙◌}
use mathlib.Core.Logic.{◌≢◌, ◌⊎◌}
use mathlib.Core.List.{List, ◌++◌}
use lib.ListN.{length, take, drop, replicate, length-append, length-replicate}
use lib.Seq.{sets, sets-eq, length-sets, take_at}
use Rattle.format.specs.Cell.{IsBytes}
use Rattle.format.specs.Book.{WellFormed, size_limit, version_of}
use Rattle.format.specs.Joint.{joint_count, joint}
use Rattle.format.proofs.Joint.{joint_of}
use Rattle.answers.specs.Answer.{refused, accepted, Result, result}
use Rattle.answers.specs.Engine.{work_length, IsWork, zeros}
use Rattle.answers.specs.Definition.{check, refusal_result, shown}
use Rattle.answers.specs.Cases.{refusal_answer, check_answer}
use Rattle.answers.specs.declared.Refusal.{Refusal}
use Rattle.answers.specs.declared.Refusal.TheVariants.{Buffer, Length}
use Rattle.answers.specs.declared.CheckOutcome.{CheckOutcome}
use Rattle.answers.specs.declared.CheckOutcome.TheVariants.{Refused as Check-as-Refused, Accepted as Check-as-Accepted}
use Rattle.answers.proofs.Cases.{refusal_number}
use Rattle.answers.proofs.AllSamples.{in_work}
use Rattle.answers.proofs.Demands.{demand2}
use Rattle.engine.specs.Check.{Checked}
use Rattle.joint.specs.Writing.{JointReady, WritesJoint}
use Rattle.joining.specs.declared.Which.{Which}
use Rattle.joining.specs.declared.Which.TheVariants.{Project, Part, Joint}
use Rattle.joining.specs.declared.JoinAnswer.{JoinAnswer}
use Rattle.joining.specs.declared.JoinAnswer.TheVariants.{Accepted, Refused, Full}
use Rattle.joining.specs.declared.Joined.{Joined}
use Rattle.joining.specs.Join.{JoinResult, join_answer, lent_length, refusal, written, joined}
use Rattle.joining.specs.Joins.{Lent}
use Rattle.joining.proofs.Stages as Stages
use Rattle.joining.proofs.Meaning.{take_bytes}
use Rattle.joining.specs.Stages.{RefusesFor, RefusesZeroed, Passes, TurnsDown, JointBuffer, Judged, AcceptsJoint, RefusesJoin}

-- ---- what a check says

-- it is the definition's, with the bytes left
says : {b w v : List ℕ} {o p : CheckOutcome} → Checked b w v o → o ≡ p → check b w ≡ result (check_answer p) v
says {b} {w} {p = p} c e = let z : (check b w).answer ≡ check_answer p = sym c.answer ∙ ap check_answer e in λ i. record { answer = z i; left = sym c.left i }

-- "Each .. work buffer": with 65,536 bytes, what they are makes no difference
pub check_alike : (b w v : List ℕ) → IsWork w → IsWork v → check b w ≡ check b v
unfolding check
check_alike b w v j k = in_work b w (shown (version_of b)) j ∙ sym (in_work b v (shown (version_of b)) k)

-- ---- one book

pub passed : {b w v : List ℕ} {z : CheckOutcome} {n : ℕ} → Checked b w v z → z ≡ Check-as-Accepted n → Passes b w v n
passed c e = record { is = says c e }

pub turned : {x : Which} {b w v : List ℕ} {z : CheckOutcome} {a : Refusal} {r : Joined} → Checked b w v z → z ≡ Check-as-Refused a → RefusesFor x (Refused a) r →
    TurnsDown x b w v r
turned {a = a} c e f = record { reason = a; says = f; is = says c e }

-- with another work buffer
module _ (b w u : List ℕ) {v : List ℕ} (j : IsWork w) (k : IsWork u) where
  passes_too : {n : ℕ} → Passes b u v n → check b w ≡ result (accepted n) v
  passes_too p = check_alike b w u j k ∙ p.is

  accepts_too : {n : ℕ} → Passes b u v n → (check b w).answer ≡ accepted n
  accepts_too p = ap (λ (y : Result). y.answer) (passes_too p)

  module _ {x : Which} {r : Joined} (t : TurnsDown x b u v r) where
    turned_too : check b w ≡ result (refusal_answer t.reason) v
    turned_too = check_alike b w u j k ∙ t.is

    refuses_too : (check b w).answer ≡ refused (refusal_number t.reason).0 (refusal_number t.reason).1
    refuses_too = ap (λ (y : Result). y.answer) turned_too ∙ (refusal_number t.reason).2

    turned_judged : {l : List ℕ} → Judged v r (refusal x l (check b w))
    turned_judged =
        record {
          which = t.says.which;
          answer = ap join_answer t.says.answer ∙ sym (ap (λ (y : Result). y.answer) turned_too);
          bytes = t.says.bytes;
          left = sym (ap (λ (y : Result). y.left) turned_too);
        }

-- an accepted book is well-formed
accepted_formed : {b w v : List ℕ} {n : ℕ} → IsBytes b → IsWork w → Passes b w v n → WellFormed b
accepted_formed {b} {w} {n = n} y k p =
    ((demand2 b y).accepts.0
    (record { work = w; is_work = k; size = n; answers = ap (λ (r : Result). r.answer) p.is })).0

-- ---- the joint

drop_replicate : (k n : ℕ) → drop k (replicate {A = ℕ} n 0) ≡ replicate (n - k) 0
drop_replicate zero n = let e : n ≡ n - 0 = omega arith in ap (λ (i : ℕ). replicate i 0) e
drop_replicate (suc k) zero = let e : 0 ≡ 0 - suc k = omega arith in ap (λ (i : ℕ). replicate i 0) e
drop_replicate (suc k) (suc n) = let e : n - k ≡ suc n - suc k = omega arith in drop_replicate k n ∙ ap (λ (i : ℕ). replicate i 0) e

-- bytes with zeros behind them, up to any length
pub filled_long : (n : ℕ) (b : List ℕ) → length b ≤ n → length (b ++ zeros (n - length b)) ≡ n
unfolding zeros
filled_long n b h = length-append b (replicate {A = ℕ} (n - length b) 0) ∙ omega (arith, h, length-replicate {A = ℕ} (n - length b) 0)

-- bytes over zeros, the rest zero
over_zeros : (n : ℕ) (b : List ℕ) → length b ≤ n → sets (replicate {A = ℕ} n 0) 0 b ≡ b ++ replicate (n - length b) 0
over_zeros n b h =
    let k : 0 + length b ≤ length (replicate {A = ℕ} n 0) = rw length-replicate (omega arith) in
    sets-eq b (replicate {A = ℕ} n 0) 0 k ∙ rw zero-add (ap (λ (x : List ℕ). b ++ x) (drop_replicate (length b) n))

module _ {p q d : List ℕ} (yp : IsBytes p) (yq : IsBytes q) (f : WellFormed p) (g : WellFormed q) (z : JointBuffer d) (h : joint_count p q ≤ size_limit) where
  buffer_long : length d ≡ lent_length
  unfolding zeros
  buffer_long = ap length z.zeros_only ∙ length-replicate {A = ℕ} lent_length 0

  ready : JointReady p q d
  ready = record { project = f; part = g; few = h; room = buffer_long }

  joint_long : length (joint p q) ≡ 8 * (joint_count p q + 1)
  joint_long = (joint_of p q yp yq f g h).long

  module _ {e : List ℕ} {b : ℕ} (m : WritesJoint p q d e b) where
    written_is : e ≡ written (joint p q)
    unfolding written zeros
    written_is =
        m.is ∙ ap (λ (x : List ℕ). sets x 0 (joint p q)) z.zeros_only ∙ over_zeros lent_length (joint p q) (omega (arith, joint_long, h))

    fits : b ≤ length e
    fits = omega (arith, m.bytes, joint_long, h, ap length m.is ∙ length-sets d 0 (joint p q), buffer_long)

    prefix_is : take b e ≡ joint p q
    unfolding written
    prefix_is = ap (take b) written_is ∙ take_at (joint p q) (zeros (lent_length - length (joint p q))) b (sym m.bytes)

-- ---- all rows

module _ (l : List ℕ) (n : ℕ) (q w : List ℕ) where
  refuses : {x : Which} {y : Result} {v : List ℕ} {r : Joined} → joined l n q w ≡ refusal x l y → Judged v r (refusal x l y) → RefusesJoin l n q w v r
  refuses {v = v} {r} e j = record { says = subst (Judged v r) (sym e) j; stays = sym (ap (λ (z : JoinResult). z.lent) e) }

  plain_judged : {x : Which} {a : JoinAnswer} {y : Result} {v : List ℕ} {r : Joined} → RefusesFor x a r → join_answer a ≡ y.answer → v ≡ y.left → Judged v r (refusal x l y)
  plain_judged f e g = record { which = f.which; answer = ap join_answer f.answer ∙ e; bytes = f.bytes; left = g }

  pub no_work : {r : Joined} → length w ≢ work_length → RefusesFor Joint (Refused Buffer) r → RefusesJoin l n q w w r
  no_work h f = refuses (Stages.no_work l n q w h) (plain_judged f refl refl)

  pub not_lent : {v : List ℕ} {r : Joined} → IsWork w → (length l ≢ lent_length) ⊎ (lent_length < n) → RefusesZeroed Project (Refused Length) w v r → RefusesJoin l n q w v r
  unfolding refusal_result
  not_lent k h f = refuses (Stages.not_lent l n q w k h) (plain_judged f.says refl (f.zeroed ∙ ap zeros k))

  pub project_refused : {v : List ℕ} {r : Joined} → Lent l n w → TurnsDown Project (take n l) w v r → RefusesJoin l n q w v r
  project_refused k t = refuses (Stages.project_refused l n q w k (refuses_too (take n l) w w k.work k.work t)) (turned_judged (take n l) w w k.work k.work t)

  pub part_refused : {u v : List ℕ} {a : ℕ} {r : Joined} → Lent l n w → Passes (take n l) w u a → IsWork u → TurnsDown Part q u v r → RefusesJoin l n q w v r
  part_refused {u = u} k f i t =
      refuses (Stages.part_refused l n q w k (accepts_too (take n l) w w k.work k.work f) (refuses_too q w u k.work i t)) (turned_judged q w u k.work i t)

-- The project passes, and leaves u of the work buffer w; then the part, and leaves t.
pub record BothPass (l : List ℕ) (n : ℕ) (q w u t : List ℕ) : Type 0 where
  pub lent : Lent l n w
  pub first : ℕ
  pub project : Passes (take n l) w u first
  pub between : IsWork u
  pub second : ℕ
  pub part : Passes q u t second
  pub behind : IsWork t
  pub project_bytes : IsBytes l
  pub part_bytes : IsBytes q

module _ {l : List ℕ} {n : ℕ} {q w u t : List ℕ} (s : BothPass l n q w u t) where
  project_passed : (check (take n l) w).answer ≡ accepted s.first
  project_passed = accepts_too (take n l) w w s.lent.work s.lent.work s.project

  part_passed : (check q w).answer ≡ accepted s.second
  part_passed = accepts_too q w u s.lent.work s.between s.part

  pub books_full : {v : List ℕ} {r : Joined} → size_limit < joint_count (take n l) q → RefusesZeroed Joint Full t v r → RefusesJoin l n q w v r
  unfolding refusal_result
  books_full h z = refuses l n q w (Stages.books_full l n q w s.lent project_passed part_passed h) (plain_judged l n q w z.says refl (z.zeroed ∙ ap zeros s.behind))

  project_are : IsBytes (take n l)
  project_are = take_bytes n l s.project_bytes

  pub project_formed : WellFormed (take n l)
  project_formed = accepted_formed project_are s.lent.work s.project

  pub part_formed : WellFormed q
  part_formed = accepted_formed s.part_bytes s.between s.part

  module _ {d : List ℕ} (z : JointBuffer d) (h : joint_count (take n l) q ≤ size_limit) where
    pub write_ready : JointReady (take n l) q d
    write_ready = ready project_are s.part_bytes project_formed part_formed z h

    module _ {e : List ℕ} {c : ℕ} (m : WritesJoint (take n l) q d e c) where
      pub prefix_fits : c ≤ length e
      prefix_fits = fits project_are s.part_bytes project_formed part_formed z h m

      same : take c e ≡ joint (take n l) q
      same = prefix_is project_are s.part_bytes project_formed part_formed z h m

      pub joint_refused : {v : List ℕ} {r : Joined} → TurnsDown Joint (take c e) t v r → RefusesJoin l n q w v r
      joint_refused {v} {r} x =
          let k = s.lent in
          let y : TurnsDown Joint (joint (take n l) q) t v r = subst (λ (b : List ℕ). TurnsDown Joint b t v r) same x in
          refuses l n q w (Stages.joint_refused l n q w k project_passed part_passed h (refuses_too (joint (take n l) q) w t k.work s.behind y))
          (turned_judged (joint (take n l) q) w t k.work s.behind y)

      pub joint_accepted : {v : List ℕ} {i : ℕ} → Passes (take c e) t v i →
          AcceptsJoint l n q w e v (record { which = Joint; answer = Accepted i; bytes = c })
      joint_accepted {v} {i} x =
          let k = s.lent in
          let y : Passes (joint (take n l) q) t v i = subst (λ (b : List ℕ). Passes b t v i) same x in
          let o : check (joint (take n l) q) w ≡ result (accepted i) v = passes_too (joint (take n l) q) w t k.work s.behind y in
          let a = Stages.joint_accepted l n q w k project_passed part_passed h (accepts_too (joint (take n l) q) w t k.work s.behind y) in
          record {
            lent = k;
            says = subst (Judged v (record { which = Joint; answer = Accepted i; bytes = c })) (sym a)
                (record { which = refl; answer = sym (ap (λ (r : Result). r.answer) o); bytes = m.bytes; left = sym (ap (λ (r : Result). r.left) o) });
            written = written_is project_are s.part_bytes project_formed part_formed z h m ∙ sym (ap (λ (r : JoinResult). r.lent) a);
          }
