-- What follows from the contract of a join alone, of any calls that meet it. Assumes nothing.
use Prim.Native.Nat.{ℕ, ◌-◌}
use native.Mathlib.Decide.{dec_le, ℕ_discrete}
use native.Mathlib.Omega.{arith}
use mathlib.Core.Path.{◌≡◌, sym, ap, ap₂, subst, ◌∙◌}
use mathlib.Core.Logic.{inl, inr}
use mathlib.Core.List.{List, ◌++◌}
use lib.ListN.{length, take, take-append-drop}
use Rattle.calculus.specs.Syntax.{Term, merge}
use Rattle.calculus.specs.Step.{Reaches, Ends}
use Rattle.format.specs.Version.{half_of}
use Rattle.format.specs.Book.{root_term, size_limit, version_of}
use Rattle.format.specs.Joint.{joint_count, joint}
use Rattle.answers.specs.Answer.{Answer, refused, accepted, stopped}
use Rattle.answers.specs.Engine.{work_length, IsWork, zeros}
use Rattle.answers.specs.Definition.{definition, check}
use Rattle.answers.specs.Demands.{Accepts}
use Rattle.joining.specs.declared.Which.{Which}
use Rattle.joining.specs.declared.Which.TheVariants.{Project, Part, Joint}
use Rattle.joining.specs.declared.Joined.{Joined}
use Rattle.joining.specs.Join.{join_answer, lent_length, written}
use Rattle.joining.specs.Joins.{Lent, BothAccepted, Joins}
use Rattle.joining.proofs.Judging.{filled_long}
use Rattle.joining.proofs.EitherWay.{joinable_either_way}
use Rattle.joining.proofs.Cases.{never_stopped, same_joined}
use Rattle.joining.proofs.Stages.{verdict, turned, passed}

-- Two calls with the same bytes lent, told length, part and work buffer answer and leave the same, to the case of the code's answer.
pub record Alike (k k' v v' : List ℕ) (r r' : Joined) : Type 0 where
  pub answer : r ≡ r'
  pub lent : k ≡ k'
  pub left : v ≡ v'

pub calls_agree : {l k k' : List ℕ} {n : ℕ} {q w v v' : List ℕ} {r r' : Joined} → Joins l k n q w v r → Joins l k' n q w v' r' → Alike k k' v v' r r'
calls_agree {r = r} {r'} c d =
    record {
      answer = same_joined r r' (c.which ∙ sym d.which) (c.answer ∙ sym d.answer) (c.bytes ∙ sym d.bytes);
      lent = c.lent ∙ sym d.lent;
      left = c.left ∙ sym d.left;
    }

-- ---- an accepted join

module _ {l k : List ℕ} {n : ℕ} {q w v : List ℕ} {r : Joined} (c : Joins l k n q w v r) (m : ℕ) (e : join_answer r.answer ≡ accepted m) where
  -- the lent bytes are the joint, and zeros
  pub lent_whole : k ≡ written (joint (take n l) q)
  unfolding written
  lent_whole =
      let x = (c.writes m e).3 in
      sym (take-append-drop r.bytes k) ∙ ap₂ (λ (a b : List ℕ). a ++ b) x.joint (x.rest ∙ ap (λ (i : ℕ). zeros (lent_length - i)) x.bytes)

  lent_long : length k ≡ lent_length
  unfolding written
  lent_long = ap length lent_whole ∙ filled_long lent_length (joint (take n l) q) (c.writes m e).2.well_formed.short

  -- The joint may be the project of the next join.
  pub next_lent : {u : List ℕ} → IsWork u → Lent k r.bytes u
  next_lent o =
      let x = c.writes m e in
      record { work = o; long = lent_long; within = omega (arith, x.3.bytes, x.2.well_formed.short) }

  pub next_accepted : Accepts definition (take r.bytes k)
  next_accepted = let x = (c.writes m e).3 in subst (Accepts definition) (sym x.joint) x.owed.accepts

  -- The merge of the two roots never gets stuck.
  pub never_stuck : (s : ℕ) (f : Term) → Reaches (half_of (version_of (joint (take n l) q))) s (merge (root_term (take n l)) (root_term q)) f →
      Ends (half_of (version_of (joint (take n l) q))) f
  never_stuck s f g =
      let x = c.writes m e in
      x.3.owed.demand3.ends s f (subst (λ (z : Term). Reaches (half_of (version_of (joint (take n l) q))) s z f) (sym x.2.opens) g)

-- ---- project and part exchanged: one of two such calls is accepted exactly if the other is

module _ {l k l' k' : List ℕ} {n n' : ℕ} {w v w' v' : List ℕ} {r r' : Joined} (a : Lent l n w) (b : Lent l' n' w')
    (c : Joins l k n (take n' l') w v r) (d : Joins l' k' n' (take n l) w' v' r') where
  pub calls_either_way : ((m : ℕ) × (join_answer r.answer ≡ accepted m)) → (m : ℕ) × (join_answer r'.answer ≡ accepted m)
  calls_either_way m = (d.accepts b).1 ((joinable_either_way (take n l) (take n' l')).0 ((c.accepts a).0 m))

-- ---- the document's sentences alone, without the equations with the definition, leave nothing open

module _ (l : List ℕ) (n : ℕ) (q w : List ℕ) where
  -- a book and an answer that every call gives
  abbrev Said : Type 0
  Said = (x : Which) × (a : Answer) × ((k v : List ℕ) (r : Joined) → Joins l k n q w v r → (r.which ≡ x) × (join_answer r.answer ≡ a))

  said_of_books : Lent l n w → BothAccepted (take n l) q → Said
  said_of_books o b =
      elim (dec_le (joint_count (take n l) q) size_limit) [
        | no u ↦ (Joint, refused 16 0, λ k v r c. let s = c.full o b (omega arith) in (s.which, s.answer))
        | yes h ↦ (Joint, (check (joint (take n l) q) w).answer, λ k v r c. let s = c.joint_last o b h in (s.1, s.2))
      ]

  said_of_lent : Lent l n w → Said
  said_of_lent o =
      elim (verdict (take n l) w) [
        | turned {m} {i} e ↦ (Project, refused m i, λ k v r c. let s = c.project_first o m i e in (s.which, s.answer))
        | passed {m = a} f ↦
            let p : Accepts definition (take n l) = record { work = w; is_work = o.work; size = a; answers = f } in
            elim (verdict q w) [
              | turned {m} {i} e ↦ (Part, refused m i, λ k v r c. let s = c.part_second o p m i e in (s.which, s.answer))
              | passed {m = b} g ↦ said_of_books o (record { project = p; part = record { work = w; is_work = o.work; size = b; answers = g } })
            ]
      ]

  said : Said
  said =
      elim (ℕ_discrete (length w) work_length) [
        | no h ↦ (Joint, refused 1 0, λ k v r c. let s = c.first h in (s.which, s.answer))
        | yes o ↦ elim (ℕ_discrete (length l) lent_length) [
          | no h ↦ (Project, refused 2 0, λ k v r c. let s = c.another_length o (inl h) in (s.which, s.answer))
          | yes e ↦ elim (dec_le n lent_length) [
            | no u ↦ (Project, refused 2 0, λ k v r c. let s = c.another_length o (inr (omega arith)) in (s.which, s.answer))
            | yes h ↦ said_of_lent (record { work = o; long = e; within = h })
          ]
        ]
      ]

-- what is left, by the answer
record Leaves (k v : List ℕ) (r : Joined) (b : ℕ) (x y : List ℕ) : Type 0 where
  bytes : r.bytes ≡ b
  lent : k ≡ x
  left : v ≡ y

module _ (l : List ℕ) (n : ℕ) (q w : List ℕ) where
  leaves : (a : Answer) → (b : ℕ) × (x : List ℕ) × (y : List ℕ) × ((k v : List ℕ) (r : Joined) → Joins l k n q w v r → join_answer r.answer ≡ a → Leaves k v r b x y)
  leaves (refused m i) =
      elim (ℕ_discrete m 1) [
        | yes o ↦ (
          0,
          l,
          w,
          λ k v r c e.
              let u = c.untouched m i e in record { bytes = u.1; lent = u.0; left = c.kept i (e ∙ ap (λ (j : ℕ). refused j i) o) },
        )
        | no o ↦ (0, l, zeros work_length, λ k v r c e. let u = c.untouched m i e in record { bytes = u.1; lent = u.0; left = c.zeroed m i o e })
      ]
  leaves (accepted m) =
      let b = joint (take n l) q in
      (length b, written b, (check b w).left, λ k v r c e. let x = (c.writes m e).3 in record { bytes = x.bytes; lent = lent_whole c m e; left = x.left })
  leaves (stopped s m j) = (0, l, w, λ k v r c e. absurd (never_stopped r.answer s m j e))

pub clauses_agree : {l k k' : List ℕ} {n : ℕ} {q w v v' : List ℕ} {r r' : Joined} → Joins l k n q w v r → Joins l k' n q w v' r' → Alike k k' v v' r r'
clauses_agree {l = l} {n = n} {q = q} {w = w} {r = r} {r' = r'} c d =
    let x = said l n q w in
    let s = x.2 _ _ _ c in
    let t = x.2 _ _ _ d in
    let y = leaves l n q w x.1 in
    let a = y.3 _ _ _ c s.1 in
    let b = y.3 _ _ _ d t.1 in
    record {
      answer = same_joined r r' (s.0 ∙ sym t.0) (s.1 ∙ sym t.1) (a.bytes ∙ sym b.bytes);
      lent = a.lent ∙ sym b.lent;
      left = a.left ∙ sym b.left;
    }
