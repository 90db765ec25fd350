-- What a preview answers and leaves means what document 02 says. It agrees with a join on a copy, on the buffers that the preview leaves, and with any work
-- buffer: from the two contracts alone. Assumes nothing.
use Prim.Native.Nat.{ℕ, ◌≤◌}
use native.Mathlib.Decide.{ℕ_discrete}
use native.Mathlib.Omega.{arith}
use mathlib.Core.Path.{◌≡◌, refl, sym, ap, subst, ◌∙◌}
use mathlib.Core.Bool.{true, false, not, ◌&&◌}
use mathlib.Core.List.{List, []}
use lib.Dec.{eqb, ltb}
use lib.ListN.{length, take}
use Rattle.calculus.specs.Syntax.{Ty, merge, size_type}
use Rattle.calculus.specs.Typing.{Typed}
use Rattle.calculus.proofs.Typing.{typed_unique, typed_size}
use Rattle.format.specs.Cell.{IsBytes}
use Rattle.format.specs.Book.{root_term, version_of, type_book}
use Rattle.format.specs.Terms.{from_type}
use Rattle.format.specs.Joint.{joint}
use Rattle.format.proofs.RoundTrip.{book_length}
use Rattle.format.proofs.Trees.{type_cells}
use Rattle.format.proofs.Tests.{root_term_small}
use Rattle.answers.specs.Answer.{Answer, refused, accepted, stopped, Result}
use Rattle.answers.specs.Engine.{work_length, IsWork, padded}
use Rattle.answers.specs.Definition.{check, refusal_result}
use Rattle.answers.proofs.Demands.{work_at_hand}
use Rattle.joining.specs.declared.Which.TheVariants.{Project}
use Rattle.joining.specs.declared.Joined.{Joined}
use Rattle.joining.specs.Join.{JoinResult, join_answer, lent_length, refusal, after_books, after_project, after_lengths, joined}
use Rattle.joining.specs.Joins.{Owed, Joins}
use Rattle.joining.specs.Stages.{Judged}
use Rattle.joining.specs.Previews.{Previews, Foreseen, PreviewAgrees, JoinFollows, AnyWorkAgrees}
use Rattle.joining.proofs.Stages.{tested}
use Rattle.joining.proofs.Judging.{check_alike, filled_long}
use Rattle.joining.proofs.Meaning.{joins}
use Rattle.joining.proofs.TypeShown.{type_shown}
use Rattle.joining.proofs.Cases.{never_stopped, same_joined}

-- ---- the call

pub previews : (l : List ℕ) (n : ℕ) (q w : List ℕ) {v k : List ℕ} {r : Joined} → Judged v r (joined l n q w) → IsBytes l → IsBytes q → k ≡ l → Previews l k n q w v r
previews l n q w j yl yq e =
    let c = joins l n q w j yl yq refl in
    record { which = j.which; answer = j.answer; bytes = j.bytes; size_shown = type_shown c; left = j.left; unaltered = e; foresees = c }

-- ---- on a copy

-- two work buffers of which the definition makes no difference
foreseen : {l k k' : List ℕ} {n : ℕ} {q w w' v v' : List ℕ} {r r' : Joined} → joined l n q w ≡ joined l n q w' → Previews l k n q w v r → Joins l k' n q w' v' r' → Foreseen v v' r r'
foreseen {r = r} {r'} e p j =
    record {
      answer = same_joined r r'
          (p.which ∙ ap (λ (x : JoinResult). x.which) e ∙ sym j.which)
          (p.answer ∙ ap (λ (x : JoinResult). x.answer) e ∙ sym j.answer)
          (p.bytes ∙ ap (λ (x : JoinResult). x.bytes) e ∙ sym j.bytes);
      left = p.left ∙ ap (λ (x : JoinResult). x.left) e ∙ sym j.left;
    }

pub preview_agrees : PreviewAgrees
preview_agrees l k k' n q w v v' r r' p j = foreseen refl p j

-- ---- on the buffers that the preview leaves

-- no work buffer of 65,536 bytes makes a difference
module _ (l : List ℕ) (n : ℕ) (q w v : List ℕ) (k : IsWork w) (h : IsWork v) where
  lengths_alike : (p : List ℕ) → after_lengths p q l w ≡ after_lengths p q l v
  unfolding after_lengths after_project after_books
  lengths_alike p = cc (check_alike p w v k h, check_alike q w v k h, check_alike (joint p q) w v k h)

  joined_alike : joined l n q w ≡ joined l n q v
  joined_alike =
      let b = eqb (length l) lent_length && not (ltb lent_length n) in
      tested l n q w k b refl
      ∙ ap (λ (x : JoinResult). elim b [ false ↦ refusal Project l (refusal_result 2 0) | true ↦ x ]) (lengths_alike (take n l))
      ∙ sym (tested l n q v h b refl)

-- what an accepted book's check leaves fills the work buffer
left_whole : (b w : List ℕ) → IsWork w → Owed b → IsWork (check b w).left
unfolding padded
left_whole b w k o =
    let t = o.demand2.accepts.0 o.accepts in
    let A = t.1.0 in
    let s = o.demand2.shows A t.0 t.1.1 w k in
    let n : length (type_book (version_of b) A) ≤ work_length =
    omega (arith, book_length (version_of b) (from_type A), type_cells A, typed_size t.1.1, root_term_small b o.bytes t.0) in
    ap (λ (y : Result). length y.left) s ∙ filled_long work_length (type_book (version_of b) A) n

module _ {l k : List ℕ} {n : ℕ} {q w v : List ℕ} {r : Joined} (p : Previews l k n q w v r) where
  -- a work buffer is left as one
  still_work : IsWork w → IsWork v
  still_work o = by (join_answer r.answer) refl
    where
      c : Joins l (joined l n q w).lent n q w v r
      c = p.foresees

      by : (a : Answer) → join_answer r.answer ≡ a → IsWork v
      by (refused m i) e = elim (ℕ_discrete m 1) [
        | yes u ↦ ap length (c.kept i (e ∙ ap (λ (x : ℕ). refused x i) u)) ∙ o
        | no u ↦ ap length (c.zeroed m i u e) ∙ work_at_hand
      ]
      by (accepted m) e = let x = (c.writes m e).3 in ap length x.left ∙ left_whole (joint (take n l) q) w o x.owed
      by (stopped s m k) e = absurd (never_stopped r.answer s m k e)

  after : joined l n q w ≡ joined l n q v
  after =
      elim (ℕ_discrete (length w) work_length) [
        | yes o ↦ joined_alike l n q w v o (still_work o)
        | no u ↦ ap (joined l n q) (sym (p.foresees.kept 0 (p.foresees.first u).answer))
      ]

-- the project is as it was lent
of_lent : {l k k' : List ℕ} {n : ℕ} {q w w' v v' : List ℕ} {r r' : Joined} → Previews l k n q w v r → Joins k k' n q w' v' r' → Joins l k' n q w' v' r'
of_lent {k' = k'} {n} {q} {w' = w'} {v' = v'} {r' = r'} p j = subst (λ (x : List ℕ). Joins x k' n q w' v' r') p.unaltered j

pub join_follows : JoinFollows
join_follows l k k' n q w v v' r r' p j = foreseen (after p) p (of_lent p j)

pub any_work_agrees : AnyWorkAgrees
any_work_agrees l k k' n q w w' v v' r r' o u p j = foreseen (joined_alike l n q w w' o u) p (of_lent p j)

-- ---- what follows

-- a preview that is asked for again, on the buffers that it left, says and leaves the same
pub previews_again : {l k k' : List ℕ} {n : ℕ} {q w v v' : List ℕ} {r r' : Joined} → Previews l k n q w v r → Previews k k' n q v v' r' → Foreseen v v' r r'
previews_again p o = join_follows _ _ _ _ _ _ _ _ _ _ p o.foresees

-- the size is that of every type that the calculus derives for the merge
pub size_of_type : {l k : List ℕ} {n : ℕ} {q w v : List ℕ} {r : Joined} → Previews l k n q w v r → (m : ℕ) → join_answer r.answer ≡ accepted m →
    (A : Ty) → Typed [] (merge (root_term (take n l)) (root_term q)) A → m ≡ size_type A
size_of_type p m e A t = let x = p.size_shown m e in x.2 ∙ ap size_type (typed_unique x.1 t)
