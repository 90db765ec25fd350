-- Where the definition of a join ends: the seven ways, each with what led there. Assumes nothing.
use Prim.Native.Nat.{ℕ, ◌≤◌, ◌<◌}
use native.Mathlib.Decide.{dec_le, ℕ_discrete}
use native.Mathlib.Omega.{arith}
use mathlib.Core.Path.{◌≡◌, refl, sym, subst, ◌∙◌}
use mathlib.Core.Bool.{Bool, true, false, not, ◌&&◌}
use mathlib.Core.Logic.{◌≢◌, ◌⊎◌, inl, inr}
use mathlib.Core.Option.{Option, none, some}
use mathlib.Core.List.{List, []}
use borrow.Author.Tests.{lt-ltb, le-ltb, eq-eqb, ne_eqb}
use lib.Dec.{eqb, ltb}
use lib.ListN.{length, take}
use Rattle.calculus.specs.Infer.{Found, found, infer}
use Rattle.calculus.specs.Infer as Infer
use Rattle.format.specs.Book.{Finding, size_limit, form_finding, root_term, version_of}
use Rattle.format.specs.Joint.{joint_count, joint}
use Rattle.answers.specs.Answer.{Stop, Answer, refused, accepted, stopped, Result, result}
use Rattle.answers.specs.Engine.{work_length, IsWork}
use Rattle.answers.specs.Definition.{check, judge, after_form, after_typing, refusal_result, shown}
use Rattle.answers.proofs.Demands.{clash}
use Rattle.joining.specs.declared.Which.{Which}
use Rattle.joining.specs.declared.Which.TheVariants.{Project, Part, Joint}
use Rattle.joining.specs.Join.{JoinResult, lent_length, refusal, acceptance, after_check, after_books, after_project, after_lengths, joined}
use Rattle.joining.specs.Joins.{Lent}

-- ---- one book

module _ (x : Which) (l : List ℕ) (r : Result) (y : JoinResult) where
  pub on_refused : {m i : ℕ} → r.answer ≡ refused m i → after_check x l r y ≡ refusal x l r
  on_refused e = rw e refl

  pub on_accepted : {m : ℕ} → r.answer ≡ accepted m → after_check x l r y ≡ y
  on_accepted e = rw e refl

-- no check is stopped
not_stopped : (b w : List ℕ) (s : Stop) (n k : ℕ) → (check b w).answer ≢ stopped s n k
unfolding check judge shown after_form after_typing refusal_result
not_stopped b w s n k e = tested (eqb (length w) work_length) refl e
  where
    typed : (f : Found) → (after_typing b (shown (version_of b)) f).answer ≢ stopped s n k
    typed (found A) e = clash cc
    typed (Infer.refused r p) e = clash cc

    formed : (f : Option Finding) → (after_form b (shown (version_of b)) f).answer ≢ stopped s n k
    formed none e = typed (infer [] (root_term b)) e
    formed (some f) e = clash cc

    tested : (t : Bool) → eqb (length w) work_length ≡ t → (check b w).answer ≢ stopped s n k
    tested true p e = formed (form_finding b) (rw (p, judge) at e)
    tested false p e = let z : refused 1 0 ≡ stopped s n k = rw (p, judge) at e in clash cc

-- a check refuses or accepts
pub data Verdict (b w : List ℕ) : Type 0 where
  turned : {m i : ℕ} → (check b w).answer ≡ refused m i → Verdict b w
  passed : {m : ℕ} → (check b w).answer ≡ accepted m → Verdict b w

pub verdict : (b w : List ℕ) → Verdict b w
verdict b w = go (check b w).answer refl
  where
    go : (a : Answer) → (check b w).answer ≡ a → Verdict b w
    go (refused m i) e = turned e
    go (accepted m) e = passed e
    go (stopped s m k) e = absurd (not_stopped b w s m k e)

-- ---- 16 and the joint, c its check

abbrev pub of_joint : List ℕ → List ℕ → List ℕ → Result → JoinResult
of_joint p q l c = elim (ltb size_limit (joint_count p q)) [ true ↦ refusal Joint l (refusal_result 16 0) | false ↦ after_check Joint l c (acceptance (joint p q) c) ]

module _ (p q l w : List ℕ) where
  pub books_are : after_books p q l w ≡ of_joint p q l (check (joint p q) w)
  unfolding after_books
  books_are = refl

  pub too_many : size_limit < joint_count p q → after_books p q l w ≡ refusal Joint l (refusal_result 16 0)
  too_many h = books_are ∙ (rw (lt-ltb size_limit (joint_count p q) h, of_joint) refl)

  pub few_enough : joint_count p q ≤ size_limit → after_books p q l w ≡ after_check Joint l (check (joint p q) w) (acceptance (joint p q) (check (joint p q) w))
  few_enough h = books_are ∙ (rw (le-ltb size_limit (joint_count p q) h, of_joint) refl)

-- ---- the ways

-- n of the bytes l hold the project p
pub data Ends (l : List ℕ) (n : ℕ) (q w : List ℕ) : JoinResult → Type 0 where
  at_buffer : length w ≢ work_length → Ends l n q w (refusal Joint l (result (refused 1 0) w))
  at_lent : IsWork w → (length l ≢ lent_length) ⊎ (lent_length < n) → Ends l n q w (refusal Project l (refusal_result 2 0))
  at_project : {m i : ℕ} → Lent l n w → (check (take n l) w).answer ≡ refused m i → Ends l n q w (refusal Project l (check (take n l) w))
  at_part : {a m i : ℕ} → Lent l n w → (check (take n l) w).answer ≡ accepted a → (check q w).answer ≡ refused m i → Ends l n q w (refusal Part l (check q w))
  at_full : {a b : ℕ} → Lent l n w → (check (take n l) w).answer ≡ accepted a → (check q w).answer ≡ accepted b → size_limit < joint_count (take n l) q →
      Ends l n q w (refusal Joint l (refusal_result 16 0))
  at_joint : {a b m i : ℕ} → Lent l n w → (check (take n l) w).answer ≡ accepted a → (check q w).answer ≡ accepted b → joint_count (take n l) q ≤ size_limit →
      (check (joint (take n l) q) w).answer ≡ refused m i → Ends l n q w (refusal Joint l (check (joint (take n l) q) w))
  at_end : {a b m : ℕ} → Lent l n w → (check (take n l) w).answer ≡ accepted a → (check q w).answer ≡ accepted b → joint_count (take n l) q ≤ size_limit →
      (check (joint (take n l) q) w).answer ≡ accepted m → Ends l n q w (acceptance (joint (take n l) q) (check (joint (take n l) q) w))

module _ (l : List ℕ) (n : ℕ) (q w : List ℕ) where
  -- ---- the definition, stage by stage

  pub no_work : length w ≢ work_length → joined l n q w ≡ refusal Joint l (result (refused 1 0) w)
  unfolding joined
  no_work h = rw (ne_eqb (length w) work_length h, joined) refl

  -- the tests of lengths, as b has them
  pub tested : IsWork w → (b : Bool) → (eqb (length l) lent_length && not (ltb lent_length n)) ≡ b →
      joined l n q w ≡ elim b [ false ↦ refusal Project l (refusal_result 2 0) | true ↦ after_lengths (take n l) q l w ]
  unfolding joined
  tested k b e = rw (eq-eqb (length w) work_length k, e, joined) refl

  pub not_lent : IsWork w → (length l ≢ lent_length) ⊎ (lent_length < n) → joined l n q w ≡ refusal Project l (refusal_result 2 0)
  not_lent k (inl h) = tested k false (rw (ne_eqb (length l) lent_length h) refl)
  not_lent k (inr h) = tested k false (other (eqb (length l) lent_length))
    where
      other : (b : Bool) → (b && not (ltb lent_length n)) ≡ false
      other true = rw (lt-ltb lent_length n h) refl
      other false = refl

  pub is_lent : Lent l n w → joined l n q w ≡ after_lengths (take n l) q l w
  is_lent k = tested k.work true (rw (eq-eqb (length l) lent_length k.long, le-ltb lent_length n k.within) refl)

  module _ (k : Lent l n w) where
    pub project_refused : {m i : ℕ} → (check (take n l) w).answer ≡ refused m i → joined l n q w ≡ refusal Project l (check (take n l) w)
    unfolding after_lengths
    project_refused e = is_lent k ∙ on_refused Project l (check (take n l) w) (after_project (take n l) q l w) e

    module _ {a : ℕ} (f : (check (take n l) w).answer ≡ accepted a) where
      to_part : joined l n q w ≡ after_project (take n l) q l w
      unfolding after_lengths
      to_part = is_lent k ∙ on_accepted Project l (check (take n l) w) (after_project (take n l) q l w) f

      pub part_refused : {m i : ℕ} → (check q w).answer ≡ refused m i → joined l n q w ≡ refusal Part l (check q w)
      unfolding after_project
      part_refused e = to_part ∙ on_refused Part l (check q w) (after_books (take n l) q l w) e

      module _ {b : ℕ} (g : (check q w).answer ≡ accepted b) where
        to_books : joined l n q w ≡ after_books (take n l) q l w
        unfolding after_project
        to_books = to_part ∙ on_accepted Part l (check q w) (after_books (take n l) q l w) g

        pub books_full : size_limit < joint_count (take n l) q → joined l n q w ≡ refusal Joint l (refusal_result 16 0)
        books_full h = to_books ∙ too_many (take n l) q l w h

        module _ (h : joint_count (take n l) q ≤ size_limit) where
          to_joint : joined l n q w ≡ after_check Joint l (check (joint (take n l) q) w) (acceptance (joint (take n l) q) (check (joint (take n l) q) w))
          to_joint = to_books ∙ few_enough (take n l) q l w h

          pub joint_refused : {m i : ℕ} → (check (joint (take n l) q) w).answer ≡ refused m i → joined l n q w ≡ refusal Joint l (check (joint (take n l) q) w)
          joint_refused e = to_joint ∙ on_refused Joint l (check (joint (take n l) q) w) (acceptance (joint (take n l) q) (check (joint (take n l) q) w)) e

          pub joint_accepted : {m : ℕ} → (check (joint (take n l) q) w).answer ≡ accepted m → joined l n q w ≡ acceptance (joint (take n l) q) (check (joint (take n l) q) w)
          joint_accepted e = to_joint ∙ on_accepted Joint l (check (joint (take n l) q) w) (acceptance (joint (take n l) q) (check (joint (take n l) q) w)) e

  -- ---- so it ends in one of the ways

  ended : {x : JoinResult} → joined l n q w ≡ x → Ends l n q w x → Ends l n q w (joined l n q w)
  ended e t = subst (Ends l n q w) (sym e) t

  ends_joint : (k : Lent l n w) {a b : ℕ} (f : (check (take n l) w).answer ≡ accepted a) (g : (check q w).answer ≡ accepted b) → Ends l n q w (joined l n q w)
  ends_joint k f g =
      elim (dec_le (joint_count (take n l) q) size_limit) [
        | no u ↦ let h : size_limit < joint_count (take n l) q = omega arith in ended (books_full k f g h) (at_full k f g h)
        | yes h ↦ elim (verdict (joint (take n l) q) w) [
          | turned e ↦ ended (joint_refused k f g h e) (at_joint k f g h e)
          | passed e ↦ ended (joint_accepted k f g h e) (at_end k f g h e)
        ]
      ]

  ends_books : Lent l n w → Ends l n q w (joined l n q w)
  ends_books k =
      elim (verdict (take n l) w) [
        | turned e ↦ ended (project_refused k e) (at_project k e)
        | passed f ↦ elim (verdict q w) [ turned e ↦ ended (part_refused k f e) (at_part k f e) | passed g ↦ ends_joint k f g ]
      ]

  pub ends : Ends l n q w (joined l n q w)
  ends =
      elim (ℕ_discrete (length w) work_length) [
        | no h ↦ ended (no_work h) (at_buffer h)
        | yes k ↦ elim (ℕ_discrete (length l) lent_length) [
          | no h ↦ ended (not_lent k (inl h)) (at_lent k (inl h))
          | yes e ↦ elim (dec_le n lent_length) [
            | no u ↦ let h : lent_length < n = omega arith in ended (not_lent k (inr h)) (at_lent k (inr h))
            | yes h ↦ ends_books (record { work = k; long = e; within = h })
          ]
        ]
      ]
