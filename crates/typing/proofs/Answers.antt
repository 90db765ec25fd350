-- What an answer of finding or checking tells by its form, and how the answer for a part becomes the answer for the whole.
-- Assumes nothing.
use Prim.Native.Nat.{ℕ, ◌+◌, ◌≤◌, ◌<◌}
use native.Mathlib.Omega.{arith}
use mathlib.Core.Path.{◌≡◌, refl, sym, ◌∙◌, ap}
use mathlib.Core.Bool.{Bool, true, false, cond}
use mathlib.Core.List.{List, [], ◌∷◌}
use Rattle.std.specs.Prelude.{Result, Ok, Err, IsErrAnd}
use Rattle.std.proofs.lemmas.Result.{err_from_is_err_and}
use Rattle.calculus.specs.Syntax.{Ty, Term, size}
use Rattle.calculus.specs.Infer as Infer
use Rattle.calculus.specs.Infer.{Reason, mismatch, checked, picked, infer}
use Rattle.calculus.specs.Decide.{field_part, is_below}
use Rattle.format.specs.Book.{follow}
use Rattle.answers.specs.Answer.{refused, reason_number}
use Rattle.answers.specs.Cases.{refusal_answer}
use Rattle.answers.specs.declared.Refusal.{Refusal}
use Rattle.cells.specs.Held.{HoldsType, HoldsTerm, HoldsContext, Same}
use Rattle.cells.proofs.Held.{same_trans}
use Rattle.typing.specs.Finding.{Answered, Finds, checked_here, Checks, FindsField}
use Rattle.typing.proofs.Paths.{follow_same, Leads}

-- An answer, as a record.
pub record Answer (s t : List ℕ) (n k m i : ℕ) (r : Result ℕ Refusal) (F : Infer.Found) : Type 0 where
  pub says : Answered s t n k m i r F

pub finding : {s t : List ℕ} {n k c i : ℕ} {r : Result ℕ Refusal} {Γ : List Ty} {e : Term} → Finds s t n k c i r → HoldsContext s c Γ → HoldsTerm s i e →
    Answer s t n k (size e) i r (infer Γ e)
finding {Γ = Γ} {e = e} f g h = record { says = f.says Γ e g h }

pub checking : {s t : List ℕ} {n k c i w : ℕ} {r : Result ℕ Refusal} {Γ : List Ty} {e : Term} {A : Ty} → Checks s t n k c i w r → HoldsContext s c Γ →
    HoldsTerm s i e → HoldsType s w A → Answer s t n k (size e) i r (checked_here (infer Γ e) A)
checking {Γ = Γ} {e = e} {A = A} f g h a = record { says = f.says Γ e A g h a }

pub fielding : {s t : List ℕ} {n k a l i : ℕ} {r : Result ℕ Refusal} {A : Ty} → FindsField s t n k a l i r → HoldsType s a A → Answer s t n k 1 i r (picked (field_part l A))
fielding {A = A} f h = record { says = f.says A h }

-- An answer that is a type's cell x, of k that are used then.
pub record IsFound (s t : List ℕ) (n k m x : ℕ) (F : Infer.Found) : Type 0 where
  pub type : Ty
  pub is : F ≡ Infer.found type
  pub more : n ≤ k
  pub less : k ≤ n + m
  pub same : Same s t n
  pub below : x < k
  pub holds : HoldsType t x type

-- what the exit of a `?` answers
pub exit : {T E : Type 0} {r : Result T E} {q : E} → IsErrAnd r (λ e. e ≡ q) → r ≡ Err q
exit {r} h = let p = err_from_is_err_and r h in p.1 ∙ ap Err p.2

clash : {x : ℕ} {q : Refusal} → ◌≡◌ {A = Result ℕ Refusal} (Ok x) (Err q) → ⊥
clash p = let z : ◌≡◌ {A = ℕ} 0 1 = cc in omega arith

pub typed : {s t : List ℕ} {n k m i x : ℕ} {r : Result ℕ Refusal} {F : Infer.Found} → Answer s t n k m i r F → r ≡ Ok x →
    IsFound s t n k m x F
typed {s} {t} {n} {k} {m} {i} {x} {r} {F} a e = go F a.says
  where
    go : (G : Infer.Found) → Answered s t n k m i r G → IsFound s t n k m x G
    go (Infer.found A) h =
        let p : h.0 ≡ x = cc h.1 in
        rw (← p) (record { type = A; is = refl; more = h.2; less = h.3; same = h.4; below = h.5; holds = h.6 })
    go (Infer.refused w p) h = absurd (clash (sym e ∙ h.1))

-- An answer that is a refusal.
pub record IsRefused (s : List ℕ) (i : ℕ) (q : Refusal) (F : Infer.Found) : Type 0 where
  pub reason : Reason
  pub path : List ℕ
  pub is : F ≡ Infer.refused reason path
  pub says : refusal_answer q ≡ refused (reason_number reason) (follow s i path)

pub refused_by : {s t : List ℕ} {n k m i : ℕ} {q : Refusal} {r : Result ℕ Refusal} {F : Infer.Found} → Answer s t n k m i r F → r ≡ Err q → IsRefused s i q F
refused_by {s} {t} {n} {k} {m} {i} {q} {r} {F} a e = go F a.says
  where
    go : (G : Infer.Found) → Answered s t n k m i r G → IsRefused s i q G
    go (Infer.found A) h = absurd (clash (sym h.1 ∙ e))
    go (Infer.refused w p) h =
        let z : h.0 ≡ q = cc h.1 in
        record { reason = w; path = p; is = refl; says = rw (← z) h.2 }

-- The refusal for a part, at cell j of a buffer with the same first n cells, is the whole's: the path goes on through the part's field.
pub handed : {s u : List ℕ} {n i f j : ℕ} {q : Refusal} {F : Infer.Found} → Leads s i f j → i < n → Same s u n → (a : IsRefused u j q F) →
    Answered s u n n n i (Err q) (Infer.refused a.reason (f ∷ a.path))
handed {j = j} {q = q} l b p a = (q, refl, a.says ∙ ap (refused (reason_number a.reason)) (follow_same p a.path j (omega (arith, l.lower)) ∙ sym (l.path a.path)))

-- An answer in a later buffer, with k cells used, is one in the buffer as it was with n: these are the same.
pub later : {s u v : List ℕ} {n k l j i : ℕ} {r : Result ℕ Refusal} {F : Infer.Found} (m : ℕ) → Answer u v k l j i r F → Same s u n → n ≤ k → k + j ≤ n + m → i < n →
    Answer s v n l m i r F
later {s} {u} {v} {n} {k} {l} {j} {i} {r} {F} m a q p b o = record { says = go F a.says }
  where
    go : (G : Infer.Found) → Answered u v k l j i r G → Answered s v n l m i r G
    go (Infer.found A) h = (h.0, h.1, omega (arith, h.2), omega (arith, h.3), same_trans q h.4 p, h.5, h.6)
    go (Infer.refused w c) h = (h.0, h.1, h.2 ∙ ap (refused (reason_number w)) (follow_same q c i o))

-- What was found for a part at field f that is checked, carried to the whole, which is as S says where the part passes.
abbrev pub carried : ℕ → Infer.Found → Infer.Found → Infer.Found
carried f S (Infer.found A) = S
carried f S (Infer.refused r p) = Infer.refused r (f ∷ p)

pub checked_carried : (f : ℕ) (F : Infer.Found) (A : Ty) (S : Infer.Found) → checked f F A S ≡ carried f S (checked_here F A)
unfolding checked
checked_carried f (Infer.found C) A S = go (is_below C A)
  where
    go : (b : Bool) → cond b S (Infer.refused mismatch (f ∷ [])) ≡ carried f S (cond b (Infer.found A) (Infer.refused mismatch []))
    go true = refl
    go false = refl
checked_carried f (Infer.refused r p) A S = refl
