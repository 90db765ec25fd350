-- A choice by a value: the number that the value is read as under Int tells which branch is emitted, annotated Int. What `emit_annotated` and
-- `next_choice` need and leave, call by call. Assumes nothing.
use Prim.Native.Nat.{ℕ, ◌*◌, ◌<◌}
use mathlib.Core.Path.{◌≡◌, refl, sym, ap, ◌∙◌}
use mathlib.Core.Logic.{◌↔◌, inl, inr}
use mathlib.Core.List.{List}
use lib.IntN.{pos}
use Rattle.calculus.specs.Syntax.{int, Term, anno}
use Rattle.calculus.specs.Evaluate.{number_of}
use Rattle.calculus.proofs.Numbers.{chosen_says}
use Rattle.format.specs.declared.Version.TheVariants.{Two}
use Rattle.format.specs.Version.{half_of}
use Rattle.format.specs.Cell.{Cell, cell_at, signed, unsigned}
use Rattle.format.specs.Terms.{from_type, from_term}
use Rattle.format.proofs.Numbers.{unsigned_signed}
use Rattle.emission.specs.Emits.{Space, Finishes}
use Rattle.emission.specs.Runs.{RunsTerm}
use Rattle.emission.specs.Copies.{EmitsEnd}
use Rattle.std.specs.Prelude.{Option}
use Rattle.emission.proofs.Chain.{Each, Chain}
use Rattle.emission.proofs.Compose.{emits_leaf}
use Rattle.emission.proofs.Copies.{run_emits}
use Rattle.typed_reduction.specs.Casting.{NumberReady, ReadsNumber}
use Rattle.reduction.specs.Steps.{AnnotateReady, EmitsAnnotated, ContractAt, EmitsContractum}
use Rattle.reduction.proofs.Nexts.{Choosing, choice_redex}
use Rattle.reduction.proofs.Instances.{anno_chain}

-- ---- `emit_annotated`

-- all that the cell i may be said to hold
abbrev pub Terms : List ℕ → ℕ → Type 0
Terms s i = (e : Term) × RunsTerm s i e

pub annotated : {s d o : List ℕ} {i m : ℕ} {r : Option ℕ} → Each {W = Terms s i} (λ w. from_term (anno w.0 int)) d o m r → EmitsAnnotated s d o i m r
annotated q = record { says = λ e h. q (e, h) }

module _ {s d : List ℕ} {i m : ℕ} (o : AnnotateReady s d i m) where
  abbrev pub annotated_chain : Chain (Terms s i) (λ w. from_term (anno w.0 int)) d m
  annotated_chain = anno_chain (λ w. w.0) (λ w. int) o.space (o.term, o.holds)

  pub term_each : {f : List ℕ} {r : Option ℕ} → EmitsEnd s d f i m r → Each annotated_chain.a.tree d f m r
  term_each q w = run_emits w.1.run q

  pub int_each : {f g : List ℕ} {x : ℕ} {r : Option ℕ} → Space f x → Finishes f g x (record { kind = 1; label = 0; a = 0; b = 0; c = 0 }) r
      → Each annotated_chain.b.tree f g x r
  unfolding from_type
  int_each h q w = emits_leaf h.used q

-- ---- `next_choice`: t is the choice's cell as it was read

-- a stored number is zero exactly if 0 is stored
zero_stored : {n : ℕ} → n < 2 * half_of Two → (n ≡ 0) ↔ (signed (half_of Two) n ≡ pos 0)
unfolding signed unsigned
zero_stored {n} f = (λ e. rw e refl, λ e. sym (unsigned_signed (half_of Two) n f) ∙ ap (unsigned (half_of Two)) e)

module _ {s d : List ℕ} {i m : ℕ} (o : ContractAt s d i m 27) where
  own : Choosing s i o.ready.successor
  own = choice_redex o.ready.half o.ready.redex o.ready.steps o.kind

  module _ {t : Cell} (c : t ≡ cell_at s i) where
    pub tested_ready : NumberReady s t.a
    tested_ready = record { at = record { value = own.tested; holds = rw c own.holds_tested }; reduct = own.reduct; casts = own.casts }

    pub zero_ready : AnnotateReady s d t.b m
    zero_ready = record { space = o.ready.space; term = own.zero; holds = rw c own.holds_zero }

    pub other_ready : AnnotateReady s d t.c m
    other_ready = record { space = o.ready.space; term = own.other; holds = rw c own.holds_other }

    -- n is what the tested part is read as, stored
    module _ {n : ℕ} (q : ReadsNumber s t.a n) where
      tells : {g : Term} (w : Choosing s i g) → (n ≡ 0) ↔ (number_of w.reduct ≡ pos 0)
      unfolding number_of
      tells w = rw (q.says w.tested w.reduct (rw c w.holds_tested) w.casts) (zero_stored q.fits)

      pub zero_emits : {e : List ℕ} {r : Option ℕ} → n ≡ 0 → EmitsAnnotated s d e t.b m r → EmitsContractum s d e i m r
      zero_emits z h =
          record {
            says = λ u e g x k.
                let w = choice_redex u x k o.kind in
                elim ((chosen_says (λ b. anno b int) (number_of w.reduct) w.zero w.other g).0 w.is) [
                  | inl p ↦ rw p.1 (h.says w.zero (rw c w.holds_zero))
                  | inr p ↦ absurd (p.0 ((tells w).0 z))
                ];
          }

      pub other_emits : {e : List ℕ} {r : Option ℕ} → (n ≡ 0 → ⊥) → EmitsAnnotated s d e t.c m r → EmitsContractum s d e i m r
      other_emits z h =
          record {
            says = λ u e g x k.
                let w = choice_redex u x k o.kind in
                elim ((chosen_says (λ b. anno b int) (number_of w.reduct) w.zero w.other g).0 w.is) [
                  | inl p ↦ absurd (z ((tells w).1 p.0))
                  | inr p ↦ rw p.1 (h.says w.other (rw c w.holds_other))
                ];
          }
