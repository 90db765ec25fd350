-- The halves of a merge: whether they may stand together. Assumes nothing.
use Prim.Native.Nat.{ℕ, ◌≤◌, ◌<◌}
use mathlib.Core.Path.{◌≡◌, refl, ap}
use mathlib.Core.Bool.{Bool, true, false, ◌&&◌, ◌||◌}
use mathlib.Core.List.{List}
use native.Mathlib.Omega.{arith}
use lib.ListN.{length}
use Rattle.calculus.specs.Syntax.{Ty, Term}
use Rattle.calculus.specs.Decide.{is_disjoint, is_value, is_closed, is_consistent}
use Rattle.calculus.specs.Infer.{is_mergeable}
use Rattle.cells.specs.Held.{HoldsTerm}
use Rattle.cells.proofs.Held.{held_within}
use Rattle.decisions.specs.Questions.{TermSays, TermsSay, TypesSay, HalvesSay, is_closed_value}
use Rattle.decisions.proofs.Parts.{and_both, and_none, or_both, or_some}

-- a cell of a buffer of 8,192 cells is far below the bound on binders
pub few : {s : List ℕ} {i : ℕ} {e : Term} → length s ≤ 65536 → HoldsTerm s i e → i < 131072
few l h = let w = held_within h in omega arith

mergeable_are : (e f : Term) (A B : Ty) → is_mergeable e f A B ≡ (is_disjoint A B || (is_closed_value e && (is_closed_value f && is_consistent e f)))
unfolding is_mergeable is_value is_closed
mergeable_are e f A B = ap (λ (x : Bool). is_disjoint A B || x) (halves (is_value e) (is_value f) (is_closed 0 e) (is_closed 0 f) (is_consistent e f))
  where
    halves : (a b c d g : Bool) → (((a && b) && (c && d)) && g) ≡ ((a && c) && ((b && d) && g))
    halves false b c d g = refl
    halves true false false d g = refl
    halves true false true d g = refl
    halves true true false d g = refl
    halves true true true d g = refl

module _ {s : List ℕ} {i j a b : ℕ} {p : Bool} (u : TypesSay s a b is_disjoint p) where
  pub apart : p ≡ true → HalvesSay s i j a b is_mergeable p
  apart t = record { says = λ e f A B h k m n. or_some _ (mergeable_are e f A B) (u.says A B m n) t }

  module _ {q : Bool} (t : p ≡ false) (v : TermSays s i is_closed_value q) where
    pub not_first : q ≡ false → HalvesSay s i j a b is_mergeable q
    not_first o = record {
      says = λ e f A B h k m n. or_both (mergeable_are e f A B) (u.says A B m n) t (and_none (is_closed_value f && is_consistent e f) refl (v.says e h) o);
    }

    module _ {x : Bool} (o : q ≡ true) (w : TermSays s j is_closed_value x) where
      pub not_second : x ≡ false → HalvesSay s i j a b is_mergeable x
      not_second z = record {
        says = λ e f A B h k m n.
            or_both (mergeable_are e f A B) (u.says A B m n) t
            (and_both refl (v.says e h) o (and_none (is_consistent e f) refl (w.says f k) z));
      }

      pub agreeing : {r : Bool} → x ≡ true → TermsSay s i j is_consistent r → HalvesSay s i j a b is_mergeable r
      agreeing z y = record {
        says = λ e f A B h k m n.
            or_both (mergeable_are e f A B) (u.says A B m n) t
            (and_both refl (v.says e h) o (and_both refl (w.says f k) z (y.says e f h k)));
      }
