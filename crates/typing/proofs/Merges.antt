-- Merge: both halves' types, whether they may stand together, and their intersection. Assumes nothing.
use Prim.Native.Nat.{ℕ, ◌<◌}
use native.Mathlib.Omega.{arith}
use mathlib.Core.Path.{◌≡◌, refl, ◌∙◌}
use mathlib.Core.Bool.{Bool, true, false}
use mathlib.Core.List.{List}
use Rattle.std.specs.Prelude.{Result, Ok, Err}
use Rattle.calculus.specs.Syntax.{Ty, Term, size}
use Rattle.calculus.specs.Infer.{is_mergeable, merged, infer}
use Rattle.format.specs.Cell.{Cell}
use Rattle.format.specs.Book.{follow}
use Rattle.answers.specs.declared.Refusal.{Refusal}
use Rattle.answers.specs.declared.Refusal.TheVariants.{Merge}
use Rattle.cells.specs.Held.{HoldsType, HoldsTerm, HoldsContext, Same}
use Rattle.cells.proofs.Held.{same_held, same_trans}
use Rattle.decisions.specs.Questions.{HalvesAt, HalvesSay}
use Rattle.typing.specs.Finding.{Finds, TypesBelow, AddsInter}
use Rattle.typing.proofs.Answers.{finding, IsFound, typed, refused_by, handed}
use Rattle.typing.proofs.FirstParts.{merge_sides, Known, known, AtLeft}
use Rattle.typing.proofs.Parts.{Read, FoundAt}

module _ {s u v : List ℕ} {n k c i x μ : ℕ} {y : Cell} (p : Read s n c i 22 μ y) (f : FoundAt s u n k c y.a x) where
  pub merge_right_refused : {k' : ℕ} {r' : Result ℕ Refusal} {q : Refusal} → Finds u v k k' c y.b r' → r' ≡ Err q → Finds s v n k' c i (Err q)
  unfolding infer merged
  merge_right_refused f' e' =
      record {
        says = λ Γ d g h.
            let z = known merge_sides p f g h in
            let b = refused_by (finding f' z.context z.right) e' in
            rw (z.sides.is, z.left.is, b.is) (handed z.sides.right.leads p.ready.term_below z.left.same b);
      }

  module _ {k' x' : ℕ} (f' : FoundAt u v k k' c y.b x') where
    -- both halves' types, of whatever context and term the cells hold
    record Both (Γ : List Ty) (d : Term) : Type 0 where
      of : Known merge_sides p f Γ d
      second : IsFound u v k k' (size of.sides.second) x' (infer Γ of.sides.second)
      same : Same s v n
      left_below : y.a < n
      right_below : y.b < n
      holds : HoldsType v x of.left.type

    both : {Γ : List Ty} {d : Term} → HoldsContext s c Γ → HoldsTerm s i d → Both Γ d
    both g h =
        let q = known merge_sides p f g h in
        let b = typed (finding f'.finds q.context q.right) f'.is in
        let a = p.ready.term_below in
        record {
          of = q;
          second = b;
          same = same_trans q.left.same b.same q.left.more;
          left_below = omega (arith, q.sides.left.leads.lower);
          right_below = omega (arith, q.sides.right.leads.lower);
          holds = same_held b.same q.left.below q.left.holds;
        }

    own_both : Both p.ready.context p.ready.term
    own_both = both p.ready.holds_context p.ready.holds_term

    pub merge_asks : HalvesAt v y.a y.b x x'
    merge_asks =
        let z = own_both in
        record {
          long = omega (arith, z.same.long, p.ready.long);
          terms = record {
            first = z.of.sides.first;
            second = z.of.sides.second;
            holds_first = same_held z.same z.left_below z.of.sides.left.holds;
            holds_second = same_held z.same z.right_below z.of.sides.right.holds;
          };
          types = record { first = z.of.left.type; second = z.second.type; holds_first = z.holds; holds_second = z.second.holds };
        }

    pub merge_adds : TypesBelow v k' x x'
    merge_adds =
        let z = own_both in
        record {
          long = z.same.long ∙ p.ready.long;
          types = merge_asks.types;
          first_below = omega (arith, z.of.left.below, z.second.more);
          second_below = z.second.below;
          room = omega (arith, p.ready.room, z.of.sizes, z.of.left.less, z.second.less);
        }

    module _ {b : Bool} (t : HalvesSay v y.a y.b x x' is_mergeable b) where
      say : {Γ : List Ty} {d : Term} (z : Both Γ d) → b ≡ is_mergeable z.of.sides.first z.of.sides.second z.of.left.type z.second.type
      say z =
          t.says z.of.sides.first z.of.sides.second z.of.left.type z.second.type
          (same_held z.same z.left_below z.of.sides.left.holds)
          (same_held z.same z.right_below z.of.sides.right.holds)
          z.holds
          z.second.holds

      pub merge_conflict : b ≡ false → Finds s v n k' c i (Err (Merge i))
      unfolding infer merged follow
      merge_conflict j =
          record {
            says = λ Γ d g h.
                let z = both g h in
                rw (z.of.sides.is, z.of.left.is, z.second.is, ← say z, j) (Merge i, refl, refl);
          }

      pub merge_found : {w : List ℕ} {l r : ℕ} → b ≡ true → AddsInter v w k' l x x' r → Finds s w n l c i (Ok r)
      unfolding infer merged size
      merge_found j a =
          record {
            says = λ Γ d g h.
                let z = both g h in
                rw (z.of.sides.is, z.of.left.is, z.second.is, ← say z, j, a.counts) (
                  _,
                  refl,
                  omega (arith, z.of.left.more, z.second.more),
                  omega (arith, z.of.left.less, z.second.less),
                  same_trans z.same a.same (omega (arith, z.of.left.more, z.second.more)),
                  omega (arith, a.answers),
                  a.holds z.of.left.type z.second.type z.holds z.second.holds,
                );
          }

-- the point of the code where both halves' types are found
pub record AtBoth (μ : ℕ) : Type 0 where
  pub at : AtLeft 22 μ
  pub v : List ℕ
  pub m : ℕ
  pub x : ℕ
  pub right : FoundAt at.u v at.m m at.at.c at.at.y.b x
