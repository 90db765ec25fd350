-- What follows of reordered values from the promise alone. Assumes nothing.
use Prim.Native.Nat.{ℕ}
use mathlib.Core.Path.{subst⁻¹}
use mathlib.Core.List.{[], ◌∷◌}
use lib.IntN.{pos}
use Rattle.calculus.specs.Syntax.{Ty, int, Value, v_lit, v_merge, v_rcd}
use Rattle.calculus.specs.Syntax.{Term, lit, anno, merge, rcd}
use Rattle.calculus.specs.TypedReduction.{Cast}
use Rattle.calculus.specs.Typing.{HasType, t_anno}
use Rattle.calculus.specs.Step.{Step, s_anno, s_cast}
use Rattle.calculus.specs.Decide.{is_closed}
use Rattle.calculus.specs.Order.{Reordered, to_right, SameValue}
use Rattle.calculus.proofs.TypedReduction.{cast_below, below_cast}
use Rattle.calculus.proofs.Typing.{typed_closed}
use Rattle.calculus.proofs.Soundness.{value_typed, value_no_step}
use Rattle.calculus.proofs.Evaluation.{anno_typed}
use Rattle.calculus.proofs.Reordered.{reordered_value}
use Rattle.calculus.proofs.Order.{order_free}

-- ---- the promise asked of (1,,{1=2}),,1 and 1,,({1=2},,1) under a binder: the halves are not disjoint

abbrev grouped_left : Term
grouped_left = merge (merge (lit (pos 1)) (rcd 1 (lit (pos 2)))) (lit (pos 1))

abbrev grouped_right : Term
grouped_right = merge (lit (pos 1)) (merge (rcd 1 (lit (pos 2))) (lit (pos 1)))

grouped : SameValue (int ∷ []) grouped_left grouped_right
unfolding is_closed
grouped = order_free (int ∷ []) grouped_left grouped_right (_, v_merge (v_merge v_lit (v_rcd v_lit)) v_lit) tt to_right

-- what the one reads, the other reads
grouped_reads : HasType (int ∷ []) grouped_left → (A : Ty) (x : Term) → Cast grouped_left A x → Cast grouped_right A x
grouped_reads t A x c =
    let (y, d) = (grouped.together t A).0 (x, c) in
    subst⁻¹ (Cast grouped_right A) (grouped.equal t A x y c d) d

-- ---- annotated values, by the promise alone

-- an annotated value becomes its reading
pub anno_step : {h : ℕ} {v g : Term} {A D : Ty} → Value v D → Step h (anno v A) g → Cast v A g
anno_step v (s_anno s) = absurd (value_no_step v s)
anno_step v (s_cast c) = c

module _ {v w : Term} {A D : Ty} (p : Value v D) (r : Reordered v w) where
  same : HasType [] (anno v A) → SameValue [] v w
  same t = order_free [] v w (D, p) (typed_closed (anno_typed t).1) r

  -- typed, and so is the value reordered under the same annotation
  pub anno_reordered : HasType [] (anno v A) → HasType [] (anno w A)
  anno_reordered (B, t_anno t b) =
      let s = same (B, t_anno t b) in
      let u = s.accepted.0 (_, t) in
      let c = (s.together (_, t) A).0 (below_cast (value_typed t p) b) in
      (A, t_anno u.1 (cast_below c.1 (value_typed u.1 (reordered_value r p).1)))

  -- with the same successor, at every range
  pub step_reordered : {h : ℕ} {g : Term} (k : ℕ) → HasType [] (anno v A) → Step h (anno v A) g → Step k (anno w A) g
  step_reordered {g = g} k t s =
      let c = anno_step p s in
      let d = ((same t).together (anno_typed t) A).0 (g, c) in
      s_cast (subst⁻¹ (Cast w A) ((same t).equal (anno_typed t) A g d.0 c d.1) d.1)
