-- The answer for an intersection, from those for its halves: one function of the code's answers, that says what the calculus's does. Assumes nothing.
use Prim.Native.Nat.{ℕ}
use mathlib.Core.Path.{◌≡◌, refl}
use mathlib.Core.List.{List}
use Rattle.calculus.specs.Decide as Decide
use Rattle.calculus.specs.Decide.{both_parts, no_part, top_part, more_parts, one_part}
use Rattle.projection.specs.declared.FieldPart.{FieldPart}
use Rattle.projection.specs.declared.FieldPart.TheVariants.{Absent, TopLike, One, More}
use Rattle.projection.specs.Parts.{PartIs, Joins}

-- by the variants of the two
abbrev pub joined : FieldPart → FieldPart → FieldPart
joined Absent y = y
joined TopLike Absent = TopLike
joined TopLike TopLike = TopLike
joined TopLike (One b) = One b
joined TopLike More = More
joined (One a) Absent = One a
joined (One a) TopLike = One a
joined (One a) (One b) = More
joined (One a) More = More
joined More y = More

module _ {x y : FieldPart} where
  pub joins : {r : FieldPart} → joined x y ≡ r → Joins x y r
  unfolding both_parts
  joins e = record { says = λ s a p q h k. rw (← e) (go s a p q h k) }
    where
      go : (s : List ℕ) (a : ℕ) (p q : Decide.FieldPart) → PartIs s a x p → PartIs s a y q → PartIs s a (joined x y) (both_parts p q)
      go s a no_part q h k = rw h k
      go s a top_part no_part h k = rw (h, k) refl
      go s a top_part top_part h k = rw (h, k) refl
      go s a top_part more_parts h k = rw (h, k) refl
      go s a top_part (one_part D) h k = rw (h, k.1) (k.0, refl, k.2, k.3)
      go s a more_parts q h k = rw h refl
      go s a (one_part C) no_part h k = rw (h.1, k) (h.0, refl, h.2, h.3)
      go s a (one_part C) top_part h k = rw (h.1, k) (h.0, refl, h.2, h.3)
      go s a (one_part C) more_parts h k = rw (h.1, k) refl
      go s a (one_part C) (one_part D) h k = rw (h.1, k.1) refl

  -- ---- by the halves that say nothing, and those that are top-like

  pub left_none : x ≡ Absent → Joins x y y
  left_none e = joins (rw e refl)

  pub right_none : y ≡ Absent → Joins x y x
  right_none e = joins (rw e (go x))
    where
      go : (x : FieldPart) → joined x Absent ≡ x
      go Absent = refl
      go TopLike = refl
      go (One a) = refl
      go More = refl

  pub left_top : x ≡ TopLike → (y ≡ Absent → ⊥) → Joins x y y
  left_top e n = joins (rw e (go y n))
    where
      go : (y : FieldPart) → (y ≡ Absent → ⊥) → joined TopLike y ≡ y
      go Absent n = absurd (n refl)
      go TopLike n = refl
      go (One b) n = refl
      go More n = refl

  pub right_top : y ≡ TopLike → (x ≡ Absent → ⊥) → Joins x y x
  right_top e n = joins (rw e (go x n))
    where
      go : (x : FieldPart) → (x ≡ Absent → ⊥) → joined x TopLike ≡ x
      go Absent n = absurd (n refl)
      go TopLike n = refl
      go (One a) n = refl
      go More n = refl

  -- neither says nothing, and neither is top-like
  pub two_parts : (x ≡ Absent → ⊥) → (x ≡ TopLike → ⊥) → (y ≡ Absent → ⊥) → (y ≡ TopLike → ⊥) → Joins x y More
  two_parts n m i j = joins (go x y n m i j)
    where
      go : (x y : FieldPart) → (x ≡ Absent → ⊥) → (x ≡ TopLike → ⊥) → (y ≡ Absent → ⊥) → (y ≡ TopLike → ⊥) → joined x y ≡ More
      go Absent y n m i j = absurd (n refl)
      go TopLike y n m i j = absurd (m refl)
      go (One a) Absent n m i j = absurd (i refl)
      go (One a) TopLike n m i j = absurd (j refl)
      go (One a) (One b) n m i j = refl
      go (One a) More n m i j = refl
      go More y n m i j = refl
