-- The walk over the parts of a held type: what has been found, with what the type left to ask says, is what the whole type says. Assumes nothing.
use Prim.Native.Nat.{ℕ, ◌≤◌, ◌<◌}
use native.Mathlib.Omega.{arith}
use mathlib.Core.Path.{◌≡◌, refl, sym, ap, ◌∙◌}
use mathlib.Core.Logic.{◌⊎◌, inl, inr}
use mathlib.Core.List.{List}
use Rattle.calculus.specs.Syntax.{Ty, inter}
use Rattle.calculus.specs.Decide as Decide
use Rattle.calculus.specs.Decide.{both_parts, field_part, no_part, top_part, more_parts, one_part}
use Rattle.calculus.proofs.Fields.{both_comm, both_assoc}
use Rattle.format.specs.Cell.{Cell, cell_at}
use Rattle.cells.specs.Held.{HoldsType}
use Rattle.cells.proofs.Held.{TwoTypes, inter_at}
use Rattle.projection.specs.declared.FieldPart.{FieldPart}
use Rattle.projection.specs.declared.FieldPart.TheVariants.{Absent}
use Rattle.projection.specs.Parts.{TypeAt, PartIs, Joins, FindsFieldPart, FindsSingle}

-- a type that is not asked further by itself: no intersection, or one that is top-like
pub only_marked : {k c : ℕ} → ((k ≡ 4) × (c ≡ 1)) ⊎ (k ≡ 4 → ⊥) → k ≡ 4 → c ≡ 1
only_marked (inl h) k = h.1
only_marked (inr n) k = absurd (n k)

-- a part of a lower type is a part of the whole
raised : (s : List ℕ) {a b : ℕ} (r : FieldPart) (p : Decide.FieldPart) → b ≤ a → PartIs s b r p → PartIs s a r p
raised s r no_part l h = h
raised s r top_part l h = h
raised s r more_parts l h = h
raised s r (one_part C) l h = (h.0, h.1, omega (arith, l, h.2), h.3)

-- Cells b and c hold the halves of the type I at i, in either order.
pub record Halves (s : List ℕ) (l i b c : ℕ) (I : Ty) : Type 0 where
  pub first : Ty
  pub second : Ty
  pub holds_first : HoldsType s b first
  pub holds_second : HoldsType s c second
  pub first_lower : b < i
  pub second_lower : c < i
  pub is : field_part l I ≡ both_parts (field_part l first) (field_part l second)

module _ {s : List ℕ} {l i : ℕ} where
  pub halves : {x : Cell} → x ≡ cell_at s i → x.kind ≡ 4 → (I : Ty) → HoldsType s i I → Halves s l i x.a x.b I
  unfolding field_part
  halves o k I h = rw o (go (inter_at h (rw o at k)))
    where
      go : TwoTypes s i inter I → Halves s l i (cell_at s i).a (cell_at s i).b I
      go v = record {
        first = v.first;
        second = v.second;
        holds_first = v.holds_first;
        holds_second = v.holds_second;
        first_lower = v.first_lower;
        second_lower = v.second_lower;
        is = ap (field_part l) v.is;
      }

  pub swapped : {b c : ℕ} {I : Ty} → Halves s l i b c I → Halves s l i c b I
  swapped v = record {
    first = v.second;
    second = v.first;
    holds_first = v.holds_second;
    holds_second = v.holds_first;
    first_lower = v.second_lower;
    second_lower = v.first_lower;
    is = v.is ∙ both_comm (field_part l v.first) (field_part l v.second);
  }

-- of the type A at a: what has been found, and the type at i that is left to ask
pub record Left (s : List ℕ) (a l i : ℕ) (found : FieldPart) (A : Ty) : Type 0 where
  pub part : Decide.FieldPart
  pub found_is : PartIs s a found part
  pub type : Ty
  pub holds : HoldsType s i type
  pub is : field_part l A ≡ both_parts part (field_part l type)

-- the walk is at cell x, which is that at i
pub record Walk (s : List ℕ) (a l : ℕ) (found : FieldPart) (i : ℕ) (x : Cell) : Type 0 where
  pub at : TypeAt s i
  pub lower : i ≤ a
  pub read : x ≡ cell_at s i
  pub on : (A : Ty) → HoldsType s a A → Left s a l i found A

module _ {s : List ℕ} {a l : ℕ} {x : Cell} where
  pub starts : TypeAt s a → x ≡ cell_at s a → Walk s a l Absent a x
  unfolding both_parts
  starts p o = record {
    at = p;
    lower = omega arith;
    read = o;
    on = λ A h. record { part = no_part; found_is = refl; type = A; holds = h; is = refl };
  }

  module _ {found : FieldPart} {i : ℕ} (w : Walk s a l found i x) where
    -- one half, at b, has been asked: the other one, at c, is left
    goes_on : {b c : ℕ} {y : Cell} {p r : FieldPart} → ((I : Ty) → HoldsType s i I → Halves s l i b c I) → FindsFieldPart s b l p → Joins found p r
        → y ≡ cell_at s c → Walk s a l r c y
    goes_on {b} {c} {y} {p} {r} v f j o =
        let m = v _ w.at.holds in
        let below : b ≤ a = omega (arith, m.first_lower, w.lower) in
        record {
          at = record { type = m.second; holds = m.holds_second };
          lower = omega (arith, m.second_lower, w.lower);
          read = o;
          on = λ A h. let u = w.on A h in past u (v u.type u.holds) below;
        }
      where
        past : {A : Ty} (u : Left s a l i found A) → Halves s l i b c u.type → b ≤ a → Left s a l c r A
        past u m n =
            let P = field_part l m.first in
            record {
              part = both_parts u.part P;
              found_is = j.says s a u.part P u.found_is (raised s p P n (f.says m.first m.holds_first));
              type = m.second;
              holds = m.holds_second;
              is = u.is ∙ ap (both_parts u.part) m.is ∙ sym (both_assoc u.part P (field_part l m.second));
            }

    -- at an intersection
    module _ (k : x.kind ≡ 4) where
      pub own : Halves s l i x.a x.b w.at.type
      own = halves w.read k w.at.type w.at.holds

      module _ {y : Cell} {p r : FieldPart} where
        -- both halves have parts: the left one has been asked
        pub to_right : FindsFieldPart s x.a l p → Joins found p r → y ≡ cell_at s x.b → Walk s a l r x.b y
        to_right = goes_on (halves w.read k)

        -- the right half, cell z, is a single part or top-like, and has been asked
        pub to_left : {z : Cell} → z ≡ cell_at s x.b → (z.kind ≡ 4 → z.c ≡ 1) → FindsSingle z l p → Joins found p r → y ≡ cell_at s x.a → Walk s a l r x.a y
        to_left e n f = goes_on (λ I h. swapped (halves w.read k I h)) (f.says s x.b e n)

    -- the last type has been asked
    pub ends : {p r : FieldPart} → (x.kind ≡ 4 → x.c ≡ 1) → FindsSingle x l p → Joins found p r → FindsFieldPart s a l r
    ends {p} n f j = record {
      says = λ A h.
          let u = w.on A h in
          let P = field_part l u.type in
          rw u.is (j.says s a u.part P u.found_is (raised s p P w.lower ((f.says s i w.read n).says u.type u.holds)));
    }
