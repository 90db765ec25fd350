-- The part of a held type that has the field, by the kind and the mark of its cell. Assumes nothing.
use Prim.Native.Nat.{ℕ, ◌<◌}
use mathlib.Core.Path.{◌≡◌, refl, sym, ap, subst, ◌∙◌}
use mathlib.Core.Bool.{false}
use mathlib.Core.List.{List}
use lib.Dec.{T}
use borrow.Author.Tests.{eq-eqb, ne_eqb}
use Rattle.calculus.specs.Syntax.{Ty, int, top, arrow, inter, field}
use Rattle.calculus.specs.Decide as Decide
use Rattle.calculus.specs.Decide.{is_top_like, field_part, no_part, top_part, more_parts, one_part}
use Rattle.calculus.proofs.Decisions.{is_top_like_says}
use Rattle.calculus.proofs.Fields.{top_like_part}
use Rattle.format.specs.Cell.{Cell, cell_at}
use Rattle.format.specs.Tree.{kind_in}
use Rattle.format.specs.Terms.{from_type}
use Rattle.cells.specs.Held.{HoldsType}
use Rattle.cells.proofs.Held.{top_like, not_top_like, kind_of_held, read_kind, field_at}
use Rattle.projection.specs.declared.FieldPart.{FieldPart}
use Rattle.projection.specs.declared.FieldPart.TheVariants.{Absent, TopLike, One, More}
use Rattle.projection.specs.Parts.{PartIs, FindsSingle}

-- what an answer tells of the part
abbrev pub Told : List ℕ → ℕ → FieldPart → Decide.FieldPart → Type 0
Told s a Absent p = p ≡ no_part
Told s a TopLike p = p ≡ top_part
Told s a More p = p ≡ more_parts
Told s a (One b) p = (C : Ty) × (p ≡ one_part C) × (b < a) × HoldsType s b C

pub told : (s : List ℕ) (a : ℕ) (r : FieldPart) (p : Decide.FieldPart) → PartIs s a r p → Told s a r p
told s a r no_part h = rw h refl
told s a r top_part h = rw h refl
told s a r more_parts h = rw h refl
told s a r (one_part C) h = rw h.1 (C, refl, h.2, h.3)

-- the type that a cell holds, by the mark and the kind of the cell, wherever it is
module _ {x : Cell} {l : ℕ} where
  -- a top_like type
  pub marked : x.c ≡ 1 → FindsSingle x l TopLike
  marked m = record {
    says = λ s a o u. record { says = λ A h. rw (top_like_part l A ((is_top_like_says A).0 (top_like h x o m))) refl };
  }

  module _ (n : ¬ (x.c ≡ 1)) where
    -- a record type of the label
    pub here : x.kind ≡ 5 → x.label ≡ l → FindsSingle x l (One x.a)
    unfolding field_part is_top_like
    here k e = record {
      says = λ s a o u. record {
        says = λ A h.
            let v = field_at h (rw o at k) in
            let t : is_top_like v.content ≡ false = ap is_top_like (sym v.is) ∙ not_top_like h x o n in
            rw (v.is, t, eq-eqb l (cell_at s a).label (rw (← o) (sym e))) (x.a, refl, rw o v.lower, rw o v.holds);
      };
    }

    -- no record type of the label
    pub absent : (x.kind ≡ 5 → ¬ (x.label ≡ l)) → FindsSingle x l Absent
    unfolding field_part is_top_like from_type kind_in
    absent w = record { says = λ s a o u. record { says = λ A h. go o u A h (not_top_like h x o n) } }
      where
        go : {s : List ℕ} {a : ℕ} → x ≡ cell_at s a → (x.kind ≡ 4 → x.c ≡ 1) → (A : Ty) → HoldsType s a A → is_top_like A ≡ false → PartIs s a Absent (field_part l A)
        go o u int h t = refl
        go o u top h t = absurd (subst T t tt)
        go o u (arrow A B) h t = rw t refl
        go o u (inter A B) h t = absurd (n (u (read_kind o h)))
        go o u (field k A) h t =
            let v = field_at h (kind_of_held h) in
            let d : ¬ (l ≡ k) = λ e. w (read_kind o h) (cc (o, v.is)) in
            rw (t, ne_eqb l k d) refl
