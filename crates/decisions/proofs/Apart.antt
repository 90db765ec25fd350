-- Disjointness of two held types, by the kinds of their cells: what it asks of the parts, and what it answers outright.
-- Assumes nothing.
use Prim.Native.Nat.{ℕ, ◌+◌}
use mathlib.Core.Path.{◌≡◌, refl, sym, ap, ◌∙◌}
use mathlib.Core.Bool.{true, false, ◌&&◌}
use mathlib.Core.List.{List}
use native.Mathlib.Omega.{arith}
use borrow.Author.Tests.{eq-eqb, ne_eqb}
use Rattle.calculus.specs.Syntax.{Ty}
use Rattle.calculus.specs.Decide.{is_disjoint, disjoint_int}
use Rattle.calculus.proofs.Decisions.{is_disjoint_top_like_left, is_disjoint_top_like_right, is_disjoint_heads, is_disjoint_inter_left, is_disjoint_inter_right, is_disjoint_arrow, is_disjoint_field}
use Rattle.format.specs.Cell.{Cell, cell_at}
use Rattle.cells.specs.Held.{HoldsType}
use Rattle.cells.proofs.Held.{top_like, arrow_at}
use Rattle.decisions.proofs.Parts.{Passes, Splits}
use Rattle.decisions.proofs.Forms.{Types, right_inter, left_inter, contents, labels, kind_first, kind_second}
use Rattle.decisions.proofs.Heads.{first_head, second_head, heads_differ, two_numbers}

pub left_top : {s : List ℕ} {a : ℕ} {A : Ty} (B : Ty) → HoldsType s a A → (x : Cell) → x ≡ cell_at s a → x.c ≡ 1 → true ≡ is_disjoint A B
left_top {A} B h x e m = sym (is_disjoint_top_like_left A B (top_like h x e m))

pub right_top : {s : List ℕ} {b : ℕ} {B : Ty} (A : Ty) → HoldsType s b B → (y : Cell) → y ≡ cell_at s b → y.c ≡ 1 → true ≡ is_disjoint A B
right_top {B} A h y e m = sym (is_disjoint_top_like_right A B (top_like h y e m))

module _ {s : List ℕ} {a b : ℕ} {x y : Cell} {A B : Ty} (t : Types s a b x y A B) where
  pub left_halves : x.kind ≡ 4 → Splits (HoldsType s) is_disjoint ◌&&◌ (a + b) x.a b x.b b A B
  left_halves k = left_inter t is_disjoint ◌&&◌ (λ C D. is_disjoint_inter_left C D B) k

  pub right_halves : y.kind ≡ 4 → Splits (HoldsType s) is_disjoint ◌&&◌ (a + b) a y.a a y.b A B
  right_halves k = right_inter t is_disjoint ◌&&◌ (is_disjoint_inter_right A) k

  -- both are neither top_like nor intersections
  module _ (u : x.c ≡ 1 → ⊥) (v : x.kind ≡ 4 → ⊥) (n : y.c ≡ 1 → ⊥) (o : y.kind ≡ 4 → ⊥) where
    pub other_kinds : (x.kind ≡ y.kind → ⊥) → true ≡ is_disjoint A B
    other_kinds d = sym (is_disjoint_heads (first_head t u v n o).has (second_head t u v n o).has (heads_differ t u v n o d))

    pub numbers : x.kind ≡ y.kind → (x.kind ≡ 3 → ⊥) → (x.kind ≡ 5 → ⊥) → false ≡ is_disjoint A B
    unfolding is_disjoint disjoint_int
    numbers e f g = let p = two_numbers t u v n o e f g in rw (p.0, p.1) refl

  module _ (e : x.kind ≡ y.kind) where
    pub outputs : x.kind ≡ 3 → Passes (HoldsType s) is_disjoint (a + b) x.b y.b A B
    outputs k = rw (t.is_first, t.is_second)
        let p = arrow_at t.holds_first (kind_first t k) in
        let r = arrow_at t.holds_second (kind_second t e k) in
        record {
          part = record { first = p.second; second = r.second; holds_first = p.holds_second; holds_second = r.holds_second };
          less = omega arith;
          is = ap (λ C. is_disjoint C B) p.is ∙ ap (is_disjoint _) r.is ∙ is_disjoint_arrow p.first p.second r.first r.second;
        }

    pub fields : x.kind ≡ 5 → x.label ≡ y.label → Passes (HoldsType s) is_disjoint (a + b) x.a y.a A B
    fields k l = contents t is_disjoint e (λ m C D f. is_disjoint_field m m C D ∙ rw (eq-eqb m m refl) refl) k l

    pub other_labels : x.kind ≡ 5 → (x.label ≡ y.label → ⊥) → true ≡ is_disjoint A B
    other_labels k l = labels t is_disjoint e (λ m o C D f d. sym (is_disjoint_field m o C D ∙ rw (ne_eqb m o d) refl)) k l
