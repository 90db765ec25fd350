-- Subtyping of two held types, by the kinds of their cells: what it asks of the parts, and what it answers outright. Assumes nothing.
use Prim.Native.Nat.{ℕ, ◌+◌}
use mathlib.Core.Path.{◌≡◌, refl, sym, ap, subst, ◌∙◌}
use mathlib.Core.Bool.{Bool, true, false, ◌&&◌, ◌||◌}
use lib.Dec.{T}
use mathlib.Core.List.{List}
use native.Mathlib.Omega.{arith}
use borrow.Author.Tests.{eq-eqb, ne_eqb}
use Rattle.calculus.specs.Syntax.{Ty, size_type}
use Rattle.calculus.specs.Subtyping.{Below}
use Rattle.calculus.proofs.Subtyping.{below_refl}
use Rattle.calculus.specs.Decide.{is_top_like, is_below, below_within}
use Rattle.calculus.proofs.Decisions.{is_below_true, is_below_top_like, is_below_from_top_like, is_below_inter_right, is_below_inter_left, is_below_arrow, is_below_field, is_below_heads}
use Rattle.format.specs.Cell.{Cell, cell_at}
use Rattle.cells.specs.Held.{HoldsType}
use Rattle.cells.proofs.Held.{top_like, not_top_like, arrow_at, held_one}
use Rattle.decisions.specs.Questions.{TypesAt, UnderPlain}
use Rattle.decisions.proofs.Parts.{Passes, Splits, Whenever}
use Rattle.decisions.proofs.Forms.{Types, read, right_inter, left_inter, contents, labels, kind_first, kind_second}
use Rattle.decisions.proofs.Heads.{kind_for, head_at, head_ordinary, first_head, second_head, heads_differ, two_numbers}

-- a type is below itself
pub one_cell : {s : List ℕ} {a b : ℕ} {A B : Ty} → a ≡ b → HoldsType s a A → HoldsType s b B → true ≡ is_below A B
one_cell {A} {B} e h k = sym (is_below_true (subst (Below A) (held_one (rw e at h) k) (below_refl A)))

pub above_top : {s : List ℕ} {b : ℕ} {B : Ty} (A : Ty) → HoldsType s b B → (y : Cell) → y ≡ cell_at s b → y.c ≡ 1 → true ≡ is_below A B
above_top {B} A h y e m = sym (is_below_top_like A B (top_like h y e m))

module _ {s : List ℕ} {a b : ℕ} {x y : Cell} {A B : Ty} (t : Types s a b x y A B) where
  pub right_halves : y.kind ≡ 4 → Splits (HoldsType s) is_below ◌&&◌ (a + b) a y.a a y.b A B
  right_halves k = right_inter t is_below ◌&&◌ (is_below_inter_right A) k

  module _ (n : y.c ≡ 1 → ⊥) where
    pub from_top : x.c ≡ 1 → false ≡ is_below A B
    from_top m = sym (is_below_from_top_like A B (top_like t.holds_first x t.is_first m) (not_top_like t.holds_second y t.is_second n))

    module _ (o : y.kind ≡ 4 → ⊥) where
      pub left_halves : x.kind ≡ 4 → Splits (HoldsType s) is_below ◌||◌ (a + b) x.a b x.b b A B
      left_halves k =
          let u = not_top_like t.holds_second y t.is_second n in
          let v = head_at t.holds_second y t.is_second o u in
          left_inter t is_below ◌||◌ (λ C D. is_below_inter_left C D B (head_ordinary v.has) u) k

      unlike_by : (b : Bool) → is_top_like A ≡ b → (x.kind ≡ 4 → ⊥) → (x.kind ≡ y.kind → ⊥) → false ≡ is_below A B
      unlike_by true e v d =
          sym (is_below_from_top_like A B (subst T (sym e) tt) (not_top_like t.holds_second y t.is_second n))
      unlike_by false e v d =
          let u = not_top_like t.holds_second y t.is_second n in
          let h = head_at t.holds_first x t.is_first v e in
          let k = head_at t.holds_second y t.is_second o u in
          sym (is_below_heads h.has k.has (λ e. d (h.kind ∙ ap kind_for e ∙ sym k.kind)) u)

      -- two kinds, the left one no intersection
      pub unlike : (x.kind ≡ 4 → ⊥) → (x.kind ≡ y.kind → ⊥) → false ≡ is_below A B
      unlike = unlike_by (is_top_like A) refl

  -- both are neither top_like nor intersections
  module _ (u : x.c ≡ 1 → ⊥) (v : x.kind ≡ 4 → ⊥) (n : y.c ≡ 1 → ⊥) (o : y.kind ≡ 4 → ⊥) where
    pub other_kinds : (x.kind ≡ y.kind → ⊥) → false ≡ is_below A B
    other_kinds d =
        sym (is_below_heads (first_head t u v n o).has (second_head t u v n o).has (heads_differ t u v n o d) (not_top_like t.holds_second y t.is_second n))

    pub numbers : x.kind ≡ y.kind → (x.kind ≡ 3 → ⊥) → (x.kind ≡ 5 → ⊥) → true ≡ is_below A B
    unfolding is_below below_within size_type
    numbers e f g = let p = two_numbers t u v n o e f g in rw (p.0, p.1) refl

  module _ (n : y.c ≡ 1 → ⊥) (e : x.kind ≡ y.kind) where
    not_top : is_top_like B ≡ false
    not_top = not_top_like t.holds_second y t.is_second n

    pub functions : x.kind ≡ 3 → Splits (HoldsType s) is_below ◌&&◌ (a + b) y.a x.a x.b y.b A B
    unfolding is_top_like
    functions k = rw (t.is_first, t.is_second)
        let p = arrow_at t.holds_first (kind_first t k) in
        let r = arrow_at t.holds_second (kind_second t e k) in
        record {
          first = record { first = r.first; second = p.first; holds_first = r.holds_first; holds_second = p.holds_first };
          second = record { first = p.second; second = r.second; holds_first = p.holds_second; holds_second = r.holds_second };
          first_less = omega arith;
          second_less = omega arith;
          is = ap (λ C. is_below C B) p.is ∙ ap (is_below _) r.is ∙ is_below_arrow p.first p.second r.first r.second (ap is_top_like (sym r.is) ∙ not_top);
        }

    pub fields : x.kind ≡ 5 → x.label ≡ y.label → Passes (HoldsType s) is_below (a + b) x.a y.a A B
    unfolding is_top_like
    fields k l = contents t is_below e (λ m C D f. is_below_field m m C D (ap is_top_like (sym f) ∙ not_top) ∙ rw (eq-eqb m m refl) refl) k l

    pub other_labels : x.kind ≡ 5 → (x.label ≡ y.label → ⊥) → false ≡ is_below A B
    unfolding is_top_like
    other_labels k l = labels t is_below e (λ m o C D f d. sym (is_below_field m o C D (ap is_top_like (sym f) ∙ not_top) ∙ rw (ne_eqb m o d) refl)) k l

-- A cell as read is neither marked nor of a kind where it is not so in the buffer.
pub not_marked : {x y : Cell} → x ≡ y → (y.c ≡ 1 → ⊥) → x.c ≡ 1 → ⊥
not_marked e n m = n (ap (λ (t : Cell). t.c) (sym e) ∙ m)

pub not_kind : {x y : Cell} {k : ℕ} → x ≡ y → (y.kind ≡ k → ⊥) → x.kind ≡ k → ⊥
not_kind e n m = n (ap (λ (t : Cell). t.kind) (sym e) ∙ m)

-- The same with other types first.
pub under : {s : List ℕ} {a b i : ℕ} → UnderPlain s a b → TypesAt s i b → UnderPlain s i b
under p t = record { types = t; second_marked = p.second_marked; second_single = p.second_single }

-- The halves of an intersection at i, read as x, over a type that is neither top_like nor an intersection.
pub halves_of : {s : List ℕ} {a b i k : ℕ} {x : Cell} → x ≡ cell_at s i → k ≡ (cell_at s i).kind → k ≡ 4 → UnderPlain s a b →
    Whenever (HoldsType s) i b (Splits (HoldsType s) is_below ◌||◌ (i + b) x.a b x.b b)
halves_of {s} {b} e f g p A B h k =
    left_halves (read e refl h k) p.second_marked p.second_single (ap (λ (t : Cell). t.kind) e ∙ sym f ∙ g)
