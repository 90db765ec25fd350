-- A question about two held types, by the kinds of their cells: one law a form of the pair, for every question that has the equation
-- of that form. Assumes nothing.
use Prim.Native.Nat.{ℕ, ◌+◌, ◌*◌}
use mathlib.Core.Path.{◌≡◌, ap, sym, ◌∙◌}
use mathlib.Core.Bool.{Bool}
use mathlib.Core.List.{List}
use native.Mathlib.Omega.{arith}
use Rattle.calculus.specs.Syntax.{Ty, inter, field, Term}
use Rattle.format.specs.Cell.{Cell, cell_at}
use Rattle.cells.specs.Held.{HoldsType, HoldsTerm}
use Rattle.cells.proofs.Held.{inter_at, field_at}
use Rattle.decisions.specs.Questions.{PairAt}
use Rattle.decisions.proofs.Parts.{Passes, Splits}

-- x and y are what stands in cells a and b, which hold A and B
pub record Read {X : Type 0} (H : List ℕ → ℕ → X → Type 0) (s : List ℕ) (a b : ℕ) (x y : Cell) (A B : X) : Type 0 where
  pub is_first : x ≡ cell_at s a
  pub is_second : y ≡ cell_at s b
  pub holds_first : H s a A
  pub holds_second : H s b B

abbrev pub Types : (s : List ℕ) (a b : ℕ) (x y : Cell) (A B : Ty) → Type 0
Types = Read HoldsType

abbrev pub Terms : (s : List ℕ) (a b : ℕ) (x y : Cell) (e f : Term) → Type 0
Terms = Read HoldsTerm

module _ {X : Type 0} {H : List ℕ → ℕ → X → Type 0} {s : List ℕ} {a b : ℕ} {x y : Cell} where
  pub read : {A B : X} → x ≡ cell_at s a → y ≡ cell_at s b → H s a A → H s b B → Read H s a b x y A B
  read e f h k = record { is_first = e; is_second = f; holds_first = h; holds_second = k }

  pub read_at : x ≡ cell_at s a → y ≡ cell_at s b → (p : PairAt (H s) a b) → Read H s a b x y p.first p.second
  read_at e f p = read e f p.holds_first p.holds_second

module _ {X : Type 0} {H : List ℕ → ℕ → X → Type 0} {s : List ℕ} {a b : ℕ} {x y : Cell} {A B : X} (t : Read H s a b x y A B) where
  pub kind_first : {n : ℕ} → x.kind ≡ n → (cell_at s a).kind ≡ n
  kind_first k = rw t.is_first at k

  pub kind_second : {n : ℕ} → x.kind ≡ y.kind → x.kind ≡ n → (cell_at s b).kind ≡ n
  kind_second e k = ap (λ (u : Cell). u.kind) (sym t.is_second) ∙ sym e ∙ k

module _ {s : List ℕ} {a b : ℕ} {x y : Cell} {A B : Ty} (t : Types s a b x y A B) (q : Ty → Ty → Bool) where
  pub right_inter : (j : Bool → Bool → Bool) → ((C D : Ty) → q A (inter C D) ≡ j (q A C) (q A D)) → y.kind ≡ 4 →
      Splits (HoldsType s) q j (a + b) a y.a a y.b A B
  right_inter j eq k = rw t.is_second let p = inter_at t.holds_second (rw t.is_second at k) in record {
    first = record { first = A; second = p.first; holds_first = t.holds_first; holds_second = p.holds_first };
    second = record { first = A; second = p.second; holds_first = t.holds_first; holds_second = p.holds_second };
    first_less = omega arith;
    second_less = omega arith;
    is = ap (q A) p.is ∙ eq p.first p.second;
  }

  pub left_inter : (j : Bool → Bool → Bool) → ((C D : Ty) → q (inter C D) B ≡ j (q C B) (q D B)) → x.kind ≡ 4 →
      Splits (HoldsType s) q j (a + b) x.a b x.b b A B
  left_inter j eq k = rw t.is_first let p = inter_at t.holds_first (kind_first t k) in record {
    first = record { first = p.first; second = B; holds_first = p.holds_first; holds_second = t.holds_second };
    second = record { first = p.second; second = B; holds_first = p.holds_second; holds_second = t.holds_second };
    first_less = omega arith;
    second_less = omega arith;
    is = ap (λ C. q C B) p.is ∙ eq p.first p.second;
  }

  module _ (k : x.kind ≡ y.kind) where
    -- two record types, of one label and of two
    pub contents : ((l : ℕ) (C D : Ty) → B ≡ field l D → q (field l C) (field l D) ≡ q C D) → x.kind ≡ 5 → x.label ≡ y.label →
        Passes (HoldsType s) q (a + b) x.a y.a A B
    contents eq l same = rw (t.is_first, t.is_second)
        let p = field_at t.holds_first (kind_first t l) in
        let r = field_at t.holds_second (kind_second t k l) in
        let f : B ≡ field (cell_at s a).label r.content =
        r.is ∙ ap (λ n. field n r.content) (sym (rw (t.is_first, t.is_second) at same))
        in record {
          part = record { first = p.content; second = r.content; holds_first = p.holds; holds_second = r.holds };
          less = omega arith;
          is = ap (λ C. q C B) p.is ∙ ap (q _) f ∙ eq _ p.content r.content f;
        }

    pub labels : {u : Bool} → ((l m : ℕ) (C D : Ty) → B ≡ field m D → (l ≡ m → ⊥) → u ≡ q (field l C) (field m D)) → x.kind ≡ 5 →
        (x.label ≡ y.label → ⊥) → u ≡ q A B
    labels eq l differ =
        let p = field_at t.holds_first (kind_first t l) in
        let r = field_at t.holds_second (kind_second t k l) in
        eq _ _ _ _ r.is (rw (t.is_first, t.is_second) at differ) ∙ sym (ap (λ C. q C B) p.is ∙ ap (q _) r.is)

-- ---- what is known at the point of the code where two cells are read

-- Cells a and b are as P says, and stand in x and y; the measure, of mode m, is μ.
pub record AtPair (P : List ℕ → ℕ → ℕ → Type 0) (n m μ : ℕ) : Type 0 where
  pub s : List ℕ
  pub a : ℕ
  pub b : ℕ
  pub x : Cell
  pub y : Cell
  pub pre : P s a b
  pub first : x ≡ cell_at s a
  pub second : y ≡ cell_at s b
  pub measure : n * (a + b) + m ≡ μ

-- The same of two cells of one kind.
pub record Alike (P : List ℕ → ℕ → ℕ → Type 0) (n m μ : ℕ) : Type 0 where
  pub at : AtPair P n m μ
  pub alike : at.x.kind ≡ at.y.kind
