-- A held type that is no intersection and not top-like, by its head. Assumes nothing.
use Prim.Native.Nat.{ℕ}
use mathlib.Core.Path.{◌≡◌, refl, ap, sym, subst, ◌∙◌}
use mathlib.Core.Logic.{◌≢◌}
use mathlib.Core.Bool.{false}
use mathlib.Core.List.{List}
use native.Mathlib.Omega.{arith}
use lib.Dec.{T}
use Rattle.calculus.specs.Syntax.{Ty, int, top, arrow, inter, field}
use Rattle.calculus.specs.Disjointness.{Head, number, function, record_type, HasHead}
use Rattle.calculus.specs.Subtyping.{Ordinary}
use Rattle.calculus.specs.Disjointness as D
use Rattle.calculus.specs.Decide.{is_top_like}
use Rattle.format.specs.Table.{type_sort}
use Rattle.format.specs.Cell.{Cell, cell_at}
use Rattle.format.specs.Tree.{kind_in}
use Rattle.format.specs.Terms.{from_type}
use Rattle.cells.specs.Held.{HoldsType}
use Rattle.cells.proofs.Held.{not_top_like, kind_of, read_kind}
use Rattle.decisions.proofs.Forms.{Types}

-- the kind of a head's cell
abbrev pub kind_for : Head → ℕ
kind_for number = 1
kind_for function = 3
kind_for record_type = 5

pub record HeadAt (x : Cell) (A : Ty) : Type 0 where
  pub head : Head
  pub has : HasHead A head
  pub kind : x.kind ≡ kind_for head

head_of : (A : Ty) → (kind_of type_sort A ≡ 4 → ⊥) → is_top_like A ≡ false → (h : Head) × (HasHead A h × (kind_of type_sort A ≡ kind_for h))
unfolding is_top_like from_type kind_in
head_of int n t = (number, (D.h_int, refl))
head_of top n t = absurd (subst T t tt)
head_of (arrow A B) n t = (function, (D.h_arrow, refl))
head_of (inter A B) n t = absurd (n refl)
head_of (field l A) n t = (record_type, (D.h_field, refl))

pub head_at : {s : List ℕ} {i : ℕ} {A : Ty} → HoldsType s i A → (x : Cell) → x ≡ cell_at s i → (x.kind ≡ 4 → ⊥) → is_top_like A ≡ false → HeadAt x A
head_at {A = A} h x e n t =
    let k = read_kind e h in
    let w = head_of A (λ m. n (k ∙ m)) t in
    record { head = w.0; has = w.1.0; kind = k ∙ w.1.1 }

pub head_ordinary : {A : Ty} {h : Head} → HasHead A h → Ordinary A
head_ordinary D.h_int = tt
head_ordinary D.h_arrow = tt
head_ordinary D.h_field = tt

both_numbers : {A B : Ty} {h k : Head} → HasHead A h → HasHead B k → kind_for h ≡ kind_for k → (kind_for h ≡ 3 → ⊥) → (kind_for h ≡ 5 → ⊥) → (A ≡ int) × (B ≡ int)
both_numbers D.h_int D.h_int e f g = (refl, refl)
both_numbers D.h_int D.h_arrow e f g = absurd (omega arith)
both_numbers D.h_int D.h_field e f g = absurd (omega arith)
both_numbers D.h_arrow k e f g = absurd (f refl)
both_numbers D.h_field k e f g = absurd (g refl)

-- Two held types, neither top-like nor an intersection.
module _ {s : List ℕ} {a b : ℕ} {x y : Cell} {A B : Ty} (t : Types s a b x y A B)
    (u : x.c ≡ 1 → ⊥) (v : x.kind ≡ 4 → ⊥) (n : y.c ≡ 1 → ⊥) (o : y.kind ≡ 4 → ⊥) where
  pub first_head : HeadAt x A
  first_head = head_at t.holds_first x t.is_first v (not_top_like t.holds_first x t.is_first u)

  pub second_head : HeadAt y B
  second_head = head_at t.holds_second y t.is_second o (not_top_like t.holds_second y t.is_second n)

  pub heads_differ : (x.kind ≡ y.kind → ⊥) → first_head.head ≢ second_head.head
  heads_differ d e = d (first_head.kind ∙ ap kind_for e ∙ sym second_head.kind)

  pub two_numbers : x.kind ≡ y.kind → (x.kind ≡ 3 → ⊥) → (x.kind ≡ 5 → ⊥) → (A ≡ int) × (B ≡ int)
  two_numbers e f g =
      both_numbers first_head.has second_head.has (sym first_head.kind ∙ e ∙ second_head.kind) (rw first_head.kind at f) (rw first_head.kind at g)
