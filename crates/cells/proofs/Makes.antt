-- Cells that hold a type, made: one law for all kinds, and the five that typing writes. Assumes nothing.
use Prim.Native.Nat.{ℕ, suc, ◌<◌}
use native.Mathlib.Omega.{arith}
use mathlib.Core.Path.{◌≡◌, refl, ap, ap₂, ◌∙◌}
use mathlib.Core.Bool.{true}
use mathlib.Core.List.{List}
use mathlib.Core.Option.{some}
use Rattle.calculus.specs.Syntax.{Ty, int, top, arrow, inter, field}
use Rattle.format.specs.Table.{type_sort, Row, table, row_in, row_for, row_of}
use Rattle.format.specs.Tree.{Tree, node}
use Rattle.format.specs.Terms.{to_type}
use Rattle.cells.specs.Held.{IsCell, mark, label_by_lem, HeldField, f_unused, f_refers, HoldsType}
use Rattle.cells.proofs.Held.{below}

make_type : {s : List ℕ} {i k l a b c : ℕ} {r : Row} {f g h : Tree} {A : Ty} → IsCell s i k l a b c → row_of k ≡ some r → r.sort ≡ type_sort
    → HeldField true s i r.a a f → HeldField true s i r.b b g → HeldField true s i r.c c h
    → A ≡ to_type (node k (label_by_lem r.label l) f g h) → c ≡ mark A → HoldsType s i A
make_type {i = i} p e o u v w is m =
    record { tree = _; held = f_refers {n = suc i} {x = i} (omega arith) p e refl (o, m ∙ ap mark is) u v w; is = is }

module _ {s : List ℕ} {i l a b c : ℕ} where
  pub h_int : IsCell s i 1 l a b c → c ≡ mark int → HoldsType s i int
  unfolding table row_in row_for to_type
  h_int p m = make_type p refl refl f_unused f_unused f_unused refl m

  pub h_top : IsCell s i 2 l a b c → c ≡ mark top → HoldsType s i top
  unfolding table row_in row_for to_type
  h_top p m = make_type p refl refl f_unused f_unused f_unused refl m

  pub h_arrow : {A B : Ty} → IsCell s i 3 l a b c → c ≡ mark (arrow A B) → a < i → b < i → HoldsType s a A → HoldsType s b B → HoldsType s i (arrow A B)
  unfolding table row_in row_for to_type
  h_arrow p m u v x y = make_type p refl refl (below x.held u) (below y.held v) f_unused (ap₂ arrow x.is y.is) m

  pub h_inter : {A B : Ty} → IsCell s i 4 l a b c → c ≡ mark (inter A B) → a < i → b < i → HoldsType s a A → HoldsType s b B → HoldsType s i (inter A B)
  unfolding table row_in row_for to_type
  h_inter p m u v x y = make_type p refl refl (below x.held u) (below y.held v) f_unused (ap₂ inter x.is y.is) m

  pub h_field : {A : Ty} → IsCell s i 5 l a b c → c ≡ mark (field l A) → a < i → HoldsType s a A → HoldsType s i (field l A)
  unfolding table row_in row_for to_type
  h_field p m u x = make_type p refl refl (below x.held u) f_unused f_unused (ap (field l) x.is) m
