-- A held field is a tree that can stand for it; so is a held type or term. Assumes nothing.
use Prim.Native.Nat.{ℕ, suc}
use native.Mathlib.Omega.{arith}
use mathlib.Core.Bool.{false}
use mathlib.Core.List.{List}
use Rattle.calculus.specs.Syntax.{Ty, Term}
use Rattle.format.specs.Table.{type_sort, term_sort, Use, refers}
use Rattle.format.specs.Cell.{IsBytes}
use Rattle.format.specs.Tree.{Tree, cells}
use Rattle.format.specs.Terms.{from_type, from_term}
use Rattle.cells.specs.Held.{HeldField, f_unused, f_plain, f_refers, HoldsType, HoldsTerm}
use Rattle.cells.proofs.Held.{unmarked}
use Rattle.cells.proofs.Back.{type_own, held_back}
use Rattle.emission.proofs.Compose.{Stands, s_unused, s_plain, s_refers}

pub type_field : {s : List ℕ} {i : ℕ} {A : Ty} → HoldsType s i A → HeldField false s (suc i) (refers type_sort) i (from_type A)
type_field h = rw (type_own h) (unmarked h.held)

pub term_field : {s : List ℕ} {i : ℕ} {e : Term} → IsBytes s → HoldsTerm s i e → HeldField false s (suc i) (refers term_sort) i (from_term e)
term_field y h = rw (held_back y h) (unmarked h.held)

pub field_stands : {s : List ℕ} {n x : ℕ} {u : Use} {t : Tree} → HeldField false s n u x t → Stands u x t
unfolding cells
field_stands f_unused = s_unused
field_stands f_plain = s_plain
field_stands {t = t} (f_refers l p e q m f g h) = s_refers {t = t} (omega arith)
