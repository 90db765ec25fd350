-- Rows 9 and 10, from the answers to the root's sort and size. Assumes nothing.
use Prim.Native.Nat.{ℕ, ◌≤◌, ◌<◌, min}
use mathlib.Core.Path.{◌≡◌, refl}
use mathlib.Core.Bool.{Bool, true, false}
use mathlib.Core.List.{List}
use Rattle.std.specs.Prelude.{Ok, Err}
use native.Mathlib.Omega.{arith}
use borrow.Author.Tests.{lt-ltb, le-ltb}
use Rattle.format.specs.Table.{term_sort}
use Rattle.format.specs.Tree.{cells, tree_at}
use Rattle.format.specs.Book.{has_sort, size_limit}
use Rattle.answers.specs.declared.Refusal.TheVariants.{Root, Size}
use Rattle.book.specs.Form.{RootCheck}

pub root_type : (s : List ℕ) (i : ℕ) {t : Bool} → t ≡ has_sort s term_sort i → t ≡ false → RootCheck s i (Err (Root i))
root_type s i {t} e h = record { says = rw (← e, h) (Root i, refl, refl) }

pub root_large : (s : List ℕ) (i : ℕ) {t : Bool} {n : ℕ} → t ≡ has_sort s term_sort i → t ≡ true → n ≡ min 4096 (cells (tree_at s i)) → 4095 < n
    → RootCheck s i (Err (Size i))
root_large s i {t} e h f k =
    record { says = rw (← e, h, lt-ltb size_limit (cells (tree_at s i)) (omega arith)) (Size i, refl, refl) }

pub root_clear : (s : List ℕ) (i : ℕ) {t : Bool} {n : ℕ} → t ≡ has_sort s term_sort i → t ≡ true → n ≡ min 4096 (cells (tree_at s i)) → n ≤ 4095
    → RootCheck s i (Ok tt)
root_clear s i {t} e h f k =
    record { says = rw (← e, h, le-ltb size_limit (cells (tree_at s i)) (omega arith)) refl }
