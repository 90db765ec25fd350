-- What a kind counts by itself, and a term of it by the row of the kind: one law for all kinds. Assumes nothing.
use Prim.Native.Nat.{ℕ, ◌+◌}
use native.Mathlib.Omega.{arith}
use mathlib.Core.Path.{◌≡◌, refl, ap}
use mathlib.Core.Bool.{Bool, true, false, ◌&&◌, cond}
use mathlib.Core.Option.{some}
use Rattle.std.specs.Prelude.{Option, Some, None}
use Rattle.calculus.specs.Sheet.{is_sheet, count_steps}
use Rattle.format.specs.declared.Version.{Version}
use Rattle.format.specs.declared.Version.TheVariants.{Two}
use Rattle.format.specs.Table.{Sort, type_sort, term_sort, Row, table, row_for, row_of}
use Rattle.format.specs.Tree.{Tree, node}
use Rattle.format.specs.Terms.{to_term_in}
use Rattle.format.proofs.Tests.{All, ◌also◌, view}
use Rattle.counting.specs.Counting.{counted, own_steps_lem, counted_in}

-- ---- a term by its row

-- the counts of two parts together
abbrev pub plus : Option ℕ → Option ℕ → Option ℕ
plus None y = None
plus (Some n) None = None
plus (Some n) (Some m) = Some (n + m)

-- a kind that counts o, over one part
over_one : (p : Bool) (k o m : ℕ) → k ≡ o + m → cond p (Some k) None ≡ plus (Some o) (plus (cond p (Some m) None) (Some 0))
over_one true k o m e = ap Some (omega (arith, e))
over_one false k o m e = refl

-- and over two
over_two : (p q : Bool) (k o m n : ℕ) → k ≡ o + (m + n) →
    cond (p && q) (Some k) None ≡ plus (Some o) (plus (cond p (Some m) None) (cond q (Some n) None))
over_two true true k o m n e = ap Some e
over_two true false k o m n e = refl
over_two false q k o m n e = refl

module _ (v : Version) where
  abbrev CountsBy : Sort → Tree → Option ℕ → Type 0
  CountsBy type_sort t r = Unit {0}
  CountsBy term_sort t r = counted (to_term_in v t) ≡ r

  abbrev CountsRow : Row → Type 0
  CountsRow r =
      (l : ℕ) (a b c : Tree) → CountsBy r.sort (node r.kind l a b c)
      (plus (own_steps_lem r.kind) (plus (counted_in r.a (to_term_in v a)) (counted_in r.b (to_term_in v b))))

  one_part : (o : ℕ) (a : Tree) (k : ℕ) → let e = to_term_in v a in k ≡ o + count_steps e → cond (is_sheet e) (Some k) None ≡ plus (Some o) (plus (counted e) (Some 0))
  one_part o a k q = over_one (is_sheet (to_term_in v a)) k o (count_steps (to_term_in v a)) q

  two_parts : (o : ℕ) (a b : Tree) (k : ℕ) → let e = to_term_in v a in let f = to_term_in v b in k ≡ o + (count_steps e + count_steps f) →
      cond (is_sheet e && is_sheet f) (Some k) None ≡ plus (Some o) (plus (counted e) (counted f))
  two_parts o a b k q = over_two (is_sheet (to_term_in v a)) (is_sheet (to_term_in v b)) k o (count_steps (to_term_in v a)) (count_steps (to_term_in v b)) q

  counts_rows : All CountsRow (table Two)
  unfolding table to_term_in is_sheet count_steps
  counts_rows =
      (λ l a b c. tt) also (λ l a b c. tt) also (λ l a b c. tt) also (λ l a b c. tt) also (λ l a b c. tt)
      also (λ l a b c. refl)
      also (λ l a b c. refl)
      also (λ l a b c. refl)
      also (λ l a b c. one_part 1 a _ refl)
      also (λ l a b c. two_parts 1 a b _ refl)
      also (λ l a b c. refl)
      also (λ l a b c. two_parts 0 a b _ (omega arith))
      also (λ l a b c. refl)
      also (λ l a b c. one_part 0 a _ (omega arith))
      also (λ l a b c. one_part 1 a _ refl)
      also (λ l a b c. two_parts 1 a b _ refl)
      also (λ l a b c. refl)
      also tt

  pub counts_law : (k : ℕ) (r : Row) → row_of k ≡ some r → r.sort ≡ term_sort → (l : ℕ) (a b c : Tree) →
      counted (to_term_in v (node k l a b c)) ≡ plus (own_steps_lem k) (plus (counted_in r.a (to_term_in v a)) (counted_in r.b (to_term_in v b)))
  unfolding row_for
  counts_law k r e o l a b c = let w = view CountsRow (table Two) counts_rows k r e in rw w.0 (rw o at (w.1 l a b c))
