-- The number that a held value is read as under Int: the first part that is one, by the kinds of the cells, and what its cell stores. Assumes
-- nothing.
use Prim.Native.Nat.{ℕ, ◌+◌, ◌*◌, ◌≤◌}
use native.Mathlib.Omega.{arith}
use mathlib.Core.Path.{◌≡◌, refl, ap, ◌∙◌}
use mathlib.Core.Bool.{Bool}
use mathlib.Core.List.{List}
use mathlib.Core.Logic.{by_cases}
use native.Mathlib.Decide.{ℕ_discrete}
use lib.Dec.{eqb}
use borrow.Author.Tests.{ne_eqb}
use mathlib.Core.Option.{some}
use lib.ListN.{length}
use Rattle.std.specs.Prelude.{Option, Some, None}
use Rattle.calculus.specs.Syntax.{int, Term}
use Rattle.calculus.specs.Evaluate.{cast_int, cast}
use Rattle.calculus.proofs.Tests.{cast_merge}
use Rattle.format.specs.declared.Version.TheVariants.{Two}
use Rattle.format.specs.Version.{stored}
use Rattle.format.specs.Cell.{IsBytes, Cell, cell_at}
use Rattle.cells.proofs.Held.{lit_at, held_within}
use Rattle.emission.specs.Runs.{RunsTerm}
use Rattle.emission.proofs.Runs.{holds_term}
use Rattle.emission.proofs.Emitting.{fields_fit}
use Rattle.typed_reduction.specs.Casting.{is_some, NoMerge, FindsFirst, FindsNumber, NumberReady, ReadsNumber}
use Rattle.typed_reduction.proofs.Single.{single_int, no_number}
use Rattle.typed_reduction.proofs.Parts.{different}
use Rattle.typed_reduction.proofs.Casts.{number_read}
use Rattle.typed_reduction.proofs.Emitting.{ReadBy, read_by}

-- ---- the part: the first whose cell is a number's

number_reads : {s : List ℕ} {p : ℕ} {e : Term} → RunsTerm s p e → NoMerge e → eqb (cell_at s p).kind 17 ≡ is_some (cast int e)
unfolding cast_int
number_reads {s} {p} {e} h n =
    let c = single_int e n in
    by_cases (ℕ_discrete (cell_at s p).kind 17) (λ k. rw (k, c ∙ ap cast_int (lit_at (holds_term h) k)) refl)
    (λ k. rw (ne_eqb _ _ k, c, no_number (holds_term h) k) refl)

pub finds_number : {s : List ℕ} {v : ℕ} {r : Option ℕ} {test : ℕ → Bool → Type 0} → FindsFirst s v test r
    → ((p : ℕ) (b : Bool) → test p b → b ≡ eqb (cell_at s p).kind 17) → FindsNumber s v r
finds_number f g =
    record { says = λ e h. f.says (cast int) (λ l m. cast_merge int l m tt (λ n. n)) (λ p l b k o t. g p b t ∙ number_reads k o) e h }

-- ---- what its cell stores: r was found

module _ {s : List ℕ} {v : ℕ} {r : Option ℕ} (g : NumberReady s v) (f : FindsNumber s v r) where
  pub number_found : r ≡ None → ⊥
  number_found e = different (rw g.casts at (f.says g.at.value g.at.holds)).2 e

  module _ {p : ℕ} (t : r ≡ Some p) where
    by_number : {e x : Term} → RunsTerm s v e → cast int e ≡ some x → ReadBy s p int x
    by_number {e} h c = read_by t (rw c at (f.says e h))

    pub number_within : 8 * p + 8 ≤ length s
    number_within = held_within (holds_term (by_number g.at.holds g.casts).holds)

    pub reads_number : {y : Cell} → IsBytes s → y ≡ cell_at s p → ReadsNumber s v (stored Two y.a y.b y.c)
    reads_number b is =
        record {
          fits = let w = fields_fit s p b is in omega (arith, w.0, w.1, w.2);
          says = λ e x h c. let w = by_number h c in rw is (number_read w.holds w.single w.casts);
        }
