-- Paths through cells, over the field: a reference to a lower cell leads there, and cells that lead alike are followed alike. Assumes nothing.
use Prim.Native.Nat.{ℕ, ◌≤◌, ◌<◌}
use native.Mathlib.Omega.{arith}
use mathlib.Core.Path.{◌≡◌, refl, ap, ◌∙◌}
use mathlib.Core.Bool.{Bool, true, false, cond}
use mathlib.Core.Option.{Option, none, some, some-injective, none-ne-some}
use mathlib.Core.List.{List, [], ◌∷◌}
use lib.Dec.{ltb}
use borrow.Author.Tests.{ltb-true, lt-ltb}
use Rattle.format.specs.Table.{Sort, Use, unused, plain, refers, Row, row_of, use_in}
use Rattle.format.specs.Cell.{Cell, cell_at}
use Rattle.format.specs.Book.{field_in, lower_of, leads_by, leads_to, follow}

-- field f refers to a lower cell
pub leads_at : (i f : ℕ) (t : Cell) (r : Row) (o : Sort) → row_of t.kind ≡ some r → use_in r f ≡ refers o → field_in t f < i
    → leads_to i t f ≡ some (field_in t f)
leads_at i f t r o e u h =
    let x = field_in t f in
    let low : lower_of i (refers o) x ≡ some x = ap (λ (b : Bool). cond b (some x) none) (lt-ltb x i h) in
    ap (λ (q : Option Row). leads_by i t q f) e ∙ ap (λ (u : Use). lower_of i u x) u ∙ low

lower_of_lem : (i x j : ℕ) (u : Use) → lower_of i u x ≡ some j → j < i
lower_of_lem i x j unused e = absurd (none-ne-some j e)
lower_of_lem i x j plain e = absurd (none-ne-some j e)
lower_of_lem i x j (refers o) e = go (ltb x i) refl e
  where
    go : (b : Bool) → ltb x i ≡ b → cond b (some x) none ≡ some j → j < i
    go true l e = omega (arith, ltb-true x i l, some-injective x j e)
    go false l e = absurd (none-ne-some j e)

leads_lower : (i f j : ℕ) (t : Cell) (o : Option Row) → leads_by i t o f ≡ some j → j < i
leads_lower i f j t none e = absurd (none-ne-some j e)
leads_lower i f j t (some r) e = lower_of_lem i (field_in t f) j (use_in r f) e

-- on from cell i, by where a field leads
abbrev on : List ℕ → ℕ → List ℕ → Option ℕ → ℕ
on s i p o = elim o [ none ↦ i | some j ↦ follow s j p ]

pub follow_on : (s : List ℕ) (i f j : ℕ) → leads_to i (cell_at s i) f ≡ some j → (p : List ℕ) → follow s i (f ∷ p) ≡ follow s j p
unfolding follow
follow_on s i f j e p = ap (on s i p) e

on_alike : (s t p : List ℕ) (i : ℕ) (o : Option ℕ) → ((j : ℕ) → o ≡ some j → follow s j p ≡ follow t j p) → on s i p o ≡ on t i p o
on_alike s t p i none h = refl
on_alike s t p i (some j) h = h j refl

pub follow_alike : (s t : List ℕ) (n : ℕ) → ((i f : ℕ) → i < n → leads_to i (cell_at s i) f ≡ leads_to i (cell_at t i) f) → (p : List ℕ) (i : ℕ) → i < n
    → follow s i p ≡ follow t i p
unfolding follow
follow_alike s t n h [] i l = refl
follow_alike s t n h (f ∷ p) i l =
    ap (on s i p) (h i f l)
    ∙ on_alike s t p i _ (λ j e. follow_alike s t n h p j (omega (arith, leads_lower i f j (cell_at t i) (row_of (cell_at t i).kind) e)))

on_down : (s p : List ℕ) (i : ℕ) (o : Option ℕ) → ((j : ℕ) → o ≡ some j → follow s j p ≤ i) → on s i p o ≤ i
on_down s p i none h = omega arith
on_down s p i (some j) h = h j refl

-- a path goes down
pub follow_down : (s : List ℕ) (i : ℕ) (p : List ℕ) → follow s i p ≤ i
unfolding follow
follow_down s i [] = omega arith
follow_down s i (f ∷ p) =
    on_down s p i _ (λ j e. omega (arith, follow_down s j p, leads_lower i f j (cell_at s i) (row_of (cell_at s i).kind) e))
