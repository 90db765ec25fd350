-- Ways through the cells of a buffer: a path from cell i sees no cell above i, and its first step goes to a field of cell i.
-- Assumes nothing.
use Prim.Native.Nat.{ℕ, ◌<◌}
use mathlib.Core.Path.{◌≡◌, ap, ◌∙◌}
use mathlib.Core.List.{List, ◌∷◌}
use mathlib.Core.Option.{some}
use Rattle.format.specs.Table.{Sort, refers, Row, row_of, use_in}
use Rattle.format.specs.Cell.{Cell, cell_at}
use Rattle.format.specs.Book.{field_in, leads_to, follow}
use Rattle.format.proofs.Paths.{leads_at, follow_on, follow_alike}
use Rattle.cells.specs.Held.{Same}
use Rattle.cells.proofs.Held.{same_cell}

pub follow_same : {s t : List ℕ} {n : ℕ} → Same s t n → (p : List ℕ) (i : ℕ) → i < n → follow t i p ≡ follow s i p
follow_same {s} {t} {n} q = follow_alike t s n (λ i f l. ap (λ (x : Cell). leads_to i x f) (same_cell q l))

-- field f of cell i is the lower cell j
pub record Leads (s : List ℕ) (i f j : ℕ) : Type 0 where
  pub lower : j < i
  pub path : (p : List ℕ) → follow s i (f ∷ p) ≡ follow s j p

-- a field that the row of the kind makes a reference
pub leads : {s : List ℕ} {i k : ℕ} {r : Row} {o : Sort} (f : ℕ) → (cell_at s i).kind ≡ k → row_of k ≡ some r → use_in r f ≡ refers o
    → field_in (cell_at s i) f < i → Leads s i f (field_in (cell_at s i) f)
leads {s} {i} {r = r} {o} f k e u h = record { lower = h; path = follow_on s i f _ (leads_at i f (cell_at s i) r o (ap row_of k ∙ e) u h) }
