-- Two cells of a book compared in its own bytes, whatever the bytes and the numbers are: document 02, (iii). Assumes nothing.
use Rattle.std.specs.Prelude.{ℕ, ◌≤◌, ◌<◌, ◌≡◌, ◌⊎◌, List, codes}
use Rattle.std.proofs.Math.Option.{some}
use Rattle.format.specs.Tree.{tree_at}
use Rattle.format.specs.Book.{Finding, form_finding, WellFormed, count}
use Rattle.samples.specs.declared.Compared.{Compared}
use Rattle.samples.specs.declared.Compared.TheVariants.{Malformed, Missing, Same, Different}

-- Rows 2 to 10 find something; a cell that the book has not; "yes exactly when both, sharing opened, are the same tree".
pub data ComparesCells (b : List ℕ) (i j : ℕ) : Compared → Type 0 where
  malformed : {f : Finding} → form_finding b ≡ some f → ComparesCells b i j Malformed
  missing : WellFormed b → (count b ≤ i) ⊎ (count b ≤ j) → ComparesCells b i j Missing
  same : WellFormed b → i < count b → j < count b → tree_at b i ≡ tree_at b j → ComparesCells b i j Same
  different : WellFormed b → i < count b → j < count b → (tree_at b i ≡ tree_at b j → ⊥) → ComparesCells b i j Different

-- the word that is printed
abbrev pub compared_line : Compared → List ℕ
compared_line Malformed = codes "malformed"
compared_line Missing = codes "no such cell"
compared_line Same = codes "same"
compared_line Different = codes "different"
