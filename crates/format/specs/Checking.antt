-- Document 01, rows 11 to 15: "11 to 14 name the variable, application, field read or merge itself, 15 the checked term". Assumes nothing.
use Rattle.std.specs.Prelude.{ℕ, ◌≡◌, List}
use Rattle.calculus.specs.Infer.{Reason, unbound, not_function, no_field, conflict, mismatch}
use Rattle.format.specs.Cell.{cell_at}

-- Cell j checks cell i: "annotation its type, after checking"; "the right is checked against the input"; "the body checked against the output";
-- "the body checked against it"; of a sum "both are checked against Int", of a choice "a, b, c".
pub data Checking (s : List ℕ) (j i : ℕ) : Type 0 where
  by_anno : (cell_at s j).kind ≡ 19 → i ≡ (cell_at s j).a → Checking s j i
  by_application : (cell_at s j).kind ≡ 20 → i ≡ (cell_at s j).b → Checking s j i
  by_function : (cell_at s j).kind ≡ 21 → i ≡ (cell_at s j).a → Checking s j i
  by_fixpoint : (cell_at s j).kind ≡ 23 → i ≡ (cell_at s j).a → Checking s j i
  by_sum_left : (cell_at s j).kind ≡ 26 → i ≡ (cell_at s j).a → Checking s j i
  by_sum_right : (cell_at s j).kind ≡ 26 → i ≡ (cell_at s j).b → Checking s j i
  by_tested : (cell_at s j).kind ≡ 27 → i ≡ (cell_at s j).a → Checking s j i
  by_zero : (cell_at s j).kind ≡ 27 → i ≡ (cell_at s j).b → Checking s j i
  by_other : (cell_at s j).kind ≡ 27 → i ≡ (cell_at s j).c → Checking s j i

-- What rows 11 to 15 name: a variable, an application, a field read, a merge, a term that the cell around it checks.
abbrev pub Names : List ℕ → Reason → ℕ → Type 0
Names s unbound i = (cell_at s i).kind ≡ 16
Names s not_function i = (cell_at s i).kind ≡ 20
Names s no_field i = (cell_at s i).kind ≡ 25
Names s conflict i = (cell_at s i).kind ≡ 22
Names s mismatch i = (j : ℕ) × Checking s j i
