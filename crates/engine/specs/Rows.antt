-- Document 01, "Where a book is turned back", row by row, by its number: what a refusal says of the book and of the work buffer. Assumes
-- nothing.
use Rattle.std.specs.Prelude.{ℕ, ◌<◌, ◌≡◌, ◌≢◌, true, false, List, [], length}
use Rattle.std.proofs.Math.Option.{some}
use Rattle.calculus.specs.Infer.{Reason, unbound, not_function, no_field, conflict, mismatch, refused, infer}
use Rattle.format.specs.Table.{type_sort}
use Rattle.format.specs.Cell.{cell_at}
use Rattle.format.specs.Tree.{cells, tree_at}
use Rattle.format.specs.Book.{bad_kind, bad_unnamed, bad_reference, bad_sort, cell_fault, length_ok_lem, trailer_ok, count_ok, has_sort, root_of, size_limit}
use Rattle.format.specs.Book.{count, version_of, follow, root_term, WellFormed}
use Rattle.format.specs.Checking.{Checking}
use Rattle.answers.specs.Engine.{work_length, zeros}

-- Rows 11 to 15: a well-formed book whose typing ends with a reason and a path, which leads from the root to cell i.
pub record Mistyped (b : List ℕ) (r : Reason) (i : ℕ) : Type 0 where
  pub formed : WellFormed b
  pub path : List ℕ
  pub reason : infer [] (root_term b) ≡ refused r path
  pub names : i ≡ follow b (root_of b) path

-- "Answer: number and cell (0 for 1 to 4)"; "11 to 14 name the variable, application, field read or merge itself, 15 the checked term, 9 and 10
-- the root"
pub data RefusalRow (b w : List ℕ) : ℕ → ℕ → Type 0 where
  -- "not 65,536 bytes"
  buffer : length w ≢ work_length → RefusalRow b w 1 0
  -- "below 16, above 32,768, or not a multiple of 8"
  length_row : length_ok_lem b ≡ false → RefusalRow b w 2 0
  -- "wrong byte 0, 1, 6 or 7"
  trailer : trailer_ok b ≡ false → RefusalRow b w 3 0
  -- "count is not one less than an eighth of the length, or root not below count"
  count_row : count_ok b ≡ false → RefusalRow b w 4 0
  -- "unknown kind"
  kind : {i : ℕ} → i < count b → cell_fault (version_of b) b i ≡ some bad_kind → RefusalRow b w 5 i
  -- "an unnamed field is not zero"
  unnamed : {i : ℕ} → i < count b → cell_fault (version_of b) b i ≡ some bad_unnamed → RefusalRow b w 6 i
  -- "a reference not lower than its cell"
  reference : {i : ℕ} → i < count b → cell_fault (version_of b) b i ≡ some bad_reference → RefusalRow b w 7 i
  -- "a type where a term belongs, or the reverse"
  sort : {i : ℕ} → i < count b → cell_fault (version_of b) b i ≡ some bad_sort → RefusalRow b w 8 i
  -- "the root is a type"
  root : has_sort b type_sort (root_of b) ≡ true → RefusalRow b w 9 (root_of b)
  -- "size above 4,095"
  size : size_limit < cells (tree_at b (root_of b)) → RefusalRow b w 10 (root_of b)
  -- "variable without binder": kind 16
  variable : {i : ℕ} → Mistyped b unbound i → (cell_at b i).kind ≡ 16 → RefusalRow b w 11 i
  -- "application of something else": kind 20
  application : {i : ℕ} → Mistyped b not_function i → (cell_at b i).kind ≡ 20 → RefusalRow b w 12 i
  -- "field read of something else": kind 25
  field_read : {i : ℕ} → Mistyped b no_field i → (cell_at b i).kind ≡ 25 → RefusalRow b w 13 i
  -- "merge neither disjoint nor consistent": kind 22
  merge : {i : ℕ} → Mistyped b conflict i → (cell_at b i).kind ≡ 22 → RefusalRow b w 14 i
  -- "type not below the wanted one": cell j, an annotation, application, function, fixpoint, sum or choice, checks it
  checked : {i j : ℕ} → Mistyped b mismatch i → Checking b j i → RefusalRow b w 15 i

-- A refusal with number n and cell i, of the book b; the work buffer w as lent and v as left.
pub record Refuses (b w v : List ℕ) (n i : ℕ) : Type 0 where
  -- the row of that number meets the book, and names that cell
  pub row : RefusalRow b w n i
  -- "Refusal 1 touches nothing;
  pub untouched : n ≡ 1 → v ≡ w
  -- all others zero the work buffer."
  pub zeroed : n ≢ 1 → v ≡ zeros work_length
