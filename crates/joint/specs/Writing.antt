-- What writing a joint needs and leaves: the cells of one book, the merge and the trailer, all of it. Assumes nothing.
use Rattle.std.specs.Prelude.{ℕ, ◌+◌, ◌*◌, ◌≤◌, ◌<◌, ◌≡◌, List, ◌++◌, length}
use Rattle.std.proofs.Math.Option.{none}
use Rattle.std.proofs.lemmas.List.Edits.{sets}
use Rattle.format.specs.declared.Version.{Version}
use Rattle.format.specs.declared.Version.TheVariants.{One, Two}
use Rattle.format.specs.Cell.{Cell, cell_at, cell_bytes}
use Rattle.format.specs.Book.{cell_fault, size_limit, trailer, WellFormed}
use Rattle.format.specs.Widths.{wide_cell, mapped_cells}
use Rattle.format.specs.Joint.{raised, merge_cell, joint_count, joint}

-- A cell of a book of version v, in one of version u, which is no lower: "numbers extended as in (iv)".
abbrev pub cell_in : Version → Version → Cell → Cell
cell_in One v t = t
cell_in Two v t = wide_cell v t

-- It comes to stand k cells higher.
abbrev pub carried : Version → Version → ℕ → Cell → Cell
carried u v k t = raised k (cell_in u v t)

-- Cell i of s, which passes rows 5 to 8, and room for it in d, k cells higher.
pub record CarryCellReady (s d : List ℕ) (i k : ℕ) : Type 0 where
  pub within : 8 * i + 8 ≤ length s
  pub room : 8 * (k + i) + 8 ≤ length d
  pub low : k + i < 8192
  pub sound : cell_fault Two s i ≡ none

-- It is written there; v is the version of s, and u that of d.
pub record CarriesCell (s d e : List ℕ) (i k : ℕ) (v u : Version) : Type 0 where
  pub is : e ≡ sets d (8 * (k + i)) (cell_bytes (carried u v k (cell_at s i)))

-- The same of n cells from cell 0 on.
pub record CarryReady (s d : List ℕ) (n k : ℕ) : Type 0 where
  pub within : 8 * n ≤ length s
  pub room : 8 * (k + n) ≤ length d
  pub low : k + n ≤ 8192
  pub sound : (i : ℕ) → i < n → cell_fault Two s i ≡ none

-- They are written, one after the other, and nothing else.
pub record Carries (s d e : List ℕ) (n k : ℕ) (v u : Version) : Type 0 where
  pub is : e ≡ sets d (8 * k) (mapped_cells (carried u v k) s n 0)

-- Room for a merge as cell k, of the cells i and j, and for a trailer behind it.
pub record FinishReady (d : List ℕ) (k i j : ℕ) : Type 0 where
  pub room : 8 * k + 16 ≤ length d
  pub low : k < 8192
  pub first : i < 65536
  pub second : j < 65536

-- "a merge of both roots, then a trailer"
pub record Finishes (d e : List ℕ) (k i j : ℕ) (u : Version) : Type 0 where
  pub is : e ≡ sets d (8 * k) (cell_bytes (merge_cell i j) ++ trailer u (k + 1) k)

-- Two well-formed books that together, with the merge, have at most 4,095 cells, and room for as many.
pub record JointReady (p q d : List ℕ) : Type 0 where
  pub project : WellFormed p
  pub part : WellFormed q
  pub few : joint_count p q ≤ size_limit
  pub room : length d ≡ 32768

-- Their joint stands from byte 0 on, and its length is r.
pub record WritesJoint (p q d e : List ℕ) (r : ℕ) : Type 0 where
  pub bytes : r ≡ length (joint p q)
  pub is : e ≡ sets d 0 (joint p q)
