-- Numbers of 48 bits become numbers of 32: of one cell, and of a term that is encoded. Assumes nothing.
use Rattle.std.specs.Prelude.{ℕ, ◌*◌, ◌≡◌, cond, List, eqb, length}
use Rattle.std.proofs.lemmas.List.Edits.{sets}
use Rattle.calculus.specs.Syntax.{Term}
use Rattle.format.specs.declared.Version.TheVariants.{One}
use Rattle.format.specs.Version.{half_of}
use Rattle.format.specs.Cell.{Cell, cell_at, cell_bytes}
use Rattle.format.specs.Tree.{encode}
use Rattle.format.specs.Terms.{from_term_in, from_term, TermFits}

-- A number cell with its lower 32 bits in fields b and c; any other cell as it is.
abbrev pub narrow_cell : Cell → Cell
narrow_cell t = cond (eqb t.kind 17) (record { kind = t.kind; label = t.label; a = 0; b = t.a; c = t.b }) t

-- Cell i of d is so in e, and all else is the same.
pub record NarrowsCell (d e : List ℕ) (i : ℕ) : Type 0 where
  pub is : e ≡ sets d (8 * i) (cell_bytes (narrow_cell (cell_at d i)))

-- A term whose numbers fit 32 bits, encoded in d, is encoded in e as a book of version 1 has it. Of other bytes there nothing is decided.
pub record Narrows (d e : List ℕ) : Type 0 where
  pub long : length e ≡ length d
  pub says : (f : Term) → TermFits (half_of One) f → d ≡ encode 0 (from_term f) → e ≡ encode 0 (from_term_in One f)
