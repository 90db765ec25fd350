-- "A term or type is laid down as a .. book of its own": what holds of that book, in either version, where the labels, indices and numbers fit their
-- fields and there are at most 4,095 cells. Assumes nothing.
use Rattle.std.specs.Prelude.{◌≡◌}
use Rattle.calculus.specs.Syntax.{Ty, Term}
use Rattle.format.specs.declared.Version.{Version}
use Rattle.format.specs.Cell.{IsBytes}
use Rattle.format.specs.Tree.{tree_at}
use Rattle.format.specs.Terms.{to_type}
use Rattle.format.specs.Book.{WellFormedCells, WellFormed, version_of, root_term, root_of, type_book, term_book}

-- A term's book is of that version, passes rows 2 to 10 and decodes to the term.
pub record TermRoundTrip (v : Version) (e : Term) : Type 0 where
  pub bytes : IsBytes (term_book v e)
  pub version : version_of (term_book v e) ≡ v
  pub well_formed : WellFormed (term_book v e)
  pub decodes : root_term (term_book v e) ≡ e

-- A type's book is of that version, passes rows 2 to 8 and decodes to the type. (A check refuses it by row 9.)
pub record TypeRoundTrip (v : Version) (A : Ty) : Type 0 where
  pub bytes : IsBytes (type_book v A)
  pub version : version_of (type_book v A) ≡ v
  pub well_formed : WellFormedCells (type_book v A)
  pub decodes : to_type (tree_at (type_book v A) (root_of (type_book v A))) ≡ A
