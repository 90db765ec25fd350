-- Encoding a held tree, and closing it as a book: what a call needs, and what it leaves. Assumes nothing.
use Rattle.std.specs.Prelude.{ℕ, ◌+◌, ◌*◌, ◌≤◌, ◌<◌, ◌≡◌, false, List, length, take}
use Rattle.calculus.specs.Syntax.{Term}
use Rattle.format.specs.declared.Version.{Version}
use Rattle.format.specs.Version.{half_of}
use Rattle.format.specs.Tree.{Tree, cells, encode}
use Rattle.format.specs.Terms.{from_term, TermFits}
use Rattle.format.specs.Book.{size_limit, book, term_book}
use Rattle.answers.specs.Engine.{padded}
use Rattle.cells.specs.Coded.{use_of}
use Rattle.cells.specs.declared.Use.{Use}
use Rattle.cells.specs.Held.{HeldField}
use Rattle.emission.specs.Emits.{FieldReady}

-- The tree is encoded in the first n cells of the buffer, children first and the root last. Of the bytes behind it nothing is decided.
pub record EncodedTree (d : List ℕ) (n : ℕ) (t : Tree) : Type 0 where
  pub long : 32768 ≤ length d
  pub count : n ≡ cells t
  pub some : 1 ≤ n
  pub small : n ≤ size_limit
  pub encoded : take (8 * n) d ≡ encode 0 t

-- A held field that refers, and room for its tree.
pub record EncodeReady (s d : List ℕ) (u : Use) (x : ℕ) : Type 0 where
  pub field : FieldReady s d u x 0
  pub some : 1 ≤ cells field.tree
  pub small : cells field.tree ≤ size_limit

-- Its tree is encoded in the first r cells.
pub record EncodesTree (s d : List ℕ) (u : Use) (x r : ℕ) : Type 0 where
  pub says : (n : ℕ) (t : Tree) → HeldField false s n (use_of u) x t → 1 ≤ cells t → cells t ≤ size_limit → EncodedTree d r t

-- The same, to come to its own buffer by way of s.
pub record InPlaceReady (s w : List ℕ) (u : Use) (x : ℕ) : Type 0 where
  pub long : 32768 ≤ length w
  pub ready : EncodeReady w s u x

-- Cells before a trailer, and room for it.
pub record TrailerReady (d : List ℕ) (n : ℕ) : Type 0 where
  pub some : 1 ≤ n
  pub small : n < 65536
  pub room : 8 * n + 8 ≤ length d

-- A work buffer that begins with a tree.
pub record SomeTree (d : List ℕ) (n : ℕ) : Type 0 where
  pub work : length d ≡ 65536
  pub tree : Tree
  pub encoded : EncodedTree d n tree

-- "bytes past the laid-down book are zero"
pub record Closes (v : Version) (d e : List ℕ) (n : ℕ) : Type 0 where
  pub says : (t : Tree) → EncodedTree d n t → e ≡ padded (book v t)

-- The term f is encoded there, with numbers of 48 bits, and its numbers fit the version.
pub record EncodedIn (v : Version) (d : List ℕ) (n : ℕ) (f : Term) : Type 0 where
  pub tree : EncodedTree d n (from_term f)
  pub fits : TermFits (half_of v) f

-- A work buffer that begins with such a term.
pub record SomeTerm (v : Version) (d : List ℕ) (n : ℕ) : Type 0 where
  pub work : length d ≡ 65536
  pub term : Term
  pub encoded : EncodedIn v d n term

-- "A laid-down book has the version it came from."
pub record ClosesTerm (v : Version) (d e : List ℕ) (n : ℕ) : Type 0 where
  pub says : (f : Term) → EncodedIn v d n f → e ≡ padded (term_book v f)
