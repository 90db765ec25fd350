-- Types and terms as trees, and back: one line a row of the table of kinds; a number by the version of the book. Assumes nothing.
use Rattle.std.specs.Prelude.{ℕ, ◌-◌, ◌/◌, ◌%◌, ◌<◌, [], ◌∷◌, get_or}
use Rattle.std.specs.Int.Signed.{mag}
use Rattle.calculus.specs.Syntax.{Ty, int, top, arrow, inter, field}
use Rattle.calculus.specs.Syntax.{Term, var, lit, unit, anno, app, lam, merge, fix, rcd, proj, sum, choice}
use Rattle.format.specs.declared.Version.{Version}
use Rattle.format.specs.declared.Version.TheVariants.{One, Two}
use Rattle.format.specs.Version.{half_of, stored}
use Rattle.format.specs.Cell.{signed, unsigned}
use Rattle.format.specs.Tree.{Tree, raw, node}

-- A field that the kind does not name.
abbrev absent : Tree
absent = raw 0

-- A type's tree: kinds 1 to 5.
unfoldable pub from_type : Ty → Tree
from_type int = node 1 0 absent absent absent
from_type top = node 2 0 absent absent absent
from_type (arrow A B) = node 3 0 (from_type A) (from_type B) absent
from_type (inter A B) = node 4 0 (from_type A) (from_type B) absent
from_type (field l A) = node 5 l (from_type A) absent absent

-- The tree of a number that is stored as n, lowest bits first: in fields b and c, or in all three.
abbrev pub number_tree : Version → ℕ → Tree
number_tree One n = node 17 0 absent (raw (n % 65536)) (raw (n / 65536))
number_tree Two n = node 17 0 (raw (n % 65536)) (raw (n / 65536 % 65536)) (raw (n / 65536 / 65536))

-- A term's tree in a book of this version: kinds 16 to 27.
unfoldable pub from_term_in : Version → Term → Tree
from_term_in v (var n) = node 16 0 (raw n) absent absent
from_term_in v (lit z) = number_tree v (unsigned (half_of v) z)
from_term_in v unit = node 18 0 absent absent absent
from_term_in v (anno e A) = node 19 0 (from_term_in v e) (from_type A) absent
from_term_in v (app e f) = node 20 0 (from_term_in v e) (from_term_in v f) absent
from_term_in v (lam e A B) = node 21 0 (from_term_in v e) (from_type A) (from_type B)
from_term_in v (merge e f) = node 22 0 (from_term_in v e) (from_term_in v f) absent
from_term_in v (fix e A) = node 23 0 (from_term_in v e) (from_type A) absent
from_term_in v (rcd l e) = node 24 l (from_term_in v e) absent absent
from_term_in v (proj l e) = node 25 l (from_term_in v e) absent absent
from_term_in v (sum e f) = node 26 0 (from_term_in v e) (from_term_in v f) absent
from_term_in v (choice e f g) = node 27 0 (from_term_in v e) (from_term_in v f) (from_term_in v g)

-- Numbers have one form outside of books, "48 bits": that of version 2.
abbrev pub from_term : Term → Tree
from_term = from_term_in Two

-- The number of a field that is no reference.
unfoldable pub plain_of : Tree → ℕ
plain_of (raw x) = x
plain_of (node k l a b c) = 0

-- Kinds 1 to 5. Of a tree of another kind nothing is asked: the tests come first.
unfoldable pub to_type : Tree → Ty
to_type (raw x) = top
to_type (node k l a b c) =
    let A = to_type a in
    let B = to_type b in
    get_or (top ∷ int ∷ top ∷ arrow A B ∷ inter A B ∷ field l A ∷ []) k top

-- Kinds 16 to 27, in a book of this version. Of a tree of another kind nothing is asked.
unfoldable pub to_term_in : Version → Tree → Term
to_term_in v (raw x) = unit
to_term_in v (node k l a b c) =
    let e = to_term_in v a in
    let f = to_term_in v b in
    let g = to_term_in v c in
    get_or
    (var (plain_of a)
    ∷ lit (signed (half_of v) (stored v (plain_of a) (plain_of b) (plain_of c)))
    ∷ unit
    ∷ anno e (to_type b)
    ∷ app e f
    ∷ lam e (to_type b) (to_type c)
    ∷ merge e f
    ∷ fix e (to_type b)
    ∷ rcd l e
    ∷ proj l e
    ∷ sum e f
    ∷ choice e f g
    ∷ [])
    (k - 16)
    unit

-- "The reader of a number now promises 48 bits": outside of books.
abbrev pub to_term : Tree → Term
to_term = to_term_in Two

-- Labels, indices and numbers fit their fields.
abbrev pub TypeFits : Ty → Type 0
TypeFits int = Unit {0}
TypeFits top = Unit {0}
TypeFits (arrow A B) = TypeFits A × TypeFits B
TypeFits (inter A B) = TypeFits A × TypeFits B
TypeFits (field l A) = (l < 256) × TypeFits A

-- The same of a term; h is half of the range of numbers.
abbrev pub TermFits : ℕ → Term → Type 0
TermFits h (var n) = n < 65536
TermFits h (lit z) = mag z < h
TermFits h unit = Unit {0}
TermFits h (anno e A) = TermFits h e × TypeFits A
TermFits h (app e f) = TermFits h e × TermFits h f
TermFits h (lam e A B) = TermFits h e × TypeFits A × TypeFits B
TermFits h (merge e f) = TermFits h e × TermFits h f
TermFits h (fix e A) = TermFits h e × TypeFits A
TermFits h (rcd l e) = (l < 256) × TermFits h e
TermFits h (proj l e) = (l < 256) × TermFits h e
TermFits h (sum e f) = TermFits h e × TermFits h f
TermFits h (choice e f g) = TermFits h e × TermFits h f × TermFits h g

-- The same outside of books, where a number has 48 bits.
abbrev pub WideFits : Term → Type 0
WideFits = TermFits (half_of Two)
