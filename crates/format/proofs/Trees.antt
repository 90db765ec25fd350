-- Types and terms as trees: sizes agree, and a tree made of a type or a term is that type or term again. Assumes nothing.
use Prim.Native.Nat.{ℕ, ◌≤◌}
use mathlib.Core.Path.{◌≡◌, refl, ap, ◌∙◌}
use native.Mathlib.Omega.{arith}
use Rattle.calculus.specs.Syntax.{Ty, int, top, arrow, inter, field}
use Rattle.calculus.specs.Syntax.{Term, var, lit, unit, anno, app, lam, merge, fix, rcd, proj, sum, choice, size, size_type}
use Rattle.format.specs.declared.Version.{Version}
use Rattle.format.specs.declared.Version.TheVariants.{One, Two}
use Rattle.format.specs.Version.{half_of}
use Rattle.format.specs.Cell.{signed, unsigned}
use Rattle.format.specs.Tree.{cells}
use Rattle.format.specs.Terms.{from_type, number_tree, from_term_in, plain_of, to_type, to_term_in, TermFits}
use Rattle.format.proofs.Numbers.{signed_unsigned}

pub type_cells : (A : Ty) → cells (from_type A) ≡ size_type A
unfolding cells from_type size_type
type_cells int = refl
type_cells top = refl
type_cells (arrow A B) = omega (arith, type_cells A, type_cells B)
type_cells (inter A B) = omega (arith, type_cells A, type_cells B)
type_cells (field l A) = omega (arith, type_cells A)

pub term_cells : (v : Version) (e : Term) → cells (from_term_in v e) ≡ size e
unfolding cells from_term_in size
term_cells v (var n) = refl
term_cells One (lit z) = refl
term_cells Two (lit z) = refl
term_cells v unit = refl
term_cells v (anno e A) = omega (arith, term_cells v e, type_cells A)
term_cells v (app e f) = omega (arith, term_cells v e, term_cells v f)
term_cells v (lam e A B) = omega (arith, term_cells v e, type_cells A, type_cells B)
term_cells v (merge e f) = omega (arith, term_cells v e, term_cells v f)
term_cells v (fix e A) = omega (arith, term_cells v e, type_cells A)
term_cells v (rcd l e) = omega (arith, term_cells v e)
term_cells v (proj l e) = omega (arith, term_cells v e)
term_cells v (sum e f) = omega (arith, term_cells v e, term_cells v f)
term_cells v (choice e f g) = omega (arith, term_cells v e, term_cells v f, term_cells v g)

-- there is a last cell
pub type_positive : (A : Ty) → 1 ≤ cells (from_type A)
unfolding cells from_type
type_positive int = omega arith
type_positive top = omega arith
type_positive (arrow A B) = omega arith
type_positive (inter A B) = omega arith
type_positive (field l A) = omega arith

pub term_positive : (v : Version) (e : Term) → 1 ≤ cells (from_term_in v e)
unfolding cells from_term_in
term_positive v (var n) = omega arith
term_positive One (lit z) = omega arith
term_positive Two (lit z) = omega arith
term_positive v unit = omega arith
term_positive v (anno e A) = omega arith
term_positive v (app e f) = omega arith
term_positive v (lam e A B) = omega arith
term_positive v (merge e f) = omega arith
term_positive v (fix e A) = omega arith
term_positive v (rcd l e) = omega arith
term_positive v (proj l e) = omega arith
term_positive v (sum e f) = omega arith
term_positive v (choice e f g) = omega arith

pub type_back : (A : Ty) → to_type (from_type A) ≡ A
unfolding to_type from_type
type_back int = refl
type_back top = refl
type_back (arrow A B) = cc (type_back A, type_back B)
type_back (inter A B) = cc (type_back A, type_back B)
type_back (field l A) = cc (type_back A)

-- the fields of a number, put together
fields_back : (v : Version) (n : ℕ) → to_term_in v (number_tree v n) ≡ lit (signed (half_of v) n)
unfolding to_term_in plain_of
fields_back One n = ap lit (ap (signed (half_of One)) (omega arith))
fields_back Two n = ap lit (ap (signed (half_of Two)) (omega arith))

pub term_back : (v : Version) (e : Term) → TermFits (half_of v) e → to_term_in v (from_term_in v e) ≡ e
unfolding to_term_in from_term_in plain_of
term_back v (var n) f = refl
term_back v (lit z) f = fields_back v (unsigned (half_of v) z) ∙ ap lit (signed_unsigned (half_of v) z f)
term_back v unit f = refl
term_back v (anno e A) f = cc (term_back v e f.0, type_back A)
term_back v (app e g) f = cc (term_back v e f.0, term_back v g f.1)
term_back v (lam e A B) f = cc (term_back v e f.0, type_back A, type_back B)
term_back v (merge e g) f = cc (term_back v e f.0, term_back v g f.1)
term_back v (fix e A) f = cc (term_back v e f.0, type_back A)
term_back v (rcd l e) f = cc (term_back v e f.1)
term_back v (proj l e) f = cc (term_back v e f.1)
term_back v (sum e g) f = cc (term_back v e f.0, term_back v g f.1)
term_back v (choice e g h) f = cc (term_back v e f.0, term_back v g f.1, term_back v h f.2)
