-- A version's numbers in the one form that they have outside of books, and back. Assumes nothing.
use Prim.Native.Nat.{suc, ◌+◌, ◌*◌, ◌-◌, ◌/◌, ◌%◌, ◌<◌}
use mathlib.Core.Path.{◌≡◌, refl, ap, ◌∙◌}
use mathlib.Core.Bool.{cond, true, false}
use native.Mathlib.Omega.{arith}
use borrow.Author.Tests.{lt-ltb, le-ltb}
use lib.Dec.{eqb, ltb}
use lib.IntN.{ℤ, pos, negsuc}
use lib.Signed.{mag}
use Rattle.calculus.specs.Syntax.{Ty, int, top, arrow, inter, field}
use Rattle.calculus.specs.Syntax.{Term, var, lit, unit, anno, app, lam, merge, fix, rcd, proj, sum, choice}
use Rattle.format.specs.declared.Version.{Version}
use Rattle.format.specs.declared.Version.TheVariants.{One, Two}
use Rattle.format.specs.Version.{half_of}
use Rattle.format.specs.Cell.{unsigned}
use Rattle.format.specs.Tree.{Tree, raw, node}
use Rattle.format.specs.Terms.{from_type, from_term_in, from_term, plain_of, TermFits}
use Rattle.format.specs.Widths.{sign_field_lem}

-- A tree of a book as it is outside of books: version 1's numbers extended.
unfoldable pub widened : Version → Tree → Tree
widened One (raw x) = raw x
widened One (node k l a b c) =
    cond (eqb k 17) (node k l b c (raw (sign_field_lem (plain_of c)))) (node k l (widened One a) (widened One b) (widened One c))
widened Two t = t

-- And back: version 1 has the lower 32 bits of a number.
unfoldable pub narrowed : Version → Tree → Tree
narrowed One (raw x) = raw x
narrowed One (node k l a b c) = cond (eqb k 17) (node k l (raw 0) a b) (node k l (narrowed One a) (narrowed One b) (narrowed One c))
narrowed Two t = t

-- The two forms of a number that fits 32 bits.
record Forms (z : ℤ) : Type 0 where
  low : unsigned (half_of Two) z % 65536 ≡ unsigned (half_of One) z % 65536
  middle : unsigned (half_of Two) z / 65536 % 65536 ≡ unsigned (half_of One) z / 65536
  high : unsigned (half_of Two) z / 65536 / 65536 ≡ sign_field_lem (unsigned (half_of One) z / 65536)

forms : (z : ℤ) → mag z < half_of One → Forms z
unfolding unsigned
forms (pos n) f =
    let s : ltb (n / 65536) 32768 ≡ true = lt-ltb (n / 65536) 32768 (omega arith) in
    record { low = refl; middle = omega arith; high = rw s (omega arith) }
forms (negsuc n) f =
    let q = 4294967296 - suc n in
    let s : ltb (q / 65536) 32768 ≡ false = le-ltb (q / 65536) 32768 (omega arith) in
    let e : 281474976710656 - suc n ≡ q + 65536 * 4294901760 = omega arith in
    let m : (281474976710656 - suc n) / 65536 ≡ q / 65536 + 4294901760 = omega arith in
    record {
      low = omega arith;
      middle = ap (λ k. k % 65536) m ∙ omega arith;
      high = ap (λ k. k / 65536) m ∙ (rw s (omega arith));
    }

-- Kind by kind: no type has a number in it,
pub type_widened : (v : Version) (A : Ty) → widened v (from_type A) ≡ from_type A
unfolding widened from_type
type_widened Two A = refl
type_widened One int = refl
type_widened One top = refl
type_widened One (arrow A B) = cc (type_widened One A, type_widened One B)
type_widened One (inter A B) = cc (type_widened One A, type_widened One B)
type_widened One (field l A) = cc (type_widened One A)

pub type_narrowed : (v : Version) (A : Ty) → narrowed v (from_type A) ≡ from_type A
unfolding narrowed from_type
type_narrowed Two A = refl
type_narrowed One int = refl
type_narrowed One top = refl
type_narrowed One (arrow A B) = cc (type_narrowed One A, type_narrowed One B)
type_narrowed One (inter A B) = cc (type_narrowed One A, type_narrowed One B)
type_narrowed One (field l A) = cc (type_narrowed One A)

-- and a term's numbers change their form.
pub term_widened : (v : Version) (e : Term) → TermFits (half_of v) e → widened v (from_term_in v e) ≡ from_term e
unfolding widened from_term_in plain_of
term_widened Two e f = refl
term_widened One (var n) f = refl
term_widened One (lit z) f = let q = forms z f in cc (q.low, q.middle, q.high)
term_widened One unit f = refl
term_widened One (anno e A) f = cc (term_widened One e f.0, type_widened One A)
term_widened One (app e g) f = cc (term_widened One e f.0, term_widened One g f.1)
term_widened One (lam e A B) f = cc (term_widened One e f.0, type_widened One A, type_widened One B)
term_widened One (merge e g) f = cc (term_widened One e f.0, term_widened One g f.1)
term_widened One (fix e A) f = cc (term_widened One e f.0, type_widened One A)
term_widened One (rcd l e) f = cc (term_widened One e f.1)
term_widened One (proj l e) f = cc (term_widened One e f.1)
term_widened One (sum e g) f = cc (term_widened One e f.0, term_widened One g f.1)
term_widened One (choice e g h) f = cc (term_widened One e f.0, term_widened One g f.1, term_widened One h f.2)

pub term_narrowed : (v : Version) (e : Term) → TermFits (half_of v) e → narrowed v (from_term e) ≡ from_term_in v e
unfolding narrowed from_term_in
term_narrowed Two e f = refl
term_narrowed One (var n) f = refl
term_narrowed One (lit z) f = let q = forms z f in cc (q.low, q.middle)
term_narrowed One unit f = refl
term_narrowed One (anno e A) f = cc (term_narrowed One e f.0, type_narrowed One A)
term_narrowed One (app e g) f = cc (term_narrowed One e f.0, term_narrowed One g f.1)
term_narrowed One (lam e A B) f = cc (term_narrowed One e f.0, type_narrowed One A, type_narrowed One B)
term_narrowed One (merge e g) f = cc (term_narrowed One e f.0, term_narrowed One g f.1)
term_narrowed One (fix e A) f = cc (term_narrowed One e f.0, type_narrowed One A)
term_narrowed One (rcd l e) f = cc (term_narrowed One e f.1)
term_narrowed One (proj l e) f = cc (term_narrowed One e f.1)
term_narrowed One (sum e g) f = cc (term_narrowed One e f.0, term_narrowed One g f.1)
term_narrowed One (choice e g h) f = cc (term_narrowed One e f.0, term_narrowed One g f.1, term_narrowed One h f.2)
