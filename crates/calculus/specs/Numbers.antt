-- What sums and choices do with numbers: document 02, (ii) and (iv). h is half of the range, which is -h .. h - 1. Assumes nothing.
use Rattle.std.specs.Prelude.{ℕ, zero, suc, ◌-◌, cond, ltb, ℤ, pos, negsuc}
use Rattle.calculus.specs.Syntax.{Term, var, lit, unit, anno, app, lam, merge, fix, rcd, proj, sum, choice}

-- "held to the ends of the .. range"; negsuc n is -(n + 1).
unfoldable pub hold : ℕ → ℤ → ℤ
hold h (pos n) = cond (ltb n h) (pos n) (pos (h - 1))
hold h (negsuc n) = cond (ltb n h) (negsuc n) (negsuc (h - 1))

-- "b for zero and c for anything else"
unfoldable pub chosen : ℤ → Term → Term → Term
chosen (pos zero) b c = b
chosen (pos (suc n)) b c = c
chosen (negsuc n) b c = c

-- "without sums": none anywhere in the term
abbrev pub NoSum : Term → Type 0
NoSum (var n) = Unit {0}
NoSum (lit i) = Unit {0}
NoSum unit = Unit {0}
NoSum (anno e A) = NoSum e
NoSum (app e f) = NoSum e × NoSum f
NoSum (lam e A B) = NoSum e
NoSum (merge e f) = NoSum e × NoSum f
NoSum (fix e A) = NoSum e
NoSum (rcd l e) = NoSum e
NoSum (proj l e) = NoSum e
NoSum (sum e f) = ⊥
NoSum (choice e f g) = NoSum e × NoSum f × NoSum g
