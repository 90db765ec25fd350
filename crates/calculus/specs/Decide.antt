-- The executable tests, one a relation: top-like, the part that a field read takes, subtyping, disjoint, value, closed, the same tree, consistent.
-- What each answers is a theorem of proofs/. Assumes nothing.
use Rattle.std.specs.Prelude.{ℕ, zero, suc, ◌+◌, ◌≡◌, Bool, true, false, not, ◌&&◌, ◌||◌, cond, eqb, ltb, ℤ, pos, negsuc}
use Rattle.std.proofs.Common.{sym, ap}
use Rattle.std.proofs.Math.Bool.{decide}
use Rattle.std.proofs.Math.IntN.{pos-ne-negsuc}
use Rattle.std.proofs.Math.Decide.{ℕ_discrete}
use Rattle.calculus.specs.Syntax.{Ty, int, top, arrow, inter, field, size_type, Ty-discrete, Term-discrete}
use Rattle.calculus.specs.Syntax.{Term, var, lit, unit, anno, app, lam, merge, fix, rcd, proj, sum, choice, by_form, fold_value, fold_parts}

-- "Top-like: Top; a function type with a top-like output; an intersection of two such; a record type over one."
unfoldable pub is_top_like : Ty → Bool
is_top_like int = false
is_top_like top = true
is_top_like (arrow A B) = is_top_like B
is_top_like (inter A B) = is_top_like A && is_top_like B
is_top_like (field l A) = is_top_like A

-- Which part of a type a field read takes: none, and none is top-like; none, but some part is top-like; one, with its content; more than one.
pub data FieldPart : Type 0 where
  no_part top_part more_parts : FieldPart
  one_part : Ty → FieldPart

-- The same of an intersection, from what its halves say.
unfoldable pub both_parts : FieldPart → FieldPart → FieldPart
both_parts no_part q = q
both_parts top_part no_part = top_part
both_parts top_part top_part = top_part
both_parts top_part more_parts = more_parts
both_parts top_part (one_part D) = one_part D
both_parts more_parts q = more_parts
both_parts (one_part C) no_part = one_part C
both_parts (one_part C) top_part = one_part C
both_parts (one_part C) more_parts = more_parts
both_parts (one_part C) (one_part D) = more_parts

-- "look at its parts that aren't themselves intersections"
unfoldable pub field_part : ℕ → Ty → FieldPart
field_part l int = no_part
field_part l top = top_part
field_part l (arrow A B) = cond (is_top_like B) top_part no_part
field_part l (inter A B) = both_parts (field_part l A) (field_part l B)
field_part l (field k A) = cond (is_top_like A) top_part (cond (eqb l k) (one_part A) no_part)

-- Subtyping, the right side split first, then the left; n bounds the two sizes.
unfoldable pub below_within : ℕ → Ty → Ty → Bool
below_within zero A B = false
below_within (suc n) int int = true
below_within (suc n) top int = false
below_within (suc n) (arrow A B) int = false
below_within (suc n) (inter A B) int = below_within n A int || below_within n B int
below_within (suc n) (field l A) int = false
below_within (suc n) A top = true
below_within (suc n) int (arrow C D) = is_top_like D
below_within (suc n) top (arrow C D) = is_top_like D
below_within (suc n) (arrow A B) (arrow C D) = is_top_like D || (below_within n C A && below_within n B D)
below_within (suc n) (inter A B) (arrow C D) = is_top_like D || (below_within n A (arrow C D) || below_within n B (arrow C D))
below_within (suc n) (field l A) (arrow C D) = is_top_like D
below_within (suc n) A (inter C D) = below_within n A C && below_within n A D
below_within (suc n) int (field k C) = is_top_like C
below_within (suc n) top (field k C) = is_top_like C
below_within (suc n) (arrow A B) (field k C) = is_top_like C
below_within (suc n) (inter A B) (field k C) = is_top_like C || (below_within n A (field k C) || below_within n B (field k C))
below_within (suc n) (field l A) (field k C) = is_top_like C || (eqb l k && below_within n A C)

-- "Below": the two sizes together are bound enough.
unfoldable pub is_below : Ty → Ty → Bool
is_below A B = below_within (size_type A + size_type B) A B

-- A type that is neither Top nor an intersection, against another: what the two heads leave to be asked.
unfoldable pub disjoint_int : Ty → Bool
disjoint_int int = false
disjoint_int top = true
disjoint_int (arrow C D) = true
disjoint_int (inter C D) = disjoint_int C && disjoint_int D
disjoint_int (field k C) = true

-- f asks of an output whether it is disjoint with the function's
unfoldable pub disjoint_arrow : (Ty → Bool) → Ty → Bool
disjoint_arrow f int = true
disjoint_arrow f top = true
disjoint_arrow f (arrow C D) = f D
disjoint_arrow f (inter C D) = disjoint_arrow f C && disjoint_arrow f D
disjoint_arrow f (field k C) = true

-- f asks of a content whether it is disjoint with that of the record type of label l
unfoldable pub disjoint_field : ℕ → (Ty → Bool) → Ty → Bool
disjoint_field l f int = true
disjoint_field l f top = true
disjoint_field l f (arrow C D) = true
disjoint_field l f (inter C D) = disjoint_field l f C && disjoint_field l f D
disjoint_field l f (field k C) = not (eqb l k) || f C

-- "Disjoint", the left type split first.
unfoldable pub is_disjoint : Ty → Ty → Bool
is_disjoint int B = disjoint_int B
is_disjoint top B = true
is_disjoint (arrow C D) B = disjoint_arrow (is_disjoint D) B
is_disjoint (inter C D) B = is_disjoint C B && is_disjoint D B
is_disjoint (field k C) B = disjoint_field k (is_disjoint C) B

-- "Values: numbers, the top value, functions, merges of values, records of values."
unfoldable pub is_value : Term → Bool
is_value e = fold_value (λ i. true) true (λ b A B. true) ◌&&◌ (λ l x. x) false e

-- The type that a value shows by its form; of a term that is no value, Top.
unfoldable pub type_of : Term → Ty
type_of e = fold_value (λ i. int) top (λ b A B. arrow A B) inter field top e

-- No variable of e skips k binders or more: with k = 0, e is closed.
unfoldable pub is_closed : ℕ → Term → Bool
is_closed k (var n) = ltb n k
is_closed k (lit i) = true
is_closed k unit = true
is_closed k (anno e A) = is_closed k e
is_closed k (app e f) = is_closed k e && is_closed k f
is_closed k (lam e A B) = is_closed (suc k) e
is_closed k (merge e f) = is_closed k e && is_closed k f
is_closed k (fix e A) = is_closed (suc k) e
is_closed k (rcd l e) = is_closed k e
is_closed k (proj l e) = is_closed k e
is_closed k (sum e f) = is_closed k e && is_closed k f
is_closed k (choice e f g) = is_closed k e && is_closed k f && is_closed k g

-- Equality of integers under one sign, from that of their numbers. (The library's decision of integers does not compute.)
unfoldable pub same_under : (f : ℕ → ℤ) → ((m n : ℕ) → f m ≡ f n → m ≡ n) → (m n : ℕ) → Dec (m ≡ n) → Dec (f m ≡ f n)
same_under f inj m n (yes p) = yes (ap f p)
same_under f inj m n (no u) = no (λ q. u (inj m n q))

-- "equal numbers"
unfoldable pub same_integer : Discrete ℤ
same_integer (pos m) (pos n) = same_under pos (λ m n p. cc) m n (ℕ_discrete m n)
same_integer (pos m) (negsuc n) = no (pos-ne-negsuc m n)
same_integer (negsuc m) (pos n) = no (λ p. pos-ne-negsuc n m (sym p))
same_integer (negsuc m) (negsuc n) = same_under negsuc (λ m n p. cc) m n (ℕ_discrete m n)

-- The same tree: two types,
unfoldable pub same_type : Ty → Ty → Bool
same_type A B = decide (Ty-discrete ℕ_discrete A B)

-- and two terms.
unfoldable pub same_term : Term → Term → Bool
same_term e f = decide (Term-discrete ℕ_discrete same_integer (Ty-discrete ℕ_discrete) e f)

-- f asked of each part of a value that is no merge: all must say yes.
unfoldable pub each_part : (Term → Bool) → Term → Bool
each_part f e = fold_parts f ◌&&◌ e

-- A value against one that is no merge. A number: "equal numbers", or disjoint types;
unfoldable pub consistent_lit : ℤ → Term → Bool
consistent_lit i w = by_form (λ j. decide (same_integer i j)) true (λ f C D. true) (λ l f. true) false w

-- a function: "functions with the same body and input type, as trees"; or disjoint types;
unfoldable pub consistent_lam : Term → Ty → Ty → Term → Bool
consistent_lam e A B w = by_form (λ j. true) true (λ f C D. (same_term e f && same_type A C) || is_disjoint B D) (λ l f. true) false w

-- a record: "records of one label with consistent contents", or disjoint types. f asks whether a content is consistent with that of the
-- record of label l.
unfoldable pub consistent_rcd : ℕ → (Term → Bool) → Term → Bool
consistent_rcd l f w = by_form (λ j. true) true (λ e C D. true) (λ k e. not (eqb l k) || f e) false w

-- "Consistent", of values, the left one split first: "a merge and a value, either way about, if both halves are consistent with the value"
unfoldable pub is_consistent : Term → Term → Bool
is_consistent v =
    fold_value (λ i. each_part (consistent_lit i)) (λ w. true) (λ e A B. each_part (consistent_lam e A B)) (λ p q w. p w && q w)
    (λ l p. each_part (consistent_rcd l p)) (λ w. false) v
