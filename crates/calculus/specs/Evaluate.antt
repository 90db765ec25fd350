-- Typed reduction and the next step, as functions. A merge is read from its left half where that can be, else from its right: on typed
-- terms the theorems of proofs/ leave no other answer. Assumes nothing.
use Rattle.std.specs.Prelude.{ℕ, true, false, not, ◌&&◌, cond, eqb, ℤ, pos, ◌+ℤ◌}
use Rattle.std.proofs.Math.Option.{Option, none, some, map, or_else}
use Rattle.calculus.specs.Syntax.{Ty, int, top, arrow, inter, field}
use Rattle.calculus.specs.Syntax.{Term, var, lit, unit, anno, app, lam, merge, fix, rcd, proj, sum, choice, substitute, by_form, fold_parts}
use Rattle.calculus.specs.Numbers.{hold, chosen}
use Rattle.calculus.specs.Decide.{FieldPart, no_part, top_part, more_parts, one_part, is_top_like, field_part, is_below, is_value, type_of}

-- "under an intersection, merge both readings"
unfoldable pub merge_both : Option Term → Option Term → Option Term
merge_both none y = none
merge_both (some e) y = map (merge e) y

-- The first part of a value, no merge itself, to which f has an answer.
unfoldable pub first_part : (Term → Option Term) → Term → Option Term
first_part f e = fold_parts f or_else e

-- "a number under Int is itself"
unfoldable pub cast_int : Term → Option Term
cast_int e = by_form (λ i. some (lit i)) none (λ b A B. none) (λ l f. none) none e

-- "a function under a function type above its own keeps body and input and takes the new output type"
unfoldable pub cast_arrow : Ty → Ty → Term → Option Term
cast_arrow C D e = by_form (λ i. none) none (λ b A B. cond (is_below C A && is_below B D) (some (lam b A D)) none) (λ l f. none) none e

-- "a record of that label has its content read and stays a record": f reads the content
unfoldable pub cast_field : ℕ → (Term → Option Term) → Term → Option Term
cast_field l f e = by_form (λ i. none) none (λ b A B. none) (λ k g. cond (eqb l k) (map (rcd l) (f g)) none) none e

-- "Reading a value under a type", where it can be read. "Under any other top-like type: the top value."
unfoldable pub cast : Ty → Term → Option Term
cast int v = first_part cast_int v
cast top v = some unit
cast (arrow C D) v = elim (is_top_like D) [ true ↦ some unit | false ↦ first_part (cast_arrow C D) v ]
cast (inter A B) v = merge_both (cast A v) (cast B v)
cast (field l A) v = elim (is_top_like A) [ true ↦ some unit | false ↦ first_part (cast_field l (cast A)) v ]

-- "A function on a value becomes its body with the argument's reading put in, annotated with the output. The top value applied to a value ..
-- becomes the top value."
unfoldable pub apply : Term → Term → Option Term
apply e v = by_form (λ i. none) (some unit) (λ b A B. map (λ x. anno (substitute 0 x b) B) (cast A v)) (λ l f. none) none e

-- The content of a part that is a record of that label and whose type is not top-like.
unfoldable pub content : ℕ → Term → Option Term
content l e = by_form (λ i. none) none (λ b A B. none) (λ k f. cond (eqb l k && not (is_top_like (type_of f))) (some f) none) none e

-- The top value, where no part has the field but some part is top-like.
unfoldable pub top_value : FieldPart → Option Term
top_value no_part = none
top_value top_part = some unit
top_value more_parts = none
top_value (one_part C) = none

-- Of a merge, the content of the first part that has the field: "A run takes that part's content, or the top value."
unfoldable pub read_parts : ℕ → Term → Option Term
read_parts l e = or_else (first_part (content l) e) (top_value (field_part l (type_of e)))

-- A field read of a value: "The top value .. with a field read, becomes the top value. A field read of a record value becomes the content." A
-- value that is none of the forms is a merge.
unfoldable pub project : ℕ → Term → Option Term
project l e = by_form (λ i. none) (some unit) (λ b A B. none) (λ k f. cond (eqb l k) (some f) none) (read_parts l e) e

-- The number that a reading under Int is.
unfoldable pub number_of : Term → ℤ
number_of e = by_form (λ i. i) (pos 0) (λ b A B. pos 0) (λ l f. pos 0) (pos 0) e

-- A choice, from the reading of its first part: "the choice becomes b for zero and c for anything else, either one annotated Int."
unfoldable pub choose : Option Term → Term → Term → Option Term
choose x e f = map (λ v. anno (chosen (number_of v) e f) int) x

-- Over h, half of the range that sums are held to.
module _ (h : ℕ) where
  -- A sum, from the readings of its sides: "the sum is held to the ends of the .. range"
  unfoldable pub add : Option Term → Option Term → Option Term
  add none y = none
  add (some v) y = map (λ w. lit (hold h (number_of v +ℤ number_of w))) y

  -- The successor, where there is one: "Steps go leftmost first, never under a binder".
  unfoldable pub next : Term → Option Term
  next (var n) = none
  next (lit i) = none
  next unit = none
  next (anno e A) = elim (is_value e) [ true ↦ cast A e | false ↦ map (λ x. anno x A) (next e) ]
  next (app e f) =
      elim (is_value e) [
        | true ↦ elim (is_value f) [ true ↦ apply e f | false ↦ map (app e) (next f) ]
        | false ↦ map (λ x. app x f) (next e)
      ]
  next (lam e A B) = none
  next (merge e f) = elim (is_value e) [ true ↦ map (merge e) (next f) | false ↦ map (λ x. merge x f) (next e) ]
  next (fix e A) = some (anno (substitute 0 (fix e A) e) A)
  next (rcd l e) = map (rcd l) (next e)
  next (proj l e) = elim (is_value e) [ true ↦ project l e | false ↦ map (proj l) (next e) ]
  next (sum e f) =
      elim (is_value e) [
        | true ↦ elim (is_value f) [ true ↦ add (cast int e) (cast int f) | false ↦ map (sum e) (next f) ]
        | false ↦ map (λ x. sum x f) (next e)
      ]
  next (choice e f g) = elim (is_value e) [ true ↦ choose (cast int e) f g | false ↦ map (λ x. choice x f g) (next e) ]
