-- The places where steps are taken: "the left of an application or merge until it is a value, then the right; the inside of an annotation,
-- record or field read"; "Sides of a sum run left first; of a choice only a runs, while b and c wait." Assumes nothing.
use Rattle.std.specs.Prelude.{ℕ, ◌≡◌, true, List, [], ◌∷◌}
use Rattle.calculus.specs.Syntax.{Ty, Term, anno, app, merge, rcd, proj, sum, choice}
use Rattle.calculus.specs.Decide.{is_value}
use Rattle.format.specs.Tree.{raw}
use Rattle.format.specs.Terms.{from_type, from_term}
use Rattle.running.specs.Waiting.{Frame, first, second}

-- One cell around a focus, with what it has beside.
pub data Around : Type 0 where
  anno_of : Ty → Around
  app_left app_right merge_left merge_right sum_left sum_right : Term → Around
  rcd_of proj_of : ℕ → Around
  choice_of : Term → Term → Around

-- The term e with that around it;
unfoldable pub plug_term : Around → Term → Term
plug_term (anno_of A) e = anno e A
plug_term (app_left f) e = app e f
plug_term (app_right v) e = app v e
plug_term (merge_left f) e = merge e f
plug_term (merge_right v) e = merge v e
plug_term (rcd_of l) e = rcd l e
plug_term (proj_of l) e = proj l e
plug_term (sum_left f) e = sum e f
plug_term (sum_right v) e = sum v e
plug_term (choice_of f g) e = choice e f g

-- the innermost first
unfoldable pub whole : List Around → Term → Term
whole [] e = e
whole (f ∷ k) e = whole k (plug_term f e)

-- what stands left of the focus is a value
abbrev pub Proper : Around → Type 0
Proper (anno_of A) = Unit {0}
Proper (app_left f) = Unit {0}
Proper (app_right v) = is_value v ≡ true
Proper (merge_left f) = Unit {0}
Proper (merge_right v) = is_value v ≡ true
Proper (rcd_of l) = Unit {0}
Proper (proj_of l) = Unit {0}
Proper (sum_left f) = Unit {0}
Proper (sum_right v) = is_value v ≡ true
Proper (choice_of f g) = Unit {0}

-- the same of all that is around
pub data AllProper : List Around → Type 0 where
  p_none : AllProper []
  p_more : {f : Around} {k : List Around} → Proper f → AllProper k → AllProper (f ∷ k)

-- as a cell that waits
unfoldable pub frame : Around → Frame
frame (anno_of A) = first 19 0 (from_type A) (raw 0)
frame (app_left f) = first 20 0 (from_term f) (raw 0)
frame (app_right v) = second 20 0 (from_term v)
frame (merge_left f) = first 22 0 (from_term f) (raw 0)
frame (merge_right v) = second 22 0 (from_term v)
frame (rcd_of l) = first 24 l (raw 0) (raw 0)
frame (proj_of l) = first 25 l (raw 0) (raw 0)
frame (sum_left f) = first 26 0 (from_term f) (raw 0)
frame (sum_right v) = second 26 0 (from_term v)
frame (choice_of f g) = first 27 0 (from_term f) (from_term g)

-- the innermost first
unfoldable pub frames : List Around → List Frame
frames [] = []
frames (f ∷ k) = frame f ∷ frames k
