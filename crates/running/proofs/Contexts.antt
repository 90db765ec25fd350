-- A step inside is the term's step, and the term is no value. Assumes nothing.
use Prim.Native.Nat.{ℕ}
use mathlib.Core.Path.{◌≡◌, refl, sym, ap, ◌∙◌}
use mathlib.Core.Bool.{false}
use mathlib.Core.Option.{Option, none, some, map, some-injective, none-ne-some}
use mathlib.Core.List.{List, [], ◌∷◌}
use Rattle.calculus.specs.Syntax.{Term}
use Rattle.calculus.specs.Decide.{is_value}
use Rattle.calculus.specs.Evaluate.{next}
use Rattle.format.specs.Terms.{from_term_in, from_term}
use Rattle.running.specs.Waiting.{plug, fill}
use Rattle.running.specs.Contexts.{Around, anno_of, app_left, app_right, merge_left, merge_right, rcd_of, proj_of, sum_left, sum_right, choice_of}
use Rattle.running.specs.Contexts.{plug_term, whole, Proper, AllProper, p_more, frame, frames}

stays : (f : Around) (e : Term) → Proper f → is_value e ≡ false → is_value (plug_term f e) ≡ false
unfolding plug_term is_value
stays (anno_of A) e p h = refl
stays (app_left f) e p h = refl
stays (app_right v) e p h = refl
stays (merge_left f) e p h = rw h
stays (merge_right v) e p h = rw (p, h)
stays (rcd_of l) e p h = h
stays (proj_of l) e p h = refl
stays (sum_left f) e p h = refl
stays (sum_right v) e p h = refl
stays (choice_of f g) e p h = refl

-- the step of a term around e, if any, is that of e
around_steps : (half : ℕ) (f : Around) (e : Term) → Proper f → is_value e ≡ false → next half (plug_term f e) ≡ map (plug_term f) (next half e)
unfolding plug_term next
around_steps half (anno_of A) e p h = rw (h, next) refl
around_steps half (app_left f) e p h = rw (h, next) refl
around_steps half (app_right v) e p h = rw (p, next, h) refl
around_steps half (merge_left f) e p h = rw (h, next) refl
around_steps half (merge_right v) e p h = rw (p, next) refl
around_steps half (rcd_of l) e p h = refl
around_steps half (proj_of l) e p h = rw (h, next) refl
around_steps half (sum_left f) e p h = rw (h, next) refl
around_steps half (sum_right v) e p h = rw (p, next, h) refl
around_steps half (choice_of f g) e p h = rw (h, next) refl

pub no_value : (k : List Around) (e : Term) → AllProper k → is_value e ≡ false → is_value (whole k e) ≡ false
unfolding whole
no_value [] e p h = h
no_value (f ∷ k) e (p_more p q) h = no_value k (plug_term f e) q (stays f e p h)

-- of the whole too
whole_steps : (half : ℕ) (k : List Around) (e : Term) → AllProper k → is_value e ≡ false → next half (whole k e) ≡ map (whole k) (next half e)
unfolding whole
whole_steps half [] e p h = go (next half e)
  where
    go : (o : Option Term) → o ≡ map (whole []) o
    go none = refl
    go (some x) = refl
whole_steps half (f ∷ k) e (p_more p q) h =
    whole_steps half k (plug_term f e) q (stays f e p h) ∙ ap (map (whole k)) (around_steps half f e p h) ∙ go (next half e)
  where
    go : (o : Option Term) → map (whole k) (map (plug_term f) o) ≡ map (whole (f ∷ k)) o
    go none = refl
    go (some x) = refl

pub next_whole : (half : ℕ) (k : List Around) (e x : Term) → AllProper k → is_value e ≡ false → next half e ≡ some x → next half (whole k e) ≡ some (whole k x)
next_whole half k e x p h n = whole_steps half k e p h ∙ ap (map (whole k)) n

-- What the whole steps to is what the focus steps to, in its place.
pub record Inside (half : ℕ) (k : List Around) (e g : Term) : Type 0 where
  pub to : Term
  pub steps : next half e ≡ some to
  pub is : g ≡ whole k to

pub next_inside : (half : ℕ) (k : List Around) (e g : Term) → AllProper k → is_value e ≡ false → next half (whole k e) ≡ some g → Inside half k e g
next_inside half k e g p h n = go (next half e) refl (sym (whole_steps half k e p h) ∙ n)
  where
    go : (o : Option Term) → next half e ≡ o → map (whole k) o ≡ some g → Inside half k e g
    go none q i = absurd (none-ne-some g i)
    go (some x) q i = record { to = x; steps = q; is = sym (some-injective (whole k x) g i) }

one : (g : Around) (e : Term) → plug (frame g) (from_term e) ≡ from_term (plug_term g e)
unfolding plug frame plug_term from_term_in
one (anno_of A) e = refl
one (app_left x) e = refl
one (app_right v) e = refl
one (merge_left x) e = refl
one (merge_right v) e = refl
one (rcd_of l) e = refl
one (proj_of l) e = refl
one (sum_left x) e = refl
one (sum_right v) e = refl
one (choice_of x y) e = refl

pub framed : (k : List Around) (e : Term) → fill (frames k) (from_term e) ≡ from_term (whole k e)
unfolding fill frames whole
framed [] e = refl
framed (f ∷ k) e = ap (fill (frames k)) (one f e) ∙ framed k (plug_term f e)
