-- A term that stands in the work buffer: what follows for its focus. Assumes nothing.
use Prim.Native.Nat.{ℕ, ◌≤◌}
use mathlib.Core.Path.{◌≡◌, sym, ap, ◌∙◌, subst}
use mathlib.Core.Bool.{false}
use mathlib.Core.Logic.{◌⊎◌, inl, inr}
use mathlib.Core.List.{List, [], ◌∷◌}
use mathlib.Core.Option.{some, none-ne-some}
use lib.Dec.{T}
use Rattle.calculus.specs.Syntax.{Term, var, size, IsValue}
use Rattle.calculus.specs.Step.{Step, r_zero, r_suc}
use Rattle.calculus.specs.Decide.{is_value}
use Rattle.calculus.specs.Evaluate.{next}
use Rattle.calculus.proofs.Tests.{is_value_says}
use Rattle.calculus.proofs.Soundness.{progress, step_typed}
use Rattle.calculus.proofs.Evaluation.{next_sound, next_complete}
use Rattle.answers.proofs.Fits.{reaches_fits}
use Rattle.format.specs.declared.Version.{Version}
use Rattle.format.specs.declared.Version.TheVariants.{Two}
use Rattle.format.specs.Version.{half_of}
use Rattle.format.specs.Terms.{WideFits}
use Rattle.format.specs.Book.{size_limit}
use Rattle.numbers.proofs.Distances.{half_ready}
use Rattle.running.specs.Contexts.{Around, anno_of, app_left, app_right, merge_left, merge_right, rcd_of, proj_of, sum_left, sum_right, choice_of}
use Rattle.running.specs.Contexts.{plug_term, whole, AllProper}
use Rattle.running.specs.Places.{Standing, Runnable}
use Rattle.running.specs.declared.Focus.{Focus}
use Rattle.running.proofs.Contexts.{no_value, next_inside}

-- a typed term that is no value has a successor
pub successor : (k : ℕ) {e : Term} → Runnable e → is_value e ≡ false → (f : Term) × (next k e ≡ some f)
successor k {e} t v = go (progress t.typed)
  where
    go : IsValue e ⊎ ((f : Term) × Step k e f) → (f : Term) × (next k e ≡ some f)
    go (inl u) = absurd (subst T v ((is_value_says e).1 u))
    go (inr s) = next_complete s.1

-- it fits where the term does, if sums are held to the range of a version
pub successor_fits : (u : Version) (e f : Term) → next (half_of u) e ≡ some f → WideFits e → WideFits f
successor_fits u e f n h = let q = half_ready u in reaches_fits (half_of Two) q.0 q.1 (r_suc r_zero (next_sound (half_of u) e f n)) h

-- and can go on, if its size is within the limit
pub next_runnable : (u : Version) {e f : Term} → Runnable e → next (half_of u) e ≡ some f → size f ≤ size_limit → Runnable f
next_runnable u {e} {f} t n l =
    let y = step_typed t.typed (next_sound (half_of u) e f n) in
    record { type = y.0; typed = y.1; fits = successor_fits u e f n t.fits; small = l }

-- a focus that is no value has a successor of its own
pub goes : (k : ℕ) (K : List Around) {e : Term} (f : Term) → e ≡ whole K f → AllProper K → Runnable e → is_value f ≡ false → (g : Term) × (next k f ≡ some g)
goes k K {e} f is p t v =
    let n = successor k t (rw is (no_value K f p v)) in
    let i = next_inside k K f n.0 p v (sym (ap (next k) is) ∙ n.1) in
    (i.to, i.steps)

-- it is no variable
pub no_variable : (K : List Around) {e : Term} (f : Term) {n : ℕ} → e ≡ whole K f → AllProper K → Runnable e → (f ≡ var n → ⊥)
unfolding is_value next
no_variable K {e} f {n} is p t q =
    let g = goes 0 K f is p t (ap is_value q) in
    none-ne-some g.0 (sym (ap (next 0) q) ∙ g.1)

inside_fits : (F : Around) (e : Term) → WideFits (plug_term F e) → WideFits e
unfolding plug_term
inside_fits (anno_of A) e h = h.0
inside_fits (app_left f) e h = h.0
inside_fits (app_right v) e h = h.1
inside_fits (merge_left f) e h = h.0
inside_fits (merge_right v) e h = h.1
inside_fits (rcd_of l) e h = h.1
inside_fits (proj_of l) e h = h.1
inside_fits (sum_left f) e h = h.0
inside_fits (sum_right v) e h = h.1
inside_fits (choice_of f g) e h = h.0

-- the focus fits where the whole does
pub focus_fits : (K : List Around) (f : Term) → WideFits (whole K f) → WideFits f
unfolding whole
focus_fits [] f h = h
focus_fits (F ∷ K) f h = inside_fits F f (focus_fits K (plug_term F f) h)

pub standing_fits : {w : List ℕ} {x : Focus} {e : Term} (s : Standing w x e) → Runnable e → WideFits s.focus
standing_fits s r = focus_fits s.around s.focus (subst WideFits s.is r.fits)
