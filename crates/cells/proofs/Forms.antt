-- Functions that go by the five forms of a value, of a term whose kind has no form that they tell apart. Assumes nothing.
use Prim.Native.Nat.{ℕ}
use mathlib.Core.Path.{◌≡◌, refl, ap, ◌∙◌}
use lib.IntN.{ℤ}
use Rattle.calculus.specs.Syntax.{Ty, Term, var, lit, unit, anno, app, lam, merge, fix, rcd, proj, sum, choice, by_form, fold_value, fold_parts}
use Rattle.format.specs.Table.{term_sort}
use Rattle.format.specs.Tree.{kind_in}
use Rattle.format.specs.Terms.{from_term_in}
use Rattle.cells.proofs.Held.{kind_of}

pub form_else : {X : Type 0} {n : ℤ → X} {u : X} {f : Term → Ty → Ty → X} {r : ℕ → Term → X} {z : X} (e : Term)
    → (kind_of term_sort e ≡ 17 → (i : ℤ) → n i ≡ z) → (kind_of term_sort e ≡ 18 → u ≡ z)
    → (kind_of term_sort e ≡ 21 → (b : Term) (A B : Ty) → f b A B ≡ z) → (kind_of term_sort e ≡ 24 → (l : ℕ) (b : Term) → r l b ≡ z)
    → by_form n u f r z e ≡ z
unfolding from_term_in kind_in
form_else (var k) p q g h = refl
form_else (lit i) p q g h = p refl i
form_else unit p q g h = q refl
form_else (anno e A) p q g h = refl
form_else (app e f) p q g h = refl
form_else (lam e A B) p q g h = g refl e A B
form_else (merge e f) p q g h = refl
form_else (fix e A) p q g h = refl
form_else (rcd l e) p q g h = h refl l e
form_else (proj l e) p q g h = refl
form_else (sum e f) p q g h = refl
form_else (choice e f d) p q g h = refl

-- the kinds of values
pub record NoValue (k : ℕ) : Type 0 where
  pub number : k ≡ 17 → ⊥
  pub top_value : k ≡ 18 → ⊥
  pub function : k ≡ 21 → ⊥
  pub merged : k ≡ 22 → ⊥
  pub recorded : k ≡ 24 → ⊥

pub fold_else : {X : Type 0} (n : ℤ → X) (u : X) (f : Term → Ty → Ty → X) (m : X → X → X) (r : ℕ → X → X) {z : X} (e : Term)
    → NoValue (kind_of term_sort e) → fold_value n u f m r z e ≡ z
unfolding from_term_in kind_in
fold_else n u g m r (var k) h = refl
fold_else n u g m r (lit i) h = absurd (h.number refl)
fold_else n u g m r unit h = absurd (h.top_value refl)
fold_else n u g m r (anno e A) h = refl
fold_else n u g m r (app e f) h = refl
fold_else n u g m r (lam e A B) h = absurd (h.function refl)
fold_else n u g m r (merge e f) h = absurd (h.merged refl)
fold_else n u g m r (fix e A) h = refl
fold_else n u g m r (rcd l e) h = absurd (h.recorded refl)
fold_else n u g m r (proj l e) h = refl
fold_else n u g m r (sum e f) h = refl
fold_else n u g m r (choice e f d) h = refl

-- a function of the parts asks a term that is no merge itself
pub parts_single : {X : Type 0} (f : Term → X) (m : X → X → X) (e : Term) → ((v w : Term) → e ≡ merge v w → ⊥) → fold_parts f m e ≡ f e
parts_single f m (var k) h = refl
parts_single f m (lit i) h = refl
parts_single f m unit h = refl
parts_single f m (anno e A) h = refl
parts_single f m (app e g) h = refl
parts_single f m (lam e A B) h = refl
parts_single f m (merge v w) h = absurd (h v w refl)
parts_single f m (fix e A) h = refl
parts_single f m (rcd l e) h = refl
parts_single f m (proj l e) h = refl
parts_single f m (sum e g) h = refl
parts_single f m (choice e g d) h = refl

-- and goes by form there
pub parts_else : {X : Type 0} (n : ℤ → X) (u : X) (f : Term → Ty → Ty → X) (r : ℕ → Term → X) {z : X} (m : X → X → X) (e : Term)
    → NoValue (kind_of term_sort e) → fold_parts (by_form n u f r z) m e ≡ z
unfolding from_term_in kind_in
parts_else n u f r {z = z} m e h =
    parts_single (by_form n u f r z) m e (λ v w q. h.merged (ap (kind_of term_sort) q))
    ∙ form_else {n = n} {u = u} {f = f} {r = r} e (λ k. absurd (h.number k)) (λ k. absurd (h.top_value k)) (λ k. absurd (h.function k)) (λ k. absurd (h.recorded k))
