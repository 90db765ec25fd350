-- Laws of tests: what a Bool says by passing, `T b`, and which Bool it is if what it says is so. Assumes nothing.
use Prim.Native.Nat.{ℕ, ◌≤◌, ◌<◌}
use native.Mathlib.Nat.{not-le_of_lt}
use mathlib.Core.Path.{◌≡◌, refl, sym, subst⁻¹}
use mathlib.Core.Logic.Iff
use mathlib.Core.Logic.{◌↔◌, ◌⊎◌, inl, inr}
use mathlib.Core.Bool.{Bool, true, false, not, ◌&&◌, ◌||◌, and-false, cond, decide, decide_iff}
use lib.Dec.{T, T_not, not_T, ltb, eqb, ltb→lt, lt→ltb, nltb→le, eqb→eq}
use lib.Ieee.Fits.{eq→eqb}

-- what a test says is decided
pub T_dec : {P : Type 0} (b : Bool) → T b ↔ P → Dec P
T_dec true f = yes (f.0 tt)
T_dec false f = no f.1

-- tests that say the same are equal
pub T_same : {a b : Bool} {P : Type 0} → T a ↔ P → T b ↔ P → a ≡ b
T_same {a = true} {b = true} f g = refl
T_same {a = true} {b = false} f g = absurd (g.1 (f.0 tt))
T_same {a = false} {b = true} f g = absurd (f.1 (g.0 tt))
T_same {a = false} {b = false} f g = refl

-- a test passes if what it says is so, and fails if it is not
pub T_true : {b : Bool} {P : Type 0} → T b ↔ P → P → b ≡ true
T_true f p = T_same f (λ t. p, λ q. tt)

pub T_false : {b : Bool} {P : Type 0} → T b ↔ P → ¬ P → b ≡ false
T_false f n = T_same f (λ t. absurd t, n)

-- what holds of either value of a cond, each given its test
pub by_test : {X : Type 0} (P : X → Type 0) (b : Bool) {x y : X} → (T b → P x) → (¬ T b → P y) → P (cond b x y)
by_test P true f g = f tt
by_test P false f g = g (λ t. t)

-- What tests say: of a Bool, of a decision, of both, of either, of numbers.
pub true_says : (b : Bool) → T b ↔ (b ≡ true)
true_says b = (T_true Iff.rfl, λ e. subst⁻¹ T e tt)

pub decide_says : {P : Type 0} (d : Dec P) → T (decide d) ↔ P
decide_says d = Iff.trans (true_says (decide d)) (decide_iff d)

pub and_says : {P Q : Type 0} (a b : Bool) → T a ↔ P → T b ↔ Q → T (a && b) ↔ (P × Q)
and_says true b f g = (λ t. (f.0 tt, g.0 t), λ p. g.1 p.1)
and_says false b f g = (λ t. absurd t, λ p. f.1 p.0)

pub T_and : (a b : Bool) → T (a && b) ↔ (T a × T b)
T_and a b = and_says a b Iff.rfl Iff.rfl

pub and_exchange : (a b c d : Bool) → (a && b && (c && d)) ≡ (a && c && (b && d))
and_exchange false b c d = refl
and_exchange true true c d = refl
and_exchange true false c d = sym (and-false c)

pub or_says : {P Q : Type 0} (a b : Bool) → T a ↔ P → T b ↔ Q → T (a || b) ↔ (P ⊎ Q)
or_says true b f g = (λ t. inl (f.0 tt), λ s. tt)
or_says false b f g = (λ t. inr (g.0 t), elim [ inl p ↦ absurd (f.1 p) | inr q ↦ g.1 q ])

pub not_says : {P : Type 0} (b : Bool) → T b ↔ P → T (not b) ↔ (¬ P)
not_says b f = (λ t p. T_not b t (f.1 p), λ n. not_T b (λ t. n (f.0 t)))

pub eqb_says : (m n : ℕ) → T (eqb m n) ↔ (m ≡ n)
eqb_says m n = (eqb→eq m n, eq→eqb)

pub ltb_says : (m n : ℕ) → T (ltb m n) ↔ (m < n)
ltb_says m n = (ltb→lt m n, lt→ltb m n)

pub nltb_says : (m n : ℕ) → T (not (ltb m n)) ↔ (n ≤ m)
nltb_says m n = (nltb→le m n, λ h. not_T (ltb m n) (λ t. not-le_of_lt (ltb→lt m n t) h))

-- A Bool that says P, and how such are made of others.
abbrev pub Test : Type 0 → Type 0
Test P = (b : Bool) × (T b ↔ P)

infixl 35 ◌and◌
abbrev pub ◌and◌ : {P Q : Type 0} → Test P → Test Q → Test (P × Q)
s and t = (s.0 && t.0, and_says s.0 t.0 s.1 t.1)

infixl 30 ◌or◌
abbrev pub ◌or◌ : {P Q : Type 0} → Test P → Test Q → Test (P ⊎ Q)
s or t = (s.0 || t.0, or_says s.0 t.0 s.1 t.1)

abbrev pub passing : (b : Bool) → Test (b ≡ true)
passing b = (b, true_says b)

abbrev pub equal : (m n : ℕ) → Test (m ≡ n)
equal m n = (eqb m n, eqb_says m n)

abbrev pub less : (m n : ℕ) → Test (m < n)
less m n = (ltb m n, ltb_says m n)

abbrev pub at_most : (m n : ℕ) → Test (m ≤ n)
at_most m n = (not (ltb n m), nltb_says n m)
