-- Sums and choices: their types, their steps and their refusals are what document 02, (ii), says. Assumes nothing.
use Prim.Native.Nat.{ℕ}
use mathlib.Core.Path.{◌≡◌, refl, ◌∙◌}
use mathlib.Core.Logic.{◌⊎◌, inl, inr, ◌≢◌}
use mathlib.Core.List.{List, ◌∷◌}
use lib.IntN.{ℤ, pos, ◌+ℤ◌}
use Rattle.calculus.specs.Syntax.{Ty, int, Term, lit, anno, sum, choice, IsValue}
use Rattle.calculus.specs.Numbers.{hold}
use Rattle.calculus.specs.TypedReduction.{Cast}
use Rattle.calculus.specs.Typing.{Typed, t_sum, t_choice}
use Rattle.calculus.specs.Step.{Step, s_sum_left, s_sum_right, s_sum, s_choice_first, s_choice}
use Rattle.calculus.specs.Decide.{is_below}
use Rattle.calculus.specs.Infer.{Reason, Found, refused, checked, infer}
use Rattle.calculus.specs.Agreement.{ChecksInt, RefusesInt, SumsAndChoices}
use Rattle.calculus.proofs.Bools.{T_false}
use Rattle.calculus.proofs.Decisions.{is_below_says}
use Rattle.calculus.proofs.TypedReduction.{cast_from}
use Rattle.calculus.proofs.Numbers.{hold_fits, hold_id, hold_above, hold_below, chosen_says}
use Rattle.calculus.proofs.Soundness.{value_no_step}
use Rattle.calculus.proofs.Inference.{infer_says, checked_passes}

-- ---- inversion: the parts of a typed term, and what a step can be

sum_parts : {Γ : List Ty} {e f : Term} {C : Ty} → Typed Γ (sum e f) C → ChecksInt Γ e × ChecksInt Γ f × (C ≡ int)
sum_parts (t_sum t b u c) = ((_, t, b), (_, u, c), refl)

choice_parts : {Γ : List Ty} {e f g : Term} {C : Ty} → Typed Γ (choice e f g) C → ChecksInt Γ e × ChecksInt Γ f × ChecksInt Γ g × (C ≡ int)
choice_parts (t_choice t b u c s a) = ((_, t, b), (_, u, c), (_, s, a), refl)

-- g is F of a successor of e
abbrev Within : (Term → Term) → ℕ → Term → Term → Type 0
Within F h e g = (d : Term) × Step h e d × (g ≡ F d)

left_steps : {h : ℕ} {e f g : Term} → ¬ IsValue e → Step h (sum e f) g → Within (λ d. sum d f) h e g
left_steps n (s_sum_left s) = (_, s, refl)
left_steps n (s_sum_right v s) = absurd (n (_, v))
left_steps n (s_sum c d) = absurd (n (cast_from c))

right_steps : {h : ℕ} {v f g : Term} → IsValue v → ¬ IsValue f → Step h (sum v f) g → Within (sum v) h f g
right_steps v n (s_sum_left s) = absurd (value_no_step v.1 s)
right_steps v n (s_sum_right u s) = (_, s, refl)
right_steps v n (s_sum c d) = absurd (n (cast_from d))

adds : {h : ℕ} {v w g : Term} → IsValue v → IsValue w → Step h (sum v w) g →
    (i : ℤ) × (j : ℤ) × Cast v int (lit i) × Cast w int (lit j) × (g ≡ lit (hold h (i +ℤ j)))
adds v w (s_sum_left s) = absurd (value_no_step v.1 s)
adds v w (s_sum_right u s) = absurd (value_no_step w.1 s)
adds v w (s_sum c d) = (_, _, c, d, refl)

first_steps : {h : ℕ} {e b c g : Term} → ¬ IsValue e → Step h (choice e b c) g → Within (λ d. choice d b c) h e g
first_steps n (s_choice_first s) = (_, s, refl)
first_steps n (s_choice p) = absurd (n (cast_from p))

chooses : {h : ℕ} {v b c g : Term} → IsValue v → Step h (choice v b c) g →
    (i : ℤ) × Cast v int (lit i) × (((i ≡ pos 0) × (g ≡ anno b int)) ⊎ ((i ≢ pos 0) × (g ≡ anno c int)))
chooses v (s_choice_first s) = absurd (value_no_step v.1 s)
chooses v (s_choice {b} {c} {i} p) = (i, p, (chosen_says (λ x. anno x int) i b c _).0 refl)

-- ---- a part that is checked against Int, then what s says; or the part is refused

passes : {Γ : List Ty} {e : Term} (f : ℕ) (s : Found) → ChecksInt Γ e → checked f (infer Γ e) int s ≡ s
passes {Γ} {e} f s (A, t, b) = checked_passes f ((infer_says Γ e A).1 t) b

refuses : {Γ : List Ty} {e : Term} {r : Reason} {p : List ℕ} (f : ℕ) (s : Found) → RefusesInt Γ e r p → checked f (infer Γ e) int s ≡ refused r (f ∷ p)
unfolding checked
refuses f s (inl q) = rw q
refuses {Γ} {e} f s (inr (A, t, n, q, o)) = rw ((infer_says Γ e A).1 t, T_false {b = is_below A int} (is_below_says A int) n, q, o)

pub sums_and_choices : SumsAndChoices
unfolding infer
sums_and_choices =
    record {
      sum_checked = λ Γ e f C. (sum_parts, λ (a, b, q). rw q (t_sum a.1 a.2 b.1 b.2));
      sum_read = λ h v w g a b. (adds a b, λ (i, j, c, d, q). rw q (s_sum c d));
      held_fits = hold_fits;
      held_same = hold_id;
      held_above = hold_above;
      held_below = hold_below;
      choice_checked = λ Γ e f g C. (choice_parts, λ (a, b, c, q). rw q (t_choice a.1 a.2 b.1 b.2 c.1 c.2));
      choice_read = λ h v b c g a. (chooses a, λ (i, p, q). rw ((chosen_says (λ x. anno x int) i b c g).1 q) (s_choice p));
      sum_left = λ h e f g n. (left_steps n, λ (d, s, q). rw q (s_sum_left s));
      sum_right = λ h v f g a n. (right_steps a n, λ (d, s, q). rw q (s_sum_right a.1 s));
      choice_first = λ h e b c g n. (first_steps n, λ (d, s, q). rw q (s_choice_first s));
      sum_refuses_a = λ Γ e f r p a. refuses 0 _ a;
      sum_refuses_b = λ Γ e f r p a b. passes 0 _ a ∙ refuses 1 _ b;
      choice_refuses_a = λ Γ e f g r p a. refuses 0 _ a;
      choice_refuses_b = λ Γ e f g r p a b. passes 0 _ a ∙ refuses 1 _ b;
      choice_refuses_c = λ Γ e f g r p a b c. passes 0 _ a ∙ passes 1 _ b ∙ refuses 2 _ c;
    }
