-- The successor of a redex, by its kind: what a value makes of it. Assumes nothing.
use Prim.Native.Nat.{ℕ, ◌*◌, ◌+◌, ◌≤◌, ◌<◌}
use native.Mathlib.Decide.{ℕ_discrete}
use native.Mathlib.Omega.{arith}
use mathlib.Core.Path.{◌≡◌, refl, sym, ◌∙◌}
use mathlib.Core.Bool.{true}
use mathlib.Core.Option.{Option, none, some, map, some-injective, none-ne-some}
use mathlib.Core.List.{List}
use lib.ListN.{length}
use Rattle.calculus.specs.Syntax.{Ty, int, Term, unit, anno, app, fix, choice, substitute}
use Rattle.calculus.specs.Numbers.{chosen}
use Rattle.calculus.specs.Decide.{is_value}
use Rattle.calculus.specs.Evaluate.{cast, apply, number_of, choose, next}
use Rattle.format.specs.Cell.{Cell, cell_at}
use Rattle.format.specs.Tree.{kind_in}
use Rattle.format.specs.Terms.{from_term_in}
use Rattle.cells.specs.Held.{HoldsTerm}
use Rattle.cells.proofs.Held.{kind_of_lem, kind_of_held, held_within}
use Rattle.cells.proofs.Forms.{form_else}
use Rattle.emission.specs.Runs.{RunsType, RunsTerm}
use Rattle.emission.proofs.Runs.{holds_term}
use Rattle.emission.proofs.RunParts.{lam_at}
use Rattle.reduction.specs.Steps.{Redex, at_anno, at_app, at_choice, at_fix}

-- f of an answer
record Within (f : Term → Term) (o : Option Term) (g : Term) : Type 0 where
  to : Term
  answers : o ≡ some to
  is : g ≡ f to

within_some : (f : Term → Term) (o : Option Term) {g : Term} → map f o ≡ some g → Within f o g
within_some f none {g} h = absurd (none-ne-some g h)
within_some f (some x) {g} h = record { to = x; answers = refl; is = sym (some-injective (f x) g h) }

no_answer : {A : Type 0} {g : Term} → ◌≡◌ {A = Option Term} none (some g) → A
no_answer {g = g} h = absurd (none-ne-some g h)

module _ (half : ℕ) {g : Term} where
  pub anno_reads : (e : Term) (A : Ty) → is_value e ≡ true → next half (anno e A) ≡ some g → cast A e ≡ some g
  unfolding next
  anno_reads e A v h = rw (v, next) at h

  app_applies : (e f : Term) → is_value e ≡ true → is_value f ≡ true → next half (app e f) ≡ some g → apply e f ≡ some g
  unfolding next
  app_applies e f v w h = rw (v, w, next) at h

  choice_chooses : (e a b : Term) → is_value e ≡ true → next half (choice e a b) ≡ some g → choose (cast int e) a b ≡ some g
  unfolding next
  choice_chooses e a b v h = rw (v, next) at h

  pub fix_instance : (e : Term) (A : Ty) → next half (fix e A) ≡ some g → g ≡ anno (substitute 0 (fix e A) e) A
  unfolding next
  fix_instance e A h = sym (some-injective _ g h)

-- ---- a redex, by its kind

-- its successor is the same to whatever range sums are held
pub any_range : {s : List ℕ} {i : ℕ} {e : Term} (h k : ℕ) → Redex s i e → next h e ≡ next k e
unfolding next
any_range h k (at_anno p _ _ v _ _) = rw (v, next) refl
any_range h k (at_app p _ _ v u _ _) = rw (v, u, next) refl
any_range h k (at_choice p _ _ _ v _ _ _) = rw (v, next) refl
any_range h k (at_fix r) = refl

pub redex_within : {s : List ℕ} {i : ℕ} {e : Term} → Redex s i e → 8 * i + 8 ≤ length s
redex_within (at_anno p _ _ _ _ _) = p.within
redex_within (at_app p _ _ _ _ _ _) = p.within
redex_within (at_choice p _ _ _ _ _ _ _) = p.within
redex_within (at_fix r) = held_within (holds_term r)

fix_kind : {s : List ℕ} {i : ℕ} {e : Term} {A : Ty} → HoldsTerm s i (fix e A) → (cell_at s i).kind ≡ 23
unfolding from_term_in kind_in
fix_kind h = kind_of_held h

-- an annotated value: g is its reading
pub record Read (s : List ℕ) (i : ℕ) (g : Term) : Type 0 where
  pub value : Term
  pub type : Ty
  pub holds_value : RunsTerm s (cell_at s i).a value
  pub holds_type : RunsType s (cell_at s i).b type
  pub casts : cast type value ≡ some g

pub anno_redex : (half : ℕ) {s : List ℕ} {i : ℕ} {e g : Term} → Redex s i e → next half e ≡ some g → (cell_at s i).kind ≡ 19 → Read s i g
anno_redex half (at_anno {v = v} {A = A} p _ _ d h k) n _ =
    record { value = v; type = A; holds_value = rw p.is h; holds_type = rw p.is k; casts = anno_reads half v A d n }
anno_redex half (at_app p _ _ _ _ _ _) n o = absurd (omega (arith, kind_of_lem p, o))
anno_redex half (at_choice p _ _ _ _ _ _ _) n o = absurd (omega (arith, kind_of_lem p, o))
anno_redex half (at_fix r) n o = absurd (omega (arith, fix_kind (holds_term r), o))

-- a value applied to a value
pub record Arguments (s : List ℕ) (i : ℕ) (g : Term) : Type 0 where
  pub first : Term
  pub second : Term
  pub lower : (cell_at s i).a < i
  pub second_lower : (cell_at s i).b < i
  pub holds_first : RunsTerm s (cell_at s i).a first
  pub holds_second : RunsTerm s (cell_at s i).b second
  pub applies : apply first second ≡ some g

pub app_redex : (half : ℕ) {s : List ℕ} {i : ℕ} {e g : Term} → Redex s i e → next half e ≡ some g → (cell_at s i).kind ≡ 20 → Arguments s i g
app_redex half (at_anno p _ _ _ _ _) n o = absurd (omega (arith, kind_of_lem p, o))
app_redex half (at_app {v = v} {u = u} p l m c d h k) n _ =
    record { first = v; second = u; lower = rw p.is l; second_lower = rw p.is m; holds_first = rw p.is h; holds_second = rw p.is k; applies = app_applies half v u c d n }
app_redex half (at_choice p _ _ _ _ _ _ _) n o = absurd (omega (arith, kind_of_lem p, o))
app_redex half (at_fix r) n o = absurd (omega (arith, fix_kind (holds_term r), o))

-- a choice by a value, which is read under Int
pub record Choosing (s : List ℕ) (i : ℕ) (g : Term) : Type 0 where
  pub tested : Term
  pub zero : Term
  pub other : Term
  pub holds_tested : RunsTerm s (cell_at s i).a tested
  pub holds_zero : RunsTerm s (cell_at s i).b zero
  pub holds_other : RunsTerm s (cell_at s i).c other
  pub reduct : Term
  pub casts : cast int tested ≡ some reduct
  pub is : g ≡ anno (chosen (number_of reduct) zero other) int

pub choice_redex : (half : ℕ) {s : List ℕ} {i : ℕ} {e g : Term} → Redex s i e → next half e ≡ some g → (cell_at s i).kind ≡ 27 → Choosing s i g
unfolding choose
choice_redex half (at_anno p _ _ _ _ _) n o = absurd (omega (arith, kind_of_lem p, o))
choice_redex half (at_app p _ _ _ _ _ _) n o = absurd (omega (arith, kind_of_lem p, o))
choice_redex half (at_choice {v = v} {e = e} {f = f} p _ _ _ d h k m) n _ =
    let a = within_some (λ x. anno (chosen (number_of x) e f) int) (cast int v) (choice_chooses half v e f d n) in
    record {
      tested = v;
      zero = e;
      other = f;
      holds_tested = rw p.is h;
      holds_zero = rw p.is k;
      holds_other = rw p.is m;
      reduct = a.to;
      casts = a.answers;
      is = a.is;
    }
choice_redex half (at_fix r) n o = absurd (omega (arith, fix_kind (holds_term r), o))

-- a fixpoint
pub fix_redex : {s : List ℕ} {i : ℕ} {e : Term} → Redex s i e → (cell_at s i).kind ≡ 23 → RunsTerm s i e
fix_redex (at_anno p _ _ _ _ _) o = absurd (omega (arith, kind_of_lem p, o))
fix_redex (at_app p _ _ _ _ _ _) o = absurd (omega (arith, kind_of_lem p, o))
fix_redex (at_choice p _ _ _ _ _ _ _) o = absurd (omega (arith, kind_of_lem p, o))
fix_redex (at_fix r) _ = r

pub last_kind : {s : List ℕ} {i : ℕ} {e : Term} → Redex s i e → ((cell_at s i).kind ≡ 19 → ⊥) → ((cell_at s i).kind ≡ 20 → ⊥) → ((cell_at s i).kind ≡ 27 → ⊥)
    → (cell_at s i).kind ≡ 23
last_kind (at_anno p _ _ _ _ _) n m o = absurd (n (kind_of_lem p))
last_kind (at_app p _ _ _ _ _ _) n m o = absurd (m (kind_of_lem p))
last_kind (at_choice p _ _ _ _ _ _ _) n m o = absurd (o (kind_of_lem p))
last_kind (at_fix r) n m o = fix_kind (holds_term r)

-- ---- a value applied to a value, by the cell that holds the value

pub unit_applies : (v : Term) {g : Term} → apply unit v ≡ some g → g ≡ unit
unfolding apply
unit_applies v {g} h = sym (some-injective unit g h)

-- a function whose argument reads; t is its cell as it was read
pub record Applied (s : List ℕ) (j : ℕ) (t : Cell) (v g : Term) : Type 0 where
  pub body : Term
  pub input : Ty
  pub output : Ty
  pub reduct : Term
  pub lower : t.a < j
  pub input_lower : t.b < j
  pub holds_body : RunsTerm s t.a body
  pub holds_input : RunsType s t.b input
  pub holds_output : RunsType s t.c output
  pub casts : cast input v ≡ some reduct
  pub is : g ≡ anno (substitute 0 reduct body) output

pub applied : {s : List ℕ} {j : ℕ} {t : Cell} {e v g : Term} → t ≡ cell_at s j → RunsTerm s j e → (t.kind ≡ 18 → ⊥) → apply e v ≡ some g
    → Applied s j t v g
unfolding apply
applied {s} {j} {t} {e} {v} c r n h =
    elim (ℕ_discrete (cell_at s j).kind 21) [
      | yes k ↦
          let w = lam_at r k in
          let a = within_some (λ x. anno (substitute 0 x w.body) w.output) (cast w.input v) (rw w.is at h) in
          rw c record {
            body = w.body;
            input = w.input;
            output = w.output;
            reduct = a.to;
            lower = w.body_lower;
            input_lower = w.input_lower;
            holds_body = w.holds_body;
            holds_input = w.holds_input;
            holds_output = w.holds_output;
            casts = a.answers;
            is = a.is;
          }
      | no u ↦
          let k = kind_of_held (holds_term r) in
          no_answer (sym (form_else e (λ m i. refl) (λ m. absurd (n (rw c (k ∙ m)))) (λ m. absurd (u (k ∙ m))) (λ m l b. refl)) ∙ h)
    ]
