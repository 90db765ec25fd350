-- Steps: source 001, figure 8, with records, their fields read inside a merge too, sums and choices; and what document 01's "Running" says of them.
-- All of it is stated over h, half of the range that sums are held to: -h .. h - 1. Assumes nothing.
use Rattle.std.specs.Prelude.{ℕ, zero, suc, ◌≡◌, ◌⊎◌, ℤ, ◌+ℤ◌}
use Rattle.calculus.specs.Syntax.{Ty, int, Term, lit, unit, anno, app, lam, merge, fix, rcd, proj, sum, choice, Value, IsValue, substitute}
use Rattle.calculus.specs.Numbers.{hold, chosen}
use Rattle.calculus.specs.TypedReduction.{Cast}
use Rattle.calculus.specs.Fields.{NoField, SomeTopLike, HasField}

module _ (h : ℕ) where
  -- Step e f: f is a successor of e.
  pub data Step : Term → Term → Type 0 where
    -- STEP-APPL, STEP-APPR, STEP-MERGEL, STEP-MERGER: "the left of an application or merge until it is a value, then the right"
    s_app_left : {e f g : Term} → Step e f → Step (app e g) (app f g)
    s_app_right : {v e f : Term} {A : Ty} → Value v A → Step e f → Step (app v e) (app v f)
    s_merge_left : {e f g : Term} → Step e f → Step (merge e g) (merge f g)
    s_merge_right : {v e f : Term} {A : Ty} → Value v A → Step e f → Step (merge v e) (merge v f)
    -- STEP-ANNO: "the inside of an annotation, record or field read"
    s_anno : {e f : Term} {A : Ty} → Step e f → Step (anno e A) (anno f A)
    s_rcd : {l : ℕ} {e f : Term} → Step e f → Step (rcd l e) (rcd l f)
    s_proj : {l : ℕ} {e f : Term} → Step e f → Step (proj l e) (proj l f)
    -- STEP-ANNOV: "an annotated value becomes its reading"
    s_cast : {v x : Term} {A : Ty} → Cast v A x → Step (anno v A) x
    -- STEP-BETA: "A function on a value becomes its body with the argument's reading put in, annotated with the output."
    s_beta : {e v x : Term} {A B : Ty} → Cast v A x → Step (app (lam e A B) v) (anno (substitute 0 x e) B)
    -- STEP-TOP: "The top value applied to a value, or with a field read, becomes the top value."
    s_app_unit : {v : Term} {A : Ty} → Value v A → Step (app unit v) unit
    s_proj_unit : {l : ℕ} → Step (proj l unit) unit
    -- "A field read of a record value becomes the content."
    s_proj_rcd : {l : ℕ} {v : Term} {A : Ty} → Value v A → Step (proj l (rcd l v)) v
    -- Document 02, (i), of a merge: "A run takes that part's content, or the top value."
    s_proj_part : {l : ℕ} {v w x : Term} {A : Ty} → Value (merge v w) A → HasField l (merge v w) x → Step (proj l (merge v w)) x
    s_proj_none : {l : ℕ} {v w : Term} {A : Ty} → Value (merge v w) A → NoField l A → SomeTopLike A → Step (proj l (merge v w)) unit
    -- STEP-FIX: "A fixpoint becomes its body with itself put in, annotated with its type."
    s_fix : {e : Term} {A : Ty} → Step (fix e A) (anno (substitute 0 (fix e A) e) A)
    -- Document 02, (ii): "Sides of a sum run left first";
    s_sum_left : {e f g : Term} → Step e f → Step (sum e g) (sum f g)
    s_sum_right : {v e f : Term} {A : Ty} → Value v A → Step e f → Step (sum v e) (sum v f)
    -- "both are read under Int, and the sum is held to the ends of the .. range".
    s_sum : {v w : Term} {i j : ℤ} → Cast v int (lit i) → Cast w int (lit j) → Step (sum v w) (lit (hold h (i +ℤ j)))
    -- "of a choice only a runs, while b and c wait";
    s_choice_first : {e f b c : Term} → Step e f → Step (choice e b c) (choice f b c)
    -- "it is read under Int; the choice becomes b for zero and c for anything else, either one annotated Int."
    s_choice : {v b c : Term} {i : ℤ} → Cast v int (lit i) → Step (choice v b c) (anno (chosen i b c) int)

  -- "A term that is no value and has no successor is stuck."
  abbrev pub Stuck : Term → Type 0
  Stuck e = (¬ IsValue e) × ((f : Term) → ¬ Step e f)

  -- Demand 3: "it is a value and has no successor under the calculus, or is no value and has exactly one".
  abbrev pub Ends : Term → Type 0
  Ends f = (IsValue f × ((g : Term) → ¬ Step f g)) ⊎ ((¬ IsValue f) × ((g : Term) × Step f g × ((d : Term) → Step f d → d ≡ g)))

  -- Reaches n e f: f is a term after n steps of e. "A book's only term after no steps is its root ..; a term after one step more is
  -- any successor of one before."
  pub data Reaches : ℕ → Term → Term → Type 0 where
    r_zero : {e : Term} → Reaches zero e e
    r_suc : {n : ℕ} {e f g : Term} → Reaches n e f → Step f g → Reaches (suc n) e g
