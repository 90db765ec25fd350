-- What is promised of the definitions beside the theorem: the source's definitions and document 01's lists agree, the rules of a field read
-- count parts as document 02 does, those of sums and choices say what it says, substitution keeps every part in its place, and the executable functions decide the relations. Assumes nothing.
use Rattle.std.specs.Prelude.{ℕ, suc, ◌-◌, ◌≤◌, ◌<◌, ◌≡◌, ◌↔◌, ◌⊎◌, ◌≢◌, List, [], ◌∷◌, T, ℤ, pos, negsuc, ◌+ℤ◌}
use Rattle.std.proofs.Math.Option.{some}
use Rattle.std.specs.Int.Signed.{mag}
use Rattle.calculus.specs.Syntax.{Ty, int, top, inter, field, Term, var, lit, anno, proj, sum, choice, Value, IsValue, substitute}
use Rattle.calculus.specs.Numbers.{hold}
use Rattle.calculus.specs.Subtyping.{TopLike, Ordinary, Below}
use Rattle.calculus.specs.Disjointness.{Disjoint, DisjointByList}
use Rattle.calculus.specs.TypedReduction.{Cast}
use Rattle.calculus.specs.Consistency.{Consistent, ConsistentByList}
use Rattle.calculus.specs.Fields.{NoField, OneField, SomeTopLike, HasField}
use Rattle.calculus.specs.Typing.{Projects, Typed, TypedByList}
use Rattle.calculus.specs.Runtime.{Runtime}
use Rattle.calculus.specs.Step.{Step}
use Rattle.calculus.specs.Decide.{is_top_like, FieldPart, no_part, top_part, more_parts, one_part, field_part, is_below, is_disjoint, is_value, is_consistent}
use Rattle.calculus.specs.Infer.{Reason, no_field, mismatch, found, refused, infer}
use Rattle.calculus.specs.RefusalPaths.{At, here, in_anno, in_left, in_right, in_body, in_first, in_second, in_fix, in_content, in_read}
use Rattle.calculus.specs.RefusalPaths.{in_sum_left, in_sum_right, in_tested, in_zero, in_other}
use Rattle.calculus.specs.Evaluate.{cast, next}

-- "This list decides; the source's definition by all readings has to agree with it on typed values." Here on all values; and so do disjoint
-- types, and typing with either pair.
pub record ListsAgree : Type 0 where
  pub disjoint : (A B : Ty) → Disjoint A B ↔ DisjointByList A B
  pub consistent : (v w : Term) (A B : Ty) → Value v A → Value w B → Consistent v w ↔ ConsistentByList v w
  pub typed : (Γ : List Ty) (e : Term) (A : Ty) → Typed Γ e A ↔ TypedByList Γ e A

-- P is a part of A that is no intersection itself; each derivation is an occurrence.
pub data Occurs : Ty → Ty → Type 0 where
  occurs_here : {A : Ty} → Ordinary A → Occurs A A
  occurs_left : {A B P : Ty} → Occurs A P → Occurs (inter A B) P
  occurs_right : {A B P : Ty} → Occurs B P → Occurs (inter A B) P

-- An occurrence in A of a record type of label l, with its content.
abbrev pub FieldIn : ℕ → Ty → Type 0
FieldIn l A = (C : Ty) × Occurs A (field l C)

-- Document 02, (i), in its words: "A record type or Top keeps its rule"; of an intersection, "its content is the type" or "the type is Top", as the
-- parts decide: "precisely one part is a record of that label and not top_like"; "there is no such part"; "some part is top_like"; "Otherwise 13.",
-- which names the field read. "A run takes that part's content": a value of such a type has one, which shows the type found, and one without such a
-- part has none.
pub record PartsCounted : Type 0 where
  pub keeps : (l : ℕ) (A C : Ty) → Ordinary A → Projects l A C ↔ ((A ≡ field l C) ⊎ ((A ≡ top) × (C ≡ top)))
  pub reads : (l : ℕ) (A B C : Ty) →
      Projects l (inter A B) C ↔ (OneField l (inter A B) C ⊎ (NoField l (inter A B) × SomeTopLike (inter A B) × (C ≡ top)))
  pub one : (l : ℕ) (A C : Ty) →
      OneField l A C ↔ ((o : Occurs A (field l C)) × (¬ TopLike C) × ((q : FieldIn l A) → ¬ TopLike q.0 → ◌≡◌ {A = FieldIn l A} q (C, o)))
  pub none : (l : ℕ) (A : Ty) → NoField l A ↔ ((q : FieldIn l A) → TopLike q.0)
  pub some_top_like : (A : Ty) → SomeTopLike A ↔ ((P : Ty) × Occurs A P × TopLike P)
  pub otherwise : (Γ : List Ty) (l : ℕ) (e : Term) (A : Ty) → Typed Γ e A → ((C : Ty) → ¬ Projects l A C) → infer Γ (proj l e) ≡ refused no_field []
  pub one_content : (l : ℕ) (v : Term) (A C : Ty) → OneField l A C → Value v A →
      (x : Term) × Value x C × HasField l v x × ((y : Term) → HasField l v y → y ≡ x)
  pub no_content : (l : ℕ) (v : Term) (A : Ty) → NoField l A → Value v A → (x : Term) → ¬ HasField l v x

-- The same answer to which part a field read takes, contents in runtime subtyping.
pub data SamePart : FieldPart → FieldPart → Type 0 where
  same_none : SamePart no_part no_part
  same_top : SamePart top_part top_part
  same_one : {C D : Ty} → Runtime C D → SamePart (one_part C) (one_part D)
  same_more : SamePart more_parts more_parts

-- A step keeps it: a type, and a runtime subtype of it, which a value below it in the source's sense shows, have the field in the same part, both
-- ways about.
pub record FieldsKept : Type 0 where
  pub says : (l : ℕ) (A B : Ty) → Runtime A B → SamePart (field_part l A) (field_part l B)

-- The part e is "checked against Int": it has a type, which is below Int;
abbrev pub ChecksInt : List Ty → Term → Type 0
ChecksInt Γ e = (A : Ty) × Typed Γ e A × Below A int

-- or it is refused for r, at the end of the path p: no type is found for it, or one that is not below Int.
abbrev pub RefusesInt : List Ty → Term → Reason → List ℕ → Type 0
RefusesInt Γ e r p = (infer Γ e ≡ refused r p) ⊎ ((A : Ty) × Typed Γ e A × (¬ Below A int) × (r ≡ mismatch) × (p ≡ []))

-- Document 02, (ii), in its words.
pub record SumsAndChoices : Type 0 where
  -- "Kind 26 adds a and b: both are checked against Int", "a sum with type Int";
  pub sum_checked : (Γ : List Ty) (e f : Term) (C : Ty) → Typed Γ (sum e f) C ↔ (ChecksInt Γ e × ChecksInt Γ f × (C ≡ int))
  -- "both are read under Int, and the sum is held":
  pub sum_read : (h : ℕ) (v w g : Term) → IsValue v → IsValue w →
      Step h (sum v w) g ↔ ((i : ℤ) × (j : ℤ) × Cast v int (lit i) × Cast w int (lit j) × (g ≡ lit (hold h (i +ℤ j))))
  -- a held number fits the range, one that fits is held unchanged, and any other "to the ends of the .. range".
  pub held_fits : (h : ℕ) (z : ℤ) → 0 < h → mag (hold h z) < h
  pub held_same : (h : ℕ) (z : ℤ) → mag z < h → hold h z ≡ z
  pub held_above : (h n : ℕ) → h ≤ n → hold h (pos n) ≡ pos (h - 1)
  pub held_below : (h n : ℕ) → h ≤ n → hold h (negsuc n) ≡ negsuc (h - 1)
  -- "Kind 27 chooses: a, b, c are checked against Int and the result is Int."
  pub choice_checked : (Γ : List Ty) (e f g : Term) (C : Ty) →
      Typed Γ (choice e f g) C ↔ (ChecksInt Γ e × ChecksInt Γ f × ChecksInt Γ g × (C ≡ int))
  -- "When a is a value, it is read under Int; the choice becomes b for zero and c for anything else, either one annotated Int."
  pub choice_read : (h : ℕ) (v b c g : Term) → IsValue v →
      Step h (choice v b c) g
      ↔ ((i : ℤ) × Cast v int (lit i) × (((i ≡ pos 0) × (g ≡ anno b int)) ⊎ ((i ≢ pos 0) × (g ≡ anno c int))))
  -- "Sides of a sum run left first;
  pub sum_left : (h : ℕ) (e f g : Term) → ¬ IsValue e → Step h (sum e f) g ↔ ((d : Term) × Step h e d × (g ≡ sum d f))
  pub sum_right : (h : ℕ) (v f g : Term) → IsValue v → ¬ IsValue f → Step h (sum v f) g ↔ ((d : Term) × Step h f d × (g ≡ sum v d))
  -- of a choice only a runs, while b and c wait."
  pub choice_first : (h : ℕ) (e b c g : Term) → ¬ IsValue e → Step h (choice e b c) g ↔ ((d : Term) × Step h e d × (g ≡ choice d b c))
  -- "Typing checks each part before it walks the next."
  pub sum_refuses_a : (Γ : List Ty) (e f : Term) (r : Reason) (p : List ℕ) → RefusesInt Γ e r p → infer Γ (sum e f) ≡ refused r (0 ∷ p)
  pub sum_refuses_b : (Γ : List Ty) (e f : Term) (r : Reason) (p : List ℕ) → ChecksInt Γ e → RefusesInt Γ f r p → infer Γ (sum e f) ≡ refused r (1 ∷ p)
  pub choice_refuses_a : (Γ : List Ty) (e f g : Term) (r : Reason) (p : List ℕ) → RefusesInt Γ e r p → infer Γ (choice e f g) ≡ refused r (0 ∷ p)
  pub choice_refuses_b : (Γ : List Ty) (e f g : Term) (r : Reason) (p : List ℕ) → ChecksInt Γ e → RefusesInt Γ f r p →
      infer Γ (choice e f g) ≡ refused r (1 ∷ p)
  pub choice_refuses_c : (Γ : List Ty) (e f g : Term) (r : Reason) (p : List ℕ) → ChecksInt Γ e → ChecksInt Γ f → RefusesInt Γ g r p →
      infer Γ (choice e f g) ≡ refused r (2 ∷ p)

-- A variable that skips k binders outside a part skips so many inside: "Kinds 21 and 23 bind one variable in a."
abbrev pub skips_in : {e f : Term} {p : List ℕ} → At e p f → ℕ → ℕ
skips_in here k = k
skips_in (in_anno a) k = skips_in a k
skips_in (in_left a) k = skips_in a k
skips_in (in_right a) k = skips_in a k
skips_in (in_body a) k = skips_in a (suc k)
skips_in (in_first a) k = skips_in a k
skips_in (in_second a) k = skips_in a k
skips_in (in_fix a) k = skips_in a (suc k)
skips_in (in_content a) k = skips_in a k
skips_in (in_read a) k = skips_in a k
skips_in (in_sum_left a) k = skips_in a k
skips_in (in_sum_right a) k = skips_in a k
skips_in (in_tested a) k = skips_in a k
skips_in (in_zero a) k = skips_in a k
skips_in (in_other a) k = skips_in a k

-- Document 01's "put in": a variable of so many binders becomes what is substituted, every other stays, and every part of a term stands where it stood.
pub record SubstitutesInPlace : Type 0 where
  pub variable : (k : ℕ) (s : Term) → substitute k s (var k) ≡ s
  pub others : (k n : ℕ) (s : Term) → n ≢ k → substitute k s (var n) ≡ var n
  pub parts : (k : ℕ) (s e f : Term) (p : List ℕ) (a : At e p f) → At (substitute k s e) p (substitute (skips_in a k) s f)

-- Each function answers exactly what its relation says: of readings and steps, where the term is typed.
pub record Decides : Type 0 where
  pub top_like : (A : Ty) → T (is_top_like A) ↔ TopLike A
  pub one_field : (l : ℕ) (A C : Ty) → (field_part l A ≡ one_part C) ↔ OneField l A C
  pub top_field : (l : ℕ) (A : Ty) → (field_part l A ≡ top_part) ↔ (NoField l A × SomeTopLike A)
  pub below : (A B : Ty) → T (is_below A B) ↔ Below A B
  pub disjoint : (A B : Ty) → T (is_disjoint A B) ↔ DisjointByList A B
  pub value : (e : Term) → T (is_value e) ↔ IsValue e
  pub consistent : (v w : Term) (A B : Ty) → Value v A → Value w B → T (is_consistent v w) ↔ ConsistentByList v w
  pub finds : (Γ : List Ty) (e : Term) (A : Ty) → (infer Γ e ≡ found A) ↔ Typed Γ e A
  pub casts : (v x : Term) (A B : Ty) → Typed [] v B → IsValue v → (cast A v ≡ some x) ↔ Cast v A x
  pub steps : (h : ℕ) (e f : Term) (A : Ty) → Typed [] e A → (next h e ≡ some f) ↔ Step h e f
