-- Disjointness by the source's specification is disjointness by document 01's list (source 001, lemma 4.1), and the test answers
-- just that. Assumes nothing.
use Prim.Native.Nat.{ℕ}
use mathlib.Core.Path.{◌≡◌, refl, sym, subst}
use mathlib.Core.Logic.Iff
use mathlib.Core.Logic.{◌↔◌, ◌⊎◌, inl, inr, ◌≢◌}
use mathlib.Core.Bool.{Bool, true, false, not, ◌&&◌, ◌||◌}
use lib.Dec.{T, eqb}
use Rattle.calculus.specs.Syntax.{Ty, int, top, arrow, inter, field}
use Rattle.calculus.specs.Subtyping.{TopLike, Below, b_int, b_top, b_left, b_right, b_both, b_arrow, b_field}
use Rattle.calculus.specs.Disjointness.{Disjoint, Head, HasHead, h_int, h_arrow, h_field, DisjointByList}
use Rattle.calculus.specs.Disjointness.{d_top_left, d_top_right, d_inter_left, d_inter_right, d_heads, d_arrow, d_labels, d_field}
use Rattle.calculus.specs.Decide.{disjoint_int, disjoint_arrow, disjoint_field, is_disjoint}
use Rattle.calculus.proofs.Bools.{eqb_says}
use Rattle.calculus.proofs.Subtyping.{top_like_above, below_inter, below_refl, below_heads, heads_differ}

-- Each rule of the list keeps to the specification.
pub disjoint_sym : {A B : Ty} → Disjoint A B → Disjoint B A
disjoint_sym f C b c = f C c b

halves_disjoint : {A B C : Ty} → Disjoint A C → Disjoint B C → Disjoint (inter A B) C
halves_disjoint f g D (b_top t) c = t
halves_disjoint f g D (b_left b) c = f D b c
halves_disjoint f g D (b_right b) c = g D b c
halves_disjoint f g D (b_both b d) c = (halves_disjoint f g _ b (below_inter c).0, halves_disjoint f g _ d (below_inter c).1)

heads_disjoint : {A B : Ty} {h k : Head} → HasHead A h → HasHead B k → h ≢ k → Disjoint A B
heads_disjoint h k n C (b_top t) c = t
heads_disjoint h k n C (b_both b d) c = (heads_disjoint h k n _ b (below_inter c).0, heads_disjoint h k n _ d (below_inter c).1)
heads_disjoint h_int k n C b_int c = below_heads k h_int (λ p. n (sym p)) c
heads_disjoint h_arrow k n C (b_arrow b d) c = below_heads k h_arrow (λ p. n (sym p)) c
heads_disjoint h_field k n C (b_field b) c = below_heads k h_field (λ p. n (sym p)) c
heads_disjoint h k n _ (b_left {A = A} {B = B} {C = C} _) c = elim h [ ]
heads_disjoint h k n _ (b_right {A = A} {B = B} {C = C} _) c = elim h [ ]

arrows_disjoint : {A B C D : Ty} → Disjoint B D → Disjoint (arrow A B) (arrow C D)
arrows_disjoint f E (b_top t) c = t
arrows_disjoint f E (b_both b d) c = (arrows_disjoint f _ b (below_inter c).0, arrows_disjoint f _ d (below_inter c).1)
arrows_disjoint f E (b_arrow b d) (b_top t) = t
arrows_disjoint f E (b_arrow b d) (b_arrow c e) = f _ d e

fields_disjoint : {l k : ℕ} {A B : Ty} → (l ≡ k → Disjoint A B) → Disjoint (field l A) (field k B)
fields_disjoint f C (b_top t) c = t
fields_disjoint f C (b_both b d) c = (fields_disjoint f _ b (below_inter c).0, fields_disjoint f _ d (below_inter c).1)
fields_disjoint f C (b_field b) (b_top t) = t
fields_disjoint f C (b_field b) (b_field c) = f refl _ b c

pub list→disjoint : {A B : Ty} → DisjointByList A B → Disjoint A B
list→disjoint d_top_left = λ C b c. top_like_above tt b
list→disjoint d_top_right = λ C b c. top_like_above tt c
list→disjoint (d_inter_left d e) = halves_disjoint (list→disjoint d) (list→disjoint e)
list→disjoint (d_inter_right d e) = disjoint_sym (halves_disjoint (disjoint_sym (list→disjoint d)) (disjoint_sym (list→disjoint e)))
list→disjoint (d_heads h k n) = heads_disjoint h k n
list→disjoint (d_arrow d) = arrows_disjoint (list→disjoint d)
list→disjoint (d_labels n) = fields_disjoint (λ p. absurd (n p))
list→disjoint (d_field d) = fields_disjoint (λ p. list→disjoint d)

-- What the test answers: yes, and the list says so; or no, and there is a common supertype that is not top-like.
data Answer (A B : Ty) : Bool → Type 0 where
  listed : DisjointByList A B → Answer A B true
  common : {C : Ty} → ¬ TopLike C → Below A C → Below B C → Answer A B false

answer_left : {A B C : Ty} {x y : Bool} → Answer A C x → Answer B C y → Answer (inter A B) C (x && y)
answer_left (listed d) (listed e) = listed (d_inter_left d e)
answer_left (listed d) (common n b c) = common n (b_right b) c
answer_left (common n b c) e = common n (b_left b) c

answer_right : {A B C : Ty} {x y : Bool} → Answer A B x → Answer A C y → Answer A (inter B C) (x && y)
answer_right (listed d) (listed e) = listed (d_inter_right d e)
answer_right (listed d) (common n b c) = common n b (b_right c)
answer_right (common n b c) e = common n b (b_left c)

answer_arrows : {A B C D : Ty} {x : Bool} → Answer B D x → Answer (arrow A B) (arrow C D) x
answer_arrows (listed d) = listed (d_arrow d)
answer_arrows {A} {C} (common n b c) = common n (b_arrow (b_left (below_refl A)) b) (b_arrow (b_right (below_refl C)) c)

answer_fields : (l k : ℕ) {A B : Ty} {x : Bool} → Answer A B x → Answer (field l A) (field k B) (not (eqb l k) || x)
answer_fields l k {A} {B} {x} d = go (eqb l k) (eqb_says l k) d
  where
    go : {x : Bool} (t : Bool) → T t ↔ (l ≡ k) → Answer A B x → Answer (field l A) (field k B) (not t || x)
    go true e (listed d) = listed (d_field d)
    go true e (common {C} n b c) = common n (b_field b) (subst (λ (j : ℕ). Below (field j B) (field l C)) (e.0 tt) (b_field c))
    go false e d = listed (d_labels e.1)

answer_int : (B : Ty) → Answer int B (disjoint_int B)
unfolding disjoint_int
answer_int int = common (λ t. t) b_int b_int
answer_int top = listed d_top_right
answer_int (arrow C D) = listed (d_heads h_int h_arrow (heads_differ tt))
answer_int (inter C D) = answer_right (answer_int C) (answer_int D)
answer_int (field k C) = listed (d_heads h_int h_field (heads_differ tt))

answer_arrow : {A B : Ty} {f : Ty → Bool} → ((D : Ty) → Answer B D (f D)) → (E : Ty) → Answer (arrow A B) E (disjoint_arrow f E)
unfolding disjoint_arrow
answer_arrow g int = listed (d_heads h_arrow h_int (heads_differ tt))
answer_arrow g top = listed d_top_right
answer_arrow g (arrow C D) = answer_arrows (g D)
answer_arrow g (inter C D) = answer_right (answer_arrow g C) (answer_arrow g D)
answer_arrow g (field k C) = listed (d_heads h_arrow h_field (heads_differ tt))

answer_field : (l : ℕ) {A : Ty} {f : Ty → Bool} → ((D : Ty) → Answer A D (f D)) → (E : Ty) → Answer (field l A) E (disjoint_field l f E)
unfolding disjoint_field
answer_field l g int = listed (d_heads h_field h_int (heads_differ tt))
answer_field l g top = listed d_top_right
answer_field l g (arrow C D) = listed (d_heads h_field h_arrow (heads_differ tt))
answer_field l g (inter C D) = answer_right (answer_field l g C) (answer_field l g D)
answer_field l g (field k C) = answer_fields l k (g C)

answer : (A B : Ty) → Answer A B (is_disjoint A B)
unfolding is_disjoint
answer int B = answer_int B
answer top B = listed d_top_left
answer (arrow C D) B = answer_arrow (answer D) B
answer (inter C D) B = answer_left (answer C B) (answer D B)
answer (field k C) B = answer_field k (answer C) B

-- the workhorse: disjoint by the list, or a common supertype that is not top-like
pub disjoint_or_common : (A B : Ty) → DisjointByList A B ⊎ ((C : Ty) × (¬ TopLike C) × Below A C × Below B C)
disjoint_or_common A B = go (answer A B)
  where
    go : {x : Bool} → Answer A B x → DisjointByList A B ⊎ ((C : Ty) × (¬ TopLike C) × Below A C × Below B C)
    go (listed d) = inl d
    go (common {C} n b c) = inr (C, n, b, c)

pub disjoint→list : (A B : Ty) → Disjoint A B → DisjointByList A B
disjoint→list A B f = elim (disjoint_or_common A B) [ inl d ↦ d | inr c ↦ absurd (c.1 (f c.0 c.2 c.3)) ]

pub is_disjoint_says : (A B : Ty) → T (is_disjoint A B) ↔ DisjointByList A B
is_disjoint_says A B = go (answer A B)
  where
    go : {x : Bool} → Answer A B x → T x ↔ DisjointByList A B
    go (listed d) = (λ t. d, λ e. tt)
    go (common n b c) = (λ t. absurd t, λ d. n (list→disjoint d _ b c))

-- the same of the specification
pub is_disjoint_means : (A B : Ty) → T (is_disjoint A B) ↔ Disjoint A B
is_disjoint_means A B = Iff.trans (is_disjoint_says A B) (list→disjoint, disjoint→list A B)

pub list_sym : {A B : Ty} → DisjointByList A B → DisjointByList B A
list_sym {A} {B} d = disjoint→list B A (disjoint_sym (list→disjoint d))

-- a top-like type is disjoint with every type
pub top_like_list : (A B : Ty) → TopLike A → DisjointByList A B
top_like_list A B t = disjoint→list A B (λ C b c. top_like_above t b)
