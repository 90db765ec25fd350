-- Subtyping is reflexive and transitive; its inversions; what is above a top-like type is top-like; the tests for top-like types and for
-- subtyping decide them. Assumes nothing.
use Prim.Native.Nat.{ℕ, zero, suc, ◌+◌, ◌≤◌}
use native.Mathlib.Omega.{arith}
use mathlib.Core.Path.{◌≡◌, refl, subst, ap}
use mathlib.Core.Logic.Iff
use mathlib.Core.Logic.{◌↔◌, ◌⊎◌, inl, inr, ◌≢◌}
use mathlib.Core.Bool.{Bool, true, false, not, ◌&&◌, ◌||◌}
use lib.Dec.{T, T_not, eqb}
use Rattle.calculus.specs.Syntax.{Ty, int, top, arrow, inter, field, size_type}
use Rattle.calculus.specs.Subtyping.{TopLike, Ordinary, Below, b_int, b_top, b_left, b_right, b_both, b_arrow, b_field}
use Rattle.calculus.specs.Disjointness.{Head, number, function, record_type, HasHead, h_int, h_arrow, h_field}
use Rattle.calculus.specs.Decide.{is_top_like, below_within, is_below}
use Rattle.calculus.proofs.Bools.{T_dec, and_says, or_says, eqb_says}

-- The test for top-like types.
pub is_top_like_says : (A : Ty) → T (is_top_like A) ↔ TopLike A
unfolding is_top_like
is_top_like_says int = Iff.rfl
is_top_like_says top = Iff.rfl
is_top_like_says (arrow A B) = is_top_like_says B
is_top_like_says (inter A B) = and_says (is_top_like A) (is_top_like B) (is_top_like_says A) (is_top_like_says B)
is_top_like_says (field l A) = is_top_like_says A

pub top_like_dec : (A : Ty) → Dec (TopLike A)
top_like_dec A = T_dec (is_top_like A) (is_top_like_says A)

-- a type above a top-like one is top-like
pub top_like_above : {A B : Ty} → TopLike A → Below A B → TopLike B
top_like_above t b_int = t
top_like_above t (b_top u) = u
top_like_above t (b_left b) = top_like_above t.0 b
top_like_above t (b_right b) = top_like_above t.1 b
top_like_above t (b_both b c) = (top_like_above t b, top_like_above t c)
top_like_above t (b_arrow b c) = top_like_above t c
top_like_above t (b_field b) = top_like_above t b

-- below an intersection: below both halves
pub below_inter : {A B C : Ty} → Below A (inter B C) → Below A B × Below A C
below_inter (b_top t) = (b_top t.0, b_top t.1)
below_inter (b_left b) = (b_left (below_inter b).0, b_left (below_inter b).1)
below_inter (b_right b) = (b_right (below_inter b).0, b_right (below_inter b).1)
below_inter (b_both b c) = (b, c)

-- an intersection below an ordinary type that is not top-like: one half is
pub below_half : {A B C : Ty} → Ordinary C → ¬ TopLike C → Below (inter A B) C → Below A C ⊎ Below B C
below_half o n (b_top t) = absurd (n t)
below_half o n (b_left b) = inl b
below_half o n (b_right b) = inr b
below_half o n (b_both b c) = absurd o

-- two heads are told apart by their numbers
abbrev rank : Head → ℕ
rank number = 0
rank function = 1
rank record_type = 2

pub heads_differ : {h k : Head} → T (not (eqb (rank h) (rank k))) → h ≢ k
heads_differ {h} {k} t p = T_not (eqb (rank h) (rank k)) t ((eqb_says (rank h) (rank k)).1 (ap rank p))

-- types of different heads: only below what is top-like
pub below_heads : {A B : Ty} {h k : Head} → HasHead A h → HasHead B k → h ≢ k → Below A B → TopLike B
below_heads h k n (b_top t) = t
below_heads h_int h_int n b_int = absurd (n refl)
below_heads h_arrow h_arrow n (b_arrow b c) = absurd (n refl)
below_heads h_field h_field n (b_field b) = absurd (n refl)
below_heads h k n (b_left {A = A} {B = B} _) = elim h [ ]
below_heads h k n (b_right {A = A} {B = B} _) = elim h [ ]
below_heads {A = A} h k n (b_both {B = B} {C = C} _ _) = elim k [ ]

-- below a function type, and the output not top-like: the two parts
pub below_arrow : {A B C D : Ty} → ¬ TopLike D → Below (arrow A B) (arrow C D) → Below C A × Below B D
below_arrow n (b_top t) = absurd (n t)
below_arrow n (b_arrow b c) = (b, c)

-- below a record type, and the content not top-like: the same label and the content
pub below_field : {l k : ℕ} {A B : Ty} → ¬ TopLike B → Below (field l A) (field k B) → (l ≡ k) × Below A B
below_field n (b_top t) = absurd (n t)
below_field n (b_field b) = (refl, b)

pub below_refl : (A : Ty) → Below A A
below_refl int = b_int
below_refl top = b_top tt
below_refl (arrow A B) = b_arrow (below_refl A) (below_refl B)
below_refl (inter A B) = b_both (b_left (below_refl A)) (b_right (below_refl B))
below_refl (field l A) = b_field (below_refl A)

-- Transitivity, by the type in the middle. Cut B: through B.
abbrev Cut : Ty → Type 0
Cut B = (A C : Ty) → Below A B → Below B C → Below A C

-- The last rules on the left are about A alone, until it comes to the rule for the middle's head; those on the right about C alone.
cut_int : Cut int
cut_int A C b_int c = c
cut_int A C (b_left b) c = b_left (cut_int _ C b c)
cut_int A C (b_right b) c = b_right (cut_int _ C b c)
cut_int _ C (b_top {A = A} x3) c = elim x3 [ ]

cut_arrows : {A B C D E : Ty} → Cut C → Cut D → Below C A → Below B D → Below (arrow C D) E → Below (arrow A B) E
cut_arrows f g b c (b_top t) = b_top t
cut_arrows f g b c (b_both d e) = b_both (cut_arrows f g b c d) (cut_arrows f g b c e)
cut_arrows f g b c (b_arrow d e) = b_arrow (f _ _ d b) (g _ _ c e)

cut_arrow : {C D : Ty} → Cut C → Cut D → Cut (arrow C D)
cut_arrow f g A E (b_top t) d = b_top (top_like_above t d)
cut_arrow f g A E (b_left b) d = b_left (cut_arrow f g _ E b d)
cut_arrow f g A E (b_right b) d = b_right (cut_arrow f g _ E b d)
cut_arrow f g A E (b_arrow b c) d = cut_arrows f g b c d

cut_inter : {B C : Ty} → Cut B → Cut C → Cut (inter B C)
cut_inter f g A D b (b_top t) = b_top t
cut_inter f g A D b (b_left c) = f A D (below_inter b).0 c
cut_inter f g A D b (b_right c) = g A D (below_inter b).1 c
cut_inter f g A D b (b_both c d) = b_both (cut_inter f g A _ b c) (cut_inter f g A _ b d)

cut_fields : {l : ℕ} {A B C : Ty} → Cut B → Below A B → Below (field l B) C → Below (field l A) C
cut_fields f b (b_top t) = b_top t
cut_fields f b (b_both c d) = b_both (cut_fields f b c) (cut_fields f b d)
cut_fields f b (b_field c) = b_field (f _ _ b c)

cut_field : {l : ℕ} {B : Ty} → Cut B → Cut (field l B)
cut_field f A C (b_top t) d = b_top (top_like_above t d)
cut_field f A C (b_left b) d = b_left (cut_field f _ C b d)
cut_field f A C (b_right b) d = b_right (cut_field f _ C b d)
cut_field f A C (b_field b) d = cut_fields f b d

cut : (B : Ty) → Cut B
cut int = cut_int
cut top = λ A C b c. b_top (top_like_above tt c)
cut (arrow B C) = cut_arrow (cut B) (cut C)
cut (inter B C) = cut_inter (cut B) (cut C)
cut (field l B) = cut_field (cut B)

pub below_trans : {A B C : Ty} → Below A B → Below B C → Below A C
below_trans {A} {B} {C} b c = cut B A C b c

-- The rules with their inversions: what tests of the parts say of the whole.
pub both_say : {A B C : Ty} (x y : Bool) → T x ↔ Below A B → T y ↔ Below A C → T (x && y) ↔ Below A (inter B C)
both_say x y f g = Iff.trans (and_says x y f g) (λ p. b_both p.0 p.1, below_inter)

pub halves_say : {A B C : Ty} (x y : Bool) → Ordinary C → ¬ TopLike C →
    T x ↔ Below A C → T y ↔ Below B C → T (x || y) ↔ Below (inter A B) C
halves_say x y o n f g = Iff.trans (or_says x y f g) (elim [ inl b ↦ b_left b | inr b ↦ b_right b ], below_half o n)

pub arrows_say : {A B C D : Ty} (x y : Bool) → ¬ TopLike D →
    T x ↔ Below C A → T y ↔ Below B D → T (x && y) ↔ Below (arrow A B) (arrow C D)
arrows_say x y n f g = Iff.trans (and_says x y f g) (λ p. b_arrow p.0 p.1, below_arrow n)

pub fields_say : {l k : ℕ} {A B : Ty} (x : Bool) → ¬ TopLike B → T x ↔ Below A B → T (eqb l k && x) ↔ Below (field l A) (field k B)
fields_say {l} {k} {A} {B} x n f = Iff.trans (and_says (eqb l k) x (eqb_says l k) f) (substitute_label, below_field n)
  where
    substitute_label : (l ≡ k) × Below A B → Below (field l A) (field k B)
    substitute_label p = subst (λ (j : ℕ). Below (field l A) (field j B)) p.0 (b_field p.1)

-- The test for subtyping: where the two types' forms leave only top-like ones, and where these are asked for first.
only_top_like : {A B : Ty} → (Below A B → TopLike B) → T (is_top_like B) ↔ Below A B
only_top_like {A} {B} f = (λ t. b_top ((is_top_like_says B).0 t), λ b. (is_top_like_says B).1 (f b))

unless_top_like : {A : Ty} (B : Ty) (x : Bool) → (¬ TopLike B → T x ↔ Below A B) → T (is_top_like B || x) ↔ Below A B
unless_top_like {A} B x f = go (is_top_like B) (is_top_like_says B)
  where
    go : (t : Bool) → T t ↔ TopLike B → T (t || x) ↔ Below A B
    go true e = (λ t. b_top (e.0 tt), λ b. tt)
    go false e = f e.1

pub size_positive : (A : Ty) → 1 ≤ size_type A
unfolding size_type
size_positive int = omega arith
size_positive top = omega arith
size_positive (arrow A B) = omega arith
size_positive (inter A B) = omega arith
size_positive (field l A) = omega arith

below_within_says : (n : ℕ) (A B : Ty) → size_type A + size_type B ≤ n → T (below_within n A B) ↔ Below A B
unfolding below_within is_top_like size_type
below_within_says zero A B le = absurd (omega (arith, size_positive A))
below_within_says (suc n) int int le = (λ t. b_int, λ b. tt)
below_within_says (suc n) top int le = only_top_like (top_like_above tt)
below_within_says (suc n) (arrow A B) int le = only_top_like (below_heads h_arrow h_int (heads_differ tt))
below_within_says (suc n) (inter A B) int le =
    halves_say (below_within n A int) (below_within n B int) tt (λ t. t)
    (below_within_says n A int (omega arith)) (below_within_says n B int (omega arith))
below_within_says (suc n) (field l A) int le = only_top_like (below_heads h_field h_int (heads_differ tt))
below_within_says (suc n) A top le = (λ t. b_top tt, λ b. tt)
below_within_says (suc n) int (arrow C D) le = only_top_like (below_heads h_int h_arrow (heads_differ tt))
below_within_says (suc n) top (arrow C D) le = only_top_like (top_like_above tt)
below_within_says (suc n) (arrow A B) (arrow C D) le = unless_top_like (arrow C D) _ λ m.
    arrows_say (below_within n C A) (below_within n B D) m
    (below_within_says n C A (omega arith)) (below_within_says n B D (omega arith))
below_within_says (suc n) (inter A B) (arrow C D) le = unless_top_like (arrow C D) _ λ m.
    halves_say (below_within n A (arrow C D)) (below_within n B (arrow C D)) tt m
    (below_within_says n A (arrow C D) (omega arith)) (below_within_says n B (arrow C D) (omega arith))
below_within_says (suc n) (field l A) (arrow C D) le = only_top_like (below_heads h_field h_arrow (heads_differ tt))
below_within_says (suc n) A (inter C D) le =
    both_say (below_within n A C) (below_within n A D) (below_within_says n A C (omega arith)) (below_within_says n A D (omega arith))
below_within_says (suc n) int (field k C) le = only_top_like (below_heads h_int h_field (heads_differ tt))
below_within_says (suc n) top (field k C) le = only_top_like (top_like_above tt)
below_within_says (suc n) (arrow A B) (field k C) le = only_top_like (below_heads h_arrow h_field (heads_differ tt))
below_within_says (suc n) (inter A B) (field k C) le = unless_top_like (field k C) _ λ m.
    halves_say (below_within n A (field k C)) (below_within n B (field k C)) tt m
    (below_within_says n A (field k C) (omega arith)) (below_within_says n B (field k C) (omega arith))
below_within_says (suc n) (field l A) (field k C) le = unless_top_like (field k C) _ λ m.
    fields_say (below_within n A C) m (below_within_says n A C (omega arith))

pub is_below_says : (A B : Ty) → T (is_below A B) ↔ Below A B
unfolding is_below
is_below_says A B = below_within_says (size_type A + size_type B) A B (omega arith)

pub below_dec : (A B : Ty) → Dec (Below A B)
below_dec A B = T_dec (is_below A B) (is_below_says A B)
