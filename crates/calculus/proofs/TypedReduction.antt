-- Typed reduction of values, typed or not: source 001, lemmas 5.1, 5.2, 5.3 and 5.8. Assumes nothing.
use Prim.Native.Nat.{ℕ}
use lib.IntN.{ℤ}
use mathlib.Core.Path.{◌≡◌, refl, sym, ◌∙◌, ap, ap₂, subst}
use mathlib.Core.Logic.{by_cases}
use Rattle.calculus.specs.Syntax.{Ty, int, top, arrow, inter, field, Term, lit, unit, lam, merge, rcd}
use Rattle.calculus.specs.Syntax.{Value, v_lit, v_unit, v_lam, v_merge, v_rcd, IsValue}
use Rattle.calculus.specs.Subtyping.{TopLike, Ordinary, Below, b_int, b_top, b_left, b_right, b_both, b_arrow, b_field}
use Rattle.calculus.specs.TypedReduction.{Cast, c_lit, c_top, c_arrow, c_rcd, c_left, c_right, c_both}
use Rattle.calculus.proofs.Subtyping.{top_like_dec, below_trans}

-- a value shows one type
pub value_unique : {v : Term} {A B : Ty} → Value v A → Value v B → A ≡ B
value_unique v_lit v_lit = refl
value_unique v_unit v_unit = refl
value_unique v_lam v_lam = refl
value_unique (v_merge v w) (v_merge v' w') = ap₂ inter (value_unique v v') (value_unique w w')
value_unique (v_rcd {l} v) (v_rcd v') = ap (field l) (value_unique v v')

-- only values are read, and a reading is a value
pub cast_from : {v x : Term} {A : Ty} → Cast v A x → IsValue v
cast_from c_lit = (_, v_lit)
cast_from (c_top v o t) = (_, v)
cast_from (c_arrow n b d) = (_, v_lam)
cast_from (c_rcd n c) = (_, v_rcd (cast_from c).1)
cast_from (c_left w o c) = (_, v_merge (cast_from c).1 w)
cast_from (c_right v o c) = (_, v_merge v (cast_from c).1)
cast_from (c_both c d) = cast_from c

pub cast_to : {v x : Term} {A : Ty} → Cast v A x → IsValue x
cast_to c_lit = (_, v_lit)
cast_to (c_top v o t) = (_, v_unit)
cast_to (c_arrow n b d) = (_, v_lam)
cast_to (c_rcd n c) = (_, v_rcd (cast_to c).1)
cast_to (c_left w o c) = cast_to c
cast_to (c_right v o c) = cast_to c
cast_to (c_both c d) = (_, v_merge (cast_to c).1 (cast_to d).1)

-- 5.3
pub cast_below : {v x : Term} {A B : Ty} → Cast v A x → Value v B → Below B A
cast_below c_lit v_lit = b_int
cast_below (c_top w o t) v = b_top t
cast_below (c_arrow n b d) v_lam = b_arrow b d
cast_below (c_rcd n c) (v_rcd v) = b_field (cast_below c v)
cast_below (c_left u o c) (v_merge v w) = b_left (cast_below c v)
cast_below (c_right u o c) (v_merge v w) = b_right (cast_below c w)
cast_below (c_both c d) v = b_both (cast_below c v) (cast_below d v)

-- the one reading under a top-like type
top_value : Ty → Term
top_value int = unit
top_value top = unit
top_value (arrow A B) = unit
top_value (inter A B) = merge (top_value A) (top_value B)
top_value (field l A) = unit

top_value_ordinary : (A : Ty) → Ordinary A → unit ≡ top_value A
unfolding top_value
top_value_ordinary int o = refl
top_value_ordinary top o = refl
top_value_ordinary (arrow A B) o = refl
top_value_ordinary (inter A B) o = absurd o
top_value_ordinary (field l A) o = refl

cast_top_value : {v x : Term} {A : Ty} → TopLike A → Cast v A x → x ≡ top_value A
unfolding top_value
cast_top_value t c_lit = absurd t
cast_top_value {A} t (c_top v o s) = top_value_ordinary A o
cast_top_value t (c_arrow n b d) = absurd (n t)
cast_top_value t (c_rcd n c) = absurd (n t)
cast_top_value t (c_left w o c) = cast_top_value t c
cast_top_value t (c_right v o c) = cast_top_value t c
cast_top_value t (c_both c d) = ap₂ merge (cast_top_value t.0 c) (cast_top_value t.1 d)

-- 5.1
pub cast_top_like : {v w x y : Term} {A : Ty} → TopLike A → Cast v A x → Cast w A y → x ≡ y
cast_top_like t c d = cast_top_value t c ∙ sym (cast_top_value t d)

-- every value is read under a top-like type
top_like_cast : {v : Term} {B : Ty} → Value v B → (A : Ty) → TopLike A → Cast v A (top_value A)
unfolding top_value
top_like_cast v int t = absurd t
top_like_cast v top t = c_top v tt t
top_like_cast v (arrow A B) t = c_top v tt t
top_like_cast v (inter A B) t = c_both (top_like_cast v A t.0) (top_like_cast v B t.1)
top_like_cast v (field l A) t = c_top v tt t

-- an ordinary type that is not top-like
abbrev pub Proper : Ty → Type 0
Proper A = Ordinary A × (¬ TopLike A)

-- a type is top-like, or proper, or an intersection
pub by_type : (P : Ty → Type 0) → ((A : Ty) → TopLike A → P A) → ((A : Ty) → Proper A → P A) →
    ((A B : Ty) → P A → P B → P (inter A B)) → (A : Ty) → P A
by_type P t p i int = p int (tt, λ z. z)
by_type P t p i top = t top tt
by_type P t p i (arrow A B) = by_cases (top_like_dec B) (λ s. t (arrow A B) s) (λ n. p (arrow A B) (tt, n))
by_type P t p i (inter A B) = i A B (by_type P t p i A) (by_type P t p i B)
by_type P t p i (field l A) = by_cases (top_like_dec A) (λ s. t (field l A) s) (λ n. p (field l A) (tt, n))

-- under an intersection only TR-AND reads
pub cast_inter : (P : Term → Type 0) {v z : Term} {A B : Ty} → ((x y : Term) → Cast v A x → Cast v B y → P (merge x y)) → Cast v (inter A B) z → P z
cast_inter P f (c_top v o t) = absurd o
cast_inter P f (c_left w o c) = absurd o
cast_inter P f (c_right v o c) = absurd o
cast_inter P f (c_both c d) = f _ _ c d

-- the rules that read under a proper type
pub data ProperCast : Term → Ty → Term → Type 0 where
  p_lit : {i : ℤ} → ProperCast (lit i) int (lit i)
  p_arrow : {e : Term} {A B C D : Ty} → Below C A → Below B D → ProperCast (lam e A B) (arrow C D) (lam e A D)
  p_rcd : {l : ℕ} {v x : Term} {A : Ty} → Cast v A x → ProperCast (rcd l v) (field l A) (rcd l x)
  p_left : {v w x : Term} {A : Ty} → Cast v A x → ProperCast (merge v w) A x
  p_right : {v w x : Term} {A : Ty} → Cast w A x → ProperCast (merge v w) A x

pub cast_proper : {v x : Term} {A : Ty} → Proper A → Cast v A x → ProperCast v A x
cast_proper p c_lit = p_lit
cast_proper p (c_top v o t) = absurd (p.1 t)
cast_proper p (c_arrow n b d) = p_arrow b d
cast_proper p (c_rcd n c) = p_rcd c
cast_proper p (c_left w o c) = p_left c
cast_proper p (c_right v o c) = p_right c
cast_proper p (c_both c d) = absurd p.0

-- if w reads all that v reads under proper types, it reads all that v reads
pub cast_lift : {v w : Term} {B : Ty} → Value w B → ((A : Ty) → Proper A → (x : Term) → Cast v A x → Cast w A x) →
    (A : Ty) (x : Term) → Cast v A x → Cast w A x
cast_lift {v} {w} u f =
    by_type (λ A. (x : Term) → Cast v A x → Cast w A x)
    (λ A t x c. subst (Cast w A) (sym (cast_top_value t c)) (top_like_cast u A t))
    f
    (λ A B g h z. cast_inter (Cast w (inter A B)) (λ x y c d. c_both (g x c) (h y d)))

-- what a half reads, the merge reads, under every type
pub cast_left : {v w x : Term} {A B : Ty} → Value w B → Cast v A x → Cast (merge v w) A x
cast_left {x} {A} w c = cast_lift (v_merge (cast_from c).1 w) (λ A p x. c_left w p.0) A x c

pub cast_right : {v w x : Term} {A B : Ty} → Value v B → Cast w A x → Cast (merge v w) A x
cast_right {x} {A} v c = cast_lift (v_merge v (cast_from c).1) (λ A p x. c_right v p.0) A x c

-- 5.8
pub below_cast : {v : Term} {A B : Ty} → Value v B → Below B A → (x : Term) × Cast v A x
below_cast v_lit b_int = (_, c_lit)
below_cast {A} v (b_top t) = (_, top_like_cast v A t)
below_cast (v_merge v w) (b_left b) = let (x, c) = below_cast v b in (x, cast_left w c)
below_cast (v_merge v w) (b_right b) = let (x, c) = below_cast w b in (x, cast_right v c)
below_cast v (b_both b d) = let (x, c) = below_cast v b in let (y, e) = below_cast v d in (merge x y, c_both c e)
below_cast v_lam (b_arrow {C} {D} b d) = by_cases (top_like_dec D) (λ t. (_, top_like_cast v_lam (arrow C D) t)) (λ n. (_, c_arrow n b d))
below_cast (v_rcd {l} v) (b_field {B} b) =
    let (x, c) = below_cast v b in
    by_cases (top_like_dec B) (λ t. (_, top_like_cast (v_rcd v) (field l B) t)) (λ n. (rcd l x, c_rcd n c))

-- 5.2
cast_trans_proper : {v x y : Term} {A B : Ty} → Cast v A x → Proper B → ProperCast x B y → Cast v B y
cast_trans_proper c_lit p p_lit = c_lit
cast_trans_proper (c_arrow n a b) p (p_arrow c d) = c_arrow p.1 c (below_trans b d)
cast_trans_proper (c_rcd n c) p (p_rcd {x} {A} d) =
    c_rcd p.1 (cast_lift (cast_from c).1 (λ B q y e. cast_trans_proper c q (cast_proper q e)) A x d)
cast_trans_proper (c_left w o c) p d = c_left w p.0 (cast_trans_proper c p d)
cast_trans_proper (c_right v o c) p d = c_right v p.0 (cast_trans_proper c p d)
cast_trans_proper (c_both c e) p (p_left d) = cast_trans_proper c p (cast_proper p d)
cast_trans_proper (c_both c e) p (p_right d) = cast_trans_proper e p (cast_proper p d)
cast_trans_proper {y = y} {B = B} (c_top {v = v} {T = T} {A = A} _ _ _) p d = elim d [ ]

pub cast_trans : {v x y : Term} {A B : Ty} → Cast v A x → Cast x B y → Cast v B y
cast_trans {y} {B} c d = cast_lift (cast_from c).1 (λ B p y e. cast_trans_proper c p (cast_proper p e)) B y d
