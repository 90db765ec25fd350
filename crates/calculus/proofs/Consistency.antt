-- Consistency by the source's specification is consistency by document 01's list, on all values, and the executable test answers
-- both. Assumes nothing.
use Prim.Native.Nat.{ℕ}
use mathlib.Core.Path.{◌≡◌, refl, sym, ◌∙◌, ap, ap₂, subst₂}
use mathlib.Core.Logic.{◌↔◌, ◌⊎◌, inl, inr, by_cases}
use mathlib.Core.Bool.{Bool, true, false, not, ◌&&◌, ◌||◌, decide}
use lib.Dec.{T, eqb}
use lib.IntN.{ℤ}
use native.Mathlib.Decide.{ℕ_discrete}
use Rattle.calculus.specs.Syntax.{Ty, int, arrow, inter, field, Term, lit, lam, merge, rcd}
use Rattle.calculus.specs.Syntax.{Value, v_lit, v_unit, v_lam, v_merge, v_rcd, Ty-discrete, Term-discrete}
use Rattle.calculus.specs.Subtyping.{TopLike, Below, b_left, b_right}
use Rattle.calculus.specs.Disjointness.{DisjointByList, d_arrow, d_labels}
use Rattle.calculus.specs.Decide.{same_integer, same_term, same_type, each_part, consistent_lit, consistent_lam, consistent_rcd, is_consistent}
use Rattle.calculus.specs.Decide.{is_disjoint, disjoint_int, disjoint_arrow, disjoint_field}
use Rattle.calculus.specs.TypedReduction.{Cast, c_lit, c_arrow, c_rcd}
use Rattle.calculus.specs.Consistency.{Consistent, ConsistentByList, k_lit, k_lam, k_rcd, k_left, k_right, k_disjoint}
use Rattle.calculus.proofs.Bools.{decide_says, T_and, eqb_says, ◌and◌, ◌or◌}
use Rattle.calculus.proofs.Subtyping.{below_refl, top_like_dec}
use Rattle.calculus.proofs.Disjointness.{disjoint_or_common, list→disjoint}
use Rattle.calculus.proofs.Decisions.{is_disjoint_says}
use Rattle.calculus.proofs.TypedReduction.{cast_below, cast_top_like, cast_left, cast_right, Proper, by_type, cast_inter}
use Rattle.calculus.proofs.TypedReduction.{ProperCast, p_lit, p_arrow, p_rcd, p_left, p_right, cast_proper}

-- what the tests on trees say
pub same_term_says : (e f : Term) → T (same_term e f) ↔ (e ≡ f)
unfolding same_term
same_term_says e f = decide_says (Term-discrete ℕ_discrete same_integer (Ty-discrete ℕ_discrete) e f)

pub same_type_says : (A B : Ty) → T (same_type A B) ↔ (A ≡ B)
unfolding same_type
same_type_says A B = decide_says (Ty-discrete ℕ_discrete A B)

-- readings that agree under proper types agree
agree : {v w : Term} → ((A : Ty) → Proper A → (x y : Term) → Cast v A x → Cast w A y → x ≡ y) → Consistent v w
agree {v} {w} f =
    by_type (λ A. (x y : Term) → Cast v A x → Cast w A y → x ≡ y) (λ A t x y. cast_top_like t) f
    (λ A B g h z z' c d. cast_inter (λ z. z ≡ z') (λ x y a b. cast_inter (λ z. merge x y ≡ z)
    (λ x' y' a' b'. ap₂ merge (g x x' a a') (h y y' b b')) d) c)

pub consistent_sym : {v w : Term} → Consistent v w → Consistent w v
consistent_sym k A x y c d = sym (k A y x d c)

-- the halves of a merge
pub consistent_halves : {v w x : Term} {A B : Ty} → Value v A → Value w B → Consistent (merge v w) x → Consistent v x × Consistent w x
consistent_halves v w k = (λ A x y c. k A x y (cast_left w c), λ A x y c. k A x y (cast_right v c))

-- the readings of like values, and of a merge, under a proper type
read_lits : {i : ℤ} {x y : Term} {A : Ty} → ProperCast (lit i) A x → ProperCast (lit i) A y → x ≡ y
read_lits p_lit p_lit = refl

read_lams : {e x y : Term} {A B C D : Ty} → ProperCast (lam e A B) D x → ProperCast (lam e A C) D y → x ≡ y
read_lams (p_arrow a b) (p_arrow c d) = refl

-- a record read under a record type
read_rcd : {l k : ℕ} {w y : Term} {A : Ty} → ProperCast (rcd l w) (field k A) y → (x : Term) × Cast w A x × (rcd l x ≡ y)
read_rcd (p_rcd c) = (_, c, refl)

read_rcds : {l : ℕ} {v w x y : Term} {A : Ty} → Consistent v w → ProperCast (rcd l v) A x → ProperCast (rcd l w) A y → x ≡ y
read_rcds {l} k (p_rcd {A} c) p = let (x, d, e) = read_rcd p in ap (rcd l) (k A _ _ c d) ∙ e

read_merge : {v w x y z : Term} {A : Ty} → Consistent v x → Consistent w x → ProperCast (merge v w) A y → Cast x A z → y ≡ z
read_merge {A} k m (p_left c) d = k A _ _ c d
read_merge {A} k m (p_right c) d = m A _ _ c d

-- a merge against a value, from its halves
pub consistent_merge : {v w x : Term} → Consistent v x → Consistent w x → Consistent (merge v w) x
consistent_merge k m = agree λ A p y z c. read_merge k m (cast_proper p c)

-- a value against a merge, from its halves; and back
pub consistent_with_merge : {u v w : Term} → Consistent u v → Consistent u w → Consistent u (merge v w)
consistent_with_merge k m = consistent_sym (consistent_merge (consistent_sym k) (consistent_sym m))

pub consistent_with_halves : {u v w : Term} {A B : Ty} → Value v A → Value w B → Consistent u (merge v w) → Consistent u v × Consistent u w
consistent_with_halves v w k = let (l, r) = consistent_halves v w (consistent_sym k) in (consistent_sym l, consistent_sym r)

pub list→consistent : {v w : Term} → ConsistentByList v w → Consistent v w
list→consistent k_lit = agree λ A p x y c d. read_lits (cast_proper p c) (cast_proper p d)
list→consistent k_lam = agree λ A p x y c d. read_lams (cast_proper p c) (cast_proper p d)
list→consistent (k_rcd k) = agree λ A p x y c d. read_rcds (list→consistent k) (cast_proper p c) (cast_proper p d)
list→consistent (k_left k m) = consistent_merge (list→consistent k) (list→consistent m)
list→consistent (k_right k m) = consistent_with_merge (list→consistent k) (list→consistent m)
list→consistent (k_disjoint v w d) = agree λ A p x y c e. absurd (p.1 (list→disjoint d A (cast_below c v) (cast_below e w)))

-- The test stands between the two: what is consistent passes it, and what passes it is on the list.
pub record Between (b : Bool) (v w : Term) : Type 0 where
  pub passes : Consistent v w → T b
  pub listed : T b → ConsistentByList v w

-- two tests of parts, where the parts together are the whole
between_both : {a b : Bool} {v w x y v' w' : Term} → (Consistent v' w' → Consistent v w × Consistent x y) →
    (ConsistentByList v w → ConsistentByList x y → ConsistentByList v' w') → Between a v w → Between b x y → Between (a && b) v' w'
between_both {a} {b} parts whole f g = record {
  passes = λ k. let (l, r) = parts k in (T_and a b).1 (f.passes l, g.passes r);
  listed = λ t. let (l, r) = (T_and a b).0 t in whole (f.listed l) (g.listed r);
}

between_left : {a b : Bool} {v u w : Term} {A B : Ty} → Value v A → Value u B → Between a v w → Between b u w → Between (a && b) (merge v u) w
between_left v u = between_both (consistent_halves v u) k_left

between_right : {a b : Bool} {v u w : Term} {A B : Ty} → Value v A → Value u B → Between a w v → Between b w u → Between (a && b) w (merge v u)
between_right v u = between_both (consistent_with_halves v u) k_right

-- disjoint by the test for types
apart : {v w : Term} {A B : Ty} → Value v A → Value w B → T (is_disjoint A B) → Between true v w
apart {A} {B} v w t = record { passes = λ k. tt; listed = λ s. k_disjoint v w ((is_disjoint_says A B).0 t) }

two_lits : {i j : ℤ} (d : Dec (i ≡ j)) → Between (decide d) (lit i) (lit j)
two_lits {i} {j} d = record {
  passes = λ k. let q : lit i ≡ lit j = k int _ _ c_lit c_lit in (decide_says d).1 (cc q);
  listed = λ t. rw (← (decide_says d).0 t) k_lit;
}

between_lit : {i : ℤ} {w : Term} {B : Ty} → Value w B → Between (each_part (consistent_lit i) w) (lit i) w
unfolding each_part consistent_lit is_disjoint disjoint_int
between_lit {i} (v_lit {i = j}) = two_lits (same_integer i j)
between_lit v_unit = apart v_lit v_unit tt
between_lit v_lam = apart v_lit v_lam tt
between_lit (v_merge v w) = between_right v w (between_lit v) (between_lit w)
between_lit (v_rcd v) = apart v_lit (v_rcd v) tt

-- disjoint outputs, or a common supertype under which both are read
two_lams : {e f : Term} {A B C D : Ty} → Between ((same_term e f && same_type A C) || is_disjoint B D) (lam e A B) (lam f C D)
two_lams {e} {f} {A} {B} {C} {D} = record {
  passes = λ k. test.1 (elim (disjoint_or_common B D) [ inl d ↦ inr d | inr c ↦ inl (read k c) ]);
  listed = λ t. elim (test.0 t) [
    | inl s ↦ subst₂ (λ g F. ConsistentByList (lam e A B) (lam g F D)) s.0 s.1 k_lam
    | inr d ↦ k_disjoint v_lam v_lam (d_arrow d)
  ];
}
  where
    test : T ((same_term e f && same_type A C) || is_disjoint B D) ↔ (((e ≡ f) × (A ≡ C)) ⊎ DisjointByList B D)
    test = ((same_term e f, same_term_says e f) and (same_type A C, same_type_says A C) or (is_disjoint B D, is_disjoint_says B D)).1

    read : Consistent (lam e A B) (lam f C D) → ((E : Ty) × (¬ TopLike E) × Below B E × Below D E) → (e ≡ f) × (A ≡ C)
    read k (E, n, b, d) =
        let q : lam e A E ≡ lam f C E = k (arrow (inter A C) E) _ _ (c_arrow n (b_left (below_refl A)) b) (c_arrow n (b_right (below_refl C)) d) in
        (cc q, cc q)

between_lam : {e w : Term} {A B C : Ty} → Value w C → Between (each_part (consistent_lam e A B) w) (lam e A B) w
unfolding each_part consistent_lam is_disjoint disjoint_arrow
between_lam v_lit = apart v_lam v_lit tt
between_lam v_unit = apart v_lam v_unit tt
between_lam v_lam = two_lams
between_lam (v_merge v w) = between_right v w (between_lam v) (between_lam w)
between_lam (v_rcd v) = apart v_lam (v_rcd v) tt

consistent_contents : {l : ℕ} {v w : Term} → Consistent (rcd l v) (rcd l w) → Consistent v w
consistent_contents {l} k A x y c d =
    by_cases (top_like_dec A) (λ t. cast_top_like t c d)
    (λ n. let q : rcd l x ≡ rcd l y = k (field l A) _ _ (c_rcd n c) (c_rcd n d) in cc q)

two_rcds : {l m : ℕ} {v w : Term} {A B : Ty} {b : Bool} (t : Bool) → T t ↔ (l ≡ m) →
    Value v A → Value w B → Between b v w → Between (not t || b) (rcd l v) (rcd m w)
two_rcds {l} {m} true s v w f =
    let e : l ≡ m = s.0 tt in
    record { passes = λ k. f.passes (consistent_contents (rw (← e) at k)); listed = λ t. rw (← e) (k_rcd (f.listed t)) }
two_rcds false s v w f = record { passes = λ k. tt; listed = λ t. k_disjoint (v_rcd v) (v_rcd w) (d_labels s.1) }

between_rcd : {l : ℕ} {v w : Term} {A B : Ty} → Value v A → ((u : Term) (C : Ty) → Value u C → Between (is_consistent v u) v u) →
    Value w B → Between (each_part (consistent_rcd l (is_consistent v)) w) (rcd l v) w
unfolding each_part consistent_rcd is_disjoint disjoint_field
between_rcd v f v_lit = apart (v_rcd v) v_lit tt
between_rcd v f v_unit = apart (v_rcd v) v_unit tt
between_rcd v f v_lam = apart (v_rcd v) v_lam tt
between_rcd v f (v_merge u w) = between_right u w (between_rcd v f u) (between_rcd v f w)
between_rcd {l} v f (v_rcd {l = m} w) = two_rcds (eqb l m) (eqb_says l m) v w (f _ _ w)

pub between : {v w : Term} {A B : Ty} → Value v A → Value w B → Between (is_consistent v w) v w
unfolding is_consistent is_disjoint
between v_lit w = between_lit w
between v_unit w = apart v_unit w tt
between v_lam w = between_lam w
between (v_merge u v) w = between_left u v (between u w) (between v w)
between (v_rcd v) w = between_rcd v (λ x C u. between v u) w

pub consistent→list : {v w : Term} {A B : Ty} → Value v A → Value w B → Consistent v w → ConsistentByList v w
consistent→list v w k = let b = between v w in b.listed (b.passes k)
