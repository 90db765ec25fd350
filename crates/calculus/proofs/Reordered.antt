-- A value and the same reordered are typed together and read alike. Assumes nothing.
use Prim.Native.Nat.{ℕ}
use native.Mathlib.Omega.{arith}
use mathlib.Core.Path.{◌≡◌, refl, sym, ◌∙◌, ap}
use mathlib.Core.Logic.{◌↔◌}
use mathlib.Core.List.{List, []}
use lib.Dec.{T}
use Rattle.calculus.specs.Syntax.{Ty, size_type, Value, v_merge, v_rcd}
use Rattle.calculus.specs.Syntax.{Term, merge, rcd, size}
use Rattle.calculus.specs.Subtyping.{Below}
use Rattle.calculus.specs.TypedReduction.{Cast, c_rcd}
use Rattle.calculus.specs.Consistency.{Consistent}
use Rattle.calculus.specs.Typing.{HasType, t_mergev, t_rcd}
use Rattle.calculus.specs.Decide.{is_closed}
use Rattle.calculus.specs.Order.{Reordered, swapped, to_right, to_left, in_half, in_record, unmoved, and_then, SameValue}
use Rattle.calculus.proofs.Subtyping.{below_refl}
use Rattle.calculus.proofs.TypedReduction.{value_unique, Proper, ProperCast, p_rcd, p_left, p_right, cast_proper, cast_below, cast_lift, cast_left, cast_right, below_cast}
use Rattle.calculus.proofs.Consistency.{consistent_sym, consistent_halves, consistent_merge, consistent_with_merge, consistent_with_halves, list→consistent}
use Rattle.calculus.proofs.Typing.{closed_both, typed_weaken, typed_strengthen}
use Rattle.calculus.proofs.Soundness.{value_typed, typed_halves, halves_consistent, cast_unique}
use Rattle.calculus.proofs.Evaluation.{rcd_typed}

pub reordered_sym : {v w : Term} → Reordered v w → Reordered w v
reordered_sym swapped = swapped
reordered_sym to_right = to_left
reordered_sym to_left = to_right
reordered_sym (in_half r) = in_half (reordered_sym r)
reordered_sym (in_record r) = in_record (reordered_sym r)
reordered_sym unmoved = unmoved
reordered_sym (and_then r s) = and_then (reordered_sym s) (reordered_sym r)

-- ---- what reordering keeps

-- a value reordered is one, and shows a type of the same size
pub reordered_value : {v w : Term} {A : Ty} → Reordered v w → Value v A → (B : Ty) × Value w B × (size_type B ≡ size_type A)
unfolding size_type
reordered_value swapped (v_merge v w) = (_, v_merge w v, omega arith)
reordered_value to_right (v_merge (v_merge u v) w) = (_, v_merge u (v_merge v w), omega arith)
reordered_value to_left (v_merge u (v_merge v w)) = (_, v_merge (v_merge u v) w, omega arith)
reordered_value (in_half r) (v_merge u v) = let (B, w, e) = reordered_value r v in (_, v_merge u w, omega arith)
reordered_value (in_record r) (v_rcd v) = let (B, w, e) = reordered_value r v in (_, v_rcd w, omega arith)
reordered_value unmoved v = (_, v, refl)
reordered_value (and_then r s) v = let (B, w, e) = reordered_value r v in let (C, u, d) = reordered_value s w in (C, u, d ∙ e)

-- and is of the same size
pub reordered_size : {v w : Term} → Reordered v w → size w ≡ size v
unfolding size
reordered_size swapped = omega arith
reordered_size to_right = omega arith
reordered_size to_left = omega arith
reordered_size (in_half r) = let e = reordered_size r in omega arith
reordered_size (in_record r) = let e = reordered_size r in omega arith
reordered_size unmoved = refl
reordered_size (and_then r s) = reordered_size s ∙ reordered_size r

-- what a merge of v and w reads, u reads, if u reads what v reads and what w reads
read_either : {u v w : Term} {D : Ty} → Value u D → ((A : Ty) (x : Term) → Cast v A x → Cast u A x) → ((A : Ty) (x : Term) → Cast w A x → Cast u A x) →
    (A : Ty) (x : Term) → Cast (merge v w) A x → Cast u A x
read_either {u} {v} {w} d f g = cast_lift d (λ A p x c. go A x (cast_proper p c))
  where
    go : (A : Ty) (x : Term) → ProperCast (merge v w) A x → Cast u A x
    go A x (p_left c) = f A x c
    go A x (p_right c) = g A x c

-- what a record's content reads, under a proper type
read_content : {l : ℕ} {v w x : Term} {A : Ty} → ((B : Ty) (y : Term) → Cast v B y → Cast w B y) → Proper A → ProperCast (rcd l v) A x → Cast (rcd l w) A x
read_content f p (p_rcd {x} {A} c) = c_rcd p.1 (f A x c)

-- what a value reads, the same reordered reads
reordered_reads : {v w : Term} {D : Ty} → Reordered v w → Value v D → (A : Ty) (x : Term) → Cast v A x → Cast w A x
reordered_reads swapped (v_merge v w) = read_either (v_merge w v) (λ A x. cast_right w) (λ A x. cast_left v)
reordered_reads to_right (v_merge (v_merge u v) w) =
    let k = v_merge v w in
    let uv = read_either (v_merge u k) (λ A x. cast_left k) (λ A x c. cast_right u (cast_left w c)) in
    read_either (v_merge u k) uv (λ A x c. cast_right u (cast_right v c))
reordered_reads to_left (v_merge u (v_merge v w)) =
    let k = v_merge u v in
    let vw = read_either (v_merge k w) (λ A x c. cast_left w (cast_right u c)) (λ A x. cast_right k) in
    read_either (v_merge k w) (λ A x c. cast_left w (cast_left v c)) vw
reordered_reads (in_half r) (v_merge u v) =
    let w = (reordered_value r v).1 in
    read_either (v_merge u w) (λ A x. cast_left w) (λ A x c. cast_right u (reordered_reads r v A x c))
reordered_reads (in_record r) (v_rcd v) =
    cast_lift (v_rcd (reordered_value r v).1) (λ A p x c. read_content (reordered_reads r v) p (cast_proper p c))
reordered_reads unmoved v = λ A x c. c
reordered_reads (and_then r s) v = λ A x c. reordered_reads s (reordered_value r v).1 A x (reordered_reads r v A x c)

-- a merge of values is typed exactly if both are, and they are consistent
merge_types : {v w : Term} {A B : Ty} → Value v A → Value w B → HasType [] (merge v w) ↔ (HasType [] v × HasType [] w × Consistent v w)
merge_types v w = (
  (λ t. let (A, B, s, u) = typed_halves t.1 in ((A, s), (B, u), list→consistent (halves_consistent t.1 v w))),
  (λ p. (_, t_mergev (value_typed p.0.1 v) (value_typed p.1.1 w) p.0.1 p.1.1 p.2)),
)

-- a typed value, reordered, is typed
reordered_typed : {v w : Term} {D : Ty} → Reordered v w → Value v D → HasType [] v → HasType [] w
reordered_typed swapped (v_merge v w) t =
    let (s, u, k) = (merge_types v w).0 t in
    (merge_types w v).1 (u, s, consistent_sym k)
reordered_typed to_right (v_merge (v_merge u v) w) t =
    let (uv, tw, k) = (merge_types (v_merge u v) w).0 t in
    let (tu, tv, m) = (merge_types u v).0 uv in
    let (l, r) = consistent_halves u v k in
    (merge_types u (v_merge v w)).1 (tu, (merge_types v w).1 (tv, tw, r), consistent_with_merge m l)
reordered_typed to_left (v_merge u (v_merge v w)) t =
    let (tu, vw, k) = (merge_types u (v_merge v w)).0 t in
    let (tv, tw, m) = (merge_types v w).0 vw in
    let (l, r) = consistent_with_halves v w k in
    (merge_types (v_merge u v) w).1 ((merge_types u v).1 (tu, tv, l), tw, consistent_merge r m)
reordered_typed (in_half r) (v_merge u v) t =
    let (tu, tv, k) = (merge_types u v).0 t in
    let w = (reordered_value r v).1 in
    (merge_types u w).1 (tu, reordered_typed r v tv, λ A x y c d. k A x y c (reordered_reads (reordered_sym r) w A y d))
reordered_typed (in_record r) (v_rcd v) t = (_, t_rcd (reordered_typed r v (rcd_typed t)).1)
reordered_typed unmoved v t = t
reordered_typed (and_then r s) v t = reordered_typed s (reordered_value r v).1 (reordered_typed r v t)

-- ---- the promise

-- a closed value is typed under binders exactly if it is typed without
closed_typed : {Γ : List Ty} {v : Term} → T (is_closed 0 v) → HasType Γ v → HasType [] v
closed_typed {Γ} c t = (t.0, typed_strengthen [] Γ t.1 c)

under : {Γ : List Ty} {v : Term} → HasType [] v → HasType Γ v
under {Γ} t = (t.0, typed_weaken t.1 Γ)

-- the type of a value is below that of the same reordered
types_below : {v w : Term} {A B : Ty} → Reordered v w → Value v A → Value w B → Below A B
types_below {B = B} r v w =
    let (x, c) = below_cast w (below_refl B) in
    cast_below (reordered_reads (reordered_sym r) w B x c) v

-- a closed value, reordered, is closed
reordered_closed : {v w : Term} → Reordered v w → T (is_closed 0 v) → T (is_closed 0 w)
unfolding is_closed
reordered_closed (swapped {v} {w}) c = let (a, b) = (closed_both 0 v w).0 c in (closed_both 0 w v).1 (b, a)
reordered_closed (to_right {u} {v} {w}) c =
    let (uv, z) = (closed_both 0 (merge u v) w).0 c in
    let (x, y) = (closed_both 0 u v).0 uv in
    (closed_both 0 u (merge v w)).1 (x, (closed_both 0 v w).1 (y, z))
reordered_closed (to_left {u} {v} {w}) c =
    let (x, vw) = (closed_both 0 u (merge v w)).0 c in
    let (y, z) = (closed_both 0 v w).0 vw in
    (closed_both 0 (merge u v) w).1 ((closed_both 0 u v).1 (x, y), z)
reordered_closed (in_half {u} {v} {w} r) c = let (a, b) = (closed_both 0 u v).0 c in (closed_both 0 u w).1 (a, reordered_closed r b)
reordered_closed (in_record r) c = reordered_closed r c
reordered_closed unmoved c = c
reordered_closed (and_then r s) c = reordered_closed s (reordered_closed r c)

module _ (Γ : List Ty) {v w : Term} {D : Ty} (p : Value v D) (c : T (is_closed 0 v)) (r : Reordered v w) where
  other : Value w (reordered_value r p).0
  other = (reordered_value r p).1

  to : HasType Γ v → HasType [] w
  to t = reordered_typed r p (closed_typed c t)

  from : HasType Γ w → HasType [] v
  from t = reordered_typed (reordered_sym r) other (closed_typed (reordered_closed r c) t)

  pub same_value : SameValue Γ v w
  same_value =
      record {
        accepted = (λ t. under (to t), λ t. under (from t));
        together = λ t A. (
          λ x. (x.0, reordered_reads r p A x.0 x.1),
          λ x. (x.0, reordered_reads (reordered_sym r) other A x.0 x.1),
        );
        equal = λ t A x y e d. cast_unique (to t).1 (reordered_reads r p A x e) d;
        only = λ t A x y. cast_unique (closed_typed c t).1;
        types = λ A B t u.
            let x = value_typed t p in
            let y = value_typed u other in
            let (C, z, e) = reordered_value r x in
            (types_below r x y, types_below (reordered_sym r) y x, sym e ∙ ap size_type (value_unique z y));
        sizes = sym (reordered_size r);
      }
