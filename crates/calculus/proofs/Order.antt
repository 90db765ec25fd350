-- Left and right don't matter: every order of the parts of a value, in every grouping, is a reordering of it, and reordered it is the same value. Assumes nothing.
use mathlib.Core.Path.{◌≡◌, refl, ap₂, subst₂}
use mathlib.Core.List.{List, [], ◌∷◌, ◌++◌, Permᴰ as Permutation}
use Rattle.calculus.specs.Syntax.{Term, var, lit, unit, anno, app, lam, merge, fix, rcd, proj, sum, choice}
use Rattle.calculus.specs.Order.{Reordered, swapped, to_right, to_left, in_half, unmoved, and_then, parts, EveryOrder, OrderFree}
use Rattle.calculus.proofs.Reordered.{reordered_sym, same_value}

-- ---- every order of the parts

-- in the left half of a merge
in_other_half : {u v w : Term} → Reordered v w → Reordered (merge v u) (merge w u)
in_other_half r = and_then swapped (and_then (in_half r) swapped)

-- parts merged, to the right
chain : Term → List Term → Term
chain e [] = e
chain e (f ∷ l) = merge e (chain f l)

-- two lists that are merged so to values that are reorderings of each other, or that are both empty
ReorderedLists : List Term → List Term → Type 0
ReorderedLists [] [] = Unit {0}
ReorderedLists [] (f ∷ m) = ⊥
ReorderedLists (e ∷ l) [] = ⊥
ReorderedLists (e ∷ l) (f ∷ m) = Reordered (chain e l) (chain f m)

lists_cons : (e : Term) (l m : List Term) → ReorderedLists l m → ReorderedLists (e ∷ l) (e ∷ m)
unfolding ReorderedLists chain
lists_cons e [] [] a = unmoved
lists_cons e [] (g ∷ m) a = absurd a
lists_cons e (f ∷ l) [] a = absurd a
lists_cons e (f ∷ l) (g ∷ m) a = in_half a

lists_swap : (e f : Term) (l : List Term) → ReorderedLists (e ∷ f ∷ l) (f ∷ e ∷ l)
unfolding ReorderedLists chain
lists_swap e f [] = swapped
lists_swap e f (g ∷ l) = and_then to_left (and_then (in_other_half swapped) to_right)

lists_trans : (l m n : List Term) → ReorderedLists l m → ReorderedLists m n → ReorderedLists l n
unfolding ReorderedLists
lists_trans [] [] n a b = b
lists_trans [] (f ∷ m) n a b = absurd a
lists_trans (e ∷ l) [] n a b = absurd a
lists_trans (e ∷ l) (f ∷ m) [] a b = absurd b
lists_trans (e ∷ l) (f ∷ m) (g ∷ n) a b = and_then a b

permuted : {l m : List Term} → Permutation l m → ReorderedLists l m
unfolding ReorderedLists
permuted Permutation.nil = tt
permuted (Permutation.cons {a} {l₁} {l₂} e p) = rw (← e) (lists_cons a l₁ l₂ (permuted p))
permuted (Permutation.swap {a} {b} {l} e f) = rw (← e, ← f) (lists_swap a b l)
permuted (Permutation.trans {l₁} {l₂} {l₃} p q) = lists_trans l₁ l₂ l₃ (permuted p) (permuted q)

-- a merge of two such values, as one
joined : (e : Term) (l : List Term) (f : Term) (m : List Term) → Reordered (merge (chain e l) (chain f m)) (chain e (l ++ f ∷ m))
unfolding chain
joined e [] f m = unmoved
joined e (g ∷ l) f m = and_then to_right (in_half (joined g l f m))

-- a value is a reordering of its parts, merged so
record Chained (v : Term) : Type 0 where
  first : Term
  rest : List Term
  lists : parts v ≡ first ∷ rest
  chained : Reordered v (chain first rest)

alone : {v : Term} → parts v ≡ v ∷ [] → Chained v
unfolding chain
alone {v} e = record { first = v; rest = []; lists = e; chained = unmoved }

in_a_chain : (v : Term) → Chained v
in_a_chain (var n) = alone refl
in_a_chain (lit i) = alone refl
in_a_chain unit = alone refl
in_a_chain (anno e A) = alone refl
in_a_chain (app e f) = alone refl
in_a_chain (lam e A B) = alone refl
in_a_chain (merge e f) =
    let l = in_a_chain e in
    let m = in_a_chain f in
    record {
      first = l.first;
      rest = l.rest ++ m.first ∷ m.rest;
      lists = ap₂ ◌++◌ l.lists m.lists;
      chained = and_then (in_other_half l.chained) (and_then (in_half m.chained) (joined l.first l.rest m.first m.rest));
    }
in_a_chain (fix e A) = alone refl
in_a_chain (rcd l e) = alone refl
in_a_chain (proj l e) = alone refl
in_a_chain (sum e f) = alone refl
in_a_chain (choice e f g) = alone refl

pub every_order : EveryOrder
unfolding ReorderedLists
every_order v w p =
    let l = in_a_chain v in
    let m = in_a_chain w in
    let a : ReorderedLists (l.first ∷ l.rest) (m.first ∷ m.rest) = permuted (subst₂ Permutation l.lists m.lists p) in
    and_then l.chained (and_then a (reordered_sym m.chained))

-- ---- the promise

pub order_free : OrderFree
order_free Γ v w p c r = same_value Γ p.1 c r
