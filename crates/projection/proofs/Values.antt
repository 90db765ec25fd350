-- A value that runs, by its last cell: whether the type that it shows is top-like, and the content of its part that has a field. Assumes nothing.
use Prim.Native.Nat.{ℕ, suc, ◌+◌, ◌*◌, ◌≤◌, ◌<◌}
use native.Mathlib.Omega.{arith}
use mathlib.Core.Path.{◌≡◌, refl, sym, ap, ◌∙◌, subst}
use mathlib.Core.Bool.{Bool, true, false, ◌&&◌, cond}
use mathlib.Core.List.{List}
use mathlib.Core.Option as maybe
use mathlib.Core.Option.{none, some, or_else}
use Rattle.std.specs.Prelude.{Option, None, Some}
use Rattle.projection.specs.declared.Content.{Content}
use lib.Dec.{eqb}
use lib.IntN.{ℤ}
use lib.ListN.{length}
use borrow.Author.Tests.{eq-eqb, ne_eqb}
use Rattle.calculus.specs.Syntax.{Ty, Term, lit, unit, lam, merge, rcd, Value, v_lit, v_unit, v_lam, v_merge, v_rcd}
use Rattle.calculus.specs.Decide.{is_top_like, is_value, type_of}
use Rattle.calculus.specs.Evaluate.{first_part, content}
use Rattle.calculus.proofs.Bools.{true_says, and_says}
use Rattle.calculus.proofs.Tests.{is_value_says}
use Rattle.format.specs.Table.{term_sort, row_for, row_in, table}
use Rattle.format.specs.Cell.{Cell, cell_at}
use Rattle.format.specs.Tree.{kind_in}
use Rattle.format.specs.Terms.{from_term_in}
use Rattle.cells.specs.Held.{HoldsType}
use Rattle.cells.proofs.Held.{kind_of, mark_test, held_within}
use Rattle.emission.proofs.Runs.{nothing, last, ends, whole, at_run, parts, run_kind, run_type}
use Rattle.projection.specs.Parts.{IsValueFrom, ValueFrom, ValueAt, ShowsTopLike, ContentIs, FindsContent}

-- ---- a value by the kind of its last cell t

pub data Shape (s : List ℕ) (start v : ℕ) (t : Cell) : ℕ → Term → Type 0 where
  is_lit : {z : ℤ} → Shape s start v t 17 (lit z)
  is_unit : Shape s start v t 18 unit
  is_lam : {e : Term} {A B : Ty} → HoldsType s t.c B → Shape s start v t 21 (lam e A B)
  is_merge : {e f : Term} → IsValueFrom s start t.a e → IsValueFrom s (t.a + 1) t.b f → start ≤ t.a → t.a < t.b → t.b < v → Shape s start v t 22 (merge e f)
  is_rcd : {l : ℕ} {e : Term} → l ≡ t.label → IsValueFrom s start t.a e → start ≤ t.a → v ≡ suc t.a → Shape s start v t 24 (rcd l e)

by_value : {s : List ℕ} {start v : ℕ} {e : Term} {A : Ty} → Value e A → IsValueFrom s start v e → Shape s start v (cell_at s v) (kind_of term_sort e) e
unfolding from_term_in kind_in table row_in row_for is_value
by_value v_lit h = is_lit
by_value v_unit h = is_unit
by_value (v_lam {e} {A} {B}) h =
    let p = parts h.run refl in
    rw p.cell.is (is_lam (run_type B p.third))
by_value (v_merge {v = x} {w = y} _ _) h =
    let p = parts h.run refl in
    let f : (is_value x ≡ true) × (is_value y ≡ true) =
    (and_says (is_value x) (is_value y) (true_says (is_value x)) (true_says (is_value y))).0 ((true_says (is_value x && is_value y)).1 h.final) in
    rw p.cell.is
    (is_merge
    (record { run = whole p.first; final = f.0 })
    (record { run = at_run (omega (arith, ends p.first)) refl (ends p.second) p.second; final = f.1 })
    (last p.first)
    (omega (arith, ends p.first, last p.second))
    (omega (arith, ends p.second, nothing p.third)))
by_value (v_rcd _) h =
    let p = parts h.run refl in
    rw p.cell.is
    (is_rcd p.label (record { run = whole p.first; final = h.final }) (last p.first) (omega (arith, ends p.first, nothing p.second, nothing p.third)))

-- the kind of no value but a record
pub record NoOther (k : ℕ) : Type 0 where
  pub number : k ≡ 17 → ⊥
  pub top_value : k ≡ 18 → ⊥
  pub function : k ≡ 21 → ⊥
  pub merged : k ≡ 22 → ⊥

-- the halves of a merge at v, the last cells p and q
pub record Halves (s : List ℕ) (start v p q : ℕ) : Type 0 where
  pub first : ValueFrom s start p
  pub second : ValueFrom s (p + 1) q
  pub first_lower : p < v
  pub second_lower : q < v

-- the content of a record at v, the last cell p
pub record Inside (s : List ℕ) (start v p : ℕ) : Type 0 where
  pub from : ValueFrom s start p
  pub lower : p < v

-- some cells are not none
pub no_cells : {g : Content} {r : Option Content} → r ≡ Some g → r ≡ None → ⊥
no_cells e f = let z : ◌≡◌ {A = ℕ} 0 1 = cc in omega arith

-- the first of two answers, if there is one, else the second; each for a part that lies from start on before v
module _ (s : List ℕ) (start v : ℕ) (r : Option Content) where
  widen : (x w : ℕ) (o : maybe.Option Term) → start ≤ x → w ≤ v → ContentIs s x w r o → ContentIs s start v r o
  widen x w none i j h = h
  widen x w (some e) i j h = (h.0, h.1, h.2, omega (arith, i, h.3), omega (arith, j, h.4), h.5)

  left_part : (w : ℕ) (o q : maybe.Option Term) {g : Content} → r ≡ Some g → w ≤ v → ContentIs s start w r o → ContentIs s start v r (or_else o q)
  unfolding or_else
  left_part w none q e j h = absurd (no_cells e h)
  left_part w (some f) q e j h = widen start w (some f) (omega arith) j h

  right_part : (y x w : ℕ) (t : Option Content) (o q : maybe.Option Term) → t ≡ None → start ≤ x → w ≤ v → ContentIs s start y t o → ContentIs s x w r q → ContentIs s start v r (or_else o q)
  unfolding or_else
  right_part y x w t none q e i j h k = widen x w q i j k
  right_part y x w t (some f) q e i j h k = absurd (no_cells h.2 e)

module _ {s : List ℕ} {v : ℕ} {x : Cell} (is : x ≡ cell_at s v) where
  pub shape : {start k : ℕ} {e : Term} → IsValueFrom s start v e → x.kind ≡ k → Shape s start v x k e
  shape {start} {k} {e} h m =
      subst (λ (n : ℕ). Shape s start v x n e) (sym (run_kind h.run) ∙ ap (λ (c : Cell). c.kind) (sym is) ∙ m)
      (rw is (by_value ((is_value_says e).0 ((true_says _).1 h.final)).1 h))

  -- ---- what is asked further is there, and lower

  pub output_within : ValueAt s v → x.kind ≡ 21 → 8 * x.c + 8 ≤ length s
  output_within a k = go (shape a.from.is k)
    where
      go : {start : ℕ} {e : Term} → Shape s start v x 21 e → 8 * x.c + 8 ≤ length s
      go (is_lam h) = held_within h

  pub halves : {start : ℕ} → ValueFrom s start v → x.kind ≡ 22 → Halves s start v x.a x.b
  halves {start} a k = go (shape a.is k)
    where
      go : {e : Term} → Shape s start v x 22 e → Halves s start v x.a x.b
      go (is_merge {e} {f} g h i j l) =
          record { first = record { value = e; is = g }; second = record { value = f; is = h }; first_lower = omega (arith, j, l); second_lower = l }

  pub inside : {start : ℕ} → ValueFrom s start v → x.kind ≡ 24 → Inside s start v x.a
  inside {start} a k = go (shape a.is k)
    where
      go : {e : Term} → Shape s start v x 24 e → Inside s start v x.a
      go (is_rcd {e = e} i g h l) = record { from = record { value = e; is = g }; lower = omega (arith, l) }

  -- a value of no other kind is a record
  pub record_left : {start : ℕ} → ValueFrom s start v → NoOther x.kind → x.kind ≡ 24
  record_left {start} a n = go (shape a.is refl) n
    where
      go : {k : ℕ} {e : Term} → Shape s start v x k e → NoOther k → k ≡ 24
      go is_lit n = absurd (n.number refl)
      go is_unit n = absurd (n.top_value refl)
      go (is_lam h) n = absurd (n.function refl)
      go (is_merge g h i j l) n = absurd (n.merged refl)
      go (is_rcd i g h l) n = refl

  -- ---- whether the type that it shows is top-like

  pub shows_number : x.kind ≡ 17 → ShowsTopLike s v false
  unfolding is_top_like type_of
  shows_number k = record { says = λ n e h. go (shape h k) }
    where
      go : {start : ℕ} {e : Term} → Shape s start v x 17 e → false ≡ is_top_like (type_of e)
      go is_lit = refl

  pub shows_top : x.kind ≡ 18 → ShowsTopLike s v true
  unfolding is_top_like type_of
  shows_top k = record { says = λ n e h. go (shape h k) }
    where
      go : {start : ℕ} {e : Term} → Shape s start v x 18 e → true ≡ is_top_like (type_of e)
      go is_unit = refl

  pub shows_function : {y : Cell} → x.kind ≡ 21 → y ≡ cell_at s x.c → ShowsTopLike s v (eqb y.c 1)
  unfolding is_top_like type_of
  shows_function {y} k i = record { says = λ n e h. go (shape h k) }
    where
      go : {start : ℕ} {e : Term} → Shape s start v x 21 e → eqb y.c 1 ≡ is_top_like (type_of e)
      go (is_lam h) = mark_test h y i

  module _ (k : x.kind ≡ 22) {q : Bool} (f : ShowsTopLike s x.a q) where
    pub shows_both : {r : Bool} → q ≡ true → ShowsTopLike s x.b r → ShowsTopLike s v r
    unfolding is_top_like type_of
    shows_both {r} t g = record { says = λ n e h. go (shape h k) }
      where
        go : {start : ℕ} {e : Term} → Shape s start v x 22 e → r ≡ is_top_like (type_of e)
        go (is_merge {e = e} {f = e'} m n _ _ _) = rw (sym (f.says _ e m) ∙ t) (g.says _ e' n)

    pub shows_not_first : q ≡ false → ShowsTopLike s v q
    unfolding is_top_like type_of
    shows_not_first t = record { says = λ n e h. go (shape h k) }
      where
        go : {start : ℕ} {e : Term} → Shape s start v x 22 e → q ≡ is_top_like (type_of e)
        go (is_merge {e = e} m n _ _ _) = rw (sym (f.says _ e m), t) refl

  pub shows_content : {r : Bool} → x.kind ≡ 24 → ShowsTopLike s x.a r → ShowsTopLike s v r
  unfolding is_top_like type_of
  shows_content {r} k f = record { says = λ m e h. go (shape h k) }
    where
      go : {start : ℕ} {e : Term} → Shape s start v x 24 e → r ≡ is_top_like (type_of e)
      go (is_rcd {e = e} i g h l) = f.says _ e g

  -- ---- the content of its part that has the field of label l

  module _ {start l : ℕ} where
    module _ (k : x.kind ≡ 22) {q : Option Content} (f : FindsContent s start x.a l q) where
      finds_some : {g : Content} → q ≡ Some g → FindsContent s start v l q
      unfolding first_part
      finds_some c = record { says = λ e h. go (shape h k) }
        where
          go : {e : Term} → Shape s start v x 22 e → ContentIs s start v q (first_part (content l) e)
          go (is_merge {e = e} m n i j u) = left_part s start v q x.a _ _ c (omega (arith, j, u)) (f.says e m)

      pub finds_left : {g : Content} → q ≡ Some g → FindsContent s start v l (Some g)
      finds_left c = subst (FindsContent s start v l) c (finds_some c)

      pub finds_right : {r : Option Content} → q ≡ None → FindsContent s (x.a + 1) x.b l r → FindsContent s start v l r
      unfolding first_part
      finds_right {r} c g = record { says = λ e h. go (shape h k) }
        where
          go : {e : Term} → Shape s start v x 22 e → ContentIs s start v r (first_part (content l) e)
          go (is_merge {e = e} {f = e'} m n i j u) = right_part s start v r x.a (x.a + 1) x.b q _ _ c (omega (arith, i)) (omega (arith, u)) (f.says e m) (g.says e' n)

    module _ (k : x.kind ≡ 24) {q : Bool} (f : ShowsTopLike s x.a q) where
      pub finds_content : x.label ≡ l → q ≡ false → FindsContent s start v l (Some (record { start = start; end = v }))
      unfolding first_part content
      finds_content m t = record { says = λ e h. go (shape h k) }
        where
          go : {e : Term} → Shape s start v x 24 e → ContentIs s start v (Some (record { start = start; end = v })) (first_part (content l) e)
          go (is_rcd {e = e} i g h j) =
              rw (eq-eqb l _ (sym m ∙ sym i), sym (f.says _ e g) ∙ t)
              (start, x.a, ap (λ (n : ℕ). Some (record { start = start; end = n })) j, omega arith, omega (arith, j), g)

      pub finds_top_like : q ≡ true → FindsContent s start v l None
      unfolding first_part content
      finds_top_like t = record { says = λ e h. go (shape h k) }
        where
          go : {e : Term} → Shape s start v x 24 e → ContentIs s start v None (first_part (content l) e)
          go (is_rcd {l = m} {e = e} i g h j) = rw (sym (f.says _ e g) ∙ t) (not_shown (eqb l m))
            where
              not_shown : (b : Bool) → ContentIs s start v None (cond (b && false) (some e) none)
              not_shown true = refl
              not_shown false = refl

    pub finds_nothing : (x.kind ≡ 22 → ⊥) → (x.kind ≡ 24 → x.label ≡ l → ⊥) → FindsContent s start v l None
    unfolding first_part content
    finds_nothing n m = record { says = λ e h. go (shape h refl) n m }
      where
        go : {k : ℕ} {e : Term} → Shape s start v x k e → (k ≡ 22 → ⊥) → (k ≡ 24 → x.label ≡ l → ⊥) → ContentIs s start v None (first_part (content l) e)
        go is_lit n m = refl
        go is_unit n m = refl
        go (is_lam h) n m = refl
        go (is_merge g h i j u) n m = absurd (n refl)
        go (is_rcd i g h j) n m = rw (ne_eqb l _ (λ e. m refl (sym i ∙ sym e))) refl

    pub finds_no_record : (x.kind ≡ 22 → ⊥) → (x.kind ≡ 24 → ⊥) → FindsContent s start v l None
    finds_no_record n m = finds_nothing n (λ k. absurd (m k))
