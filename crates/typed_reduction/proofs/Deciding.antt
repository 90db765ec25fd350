-- Whether a held value can be read under a held type, and by which part: by the kinds of the two cells, from the answers about their
-- parts. Assumes nothing.
use Prim.Native.Nat.{ℕ, ◌<◌}
use native.Mathlib.Decide.{ℕ_discrete}
use mathlib.Core.Path.{◌≡◌, refl, sym, ap, ap₂, ◌∙◌}
use mathlib.Core.Bool.{Bool, true, false, ◌&&◌, cond}
use mathlib.Core.List.{List}
use mathlib.Core.Option.{Option as Maybe, none, some, map}
use mathlib.Core.Logic.{by_cases}
use lib.Dec.{eqb}
use borrow.Author.Tests.{eq-eqb, ne_eqb}
use Rattle.std.specs.Prelude.{Option, Some, is_some as found}
use Rattle.calculus.specs.Syntax.{Ty, int, top, arrow, inter, field}
use Rattle.calculus.specs.Syntax.{Term, lam, rcd}
use Rattle.calculus.specs.Subtyping.{TopLike, Ordinary}
use Rattle.calculus.specs.Decide.{is_below}
use Rattle.calculus.specs.Evaluate.{merge_both, first_part, cast_int, cast_arrow, cast_field, cast}
use Rattle.calculus.proofs.Decisions.{is_top_like_says, not_top_like_lem}
use Rattle.calculus.proofs.Tests.{cast_top, cast_arrow_lem, cast_field_lem, cast_merge}
use Rattle.format.specs.Table.{type_sort}
use Rattle.format.specs.Cell.{Cell, cell_at}
use Rattle.format.specs.Tree.{kind_in}
use Rattle.format.specs.Terms.{from_type}
use Rattle.cells.specs.Held.{HoldsType}
use Rattle.cells.proofs.Held.{top_like, not_top_like, kind_of, kind_of_held, int_at, lit_at, held_one}
use Rattle.emission.specs.Runs.{RunsType, RunsTerm}
use Rattle.emission.proofs.Runs.{holds_type, holds_term}
use Rattle.emission.proofs.RunParts.{TwoTypes, OneType, FunctionAt, OneTerm, arrow_at, inter_at, field_at, lam_at, rcd_at}
use Rattle.decisions.specs.Questions.{TypesAt, TypesSay}
use Rattle.decisions.proofs.Parts.{and_both}
use Rattle.typed_reduction.specs.Casting.{is_some, ValueAndType, Castable, ProperAt, NoMerge, SingleAt, PartAt, PartBy, FindsFirst, FindsPart, PartOf}
use Rattle.typed_reduction.proofs.Sizes.{size_at, half_smaller, field_smaller, record_smaller}
use Rattle.typed_reduction.proofs.Parts.{part_runs}
use Rattle.typed_reduction.proofs.Single.{single_int, single_arrow, single_field, no_number, no_function, no_record, no_merge}

-- Under any type.

some_both : (x y : Maybe Term) → is_some (merge_both x y) ≡ (is_some x && is_some y)
unfolding merge_both
some_both none y = refl
some_both (some e) none = refl
some_both (some e) (some f) = refl

-- every value can be read under a top_like type
top_like_reads : (A : Ty) (e : Term) → TopLike A → is_some (cast A e) ≡ true
unfolding cast
top_like_reads int e t = absurd t
top_like_reads top e t = refl
top_like_reads (arrow A B) e t = rw (cast_top (arrow A B) e tt t) refl
top_like_reads (inter A B) e t = rw (some_both (cast A e) (cast B e), top_like_reads A e t.0, top_like_reads B e t.1) refl
top_like_reads (field l A) e t = rw (cast_top (field l A) e tt t) refl

inter_reads : (A B : Ty) (e : Term) → is_some (cast (inter A B) e) ≡ (is_some (cast A e) && is_some (cast B e))
unfolding cast
inter_reads A B e = some_both (cast A e) (cast B e)

-- of two questions that must both say yes the first says no
and_fails : {p q t : Bool} (s : Bool) → t ≡ (q && s) → p ≡ q → p ≡ false → false ≡ t
and_fails s e f g = sym (e ∙ rw (sym f ∙ g) refl)

-- the value at v under both halves of an intersection at a, which are the types at p and q
pub record Halves (s : List ℕ) (v a p q : ℕ) : Type 0 where
  pub first : ValueAndType s v p
  pub second : ValueAndType s v q
  pub smaller : (size_at s p < size_at s a) × (size_at s q < size_at s a)

pub ordinary_at : {s : List ℕ} {a : ℕ} {A : Ty} → HoldsType s a A → ((cell_at s a).kind ≡ 4 → ⊥) → Ordinary A
unfolding from_type kind_in
ordinary_at {A = A} h n = go A (λ k. n (kind_of_held h ∙ k))
  where
    go : (A : Ty) → (kind_of type_sort A ≡ 4 → ⊥) → Ordinary A
    go int n = tt
    go top n = tt
    go (arrow A B) n = tt
    go (inter A B) n = n refl
    go (field l A) n = tt

-- y stands in cell a
module _ {s : List ℕ} {a : ℕ} {y : Cell} (is : y ≡ cell_at s a) (v : ℕ) where
  pub casts_top : y.c ≡ 1 → Castable s v a true
  casts_top m = record { says = λ e A h k. sym (top_like_reads A e ((is_top_like_says A).0 (top_like (holds_type k) y is m))) }

  pub halves : ValueAndType s v a → y.kind ≡ 4 → Halves s v a y.a y.b
  halves b = rw is λ k.
      let p = inter_at b.holds_type k in
      record {
        first = record { value = b.value; type = p.first; holds_value = b.holds_value; holds_type = p.holds_first };
        second = record { value = b.value; type = p.second; holds_value = b.holds_value; holds_type = p.holds_second };
        smaller = half_smaller b.holds_type p.is p.holds_first p.holds_second;
      }

  pub casts_both : {q r : Bool} → y.kind ≡ 4 → Castable s v y.a q → q ≡ true → Castable s v y.b r → Castable s v a r
  casts_both = rw is λ k f t g. record {
    says = λ e A h w.
        let p = inter_at w k in
        and_both (ap (λ B. is_some (cast B e)) p.is ∙ inter_reads p.first p.second e)
        (f.says e p.first h p.holds_first)
        t
        (g.says e p.second h p.holds_second);
  }

  pub casts_not_first : {q : Bool} → y.kind ≡ 4 → Castable s v y.a q → q ≡ false → Castable s v a false
  casts_not_first = rw is λ k f t. record {
    says = λ e A h w.
        let p = inter_at w k in
        and_fails _ (ap (λ B. is_some (cast B e)) p.is ∙ inter_reads p.first p.second e) (f.says e p.first h p.holds_first) t;
  }

  pub proper : ValueAndType s v a → (y.c ≡ 1 → ⊥) → (y.kind ≡ 4 → ⊥) → ProperAt s v a
  proper b n o = record {
    both = b;
    ordinary = ordinary_at (holds_type b.holds_type) (rw is at o);
    proper = not_top_like_lem b.type (not_top_like (holds_type b.holds_type) y is n);
  }

-- By a part.

found_part_is : (s : List ℕ) (A : Ty) (r : Option ℕ) (o : Maybe Term) → PartBy s A r o → found r ≡ is_some o
found_part_is s A r none h = rw h refl
found_part_is s A r (some x) h = rw h.2 refl

pub casts_found : {s : List ℕ} {v a : ℕ} {r : Option ℕ} → FindsPart s v a r → Castable s v a (found r)
casts_found {s} f = record { says = λ e A h k. found_part_is s A _ (cast A e) (f.says e A h k) }

module _ {s : List ℕ} {v a : ℕ} (p : ProperAt s v a) where
  -- the same of whatever the cell of the type holds
  is_ordinary : {A : Ty} → RunsType s a A → Ordinary A
  is_ordinary k = rw (held_one (holds_type k) (holds_type p.both.holds_type)) p.ordinary

  pub is_proper : {A : Ty} → RunsType s a A → ¬ TopLike A
  is_proper k = rw (held_one (holds_type k) (holds_type p.both.holds_type)) p.proper

  -- a part that is tested
  pub single : {q : ℕ} → PartAt s v q → SingleAt s q a
  single h =
      let w = part_runs h p.both.holds_value in
      record {
        at = record {
          both = record { value = w.term; type = p.both.type; holds_value = w.holds; holds_type = p.both.holds_type };
          ordinary = p.ordinary;
          proper = p.proper;
        };
        single = w.single;
      }

  pub finds_part : {r : Option ℕ} {test : ℕ → Bool → Type 0} → FindsFirst s v test r → ((q : ℕ) (b : Bool) → test q b → Castable s q a b) → FindsPart s v a r
  finds_part f g =
      record {
        says = λ e A h k.
            f.says (cast A) (λ l m. cast_merge A l m (is_ordinary k) (is_proper k)) (λ q l b n o t. (g q b t).says l A n k) e h;
      }

-- The part of a value that can be read.

pub found_part : {s : List ℕ} {v a : ℕ} {r : Option ℕ} → FindsPart s v a r → PartOf s v a r
found_part f = record { says = λ e x A h k c. rw c at (f.says e A h k) }

pub itself_part : {s : List ℕ} {v a : ℕ} {x : Cell} → x ≡ cell_at s v → (x.kind ≡ 22 → ⊥) → PartOf s v a (Some v)
itself_part {v = v} is n = record { says = λ e y A h k c. (v, e, refl, h, c, no_merge (holds_term h) (rw is at n)) }

-- A part under the head of a type.

some_when : (t : Bool) (e : Term) → is_some (cond t (some e) none) ≡ t
some_when true e = refl
some_when false e = refl

some_within : (t : Bool) (f : Term → Term) (o : Maybe Term) → is_some (cond t (map f o) none) ≡ (t && is_some o)
some_within true f none = refl
some_within true f (some e) = refl
some_within false f o = refl

function_reads : (C D A B : Ty) (e : Term) → ¬ TopLike D → is_some (cast (arrow C D) (lam e A B)) ≡ (is_below C A && is_below B D)
unfolding first_part cast_arrow
function_reads C D A B e n = rw (cast_arrow_lem C D (lam e A B) n) (some_when (is_below C A && is_below B D) (lam e A D))

record_reads : (l k : ℕ) (A : Ty) (e : Term) → ¬ TopLike A → is_some (cast (field l A) (rcd k e)) ≡ (eqb l k && is_some (cast A e))
unfolding first_part cast_field
record_reads l k A e n = rw (cast_field_lem l A (rcd k e) n) (some_within (eqb l k) (rcd l) (cast A e))

pub field_left : {s : List ℕ} {a : ℕ} {A : Ty} → HoldsType s a A → Ordinary A → ¬ TopLike A → ((cell_at s a).kind ≡ 1 → ⊥) → ((cell_at s a).kind ≡ 3 → ⊥) →
    (cell_at s a).kind ≡ 5
unfolding from_type kind_in
field_left {A = A} h o n f g = kind_of_held h ∙ go A o n (λ k. f (kind_of_held h ∙ k)) (λ k. g (kind_of_held h ∙ k))
  where
    go : (A : Ty) → Ordinary A → ¬ TopLike A → (kind_of type_sort A ≡ 1 → ⊥) → (kind_of type_sort A ≡ 3 → ⊥) → kind_of type_sort A ≡ 5
    go int o n f g = absurd (f refl)
    go top o n f g = absurd (n tt)
    go (arrow A B) o n f g = absurd (g refl)
    go (inter A B) o n f g = absurd o
    go (field l A) o n f g = refl

-- the content at p of the record at v under that of the record type at a, which is the type at q
pub record Contents (s : List ℕ) (v a p q : ℕ) : Type 0 where
  pub both : ValueAndType s p q
  pub value_smaller : size_at s p < size_at s v
  pub type_smaller : size_at s q < size_at s a

-- x and y stand in the cells of the value and of the type
pub record CellsOf (s : List ℕ) (v a : ℕ) (x y : Cell) : Type 0 where
  pub given : SingleAt s v a
  pub value : x ≡ cell_at s v
  pub type : y ≡ cell_at s a

module _ {s : List ℕ} {v a : ℕ} {x y : Cell} (g : CellsOf s v a x y) where
  -- what both cells hold
  own_value : RunsTerm s v g.given.at.both.value
  own_value = g.given.at.both.holds_value

  own_type : RunsType s a g.given.at.both.type
  own_type = g.given.at.both.holds_type

  -- the same of whatever they hold
  is_single : {e : Term} → RunsTerm s v e → NoMerge e
  is_single h = rw (held_one (holds_term h) (holds_term own_value)) g.given.single

  not_top : {A B : Ty} → RunsType s a A → A ≡ B → ¬ TopLike B
  not_top k e = rw (← e) (is_proper g.given.at k)

  pub casts_number : y.kind ≡ 1 → Castable s v a (eqb x.kind 17)
  unfolding cast_int
  casts_number = rw (g.value, g.type) λ k. record {
    says = λ e A h w.
        rw (int_at (holds_type w) k, single_int e (is_single h))
        (by_cases (ℕ_discrete (cell_at s v).kind 17) (λ n. rw (lit_at (holds_term h) n, n) refl) (λ n. rw (no_number (holds_term h) n) (ne_eqb _ _ n)));
  }

  -- a function under a function type asks the inputs, then the outputs
  function_asks : {e : Term} {A : Ty} → RunsType s a A → (t : TwoTypes s a arrow A) (u : FunctionAt s v e) →
      is_some (cast A e) ≡ (is_below t.first u.input && is_below u.output t.second)
  function_asks w t u =
      ap₂ (λ B g. is_some (cast B g)) t.is u.is
      ∙ function_reads t.first t.second u.input u.output u.body (not_top w t.is)

  pub inputs : y.kind ≡ 3 → x.kind ≡ 21 → TypesAt s y.a x.b
  inputs = rw (g.value, g.type) λ k n.
      let t = arrow_at own_type k in
      let u = lam_at own_value n in
      record { first = t.first; second = u.input; holds_first = holds_type t.holds_first; holds_second = holds_type u.holds_input }

  pub outputs : y.kind ≡ 3 → x.kind ≡ 21 → TypesAt s x.c y.b
  outputs = rw (g.value, g.type) λ k n.
      let t = arrow_at own_type k in
      let u = lam_at own_value n in
      record { first = u.output; second = t.second; holds_first = holds_type u.holds_output; holds_second = holds_type t.holds_second }

  pub casts_function : {q r : Bool} → y.kind ≡ 3 → x.kind ≡ 21 → TypesSay s y.a x.b is_below q → q ≡ true →
      TypesSay s x.c y.b is_below r → Castable s v a r
  casts_function = rw (g.value, g.type) λ k n f m g. record {
    says = λ e A h w.
        let t = arrow_at w k in
        let u = lam_at h n in
        and_both (function_asks w t u) (f.says _ _ (holds_type t.holds_first) (holds_type u.holds_input)) m (g.says _ _ (holds_type u.holds_output) (holds_type t.holds_second));
  }

  pub casts_not_input : {q : Bool} → y.kind ≡ 3 → x.kind ≡ 21 → TypesSay s y.a x.b is_below q → q ≡ false → Castable s v a false
  casts_not_input = rw (g.value, g.type) λ k n f m. record {
    says = λ e A h w.
        let t = arrow_at w k in
        let u = lam_at h n in
        and_fails _ (function_asks w t u) (f.says _ _ (holds_type t.holds_first) (holds_type u.holds_input)) m;
  }

  pub casts_no_function : y.kind ≡ 3 → (x.kind ≡ 21 → ⊥) → Castable s v a false
  casts_no_function = rw (g.value, g.type) λ k n. record {
    says = λ e A h w.
        let t = arrow_at w k in
        rw (
          t.is,
          single_arrow t.first t.second e (not_top w t.is) (is_single h),
          no_function (holds_term h) t.first t.second n,
        )
        refl;
  }

  module _ (not_int : y.kind ≡ 1 → ⊥) (not_arrow : y.kind ≡ 3 → ⊥) where
    field_kind : (cell_at s a).kind ≡ 5
    field_kind = field_left (holds_type own_type) g.given.at.ordinary g.given.at.proper (rw g.type at not_int) (rw g.type at not_arrow)

    -- a record under a record type asks the labels, then the contents
    record_asks : {e : Term} {A : Ty} → RunsType s a A → (t : OneType s a A) (u : OneTerm s v rcd e) →
        is_some (cast A e) ≡ (eqb (cell_at s a).label (cell_at s v).label && is_some (cast t.content u.term))
    record_asks w t u =
        ap₂ (λ B g. is_some (cast B g)) t.is u.is
        ∙ record_reads (cell_at s a).label (cell_at s v).label t.content u.term (not_top w t.is)

    pub contents : x.kind ≡ 24 → Contents s v a x.a y.a
    contents = rw (g.value, g.type) λ n.
        let t = field_at own_type field_kind in
        let u = rcd_at own_value n in
        record {
          both = record { value = u.term; type = t.content; holds_value = u.holds; holds_type = t.holds };
          value_smaller = record_smaller own_value u.is u.holds;
          type_smaller = field_smaller own_type t.is t.holds;
        }

    pub casts_record : {r : Bool} → x.kind ≡ 24 → x.label ≡ y.label → Castable s x.a y.a r → Castable s v a r
    casts_record = rw (g.value, g.type) λ n l f. record {
      says = λ e A h w.
          let t = field_at w field_kind in
          let u = rcd_at h n in
          and_both (record_asks w t u) (sym (eq-eqb _ _ (sym l))) refl (f.says _ _ u.holds t.holds);
    }

    pub casts_not_label : x.kind ≡ 24 → (x.label ≡ y.label → ⊥) → Castable s v a false
    casts_not_label = rw (g.value, g.type) λ n l. record {
      says = λ e A h w.
          let t = field_at w field_kind in
          let u = rcd_at h n in
          and_fails _ (record_asks w t u) (sym (ne_eqb _ _ (λ q. l (sym q)))) refl;
    }

    pub casts_no_record : (x.kind ≡ 24 → ⊥) → Castable s v a false
    casts_no_record = rw g.value λ n. record {
      says = λ e A h w.
          let t = field_at w field_kind in
          rw (
            t.is,
            single_field _ t.content e (not_top w t.is) (is_single h),
            no_record (holds_term h) _ (cast t.content) n,
          )
          refl;
    }
