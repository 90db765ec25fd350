-- What the emission of a reading needs and leaves, call by call. Assumes nothing.
use Prim.Native.Nat.{ℕ, ◌+◌, ◌*◌, ◌≤◌, ◌<◌}
use native.Mathlib.Numerals.{add-one}
use mathlib.Core.Path.{◌≡◌, refl, sym, ap, subst, ◌∙◌}
use mathlib.Core.Bool.{true}
use mathlib.Core.List.{List}
use lib.ListN.{length}
use mathlib.Core.Option.{some, some-injective}
use Rattle.std.specs.Prelude.{Option, Some, None}
use Rattle.calculus.specs.Syntax.{Ty, arrow}
use Rattle.calculus.specs.Syntax.{Term, unit, lam, merge, rcd}
use Rattle.calculus.specs.Subtyping.{TopLike}
use Rattle.calculus.specs.Evaluate.{cast}
use Rattle.calculus.proofs.Decisions.{is_top_like_says, not_top_like_lem}
use Rattle.calculus.proofs.Tests.{cast_top}
use Rattle.format.specs.Cell.{IsBytes, Cell, cell_at}
use Rattle.format.specs.Table.{type_sort, refers}
use Rattle.format.specs.Tree.{Tree, raw, node, kind_in}
use Rattle.format.specs.Terms.{from_type, from_term_in, from_term}
use Rattle.format.proofs.Tests.{number_2}
use Rattle.emission.proofs.Emitting.{fields_fit}
use Rattle.cells.specs.Held.{HoldsTerm}
use Rattle.cells.proofs.Held.{top_like, not_top_like, kind_of_held, int_at, held_within}
use Rattle.emission.specs.Emits.{Space, Emits, LastReady, Finishes}
use Rattle.emission.specs.Runs.{Run, RunsType, RunsTerm}
use Rattle.emission.specs.Copies.{RunReady, EmitsRun, EndReady, EmitsEnd}
use Rattle.emission.proofs.Copies.{run_ready, run_emits}
use Rattle.emission.proofs.Compose.{emits_leaf}
use Rattle.emission.proofs.Chain.{of_none, of_type, of_term, Each, Chain}
use Rattle.emission.proofs.Runs.{holds_type, holds_term}
use Rattle.emission.proofs.RunParts.{lam_at, arrow_at, inter_at, field_at, arrow_second, lam_second}
use Rattle.typed_reduction.specs.Casting.{ProperAt, NoMerge, PartBy, PartOf, CastReady, PartReady, EmitsCast, FunctionReady, EmitsFunction}
use Rattle.typed_reduction.proofs.Sizes.{size_at, field_smaller}
use Rattle.typed_reduction.proofs.Deciding.{ordinary_at, halves, is_proper, field_left}
use Rattle.typed_reduction.proofs.Parts.{different}
use Rattle.typed_reduction.proofs.Casts.{BothRead, both_read, number_read, function_read, record_read}

-- A function with the output type of a function type.

-- t is the function's cell, y the type's
pub record Started (s d : List ℕ) (p a m : ℕ) (t y : Cell) : Type 0 where
  pub function : t ≡ cell_at s p
  pub type : y ≡ cell_at s a
  pub bytes : IsBytes s
  pub ready : FunctionReady s d p a m

-- the runs of the function's parts
record FunctionRuns (s : List ℕ) (t : Cell) (e : Term) (A : Ty) : Type 0 where
  body : RunsTerm s t.a e
  input : Run true s (t.a + 1) (refers type_sort) t.b (from_type A) (t.b + 1)

lam_kind : {s : List ℕ} {p : ℕ} {e : Term} {A B : Ty} → HoldsTerm s p (lam e A B) → (cell_at s p).kind ≡ 21
unfolding from_term_in kind_in
lam_kind h = kind_of_held h

function_parts : {s : List ℕ} {p : ℕ} {t : Cell} {e : Term} {A B : Ty} → t ≡ cell_at s p → RunsTerm s p (lam e A B) → FunctionRuns s t e A
function_parts {e = e} q r =
    let w = lam_at r (lam_kind (holds_term r)) in
    let eb : e ≡ w.body = cc w.is in
    record { body = rw (q, eb) w.holds_body; input = rw (q, add-one, add-one) (lam_second r) }

output_part : {s : List ℕ} {a : ℕ} {y : Cell} {C D : Ty} → y ≡ cell_at s a → RunsType s a (arrow C D)
    → Run true s (y.a + 1) (refers type_sort) y.b (from_type D) (y.b + 1)
output_part q r = rw (q, add-one, add-one) (arrow_second r)

-- all that the cells p and a may be said to hold: a function and a function type
abbrev pub Functions : List ℕ → ℕ → ℕ → Type 0
Functions s p a = (e : Term) × (A : Ty) × (B : Ty) × (C : Ty) × (D : Ty) × RunsTerm s p (lam e A B) × RunsType s a (arrow C D)

pub functions : {s d o : List ℕ} {p a m : ℕ} {r : Option ℕ} → Each {W = Functions s p a} (λ w. from_term (lam w.0 w.1 w.4)) d o m r
    → EmitsFunction s d o p a m r
functions q = record { says = λ e A B C D h k. q (e, A, B, C, D, h, k) }

pub lam_tree : (e : Term) (A B : Ty) → from_term (lam e A B) ≡ node 21 0 (from_term e) (from_type A) (from_type B)
unfolding from_term_in
lam_tree e A B = refl

module _ {s d : List ℕ} {p a m : ℕ} {t y : Cell} (g : Started s d p a m t y) where
  abbrev pub function_chain : Chain (Functions s p a) (λ w. from_term (lam w.0 w.1 w.4)) d m
  function_chain =
      let r = g.ready in
      record {
        space = r.space;
        own = (r.body, r.input, r.output, r.first, r.second, r.holds_function, r.holds_type);
        kind = 21;
        label = 0;
        a = of_term (λ w. w.0);
        b = of_type (λ w. w.1);
        c = of_type (λ w. w.4);
        is = λ w. lam_tree w.0 w.1 w.4;
      }

  pub cells_fit : (t.a < 65536) × (t.b < 65536) × (y.a < 65536) × (y.b < 65536)
  cells_fit = let f = fields_fit s p g.bytes g.function in let h = fields_fit s a g.bytes g.type in (f.0, f.1, h.0, h.1)

  -- what each call needs, and says
  pub body_ready : EndReady s d t.a m
  body_ready = run_ready (function_parts g.function g.ready.holds_function).body.run g.ready.space

  pub body_each : {e : List ℕ} {r : Option ℕ} → EmitsEnd s d e t.a m r → Each function_chain.a.tree d e m r
  body_each q w = run_emits (function_parts g.function w.5).body.run q

  module _ {f : List ℕ} {x : ℕ} where
    type_run : {i n : ℕ} {o : Tree} → Run true s i (refers type_sort) n o (n + 1) → Space f x → RunReady s f i (n + 1) x
    type_run {n = n} r h = record { space = h; marked = true; sort = type_sort; last = n; tree = _; run = r }

    pub input_ready : Space f x → RunReady s f (t.a + 1) (t.b + 1) x
    input_ready = type_run (function_parts g.function g.ready.holds_function).input

    pub input_each : {e : List ℕ} {r : Option ℕ} → EmitsRun s f e (t.a + 1) (t.b + 1) x r → Each function_chain.b.tree f e x r
    input_each q w = q.says true type_sort t.b _ (function_parts g.function w.5).input

    pub output_ready : Space f x → RunReady s f (y.a + 1) (y.b + 1) x
    output_ready = type_run (output_part g.type g.ready.holds_type)

    pub output_each : {e : List ℕ} {r : Option ℕ} → EmitsRun s f e (y.a + 1) (y.b + 1) x r → Each function_chain.c.tree f e x r
    output_each q w = q.says true type_sort y.b _ (output_part g.type w.6)

-- All that the cells v and a may be said to hold: a value, its reading, and the type that it is read under.

abbrev pub AllCasts : List ℕ → ℕ → ℕ → Type 0
AllCasts s v a = (e : Term) × (x : Term) × (A : Ty) × RunsTerm s v e × RunsType s a A × (cast A e ≡ some x)

pub all_casts : {s d o : List ℕ} {v a m : ℕ} {r : Option ℕ} → Each {W = AllCasts s v a} (λ w. from_term w.1) d o m r → EmitsCast s d o v a m r
all_casts q = record { says = λ e x A h k c. q (e, x, A, h, k, c) }

abbrev pub own_cast : {s d : List ℕ} {v a m : ℕ} → CastReady s d v a m → AllCasts s v a
own_cast g = (g.both.value, g.reduct, g.both.type, g.both.holds_value, g.both.holds_type, g.casts)

-- A reading under an intersection.

-- a value's reading x under an intersection is a merge of its readings under the types at p and q
pub record HalvesRead (s : List ℕ) (p q : ℕ) (e x : Term) : Type 0 where
  pub first_type : Ty
  pub second_type : Ty
  pub read : BothRead first_type second_type e x
  pub holds_first : RunsType s p first_type
  pub holds_second : RunsType s q second_type

halves_read : {s : List ℕ} {a : ℕ} {y : Cell} {A : Ty} {e x : Term} → y ≡ cell_at s a → y.kind ≡ 4 → RunsType s a A → cast A e ≡ some x →
    HalvesRead s y.a y.b e x
halves_read {e = e} {x = x} is = rw is λ k h c.
    let p = inter_at h k in
    record {
      first_type = p.first;
      second_type = p.second;
      read = both_read p.first p.second e x (rw p.is at c);
      holds_first = p.holds_first;
      holds_second = p.holds_second;
    }

-- y is the type's cell
pub record Split (s d : List ℕ) (v a m : ℕ) (y : Cell) : Type 0 where
  pub is : y ≡ cell_at s a
  pub kind : y.kind ≡ 4
  pub ready : CastReady s d v a m

pub merge_tree : (e f : Term) → from_term (merge e f) ≡ node 22 0 (from_term e) (from_term f) (raw 0)
unfolding from_term_in
merge_tree e f = refl

module _ {s d : List ℕ} {v a m : ℕ} {y : Cell} (g : Split s d v a m y) where
  pub parts : (w : AllCasts s v a) → HalvesRead s y.a y.b w.0 w.1
  parts w = halves_read g.is g.kind w.4 w.5

  abbrev pub merge_chain : Chain (AllCasts s v a) (λ w. from_term w.1) d m
  merge_chain =
      record {
        space = g.ready.space;
        own = own_cast g.ready;
        kind = 22;
        label = 0;
        a = of_term (λ w. (parts w).read.first);
        b = of_term (λ w. (parts w).read.second);
        c = of_none;
        is = λ w. ap from_term (parts w).read.is ∙ merge_tree (parts w).read.first (parts w).read.second;
      }

  pub smaller : (size_at s y.a < size_at s a) × (size_at s y.b < size_at s a)
  smaller = (halves g.is v g.ready.both g.kind).smaller

  own : HalvesRead s y.a y.b g.ready.both.value g.ready.reduct
  own = parts (own_cast g.ready)

  -- the value under a half
  half : {i n : ℕ} {o : List ℕ} {B : Ty} {x : Term} → RunsType s i B → cast B g.ready.both.value ≡ some x → Space o n → CastReady s o v i n
  half {B = B} {x = x} h c w = record {
    space = w;
    both = record { value = g.ready.both.value; type = B; holds_value = g.ready.both.holds_value; holds_type = h };
    reduct = x;
    casts = c;
  }

  module _ {f : List ℕ} {n : ℕ} where
    pub first_ready : Space f n → CastReady s f v y.a n
    first_ready = half own.holds_first own.read.casts_first

    pub first_each : {o : List ℕ} {r : Option ℕ} → EmitsCast s f o v y.a n r → Each merge_chain.a.tree f o n r
    first_each q w = q.says _ _ _ w.3 (parts w).holds_first (parts w).read.casts_first

    pub second_ready : Space f n → CastReady s f v y.b n
    second_ready = half own.holds_second own.read.casts_second

    pub second_each : {o : List ℕ} {r : Option ℕ} → EmitsCast s f o v y.b n r → Each merge_chain.b.tree f o n r
    second_each q w = q.says _ _ _ w.3 (parts w).holds_second (parts w).read.casts_second

-- A reading under a top_like type that is no intersection.

module _ {s d : List ℕ} {v a m : ℕ} {y : Cell} (is : y ≡ cell_at s a) (g : CastReady s d v a m) where
  pub emits_top : {o : List ℕ} {u : Option ℕ} → (y.kind ≡ 4 → ⊥) → y.c ≡ 1 → Emits d o m u (from_term unit) → EmitsCast s d o v a m u
  emits_top n t l = record {
    says = λ e x A h k c.
        let w = cast_top A e (ordinary_at (holds_type k) (rw is at n)) ((is_top_like_says A).0 (top_like (holds_type k) y is t)) in
        rw (some-injective _ _ (sym c ∙ w)) l;
  }

  pub part_ready : (y.kind ≡ 4 → ⊥) → (y.c ≡ 1 → ⊥) → PartReady s d v a m
  part_ready n t = record {
    ready = g;
    ordinary = ordinary_at (holds_type g.both.holds_type) (rw is at n);
    proper = not_top_like_lem g.both.type (not_top_like (holds_type g.both.holds_type) y is t);
  }

-- A reading by a part.

pub proper_at : {s d : List ℕ} {v a m : ℕ} → PartReady s d v a m → ProperAt s v a
proper_at g = record { both = g.ready.both; ordinary = g.ordinary; proper = g.proper }

pub no_part : {s d o : List ℕ} {v a m : ℕ} {r : Option ℕ} {u : Option ℕ} → PartOf s v a r → r ≡ None → EmitsCast s d o v a m u
no_part f t = record { says = λ e x A h k c. absurd (different (f.says e x A h k c).2 t) }

-- the part at p reads x under A
pub record ReadBy (s : List ℕ) (p : ℕ) (A : Ty) (x : Term) : Type 0 where
  pub term : Term
  pub holds : RunsTerm s p term
  pub casts : cast A term ≡ some x
  pub single : NoMerge term

at_same : {p q : ℕ} {r : Option ℕ} → r ≡ Some p → r ≡ Some q → p ≡ q
at_same e f = cc

pub read_by : {s : List ℕ} {p : ℕ} {r : Option ℕ} {A : Ty} {x : Term} → r ≡ Some p → PartBy s A r (some x) → ReadBy s p A x
read_by t w = record { term = w.1; holds = rw (at_same t w.2) w.3; casts = w.4; single = w.5 }

under : {s : List ℕ} {p : ℕ} {A B : Ty} {x : Term} (w : ReadBy s p A x) → A ≡ B → cast B w.term ≡ some x
under w e = sym (ap (λ C. cast C w.term) e) ∙ w.casts

-- x is the function at p with the output type of the function type at a
pub record FunctionPart (s : List ℕ) (p a : ℕ) (x : Term) : Type 0 where
  pub body : Term
  pub input : Ty
  pub output : Ty
  pub first : Ty
  pub second : Ty
  pub holds : RunsTerm s p (lam body input output)
  pub holds_type : RunsType s a (arrow first second)
  pub is : x ≡ lam body input second

-- x is the record of label l whose content is the value at i, read under the type at j
pub record RecordPart (s : List ℕ) (i j l : ℕ) (x : Term) : Type 0 where
  pub value : Term
  pub type : Ty
  pub content : Term
  pub holds_value : RunsTerm s i value
  pub holds_type : RunsType s j type
  pub casts : cast type value ≡ some content
  pub is : x ≡ rcd l content

pub rcd_tree : (l : ℕ) (e : Term) → from_term (rcd l e) ≡ node 24 l (from_term e) (raw 0) (raw 0)
unfolding from_term_in
rcd_tree l e = refl

-- y is the type's cell, p the part that was found
pub record Found (s d : List ℕ) (v a m : ℕ) (p : ℕ) (y : Cell) : Type 0 where
  pub bytes : IsBytes s
  pub ready : PartReady s d v a m
  pub answer : Option ℕ
  pub finds : PartOf s v a answer
  pub at : answer ≡ Some p
  pub is : y ≡ cell_at s a

module _ {s d : List ℕ} {v a m p : ℕ} {y : Cell} (g : Found s d v a m p y) where
  by_part : {A : Ty} {e x : Term} → RunsTerm s v e → RunsType s a A → cast A e ≡ some x → ReadBy s p A x
  by_part h k c = read_by g.at (g.finds.says _ _ _ h k c)

  own_part : ReadBy s p g.ready.ready.both.type g.ready.ready.reduct
  own_part = by_part g.ready.ready.both.holds_value g.ready.ready.both.holds_type g.ready.ready.casts

  pub part_within : 8 * p + 8 ≤ length s
  part_within = held_within (holds_term own_part.holds)

  still_proper : {A B : Ty} → RunsType s a A → A ≡ B → ¬ TopLike B
  still_proper k e = rw (← e) (is_proper (proper_at g.ready) k)

  -- a number; t is its cell
  module _ {t : Cell} (at : t ≡ cell_at s p) where
    pub number_last : LastReady d (record { kind = 17; label = 0; a = t.a; b = t.b; c = t.c })
    number_last =
        let f = fields_fit s p g.bytes at in
        record { long = g.ready.ready.space.long; fits = record { a = f.0; b = f.1; c = f.2 } }

    pub emits_number : {o : List ℕ} {u : Option ℕ} → y.kind ≡ 1 → Finishes d o m (record { kind = 17; label = 0; a = t.a; b = t.b; c = t.c }) u
        → EmitsCast s d o v a m u
    emits_number i q =
        record {
          says = λ e x A h k c.
              let w = by_part h k c in
              let f = fields_fit s p g.bytes at in
              rw (number_read w.holds w.single (under w (int_at (holds_type k) (rw g.is at i))), ← at, number_2 t.a t.b t.c f.0 f.1 f.2)
              (emits_leaf g.ready.ready.space.used q);
        }

  -- a function
  function_part : {A : Ty} {e x : Term} → RunsTerm s v e → RunsType s a A → cast A e ≡ some x → y.kind ≡ 3 → FunctionPart s p a x
  function_part h k c i =
      let w = by_part h k c in
      let t = arrow_at k (rw g.is at i) in
      let r = function_read w.holds w.single t.first t.second (still_proper k t.is) (under w t.is) in
      record {
        body = r.function.body;
        input = r.function.input;
        output = r.function.output;
        first = t.first;
        second = t.second;
        holds = r.holds;
        holds_type = subst (RunsType s a) t.is k;
        is = r.is;
      }

  pub function_ready : y.kind ≡ 3 → FunctionReady s d p a m
  function_ready i =
      let w = function_part g.ready.ready.both.holds_value g.ready.ready.both.holds_type g.ready.ready.casts i in
      record {
        space = g.ready.ready.space;
        body = w.body;
        input = w.input;
        output = w.output;
        first = w.first;
        second = w.second;
        holds_function = w.holds;
        holds_type = w.holds_type;
      }

  pub emits_arrow : {o : List ℕ} {u : Option ℕ} → y.kind ≡ 3 → EmitsFunction s d o p a m u → EmitsCast s d o v a m u
  emits_arrow i q = record {
    says = λ e x A h k c.
        let w = function_part h k c i in
        rw w.is (q.says w.body w.input w.output w.first w.second w.holds w.holds_type);
  }

-- the part is a record; t is its cell
pub record Recorded (s d : List ℕ) (v a m p : ℕ) (y t : Cell) : Type 0 where
  pub found : Found s d v a m p y
  pub cell : t ≡ cell_at s p
  pub not_int : y.kind ≡ 1 → ⊥
  pub not_arrow : y.kind ≡ 3 → ⊥

module _ {s d : List ℕ} {v a m p : ℕ} {y t : Cell} (g : Recorded s d v a m p y t) where
  is_field : (cell_at s a).kind ≡ 5
  is_field =
      let f = g.found in
      field_left (holds_type f.ready.ready.both.holds_type) f.ready.ordinary f.ready.proper (rw f.is at g.not_int)
      (rw f.is at g.not_arrow)

  pub record_part : (w : AllCasts s v a) → RecordPart s t.a y.a t.label w.1
  record_part w = rw (g.found.is, g.cell)
      (let h = by_part g.found w.3 w.4 w.5 in
      let f = field_at w.4 is_field in
      let r = record_read h.holds h.single _ f.content (still_proper g.found w.4 f.is) (under h f.is) in
      record {
        value = r.held.term;
        type = f.content;
        content = r.content;
        holds_value = r.held.holds;
        holds_type = f.holds;
        casts = r.casts;
        is = r.is;
      })

  abbrev pub record_chain : Chain (AllCasts s v a) (λ w. from_term w.1) d m
  record_chain =
      record {
        space = g.found.ready.ready.space;
        own = own_cast g.found.ready.ready;
        kind = 24;
        label = t.label;
        a = of_term (λ w. (record_part w).content);
        b = of_none;
        c = of_none;
        is = λ w. ap from_term (record_part w).is ∙ rcd_tree t.label (record_part w).content;
      }

  own_record : RecordPart s t.a y.a t.label g.found.ready.ready.reduct
  own_record = record_part (own_cast g.found.ready.ready)

  pub content_smaller : size_at s y.a < size_at s a
  content_smaller = rw g.found.is (let h = g.found.ready.ready.both.holds_type in let f = field_at h is_field in field_smaller h f.is f.holds)

  pub content_ready : CastReady s d t.a y.a m
  content_ready = record {
    space = g.found.ready.ready.space;
    both = record {
      value = own_record.value;
      type = own_record.type;
      holds_value = own_record.holds_value;
      holds_type = own_record.holds_type;
    };
    reduct = own_record.content;
    casts = own_record.casts;
  }

  pub content_each : {o : List ℕ} {r : Option ℕ} → EmitsCast s d o t.a y.a m r → Each record_chain.a.tree d o m r
  content_each q w =
      let p = record_part w in q.says p.value p.content p.type p.holds_value p.holds_type p.casts
