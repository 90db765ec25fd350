-- An annotated value that has its reading in place: under a top_like type that is no intersection, a number under Int, a function under a
-- function type. Assumes nothing.
use Prim.Native.Nat.{ℕ, suc, ◌+◌, ◌*◌, ◌-◌, ◌≤◌, ◌<◌}
use native.Mathlib.Omega.{arith}
use mathlib.Core.Path.{◌≡◌, refl, sym, ap, ◌∙◌, subst}
use mathlib.Core.Bool.{true, false, ◌&&◌}
use mathlib.Core.List.{List}
use mathlib.Core.Option.{some, some-injective}
use lib.ListN.{length}
use lib.Seq.{sets}
use Rattle.calculus.specs.Syntax.{Ty, int, arrow, size_type}
use Rattle.calculus.specs.Syntax.{Term, lit, unit, anno, lam, size}
use Rattle.calculus.specs.Decide.{is_value, is_top_like, is_below}
use Rattle.calculus.specs.Evaluate.{next, cast, first_part, cast_int, cast_arrow}
use Rattle.calculus.proofs.Decisions.{is_top_like_says, not_top_like_lem}
use Rattle.calculus.proofs.Tests.{cast_top, cast_arrow_lem}
use Rattle.format.specs.Table.{type_sort, term_sort, refers, row_for, row_in, table}
use Rattle.format.specs.Cell.{Cell, cell_at, cell_bytes}
use Rattle.format.specs.Terms.{from_type, from_term_in, from_term}
use Rattle.cells.specs.Held.{HoldsType}
use Rattle.cells.proofs.Held.{top_like, not_top_like, int_at, arrow_at}
use Rattle.emission.specs.Runs.{Run, r_refers}
use Rattle.emission.proofs.Runs.{nothing, last, ends, run_within, whole, at_run, kept_run, run_type}
use Rattle.emission.proofs.RunParts.{fields, behind}
use Rattle.moving.specs.Moves.{Kept, Wrote, ShiftReady, Shifts}
use Rattle.moving.proofs.Runs.{shift_ready, run_shifted}
use Rattle.typed_reduction.proofs.Deciding.{ordinary_at}
use Rattle.typed_reduction.proofs.Casts.{when_some}
use Rattle.reduction.proofs.Nexts.{anno_reads}
use Rattle.running.specs.Places.{RedexParts, of_anno, Standing, done_at, Becomes, OnlyBecomes, RedexAt, TopAt, FunctionAt}
use Rattle.running.specs.declared.Place.{Place}
use Rattle.running.specs.declared.Focus.TheVariants.{Redex}
use Rattle.running.proofs.Going.{wrote_run}
use Rattle.running.proofs.Entering.{Kind, k_lit, k_anno, k_lam, term_kind}
use Rattle.running.proofs.Ranges.{RedexRange, redex_range, stored, kind_at, kind_not}
use Rattle.running.proofs.Projecting.{redex_kind, Reduct, reduct_of, becomes, unchanged}

-- the annotated value, and its type
pub record Annotated (w : List ℕ) (p : Place) (f : Term) (a b : ℕ) : Type 0 where
  pub value : Term
  pub type : Ty
  pub is : f ≡ anno value type
  pub final : is_value value ≡ true
  pub run : Run true w p.start (refers term_sort) a (from_term value) p.left
  pub under : Run true w p.right (refers type_sort) b (from_type type) p.root

annotated_of : {w : List ℕ} (p : Place) {f : Term} (t : Cell) → Kind 19 f → RedexParts w p f → t ≡ cell_at w p.root → Annotated w p f t.a t.b
annotated_of p t k_anno (of_anno {v = v} {A = A} c f r u) e =
    let a : t.a ≡ _ = ap (λ (c : Cell). c.a) (e ∙ c.is) in
    let b : t.b ≡ _ = ap (λ (c : Cell). c.b) (e ∙ c.is) in
    record { value = v; type = A; is = refl; final = f; run = at_run refl (sym a) refl r; under = at_run refl (sym b) refl u }

module _ {w : List ℕ} (p : Place) (t : Cell) (d : RedexAt w p t 19) where
  pub annotated : {e : Term} (s : Standing w (Redex p) e) → Annotated w p s.focus t.a t.b
  annotated s = annotated_of p t (redex_kind s.at.parts (kind_at d.cell d.kind)) s.at.parts d.cell

  held_type : {e : Term} (s : Standing w (Redex p) e) → HoldsType w t.b (annotated s).type
  held_type s = run_type (annotated s).type (annotated s).under

  pub value_in : 8 * t.a + 8 ≤ length w
  value_in = run_within (annotated d.ready.standing).run

  pub type_in : 8 * t.b + 8 ≤ length w
  type_in = run_within (annotated d.ready.standing).under

  cast_is : (half : ℕ) {e : Term} (s : Standing w (Redex p) e) {h : Term} → next half s.focus ≡ some h → cast (annotated s).type (annotated s).value ≡ some h
  cast_is half s n = let q = annotated s in anno_reads half q.value q.type q.final (sym (ap (next half) q.is) ∙ n)

-- ---- the top value

pub top_only : (half : ℕ) {w : List ℕ} {p : Place} {t y : Cell} → TopAt w p t y → OnlyBecomes half w p unit
top_only half {w} {p} {t} {y} d = λ e s _. becomes_top e s
  where
    becomes_top : (e : Term) (s : Standing w (Redex p) e) (h : Term) → next half s.focus ≡ some h → unit ≡ h
    becomes_top e s h n =
        let q = annotated p t d.at s in
        let u = held_type p t d.at s in
        let c = cast_top q.type q.value (ordinary_at u (kind_not d.type d.no_intersection)) ((is_top_like_says q.type).0 (top_like u y d.type d.top_like)) in
        some-injective unit h (sym c ∙ cast_is p t d.at half s n)

-- ---- a number

number_read : {v : Term} (h : Term) → Kind 17 v → cast int v ≡ some h → v ≡ h
unfolding cast first_part cast_int
number_read h (k_lit {z}) c = some-injective (lit z) h c

-- a number annotated with Int
pub casts_number : {half : ℕ} {w : List ℕ} {p : Place} {t v y : Cell} → RedexAt w p t 19 → v ≡ cell_at w t.a → y ≡ cell_at w t.b → v.kind ≡ 17 → y.kind ≡ 1 →
    Becomes half w w p (done_at p p.left)
unfolding size
casts_number {half} {w} {p} {t} d i o x y = becomes p (unchanged p) (omega (arith, r.apart, r.right)) (λ e s _. content e s)
  where
    r : RedexRange p
    r = redex_range d.ready.standing.at

    content : (e : Term) (s : Standing w (Redex p) e) (h : Term) → next half s.focus ≡ some h → Reduct w p.start p.left (size s.focus) h
    content e s h n =
        let q = annotated p t d s in
        let k = term_kind q.value q.run (kind_at i x) in
        let l = int_at (held_type p t d s) (kind_at o y) in
        let u : q.value ≡ h = number_read h k (sym (ap (λ (A : Ty). cast A q.value) l) ∙ cast_is p t d half s n) in
        reduct_of q.is u (record { final = q.final; run = at_run refl (omega (arith, ends q.run)) refl q.run; small = omega arith })

-- ---- a function

-- a function's cell, its three runs, and those of a function type: where the parts begin
pub record Retyped (w : List ℕ) (p : Place) (f : Term) (v y : Cell) : Type 0 where
  pub body : Term
  pub input : Ty
  pub output : Ty
  pub first : Ty
  pub second : Ty
  pub is : f ≡ anno (lam body input output) (arrow first second)
  pub body_run : Run true w p.start (refers term_sort) v.a (from_term body) (suc v.a)
  pub input_run : Run true w (suc v.a) (refers type_sort) v.b (from_type input) (suc v.b)
  pub output_low : v.b + 1 < p.left
  pub second_run : Run true w (suc y.a) (refers type_sort) y.b (from_type second) (suc y.b)
  pub second_low : p.right ≤ y.a
  pub second_high : y.b + 2 ≡ p.root

function_of : {v : Term} → Kind 21 v → (b : Term) × (C : Ty) × (D : Ty) × (v ≡ lam b C D)
function_of (k_lam {e = b} {A = C} {B = D}) = (b, C, D, refl)

-- its parts, from the runs of both
lam_runs : {w : List ℕ} {start left a : ℕ} (b : Term) (C D : Ty) (v : Cell) → v ≡ cell_at w a → Run true w start (refers term_sort) a (from_term (lam b C D)) left →
    Run true w start (refers term_sort) v.a (from_term b) (suc v.a) × Run true w (suc v.a) (refers type_sort) v.b (from_type C) (suc v.b) × (v.b + 1 < left)
unfolding from_term_in table row_in row_for
lam_runs b C D v e r =
    let q = fields r refl in
    rw e (whole q.first, behind q.first q.second, omega (arith, ends q.second, last q.third, ends q.third, ends r))

arrow_runs : {w : List ℕ} {start root b : ℕ} (E F : Ty) (y : Cell) → y ≡ cell_at w b → Run true w start (refers type_sort) b (from_type (arrow E F)) root →
    Run true w (suc y.a) (refers type_sort) y.b (from_type F) (suc y.b) × (start ≤ y.a) × (y.b + 2 ≡ root)
unfolding from_type table row_in row_for
arrow_runs E F y e r =
    let q = fields r refl in
    rw e (behind q.first q.second, last q.first, omega (arith, ends q.second, nothing q.third, ends r))

-- where everything lies
pub record Places (p : Place) (v y : Cell) : Type 0 where
  pub low : v.b + 1 < p.left
  pub left : p.left < p.right
  pub right : p.right ≤ y.a
  pub some : y.a < y.b
  pub high : y.b + 2 ≡ p.root
  pub root : p.root < 8192
  pub start : p.start ≤ v.b
  pub inner : v.a ≤ v.b

-- the reading of a function
function_read : (b : Term) (C D E F : Ty) (h : Term) → is_top_like F ≡ false → cast (arrow E F) (lam b C D) ≡ some h → lam b C F ≡ h
unfolding first_part cast_arrow
function_read b C D E F h e c = sym (when_some (is_below E C && is_below D F) (sym (cast_arrow_lem E F (lam b C D) (not_top_like_lem F e)) ∙ c))

module _ {w : List ℕ} (p : Place) (t v y : Cell) (d : FunctionAt w p t v y) where
  pub retyped : {e : Term} (s : Standing w (Redex p) e) → Retyped w p s.focus v y
  retyped s =
      let q = annotated p t d.at s in
      let f = function_of (term_kind q.value q.run (kind_at d.value d.function)) in
      let g = arrow_at (held_type p t d.at s) (kind_at d.type d.arrow) in
      let m = lam_runs f.0 f.1 f.2 v d.value (subst (λ (x : Term). Run true w p.start (refers term_sort) t.a (from_term x) p.left) f.3 q.run) in
      let n = arrow_runs g.first g.second y d.type (subst (λ (x : Ty). Run true w p.right (refers type_sort) t.b (from_type x) p.root) g.is q.under) in
      record {
        body = f.0;
        input = f.1;
        output = f.2;
        first = g.first;
        second = g.second;
        is = q.is ∙ ap (λ (x : Term). anno x q.type) f.3 ∙ ap (anno (lam f.0 f.1 f.2)) g.is;
        body_run = m.0;
        input_run = m.1;
        output_low = m.2;
        second_run = n.0;
        second_low = n.1;
        second_high = n.2;
      }

  abbrev here : Retyped w p d.at.ready.standing.focus v y
  here = retyped d.at.ready.standing

  pub places : Places p v y
  places =
      let q = here in
      let r = redex_range d.at.ready.standing.at in
      record {
        low = q.output_low;
        left = r.apart;
        right = q.second_low;
        some = omega (arith, last q.second_run);
        high = q.second_high;
        root = r.root;
        start = omega (arith, last q.body_run, last q.input_run);
        inner = omega (arith, last q.input_run);
      }

  pub type_some : y.a < y.b
  type_some = places.some

  pub body_low : v.a < 8192
  body_low = omega (arith, places)

  pub ends_low : v.b + 1 + (y.b - y.a) < 8192
  ends_low = omega (arith, places)

  pub retype_within : {u : List ℕ} → Shifts w u (y.a + 1) (v.b + 1) (y.b - y.a) → 8 * (v.b + 1 + (y.b - y.a)) + 8 ≤ length u
  retype_within x = omega (arith, x.kept.long, d.at.ready.standing.long, places)

  pub retype_shift : ShiftReady w (y.a + 1) (v.b + 1) (y.b - y.a)
  retype_shift =
      let z = places in
      shift_ready (v.b + 1) d.at.ready.standing.long (omega (arith, z.some, z.high, z.root)) (omega (arith, z.low, z.left, z.right))
      (at_run (omega arith) refl (omega (arith, z.some)) here.second_run)

  module _ {u z : List ℕ} (x : Shifts w u (y.a + 1) (v.b + 1) (y.b - y.a))
      (written : z ≡ sets u (8 * (v.b + 1 + (y.b - y.a))) (cell_bytes (record { kind = 21; label = 0; a = v.a; b = v.b; c = v.b + 1 + (y.b - y.a) - 1 }))) where
    o : Wrote u z (v.b + 1 + (y.b - y.a))
    o = (stored _ (retype_within x) written).wrote

    long : length z ≡ length w
    long = o.long ∙ x.kept.long

    -- the cells before the output are as they were
    before : (i : ℕ) → i < v.b + 1 → cell_at z i ≡ cell_at w i
    before i h = o.others i (λ e. absurd (omega (arith, e, h))) ∙ x.kept.below i h

    kept : Kept w z p.start (suc p.root)
    kept =
        let l = places in
        record {
          long = long;
          below = λ i h. before i (omega (arith, h, l.start));
          above = λ i h. o.others i (λ e. absurd (omega (arith, e, h, l.low, l.left, l.right, l.some, l.high)))
              ∙ x.kept.above i (omega (arith, h, l.some, l.high));
        }

    retyped_run : {e : Term} (s : Standing w (Redex p) e) (q : Retyped w p s.focus v y) →
        Run true z p.start (refers term_sort) (v.b + 1 + (y.b - y.a)) (from_term (lam q.body q.input q.second)) (suc (v.b + 1 + (y.b - y.a)))
    unfolding from_term_in table row_in row_for
    retyped_run s q =
        let l = places in
        let moved = run_shifted (at_run (omega arith) refl (omega (arith, l.some)) q.second_run) x in
        r_refers
        (stored _ (retype_within x) written).there
        refl
        refl
        (kept_run long (λ i a b. before i (omega (arith, b, last q.input_run))) q.body_run)
        (kept_run long (λ i a b. before i (omega arith)) q.input_run)
        (at_run (omega arith) (omega (arith, l.some)) refl (wrote_run o (omega arith) moved))
        refl
        (refl, tt)

    read_is : (half : ℕ) {e h : Term} (s : Standing w (Redex p) e) (q : Retyped w p s.focus v y) → next half s.focus ≡ some h → lam q.body q.input q.second ≡ h
    unfolding is_top_like is_value
    read_is half {e} {h} s q n =
        let a = annotated p t d.at s in
        let i = cast_is p t d.at half s n in
        let m = not_top_like (held_type p t d.at s) y d.type d.proper in
        let j : anno a.value a.type ≡ anno (lam q.body q.input q.output) (arrow q.first q.second) = sym a.is ∙ q.is in
        let f : a.value ≡ lam q.body q.input q.output = cc in
        let g : a.type ≡ arrow q.first q.second = cc in
        function_read q.body q.input q.output q.first q.second h (subst (λ (A : Ty). is_top_like A ≡ false) g m)
        (sym (ap (λ (A : Ty). cast A (lam q.body q.input q.output)) g) ∙ sym (ap (cast a.type) f) ∙ i)

    pub retypes : {half : ℕ} {left : ℕ} → left ≡ v.b + 1 + (y.b - y.a) + 1 → Becomes half w z p (done_at p left)
    unfolding size size_type is_value
    retypes {half} i = subst (λ (n : ℕ). Becomes half w z p (done_at p n)) (sym i) (becomes p kept (omega (arith, places)) (λ e s _. content e s))
      where
        content : (e : Term) (s : Standing w (Redex p) e) (h : Term) → next half s.focus ≡ some h → Reduct z p.start (v.b + 1 + (y.b - y.a) + 1) (size s.focus) h
        content e s h n =
            let q = retyped s in
            reduct_of q.is (read_is half s q n) (record { final = refl; run = at_run refl (omega arith) (omega arith) (retyped_run s q); small = omega arith })
