-- Laws of what cells hold: inversion by kind, framing, and a cell that was written. Assumes nothing.
use Prim.Native.Nat.{ℕ, suc, ◌+◌, ◌*◌, ◌≤◌, ◌<◌}
use native.Mathlib.Omega.{arith}
use mathlib.Core.Path.{◌≡◌, refl, sym, ◌∙◌, ap, subst, subst⁻¹}
use mathlib.Core.Bool.{Bool, true, false, ◌&&◌, cond}
use mathlib.Core.List.{List, [], ◌∷◌, append_assoc}
use lib.Dec.{T, eqb}
use mathlib.Core.Option.{some, some-injective}
use lib.ListN.{length, take, drop, set}
use lib.Seq.{sets, length-sets, sets-eq, length-take-le, take-set-le, take-take, get_or-take}
use borrow.Author.Tests.{eq-eqb, ne_eqb}
use Rattle.calculus.specs.Syntax.{Ty, int, top, arrow, inter}
use Rattle.calculus.specs.Syntax.{Term, var, lit, unit, anno, app, merge, fix, rcd, proj, sum}
use Rattle.calculus.specs.Decide.{is_top_like}
use Rattle.calculus.proofs.Bools.{T_and, Test, ◌and◌, at_most}
use Rattle.format.specs.declared.Version.TheVariants.{Two as Version-as-Two}
use Rattle.format.specs.Version.{half_of, stored}
use Rattle.format.specs.Table.{Sort, type_sort, term_sort, Use, plain, refers, Row, table, row_in, row_for, row_of}
use Rattle.format.specs.Cell.{byte, pair, Cell, cell_at, cell_bytes, signed}
use Rattle.format.specs.Tree.{Tree, node, kind_in}
use Rattle.format.specs.Terms.{from_type, from_term_in, from_term, plain_of, to_type, to_term_in, to_term}
use Rattle.format.proofs.Encoding.{Part, cell_back}
use Rattle.format.proofs.Tests.{All, ◌also◌, view}
use Rattle.cells.specs.Held.{IsCell, mark, Same, Thing, thing, Marked, Fields, HeldField, f_unused, f_plain, f_refers, Holds, HoldsType, HoldsTerm}
use Rattle.cells.specs.Held.{HoldsContext, h_empty, h_bind}
use Rattle.cells.proofs.Shapes as Shapes
use Rattle.cells.proofs.Shapes.{Two}

pub kind_of_lem : {s : List ℕ} {i k l a b c : ℕ} → IsCell s i k l a b c → (cell_at s i).kind ≡ k
kind_of_lem p = rw p.is

-- ---- inversion, for all kinds at once

pub fields_of : {q : Bool} {s : List ℕ} {n i : ℕ} {o : Sort} {t : Tree} (k : ℕ) (r : Row) → HeldField q s n (refers o) i t → (cell_at s i).kind ≡ k
    → row_of k ≡ some r → Fields q s i k r (cell_at s i) t
fields_of k r (f_refers {r = q} {f = x} {g = y} {h = z} l p e m mk u v w) h g =
    let d = sym h ∙ kind_of_lem p in
    let same : r ≡ q = some-injective r q (sym g ∙ rw d e) in
    rw (same, d)
    record { a = x; b = y; c = z; is = rw (p.is, m) refl; held_a = rw p.is u; held_b = rw p.is v; held_c = rw p.is w }

-- the row of a held cell
pub record RowAt (q : Bool) (s : List ℕ) (i : ℕ) (o : Sort) (t : Tree) : Type 0 where
  pub row : Row
  pub found : row_of (cell_at s i).kind ≡ some row
  pub marked : Marked q o row (cell_at s i).c t
  pub within : 8 * i + 8 ≤ length s

pub row_at : {q : Bool} {s : List ℕ} {n i : ℕ} {o : Sort} {t : Tree} → HeldField q s n (refers o) i t → RowAt q s i o t
row_at {q} {o = o} {t = t} (f_refers {r = r} l p e m mk u v w) =
    record { row = r; found = rw p.is e; marked = subst⁻¹ (λ (x : Cell). Marked q o r x.c t) p.is mk; within = p.within }

-- what stands in a field that refers is held there
pub lower : {q : Bool} {s : List ℕ} {n x : ℕ} {o : Sort} {t : Tree} → HeldField q s n (refers o) x t → x < n
lower (f_refers l p e m mk u v w) = l

pub below : {q : Bool} {s : List ℕ} {n m x : ℕ} {o : Sort} {t : Tree} → HeldField q s n (refers o) x t → x < m → HeldField q s m (refers o) x t
below (f_refers l p e m mk u v w) h = f_refers h p e m mk u v w

pub holds : {s : List ℕ} {n x : ℕ} {o : Sort} {t : Tree} → HeldField true s n (refers o) x t → Holds s o x (thing o t)
holds {x = x} h = record { tree = _; held = below h (omega arith); is = refl }

-- what is held is held where nothing is said of sorts and marks
pub unmarked : {q : Bool} {s : List ℕ} {n x : ℕ} {u : Use} {t : Tree} → HeldField q s n u x t → HeldField false s n u x t
unmarked f_unused = f_unused
unmarked f_plain = f_plain
unmarked (f_refers l p e m mk u v w) = f_refers l p e m tt (unmarked u) (unmarked v) (unmarked w)

-- nor then of the sort that is referred to
pub any_sort : {s : List ℕ} {n x : ℕ} {o p : Sort} {t : Tree} → HeldField false s n (refers o) x t → HeldField false s n (refers p) x t
any_sort (f_refers l p e q m f g h) = f_refers l p e q m f g h

pub plain_at : {q : Bool} {s : List ℕ} {n x : ℕ} {t : Tree} → HeldField q s n plain x t → plain_of t ≡ x
unfolding plain_of
plain_at f_plain = refl

module _ {s : List ℕ} {i : ℕ} {o : Sort} {x : Thing o} (h : Holds s o i x) where
  pub whole : Fields true s i (cell_at s i).kind (row_at h.held).row (cell_at s i) h.tree
  whole = fields_of _ _ h.held refl (row_at h.held).found

  -- every held cell lies within the buffer
  pub held_within : 8 * i + 8 ≤ length s
  held_within = (row_at h.held).within

  -- the inversion, by the kind
  pub by_row : {k : ℕ} {r : Row} → (cell_at s i).kind ≡ k → row_of k ≡ some r → Fields true s i k r (cell_at s i) h.tree
  by_row k e = fields_of _ _ h.held k e

-- one cell holds one tree
pub field_one : {q : Bool} {s : List ℕ} {n m x : ℕ} {u : Use} {f g : Tree} → HeldField q s n u x f → HeldField q s m u x g → f ≡ g
field_one f_unused f_unused = refl
field_one f_plain f_plain = refl
field_one (f_refers {k = k} {r = r} l p e m mk u v w) h =
    let z = fields_of k r h (kind_of_lem p) e in
    cc (
      m,
      field_one u (rw p.is at z.held_a),
      field_one v (rw p.is at z.held_b),
      field_one w (rw p.is at z.held_c),
      rw p.is at z.is,
    )

pub held_one : {s : List ℕ} {i : ℕ} {o : Sort} {x y : Thing o} → Holds s o i x → Holds s o i y → x ≡ y
held_one {o = o} h k = h.is ∙ ap (thing o) (field_one h.held k.held) ∙ sym k.is

pub type_mark : {s : List ℕ} {i : ℕ} {A : Ty} → HoldsType s i A → (cell_at s i).c ≡ mark A
type_mark h = (row_at h.held).marked.1 ∙ ap mark (sym h.is)

pub mark_one : (A : Ty) → mark A ≤ 1
mark_one A = go (is_top_like A)
  where
    go : (b : Bool) → cond b 1 0 ≤ 1
    go true = omega arith
    go false = omega arith

-- of a type's cell that was read as x, field c is 1 exactly where the type is top_like
module _ {s : List ℕ} {i : ℕ} {A : Ty} (h : HoldsType s i A) (x : Cell) (e : x ≡ cell_at s i) where
  pub mark_test : eqb x.c 1 ≡ is_top_like A
  mark_test = rw (e, type_mark h) (go (is_top_like A))
    where
      go : (b : Bool) → eqb (cond b 1 0) 1 ≡ b
      go true = refl
      go false = refl

  pub top_like : x.c ≡ 1 → T (is_top_like A)
  top_like m = subst T (sym (eq-eqb x.c 1 m) ∙ mark_test) tt

  pub not_top_like : (x.c ≡ 1 → ⊥) → is_top_like A ≡ false
  not_top_like n = sym mark_test ∙ ne_eqb x.c 1 n

-- ---- inversion by the kind of the cell: the row, and what to_type and to_term compute for it

abbrev pub TwoTypes : List ℕ → ℕ → (Ty → Ty → Ty) → Ty → Type 0
TwoTypes s i = Two (Holds s) (cell_at s i) i type_sort

abbrev pub TwoTerms : List ℕ → ℕ → (Term → Term → Term) → Term → Type 0
TwoTerms s i = Two (Holds s) (cell_at s i) i term_sort

abbrev pub TermAndType : List ℕ → ℕ → (Term → Ty → Term) → Term → Type 0
TermAndType s i = Shapes.TermAndType (Holds s) (cell_at s i) i

abbrev pub OneType : List ℕ → ℕ → Ty → Type 0
OneType s i = Shapes.OneType (Holds s) (cell_at s i) i

abbrev pub OneTerm : List ℕ → ℕ → (ℕ → Term → Term) → Term → Type 0
OneTerm s i = Shapes.OneTerm (Holds s) (cell_at s i) i

abbrev pub ChoiceAt : List ℕ → ℕ → Term → Type 0
ChoiceAt s i = Shapes.ChoiceAt (Holds s) (cell_at s i) i

abbrev pub FunctionAt : List ℕ → ℕ → Term → Type 0
FunctionAt s i = Shapes.FunctionAt (Holds s) (cell_at s i) i

two : {s : List ℕ} {i : ℕ} {o : Sort} {x : Thing o} (f : Thing o → Thing o → Thing o) {t u : Tree} →
    x ≡ f (thing o t) (thing o u) → HeldField true s i (refers o) (cell_at s i).a t → HeldField true s i (refers o) (cell_at s i).b u → Two (Holds s) (cell_at s i) i o f x
two f q h k =
    record { first = _; second = _; is = q; first_lower = lower h; second_lower = lower k; holds_first = holds h; holds_second = holds k }

term_and_type : {s : List ℕ} {i : ℕ} {e : Term} (f : Term → Ty → Term) {t u : Tree} →
    e ≡ f (to_term t) (to_type u) → HeldField true s i (refers term_sort) (cell_at s i).a t → HeldField true s i (refers type_sort) (cell_at s i).b u → TermAndType s i f e
term_and_type f q h k =
    record { term = _; type = _; is = q; term_lower = lower h; type_lower = lower k; holds_term = holds h; holds_type = holds k }

one_term : {s : List ℕ} {i : ℕ} {e : Term} (f : ℕ → Term → Term) {t : Tree} →
    e ≡ f (cell_at s i).label (to_term t) → HeldField true s i (refers term_sort) (cell_at s i).a t → OneTerm s i f e
one_term f q h = record { term = _; is = q; lower = lower h; holds = holds h }

module _ {s : List ℕ} {i : ℕ} {A : Ty} (h : HoldsType s i A) where
  pub int_at : (cell_at s i).kind ≡ 1 → A ≡ int
  unfolding table row_in row_for to_type
  int_at k = h.is ∙ ap to_type (by_row h k refl).is

  pub top_at : (cell_at s i).kind ≡ 2 → A ≡ top
  unfolding table row_in row_for to_type
  top_at k = h.is ∙ ap to_type (by_row h k refl).is

  pub arrow_at : (cell_at s i).kind ≡ 3 → TwoTypes s i arrow A
  unfolding table row_in row_for to_type
  arrow_at k = let w = by_row h k refl in two {o = type_sort} arrow (h.is ∙ ap to_type w.is) w.held_a w.held_b

  pub inter_at : (cell_at s i).kind ≡ 4 → TwoTypes s i inter A
  unfolding table row_in row_for to_type
  inter_at k = let w = by_row h k refl in two {o = type_sort} inter (h.is ∙ ap to_type w.is) w.held_a w.held_b

  pub field_at : (cell_at s i).kind ≡ 5 → OneType s i A
  unfolding table row_in row_for to_type
  field_at k = let w = by_row h k refl in record { content = _; is = h.is ∙ ap to_type w.is; lower = lower w.held_a; holds = holds w.held_a }

module _ {s : List ℕ} {i : ℕ} {e : Term} (h : HoldsTerm s i e) where
  pub var_at : (cell_at s i).kind ≡ 16 → e ≡ var (cell_at s i).a
  unfolding table row_in row_for to_term_in plain_of
  var_at k = let w = by_row h k refl in h.is ∙ ap to_term w.is ∙ ap var (plain_at w.held_a)

  pub lit_at : (cell_at s i).kind ≡ 17 → e ≡ lit (signed (half_of Version-as-Two) (stored Version-as-Two (cell_at s i).a (cell_at s i).b (cell_at s i).c))
  unfolding table row_in row_for to_term_in plain_of
  lit_at k = let w = by_row h k refl in
      h.is ∙ ap to_term w.is ∙ ap (λ n. lit (signed (half_of Version-as-Two) n)) (omega (arith, plain_at w.held_a, plain_at w.held_b, plain_at w.held_c))

  pub unit_at : (cell_at s i).kind ≡ 18 → e ≡ unit
  unfolding table row_in row_for to_term_in
  unit_at k = h.is ∙ ap to_term (by_row h k refl).is

  pub anno_at : (cell_at s i).kind ≡ 19 → TermAndType s i anno e
  unfolding table row_in row_for to_term_in
  anno_at k = let w = by_row h k refl in term_and_type anno (h.is ∙ ap to_term w.is) w.held_a w.held_b

  pub app_at : (cell_at s i).kind ≡ 20 → TwoTerms s i app e
  unfolding table row_in row_for to_term_in
  app_at k = let w = by_row h k refl in two {o = term_sort} app (h.is ∙ ap to_term w.is) w.held_a w.held_b

  pub lam_at : (cell_at s i).kind ≡ 21 → FunctionAt s i e
  unfolding table row_in row_for to_term_in
  lam_at k = let w = by_row h k refl in record {
    body = _;
    input = _;
    output = _;
    is = h.is ∙ ap to_term w.is;
    body_lower = lower w.held_a;
    input_lower = lower w.held_b;
    output_lower = lower w.held_c;
    holds_body = holds w.held_a;
    holds_input = holds w.held_b;
    holds_output = holds w.held_c;
  }

  pub merge_at : (cell_at s i).kind ≡ 22 → TwoTerms s i merge e
  unfolding table row_in row_for to_term_in
  merge_at k = let w = by_row h k refl in two {o = term_sort} merge (h.is ∙ ap to_term w.is) w.held_a w.held_b

  pub fix_at : (cell_at s i).kind ≡ 23 → TermAndType s i fix e
  unfolding table row_in row_for to_term_in
  fix_at k = let w = by_row h k refl in term_and_type fix (h.is ∙ ap to_term w.is) w.held_a w.held_b

  pub rcd_at : (cell_at s i).kind ≡ 24 → OneTerm s i rcd e
  unfolding table row_in row_for to_term_in
  rcd_at k = let w = by_row h k refl in one_term rcd (h.is ∙ ap to_term w.is) w.held_a

  pub proj_at : (cell_at s i).kind ≡ 25 → OneTerm s i proj e
  unfolding table row_in row_for to_term_in
  proj_at k = let w = by_row h k refl in one_term proj (h.is ∙ ap to_term w.is) w.held_a

  pub sum_at : (cell_at s i).kind ≡ 26 → TwoTerms s i sum e
  unfolding table row_in row_for to_term_in
  sum_at k = let w = by_row h k refl in two {o = term_sort} sum (h.is ∙ ap to_term w.is) w.held_a w.held_b

  pub choice_at : (cell_at s i).kind ≡ 27 → ChoiceAt s i e
  unfolding table row_in row_for to_term_in
  choice_at k = let w = by_row h k refl in record {
    tested = _;
    zero = _;
    other = _;
    is = h.is ∙ ap to_term w.is;
    tested_lower = lower w.held_a;
    zero_lower = lower w.held_b;
    other_lower = lower w.held_c;
    holds_tested = holds w.held_a;
    holds_zero = holds w.held_b;
    holds_other = holds w.held_c;
  }

-- ---- the kind of a held cell

-- every row of a list passes a test
abbrev pub all_rows : (Row → Bool) → List Row → Bool
all_rows q [] = true
all_rows q (r ∷ rs) = q r && all_rows q rs

rows_pass : (q : Row → Bool) (rs : List Row) → T (all_rows q rs) → All (λ r. T (q r)) rs
rows_pass q [] h = tt
rows_pass q (r ∷ rs) h = let k = (T_and (q r) (all_rows q rs)).0 h in (k.0, rows_pass q rs k.1)

-- what a test of every row of the table says of the row of a kind
pub row_passes : (q : Row → Bool) → T (all_rows q (table Version-as-Two)) → (k : ℕ) (r : Row) → row_of k ≡ some r → (k ≡ r.kind) × T (q r)
unfolding row_for
row_passes q t k r e = view (λ r. T (q r)) (table Version-as-Two) (rows_pass q (table Version-as-Two) t) k r e

-- 1 to 5, 16 to 27
abbrev pub first_kind : Sort → ℕ
first_kind type_sort = 1
first_kind term_sort = 16

abbrev pub last_kind : Sort → ℕ
last_kind type_sort = 5
last_kind term_sort = 27

abbrev kind_test : (r : Row) → Test ((first_kind r.sort ≤ r.kind) × (r.kind ≤ last_kind r.sort))
kind_test r = at_most (first_kind r.sort) r.kind and at_most r.kind (last_kind r.sort)

pub in_range : (k : ℕ) (r : Row) {o : Sort} → row_of k ≡ some r → r.sort ≡ o → (first_kind o ≤ k) × (k ≤ last_kind o)
unfolding table
in_range k r e q =
    let v = row_passes (λ r. (kind_test r).0) tt k r e in
    rw (v.0, ← q) ((kind_test r).1.0 v.1)

pub held_kinds : {s : List ℕ} {i : ℕ} {o : Sort} {x : Thing o} → Holds s o i x → (first_kind o ≤ (cell_at s i).kind) × ((cell_at s i).kind ≤ last_kind o)
held_kinds {s} {i} h = let w = row_at h.held in in_range (cell_at s i).kind w.row w.found w.marked.0

-- what a cell holds tells its kind
abbrev pub kind_of : (o : Sort) → Thing o → ℕ
kind_of type_sort A = kind_in (from_type A)
kind_of term_sort e = kind_in (from_term e)

abbrev KindBack : Row → Type 0
KindBack r = (l : ℕ) (a b c : Tree) → kind_of r.sort (thing r.sort (node r.kind l a b c)) ≡ r.kind

rows : All KindBack (table Version-as-Two)
unfolding table to_type to_term_in from_type from_term_in kind_in
rows =
    (λ l a b c. refl) also (λ l a b c. refl) also (λ l a b c. refl) also (λ l a b c. refl) also (λ l a b c. refl)
    also (λ l a b c. refl) also (λ l a b c. refl) also (λ l a b c. refl) also (λ l a b c. refl) also (λ l a b c. refl)
    also (λ l a b c. refl) also (λ l a b c. refl) also (λ l a b c. refl) also (λ l a b c. refl) also (λ l a b c. refl)
    also (λ l a b c. refl) also (λ l a b c. refl)
    also tt

kind_back : (k : ℕ) (r : Row) {o : Sort} → row_of k ≡ some r → r.sort ≡ o → (l : ℕ) (a b c : Tree) → kind_of o (thing o (node k l a b c)) ≡ k
unfolding row_for
kind_back k r e q = let v = view KindBack (table Version-as-Two) rows k r e in rw (v.0, ← q) v.1

pub kind_of_held : {s : List ℕ} {i : ℕ} {o : Sort} {x : Thing o} → Holds s o i x → (cell_at s i).kind ≡ kind_of o x
kind_of_held {s} {i} {o} h =
    let w = row_at h.held in
    sym (ap (kind_of o) (h.is ∙ ap (thing o) (whole h).is) ∙ kind_back (cell_at s i).kind w.row w.found w.marked.0 _ _ _ _)

-- and of the cell as it was read
pub read_kind : {s : List ℕ} {i : ℕ} {o : Sort} {x : Thing o} {y : Cell} → y ≡ cell_at s i → Holds s o i x → y.kind ≡ kind_of o x
read_kind e h = ap (λ (c : Cell). c.kind) e ∙ kind_of_held h

-- framing: what lies in cells that are the same stays held
pub kept_cell : {s t : List ℕ} {i k l a b c : ℕ} → length t ≡ length s → cell_at t i ≡ cell_at s i → IsCell s i k l a b c → IsCell t i k l a b c
kept_cell n e p = record { within = rw n p.within; is = e ∙ p.is }

pub kept_field : {q : Bool} {s t : List ℕ} {n x : ℕ} {u : Use} {f : Tree} → length t ≡ length s → ((i : ℕ) → i < n → cell_at t i ≡ cell_at s i)
    → HeldField q s n u x f → HeldField q t n u x f
kept_field n w f_unused = f_unused
kept_field n w f_plain = f_plain
kept_field n w (f_refers {x = x} l p e m k f g h) =
    let low : (i : ℕ) → i < x → _ = λ i y. w i (omega arith) in
    f_refers l (kept_cell n (w x l) p) e m k (kept_field n low f) (kept_field n low g) (kept_field n low h)

pub same_refl : (s : List ℕ) (n : ℕ) → Same s s n
same_refl s n = record { long = refl; below = refl }

pub same_less : {s t : List ℕ} {n m : ℕ} → Same s t n → m ≤ n → Same s t m
same_less {s} {t} {n} {m} p h =
    let l : 8 * m ≤ 8 * n = omega arith in
    record { long = p.long; below = sym (take-take (8 * m) (8 * n) t l) ∙ ap (take (8 * m)) p.below ∙ take-take (8 * m) (8 * n) s l }

pub same_trans : {s t u : List ℕ} {n m : ℕ} → Same s t n → Same t u m → n ≤ m → Same s u n
same_trans p q h = record { long = q.long ∙ p.long; below = (same_less q h).below ∙ p.below }

same_byte : {s t : List ℕ} {n : ℕ} (i : ℕ) → Same s t n → i < 8 * n → byte t i ≡ byte s i
same_byte {s} {t} {n} i p h =
    sym (get_or-take (8 * n) t i 0 h) ∙ ap (λ (x : List ℕ). byte x i) p.below ∙ get_or-take (8 * n) s i 0 h

same_pair : {s t : List ℕ} {n : ℕ} (i : ℕ) → Same s t n → i + 1 < 8 * n → pair t i ≡ pair s i
same_pair i p h = cc (same_byte i p (omega arith), same_byte (i + 1) p h)

pub same_cell : {s t : List ℕ} {n i : ℕ} → Same s t n → i < n → cell_at t i ≡ cell_at s i
unfolding cell_at
same_cell {s} {t} {n} {i} p h =
    λ j. record {
      kind = same_byte (8 * i) p (omega arith) j;
      label = same_byte (8 * i + 1) p (omega arith) j;
      a = same_pair (8 * i + 2) p (omega arith) j;
      b = same_pair (8 * i + 4) p (omega arith) j;
      c = same_pair (8 * i + 6) p (omega arith) j;
    }

pub same_is : {s t : List ℕ} {n i k l a b c : ℕ} → Same s t n → i < n → IsCell s i k l a b c → IsCell t i k l a b c
same_is p h x = kept_cell p.long (same_cell p h) x

pub same_field_lem : {q : Bool} {s t : List ℕ} {m n x : ℕ} {u : Use} {f : Tree} → Same s t m → n ≤ m → HeldField q s n u x f → HeldField q t n u x f
same_field_lem p h k = kept_field p.long (λ i l. same_cell p (omega arith)) k

pub same_held : {s t : List ℕ} {n i : ℕ} {o : Sort} {x : Thing o} → Same s t n → i < n → Holds s o i x → Holds t o i x
same_held p h k = record { tree = k.tree; held = same_field_lem p (omega arith) k.held; is = k.is }

pub same_context : {s t : List ℕ} {n i : ℕ} {Γ : List Ty} → Same s t n → i < n → HoldsContext s i Γ → HoldsContext t i Γ
same_context p h h_empty = h_empty
same_context p h (h_bind x u v y z) = h_bind (same_is p h x) u v (same_held p (omega arith) y) (same_context p (omega arith) z)

-- a cell that was written is there, and the cells below it are as they were
pub record Written (s t : List ℕ) (n : ℕ) (x : Cell) : Type 0 where
  pub same : Same s t n
  pub there : IsCell t n x.kind x.label x.a x.b x.c

pub take_sets : (n : ℕ) (s : List ℕ) (i : ℕ) (x : List ℕ) → n ≤ i → take n (sets s i x) ≡ take n s
take_sets n s i [] h = refl
take_sets n s i (a ∷ x) h = take_sets n (set s i a) (suc i) x (omega arith) ∙ take-set-le n s i a h

pub written : {s t : List ℕ} {n : ℕ} (x : Cell) → 8 * n + 8 ≤ length s → t ≡ sets s (8 * n) (cell_bytes x) → Written s t n x
unfolding cell_bytes
written {s} {t} {n} x h e =
    record {
      same = record { long = long; below = rw e (take_sets (8 * n) s (8 * n) (cell_bytes x) (omega arith)) };
      there = record { within = rw long h; is = cell_back x part };
    }
  where
    long : length t ≡ length s
    long = rw e (length-sets s (8 * n) (cell_bytes x))

    part : Part t n (cell_bytes x)
    part =
        record {
          before = take (8 * n) s;
          after = drop (8 * n + 8) s;
          starts = length-take-le (8 * n) s (omega arith);
          split = e ∙ sets-eq (cell_bytes x) s (8 * n) h ∙ append_assoc (take (8 * n) s) (cell_bytes x) (drop (8 * n + 8) s);
        }
