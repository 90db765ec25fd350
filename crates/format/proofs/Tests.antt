-- The tests 2 to 10 pass exactly on well-formed books; a well-formed book's root is the tree of a term whose labels, indices and numbers
-- fit. Assumes nothing.
use Prim.Native.Nat.{ℕ, zero, suc, ◌+◌, ◌*◌, ◌/◌, ◌%◌, ◌≤◌, ◌<◌}
use mathlib.Core.Path.{◌≡◌, refl, sym, ap, ◌∙◌, subst}
use mathlib.Core.Logic.Iff
use mathlib.Core.Logic.{◌↔◌}
use mathlib.Core.Bool.{Bool, true, false, not, false≢true}
use mathlib.Core.Option.{Option, none, some, some-injective, some-ne-none, none-ne-some}
use mathlib.Core.List.{List, [], ◌∷◌}
use native.Mathlib.Omega.{arith}
use native.Mathlib.Nat.{add-zero, add-suc, suc-add, zero-add}
use borrow.Author.Tests.{eqb-true}
use lib.Dec.{T, ltb, eqb}
use lib.ListN.{length}
use Rattle.calculus.specs.Syntax.{Ty, int, top, arrow, inter, field}
use Rattle.calculus.specs.Syntax.{Term, var, lit, unit, anno, app, lam, merge, fix, rcd, proj, sum, choice, size}
use Rattle.calculus.proofs.Bools.{true_says, eqb_says, ltb_says, nltb_says, Test, ◌and◌, passing, equal, less, at_most}
use Rattle.format.specs.declared.Version.{Version}
use Rattle.format.specs.declared.Version.TheVariants.{One, Two}
use Rattle.format.specs.Version.{version_byte_lem, half_of, stored}
use Rattle.format.specs.Table.{Sort, type_sort, term_sort, Use, unused, plain, refers, Row, lowest, table, row_in, row_for, row_of}
pub use Rattle.format.specs.Table.{All}
use Rattle.format.specs.Cell.{IsBytes, byte, pair, Cell, cell_at, signed}
use Rattle.format.specs.Tree.{Tree, raw, node, cells, field_tree, cell_tree, tree_at}
use Rattle.format.specs.Terms.{from_type, number_tree, from_term_in, to_term_in, TypeFits, TermFits}
use Rattle.format.specs.Book.{unnamed_ok_lem, reference_ok_lem, sort_ok_lem, sort_is, has_sort, every_field}
use Rattle.format.specs.Book.{bad_kind, first_bad, row_fault, cell_fault, cells_finding, root_finding, cells_form, form_finding}
use Rattle.format.specs.Book.{count, root_of, trailer_at, version_of, size_limit, WellFormedCells, WellFormed, root_term}
use Rattle.format.proofs.Numbers.{unsigned_signed, signed_fits}
use Rattle.format.proofs.Trees.{term_cells, term_back}
use Rattle.format.proofs.Unsharing.{field_tree_lower, tree_at_cell}

-- ---- findings: one test after another

-- a test, and then what comes after it
abbrev guard : {X : Type 0} → Bool → X → Option X → Option X
guard t x m = elim t [ true ↦ m | false ↦ some x ]

first : {X P Q : Type 0} (t : Test P) (x : X) {m : Option X} → ((m ≡ none) ↔ Q) → (guard t.0 x m ≡ none) ↔ (P × Q)
first (true, p) x q = (λ e. (p.0 tt, q.0 e), λ h. q.1 h.1)
first (false, p) x q = (λ e. absurd (some-ne-none x e), λ h. absurd (p.1 h.0))

-- a finding, and only then what comes after it
abbrev after : {X Y : Type 0} → Option X → (X → Y) → Option Y → Option Y
after o g m = elim o [ none ↦ m | some x ↦ some (g x) ]

before : {X Y P Q : Type 0} (o : Option X) (g : X → Y) {m : Option Y} → ((o ≡ none) ↔ P) → ((m ≡ none) ↔ Q) → (after o g m ≡ none) ↔ (P × Q)
before none g p q = (λ e. (p.0 refl, q.0 e), λ h. q.1 h.1)
before (some x) g p q = (λ e. absurd (some-ne-none (g x) e), λ h. absurd (some-ne-none x (p.1 h.0)))

-- a test that must fail, and nothing after it
last : {X P : Type 0} (t : Bool) (x : X) → T (not t) ↔ P → (◌≡◌ {A = Option X} (elim t [ true ↦ some x | false ↦ none ]) none) ↔ P
last true x p = (λ e. absurd (some-ne-none x e), λ h. absurd (p.1 h))
last false x p = (λ e. p.0 tt, λ h. refl)

cells_finding_says : (v : Version) (s : List ℕ) (n i : ℕ) → (cells_finding v s n i ≡ none) ↔ ((j : ℕ) → j < n → cell_fault v s (i + j) ≡ none)
unfolding cells_finding
cells_finding_says v s zero i = (λ e j h. absurd (omega arith), λ h. refl)
cells_finding_says v s (suc n) i = Iff.trans (before (cell_fault v s i) _ Iff.rfl (cells_finding_says v s n (suc i))) (to, from)
  where
    to : ((cell_fault v s i ≡ none) × ((j : ℕ) → j < n → cell_fault v s (suc i + j) ≡ none)) → (j : ℕ) → j < suc n → cell_fault v s (i + j) ≡ none
    to h zero l = rw add-zero h.0
    to h (suc j) l = rw (add-suc i j, ← suc-add i j) (h.1 j (omega arith))

    from : ((j : ℕ) → j < suc n → cell_fault v s (i + j) ≡ none) → (cell_fault v s i ≡ none) × ((j : ℕ) → j < n → cell_fault v s (suc i + j) ≡ none)
    from h = (rw add-zero at (h 0 (omega arith)), λ j l. rw (suc-add i j, ← add-suc i j) (h (suc j) (omega arith)))

pub cells_form_says : (s : List ℕ) → (cells_form s ≡ none) ↔ WellFormedCells s
unfolding cells_form
cells_form_says s =
    Iff.trans
    (first (at_most 16 (length s) and at_most (length s) 32768 and equal (length s % 8) 0) _
    (first (equal (byte s (trailer_at s)) 0xf0 and equal (byte s (trailer_at s + 1)) (version_byte_lem (version_of s)) and equal (pair s (trailer_at s + 6)) 0) _
    (first (equal (pair s (trailer_at s + 2)) (count s) and less (root_of s) (count s)) _ (cells_finding_says (version_of s) s (count s) 0)))) (
      λ h. record {
        long = h.0.0.0;
        short = h.0.0.1;
        whole = h.0.1;
        mark = h.1.0.0.0;
        version = h.1.0.0.1;
        zeros = h.1.0.1;
        counted = h.1.1.0.0;
        rooted = h.1.1.0.1;
        sound = λ i l. rw zero-add at (h.1.1.1 i l);
      },
      λ w. (((w.long, w.short), w.whole), (((w.mark, w.version), w.zeros), ((w.counted, w.rooted), λ j l. rw zero-add (w.sound j l)))),
    )

pub form_finding_says : (s : List ℕ) → (form_finding s ≡ none) ↔ WellFormed s
unfolding form_finding root_finding
form_finding_says s =
    let n = cells (tree_at s (root_of s)) in
    Iff.trans
    (before (cells_form s) _ (cells_form_says s)
    (first (passing (has_sort s term_sort (root_of s))) _ (last (ltb size_limit n) _ (nltb_says size_limit n))))
    (λ h. record { formed = h.0; term = h.1.0; small = h.1.1 }, λ w. (w.formed, (w.term, w.small)))

-- ---- a cell that passes 5 to 8, over kind and field

-- something of every field of a cell, by its use
pub record Each (P : Use → ℕ → Type 0) (r : Row) (t : Cell) : Type 0 where
  pub label : P r.label t.label
  pub a : P r.a t.a
  pub b : P r.b t.b
  pub c : P r.c t.c

pub each : {P Q : Use → ℕ → Type 0} {r : Row} {t : Cell} → ((u : Use) (x : ℕ) → P u x → Q u x) → Each P r t → Each Q r t
each f h = record { label = f _ _ h.label; a = f _ _ h.a; b = f _ _ h.b; c = f _ _ h.c }

each_both : {P Q : Use → ℕ → Type 0} {r : Row} {t : Cell} → Each P r t → Each Q r t → Each (λ u x. P u x × Q u x) r t
each_both h k = record { label = (h.label, k.label); a = (h.a, k.a); b = (h.b, k.b); c = (h.c, k.c) }

abbrev every : (q : Use → ℕ → Bool) (r : Row) (t : Cell) → Test (Each (λ u x. T (q u x)) r t)
every q r t =
    let ask : (u : Use) (x : ℕ) → Test (T (q u x)) = λ u x. (q u x, Iff.rfl) in (
      every_field q r t,
      Iff.trans (ask r.label t.label and ask r.a t.a and ask r.b t.b and ask r.c t.c).1
          (λ h. record { label = h.0.0.0; a = h.0.0.1; b = h.0.1; c = h.1 }, λ h. (((h.label, h.a), h.b), h.c)),
    )

-- the question for a sort asks for the row's own
pub sort_is_says : (o : Sort) (r : Row) → (sort_is o (some r) ≡ true) ↔ (r.sort ≡ o)
sort_is_says o r = (same o r.sort refl, own o)
  where
    same : (o u : Sort) → r.sort ≡ u → sort_is o (some r) ≡ true → r.sort ≡ o
    same type_sort type_sort p e = p
    same type_sort term_sort p e = absurd (false≢true (rw p at e))
    same term_sort type_sort p e = absurd (false≢true (rw p at e))
    same term_sort term_sort p e = p

    own : (o : Sort) → r.sort ≡ o → sort_is o (some r) ≡ true
    own type_sort p = rw p
    own term_sort p = rw p

-- one field: what an unused one, a plain one and a reference owe
abbrev pub FieldOk : List ℕ → ℕ → Use → ℕ → Type 0
FieldOk s i unused x = x ≡ 0
FieldOk s i plain x = Unit {0}
FieldOk s i (refers o) x = (x < i) × (has_sort s o x ≡ true)

field_says : (s : List ℕ) (i : ℕ) (u : Use) (x : ℕ) → (T (unnamed_ok_lem u x) × (T (reference_ok_lem i u x) × T (sort_ok_lem s u x))) ↔ FieldOk s i u x
field_says s i unused x = (λ h. (eqb_says x 0).0 h.0, λ e. ((eqb_says x 0).1 e, (tt, tt)))
field_says s i plain x = (λ h. tt, λ h. (tt, (tt, tt)))
field_says s i (refers o) x =
    let e = Iff.and (ltb_says x i) (true_says (has_sort s o x)) in (λ h. e.0 h.1, λ h. (tt, e.1 h))

pub row_fault_says : (s : List ℕ) (i : ℕ) (r : Row) (t : Cell) → (row_fault s i t (some r) ≡ none) ↔ Each (FieldOk s i) r t
unfolding row_fault first_bad
row_fault_says s i r t =
    Iff.trans
    (first (every unnamed_ok_lem r t) _ (first (every (reference_ok_lem i) r t) _ (first (every (sort_ok_lem s) r t) _ Iff.rfl))) (
      λ h. each (λ u x. (field_says s i u x).0) (each_both h.0 (each_both h.1.0 h.1.1.0)),
      λ h. let k = each (λ u x. (field_says s i u x).1) h in
          (each (λ u x p. p.0) k, (each (λ u x p. p.1.0) k, (each (λ u x p. p.1.1) k, refl))),
    )

-- its kind has a row in this version, and its fields are as the row wants them
pub record CellOk (v : Version) (s : List ℕ) (i : ℕ) : Type 0 where
  pub row : Row
  pub found : row_for v (cell_at s i).kind ≡ some row
  pub fields : Each (FieldOk s i) row (cell_at s i)

pub cell_fault_says : (v : Version) (s : List ℕ) (i : ℕ) → (cell_fault v s i ≡ none) ↔ CellOk v s i
unfolding cell_fault row_fault
cell_fault_says v s i = (go (row_for v (cell_at s i).kind) refl, λ h. rw h.found ((row_fault_says s i h.row (cell_at s i)).1 h.fields))
  where
    go : (o : Option Row) → row_for v (cell_at s i).kind ≡ o → row_fault s i (cell_at s i) o ≡ none → CellOk v s i
    go none e h = absurd (some-ne-none bad_kind h)
    go (some r) e h = record { row = r; found = e; fields = (row_fault_says s i r (cell_at s i)).0 h }

-- ---- the tables of two versions

infixr 20 ◌also◌
pub ◌also◌ : {P Q : Type 0} → P → Q → P × Q
p also q = (p, q)

-- a use, and one that asks no more and unshares alike
pub data Looser : Use → Use → Type 0 where
  same_use : {u : Use} → Looser u u
  named_too : Looser unused plain

-- a row, and one of the same kind and sort that asks no more
pub record LooserRow (r q : Row) : Type 0 where
  pub kind : r.kind ≡ q.kind
  pub sort : r.sort ≡ q.sort
  pub label : r.label ≡ q.label
  pub a : Looser r.a q.a
  pub b : Looser r.b q.b
  pub c : Looser r.c q.c

same_row : {r : Row} → LooserRow r r
same_row = record { kind = refl; sort = refl; label = refl; a = same_use; b = same_use; c = same_use }

lowest_looser : (v : Version) → Looser (lowest v) plain
lowest_looser One = named_too
lowest_looser Two = same_use

-- row by row
abbrev Rowwise : List Row → List Row → Type 0
Rowwise [] [] = Unit {0}
Rowwise [] (q ∷ qs) = ⊥
Rowwise (r ∷ rs) [] = ⊥
Rowwise (r ∷ rs) (q ∷ qs) = LooserRow r q × Rowwise rs qs

looser_in : (rs qs : List Row) → Rowwise rs qs → (k : ℕ) (r : Row) → row_in rs k ≡ some r → (q : Row) × (row_in qs k ≡ some q) × LooserRow r q
unfolding row_in
looser_in [] [] h k r e = absurd (none-ne-some r e)
looser_in [] (q ∷ qs) h k r e = absurd h
looser_in (p ∷ rs) [] h k r e = absurd h
looser_in (p ∷ rs) (q ∷ qs) h k r e = go (looser_in rs qs h.1 k r) (eqb k p.kind) refl e
  where
    asks : {t : Bool} → eqb k p.kind ≡ t → eqb k q.kind ≡ t
    asks {t} e = subst (λ (x : ℕ). eqb k x ≡ t) h.0.kind e

    go : (row_in rs k ≡ some r → (d : Row) × (row_in qs k ≡ some d) × LooserRow r d) → (t : Bool) → eqb k p.kind ≡ t → ◌≡◌ {A = Option Row} (elim t [ true ↦ some p | false ↦ row_in rs k ]) (some r)
        → (d : Row) × (◌≡◌ {A = Option Row} (elim (eqb k q.kind) [ true ↦ some q | false ↦ row_in qs k ]) (some d)) × LooserRow r d
    go w true t e = (q, ap (λ (b : Bool). elim b [ true ↦ some q | false ↦ row_in qs k ]) (asks t), subst (λ (x : Row). LooserRow x q) (some-injective p r e) h.0)
    go w false t e = let d = w e in (d.0, ap (λ (b : Bool). elim b [ true ↦ some q | false ↦ row_in qs k ]) (asks t) ∙ d.1, d.2)

-- the number's row differs, and no other
all_looser : (v : Version) → Rowwise (table v) (table Two)
unfolding table
all_looser v =
    same_row
    also same_row
    also same_row
    also same_row
    also same_row
    also same_row
    also record { kind = refl; sort = refl; label = refl; a = lowest_looser v; b = same_use; c = same_use }
    also same_row
    also same_row
    also same_row
    also same_row
    also same_row
    also same_row
    also same_row
    also same_row
    also same_row
    also same_row
    also tt

pub looser_row : (v : Version) (k : ℕ) (r : Row) → row_for v k ≡ some r → (q : Row) × (row_of k ≡ some q) × LooserRow r q
unfolding row_for
looser_row v k r e = looser_in (table v) (table Two) (all_looser v) k r e

field_looser : {u w : Use} → Looser u w → (s : List ℕ) (i x : ℕ) → FieldOk s i u x → FieldOk s i w x
field_looser same_use s i x h = h
field_looser named_too s i x h = tt

pub tree_looser : {u w : Use} → Looser u w → (g : ℕ → Tree) (i x : ℕ) → field_tree g i u x ≡ field_tree g i w x
unfolding field_tree
tree_looser same_use g i x = refl
tree_looser named_too g i x = refl

-- a cell that passes 5 to 8 in a version passes them in version 2
pub cell_looser : (v : Version) (s : List ℕ) (i : ℕ) → cell_fault v s i ≡ none → cell_fault Two s i ≡ none
cell_looser v s i e =
    let k = (cell_fault_says v s i).0 e in
    let q = looser_row v (cell_at s i).kind k.row k.found in
    (cell_fault_says Two s i).1
    (record {
      row = q.0;
      found = q.1;
      fields =
          record {
            label = subst (λ (u : Use). FieldOk s i u (cell_at s i).label) q.2.label k.fields.label;
            a = field_looser q.2.a s i _ k.fields.a;
            b = field_looser q.2.b s i _ k.fields.b;
            c = field_looser q.2.c s i _ k.fields.c;
          };
    })

-- ---- what a book decodes to

-- the tree of a type or a term that fits, in a book of version v
abbrev pub Decodes : Version → Sort → Tree → Type 0
Decodes v type_sort t = (A : Ty) × (from_type A ≡ t) × TypeFits A
Decodes v term_sort t = (e : Term) × (from_term_in v e ≡ t) × TermFits (half_of v) e

-- a field of a cell, unshared
abbrev pub Holds : Version → Use → Tree → Type 0
Holds v unused t = t ≡ raw 0
Holds v plain t = (x : ℕ) × (t ≡ raw x) × (x < 65536)
Holds v (refers o) t = Decodes v o t

holds : (v : Version) (s : List ℕ) (i : ℕ) → ((o : Sort) (x : ℕ) → x < i → has_sort s o x ≡ true → Decodes v o (tree_at s x))
    → (u : Use) (x : ℕ) → x < 65536 → FieldOk s i u x → Holds v u (field_tree (tree_at s) i u x)
unfolding field_tree
holds v s i decodes unused x f h = ap raw h
holds v s i decodes plain x f h = (x, refl, f)
holds v s i decodes (refers o) x f h = rw (field_tree_lower (tree_at s) i x o h.0) (decodes o x h.0 h.1)

-- a label, by its use
abbrev pub Named : Use → ℕ → Type 0
Named unused x = x ≡ 0
Named plain x = x < 256
Named (refers o) x = Unit {0}

named : (s : List ℕ) (i : ℕ) (u : Use) (x : ℕ) → x < 256 → FieldOk s i u x → Named u x
named s i unused x f h = h
named s i plain x f h = f
named s i (refers o) x f h = tt

-- the parts of a cell's tree
pub record Parts (v : Version) (r : Row) : Type 0 where
  pub label : ℕ
  pub ta : Tree
  pub tb : Tree
  pub tc : Tree
  pub name : Named r.label label
  pub a : Holds v r.a ta
  pub b : Holds v r.b tb
  pub c : Holds v r.c tc

-- a cell with this row, unshared, is a type or a term
abbrev pub Reads : Version → Row → Type 0
Reads v r = (p : Parts v r) → Decodes v r.sort (node r.kind p.label p.ta p.tb p.tc)

-- the first element whose test passes
pick : (P : Row → Type 0) (t : Bool) (q : Row) (o : Option Row) (r : Row) → (t ≡ true → P q) → (o ≡ some r → P r)
    → (◌≡◌ {A = Option Row} (elim t [ true ↦ some q | false ↦ o ]) (some r)) → P r
pick P true q o r f g e = subst P (some-injective q r e) (f refl)
pick P false q o r f g e = g e

-- what holds of every row holds of the row of a kind
pub view : (P : Row → Type 0) (rs : List Row) → All P rs → (k : ℕ) (r : Row) → row_in rs k ≡ some r → (k ≡ r.kind) × P r
unfolding row_in
view P [] h k r e = absurd (none-ne-some r e)
view P (q ∷ rs) h k r e =
    pick (λ r. (k ≡ r.kind) × P r) (eqb k q.kind) q (row_in rs k) r (λ t. (eqb-true k q.kind t, h.0)) (view P rs h.1 k r) e

-- a number's fields, put together and stored again
number : (v : Version) (n : ℕ) → n < 2 * half_of v → from_term_in v (lit (signed (half_of v) n)) ≡ number_tree v n
unfolding from_term_in
number v n f = ap (number_tree v) (unsigned_signed (half_of v) n f)

pub number_1 : (x y : ℕ) → x < 65536 → y < 65536 → from_term_in One (lit (signed (half_of One) (stored One 0 x y))) ≡ node 17 0 (raw 0) (raw x) (raw y)
number_1 x y f g =
    number One (x + 65536 * y) (omega arith)
    ∙ (let p : (x + 65536 * y) % 65536 ≡ x = omega arith in
    let q : (x + 65536 * y) / 65536 ≡ y = omega arith in
    cc)

pub number_2 : (x y z : ℕ) → x < 65536 → y < 65536 → z < 65536 → from_term_in Two (lit (signed (half_of Two) (stored Two x y z))) ≡ node 17 0 (raw x) (raw y) (raw z)
number_2 x y z f g h =
    number Two (x + 65536 * (y + 65536 * z)) (omega arith)
    ∙ (let p : (x + 65536 * (y + 65536 * z)) % 65536 ≡ x = omega arith in
    let m : (x + 65536 * (y + 65536 * z)) / 65536 ≡ y + 65536 * z = omega arith in
    let q : (y + 65536 * z) % 65536 ≡ y = omega arith in
    let o : (y + 65536 * z) / 65536 ≡ z = omega arith in
    cc (p, ap (λ n. n % 65536) m ∙ q, ap (λ n. n / 65536) m ∙ o))

-- a number cell, by its version
number_reads : (v : Version) {l : ℕ} {a b c : Tree} → l ≡ 0 → Holds v (lowest v) a → Holds v plain b → Holds v plain c → Decodes v term_sort (node 17 l a b c)
number_reads One l a b c =
    (lit (signed (half_of One) (stored One 0 b.0 c.0)), cc (number_1 b.0 c.0 b.2 c.2), signed_fits (half_of One) _ (omega (arith, b.2, c.2)))
number_reads Two l a b c =
    (lit (signed (half_of Two) (stored Two a.0 b.0 c.0)), cc (number_2 a.0 b.0 c.0 a.2 b.2 c.2), signed_fits (half_of Two) _ (omega (arith, a.2, b.2, c.2)))

-- a cell of a kind is the tree of that kind's type or term: one line a kind
pub rows : (v : Version) → All (Reads v) (table v)
unfolding table from_type from_term_in
rows v =
    (λ p. (int, cc, tt))
    also (λ p. (top, cc, tt))
    also (λ p. (arrow p.a.0 p.b.0, cc, (p.a.2, p.b.2)))
    also (λ p. (inter p.a.0 p.b.0, cc, (p.a.2, p.b.2)))
    also (λ p. (field p.label p.a.0, cc, (p.name, p.a.2)))
    also (λ p. (var p.a.0, cc, p.a.2))
    also (λ p. number_reads v p.name p.a p.b p.c)
    also (λ p. (unit, cc, tt))
    also (λ p. (anno p.a.0 p.b.0, cc, (p.a.2, p.b.2)))
    also (λ p. (app p.a.0 p.b.0, cc, (p.a.2, p.b.2)))
    also (λ p. (lam p.a.0 p.b.0 p.c.0, cc, (p.a.2, p.b.2, p.c.2)))
    also (λ p. (merge p.a.0 p.b.0, cc, (p.a.2, p.b.2)))
    also (λ p. (fix p.a.0 p.b.0, cc, (p.a.2, p.b.2)))
    also (λ p. (rcd p.label p.a.0, cc, (p.name, p.a.2)))
    also (λ p. (proj p.label p.a.0, cc, (p.name, p.a.2)))
    also (λ p. (sum p.a.0 p.b.0, cc, (p.a.2, p.b.2)))
    also (λ p. (choice p.a.0 p.b.0 p.c.0, cc, (p.a.2, p.b.2, p.c.2)))
    also tt

pair_fits : (s : List ℕ) → IsBytes s → (j : ℕ) → pair s j < 65536
pair_fits s y j = omega (arith, y j, y (j + 1))

pub cell_fits : (s : List ℕ) → IsBytes s → (i : ℕ)
    → ((cell_at s i).label < 256) × ((cell_at s i).a < 65536) × ((cell_at s i).b < 65536) × ((cell_at s i).c < 65536)
unfolding cell_at
cell_fits s y i = (y (8 * i + 1), pair_fits s y (8 * i + 2), pair_fits s y (8 * i + 4), pair_fits s y (8 * i + 6))

-- a cell that passes 5 to 8, over lower cells that open, opens
cell_decodes : (v : Version) (s : List ℕ) → IsBytes s → (i : ℕ) → CellOk v s i
    → ((o : Sort) (x : ℕ) → x < i → has_sort s o x ≡ true → Decodes v o (tree_at s x)) → (o : Sort) → has_sort s o i ≡ true → Decodes v o (tree_at s i)
unfolding row_for cell_tree
cell_decodes v s y i k below o e =
    let r = k.row in
    let t = cell_at s i in
    let f = cell_fits s y i in
    let w = view (Reads v) (table v) (rows v) t.kind r k.found in
    let z = looser_row v t.kind r k.found in
    let q : r.sort ≡ o = z.2.sort ∙ (sort_is_says o z.0).0 (rw z.1 at e) in
    rw (tree_at_cell s i, z.1, ← tree_looser z.2.a, ← tree_looser z.2.b, ← tree_looser z.2.c, w.0, ← q)
    (w.1
    (record {
      label = t.label;
      ta = field_tree (tree_at s) i r.a t.a;
      tb = field_tree (tree_at s) i r.b t.b;
      tc = field_tree (tree_at s) i r.c t.c;
      name = named s i r.label t.label f.0 k.fields.label;
      a = holds v s i below r.a t.a f.1 k.fields.a;
      b = holds v s i below r.b t.b f.2 k.fields.b;
      c = holds v s i below r.c t.c f.3 k.fields.c;
    }))

-- every cell of a well-formed book is the tree of a type or a term, by its sort
decodes : (s : List ℕ) → IsBytes s → WellFormedCells s → (n i : ℕ) → i < n → i < count s → (o : Sort) → has_sort s o i ≡ true → Decodes (version_of s) o (tree_at s i)
decodes s y w zero i h l = absurd (omega arith)
decodes s y w (suc n) i h l =
    cell_decodes (version_of s) s y i ((cell_fault_says (version_of s) s i).0 (w.sound i l)) (λ o x k e. decodes s y w n x (omega arith) (omega arith) o e)

root_term_lem : (s : List ℕ) → IsBytes s → WellFormed s →
    (e : Term) × (root_term s ≡ e) × (from_term_in (version_of s) e ≡ tree_at s (root_of s)) × TermFits (half_of (version_of s)) e
unfolding root_term
root_term_lem s y w =
    let r = w.formed.rooted in
    let t = decodes s y w.formed (count s) (root_of s) r r term_sort w.term in
    (t.0, ap (to_term_in (version_of s)) (sym t.1) ∙ term_back (version_of s) t.0 t.2, t.1, t.2)

pub root_term_tree : (s : List ℕ) → IsBytes s → WellFormed s → from_term_in (version_of s) (root_term s) ≡ tree_at s (root_of s)
root_term_tree s b w = let r = root_term_lem s b w in rw r.1 r.2

pub root_term_small : (s : List ℕ) → IsBytes s → WellFormed s → size (root_term s) ≤ size_limit
root_term_small s b w = rw (← term_cells (version_of s) (root_term s), root_term_tree s b w) w.small

pub root_term_fits : (s : List ℕ) → IsBytes s → WellFormed s → TermFits (half_of (version_of s)) (root_term s)
root_term_fits s b w = let r = root_term_lem s b w in rw r.1 r.3
