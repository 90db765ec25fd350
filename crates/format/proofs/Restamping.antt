-- A book restamped as version 2, "each number extended by its sign": its cells and trees are the book's own, so extended; a well-formed version 1 book
-- stays well-formed and has the same root term. Assumes nothing.
use Prim.Native.Nat.{ℕ, zero, suc, ◌+◌, ◌*◌, ◌-◌, ◌/◌, ◌≤◌, ◌<◌}
use native.Mathlib.Nat.{add-zero, zero-add}
use native.Mathlib.Omega.{arith}
use mathlib.Core.Path.{◌≡◌, refl, sym, ap, ◌∙◌, subst}
use mathlib.Core.Bool.{Bool, true, false, true≢false}
use mathlib.Core.Option.{Option, none, some, some-injective}
use mathlib.Core.List.{List, [], ◌++◌, append-nil}
use borrow.Author.Tests.{eqb-true, ltb-true, ltb-false, lt-ltb, le-ltb}
use lib.Dec.{eqb, ltb, lit<, lit≤}
use lib.ListN.{length, length-append}
use Rattle.calculus.specs.Syntax.{Term, var, lit, unit, anno, app, lam, merge, fix, rcd, proj, sum, choice}
use Rattle.calculus.proofs.Bools.{by_test}
use Rattle.format.specs.declared.Version.{Version}
use Rattle.format.specs.declared.Version.TheVariants.{One, Two}
use Rattle.format.specs.Version.{half_of, stored}
use Rattle.format.specs.Table.{Sort, term_sort, Use, unused, plain, refers, Row, table, row_in, row_for, row_of}
use Rattle.format.specs.Cell.{IsBytes, byte, Cell, cell_at, cell_bytes, signed}
use Rattle.format.specs.Tree.{Tree, field_tree, cell_tree, tree_at}
use Rattle.format.specs.Terms.{from_term, plain_of, to_term_in, TermFits, WideFits}
use Rattle.format.specs.Book.{count, root_of, version_of, has_sort, cell_fault, leads_to, WellFormedCells, WellFormed, root_term, trailer}
use Rattle.format.specs.Widths.{sign_field_lem, extended, Extends, mapped_cells, extended_cells, restamp, wide_cell, wide_cells}
use Rattle.format.proofs.Trees.{term_cells, term_back}
use Rattle.format.proofs.Unsharing.{cell_tree_same, tree_at_cell}
use Rattle.format.proofs.Tests.{FieldOk, Each, each, cell_fault_says, cell_looser, cell_fits, root_term_tree, root_term_fits, root_term_small}
use Rattle.format.proofs.Encoding.{Part, part_left, part_right, cell_back, Bytes, empty, is_bytes, bytes_append, cell_bytes_lem}
use Rattle.format.proofs.Widths.{widened, term_widened}

-- numbers that fit a range fit a wider one
pub fits_wider : {h k : ℕ} → h ≤ k → (e : Term) → TermFits h e → TermFits k e
fits_wider l (var n) f = f
fits_wider l (lit z) f = omega arith
fits_wider l unit f = tt
fits_wider l (anno e A) f = (fits_wider l e f.0, f.1)
fits_wider l (app e g) f = (fits_wider l e f.0, fits_wider l g f.1)
fits_wider l (lam e A B) f = (fits_wider l e f.0, f.1, f.2)
fits_wider l (merge e g) f = (fits_wider l e f.0, fits_wider l g f.1)
fits_wider l (fix e A) f = (fits_wider l e f.0, f.1)
fits_wider l (rcd n e) f = (f.0, fits_wider l e f.1)
fits_wider l (proj n e) f = (f.0, fits_wider l e f.1)
fits_wider l (sum e g) f = (fits_wider l e f.0, fits_wider l g f.1)
fits_wider l (choice e g d) f = (fits_wider l e f.0, fits_wider l g f.1, fits_wider l d f.2)

-- and so 48 bits
pub fits_wide : (v : Version) (e : Term) → TermFits (half_of v) e → WideFits e
fits_wide One e f = fits_wider (lit≤ tt) e f
fits_wide Two e f = f

-- ---- one cell: a number, or one that stays

-- the number's row in version 2
abbrev pub number_row : Row
number_row = record { kind = 17; sort = term_sort; label = unused; a = plain; b = plain; c = plain }

-- a number's cell, extended
abbrev pub wide : Cell → Cell
wide t = record { kind = t.kind; label = t.label; a = t.b; b = t.c; c = sign_field_lem t.c }

-- what is asked of an extended cell
pub by_kind : (P : Cell → Type 0) (t : Cell) → (t.kind ≡ 17 → P (wide t)) → (eqb t.kind 17 ≡ false → P t) → P (extended t)
by_kind P t n o = go (eqb t.kind 17) refl
  where
    go : (x : Bool) → eqb t.kind 17 ≡ x → P (extended t)
    go true e = rw e (n (eqb-true t.kind 17 e))
    go false e = rw e (o e)

pub sign_fits : (c : ℕ) → sign_field_lem c < 65536
sign_fits c = by_test (λ x. x < 65536) (ltb c 32768) (λ h. lit< tt) (λ h. lit< tt)

pub extended_kind : (t : Cell) → (extended t).kind ≡ t.kind
extended_kind t = by_kind (λ x. x.kind ≡ t.kind) t (λ e. refl) (λ e. refl)

-- Extended by its sign, a number is the same number.
same_number : (b c : ℕ) → b < 65536 → c < 65536 → signed (half_of Two) (stored Two b c (sign_field_lem c)) ≡ signed (half_of One) (stored One 0 b c)
unfolding signed
same_number b c f g = go (ltb c 32768) refl
  where
    go : (x : Bool) → ltb c 32768 ≡ x → signed (half_of Two) (stored Two b c (sign_field_lem c)) ≡ signed (half_of One) (stored One 0 b c)
    go true e =
        let l : c < 32768 = ltb-true c 32768 e in
        let n : b + 65536 * (c + 65536 * 0) ≡ b + 65536 * c = omega arith in
        rw (e, n, lt-ltb (b + 65536 * c) 140737488355328 (omega arith), lt-ltb (b + 65536 * c) 2147483648 (omega arith))
    go false e =
        let l : 32768 ≤ c = ltb-false c 32768 e in
        let m : 281474976710656 - suc (b + 65536 * (c + 65536 * 65535)) ≡ 4294967296 - suc (b + 65536 * c) = omega arith in
        rw (e, le-ltb (b + 65536 * (c + 65536 * 65535)) 140737488355328 (omega arith), le-ltb (b + 65536 * c) 2147483648 (omega arith), m)

eqb_differs : {k : ℕ} → k ≡ 17 → ¬ (eqb k 17 ≡ false)
eqb_differs e f = true≢false (rw e at f)

extends : (t : Cell) → t.b < 65536 → t.c < 65536 → Extends t (extended t)
extends t f g =
    by_kind (Extends t) t
    (λ e. record { kind = refl; label = refl; number = λ _. same_number t.b t.c f g; other = λ n. absurd (n e) })
    (λ e. record { kind = refl; label = refl; number = λ k. absurd (eqb_differs k e); other = λ _. refl })

field_widened : (g : ℕ → Tree) (i : ℕ) (u : Use) (x : ℕ) → field_tree (λ j. widened One (g j)) i u x ≡ widened One (field_tree g i u x)
unfolding field_tree widened
field_widened g i unused x = refl
field_widened g i plain x = refl
field_widened g i (refers s) x = go (ltb x i) refl
  where
    go : (t : Bool) → ltb x i ≡ t → field_tree (λ j. widened One (g j)) i (refers s) x ≡ widened One (field_tree g i (refers s) x)
    go true q = rw (q, field_tree)
    go false q = rw (q, field_tree)

-- The tree of an extended cell, from the extended trees of the cells below it.
pub cell_widened : (g : ℕ → Tree) (i : ℕ) (t : Cell) → cell_tree (λ x. widened One (g x)) i (extended t) (row_of t.kind) ≡ widened One (cell_tree g i t (row_of t.kind))
unfolding cell_tree field_tree widened plain_of row_for row_in table
cell_widened g i t =
    by_kind (λ x. cell_tree (λ y. widened One (g y)) i x (row_of t.kind) ≡ widened One (cell_tree g i t (row_of t.kind))) t
    (λ e. rw e)
    (λ e. other (row_of t.kind) e)
  where
    other : (r : Option Row) → eqb t.kind 17 ≡ false → cell_tree (λ y. widened One (g y)) i t r ≡ widened One (cell_tree g i t r)
    other none e = rw e
    other (some r) e = rw (e, field_widened g i r.a t.a, field_widened g i r.b t.b, field_widened g i r.c t.c)

-- ---- the bytes

pub length_mapped : (f : Cell → Cell) (s : List ℕ) (n i : ℕ) → length (mapped_cells f s n i) ≡ 8 * n
unfolding mapped_cells cell_bytes
length_mapped f s zero i = refl
length_mapped f s (suc n) i = simp length-append (omega (arith, length_mapped f s n (suc i)))

pub mapped_bytes : (f : Cell → Cell) (s : List ℕ) (n i : ℕ) → ((j : ℕ) → j < i + n → Bytes (cell_bytes (f (cell_at s j)))) → Bytes (mapped_cells f s n i)
unfolding mapped_cells
mapped_bytes f s zero i y = empty
mapped_bytes f s (suc n) i y = bytes_append (y i (omega arith)) (mapped_bytes f s n (suc i) (λ j h. y j (omega arith)))

pub mapped_part : {b : List ℕ} (f : Cell → Cell) (s : List ℕ) (k n i j : ℕ) → j < n → Part b k (mapped_cells f s n i) → Part b (k + j) (cell_bytes (f (cell_at s (i + j))))
unfolding mapped_cells cell_bytes
mapped_part f s k zero i j h p = absurd (omega arith)
mapped_part f s k (suc n) i zero h p = rw (add-zero k, add-zero i) (part_left (cell_bytes (f (cell_at s i))) _ p)
mapped_part f s k (suc n) i (suc j) h p =
    let a : k + 1 ≡ suc k = omega arith in
    let e : suc i + j ≡ i + suc j = omega arith in
    let g : suc k + j ≡ k + suc j = omega arith in
    rw (e, g) at (mapped_part f s (suc k) n (suc i) j (omega arith) (rw a at (part_right 1 (cell_bytes (f (cell_at s i))) _ refl p)))

extended_bytes : (s : List ℕ) → IsBytes s → (n i : ℕ) → Bytes (extended_cells s n i)
unfolding cell_at
extended_bytes s y n i = mapped_bytes extended s n i (λ j h. one (cell_at s j) (y (8 * j)) (cell_fits s y j))
  where
    one : (t : Cell) → t.kind < 256 → (t.label < 256) × (t.a < 65536) × (t.b < 65536) × (t.c < 65536) → Bytes (cell_bytes (extended t))
    one t k f = by_kind (λ x. Bytes (cell_bytes x)) t (λ e. cell_bytes_lem _ k f.0 f.2 f.3 (sign_fits t.c)) (λ e. cell_bytes_lem t k f.0 f.1 f.2 f.3)

pub extended_cell : (s t : List ℕ) (n i : ℕ) → i < n → cell_at (extended_cells s n 0 ++ t) i ≡ extended (cell_at s i)
extended_cell s t n i h = rw zero-add at (cell_back _ (mapped_part extended s 0 n 0 i h (record { before = []; after = t; starts = refl; split = refl })))

-- ---- bytes whose first n cells are those of s, extended

module _ (s e : List ℕ) (n : ℕ) (is : (i : ℕ) → i < n → cell_at e i ≡ extended (cell_at s i)) where
  pub extended_sort : (o : Sort) (i : ℕ) → i < n → has_sort e o i ≡ has_sort s o i
  extended_sort o i h = rw (is i h, extended_kind (cell_at s i))

  tree_within : (m i : ℕ) → i < m → i < n → tree_at e i ≡ widened One (tree_at s i)
  tree_within zero i h l = absurd (omega arith)
  tree_within (suc m) i h l =
      tree_at_cell e i
      ∙ (rw (is i l, extended_kind (cell_at s i))
      (cell_tree_same (tree_at e) (λ x. widened One (tree_at s x)) i (λ x k. tree_within m x (omega arith) (omega arith)) (extended (cell_at s i)) (row_of (cell_at s i).kind)
      ∙ cell_widened (tree_at s) i (cell_at s i)))
      ∙ ap (widened One) (sym (tree_at_cell s i))

  pub extended_tree : (i : ℕ) → i < n → tree_at e i ≡ widened One (tree_at s i)
  extended_tree i l = tree_within n i l l

  -- the fields of an extended cell are as its row wants them
  extended_fields : (i : ℕ) → i < n → (r : Row) → row_of (cell_at s i).kind ≡ some r → Each (FieldOk s i) r (cell_at s i) → Each (FieldOk e i) r (extended (cell_at s i))
  unfolding row_for row_in table
  extended_fields i l r q f =
      by_kind (Each (FieldOk e i) r) (cell_at s i)
      (λ k. number (cell_at s i) r (some-injective number_row r (rw k at q)) f)
      (λ k. each kept f)
    where
      kept : (u : Use) (x : ℕ) → FieldOk s i u x → FieldOk e i u x
      kept unused x h = h
      kept plain x h = h
      kept (refers o) x h = (h.0, extended_sort o x (omega (arith, h.0)) ∙ h.1)

      number : (t : Cell) (q : Row) → number_row ≡ q → Each (FieldOk s i) q t → Each (FieldOk e i) q (wide t)
      number t q p = subst (λ x. Each (FieldOk s i) x t → Each (FieldOk e i) x (wide t)) p (λ f. record { label = f.label; a = tt; b = tt; c = tt })

  -- one that passes 5 to 8 passes them extended
  pub extended_sound : (v : Version) (i : ℕ) → i < n → cell_fault v s i ≡ none → cell_fault Two e i ≡ none
  extended_sound v i l f =
      let k = (cell_fault_says Two s i).0 (cell_looser v s i f) in
      (cell_fault_says Two e i).1
      (record {
        row = k.row;
        found = rw (is i l, extended_kind (cell_at s i)) k.found;
        fields = rw (is i l) (extended_fields i l k.row k.found k.fields);
      })

module _ (s : List ℕ) where
  restamp_length : length (restamp s) ≡ 8 * count s + 8
  unfolding restamp trailer
  restamp_length = simp (length-append, length_mapped)

  pub restamp_count : count (restamp s) ≡ count s
  restamp_count = rw restamp_length (omega arith)

  pub restamp_cell : (i : ℕ) → i < count s → cell_at (restamp s) i ≡ extended (cell_at s i)
  unfolding restamp
  restamp_cell i h = extended_cell s (trailer Two (count s) (root_of s)) (count s) i h

  pub restamp_extends : IsBytes s → (i : ℕ) → i < count s → Extends (cell_at s i) (cell_at (restamp s) i)
  restamp_extends y i h = let f = cell_fits s y i in rw (restamp_cell i h) (extends (cell_at s i) f.2 f.3)

  restamp_trailer : cell_at (restamp s) (count (restamp s)) ≡ record { kind = 0xf0; label = 2; a = count s; b = root_of s; c = 0 }
  unfolding restamp trailer cell_bytes
  restamp_trailer =
      rw restamp_count (cell_back _ (record { before = extended_cells s (count s) 0; after = []; starts = length_mapped extended s (count s) 0; split = refl }))

  restamp_label : byte (restamp s) (8 * count (restamp s) + 1) ≡ 2
  unfolding cell_at
  restamp_label = ap (λ (c : Cell). c.label) restamp_trailer

  pub restamp_version : version_of (restamp s) ≡ Two
  restamp_version = rw restamp_label

  pub restamp_root : root_of (restamp s) ≡ root_of s
  unfolding cell_at
  restamp_root = ap (λ (c : Cell). c.b) restamp_trailer

  pub restamp_sort : (o : Sort) (i : ℕ) → i < count s → has_sort (restamp s) o i ≡ has_sort s o i
  restamp_sort = extended_sort s (restamp s) (count s) restamp_cell

  pub restamp_tree : (i : ℕ) → i < count s → tree_at (restamp s) i ≡ widened One (tree_at s i)
  restamp_tree = extended_tree s (restamp s) (count s) restamp_cell

  -- ---- of a book past rows 2 to 8

  module _ (w : WellFormedCells s) where
    pub restamp_formed : WellFormedCells (restamp s)
    unfolding cell_at
    restamp_formed =
        record {
          long = rw restamp_length (omega (arith, w.long));
          short = rw restamp_length (omega (arith, w.short));
          whole = rw restamp_length (omega arith);
          mark = ap (λ (c : Cell). c.kind) restamp_trailer;
          version = rw restamp_version restamp_label;
          zeros = ap (λ (c : Cell). c.c) restamp_trailer;
          counted = ap (λ (c : Cell). c.a) restamp_trailer ∙ sym restamp_count;
          rooted = rw (restamp_root, restamp_count) w.rooted;
          sound = λ i l. rw restamp_version
              (let h : i < count s = omega (arith, l, restamp_count) in
              extended_sound s (restamp s) (count s) restamp_cell (version_of s) i h (w.sound i h));
        }

    pub restamp_bytes : IsBytes s → IsBytes (restamp s)
    unfolding restamp trailer cell_bytes
    restamp_bytes y =
        let n : count s < 65536 = omega (arith, w.short) in
        is_bytes
        (bytes_append (extended_bytes s y (count s) 0)
        (cell_bytes_lem (record { kind = 0xf0; label = 2; a = count s; b = root_of s; c = 0 }) (lit< tt) (lit< tt) n (omega (arith, w.rooted)) (lit< tt)))

  -- ---- of a well-formed version 1 book

  module _ (y : IsBytes s) (w : WellFormed s) (v : version_of s ≡ One) where
    fits_32 : TermFits (half_of One) (root_term s)
    fits_32 = rw v at (root_term_fits s y w)

    root_tree : tree_at (restamp s) (root_of (restamp s)) ≡ from_term (root_term s)
    root_tree =
        rw restamp_root (restamp_tree (root_of s) w.formed.rooted)
        ∙ ap (widened One) (sym (rw v at (root_term_tree s y w)))
        ∙ term_widened One (root_term s) fits_32

    pub restamp_well_formed : WellFormed (restamp s)
    restamp_well_formed =
        record {
          formed = restamp_formed w.formed;
          term = rw restamp_root (restamp_sort term_sort (root_of s) w.formed.rooted ∙ w.term);
          small = rw (root_tree, term_cells Two (root_term s)) (root_term_small s y w);
        }

    pub restamp_root_term : root_term (restamp s) ≡ root_term s
    unfolding root_term
    restamp_root_term = rw restamp_version (ap (to_term_in Two) root_tree ∙ term_back Two (root_term s) (fits_wider (lit≤ tt) (root_term s) fits_32))

-- ---- the cells of a book, its trailer not among them

pub wide_cell_lem : (v : Version) (b : List ℕ) (n i : ℕ) → length b ≡ 8 * n → i < n → cell_at (wide_cells v b) i ≡ wide_cell v (cell_at b i)
wide_cell_lem One b n i l h =
    let m : length b / 8 ≡ n = omega arith in
    let q : i < length b / 8 = omega (arith, m) in
    rw append-nil at (extended_cell b [] (length b / 8) i q)
wide_cell_lem Two b n i l h = refl

pub wide_sound : (v : Version) (b : List ℕ) (n : ℕ) → length b ≡ 8 * n → (i : ℕ) → i < n → cell_fault v b i ≡ none → cell_fault Two (wide_cells v b) i ≡ none
wide_sound One b n l i h f = extended_sound b (wide_cells One b) n (λ j k. wide_cell_lem One b n j l k) One i h f
wide_sound Two b n l i h f = f

pub wide_bytes : (v : Version) (b : List ℕ) → IsBytes b → IsBytes (wide_cells v b)
wide_bytes One b y = is_bytes (extended_bytes b y (length b / 8) 0)
wide_bytes Two b y = y

pub wide_sort : (v : Version) (b : List ℕ) (n : ℕ) → length b ≡ 8 * n → (o : Sort) (i : ℕ) → i < n → has_sort (wide_cells v b) o i ≡ has_sort b o i
wide_sort One b n l = extended_sort b (wide_cells One b) n (λ j k. wide_cell_lem One b n j l k)
wide_sort Two b n l = λ o i h. refl

pub wide_tree : (v : Version) (b : List ℕ) (n : ℕ) → length b ≡ 8 * n → (i : ℕ) → i < n → tree_at (wide_cells v b) i ≡ widened v (tree_at b i)
unfolding widened
wide_tree One b n l = extended_tree b (wide_cells One b) n (λ j k. wide_cell_lem One b n j l k)
wide_tree Two b n l = λ i h. refl

-- a number refers to nothing
leads_extended : (i : ℕ) (t : Cell) (f : ℕ) → leads_to i (extended t) f ≡ leads_to i t f
unfolding row_for row_in table
leads_extended i t f = by_kind (λ x. leads_to i x f ≡ leads_to i t f) t (λ e. go e f) (λ e. refl)
  where
    go : t.kind ≡ 17 → (f : ℕ) → leads_to i (wide t) f ≡ leads_to i t f
    go e zero = rw e
    go e (suc zero) = rw e
    go e (suc (suc f)) = rw e

pub leads_wide : (v : Version) (b : List ℕ) (n : ℕ) → length b ≡ 8 * n → (i f : ℕ) → i < n → leads_to i (cell_at (wide_cells v b) i) f ≡ leads_to i (cell_at b i) f
leads_wide One b n l i f h = ap (λ (t : Cell). leads_to i t f) (wide_cell_lem One b n i l h) ∙ leads_extended i (cell_at b i) f
leads_wide Two b n l i f h = refl
