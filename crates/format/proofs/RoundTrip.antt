-- A term or type of at most 4,095 cells whose labels, indices and numbers fit, encoded, is as specs/RoundTrip says. Assumes nothing.
use Prim.Native.Nat.{ℕ, ◌+◌, ◌*◌, ◌-◌, ◌/◌, ◌%◌, ◌≤◌, ◌<◌}
use native.Mathlib.Omega.{arith}
use mathlib.Core.Path.{◌≡◌, refl, sym, ap, ◌∙◌}
use mathlib.Core.Bool.{true}
use mathlib.Core.List.{[]}
use lib.Dec.{lit<}
use lib.ListN.{length, length-append}
use Rattle.calculus.specs.Syntax.{Ty, int, top, arrow, inter, field, size_type}
use Rattle.calculus.specs.Syntax.{Term, var, lit, unit, anno, app, lam, merge, fix, rcd, proj, sum, choice, size}
use Rattle.format.specs.declared.Version.{Version}
use Rattle.format.specs.declared.Version.TheVariants.{One, Two}
use Rattle.format.specs.Version.{version_byte_lem, half_of}
use Rattle.format.specs.Table.{Sort, type_sort, term_sort, Use, unused, refers, row_for, row_in, table}
use Rattle.format.specs.Cell.{IsBytes, unsigned, byte, Cell, cell_at, cell_bytes}
use Rattle.format.specs.Tree.{Tree, raw, cells, tree_at, refer, encode}
use Rattle.format.specs.Terms.{from_type, number_tree, from_term_in, to_type, to_term_in, TypeFits, TermFits}
use Rattle.format.specs.Book.{size_limit, count, trailer_at, version_of, has_sort, WellFormedCells, root_term, root_of, trailer, book}
use Rattle.format.specs.RoundTrip.{TermRoundTrip, TypeRoundTrip}
use Rattle.format.proofs.Numbers.{unsigned_fits}
use Rattle.format.proofs.Trees.{type_cells, term_cells, type_back, term_back}
use Rattle.format.proofs.Encoding.{blank, number, Good, leaf, cell, cell_back, length_encode, Encoded, padded}
use Rattle.format.proofs.Encoding.{root_last, root_decodes, root_sorted, is_bytes, bytes_append, cell_bytes_lem, encode_bytes}

-- a field that its kind does not name
nothing : {v : Version} → Good v unused (raw 0)
nothing = leaf blank

-- Kind by kind, and only here: the trees of types and of terms are good.
pub type_good : (v : Version) (A : Ty) → TypeFits A → Good v (refers type_sort) (from_type A)
unfolding from_type row_for row_in table
type_good v int f = cell refl refl (lit< tt) blank nothing nothing nothing
type_good v top f = cell refl refl (lit< tt) blank nothing nothing nothing
type_good v (arrow A B) f = cell refl refl (lit< tt) blank (type_good v A f.0) (type_good v B f.1) nothing
type_good v (inter A B) f = cell refl refl (lit< tt) blank (type_good v A f.0) (type_good v B f.1) nothing
type_good v (field l A) f = cell refl refl (lit< tt) (number f.0) (type_good v A f.1) nothing nothing

number_good : (v : Version) (n : ℕ) → n < 2 * half_of v → Good v (refers term_sort) (number_tree v n)
unfolding row_for row_in table
number_good One n f =
    let low : n % 65536 < 65536 = omega arith in
    let high : n / 65536 < 65536 = omega arith in
    cell refl refl (lit< tt) blank nothing (leaf (number low)) (leaf (number high))
number_good Two n f =
    let low : n % 65536 < 65536 = omega arith in
    let middle : n / 65536 % 65536 < 65536 = omega arith in
    let high : n / 65536 / 65536 < 65536 = omega arith in
    cell refl refl (lit< tt) blank (leaf (number low)) (leaf (number middle)) (leaf (number high))

pub term_good : (v : Version) (e : Term) → TermFits (half_of v) e → Good v (refers term_sort) (from_term_in v e)
unfolding from_term_in row_for row_in table
term_good v (var n) f = cell refl refl (lit< tt) blank (leaf (number f)) nothing nothing
term_good v (lit z) f = number_good v (unsigned (half_of v) z) (unsigned_fits (half_of v) z f)
term_good v unit f = cell refl refl (lit< tt) blank nothing nothing nothing
term_good v (anno e A) f = cell refl refl (lit< tt) blank (term_good v e f.0) (type_good v A f.1) nothing
term_good v (app e g) f = cell refl refl (lit< tt) blank (term_good v e f.0) (term_good v g f.1) nothing
term_good v (lam e A B) f = cell refl refl (lit< tt) blank (term_good v e f.0) (type_good v A f.1) (type_good v B f.2)
term_good v (merge e g) f = cell refl refl (lit< tt) blank (term_good v e f.0) (term_good v g f.1) nothing
term_good v (fix e A) f = cell refl refl (lit< tt) blank (term_good v e f.0) (type_good v A f.1) nothing
term_good v (rcd l e) f = cell refl refl (lit< tt) (number f.0) (term_good v e f.1) nothing nothing
term_good v (proj l e) f = cell refl refl (lit< tt) (number f.0) (term_good v e f.1) nothing nothing
term_good v (sum e g) f = cell refl refl (lit< tt) blank (term_good v e f.0) (term_good v g f.1) nothing
term_good v (choice e g h) f = cell refl refl (lit< tt) blank (term_good v e f.0) (term_good v g f.1) (term_good v h f.2)

pub book_length : (v : Version) (t : Tree) → length (book v t) ≡ 8 * (cells t + 1)
unfolding book trailer
book_length v t = simp (length-append, length_encode) (omega arith)

pub book_count : (v : Version) (t : Tree) → count (book v t) ≡ cells t
book_count v t = rw (book_length v t) (omega arith)

-- The trailer is written as a cell is.
abbrev pub trailer_cell : Version → ℕ → Cell
trailer_cell v n = record { kind = 0xf0; label = version_byte_lem v; a = n; b = n - 1; c = 0 }

pub book_trailer : (v : Version) (t : Tree) → cell_at (book v t) (count (book v t)) ≡ trailer_cell v (cells t)
unfolding book trailer cell_bytes
book_trailer v t =
    rw (book_count v t) (cell_back _ (record { before = encode 0 t; after = []; starts = length_encode 0 t; split = refl }))

book_label : (v : Version) (t : Tree) → byte (book v t) (trailer_at (book v t) + 1) ≡ version_byte_lem v
unfolding cell_at
book_label v t = ap (λ (c : Cell). c.label) (book_trailer v t)

pub book_version : (v : Version) (t : Tree) → version_of (book v t) ≡ v
book_version One t = rw (book_label One t)
book_version Two t = rw (book_label Two t)

pub book_root : {v : Version} {s : Sort} {t : Tree} → Good v (refers s) t → root_of (book v t) ≡ refer 0 t
unfolding cell_at
book_root {v} {t = t} g = ap (λ (c : Cell). c.b) (book_trailer v t) ∙ omega (arith, root_last 0 g)

pub byte_fits : (v : Version) → version_byte_lem v < 256
byte_fits One = lit< tt
byte_fits Two = lit< tt

book_bytes : {v : Version} {u : Use} {t : Tree} → Good v u t → cells t ≤ size_limit → IsBytes (book v t)
unfolding book trailer cell_bytes
book_bytes {v} {t = t} g h =
    let last = cell_bytes_lem (trailer_cell v (cells t)) (lit< tt) (byte_fits v) (omega arith) (omega arith) (lit< tt) in
    is_bytes (bytes_append (encode_bytes 0 g (omega arith)) last)

book_cells : {v : Version} {u : Use} {t : Tree} → Good v u t → Encoded v (book v t) 0 u t
unfolding book
book_cells {v} {t = t} g = padded g (record { before = []; after = trailer v (cells t) (cells t - 1); starts = refl; split = refl })

-- What holds of the book of a good tree of a sort.
pub record BookEncoded (v : Version) (s : Sort) (t : Tree) : Type 0 where
  pub bytes : IsBytes (book v t)
  pub version : version_of (book v t) ≡ v
  pub well_formed : WellFormedCells (book v t)
  pub sorted : has_sort (book v t) s (root_of (book v t)) ≡ true
  pub decodes : tree_at (book v t) (root_of (book v t)) ≡ t

pub book_encoded : {v : Version} {s : Sort} {t : Tree} → Good v (refers s) t → cells t ≤ size_limit → BookEncoded v s t
unfolding cell_at
book_encoded {v} {s} {t} g h =
    let root = root_last 0 g in
    record {
      bytes = book_bytes g h;
      version = book_version v t;
      well_formed =
          record {
            long = rw (book_length v t) (omega arith);
            short = rw (book_length v t) (omega arith);
            whole = rw (book_length v t) (omega arith);
            mark = ap (λ (c : Cell). c.kind) (book_trailer v t);
            version = book_label v t ∙ sym (ap version_byte_lem (book_version v t));
            zeros = ap (λ (c : Cell). c.c) (book_trailer v t);
            counted = ap (λ (c : Cell). c.a) (book_trailer v t) ∙ sym (book_count v t);
            rooted = rw (book_root g, book_count v t) (omega arith);
            sound = λ i l. rw (book_version v t) ((book_cells g).sound i (omega arith) (omega (arith, book_count v t)));
          };
      sorted = rw (book_root g) (root_sorted (book_cells g));
      decodes = rw (book_root g) (root_decodes (book_cells g));
    }

pub term_round_trip : (v : Version) (e : Term) → TermFits (half_of v) e → size e ≤ size_limit → TermRoundTrip v e
unfolding root_term
term_round_trip v e f h =
    let b = book_encoded (term_good v e f) (rw (term_cells v e) h) in
    record {
      bytes = b.bytes;
      version = b.version;
      well_formed = record { formed = b.well_formed; term = b.sorted; small = rw (b.decodes, term_cells v e) h };
      decodes = rw b.version (ap (to_term_in v) b.decodes ∙ term_back v e f);
    }

pub type_round_trip : (v : Version) (A : Ty) → TypeFits A → size_type A ≤ size_limit → TypeRoundTrip v A
type_round_trip v A f h =
    let b = book_encoded (type_good v A f) (rw (type_cells A) h) in
    record { bytes = b.bytes; version = b.version; well_formed = b.well_formed; decodes = ap to_type b.decodes ∙ type_back A }
