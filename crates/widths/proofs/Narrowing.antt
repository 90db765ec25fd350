-- Numbers extended and narrowed, cell by cell: an encoded term whose number cells are narrowed is encoded as version 1 has it. Assumes nothing.
use Prim.Native.Nat.{ℕ, zero, suc, ◌+◌, ◌*◌, ◌/◌, ◌%◌, ◌≤◌, ◌<◌}
use native.Mathlib.Nat.{add-zero, add_assoc}
use native.Mathlib.Numerals.{add-one, towards_suc}
use native.Mathlib.Omega.{arith}
use mathlib.Core.Path.{◌≡◌, refl, sym, ap, ◌∙◌}
use mathlib.Core.Bool.{false}
use mathlib.Core.List.{List, [], ◌++◌, append_assoc, append-nil}
use borrow.Author.Tests.{ne_eqb}
use lib.Dec.{eqb}
use lib.ListN.{length, take, drop, length-append}
use lib.Seq.{sets, sets-eq, length-sets, take_at, take_all, drop_at, drop-drop, get_or-drop, set-get_or}
use Rattle.calculus.specs.Syntax.{Ty, int, top, arrow, inter, field}
use Rattle.calculus.specs.Syntax.{Term, var, lit, unit, anno, app, lam, merge, fix, rcd, proj, sum, choice}
use Rattle.format.specs.declared.Version.{Version}
use Rattle.format.specs.declared.Version.TheVariants.{One, Two}
use Rattle.format.specs.Cell.{IsBytes, byte, pair, Cell, cell_at, cell_bytes}
use Rattle.format.specs.Tree.{Tree, raw, node, cells, refer, encode}
use Rattle.format.specs.Terms.{from_type, from_term_in, from_term}
use Rattle.format.specs.Widths.{wide_cell}
use Rattle.format.proofs.Tests.{cell_fits}
use Rattle.format.proofs.Encoding.{Part, part_left, part_right, cell_back, length_encode}
use Rattle.format.proofs.Widths.{narrowed, term_narrowed}
use Rattle.widths.specs.Narrowing.{narrow_cell, NarrowsCell, Narrows}

-- ---- one cell

-- only a number is extended
pub wide_other : (v : Version) (t : Cell) → (t.kind ≡ 17 → ⊥) → wide_cell v t ≡ t
wide_other One t n = rw (ne_eqb t.kind 17 n)
wide_other Two t n = refl

-- a cell's bytes, stored where they are
same_stored : (s : List ℕ) (i : ℕ) → IsBytes s → sets s (8 * i) (cell_bytes (cell_at s i)) ≡ s
unfolding cell_at cell_bytes
same_stored s i y =
    simp (low (8 * i + 2), high (8 * i + 2), low (8 * i + 4), high (8 * i + 4), low (8 * i + 6), high (8 * i + 6)) (simp (towards_suc, set-get_or))
  where
    low : (p : ℕ) → pair s p % 256 ≡ byte s p
    low p = omega (arith, y p)

    high : (p : ℕ) → pair s p / 256 ≡ byte s (p + 1)
    high p = omega (arith, y p, y (p + 1))

-- the fields of a cell that was read fit its bytes
pub fields_fit : (d : List ℕ) (i : ℕ) {t : Cell} → IsBytes d → t ≡ cell_at d i → (t.a < 65536) × (t.b < 65536) × (t.c < 65536)
fields_fit d i y q = let f = cell_fits d y i in rw q (f.1, f.2, f.3)

pub number_narrows : {d e : List ℕ} {i : ℕ} {t : Cell} → t ≡ cell_at d i → byte d (8 * i) ≡ 17
    → e ≡ sets d (8 * i) (cell_bytes (record { kind = t.kind; label = t.label; a = 0; b = t.a; c = t.b })) → NarrowsCell d e i
unfolding cell_at
number_narrows {d} {i = i} q k e = record { is = e ∙ rw (q, k) refl }

pub other_narrows : {d : List ℕ} {i : ℕ} → IsBytes d → (byte d (8 * i) ≡ 17 → ⊥) → NarrowsCell d d i
unfolding cell_at
other_narrows {d} {i} y n = record { is = rw (ne_eqb (byte d (8 * i)) 17 n) (sym (same_stored d i y)) }

-- ---- the first n cells

-- All of them narrowed.
unfoldable pub narrowed_cells : List ℕ → ℕ → List ℕ
narrowed_cells s zero = []
narrowed_cells s (suc n) = narrowed_cells s n ++ cell_bytes (narrow_cell (cell_at s n))

length_narrowed : (s : List ℕ) (n : ℕ) → length (narrowed_cells s n) ≡ 8 * n
unfolding narrowed_cells cell_bytes
length_narrowed s zero = refl
length_narrowed s (suc n) = simp length-append (omega (arith, length_narrowed s n))

-- They are narrowed in e, and those behind them are as they were.
pub record Narrowing (d e : List ℕ) (n : ℕ) : Type 0 where
  pub long : length e ≡ length d
  pub first : take (8 * n) e ≡ narrowed_cells d n
  pub rest : drop (8 * n) e ≡ drop (8 * n) d

pub narrowing_none : (d : List ℕ) → Narrowing d d 0
unfolding narrowed_cells
narrowing_none d = record { long = refl; first = refl; rest = refl }

-- a cell is by the bytes from it on
same_from : (s t : List ℕ) (i : ℕ) → drop (8 * i) s ≡ drop (8 * i) t → cell_at s i ≡ cell_at t i
unfolding cell_at
same_from s t i q =
    λ j. record { kind = (rw add-zero at (at 0)) j; label = at 1 j; a = two 2 j; b = two 4 j; c = two 6 j }
  where
    at : (n : ℕ) → byte s (8 * i + n) ≡ byte t (8 * i + n)
    at n = sym (get_or-drop (8 * i) s n 0) ∙ ap (λ (x : List ℕ). byte x n) q ∙ get_or-drop (8 * i) t n 0

    two : (n : ℕ) → pair s (8 * i + n) ≡ pair t (8 * i + n)
    two n = rw add_assoc (cc (at n, at (n + 1)))

pub narrowing_more : {d e g : List ℕ} {i : ℕ} → 8 * i + 8 ≤ length d → Narrowing d e i → NarrowsCell e g i → Narrowing d g (suc i)
unfolding narrowed_cells cell_bytes
narrowing_more {d} {e} {g} {i} h p q =
    let long = length_narrowed d (suc i) in
    record {
      long = ap length q.is ∙ simp length-sets p.long;
      first = rw split (take_at (narrowed_cells d (suc i)) (drop (8 * suc i) d) (8 * suc i) long);
      rest = rw split (drop_at (narrowed_cells d (suc i)) (drop (8 * suc i) d) (8 * suc i) long);
    }
  where
    x : List ℕ
    x = cell_bytes (narrow_cell (cell_at d i))

    next : 8 * i + 8 ≡ 8 * suc i
    next = omega arith

    behind : drop (8 * i + 8) e ≡ drop (8 * suc i) d
    behind = sym (drop-drop 8 (8 * i) e) ∙ ap (drop 8) p.rest ∙ drop-drop 8 (8 * i) d ∙ ap (λ n. drop n d) next

    split : g ≡ narrowed_cells d (suc i) ++ drop (8 * suc i) d
    split = rw (same_from e d i p.rest, sets-eq x e (8 * i) (omega (arith, p.long)), p.first, behind) at q.is

-- ---- an encoded term

-- The fields of a number are no references.
data Plain : Tree → Type 0 where
  leaf : {x : ℕ} → Plain (raw x)
  number : {l x y z : ℕ} → Plain (node 17 l (raw x) (raw y) (raw z))
  other : {k l : ℕ} {a b c : Tree} → eqb k 17 ≡ false → Plain a → Plain b → Plain c → Plain (node k l a b c)

type_plain : (A : Ty) → Plain (from_type A)
unfolding from_type
type_plain int = other refl leaf leaf leaf
type_plain top = other refl leaf leaf leaf
type_plain (arrow A B) = other refl (type_plain A) (type_plain B) leaf
type_plain (inter A B) = other refl (type_plain A) (type_plain B) leaf
type_plain (field l A) = other refl (type_plain A) leaf leaf

term_plain : (e : Term) → Plain (from_term e)
unfolding from_term_in
term_plain (var n) = other refl leaf leaf leaf
term_plain (lit z) = number
term_plain unit = other refl leaf leaf leaf
term_plain (anno e A) = other refl (term_plain e) (type_plain A) leaf
term_plain (app e f) = other refl (term_plain e) (term_plain f) leaf
term_plain (lam e A B) = other refl (term_plain e) (type_plain A) (type_plain B)
term_plain (merge e f) = other refl (term_plain e) (term_plain f) leaf
term_plain (fix e A) = other refl (term_plain e) (type_plain A) leaf
term_plain (rcd l e) = other refl (term_plain e) leaf leaf
term_plain (proj l e) = other refl (term_plain e) leaf leaf
term_plain (sum e f) = other refl (term_plain e) (term_plain f) leaf
term_plain (choice e f g) = other refl (term_plain e) (term_plain f) (term_plain g)

-- A narrowed tree has as many cells, and the references to it stay;
same_size : {t : Tree} → Plain t → cells (narrowed One t) ≡ cells t
unfolding narrowed cells
same_size leaf = refl
same_size number = refl
same_size (other q a b c) = rw (q, same_size a, same_size b, same_size c)

same_refer : {t : Tree} (m : ℕ) → Plain t → refer m (narrowed One t) ≡ refer m t
unfolding narrowed cells refer
same_refer m leaf = refl
same_refer m number = refl
same_refer m (other q a b c) = rw (q, same_size a, same_size b, same_size c)

-- so, encoded, it is the cells of the tree, each narrowed.
encode_narrowed : {s : List ℕ} {m : ℕ} {t : Tree} → Plain t → Part s m (encode m t)
    → narrowed_cells s (m + cells t) ≡ narrowed_cells s m ++ encode m (narrowed One t)
unfolding narrowed_cells narrowed cells refer encode
encode_narrowed leaf p = rw (add-zero, append-nil)
encode_narrowed number p = rw add-one (rw (cell_back _ p) refl)
encode_narrowed {s = s} {m = m} (other {a = a} {b = b} {c = c} q na nb nc) p =
    let pb = part_right (cells a) (encode m a) _ (length_encode m a) p in
    let pc = part_right (cells b) (encode (m + cells a) b) _ (length_encode (m + cells a) b) pb in
    let pd = part_right (cells c) (encode (m + cells a + cells b) c) _ (length_encode (m + cells a + cells b) c) pc in
    let fa = encode_narrowed {m = m} na (part_left (encode m a) _ p) in
    let fb = encode_narrowed {m = m + cells a} nb (part_left (encode (m + cells a) b) _ pb) in
    let fc = encode_narrowed {m = m + cells a + cells b} nc (part_left (encode (m + cells a + cells b) c) _ pc) in
    let end : m + (1 + (cells a + cells b + cells c)) ≡ suc (m + cells a + cells b + cells c) = omega arith in
    rw (end, cell_back _ pd, fc, fb, fa, q, same_size na, same_size nb, same_refer m na, same_refer (m + cells a) nb, same_refer (m + cells a + cells b) nc)
    (simp append_assoc)

pub narrowing_all : {d e : List ℕ} → Narrowing d e (length d / 8) → Narrows d e
unfolding narrowed_cells
narrowing_all {d} {e} p =
    record {
      long = p.long;
      says = λ f h s.
          let t = from_term f in
          let z : length d ≡ 8 * cells t = ap length s ∙ length_encode 0 t in
          let n : length d / 8 ≡ 0 + cells t = omega (arith, z) in
          let there : Part d 0 (encode 0 t) = record { before = []; after = []; starts = refl; split = s ∙ sym (append-nil (encode 0 t)) } in
          sym (take_all (8 * (length d / 8)) e (omega (arith, p.long, z)))
          ∙ p.first ∙ ap (narrowed_cells d) n ∙ encode_narrowed (term_plain f) there ∙ ap (encode 0) (term_narrowed One f h);
    }
