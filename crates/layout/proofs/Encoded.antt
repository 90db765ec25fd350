-- A tree emitted from cell 0 on lies there, or is too large; with its trailer and zeros behind it, it is encoded as a book. Assumes
-- nothing.
use Prim.Native.Nat.{ℕ, ◌+◌, ◌*◌, ◌-◌, ◌≤◌, ◌<◌, zero-le}
use native.Mathlib.Decide.{dec_le}
use native.Mathlib.Omega.{arith}
use native.Mathlib.Nat.{zero-add}
use mathlib.Core.Path.{◌≡◌, refl, sym, ◌∙◌, ap, subst⁻¹}
use mathlib.Core.Logic.{◌⊎◌, inl, inr}
use mathlib.Core.Bool.{false}
use mathlib.Core.List.{List, [], ◌++◌, append-nil}
use borrow.Rule.Slice.PartMut.{put_mid, mid_of, post_of, Post-is}
use lib.ListN.{length, take, drop, replicate, length-append, length-take, length-drop}
use lib.Seq.{sets, sets-eq, length-sets, take_at, drop-length, length-take-le}
use Rattle.calculus.specs.Syntax.{Term}
use Rattle.format.specs.declared.Version.{Version}
use Rattle.format.specs.declared.Version.TheVariants.{One, Two}
use Rattle.format.specs.Version.{version_byte_lem}
use Rattle.format.specs.Cell.{Cell, cell_bytes}
use Rattle.format.specs.Tree.{Tree, cells, encode}
use Rattle.format.specs.Terms.{from_term_in, from_term}
use Rattle.format.specs.Book.{size_limit, book, trailer}
use Rattle.format.proofs.Encoding.{length_encode}
use Rattle.format.proofs.Trees.{term_cells}
use Rattle.widths.specs.Narrowing.{Narrows}
use Rattle.format.proofs.RoundTrip.{book_length}
use Rattle.answers.specs.Engine.{work_length, zeros, padded}
use Rattle.cells.specs.Coded.{use_of}
use Rattle.cells.specs.declared.Use.{Use}
use Rattle.cells.specs.Held.{HeldField}
use Rattle.emission.specs.Emits.{Emits, EmitsField}
use Rattle.std.specs.Prelude.{Option, Some, None}
use Rattle.std.specs.Option.{unwrap_or}
use Rattle.layout.specs.Encoding.{EncodedTree, EncodeReady, EncodesTree, TrailerReady, SomeTree, Closes, EncodedIn, SomeTerm, ClosesTerm}

-- ---- emitted from cell 0 on

abbrev pub WholeOrFull : List ℕ → Option ℕ → Tree → Type 0
WholeOrFull e r t = ((r ≡ Some (cells t)) × EncodedTree e (cells t) t) ⊎ ((size_limit < cells t) × (r ≡ None))

pub whole_or_full : {d e : List ℕ} {r : Option ℕ} {t : Tree} → 32768 ≤ length d → 1 ≤ cells t → Emits d e 0 r t → WholeOrFull e r t
whole_or_full {d} {e} {r} {t} h k m = go (dec_le (cells t) size_limit)
  where
    same : 0 + cells t ≡ cells t
    same = zero-add (cells t)

    stands : cells t ≤ size_limit → e ≡ sets d 0 (encode 0 t) → EncodedTree e (cells t) t
    stands l q =
        let x = encode 0 t in
        let n : length x ≡ 8 * cells t = length_encode 0 t in
        let y : 0 + length x ≤ length d = omega arith in
        record {
          long = omega (arith, ap length q ∙ length-sets d 0 x, h);
          count = refl;
          some = k;
          small = l;
          encoded = ap (take (8 * cells t)) (q ∙ sets-eq x d 0 y) ∙ take_at x (drop (0 + length x) d) (8 * cells t) n;
        }

    go : Dec (cells t ≤ size_limit) → WholeOrFull e r t
    go (yes l) = let q = m.fits (omega (arith, same)) in inl (q.0 ∙ ap Some same, stands l q.1)
    go (no u) = inr (omega arith, m.full (omega (arith, same)))

-- a held tree that fits can be encoded
pub encode_ready : {s d : List ℕ} {u : Use} {x n : ℕ} {t : Tree} → 32768 ≤ length d → HeldField false s n (use_of u) x t → 1 ≤ cells t → cells t ≤ size_limit →
    EncodeReady s d u x
encode_ready {n = n} {t} h f k l =
    record { field = record { space = record { long = h; used = zero-le }; cell = n; tree = t; holds = f }; some = k; small = l }

module _ {s d e : List ℕ} {u : Use} {x : ℕ} {r : Option ℕ} (p : EncodeReady s d u x) (q : EmitsField s d e u x 0 r) where
  ends : {n : ℕ} (t : Tree) → HeldField false s n (use_of u) x t → 1 ≤ cells t → WholeOrFull e r t
  ends {n} t h k = whole_or_full p.field.space.long k (q.says n t h)

  pub encodes_tree : EncodesTree s e u x (unwrap_or r 0)
  encodes_tree = record { says = λ n t h l m. go t m (ends t h l) }
    where
      go : (t : Tree) → cells t ≤ size_limit → WholeOrFull e r t → EncodedTree e (unwrap_or r 0) t
      go t m (inl o) = rw o.0 o.1
      go t m (inr o) = absurd (omega (arith, o.0, m))

-- ---- closed

abbrev trailer_cell : ℕ → ℕ → Cell
trailer_cell x n = record { kind = 240; label = x; a = n; b = n - 1; c = 0 }

pub trailer_written : (v : Version) (d : List ℕ) (n : ℕ) {e : List ℕ} {x : ℕ} → x ≡ version_byte_lem v → e ≡ sets d (8 * n) (cell_bytes (trailer_cell x n)) → e ≡ sets d (8 * n) (trailer v n (n - 1))
unfolding cell_bytes trailer
trailer_written v d n y q = rw y at q

pub trailer_ready : {d : List ℕ} {n : ℕ} → SomeTree d n → TrailerReady d n
trailer_ready p = let l = p.encoded in record { some = l.some; small = omega (arith, l.small); room = omega (arith, l.small, p.work) }

-- the first n + 1 cells are then the tree's book
book_front : (v : Version) {d e : List ℕ} {n : ℕ} {t : Tree} → EncodedTree d n t → e ≡ sets d (8 * n) (trailer v n (n - 1)) → take (8 * (n + 1)) e ≡ book v t
unfolding cell_bytes book trailer
book_front v {d} {e} {n} {t} l q =
    let T = trailer v n (n - 1) in
    let h : 8 * n + 8 ≤ length d = omega (arith, l.long, l.small) in
    let f : take (8 * n) d ++ T ≡ book v t = ap (λ (x : List ℕ). x ++ T) l.encoded ∙ ap (λ (x : ℕ). encode 0 t ++ trailer v x (x - 1)) l.count in
    let m : length (take (8 * n) d ++ T) ≡ 8 * (n + 1) =
    length-append (take (8 * n) d) T ∙ ap (λ (x : ℕ). x + 8) (length-take-le (8 * n) d (omega arith)) ∙ omega arith in
    ap (take (8 * (n + 1))) (q ∙ sets-eq T d (8 * n) h) ∙ take_at (take (8 * n) d ++ T) (drop (8 * n + 8) d) (8 * (n + 1)) m ∙ f

-- nothing lies after a part that goes to the end
nothing_after : (a : ℕ) (u : List ℕ) → a ≤ length u → post_of a (length u - a) u ≡ []
nothing_after a u h = Post-is a (length u) u h ∙ drop-length u

part_length : (a : ℕ) (u : List ℕ) → a ≤ length u → length (mid_of a (length u - a) u) ≡ length u - a
part_length a u h = simp (length-take, length-drop) (omega arith)

pub closed : (v : Version) {d u z : List ℕ} {n : ℕ} (t : Tree) → length d ≡ 65536 → EncodedTree d n t → u ≡ sets d (8 * n) (trailer v n (n - 1)) →
    z ≡ replicate (length (mid_of (8 * (n + 1)) (length u - 8 * (n + 1)) u)) 0 → put_mid (8 * (n + 1)) (length u - 8 * (n + 1)) u z ≡ padded (book v t)
unfolding padded zeros
closed v {d} {u} {z} {n} t w l q p =
    let a = 8 * (n + 1) in
    let long : length u ≡ 65536 = ap length q ∙ length-sets d (8 * n) (trailer v n (n - 1)) ∙ w in
    let h : a ≤ length u = omega (arith, l.small) in
    let size_is : length (book v t) ≡ a = book_length v t ∙ omega (arith, l.count) in
    let m : length (mid_of a (length u - a) u) ≡ work_length - length (book v t) = part_length a u h ∙ omega arith in
    ap (λ (x : List ℕ). take a u ++ (z ++ x)) (nothing_after a u h)
    ∙ ap (λ (x : List ℕ). take a u ++ x) (append-nil z ∙ p ∙ ap (λ (i : ℕ). replicate i 0) m)
    ∙ ap (λ (x : List ℕ). x ++ replicate (work_length - length (book v t)) 0) (book_front v l q)

-- ---- a term, as a version has it

-- in version 1 its numbers are narrowed first
module _ {d z e : List ℕ} {n : ℕ} (q : Narrows (take (8 * n) d) z) (w : e ≡ z ++ drop (8 * n) d) where
  cells_long : {t : Tree} → EncodedTree d n t → length z ≡ 8 * n
  cells_long l = q.long ∙ length-take-le (8 * n) d (omega (arith, l.long, l.small))

  same_long : {t : Tree} → EncodedTree d n t → length e ≡ length d
  same_long l = ap length w ∙ simp (length-append, length-drop) (omega (arith, l.long, l.small, cells_long l))

  narrowed_term : (f : Term) → EncodedIn One d n f → EncodedTree e n (from_term_in One f)
  narrowed_term f l =
      let c : cells (from_term_in One f) ≡ cells (from_term f) = term_cells One f ∙ sym (term_cells Two f) in
      record {
        long = rw (same_long l.tree) l.tree.long;
        count = l.tree.count ∙ sym c;
        some = l.tree.some;
        small = l.tree.small;
        encoded = ap (take (8 * n)) w ∙ take_at z (drop (8 * n) d) (8 * n) (cells_long l.tree) ∙ q.says f l.fits l.tree.encoded;
      }

  pub narrowed_some : SomeTerm One d n → SomeTree e n
  narrowed_some p = record { work = same_long p.encoded.tree ∙ p.work; tree = _; encoded = narrowed_term p.term p.encoded }

  pub closes_narrowed : {v : Version} {g : List ℕ} → v ≡ One → Closes v e g n → ClosesTerm v d g n
  closes_narrowed {g = g} i h =
      subst⁻¹ (λ (v : Version). ClosesTerm v d g n) i (record { says = λ f l. (rw i at h).says (from_term_in One f) (narrowed_term f l) })
