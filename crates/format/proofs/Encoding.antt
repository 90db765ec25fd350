-- A tree encoded in cells, read again: over kind and field, with no word of any one kind. What a tree needs for it is `Good`.
-- Assumes nothing.
use Prim.Native.Nat.{ℕ, zero, suc, ◌+◌, ◌*◌, ◌/◌, ◌%◌, ◌≤◌, ◌<◌}
use native.Mathlib.Nat.{add-zero, add-suc, suc-add, add_assoc}
use native.Mathlib.Decide.{dec_lt}
use native.Mathlib.Omega.{arith}
use mathlib.Core.Path.{◌≡◌, refl, sym, ◌∙◌}
use mathlib.Core.Bool.{true}
use mathlib.Core.Option.{none, some}
use mathlib.Core.List.{List, [], ◌∷◌, ◌++◌, append_assoc}
use lib.ListN.{length, length-append}
use lib.Seq.{get_or-append-add, sets}
use Rattle.format.specs.declared.Version.{Version}
use Rattle.format.specs.Table.{Sort, Use, unused, plain, refers, Row, row_for}
use Rattle.format.specs.Cell.{IsBytes, byte, pair, Cell, cell_at, cell_bytes}
use Rattle.format.specs.Tree.{Tree, raw, node, cells, field_tree, cell_tree, tree_at, refer, encode}
use Rattle.format.specs.Book.{has_sort, cell_fault}
use Rattle.format.proofs.Unsharing.{field_tree_lower, tree_at_cell}
use Rattle.format.proofs.Tests.{sort_is_says, FieldOk, cell_fault_says, looser_row, tree_looser}

-- a run of stores, and then another behind it
pub sets_append : (x y l : List ℕ) (i : ℕ) → sets l i (x ++ y) ≡ sets (sets l i x) (i + length x) y
sets_append [] y l i = rw add-zero
sets_append (a ∷ x) y l i = rw (add-suc, ← suc-add) (sets_append x y (sets l i (a ∷ [])) (suc i))

-- a number below n in a field that refers to nothing
pub data Number (n : ℕ) : Use → ℕ → Type 0 where
  blank : Number n unused 0
  number : {x : ℕ} → x < n → Number n plain x

-- a tree in a field, as the table of kinds will have it in a version, all its numbers fitting their fields
pub data Good (v : Version) : Use → Tree → Type 0 where
  leaf : {u : Use} {x : ℕ} → Number 65536 u x → Good v u (raw x)
  cell : {k l : ℕ} {a b c : Tree} {s : Sort} {r : Row} → row_for v k ≡ some r → r.sort ≡ s → k < 256 → Number 256 r.label l
      → Good v r.a a → Good v r.b b → Good v r.c c → Good v (refers s) (node k l a b c)

-- The bytes x stand in s from cell m on.
pub record Part (s : List ℕ) (m : ℕ) (x : List ℕ) : Type 0 where
  pub before : List ℕ
  pub after : List ℕ
  pub starts : length before ≡ 8 * m
  pub split : s ≡ before ++ (x ++ after)

pub part_left : {s : List ℕ} {m : ℕ} (x y : List ℕ) → Part s m (x ++ y) → Part s m x
part_left x y p =
    record { before = p.before; after = y ++ p.after; starts = p.starts; split = p.split ∙ simp append_assoc }

pub part_right : {s : List ℕ} {m : ℕ} (n : ℕ) (x y : List ℕ) → length x ≡ 8 * n → Part s m (x ++ y) → Part s (m + n) y
part_right n x y e p =
    record {
      before = p.before ++ x;
      after = p.after;
      starts = simp length-append (omega (arith, p.starts));
      split = p.split ∙ simp append_assoc;
    }

pub part_byte : {s : List ℕ} {m : ℕ} {x : List ℕ} (p : Part s m x) (j : ℕ) → byte s (8 * m + j) ≡ byte (x ++ p.after) j
part_byte {x = x} p j = rw (p.split, ← p.starts) (get_or-append-add p.before (x ++ p.after) j 0)

part_pair : {s : List ℕ} {m : ℕ} {x : List ℕ} (p : Part s m x) (j : ℕ) → pair s (8 * m + j) ≡ pair (x ++ p.after) j
part_pair p j = rw (add_assoc, part_byte p j, part_byte p (j + 1))

two_bytes : (x : ℕ) → x % 256 + 256 * (x / 256) ≡ x
two_bytes x = omega arith

-- a cell's bytes hold the cell
pub cell_back : {s : List ℕ} {m : ℕ} (t : Cell) → Part s m (cell_bytes t) → cell_at s m ≡ t
unfolding cell_at cell_bytes
cell_back t p =
    λ i. record {
      kind = (rw add-zero at (part_byte p 0)) i;
      label = part_byte p 1 i;
      a = (part_pair p 2 ∙ two_bytes t.a) i;
      b = (part_pair p 4 ∙ two_bytes t.b) i;
      c = (part_pair p 6 ∙ two_bytes t.c) i;
    }

pub length_encode : (m : ℕ) (t : Tree) → length (encode m t) ≡ 8 * cells t
unfolding encode cells cell_bytes
length_encode m (raw x) = refl
length_encode m (node k l a b c) =
    let ea = length_encode m a in
    let eb = length_encode (m + cells a) b in
    let ec = length_encode (m + cells a + cells b) c in
    simp length-append (omega arith)

-- No cell from m on and before n has a fault.
abbrev pub Sound : Version → List ℕ → ℕ → ℕ → Type 0
Sound v s m n = (i : ℕ) → m ≤ i → i < n → cell_fault v s i ≡ none

sound_join : (v : Version) (s : List ℕ) (m x n : ℕ) → Sound v s m x → Sound v s x n → Sound v s m n
sound_join v s m x n f g i l h = elim (dec_lt i x) [ yes p ↦ f i l p | no p ↦ g i (omega arith) h ]

-- What holds of a good tree of use u that stands in s from cell m on; i is any cell behind it.
pub record Encoded (v : Version) (s : List ℕ) (m : ℕ) (u : Use) (t : Tree) : Type 0 where
  pub passes : (i : ℕ) → m + cells t ≤ i → FieldOk s i u (refer m t)
  pub decodes : (i : ℕ) → m + cells t ≤ i → field_tree (tree_at s) i u (refer m t) ≡ t
  pub sound : Sound v s m (m + cells t)

number_passes : (s : List ℕ) (i : ℕ) {n : ℕ} {u : Use} {x : ℕ} → Number n u x → FieldOk s i u x
number_passes s i blank = refl
number_passes s i (number h) = tt

number_field_tree : (g : ℕ → Tree) (i : ℕ) {n : ℕ} {u : Use} {x : ℕ} → Number n u x → field_tree g i u x ≡ raw x
unfolding field_tree
number_field_tree g i blank = refl
number_field_tree g i (number h) = refl

-- the step of `padded`: the three fields are encoded one after the other, and then the cell
encoded_cell : {v : Version} {s : List ℕ} {m k l : ℕ} {a b c : Tree} {so : Sort} {r : Row} → row_for v k ≡ some r → r.sort ≡ so → Number 256 r.label l
    → Encoded v s m r.a a
    → Encoded v s (m + cells a) r.b b
    → Encoded v s (m + cells a + cells b) r.c c
    → cell_at s (refer m (node k l a b c))
    ≡ record { kind = k; label = l; a = refer m a; b = refer (m + cells a) b; c = refer (m + cells a + cells b) c }
    → Encoded v s m (refers so) (node k l a b c)
unfolding cells refer cell_tree
encoded_cell {v} {s} {m} {k} {l} {a} {b} {c} {so} {r} e f hl la lb lc q =
    let n = refer m (node k l a b c) in
    let z = looser_row v k r e in
    record {
      passes = λ i h. (omega arith, rw (q, z.1) ((sort_is_says so z.0).1 (sym z.2.sort ∙ f)));
      decodes = λ i h. field_tree_lower (tree_at s) i n so (omega arith)
          ∙ tree_at_cell s n
          ∙ rw (q, z.1, ← tree_looser z.2.a, ← tree_looser z.2.b, ← tree_looser z.2.c, la.decodes n (omega arith), lb.decodes n (omega arith), lc.decodes n (omega arith));
      sound = sound_join v s m (m + cells a) _ la.sound
          (sound_join v s (m + cells a) (m + cells a + cells b) _ lb.sound
          (sound_join v s (m + cells a + cells b) n _ (λ i g h. lc.sound i g (omega arith))
          (λ i g h. rw (last i g h) ((cell_fault_says v s n).1 (record {
            row = r;
            found = rw q e;
            fields = rw q (record {
              label = number_passes s n hl;
              a = la.passes n (omega arith);
              b = lb.passes n (omega arith);
              c = lc.passes n (omega arith);
            });
          })))));
    }
  where
    last : (i : ℕ) → refer m (node k l a b c) ≤ i → i < m + cells (node k l a b c) → i ≡ refer m (node k l a b c)
    last i g h = omega arith

pub padded : {v : Version} {s : List ℕ} {m : ℕ} {u : Use} {t : Tree} → Good v u t → Part s m (encode m t) → Encoded v s m u t
unfolding cells refer encode
padded {s = s} (leaf h) p =
    record { passes = λ i l. number_passes s i h; decodes = λ i l. number_field_tree (tree_at s) i h; sound = λ i l g. absurd (omega arith) }
padded {m = m} (cell {a = a} {b = b} {c = c} e f h hl ga gb gc) p =
    let pb = part_right (cells a) (encode m a) _ (length_encode m a) p in
    let pc = part_right (cells b) (encode (m + cells a) b) _ (length_encode (m + cells a) b) pb in
    let pd = part_right (cells c) (encode (m + cells a + cells b) c) _ (length_encode (m + cells a + cells b) c) pc in
    let end : m + cells a + cells b + cells c ≡ m + (cells a + cells b + cells c) = omega arith in
    encoded_cell e f hl (padded ga (part_left (encode m a) _ p)) (padded {m = m + cells a} gb (part_left (encode (m + cells a) b) _ pb))
    (padded {m = m + cells a + cells b} gc (part_left (encode (m + cells a + cells b) c) _ pc)) (cell_back _ (rw end at pd))

-- Of a tree that has a cell: the cell that stands for it is its last, decodes to it and is of its sort.
pub root_last : {v : Version} {s : Sort} {t : Tree} (m : ℕ) → Good v (refers s) t → suc (refer m t) ≡ m + cells t
unfolding cells refer
root_last m (cell e f h hl ga gb gc) = omega arith
root_last m (leaf x) = elim x [ ]

pub root_decodes : {v : Version} {s : List ℕ} {m : ℕ} {so : Sort} {t : Tree} → Encoded v s m (refers so) t → tree_at s (refer m t) ≡ t
root_decodes {s = s} {m} {so} {t} l =
    let i = m + cells t in
    sym (field_tree_lower (tree_at s) i (refer m t) so (l.passes i (omega arith)).0) ∙ l.decodes i (omega arith)

pub root_sorted : {v : Version} {s : List ℕ} {m : ℕ} {so : Sort} {t : Tree} → Encoded v s m (refers so) t → has_sort s so (refer m t) ≡ true
root_sorted {m = m} {t = t} l = (l.passes (m + cells t) (omega arith)).1

-- every element is a byte, by the shape of the list
pub data Bytes : List ℕ → Type 0 where
  empty : Bytes []
  byte_then : {n : ℕ} {x : List ℕ} → n < 256 → Bytes x → Bytes (n ∷ x)

pub is_bytes : {x : List ℕ} → Bytes x → IsBytes x
is_bytes empty i = omega arith
is_bytes (byte_then h p) zero = h
is_bytes (byte_then h p) (suc i) = is_bytes p i

pub bytes_append : {x y : List ℕ} → Bytes x → Bytes y → Bytes (x ++ y)
bytes_append empty q = q
bytes_append (byte_then h p) q = byte_then h (bytes_append p q)

pair_then : {n : ℕ} {x : List ℕ} → n < 65536 → Bytes x → Bytes (n % 256 ∷ n / 256 ∷ x)
pair_then {n} h p = byte_then {n = n % 256} (omega arith) (byte_then {n = n / 256} (omega arith) p)

pub cell_bytes_lem : (t : Cell) → t.kind < 256 → t.label < 256 → t.a < 65536 → t.b < 65536 → t.c < 65536 → Bytes (cell_bytes t)
unfolding cell_bytes
cell_bytes_lem t k l a b c = byte_then k (byte_then l (pair_then a (pair_then b (pair_then c empty))))

number_fits : {n : ℕ} {u : Use} {x : ℕ} → Number n u x → 0 < n → x < n
number_fits blank h = h
number_fits (number f) h = f

refer_fits : {v : Version} {u : Use} {t : Tree} (m : ℕ) → Good v u t → m + cells t ≤ 65536 → refer m t < 65536
unfolding cells refer
refer_fits m (leaf h) l = number_fits h (omega arith)
refer_fits m (cell e f h hl ga gb gc) l = omega arith

pub encode_bytes : {v : Version} {u : Use} {t : Tree} (m : ℕ) → Good v u t → m + cells t ≤ 65536 → Bytes (encode m t)
unfolding cells encode
encode_bytes m (leaf h) f = empty
encode_bytes m (cell {a = a} {b = b} {c = c} e f h hl ga gb gc) n =
    let m' = m + cells a in
    let m'' = m + cells a + cells b in
    bytes_append (encode_bytes m ga (omega arith))
    (bytes_append (encode_bytes m' gb (omega arith))
    (bytes_append (encode_bytes m'' gc (omega arith))
    (cell_bytes_lem _ h (number_fits hl (omega arith)) (refer_fits m ga (omega arith)) (refer_fits m' gb (omega arith))
    (refer_fits m'' gc (omega arith)))))
