-- The part of cells before the trailer of a well-formed book has the book's cells, and what they open to. Assumes nothing.
use Prim.Native.Nat.{ℕ, ◌+◌, ◌*◌, ◌/◌, ◌≤◌, ◌<◌}
use mathlib.Core.Path.{◌≡◌, ◌∙◌}
use mathlib.Core.Option.{none}
use mathlib.Core.List.{List}
use native.Mathlib.Omega.{arith}
use lib.ListN.{length, take}
use lib.Seq.{get_or-take, length-take-le}
use Rattle.format.specs.declared.Version.{Version}
use Rattle.format.specs.Table.{Use, unused, plain, refers, Sort}
use Rattle.format.specs.Cell.{byte, pair, cell_at}
use Rattle.format.specs.Tree.{tree_at}
use Rattle.format.specs.Book.{count, version_of, cell_fault, has_sort, WellFormed}
use Rattle.format.proofs.Unsharing.{tree_at_same}
use Rattle.format.proofs.Tests.{Each, FieldOk, cell_fault_says}
use Rattle.loading.specs.Loaded.{Loadable}

module _ (b : List ℕ) (n : ℕ) where
  byte_part : (i : ℕ) → i < 8 * n → byte (take (8 * n) b) i ≡ byte b i
  byte_part i h = get_or-take (8 * n) b i 0 h

  pair_part : (i : ℕ) → i + 1 < 8 * n → pair (take (8 * n) b) i ≡ pair b i
  pair_part i h = rw (byte_part i (omega arith), byte_part (i + 1) h)

  pub cell_part : (i : ℕ) → i < n → cell_at (take (8 * n) b) i ≡ cell_at b i
  unfolding cell_at
  cell_part i h =
      rw (
        byte_part (8 * i) (omega arith),
        byte_part (8 * i + 1) (omega arith),
        pair_part (8 * i + 2) (omega arith),
        pair_part (8 * i + 4) (omega arith),
        pair_part (8 * i + 6) (omega arith),
      )

  sort_part : (t : Sort) (x : ℕ) → x < n → has_sort (take (8 * n) b) t x ≡ has_sort b t x
  sort_part t x h = rw (cell_part x h)

  field_part : {i : ℕ} → i < n → (u : Use) (x : ℕ) → FieldOk b i u x → FieldOk (take (8 * n) b) i u x
  field_part h unused x f = f
  field_part h plain x f = f
  field_part {i} h (refers t) x f = (f.0, sort_part t x (omega (arith, f.0)) ∙ f.1)

  pub fault_part : (u : Version) (i : ℕ) → i < n → cell_fault u b i ≡ none → cell_fault u (take (8 * n) b) i ≡ none
  fault_part u i h f =
      let k = (cell_fault_says u b i).0 f in
      let r = k.row in
      let t = cell_at b i in
      let fields : Each (FieldOk (take (8 * n) b) i) r t =
      record {
        label = field_part h r.label t.label k.fields.label;
        a = field_part h r.a t.a k.fields.a;
        b = field_part h r.b t.b k.fields.b;
        c = field_part h r.c t.c k.fields.c;
      } in
      (cell_fault_says u (take (8 * n) b) i).1
      (record { row = r; found = rw (cell_part i h) k.found; fields = rw (cell_part i h) fields })

  pub tree_part : (i : ℕ) → i < n → tree_at (take (8 * n) b) i ≡ tree_at b i
  tree_part i h = tree_at_same (take (8 * n) b) b i (λ j k. cell_part j (omega arith))

pub part_length : (b : List ℕ) → WellFormed b → length (take (8 * count b) b) ≡ 8 * count b
part_length b f = let k : 8 * count b ≤ length b = omega arith in length-take-le (8 * count b) b k

-- a book's cells before its trailer are as many as its trailer says, and can be loaded
pub part_count : (b : List ℕ) → WellFormed b → length (take (8 * count b) b) / 8 ≡ count b
part_count b f = omega (arith, part_length b f)

pub loadable : (b s : List ℕ) {u : Version} → u ≡ version_of b → WellFormed b → length s ≡ 65536
    → Loadable (take (8 * count b) b) s (length (take (8 * count b) b) / 8) u
loadable b s q f h =
    rw (part_count b f) record {
      cells = part_length b f;
      few = omega (arith, f.formed.short);
      sound = λ i l. rw q (fault_part b (count b) (version_of b) i l (f.formed.sound i l));
      long = h;
    }
