-- What a finding of rows 2 to 10 comes from: something of every finding, shown row by row. Assumes nothing.
use Prim.Native.Nat.{ℕ, zero, suc, ◌+◌, ◌<◌}
use mathlib.Core.Path.{◌≡◌, refl, subst}
use mathlib.Core.Bool.{Bool, true, false}
use mathlib.Core.Option.{Option, none, some, some-injective, none-ne-some}
use mathlib.Core.List.{List}
use native.Mathlib.Omega.{arith}
use lib.Dec.{ltb}
use Rattle.format.specs.declared.Version.{Version}
use Rattle.format.specs.Table.{term_sort}
use Rattle.format.specs.Tree.{cells, tree_at}
use Rattle.format.specs.Book.{Fault, bad_length, bad_trailer, bad_count, bad_root, bad_size, Finding, cell_fault, cells_finding, root_finding, cells_form, form_finding}
use Rattle.format.specs.Book.{version_of, length_ok_lem, trailer_ok, count_ok, has_sort, root_of, count, size_limit}

abbrev pub at : Fault → ℕ → Finding
at f i = record { fault = f; cell = i }

-- the first finding among n cells from i on is one of them
record Among (v : Version) (s : List ℕ) (n : ℕ) (f : Finding) : Type 0 where
  below : f.cell < n
  meets : cell_fault v s f.cell ≡ some f.fault

among : (v : Version) (s : List ℕ) (n i : ℕ) (f : Finding) → cells_finding v s n i ≡ some f → Among v s (i + n) f
unfolding cells_finding
among v s zero i f e = absurd (none-ne-some f e)
among v s (suc n) i f e = go (among v s n (suc i) f) (cell_fault v s i) refl e
  where
    go : (cells_finding v s n (suc i) ≡ some f → Among v s (suc i + n) f) → (x : Option Fault) → cell_fault v s i ≡ x →
        ◌≡◌ {A = Option Finding} (elim x [ none ↦ cells_finding v s n (suc i) | some g ↦ some (at g i) ]) (some f) → Among v s (i + suc n) f
    go h none p q = let a = h q in record { below = omega (arith, a.below); meets = a.meets }
    go h (some g) p q = subst (Among v s (i + suc n)) (some-injective (at g i) f q) (record { below = omega arith; meets = p })

-- P of each row's finding, from what the row found; rows 5 to 8 are asked of a book of the right length, 9 and 10 past row 8.
pub record EachRow (P : Finding → Type 0) (s : List ℕ) : Type 0 where
  pub row_2 : length_ok_lem s ≡ false → P (at bad_length 0)
  pub row_3 : trailer_ok s ≡ false → P (at bad_trailer 0)
  pub row_4 : count_ok s ≡ false → P (at bad_count 0)
  pub rows_5_to_8 : (f : Fault) (i : ℕ) → length_ok_lem s ≡ true → i < count s → cell_fault (version_of s) s i ≡ some f → P (at f i)
  pub row_9 : cells_form s ≡ none → has_sort s term_sort (root_of s) ≡ false → P (at bad_root (root_of s))
  pub row_10 : ltb size_limit (cells (tree_at s (root_of s))) ≡ true → P (at bad_size (root_of s))

module _ (P : Finding → Type 0) (s : List ℕ) (r : EachRow P s) where
  found : (g f : Finding) → P g → ◌≡◌ {A = Option Finding} (some g) (some f) → P f
  found g f p e = subst P (some-injective g f e) p

  -- a test, and what comes after it
  tested : (t b : Bool) → t ≡ b → (g : Fault) (o : Option Finding) (f : Finding) → (t ≡ false → P (at g 0)) → (t ≡ true → o ≡ some f → P f) →
      ◌≡◌ {A = Option Finding} (elim b [ false ↦ some (at g 0) | true ↦ o ]) (some f) → P f
  tested t true q g o f m h e = h q e
  tested t false q g o f m h e = found (at g 0) f (m q) e

  cells_found : (f : Finding) → cells_form s ≡ some f → P f
  unfolding cells_form
  cells_found f e =
      tested (length_ok_lem s) _ refl bad_length _ f r.row_2
      (λ l.
      tested (trailer_ok s) _ refl bad_trailer _ f r.row_3
      (λ t.
      tested (count_ok s) _ refl bad_count _ f r.row_4
      (λ c q. let a = among (version_of s) s (count s) 0 f q in r.rows_5_to_8 f.fault f.cell l (omega (arith, a.below)) a.meets))) e

  root_found : cells_form s ≡ none → (f : Finding) → root_finding s ≡ some f → P f
  unfolding root_finding
  root_found n f e = go (has_sort s term_sort (root_of s)) refl e
    where
      sized : (t : Bool) → ltb size_limit (cells (tree_at s (root_of s))) ≡ t →
          ◌≡◌ {A = Option Finding} (elim t [ true ↦ some (at bad_size (root_of s)) | false ↦ none ]) (some f) → P f
      sized true p q = found (at bad_size (root_of s)) f (r.row_10 p) q
      sized false p q = absurd (none-ne-some f q)

      go : (t : Bool) → has_sort s term_sort (root_of s) ≡ t →
          ◌≡◌ {A = Option Finding}
          (elim t [
            | true ↦ elim (ltb size_limit (cells (tree_at s (root_of s)))) [ true ↦ some (at bad_size (root_of s)) | false ↦ none ]
            | false ↦ some (at bad_root (root_of s))
          ])
          (some f) →
          P f
      go true p q = sized (ltb size_limit (cells (tree_at s (root_of s)))) refl q
      go false p q = found (at bad_root (root_of s)) f (r.row_9 n p) q

  pub by_rows : (f : Finding) → form_finding s ≡ some f → P f
  unfolding form_finding
  by_rows f e = go (cells_form s) refl e
    where
      go : (x : Option Finding) → cells_form s ≡ x → ◌≡◌ {A = Option Finding} (elim x [ none ↦ root_finding s | some g ↦ some g ]) (some f) → P f
      go none p q = root_found p f q
      go (some g) p q = found g f (cells_found g p) q
