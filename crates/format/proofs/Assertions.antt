-- Closed facts that show what the tests of a book say: which row stands where a book meets two, and the cell that it names; what a version names; how a
-- book is restamped; and where a path leads. Each is computed from the definitions alone. Assumes nothing.
use Prim.Native.Nat.{ℕ}
use mathlib.Core.Path.{◌≡◌, refl}
use mathlib.Core.Option.{none, some}
use mathlib.Core.List.{List, [], ◌∷◌, ◌++◌, map}
use Rattle.format.specs.declared.Version.TheVariants.{One, Two}
use Rattle.format.specs.Table.{table, row_in, row_for}
use Rattle.format.specs.Cell.{cell_at, cell_bytes}
use Rattle.format.specs.Tree.{cells, field_tree, cell_tree, unshare_within, tree_at}
use Rattle.format.specs.Book.{bad_length, bad_trailer, bad_count, bad_unnamed, bad_reference, bad_sort, bad_root}
use Rattle.format.specs.Book.{first_bad, row_fault, cell_fault, cells_finding, root_finding, cells_form, form_finding, follow, trailer}
use Rattle.format.specs.Widths.{mapped_cells, restamp}
use Rattle.format.proofs.Findings.{at}

abbrev cell : (kind label a b c : ℕ) → List ℕ
cell k l a b c = cell_bytes (record { kind = k; label = l; a = a; b = b; c = c })

abbrev int : List ℕ
int = cell 1 0 0 0 0

-- the number 1
abbrev one : List ℕ
one = cell 17 0 0 1 0

abbrev top : List ℕ
top = cell 18 0 0 0 0

-- "Rows are tested downward, cells ascending, each cell completely. .. The first finding stands."
rows :
    map form_finding
    (one
    ∷ (one ++ cell 0 1 5 0 0)
    ∷ (cell 0 0 0 0 0 ++ trailer One 1 1)
    ∷ (cell 18 7 0 0 0 ++ cell 0 0 0 0 0 ++ trailer One 2 0)
    ∷ (one ++ cell 22 0 1 0 1 ++ trailer One 2 1)
    ∷ (int ++ one ++ cell 19 0 0 2 0 ++ trailer One 3 2)
    ∷ (int ++ one ++ cell 19 0 0 0 0 ++ trailer One 3 1)
    ∷ (one ++ cell 19 0 0 0 0 ++ trailer One 2 0)
    ∷ (one ++ int ++ trailer One 2 1)
    ∷ (int ++ one ++ cell 19 0 1 0 0 ++ trailer One 3 2)
    ∷ [])
    -- 2: a cell and no trailer; 3: byte 0 of the trailer is wrong, and so is its count; 4: the root is past the cells, and cell 0 of no kind
    ≡ (some (at bad_length 0)
    ∷ some (at bad_trailer 0)
    ∷ some (at bad_count 0)
    -- 6 at cell 0, before 5 at cell 1
    ∷ some (at bad_unnamed 0)
    -- 6, where 7 meets the same cell; 7, where 8 does
    ∷ some (at bad_unnamed 1)
    ∷ some (at bad_reference 2)
    -- 8: a type where a term belongs, and the reverse, reached from the root or not
    ∷ some (at bad_sort 2)
    ∷ some (at bad_sort 1)
    -- 9: the root is a type
    ∷ some (at bad_root 1)
    -- 1 annotated with Int
    ∷ none
    ∷ [])
unfolding table row_in row_for cell_at cell_bytes cells field_tree cell_tree unshare_within tree_at first_bad row_fault cell_fault cells_finding root_finding cells_form form_finding trailer
rows = refl

-- Document 02, (iv): a number names field a in version 2 alone, and its label in neither; there is no version but 1 and 2.
versions :
    map form_finding
    ((cell 17 0 1 5 0 ++ trailer One 1 0)
    ∷ (cell 17 0 1 5 0 ++ trailer Two 1 0)
    ∷ (cell 17 7 1 5 0 ++ trailer Two 1 0)
    ∷ (one ++ cell 0xf0 3 1 0 0)
    ∷ (one ++ cell 0xf0 0 1 0 0)
    ∷ [])
    ≡ (some (at bad_unnamed 0) ∷ none ∷ some (at bad_unnamed 0) ∷ some (at bad_trailer 0) ∷ some (at bad_trailer 0) ∷ [])
unfolding table row_in row_for cell_at cell_bytes cells field_tree cell_tree unshare_within tree_at first_bad row_fault cell_fault cells_finding root_finding cells_form form_finding trailer
versions = refl

-- "restamped as version 2 with each number extended by its sign": -5, and 2147483647; and the top value with -5 and a sum beside it, which the root does not reach
restamped :
    map restamp
    ((17 ∷ 0 ∷ 0 ∷ 0 ∷ 251 ∷ 255 ∷ 255 ∷ 255 ∷ 240 ∷ 1 ∷ 1 ∷ 0 ∷ 0 ∷ 0 ∷ 0 ∷ 0 ∷ [])
    ∷ (17 ∷ 0 ∷ 0 ∷ 0 ∷ 255 ∷ 255 ∷ 255 ∷ 127 ∷ 240 ∷ 1 ∷ 1 ∷ 0 ∷ 0 ∷ 0 ∷ 0 ∷ 0 ∷ [])
    ∷ (top ++ cell 17 0 0 65531 65535 ++ cell 26 0 1 1 0 ++ trailer One 3 0)
    ∷ [])
    ≡ ((17 ∷ 0 ∷ 251 ∷ 255 ∷ 255 ∷ 255 ∷ 255 ∷ 255 ∷ 240 ∷ 2 ∷ 1 ∷ 0 ∷ 0 ∷ 0 ∷ 0 ∷ 0 ∷ [])
    ∷ (17 ∷ 0 ∷ 255 ∷ 255 ∷ 255 ∷ 127 ∷ 0 ∷ 0 ∷ 240 ∷ 2 ∷ 1 ∷ 0 ∷ 0 ∷ 0 ∷ 0 ∷ 0 ∷ [])
    ∷ (top ++ cell 17 0 65531 65535 65535 ++ cell 26 0 1 1 0 ++ trailer Two 3 0)
    ∷ [])
unfolding cell_at cell_bytes mapped_cells restamp trailer
restamped = refl

-- The top value, and a record of 1, merged: paths from the merge, cell 3.
abbrev merged : List ℕ
merged = top ++ one ++ cell 24 7 1 0 0 ++ cell 22 0 0 2 0 ++ trailer One 4 3

-- field c of a merge is no reference
paths : map (follow merged 3) ([] ∷ (0 ∷ []) ∷ (1 ∷ []) ∷ (1 ∷ 0 ∷ []) ∷ (2 ∷ []) ∷ []) ≡ (3 ∷ 0 ∷ 2 ∷ 1 ∷ 3 ∷ [])
unfolding table row_in row_for follow cell_at cell_bytes trailer
paths = refl

-- The top value as a function: its types are fields b and c.
function : map (follow (top ++ int ++ cell 2 0 0 0 0 ++ cell 21 0 0 1 2 ++ trailer One 4 3) 3) ((0 ∷ []) ∷ (1 ∷ []) ∷ (2 ∷ []) ∷ []) ≡ (0 ∷ 1 ∷ 2 ∷ [])
unfolding table row_in row_for follow cell_at cell_bytes trailer
function = refl
