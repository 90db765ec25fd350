-- A result as the exported calls give it: a number of 64 bits, and the bytes left in the work buffer; of a join and a preview, the project's lent bytes too. Assumes
-- nothing.
use Rattle.std.specs.Prelude.{ℕ, ◌+◌, ◌*◌, ◌/◌, ◌%◌, ◌<◌, ◌≡◌, List}
use Rattle.answers.specs.Answer.{Answer, Result}
use Rattle.answers.specs.Exported.{tag_of, value_of, second_of, tag_place, second_place, packed}
use Rattle.sheets.specs.declared.SheetOutcome.{SheetOutcome}
use Rattle.sheets.specs.Sheet.{SheetResult, sheet_answer, sheet_steps_lem}
use Rattle.sheets.specs.Exported.{packed_sheet}
use Rattle.joining.specs.declared.Joined.{Joined}
use Rattle.joining.specs.Join.{JoinResult, join_answer, joined}
use Rattle.joining.specs.Exported.{which_number_lem, which_place, bytes_place, packed_join}

-- An answer and a second figure s that fit their bits.
pub record FiguresFit (a : Answer) (s : ℕ) : Type 0 where
  pub value : value_of a < tag_place
  pub second : s < 16777216

-- They in one number.
pub record PackedFigures (a : Answer) (s r : ℕ) : Type 0 where
  pub is : r ≡ s * second_place + tag_of a * tag_place + value_of a
  pub tag : tag_of a < 256

-- The number r and the bytes v are those of the result x.
pub record Packs (v : List ℕ) (r : ℕ) (x : Result) : Type 0 where
  pub answer : r ≡ packed x.answer
  -- bits 0 to 31
  pub value : r % tag_place ≡ value_of x.answer
  -- bits 32 to 39
  pub tag : r / tag_place % 256 ≡ tag_of x.answer
  -- bits 40 to 63: of a run that is not refused its mark, else zero
  pub second : r / second_place ≡ second_of x.answer
  pub left : v ≡ x.left

-- The number r and the bytes v are those of the sheet call's result x.
pub record PacksSheet (v : List ℕ) (r : ℕ) (x : SheetResult) : Type 0 where
  pub answer : r ≡ packed_sheet x
  -- bits 0 to 31
  pub value : r % tag_place ≡ value_of x.answer
  -- bits 32 to 39
  pub tag : r / tag_place % 256 ≡ tag_of x.answer
  -- bits 40 to 63: the count beside an acceptance, else zero
  pub steps : r / second_place ≡ x.steps
  pub left : v ≡ x.left

-- A join whose figures fit their bits.
pub record JoinFits (j : Joined) : Type 0 where
  pub value : value_of (join_answer j.answer) < tag_place
  pub bytes : j.bytes < 65536

-- It in one number.
pub record PackedJoin (j : Joined) (r : ℕ) : Type 0 where
  pub is : r ≡ j.bytes * bytes_place + which_number_lem j.which * which_place + tag_of (join_answer j.answer) * tag_place + value_of (join_answer j.answer)
  pub tag : tag_of (join_answer j.answer) < 256
  pub which : which_number_lem j.which < 256

-- The number r and the bytes v and k are those of the join's result x: v is the work buffer, k the project's lent bytes.
pub record PacksJoin (k v : List ℕ) (r : ℕ) (x : JoinResult) : Type 0 where
  pub answer : r ≡ packed_join x
  -- bits 0 to 31
  pub value : r % tag_place ≡ value_of x.answer
  -- bits 32 to 39
  pub tag : r / tag_place % 256 ≡ tag_of x.answer
  -- bits 40 to 47
  pub which : r / which_place % 256 ≡ which_number_lem x.which
  -- bits 48 to 63
  pub bytes : r / bytes_place ≡ x.bytes
  pub lent : k ≡ x.lent
  pub left : v ≡ x.left

-- The same of a preview, x being the result of a join of a copy, whose lent bytes the preview does not touch: the project's own, l, are k afterwards.
pub record PacksPreview (l k v : List ℕ) (r : ℕ) (x : JoinResult) : Type 0 where
  pub foresees : PacksJoin x.lent v r x
  pub unaltered : k ≡ l

-- "preview and join on a copy agree": so do the exported calls, of the project as the preview left it.
abbrev pub ExportedAgree : Type 0
ExportedAgree = (l k k' : List ℕ) (n : ℕ) (q w v v' : List ℕ) (r r' : ℕ) → PacksPreview l k v r (joined l n q w) → PacksJoin k' v' r' (joined k n q w) → (r ≡ r') × (v ≡ v')
