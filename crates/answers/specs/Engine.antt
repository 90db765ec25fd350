-- What an engine is: a check and a run of any bytes, in any work buffer. Assumes nothing.
use Rattle.std.specs.Prelude.{ℕ, ◌-◌, ◌<◌, ◌^◌, ◌≡◌, List, ◌++◌, length, replicate}
use Rattle.answers.specs.Answer.{Result}

-- The two public calls, as functions of the bytes lent to them and of the limit.
pub record Engine : Type 0 where
  pub check : (book work : List ℕ) → Result
  pub run : (book work : List ℕ) (limit : ℕ) → Result

-- "a work buffer of 65,536 bytes"
abbrev pub work_length : ℕ
work_length = 65536

-- A work buffer that row 1 does not meet.
abbrev pub IsWork : List ℕ → Type 0
IsWork w = length w ≡ work_length

-- "The step limit is any unsigned 32-bit number."
abbrev pub IsLimit : ℕ → Type 0
IsLimit n = n < 2 ^ 32

-- n bytes of zero.
unfoldable pub zeros : ℕ → List ℕ
zeros n = replicate n 0

-- A book encoded from byte 0: "bytes past the laid-down book are zero"
unfoldable pub padded : List ℕ → List ℕ
padded b = b ++ zeros (work_length - length b)
