-- Document 02, (iv): sums of stored numbers, what a call needs and what it answers. Numbers are stored in the one form that they have outside of books,
-- that of version 2; h is half of the range that a sum is held to. Assumes nothing.
use Rattle.std.specs.Prelude.{ℕ, ◌*◌, ◌≤◌, ◌<◌, ◌≡◌, ◌+ℤ◌}
use Rattle.calculus.specs.Numbers.{hold}
use Rattle.format.specs.declared.Version.TheVariants.{Two}
use Rattle.format.specs.Version.{half_of}
use Rattle.format.specs.Cell.{signed}

-- Two stored numbers, and a range of at least one number and at most 48 bits.
pub record SumReady (x y h : ℕ) : Type 0 where
  pub first : x < 2 * half_of Two
  pub second : y < 2 * half_of Two
  pub some : 0 < h
  pub narrow : h ≤ half_of Two

-- "Sums in version 2 are held to the ends of 48 bits, in version 1 to those of 32": r is stored for the sum held to the range of h.
pub record AddsHeld (x y h r : ℕ) : Type 0 where
  pub fits : r < 2 * half_of Two
  pub says : signed (half_of Two) r ≡ hold h (signed (half_of Two) x +ℤ signed (half_of Two) y)
