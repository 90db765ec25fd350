-- Document 02, (iv): the versions of a book, and where each stores a number. Assumes nothing.
use Rattle.std.specs.Prelude.{ℕ, ◌+◌, ◌*◌, ◌^◌, ◌≡◌, cond, eqb, Result, MatchResult}
use Rattle.format.specs.declared.Version.{Version}
use Rattle.format.specs.declared.Version.TheVariants.{One, Two}
use Rattle.format.specs.declared.UnknownVersion.{UnknownVersion}

-- "byte 1 the version": "Version 2 in the trailer"
abbrev pub version_byte_lem : Version → ℕ
version_byte_lem One = 1
version_byte_lem Two = 2

-- The version that a byte stands for. Of a byte other than 1 and 2 nothing is asked: row 3 comes first.
abbrev pub version_from_lem : ℕ → Version
version_from_lem x = cond (eqb x 1) One Two

-- What a byte is read as: the version that it stands for, or that it stands for none.
abbrev pub Decodes : ℕ → Result Version UnknownVersion → Type 0
Decodes x r = MatchResult r (λ v. version_byte_lem v ≡ x) (λ _. (v : Version) → version_byte_lem v ≡ x → ⊥)

-- Half of the range of a version's numbers, which is -h .. h - 1: "Sums in version 2 are held to the ends of 48 bits, in version 1 to those of 32."
abbrev pub half_of : Version → ℕ
half_of One = 2 ^ 31
half_of Two = 2 ^ 47

-- What the fields a, b and c of a number store: version 1 in "bytes 4–7, signed 32 bits", version 2 in "bytes 2–7, signed".
abbrev pub stored : Version → ℕ → ℕ → ℕ → ℕ
stored One a b c = b + 65536 * c
stored Two a b c = a + 65536 * (b + 65536 * c)
