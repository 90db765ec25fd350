-- What the answer to rows 2 to 10 says of the book: it is well-formed and its root is the one answered, or one of the rows meets it. Assumes nothing.
use Prim.Native.Nat.{ℕ}
use native.Mathlib.Omega.{arith}
use mathlib.Core.Path.{◌≡◌, refl, ap}
use mathlib.Core.Bool.{true, false}
use mathlib.Core.Option.{Option, none, some}
use mathlib.Core.List.{List}
use Rattle.std.specs.Prelude.{Result, Ok, Err, is_err}
use Rattle.format.specs.Book.{Finding, WellFormed, form_finding, version_of, root_of}
use Rattle.format.proofs.Tests.{form_finding_says}
use Rattle.answers.specs.declared.Refusal.{Refusal}
use Rattle.book.specs.Form.{FormCheck, Finds}
use Rattle.book.specs.declared.Root.{Root}

pub formed : {b : List ℕ} {y : Root} {x : Result Root Refusal} → FormCheck b x → x ≡ Ok y → WellFormed b × (y.version ≡ version_of b) × (y.cell ≡ root_of b)
formed {b} {y} {x} f e = go (form_finding b) refl f.says
  where
    go : (z : Option Finding) → form_finding b ≡ z → Finds (record { version = version_of b; cell = root_of b }) x z → WellFormed b × (y.version ≡ version_of b) × (y.cell ≡ root_of b)
    go none g h =
        let k : y ≡ record { version = version_of b; cell = root_of b } = cc in
        ((form_finding_says b).0 g, ap (λ (r : Root). r.version) k, ap (λ (r : Root). r.cell) k)
    go (some z) g h = let n : ◌≡◌ {A = ℕ} 0 1 = cc in absurd (omega arith)

-- the same, by whether the answer is a refusal
pub passes : {b : List ℕ} {x : Result Root Refusal} → FormCheck b x → is_err x ≡ false → WellFormed b
passes {x = Ok y} f e = (formed f refl).0
passes {x = Err q} f e = let n : ◌≡◌ {A = ℕ} 0 1 = cc in absurd (omega arith)

pub refuses : {b : List ℕ} {x : Result Root Refusal} → FormCheck b x → is_err x ≡ true → (f : Finding) × (form_finding b ≡ some f)
refuses {b} {x} f e = go (form_finding b) refl f.says
  where
    go : (y : Option Finding) → form_finding b ≡ y → Finds (record { version = version_of b; cell = root_of b }) x y → (f : Finding) × (form_finding b ≡ some f)
    go none g h = let k : is_err x ≡ false = rw h in let n : ◌≡◌ {A = ℕ} 0 1 = cc in absurd (omega arith)
    go (some y) g h = (y, g)
