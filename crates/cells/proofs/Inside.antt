-- Binders over field a, by the kind. Assumes nothing.
use Prim.Native.Nat.{ℕ, suc, ◌+◌, ◌≤◌}
use native.Mathlib.Numerals.{add-one}
use native.Mathlib.Omega.{arith}
use mathlib.Core.Path.{◌≡◌}
use mathlib.Core.Bool.{Bool, true, false, cond}
use mathlib.Core.Logic.{◌⊎◌, inl, inr, ⊎_elim}
use lib.Dec.{eqb}
use borrow.Author.Tests.{ne_eqb}
use Rattle.format.specs.Table.{inside}

pub binds : (kind k : ℕ) → (kind ≡ 21) ⊎ (kind ≡ 23) → k + 1 ≡ inside kind k
binds kind k h = ⊎_elim (λ e. rw e (add-one k)) (λ e. rw e (add-one k)) h

pub binds_none : (kind k : ℕ) → ((kind ≡ 21) ⊎ (kind ≡ 23) → ⊥) → k ≡ inside kind k
binds_none kind k f = rw (ne_eqb kind 21 (λ e. f (inl e)), ne_eqb kind 23 (λ e. f (inr e)))

pub inside_most : (kind k : ℕ) → inside kind k ≤ suc k
inside_most kind k = go (eqb kind 21) (eqb kind 23)
  where
    go : (f g : Bool) → cond f (suc k) (cond g (suc k) k) ≤ suc k
    go true g = omega arith
    go false true = omega arith
    go false false = omega arith
