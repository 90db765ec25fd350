-- The first part of a held value that passes a test: what each call needs, and what it leaves. x stands in the value's cell. Assumes nothing.
use Prim.Native.Nat.{ℕ, ◌≤◌, ◌<◌}
use native.Mathlib.Omega.{arith}
use mathlib.Core.Path.{◌≡◌, refl}
use mathlib.Core.Bool.{Bool, true, false}
use mathlib.Core.List.{List}
use mathlib.Core.Option.{Option as Maybe, none, some, or_else}
use Rattle.std.specs.Prelude.{Option, Some, None, is_some as found}
use Rattle.std.specs.Bool.{then_some}
use Rattle.calculus.specs.Syntax.{Term}
use Rattle.format.specs.Cell.{Cell, cell_at}
use Rattle.emission.specs.Runs.{RunsTerm}
use Rattle.emission.proofs.Runs.{holds_term}
use Rattle.emission.proofs.RunParts.{merge_at}
use Rattle.typed_reduction.specs.Casting.{is_some, ValueEnds, NoMerge, PartAt, itself, in_left, in_right, FirstBy, FindsFirst}
use Rattle.typed_reduction.proofs.Single.{no_merge}
use Rattle.typed_reduction.proofs.Sizes.{size_at, merge_smaller}

pub different : {p : ℕ} {r : Option ℕ} → r ≡ Some p → r ≡ None → ⊥
different e f = cc

-- a part was found, or none was
pub is_found : {r : Option ℕ} → found r ≡ true → r ≡ None → ⊥
is_found {r = None} e f = cc
is_found {r = Some p} e f = cc

pub is_none : {r : Option ℕ} → found r ≡ false → r ≡ None
is_none {r = None} e = refl
is_none {r = Some p} e = cc

-- a part of a value is a value, no merge and no larger
pub record PartRuns (s : List ℕ) (v p : ℕ) : Type 0 where
  pub term : Term
  pub holds : RunsTerm s p term
  pub single : NoMerge term
  pub no_larger : size_at s p ≤ size_at s v

pub part_runs : {s : List ℕ} {v p : ℕ} {e : Term} → PartAt s v p → RunsTerm s v e → PartRuns s v p
part_runs (itself {e = e} h n) r = record { term = e; holds = h; single = n; no_larger = omega arith }
part_runs (in_left k h) r =
    let m = merge_at r k in
    let w = part_runs h m.holds_first in
    record { term = w.term; holds = w.holds; single = w.single; no_larger = omega (arith, w.no_larger, (merge_smaller r m.is m.holds_first m.holds_second).0) }
part_runs (in_right k h) r =
    let m = merge_at r k in
    let w = part_runs h m.holds_second in
    record { term = w.term; holds = w.holds; single = w.single; no_larger = omega (arith, w.no_larger, (merge_smaller r m.is m.holds_first m.holds_second).1) }

-- the halves of a merge at v, which are the values at p and q
pub record MergeHalves (s : List ℕ) (v p q : ℕ) : Type 0 where
  pub first : ValueEnds s p
  pub second : ValueEnds s q
  pub smaller : (size_at s p < size_at s v) × (size_at s q < size_at s v)

-- the first half answers first
module _ (s : List ℕ) (q : Term → Maybe Term) (r : Option ℕ) where
  left_part : (o m : Maybe Term) → FirstBy s q r o → (r ≡ None → ⊥) → FirstBy s q r (or_else o m)
  unfolding or_else
  left_part none m h e = absurd (e h)
  left_part (some x) m h e = h

  right_part : (t : Option ℕ) (o m : Maybe Term) → FirstBy s q r o → r ≡ None → FirstBy s q t m → FirstBy s q t (or_else o m)
  unfolding or_else
  right_part t none m h e k = k
  right_part t (some x) m h e k = absurd (different h.2 e)

module _ {s : List ℕ} {v : ℕ} {x : Cell} (is : x ≡ cell_at s v) where
  pub merge_halves : {e : Term} → RunsTerm s v e → x.kind ≡ 22 → MergeHalves s v x.a x.b
  merge_halves h = rw is λ k.
      let m = merge_at h k in
      record {
        first = record { value = m.first; holds = m.holds_first };
        second = record { value = m.second; holds = m.holds_second };
        smaller = merge_smaller h m.is m.holds_first m.holds_second;
      }

  -- parts of a half are parts
  pub left_parts : {p : ℕ} → x.kind ≡ 22 → PartAt s x.a p → PartAt s v p
  left_parts = rw is λ k h. in_left k h

  pub right_parts : {p : ℕ} → x.kind ≡ 22 → PartAt s x.b p → PartAt s v p
  right_parts = rw is λ k h. in_right k h

  pub own_part : {e : Term} → RunsTerm s v e → (x.kind ≡ 22 → ⊥) → PartAt s v v
  own_part h n = itself h (no_merge (holds_term h) (rw is at n))

  module _ {test : ℕ → Bool → Type 0} where
    pub first_left : {r : Option ℕ} → x.kind ≡ 22 → FindsFirst s x.a test r → (r ≡ None → ⊥) → FindsFirst s v test r
    first_left {r} = rw is λ k f n.
        record {
          says = λ q w t e h.
              let m = merge_at h k in
              rw (m.is, w m.first m.second) (left_part s q r (q m.first) (q m.second) (f.says q w t m.first m.holds_first) n);
        }

    pub first_right : {r u : Option ℕ} → x.kind ≡ 22 → FindsFirst s x.a test r → r ≡ None → FindsFirst s x.b test u → FindsFirst s v test u
    first_right {r} {u} = rw is λ k f n g.
        record {
          says = λ q w t e h.
              let m = merge_at h k in
              rw (m.is, w m.first m.second)
              (right_part s q r u (q m.first) (q m.second) (f.says q w t m.first m.holds_first) n (g.says q w t m.second m.holds_second));
        }

    pub first_itself : (b : Bool) → (x.kind ≡ 22 → ⊥) → test v b → FindsFirst s v test (then_some b v)
    first_itself b n y =
        record { says = λ q w t e h. let o = no_merge (holds_term h) (rw is at n) in go b q e h o (q e) refl (t v e b h o y) }
      where
        go : (b : Bool) (q : Term → Maybe Term) (e : Term) → RunsTerm s v e → NoMerge e → (o : Maybe Term) → q e ≡ o → b ≡ is_some o → FirstBy s q (then_some b v) o
        go true q e h l none c d = cc
        go true q e h l (some z) c d = (v, e, refl, h, c, l)
        go false q e h l none c d = refl
        go false q e h l (some z) c d = cc
