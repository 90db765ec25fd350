-- What is substituted for a variable, emitted: the reading of a value, or a term as it stands. Assumes nothing.
use Prim.Native.Nat.{ℕ, ◌+◌, ◌*◌, ◌≤◌}
use native.Mathlib.Numerals.{add-one}
use mathlib.Core.Bool.{true}
use mathlib.Core.List.{List}
use lib.ListN.{length}
use Rattle.calculus.specs.Syntax.{Term}
use Rattle.format.specs.Table.{term_sort}
use Rattle.format.specs.Terms.{from_term}
use Rattle.emission.specs.Emits.{Emits}
use Rattle.emission.specs.Copies.{RunReady, EmitsRun}
use Rattle.std.specs.Prelude.{Option}
use Rattle.emission.proofs.Copies.{end_within}
use Rattle.typed_reduction.specs.Casting.{CastReady, EmitsCast}
use Rattle.reduction.specs.Steps.{Substitutes, casts, stands, SourceReady, EmitsSource}
use Rattle.reduction.specs.declared.Source.TheVariants.{Reading, Standing}

module _ {s d : List ℕ} {m v a : ℕ} where
  pub reading_ready : SourceReady s d m (Reading v a) → CastReady s d v a m
  reading_ready r = go r.substitutes
    where
      go : {x : Term} → Substitutes s (Reading v a) x → CastReady s d v a m
      go {x} (casts {e = e} {A = A} h k c) =
          record { space = r.space; both = record { value = e; type = A; holds_value = h; holds_type = k }; reduct = x; casts = c }

  pub reading_emits : {t : List ℕ} {r : Option ℕ} → EmitsCast s d t v a m r → EmitsSource s d t m (Reading v a) r
  reading_emits {t} {r} q = record { says = λ x h. go h }
    where
      go : {x : Term} → Substitutes s (Reading v a) x → Emits d t m r (from_term x)
      go {x} (casts {e = e} {A = A} h k c) = q.says e x A h k c

module _ {s d : List ℕ} {m b i : ℕ} where
  pub standing_within : SourceReady s d m (Standing b i) → 8 * i + 8 ≤ length s
  standing_within r = go r.substitutes
    where
      go : {x : Term} → Substitutes s (Standing b i) x → 8 * i + 8 ≤ length s
      go (stands h) = end_within h

  pub standing_ready : SourceReady s d m (Standing b i) → RunReady s d b (i + 1) m
  standing_ready r = go r.substitutes
    where
      go : {x : Term} → Substitutes s (Standing b i) x → RunReady s d b (i + 1) m
      go {x} (stands h) = record { space = r.space; marked = true; sort = term_sort; last = i; tree = from_term x; run = rw add-one h }

  pub standing_emits : {t : List ℕ} {r : Option ℕ} → EmitsRun s d t b (i + 1) m r → EmitsSource s d t m (Standing b i) r
  standing_emits {t} {r} q = record { says = λ x h. go h }
    where
      go : {x : Term} → Substitutes s (Standing b i) x → Emits d t m r (from_term x)
      go {x} (stands h) = q.says true term_sort i (from_term x) (rw add-one h)
