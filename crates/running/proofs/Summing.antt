-- A sum of two values has its successor in place: both sides are read under Int, and the number that their sum is held to is written. Assumes
-- nothing.
use Prim.Native.Nat.{ℕ, ◌/◌, ◌%◌}
use native.Mathlib.Omega.{arith}
use mathlib.Core.Path.{◌≡◌, refl, sym, ap, ◌∙◌}
use mathlib.Core.Bool.{true}
use mathlib.Core.List.{List}
use mathlib.Core.Option.{Option, none, some, some-injective, none-ne-some}
use lib.IntN.{◌+ℤ◌}
use Rattle.calculus.specs.Syntax.{int, Term, lit, sum}
use Rattle.calculus.specs.Numbers.{hold}
use Rattle.calculus.specs.Decide.{is_value}
use Rattle.calculus.specs.Evaluate.{next, cast, number_of, add}
use Rattle.format.specs.declared.Version.TheVariants.{Two}
use Rattle.format.specs.Version.{half_of, stored}
use Rattle.format.specs.Cell.{Cell, cell_at, signed}
use Rattle.format.specs.Terms.{WideFits}
use Rattle.emission.specs.Runs.{RunsTerm}
use Rattle.emission.proofs.Runs.{at_run}
use Rattle.emission.proofs.RunParts.{runs_term}
use Rattle.numbers.specs.Sums.{AddsHeld}
use Rattle.typed_reduction.specs.Casting.{NumberReady, ReadsNumber}
use Rattle.running.specs.Places.{RedexParts, of_sum, Standing, Runnable, Becomes, RedexAt, number_cell, OnlyBecomes, SingleReady, BecomesSingle}
use Rattle.running.specs.declared.Place.{Place}
use Rattle.running.specs.declared.Focus.{Focus}
use Rattle.running.specs.declared.Focus.TheVariants.{Redex}
use Rattle.running.proofs.Entering.{Kind, k_sum}
use Rattle.running.proofs.Ranges.{kind_at}
use Rattle.running.proofs.Standing.{standing_fits}
use Rattle.running.proofs.Projecting.{redex_kind}
use Rattle.running.proofs.Contracting.{successor_of}

-- the sum of cell t: both sides are values, each the end of a run
record Sides (w : List ℕ) (f : Term) (t : Cell) : Type 0 where
  left : Term
  right : Term
  is : f ≡ sum left right
  left_value : is_value left ≡ true
  right_value : is_value right ≡ true
  left_runs : RunsTerm w t.a left
  right_runs : RunsTerm w t.b right

sides_of : {w : List ℕ} {p : Place} {f : Term} {t : Cell} → Kind 26 f → WideFits f → RedexParts w p f → t ≡ cell_at w p.root → Sides w f t
sides_of {t = t} k_sum g (of_sum {v = v} {u = u} d) e =
    let i = e ∙ d.cell.is in
    record {
      left = v;
      right = u;
      is = refl;
      left_value = d.first_value;
      right_value = d.second_value;
      left_runs = runs_term g.0 (at_run refl (sym (ap (λ (c : Cell). c.a) i)) refl d.first);
      right_runs = runs_term g.1 (at_run refl (sym (ap (λ (c : Cell). c.b) i)) refl d.second);
    }

-- the readings of both sides, by the rule
record Readings (k : ℕ) (v u g : Term) : Type 0 where
  left : Term
  right : Term
  left_reads : cast int v ≡ some left
  right_reads : cast int u ≡ some right
  is : lit (hold k (number_of left +ℤ number_of right)) ≡ g

readings : (k : ℕ) (v u : Term) {g : Term} → is_value v ≡ true → is_value u ≡ true → next k (sum v u) ≡ some g → Readings k v u g
unfolding next add
readings k v u {g} e f n = go (cast int v) (cast int u) refl refl (rw (e, f, next) at n)
  where
    go : (o q : Option Term) → cast int v ≡ o → cast int u ≡ q → add k o q ≡ some g → Readings k v u g
    go none q i j n = absurd (none-ne-some g n)
    go (some x) none i j n = absurd (none-ne-some g n)
    go (some x) (some y) i j n = record { left = x; right = y; left_reads = i; right_reads = j; is = some-injective _ g n }

module _ {w : List ℕ} {p : Place} {t : Cell} (d : RedexAt w p t 26) where
  sides : {e : Term} (s : Standing w (Redex p) e) → Runnable e → Sides w s.focus t
  sides s r = sides_of (redex_kind s.at.parts (kind_at d.cell d.kind)) (standing_fits s r) s.at.parts d.cell

  read : (k : ℕ) {e g : Term} (s : Standing w (Redex p) e) (r : Runnable e) → next k s.focus ≡ some g → Readings k (sides s r).left (sides s r).right g
  read k s r n = let q = sides s r in readings k q.left q.right q.left_value q.right_value (sym (ap (next k) q.is) ∙ n)

  abbrev here : Sides w d.ready.standing.focus t
  here = sides d.ready.standing d.ready.runnable

  abbrev here_read : Readings 0 here.left here.right (successor_of p d.ready.standing d.ready.runnable 0).0
  here_read = read 0 d.ready.standing d.ready.runnable (successor_of p d.ready.standing d.ready.runnable 0).1

  pub left_ready : NumberReady w t.a
  left_ready = record { at = record { value = here.left; holds = here.left_runs }; reduct = here_read.left; casts = here_read.left_reads }

  pub right_ready : NumberReady w t.b
  right_ready = record { at = record { value = here.right; holds = here.right_runs }; reduct = here_read.right; casts = here_read.right_reads }

  -- the number z, stored, in one cell
  abbrev cell_of : ℕ → Cell
  cell_of z = record { kind = 17; label = 0; a = z % 65536; b = z / 65536 % 65536; c = z / 65536 / 65536 }

  pub sum_ready : {h x y z : ℕ} → AddsHeld x y h z → SingleReady w p (cell_of z)
  sum_ready {z = z} q =
      record { ready = d.ready; a_fits = omega arith; b_fits = omega arith; c_fits = omega (arith, q.fits); value = _; single = number_cell refl }

  pub sum_becomes : {h x y z : ℕ} {v : List ℕ} {r : Focus} → ReadsNumber w t.a x → ReadsNumber w t.b y → AddsHeld x y h z → BecomesSingle w v p (cell_of z) r → Becomes h w v p r
  unfolding number_of
  sum_becomes {h} {x} {y} {z} f g k b = b.says h _ (number_cell refl) same
    where
      whole_number : stored Two (z % 65536) (z / 65536 % 65536) (z / 65536 / 65536) ≡ z
      whole_number = omega arith

      same : OnlyBecomes h w p (lit (signed (half_of Two) (stored Two (z % 65536) (z / 65536 % 65536) (z / 65536 / 65536))))
      same e s r d n =
          let q = sides s r in
          let a = read h s r n in
          let i = f.says q.left a.left q.left_runs a.left_reads in
          let j = g.says q.right a.right q.right_runs a.right_reads in
          ap lit (ap (signed (half_of Two)) whole_number ∙ k.says) ∙ (rw (i, j) at a.is)
