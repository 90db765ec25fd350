-- An annotated function comes to the work buffer in halves: the function is done, its type is to come, the annotation is a redex.
-- Assumes nothing.
use Prim.Native.Nat.{ℕ, suc, ◌+◌, ◌*◌, ◌-◌, ◌≤◌, ◌<◌}
use native.Mathlib.Omega.{arith}
use mathlib.Core.Path.{◌≡◌, refl, sym, ap, ◌∙◌}
use mathlib.Core.Bool.{true, false}
use mathlib.Core.List.{List}
use lib.ListN.{length}
use lib.Seq.{sets}
use Rattle.calculus.specs.Syntax.{Ty, Term, anno}
use Rattle.calculus.specs.Decide.{is_value}
use Rattle.format.specs.declared.Version.TheVariants.{Two}
use Rattle.format.specs.Table.{type_sort, term_sort, refers, row_for, row_in, table}
use Rattle.format.specs.Cell.{Cell, cell_at, cell_bytes}
use Rattle.format.specs.Terms.{from_type, from_term_in, from_term, TypeFits, WideFits}
use Rattle.format.proofs.RoundTrip.{type_good, term_good}
use Rattle.emission.specs.Runs.{Run}
use Rattle.emission.proofs.Runs.{grows, nothing, last, ends, at_run, kept_run, parts}
use Rattle.moving.specs.Moves.{Kept, Wrote, PlaceReady, Places}
use Rattle.moving.proofs.Runs.{place_ready}
use Rattle.moving.proofs.PlacedRuns.{run_placed}
use Rattle.running.specs.Contexts.{Around, whole}
use Rattle.running.specs.Places.{of_anno, ContractumAt, Halving, Installs}
use Rattle.running.specs.declared.Place.{Place}
use Rattle.running.specs.declared.Focus.TheVariants.{Redex}
use Rattle.running.proofs.Waiting.{kept_waits}
use Rattle.running.proofs.Entering.{Kind, k_anno, term_kind, value_lam}
use Rattle.running.proofs.Ranges.{stored}
use Rattle.running.proofs.Contracting.{far, root_low}

-- the two halves of a term that is encoded so
record Halves (s : List ℕ) (m end a : ℕ) (h : Term) : Type 0 where
  inside : Term
  type : Ty
  is : h ≡ anno inside type
  final : is_value inside ≡ true
  fits : WideFits inside × TypeFits type
  first : Run false s m (refers term_sort) a (from_term inside) (a + 1)
  second : Run false s (a + 1) (refers type_sort) (end - 2) (from_type type) (end - 1)

halves : {s : List ℕ} {m end a : ℕ} {h : Term} → Run false s m (refers term_sort) (end - 1) (from_term h) end → WideFits h → Kind 19 h → a ≡ (cell_at s (end - 1)).a →
    (cell_at s a).kind ≡ 21 → Halves s m end a h
unfolding from_term_in table row_in row_for
halves {s} {m} {end} {a} r g (k_anno {e = x} {A}) i f =
    let q = parts r refl in
    let e : a ≡ q.a = i ∙ ap (λ (c : Cell). c.a) q.cell.is in
    let y = ends q.first in
    let z = ends q.second in
    let n = nothing q.third in
    let one : Run false s m (refers term_sort) a (from_term x) (a + 1) = at_run refl (sym e) (omega (arith, e, y)) q.first in
    record {
      inside = x;
      type = A;
      is = refl;
      final = value_lam (term_kind x one f);
      fits = g;
      first = one;
      second = at_run (omega (arith, e, y)) (omega (arith, z, n)) n q.second;
    }

module _ {s w : List ℕ} {p : Place} {kind m end a : ℕ} (d : Halving s w p kind m end a) where
  halved : {K : List Around} {h : Term} → ContractumAt s w p kind m end K h → Halves s m end a h
  halved {h = h} b = halves b.run b.fits (term_kind h b.run d.annotated) d.inside d.function

  abbrev here : Halves s m end a d.installing.term
  here = halved d.installing.contractum

  -- where everything lies
  pub low : m ≤ a
  low = last here.first

  pub high : a + 2 < end
  high = omega (arith, last here.second, grows here.second, ends here.second)

  pub clear : p.start + (end - m) + 4097 ≤ suc p.root
  clear = far d.installing

  pub root_small : p.root < 8192
  root_small = root_low d.installing

  pub end_small : end ≤ 4095
  end_small = d.installing.small

  -- both halves have room before the annotation's cell
  pub apart : p.start + (a + 1 - m) + (end - 2 - a) < p.root
  apart = omega (arith, low, high, clear)

  pub left_low : p.start + (a + 1 - m) < 8192
  left_low = omega (arith, apart, root_small)

  pub place_function : PlaceReady s w m p.start (a + 1 - m)
  place_function =
      place_ready w p.start (omega (arith, low, high, end_small, d.installing.long)) d.installing.buffer (omega (arith, low, high, end_small)) (omega (arith, left_low))
      (at_run refl refl (omega (arith, low)) here.first)

  module _ {u : List ℕ} (x : Places s w u m p.start (a + 1 - m)) where
    pub place_type : PlaceReady s u (a + 1) (p.root - (end - 2 - a)) (end - 2 - a)
    place_type =
        place_ready u (p.root - (end - 2 - a)) (omega (arith, high, end_small, d.installing.long)) (x.kept.long ∙ d.installing.buffer) (omega (arith, high, end_small))
        (omega (arith, apart, root_small)) (at_run refl refl (omega (arith, high)) here.second)

    module _ {v : List ℕ} (y : Places s u v (a + 1) (p.root - (end - 2 - a)) (end - 2 - a)) where
      pub root_within : 8 * p.root + 8 ≤ length v
      root_within = omega (arith, y.kept.long, x.kept.long, d.installing.buffer, root_small)

      module _ {z : List ℕ} (written : z ≡ sets v (8 * p.root) (cell_bytes (record { kind = 19; label = 0; a = p.start + (a + 1 - m) - 1; b = p.root - 1; c = 0 }))) where
        o : Wrote v z p.root
        o = (stored _ root_within written).wrote

        long : length z ≡ length w
        long = o.long ∙ y.kept.long ∙ x.kept.long

        kept : Kept w z p.start (suc p.root)
        kept =
            record {
              long = long;
              below = λ i h.
                  o.others i (λ e. absurd (omega (arith, e, h, apart)))
                  ∙ y.kept.below i (omega (arith, h, apart)) ∙ x.kept.below i h;
              above = λ i h.
                  o.others i (λ e. absurd (omega (arith, e, h)))
                  ∙ y.kept.above i (omega (arith, h, apart)) ∙ x.kept.above i (omega (arith, h, apart));
            }

        function_run : {h : Term} (q : Halves s m end a h) →
            Run true z p.start (refers term_sort) (p.start + (a + 1 - m) - 1) (from_term q.inside) (p.start + (a + 1 - m))
        function_run q =
            let r = run_placed x (term_good Two q.inside q.fits.0) (at_run refl refl (omega (arith, low)) q.first) in
            kept_run (o.long ∙ y.kept.long)
            (λ i g h. o.others i (λ e. absurd (omega (arith, e, h, apart))) ∙ y.kept.below i (omega (arith, h, apart)))
            (at_run refl (omega (arith, low)) refl r)

        type_run : {h : Term} (q : Halves s m end a h) →
            Run true z (p.root - (end - 2 - a)) (refers type_sort) (p.root - 1) (from_type q.type) p.root
        type_run q =
            let r = run_placed y (type_good Two q.type q.fits.1) (at_run refl refl (omega (arith, high)) q.second) in
            kept_run o.long
            (λ i g h. o.others i (λ e. absurd (omega (arith, e, h))))
            (at_run refl (omega (arith, high, apart)) (omega (arith, high, apart)) r)

        pub installs_halves : Installs s w z p kind m end
            (Redex (record { left = p.start + (a + 1 - m); start = p.start; right = p.root - (end - 2 - a); root = p.root; up = p.up }))
        installs_halves =
            record {
              says = λ K h b.
                  let q = halved b in
                  record {
                    long = long ∙ d.installing.buffer;
                    around = K;
                    focus = anno q.inside q.type;
                    is = ap (whole K) q.is;
                    proper = b.proper;
                    at = record {
                      parts = of_anno (stored _ root_within written).there q.final (function_run q) (type_run q);
                      waits = kept_waits kept b.waits;
                      apart = omega (arith, apart);
                    };
                  };
            }
