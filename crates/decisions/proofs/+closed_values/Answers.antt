-- `decisions::closed_value`, `closed_parts` and `closed_half` meet their contracts. The measure is three times the cell, with 0 to 2 added. The loop
-- goes from half to half, and has the kind of its cell in hand. Assumes nothing.
use native.Mathlib.Omega.{arith}
use mathlib.Core.Path.{refl}
use Prim.Native.Nat.{ℕ}
use Rattle.std.proofs.Common.{rules}
use Rattle.cells.proofs.Held.{held_within}
use Rattle.decisions.specs.Questions.{is_closed_value}
use Rattle.decisions.proofs.Single.{one_outright, one_passed, merge_value, record_value, function_value, plain_value, no_closed_value}
use Rattle.decisions.proofs.Variables.{closed_at, closed_says}
use Rattle.decisions.proofs.Walks.{OneHalves, one_own, one_walk_starts, one_in_order, one_goes_on, one_ends, kind_read, kind_stands, gone_on}
use Rattle.decisions.proofs.+closed_values.Goals as goal
use Rattle.decisions.proofs.+closed_values.Goals.{closed_parts-After-two_halves-half}

-- ---- what is known where the halves are had
abbrev value_halves : (t : ℕ) → closed_parts-After-two_halves-half t → OneHalves is_closed_value t
value_halves t c =
    record { s = _; i = _; k = _; a = _; b = _; leads = c.loop-kind.invariant.0; halves = λ e h. one_in_order c.two_halves-half.ensures.order (merge_value c.read_cell-x.ensures h (kind_read c.read_cell-x.ensures c.loop-kind.invariant.1 c.loop-kind-test.true)); small = c.requires.1; measure = c.decreases }

pub closed_parts-loop-kind-init : goal.closed_parts-loop-kind-init
closed_parts-loop-kind-init t c = (one_walk_starts c.requires.0.at, c.kind_at-kind.ensures)

pub closed_parts-kind_at-kind-requires : goal.closed_parts-kind_at-kind-requires
closed_parts-kind_at-kind-requires t c = held_within c.requires.0.at.holds

pub closed_parts-read_cell-x-requires : goal.closed_parts-read_cell-x-requires
closed_parts-read_cell-x-requires t c = held_within c.loop-kind.invariant.0.at.holds

pub closed_parts-two_halves-half-requires-clause-first : goal.closed_parts-two_halves-half-requires-clause-first
closed_parts-two_halves-half-requires-clause-first t c = held_within (merge_value c.read_cell-x.ensures c.loop-kind.invariant.0.at.holds (kind_read c.read_cell-x.ensures c.loop-kind.invariant.1 c.loop-kind-test.true)).first.holds

pub closed_parts-two_halves-half-requires-clause-second : goal.closed_parts-two_halves-half-requires-clause-second
closed_parts-two_halves-half-requires-clause-second t c = held_within (merge_value c.read_cell-x.ensures c.loop-kind.invariant.0.at.holds (kind_read c.read_cell-x.ensures c.loop-kind.invariant.1 c.loop-kind-test.true)).second.holds

pub closed_parts-closed_half-requires : goal.closed_parts-closed_half-requires
closed_parts-closed_half-requires t c = let w = value_halves t (goal.at.closed_parts-closed_half-requires t c).After-two_halves-half in let v = one_own w in (omega (arith, w.measure, v.first_less, w.leads.lower), (v.first, omega (arith, w.small, v.first_less, w.leads.lower)))

pub closed_parts-returns-then-not-closed_half : goal.closed_parts-returns-then-not-closed_half
closed_parts-returns-then-not-closed_half t c = let w = value_halves t (goal.at.closed_parts-returns-then-not-closed_half t c).After-two_halves-half in one_ends w.leads w.halves c.closed_half.ensures c.if-not-closed_half.true

pub closed_parts-loop-kind-smaller : goal.closed_parts-loop-kind-smaller
closed_parts-loop-kind-smaller t c = omega (arith, (one_own (value_halves t (goal.at.closed_parts-loop-kind-smaller t c).After-two_halves-half)).second_less)

pub closed_parts-loop-kind-preserved : goal.closed_parts-loop-kind-preserved
closed_parts-loop-kind-preserved t c = let w = value_halves t (goal.at.closed_parts-loop-kind-preserved t c).After-two_halves-half in (one_goes_on w.leads w.halves c.closed_half.ensures c.if-not-closed_half.false, c.two_halves-half.ensures.rest)

pub closed_parts-closed_half-requires-2 : goal.closed_parts-closed_half-requires-2
closed_parts-closed_half-requires-2 t c = let l = gone_on c.args.s.now c.loop-kind.invariant.0.lower c.requires.0.merge c.loop-kind.invariant.1 c.loop-kind-test.false in (omega (arith, c.decreases, l), (c.loop-kind.invariant.0.at, omega (arith, c.requires.1, l)))

pub closed_parts-returns : goal.closed_parts-returns
closed_parts-returns t c = c.loop-kind.invariant.0.on _ c.closed_half-2.ensures

pub closed_half-kind_at-k-requires : goal.closed_half-kind_at-k-requires
closed_half-kind_at-k-requires t c = held_within c.requires.0.holds

pub closed_half-returns-then-k-eq17 : goal.closed_half-returns-then-k-eq17
closed_half-returns-then-k-eq17 t c = one_outright (λ e h. plain_value refl h (search rules) (search rules))

pub closed_half-closed_value-requires : goal.closed_half-closed_value-requires
closed_half-closed_value-requires t c = (omega (arith, c.decreases), c.requires)

pub closed_half-returns : goal.closed_half-returns
closed_half-returns t c = c.closed_value.ensures

pub closed_value-read_cell-x-requires : goal.closed_value-read_cell-x-requires
closed_value-read_cell-x-requires t c = held_within c.requires.0.holds

pub closed_value-closed_parts-requires : goal.closed_value-closed_parts-requires
closed_value-closed_parts-requires t c = (omega (arith, c.decreases), (record { at = c.requires.0; merge = kind_stands c.read_cell-x.ensures c.in-22.is }, c.requires.1))

pub closed_value-closed_value-requires : goal.closed_value-closed_value-requires
closed_value-closed_value-requires t c = let p = record_value c.read_cell-x.ensures c.requires.0.holds c.in-24.is in (omega (arith, p.less, c.decreases), (p.part, omega (arith, p.less, c.requires.1)))

pub closed_value-returns-in-24 : goal.closed_value-returns-in-24
closed_value-returns-in-24 t c = one_passed (λ e h. record_value c.read_cell-x.ensures h c.in-24.is) c.closed_value.ensures

pub closed_value-closed-requires : goal.closed_value-closed-requires
closed_value-closed-requires t c = let p = function_value c.read_cell-x.ensures c.requires.0.holds c.in-21.is in closed_at (omega (arith, p.less, c.requires.1)) p.part

pub closed_value-returns-in-21 : goal.closed_value-returns-in-21
closed_value-returns-in-21 t c = one_passed (λ e h. function_value c.read_cell-x.ensures h c.in-21.is) (closed_says c.closed.ensures)

pub closed_value-returns-in-17 : goal.closed_value-returns-in-17
closed_value-returns-in-17 t c = one_outright (λ e h. plain_value c.read_cell-x.ensures h (search rules) (search rules))

pub closed_value-returns-in_default : goal.closed_value-returns-in_default
closed_value-returns-in_default t c =
    one_outright (λ e h. no_closed_value c.read_cell-x.ensures h (search rules) (search rules) (search rules) (search rules) (search rules))

pub closed_value-returns-in_default-2 : goal.closed_value-returns-in_default-2
closed_value-returns-in_default-2 t c =
    one_outright (λ e h. no_closed_value c.read_cell-x.ensures h (search rules) (search rules) (search rules) (search rules) (search rules))
