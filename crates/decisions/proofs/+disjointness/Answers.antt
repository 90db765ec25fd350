-- `decisions::disjoint`, by a walk over the left side (`apart_left`) and a walk over the right (`apart_right`), meets its contract, and so do the
-- functions that it calls. The measures are eight times the sum of the two cells, with 0 to 4 added. The loops go from half to half, and have the
-- kind of its cell in hand. Assumes nothing.
use mathlib.Core.Path.{refl, ap, ◌∙◌}
use mathlib.Core.Bool.{not, ◌&&◌}
use native.Mathlib.Omega.{arith}
use borrow.Author.Tests.{ne_eqb}
use Rattle.calculus.specs.Decide.{is_disjoint}
use Rattle.format.specs.Cell.{Cell}
use Rattle.cells.specs.Held.{HoldsType}
use Rattle.cells.proofs.Held.{held_within}
use Rattle.decisions.proofs.Parts.{outright, flagged, passed}
use Rattle.decisions.specs.Questions.{LeftInter, SingleInter, SingleTypes}
use Rattle.decisions.proofs.Forms.{read, read_at, AtPair, Alike}
use Rattle.decisions.proofs.Walks.{AtHalves, own, walk_starts, left_in_order, right_in_order, and_other, and_goes_on, and_ends, kind_read, kind_stands, gone_on}
use Rattle.decisions.proofs.Apart as Apart
use Rattle.decisions.proofs.Below.{not_kind}
use Prim.Native.Nat.{ℕ, ◌≤◌}
use Rattle.decisions.proofs.+disjointness.Goals as goal
use Rattle.decisions.proofs.+disjointness.Goals.{apart_left-After-two_halves-half, apart_right-After-two_halves-half}
use Rattle.decisions.proofs.+disjointness.Goals.{apart_pair-After-read_cell-y, apart_pair-Else-x-y}

-- ---- what is known where the halves are had, and where the cells are read
abbrev left_halves : (t : ℕ) → apart_left-After-two_halves-half t → AtHalves LeftInter HoldsType is_disjoint ◌&&◌ 8 2 t
left_halves t c =
    record { s = _; a = _; b = _; i = _; j = _; c = _; d = _; e = _; f = _; pre = c.requires; leads = c.loop-kind.invariant.0; halves = λ A B h k. left_in_order and_other c.two_halves-half.ensures.order (Apart.left_halves (read c.read_cell-x.ensures refl h k) (kind_read c.read_cell-x.ensures c.loop-kind.invariant.1 c.loop-kind-test.true)); measure = c.decreases }

abbrev right_halves : (t : ℕ) → apart_right-After-two_halves-half t → AtHalves SingleInter HoldsType is_disjoint ◌&&◌ 8 1 t
right_halves t c =
    record { s = _; a = _; b = _; i = _; j = _; c = _; d = _; e = _; f = _; pre = c.requires; leads = c.loop-kind.invariant.0; halves = λ A B h k. right_in_order and_other c.two_halves-half.ensures.order (Apart.right_halves (read refl c.read_cell-y.ensures h k) (kind_read c.read_cell-y.ensures c.loop-kind.invariant.1 c.loop-kind-test.true)); measure = c.decreases }

abbrev two_pair : (t : ℕ) → apart_pair-After-read_cell-y t → AtPair SingleTypes 8 0 t
two_pair t c =
    record { s = _; a = _; b = _; x = _; y = _; pre = c.requires; first = c.read_cell-x.ensures; second = c.read_cell-y.ensures; measure = c.decreases }

abbrev two_alike : (t : ℕ) → apart_pair-Else-x-y t → Alike SingleTypes 8 0 t
two_alike t c =
    record { at = two_pair t (goal.at.apart_pair-Else-x-y t c).After-read_cell-y; alike = c.if-x-y.false }

pub apart_left-loop-kind-init : goal.apart_left-loop-kind-init
apart_left-loop-kind-init t c = (walk_starts c.requires.types, c.kind_at-kind.ensures)

pub apart_left-kind_at-kind-requires : goal.apart_left-kind_at-kind-requires
apart_left-kind_at-kind-requires t c = held_within c.requires.types.holds_first

pub apart_left-read_cell-x-requires : goal.apart_left-read_cell-x-requires
apart_left-read_cell-x-requires t c = held_within c.loop-kind.invariant.0.at.holds_first

pub apart_left-two_halves-half-requires-clause-first : goal.apart_left-two_halves-half-requires-clause-first
apart_left-two_halves-half-requires-clause-first t c = let l = c.loop-kind.invariant.0.at in held_within (Apart.left_halves (read c.read_cell-x.ensures refl l.holds_first l.holds_second) (kind_read c.read_cell-x.ensures c.loop-kind.invariant.1 c.loop-kind-test.true)).first.holds_first

pub apart_left-two_halves-half-requires-clause-second : goal.apart_left-two_halves-half-requires-clause-second
apart_left-two_halves-half-requires-clause-second t c = let l = c.loop-kind.invariant.0.at in held_within (Apart.left_halves (read c.read_cell-x.ensures refl l.holds_first l.holds_second) (kind_read c.read_cell-x.ensures c.loop-kind.invariant.1 c.loop-kind-test.true)).second.holds_first

pub apart_left-apart_half-requires : goal.apart_left-apart_half-requires
apart_left-apart_half-requires t c = let w = left_halves t (goal.at.apart_left-apart_half-requires t c).After-two_halves-half in let v = own w in (omega (arith, w.measure, v.first_less, w.leads.lower), v.first)

pub apart_left-returns-then-not-apart_half : goal.apart_left-returns-then-not-apart_half
apart_left-returns-then-not-apart_half t c = let w = left_halves t (goal.at.apart_left-returns-then-not-apart_half t c).After-two_halves-half in and_ends w.leads w.halves c.apart_half.ensures c.if-not-apart_half.true

pub apart_left-loop-kind-smaller : goal.apart_left-loop-kind-smaller
apart_left-loop-kind-smaller t c = omega (arith, (own (left_halves t (goal.at.apart_left-loop-kind-smaller t c).After-two_halves-half)).second_less)

pub apart_left-loop-kind-preserved : goal.apart_left-loop-kind-preserved
apart_left-loop-kind-preserved t c = let w = left_halves t (goal.at.apart_left-loop-kind-preserved t c).After-two_halves-half in (and_goes_on w.leads w.halves c.apart_half.ensures c.if-not-apart_half.false, c.two_halves-half.ensures.rest)

pub apart_left-apart_half-requires-2 : goal.apart_left-apart_half-requires-2
apart_left-apart_half-requires-2 t c =
    let l : c.loop-kind.i ≤ c.args.a = omega (arith, c.loop-kind.invariant.0.lower) in
    let m = gone_on c.args.s.now l c.requires.inter c.loop-kind.invariant.1 c.loop-kind-test.false in
    (omega (arith, c.decreases, m), c.loop-kind.invariant.0.at)

pub apart_left-returns : goal.apart_left-returns
apart_left-returns t c = c.loop-kind.invariant.0.on _ c.apart_half-2.ensures

pub apart_left-returns-then-x-eq1 : goal.apart_left-returns-then-x-eq1
apart_left-returns-then-x-eq1 t c = c.loop-kind.invariant.0.on _ (outright (λ A B h k. Apart.left_top B h _ c.read_cell-x.ensures c.if-x-eq1.true))

pub apart_half-kind_at-requires : goal.apart_half-kind_at-requires
apart_half-kind_at-requires t c = held_within c.requires.holds_first

pub apart_half-kind_at-requires-else-kind_at-eq4 : goal.apart_half-kind_at-requires-else-kind_at-eq4
apart_half-kind_at-requires-else-kind_at-eq4 t c = held_within c.requires.holds_second

pub apart_right-loop-kind-init : goal.apart_right-loop-kind-init
apart_right-loop-kind-init t c = (walk_starts c.requires.first.types, c.kind_at-kind.ensures)

pub apart_right-kind_at-kind-requires : goal.apart_right-kind_at-kind-requires
apart_right-kind_at-kind-requires t c = held_within c.requires.first.types.holds_second

pub apart_right-read_cell-y-requires : goal.apart_right-read_cell-y-requires
apart_right-read_cell-y-requires t c = held_within c.loop-kind.invariant.0.at.holds_second

pub apart_right-two_halves-half-requires-clause-first : goal.apart_right-two_halves-half-requires-clause-first
apart_right-two_halves-half-requires-clause-first t c = let l = c.loop-kind.invariant.0.at in held_within (Apart.right_halves (read refl c.read_cell-y.ensures l.holds_first l.holds_second) (kind_read c.read_cell-y.ensures c.loop-kind.invariant.1 c.loop-kind-test.true)).first.holds_second

pub apart_right-two_halves-half-requires-clause-second : goal.apart_right-two_halves-half-requires-clause-second
apart_right-two_halves-half-requires-clause-second t c = let l = c.loop-kind.invariant.0.at in held_within (Apart.right_halves (read refl c.read_cell-y.ensures l.holds_first l.holds_second) (kind_read c.read_cell-y.ensures c.loop-kind.invariant.1 c.loop-kind-test.true)).second.holds_second

pub apart_right-apart_part-requires : goal.apart_right-apart_part-requires
apart_right-apart_part-requires t c = let w = right_halves t (goal.at.apart_right-apart_part-requires t c).After-two_halves-half in let v = own w in (omega (arith, w.measure, v.first_less, w.leads.lower), record { types = v.first; first_single = w.pre.first.first_single })

pub apart_right-returns-then-not-apart_part : goal.apart_right-returns-then-not-apart_part
apart_right-returns-then-not-apart_part t c = let w = right_halves t (goal.at.apart_right-returns-then-not-apart_part t c).After-two_halves-half in and_ends w.leads w.halves c.apart_part.ensures c.if-not-apart_part.true

pub apart_right-loop-kind-smaller : goal.apart_right-loop-kind-smaller
apart_right-loop-kind-smaller t c = omega (arith, (own (right_halves t (goal.at.apart_right-loop-kind-smaller t c).After-two_halves-half)).second_less)

pub apart_right-loop-kind-preserved : goal.apart_right-loop-kind-preserved
apart_right-loop-kind-preserved t c = let w = right_halves t (goal.at.apart_right-loop-kind-preserved t c).After-two_halves-half in (and_goes_on w.leads w.halves c.apart_part.ensures c.if-not-apart_part.false, c.two_halves-half.ensures.rest)

pub apart_right-apart_part-requires-2 : goal.apart_right-apart_part-requires-2
apart_right-apart_part-requires-2 t c =
    let l : c.loop-kind.j ≤ c.args.b = omega (arith, c.loop-kind.invariant.0.lower) in
    let m = gone_on c.args.s.now l c.requires.inter c.loop-kind.invariant.1 c.loop-kind-test.false in
    (omega (arith, c.decreases, m), record { types = c.loop-kind.invariant.0.at; first_single = c.requires.first.first_single })

pub apart_right-returns : goal.apart_right-returns
apart_right-returns t c = c.loop-kind.invariant.0.on _ c.apart_part-2.ensures

pub apart_pair-read_cell-x-requires : goal.apart_pair-read_cell-x-requires
apart_pair-read_cell-x-requires t c = held_within c.requires.first.types.holds_first

pub apart_pair-read_cell-y-requires : goal.apart_pair-read_cell-y-requires
apart_pair-read_cell-y-requires t c = held_within c.requires.first.types.holds_second

pub apart_pair-returns-then-x-eq1 : goal.apart_pair-returns-then-x-eq1
apart_pair-returns-then-x-eq1 t c = outright (λ A B h k. Apart.left_top B h _ c.read_cell-x.ensures c.if-x-eq1.true)

pub apart_pair-returns-then-y-eq1 : goal.apart_pair-returns-then-y-eq1
apart_pair-returns-then-y-eq1 t c = outright (λ A B h k. Apart.right_top A k _ c.read_cell-y.ensures c.if-y-eq1.true)

pub apart_pair-returns-then-x-y : goal.apart_pair-returns-then-x-y
apart_pair-returns-then-x-y t c = let p = two_pair t (goal.at.apart_pair-returns-then-x-y t c).After-read_cell-y in outright (λ A B h k. Apart.other_kinds (read p.first p.second h k) c.if-x-eq1.false (not_kind p.first p.pre.first.first_single) c.if-y-eq1.false (not_kind p.second p.pre.second_single) c.if-x-y.true)

pub apart_pair-disjoint-requires : goal.apart_pair-disjoint-requires
apart_pair-disjoint-requires t c = let p = two_alike t (goal.at.apart_pair-disjoint-requires t c).Else-x-y in let v = Apart.outputs (read_at p.at.first p.at.second p.at.pre.first.types) p.alike c.if-x-eq3.true in (omega (arith, v.less, p.at.measure), v.part)

pub apart_pair-returns-then-x-eq3 : goal.apart_pair-returns-then-x-eq3
apart_pair-returns-then-x-eq3 t c = let p = two_alike t (goal.at.apart_pair-returns-then-x-eq3 t c).Else-x-y in passed (λ A B h k. Apart.outputs (read p.at.first p.at.second h k) p.alike c.if-x-eq3.true) c.disjoint.ensures

pub apart_pair-disjoint-requires-else-x-y-2 : goal.apart_pair-disjoint-requires-else-x-y-2
apart_pair-disjoint-requires-else-x-y-2 t c = let p = two_alike t (goal.at.apart_pair-disjoint-requires-else-x-y-2 t c).Else-x-y in let v = Apart.fields (read_at p.at.first p.at.second p.at.pre.first.types) p.alike c.if-x-eq5.true c.if-x-y-2.false in (omega (arith, v.less, p.at.measure), v.part)

pub apart_pair-returns-then-x-y-2 : goal.apart_pair-returns-then-x-y-2
apart_pair-returns-then-x-y-2 t c = let p = two_alike t (goal.at.apart_pair-returns-then-x-y-2 t c).Else-x-y in flagged (ap not (ne_eqb _ _ c.if-x-y-2.true)) (λ A B h k. Apart.other_labels (read p.at.first p.at.second h k) p.alike c.if-x-eq5.true c.if-x-y-2.true)

pub apart_pair-returns-else-x-y-2 : goal.apart_pair-returns-else-x-y-2
apart_pair-returns-else-x-y-2 t c = let p = two_alike t (goal.at.apart_pair-returns-else-x-y-2 t c).Else-x-y in passed (λ A B h k. Apart.fields (read p.at.first p.at.second h k) p.alike c.if-x-eq5.true c.if-x-y-2.false) c.disjoint-else-x-y-2.ensures

pub apart_pair-returns : goal.apart_pair-returns
apart_pair-returns t c = let p = two_alike t (goal.at.apart_pair-returns t c).Else-x-y in outright (λ A B h k. Apart.numbers (read p.at.first p.at.second h k) c.if-x-eq1.false (not_kind p.at.first p.at.pre.first.first_single) c.if-y-eq1.false (not_kind p.at.second p.at.pre.second_single) p.alike c.if-x-eq3.false c.if-x-eq5.false)

pub disjoint-read_cell-x-requires : goal.disjoint-read_cell-x-requires
disjoint-read_cell-x-requires t c = held_within c.requires.holds_first

pub disjoint-read_cell-y-requires : goal.disjoint-read_cell-y-requires
disjoint-read_cell-y-requires t c = held_within c.requires.holds_second

pub disjoint-returns-then-x-eq1 : goal.disjoint-returns-then-x-eq1
disjoint-returns-then-x-eq1 t c = outright (λ A B h k. Apart.left_top B h _ c.read_cell-x.ensures c.if-x-eq1.true)

pub disjoint-returns-then-y-eq1 : goal.disjoint-returns-then-y-eq1
disjoint-returns-then-y-eq1 t c = outright (λ A B h k. Apart.right_top A k _ c.read_cell-y.ensures c.if-y-eq1.true)

pub disjoint-apart_left-requires : goal.disjoint-apart_left-requires
disjoint-apart_left-requires t c = (omega (arith, c.decreases), record { types = c.requires; inter = kind_stands c.read_cell-x.ensures c.if-x-eq4.true })

pub disjoint-apart_right-requires : goal.disjoint-apart_right-requires
disjoint-apart_right-requires t c = (omega (arith, c.decreases), record { first = record { types = c.requires; first_single = λ m. c.if-x-eq4.false (ap (λ (u : Cell). u.kind) c.read_cell-x.ensures ∙ m) }; inter = kind_stands c.read_cell-y.ensures c.if-y-eq4.true })
