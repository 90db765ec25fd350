-- `decisions::consistent`, by a walk over the left side and a walk over the right, meets its contract, and so do the functions that it calls. The
-- measures are eight times the sum of the two cells, with 0 to 4 added. The loops go from half to half, and have the kind of its cell in hand. Assumes nothing.
use mathlib.Core.Path.{ap}
use mathlib.Core.Path.{◌≡◌}
use mathlib.Core.Bool.{false, not, ◌&&◌}
use mathlib.Core.Logic.{◌⊎◌, inl, inr}
use native.Mathlib.Omega.{arith}
use borrow.Author.Tests.{ne_eqb}
use Rattle.calculus.specs.Decide.{is_consistent}
use Rattle.format.specs.Table.{type_sort, term_sort}
use Rattle.cells.specs.Held.{HoldsTerm}
use Rattle.cells.proofs.Held.{held_within}
use Rattle.decisions.proofs.Parts.{outright, flagged, passed}
use Rattle.decisions.specs.Questions.{LeftMerge, RightMerge, PlainPair}
use Rattle.decisions.proofs.Forms.{read, read_at, AtPair, Alike}
use Rattle.decisions.proofs.Trees.{comparable}
use Rattle.decisions.proofs.Walks.{AtHalves, own, walk_starts, left_in_order, right_in_order, and_other, and_goes_on, and_ends, kind_read, kind_stands, gone_on}
use Rattle.decisions.proofs.Agree as Agree
use Rattle.equality.specs.Trees.{SameTree}
use Rattle.cells.specs.Coded.{as_cell}
use Prim.Native.Nat.{ℕ, ◌+◌, ◌≤◌}
use Rattle.std.proofs.Common.{rules}
use Rattle.decisions.proofs.+consistency.Goals as goal
use Rattle.decisions.proofs.+consistency.Goals.{consistent_left-After-two_halves-half}
use Rattle.decisions.proofs.+consistency.Goals.{consistent_right-After-two_halves-half}
use Rattle.decisions.proofs.+consistency.Goals.{consistent_pair-After-read_cell-y}
use Rattle.decisions.proofs.+consistency.Goals.{consistent_pair-Else-x-y}
use Rattle.decisions.proofs.+consistency.Goals.{consistent_pair-Joined-else-same_tree, consistent_pair-else-same_tree-via-then-same_tree+else-same_tree-2, consistent_pair-else-same_tree-via-else-same_tree}

-- ---- what is known where the halves are had, and where the cells are read
abbrev left_halves : (t : ℕ) → consistent_left-After-two_halves-half t → AtHalves LeftMerge HoldsTerm is_consistent ◌&&◌ 8 2 t
left_halves t c =
    record { s = _; a = _; b = _; i = _; j = _; c = _; d = _; e = _; f = _; pre = c.requires; leads = c.loop-kind.invariant.0; halves = λ e f h k. left_in_order and_other c.two_halves-half.ensures.order (Agree.left_halves c.read_cell-x.ensures h k (kind_read c.read_cell-x.ensures c.loop-kind.invariant.1 c.loop-kind-test.true)); measure = c.decreases }

abbrev right_halves : (t : ℕ) → consistent_right-After-two_halves-half t → AtHalves RightMerge HoldsTerm is_consistent ◌&&◌ 8 1 t
right_halves t c =
    record { s = _; a = _; b = _; i = _; j = _; c = _; d = _; e = _; f = _; pre = c.requires; leads = c.loop-kind.invariant.0; halves = λ e f h k. right_in_order and_other c.two_halves-half.ensures.order (Agree.each_half_lem c.read_cell-y.ensures c.requires.first.plain h k (kind_read c.read_cell-y.ensures c.loop-kind.invariant.1 c.loop-kind-test.true)); measure = c.decreases }

abbrev two_pair : (t : ℕ) → consistent_pair-After-read_cell-y t → AtPair PlainPair 8 0 t
two_pair t c =
    record { s = _; a = _; b = _; x = _; y = _; pre = c.requires; first = c.read_cell-x.ensures; second = c.read_cell-y.ensures; measure = c.decreases }

abbrev two_alike : (t : ℕ) → consistent_pair-Else-x-y t → Alike PlainPair 8 0 t
two_alike t c =
    record { at = two_pair t (goal.at.consistent_pair-Else-x-y t c).After-read_cell-y; alike = c.if-x-y.false }

-- which of the two parts differs
two_apart : (t : ℕ) (c : consistent_pair-Joined-else-same_tree t) →
    (c.same_tree-2.result ≡ false) ⊎ SameTree c.args.s.now (as_cell c.read_cell-x.result).a (as_cell c.read_cell-y.result).a false
two_apart t c = elim c.else-same_tree.branch [
  | consistent_pair-else-same_tree-via-then-same_tree+else-same_tree-2 w ↦ inr (rw w.if-same_tree-2.false at w.same_tree-then-same_tree.ensures)
  | consistent_pair-else-same_tree-via-else-same_tree w ↦ inl w.if-same_tree.false
]

pub consistent_half-equal_numbers-requires : goal.consistent_half-equal_numbers-requires
consistent_half-equal_numbers-requires t c = c.requires

pub consistent_half-returns-then-equal_numbers : goal.consistent_half-returns-then-equal_numbers
consistent_half-returns-then-equal_numbers t c = c.equal_numbers.ensures.says c.if-equal_numbers.true

pub consistent_half-consistent-requires : goal.consistent_half-consistent-requires
consistent_half-consistent-requires t c = (omega (arith, c.decreases), c.requires)

pub consistent_half-returns : goal.consistent_half-returns
consistent_half-returns t c = c.consistent.ensures

pub consistent-read_cell-x-requires : goal.consistent-read_cell-x-requires
consistent-read_cell-x-requires t c = held_within c.requires.holds_first

pub consistent-returns-in-18 : goal.consistent-returns-in-18
consistent-returns-in-18 t c = outright (λ e f h k. Agree.left_unit c.read_cell-x.ensures h f c.in-18.is)

pub consistent-consistent_left-requires : goal.consistent-consistent_left-requires
consistent-consistent_left-requires t c = (omega (arith, c.decreases), record { terms = c.requires; merge = kind_stands c.read_cell-x.ensures c.in-22.is })

pub consistent-returns-in-22 : goal.consistent-returns-in-22
consistent-returns-in-22 t c = c.consistent_left.ensures

pub consistent-consistent_plain-requires : goal.consistent-consistent_plain-requires
consistent-consistent_plain-requires t c = (omega (arith, c.decreases), Agree.plain_left c.read_cell-x.ensures c.requires c.in-17.is)

pub consistent-returns-in-17 : goal.consistent-returns-in-17
consistent-returns-in-17 t c = c.consistent_plain.ensures

pub consistent-returns-in_default : goal.consistent-returns-in_default
consistent-returns-in_default t c = outright (λ e f h k. Agree.left_none c.read_cell-x.ensures h f (search rules) (search rules) (search rules))

pub consistent_left-loop-kind-init : goal.consistent_left-loop-kind-init
consistent_left-loop-kind-init t c = (walk_starts c.requires.terms, c.kind_at-kind.ensures)

pub consistent_left-kind_at-kind-requires : goal.consistent_left-kind_at-kind-requires
consistent_left-kind_at-kind-requires t c = held_within c.requires.terms.holds_first

pub consistent_left-read_cell-x-requires : goal.consistent_left-read_cell-x-requires
consistent_left-read_cell-x-requires t c = held_within c.loop-kind.invariant.0.at.holds_first

pub consistent_left-two_halves-half-requires-clause-first : goal.consistent_left-two_halves-half-requires-clause-first
consistent_left-two_halves-half-requires-clause-first t c = let l = c.loop-kind.invariant.0.at in held_within (Agree.left_halves c.read_cell-x.ensures l.holds_first l.holds_second (kind_read c.read_cell-x.ensures c.loop-kind.invariant.1 c.loop-kind-test.true)).first.holds_first

pub consistent_left-two_halves-half-requires-clause-second : goal.consistent_left-two_halves-half-requires-clause-second
consistent_left-two_halves-half-requires-clause-second t c = let l = c.loop-kind.invariant.0.at in held_within (Agree.left_halves c.read_cell-x.ensures l.holds_first l.holds_second (kind_read c.read_cell-x.ensures c.loop-kind.invariant.1 c.loop-kind-test.true)).second.holds_first

pub consistent_left-consistent_half-requires : goal.consistent_left-consistent_half-requires
consistent_left-consistent_half-requires t c = let w = left_halves t (goal.at.consistent_left-consistent_half-requires t c).After-two_halves-half in let v = own w in (omega (arith, w.measure, v.first_less, w.leads.lower), v.first)

pub consistent_left-returns-then-not-consistent_half : goal.consistent_left-returns-then-not-consistent_half
consistent_left-returns-then-not-consistent_half t c = let w = left_halves t (goal.at.consistent_left-returns-then-not-consistent_half t c).After-two_halves-half in and_ends w.leads w.halves c.consistent_half.ensures c.if-not-consistent_half.true

pub consistent_left-loop-kind-smaller : goal.consistent_left-loop-kind-smaller
consistent_left-loop-kind-smaller t c = omega (arith, (own (left_halves t (goal.at.consistent_left-loop-kind-smaller t c).After-two_halves-half)).second_less)

pub consistent_left-loop-kind-preserved : goal.consistent_left-loop-kind-preserved
consistent_left-loop-kind-preserved t c = let w = left_halves t (goal.at.consistent_left-loop-kind-preserved t c).After-two_halves-half in (and_goes_on w.leads w.halves c.consistent_half.ensures c.if-not-consistent_half.false, c.two_halves-half.ensures.rest)

pub consistent_left-consistent_half-requires-2 : goal.consistent_left-consistent_half-requires-2
consistent_left-consistent_half-requires-2 t c =
    let l : c.loop-kind.k ≤ c.args.i = omega (arith, c.loop-kind.invariant.0.lower) in
    let m = gone_on c.args.s.now l c.requires.merge c.loop-kind.invariant.1 c.loop-kind-test.false in
    (omega (arith, c.decreases, m), c.loop-kind.invariant.0.at)

pub consistent_left-returns : goal.consistent_left-returns
consistent_left-returns t c = c.loop-kind.invariant.0.on _ c.consistent_half-2.ensures

pub consistent_plain-read_cell-y-requires : goal.consistent_plain-read_cell-y-requires
consistent_plain-read_cell-y-requires t c = held_within c.requires.terms.holds_second

pub consistent_plain-returns-in-18 : goal.consistent_plain-returns-in-18
consistent_plain-returns-in-18 t c = outright (λ e f h k. Agree.each_unit c.read_cell-y.ensures c.requires.plain h k c.in-18.is)

pub consistent_plain-consistent_right-requires : goal.consistent_plain-consistent_right-requires
consistent_plain-consistent_right-requires t c = (omega (arith, c.decreases), record { first = c.requires; merge = kind_stands c.read_cell-y.ensures c.in-22.is })

pub consistent_plain-returns-in-22 : goal.consistent_plain-returns-in-22
consistent_plain-returns-in-22 t c = c.consistent_right.ensures

pub consistent_plain-consistent_pair-requires : goal.consistent_plain-consistent_pair-requires
consistent_plain-consistent_pair-requires t c = (omega (arith, c.decreases), Agree.plain_pair c.read_cell-y.ensures c.requires c.in-17.is)

pub consistent_plain-returns-in-17 : goal.consistent_plain-returns-in-17
consistent_plain-returns-in-17 t c = c.consistent_pair.ensures

pub consistent_plain-returns-in_default : goal.consistent_plain-returns-in_default
consistent_plain-returns-in_default t c = outright (λ e f h k. Agree.each_none c.read_cell-y.ensures c.requires.plain h k (search rules) (search rules) (search rules))

pub consistent_right-loop-kind-init : goal.consistent_right-loop-kind-init
consistent_right-loop-kind-init t c = (walk_starts c.requires.first.terms, c.kind_at-kind.ensures)

pub consistent_right-kind_at-kind-requires : goal.consistent_right-kind_at-kind-requires
consistent_right-kind_at-kind-requires t c = held_within c.requires.first.terms.holds_second

pub consistent_right-read_cell-y-requires : goal.consistent_right-read_cell-y-requires
consistent_right-read_cell-y-requires t c = held_within c.loop-kind.invariant.0.at.holds_second

pub consistent_right-two_halves-half-requires-clause-first : goal.consistent_right-two_halves-half-requires-clause-first
consistent_right-two_halves-half-requires-clause-first t c = let l = c.loop-kind.invariant.0.at in held_within (Agree.each_half_lem c.read_cell-y.ensures c.requires.first.plain l.holds_first l.holds_second (kind_read c.read_cell-y.ensures c.loop-kind.invariant.1 c.loop-kind-test.true)).first.holds_second

pub consistent_right-two_halves-half-requires-clause-second : goal.consistent_right-two_halves-half-requires-clause-second
consistent_right-two_halves-half-requires-clause-second t c = let l = c.loop-kind.invariant.0.at in held_within (Agree.each_half_lem c.read_cell-y.ensures c.requires.first.plain l.holds_first l.holds_second (kind_read c.read_cell-y.ensures c.loop-kind.invariant.1 c.loop-kind-test.true)).second.holds_second

pub consistent_right-each_half-requires : goal.consistent_right-each_half-requires
consistent_right-each_half-requires t c = let w = right_halves t (goal.at.consistent_right-each_half-requires t c).After-two_halves-half in let v = own w in (omega (arith, w.measure, v.first_less, w.leads.lower), record { terms = v.first; plain = w.pre.first.plain })

pub consistent_right-returns-then-not-each_half : goal.consistent_right-returns-then-not-each_half
consistent_right-returns-then-not-each_half t c = let w = right_halves t (goal.at.consistent_right-returns-then-not-each_half t c).After-two_halves-half in and_ends w.leads w.halves c.each_half.ensures c.if-not-each_half.true

pub consistent_right-loop-kind-smaller : goal.consistent_right-loop-kind-smaller
consistent_right-loop-kind-smaller t c = omega (arith, (own (right_halves t (goal.at.consistent_right-loop-kind-smaller t c).After-two_halves-half)).second_less)

pub consistent_right-loop-kind-preserved : goal.consistent_right-loop-kind-preserved
consistent_right-loop-kind-preserved t c = let w = right_halves t (goal.at.consistent_right-loop-kind-preserved t c).After-two_halves-half in (and_goes_on w.leads w.halves c.each_half.ensures c.if-not-each_half.false, c.two_halves-half.ensures.rest)

pub consistent_right-each_half-requires-2 : goal.consistent_right-each_half-requires-2
consistent_right-each_half-requires-2 t c =
    let l : c.loop-kind.k ≤ c.args.j = omega (arith, c.loop-kind.invariant.0.lower) in
    let m = gone_on c.args.s.now l c.requires.merge c.loop-kind.invariant.1 c.loop-kind-test.false in
    (omega (arith, c.decreases, m), record { terms = c.loop-kind.invariant.0.at; plain = c.requires.first.plain })

pub consistent_right-returns : goal.consistent_right-returns
consistent_right-returns t c = c.loop-kind.invariant.0.on _ c.each_half-2.ensures

pub each_half-equal_numbers-requires : goal.each_half-equal_numbers-requires
each_half-equal_numbers-requires t c = c.requires.terms

pub each_half-returns-then-equal_numbers : goal.each_half-returns-then-equal_numbers
each_half-returns-then-equal_numbers t c = c.equal_numbers.ensures.says c.if-equal_numbers.true

pub each_half-consistent_plain-requires : goal.each_half-consistent_plain-requires
each_half-consistent_plain-requires t c = (omega (arith, c.decreases), c.requires)

pub each_half-returns : goal.each_half-returns
each_half-returns t c = c.consistent_plain.ensures

pub consistent_pair-read_cell-x-requires : goal.consistent_pair-read_cell-x-requires
consistent_pair-read_cell-x-requires t c = held_within c.requires.first.terms.holds_first

pub consistent_pair-read_cell-y-requires : goal.consistent_pair-read_cell-y-requires
consistent_pair-read_cell-y-requires t c = held_within c.requires.first.terms.holds_second

pub consistent_pair-returns-then-x-y : goal.consistent_pair-returns-then-x-y
consistent_pair-returns-then-x-y t c = let p = two_pair t (goal.at.consistent_pair-returns-then-x-y t c).After-read_cell-y in outright (λ e f h k. Agree.pair_kinds (read p.first p.second h k) p.pre.first.plain p.pre.plain c.if-x-y.true)

pub consistent_pair-same_tree-requires : goal.consistent_pair-same_tree-requires
consistent_pair-same_tree-requires t c = comparable term_sort (two_alike t (goal.at.consistent_pair-same_tree-requires t c).Else-x-y).at.pre.first.terms

pub consistent_pair-returns-then-x-eq17 : goal.consistent_pair-returns-then-x-eq17
consistent_pair-returns-then-x-eq17 t c = let p = two_alike t (goal.at.consistent_pair-returns-then-x-eq17 t c).Else-x-y in outright (λ e f h k. Agree.numbers (read p.at.first p.at.second h k) p.alike (λ n. (c.type_inv.s n).fits) c.if-x-eq17.true c.same_tree.ensures)

pub consistent_pair-consistent_half-requires : goal.consistent_pair-consistent_half-requires
consistent_pair-consistent_half-requires t c = let p = two_alike t (goal.at.consistent_pair-consistent_half-requires t c).Else-x-y in let v = Agree.records (read_at p.at.first p.at.second p.at.pre.first.terms) p.alike c.if-x-eq24.true c.if-x-y-2.false in (omega (arith, v.less, p.at.measure), v.part)

pub consistent_pair-returns-then-x-y-2 : goal.consistent_pair-returns-then-x-y-2
consistent_pair-returns-then-x-y-2 t c = let p = two_alike t (goal.at.consistent_pair-returns-then-x-y-2 t c).Else-x-y in flagged (ap not (ne_eqb _ _ c.if-x-y-2.true)) (λ e f h k. Agree.other_records (read p.at.first p.at.second h k) p.alike c.if-x-eq24.true c.if-x-y-2.true)

pub consistent_pair-returns-else-x-y-2 : goal.consistent_pair-returns-else-x-y-2
consistent_pair-returns-else-x-y-2 t c = let p = two_alike t (goal.at.consistent_pair-returns-else-x-y-2 t c).Else-x-y in passed (λ e f h k. Agree.records (read p.at.first p.at.second h k) p.alike c.if-x-eq24.true c.if-x-y-2.false) c.consistent_half.ensures

pub consistent_pair-same_tree-requires-2 : goal.consistent_pair-same_tree-requires-2
consistent_pair-same_tree-requires-2 t c = let p = two_alike t (goal.at.consistent_pair-same_tree-requires-2 t c).Else-x-y in comparable type_sort (Agree.functions (read_at p.at.first p.at.second p.at.pre.first.terms) p.alike p.at.pre.first.plain c.if-x-eq17.false c.if-x-eq24.false).inputs

pub consistent_pair-same_tree-requires-then-same_tree : goal.consistent_pair-same_tree-requires-then-same_tree
consistent_pair-same_tree-requires-then-same_tree t c = let p = two_alike t (goal.at.consistent_pair-same_tree-requires-then-same_tree t c).Else-x-y in comparable term_sort (Agree.functions (read_at p.at.first p.at.second p.at.pre.first.terms) p.alike p.at.pre.first.plain c.if-x-eq17.false c.if-x-eq24.false).bodies

pub consistent_pair-returns-then-same_tree-2 : goal.consistent_pair-returns-then-same_tree-2
consistent_pair-returns-then-same_tree-2 t c = let p = two_alike t (goal.at.consistent_pair-returns-then-same_tree-2 t c).Else-x-y in Agree.agree_same (λ e f h k. Agree.functions (read p.at.first p.at.second h k) p.alike p.at.pre.first.plain c.if-x-eq17.false c.if-x-eq24.false) (λ n. (c.type_inv.s n).fits) c.same_tree-2.ensures c.if-same_tree.true c.same_tree-then-same_tree.ensures c.if-same_tree-2.true

pub consistent_pair-disjoint-requires : goal.consistent_pair-disjoint-requires
consistent_pair-disjoint-requires t c = let p = two_alike t (goal.at.consistent_pair-disjoint-requires t c).Else-x-y in (Agree.functions (read_at p.at.first p.at.second p.at.pre.first.terms) p.alike p.at.pre.first.plain c.if-x-eq17.false c.if-x-eq24.false).outputs

pub consistent_pair-returns : goal.consistent_pair-returns
consistent_pair-returns t c = let p = two_alike t (goal.at.consistent_pair-returns t c).Else-x-y in Agree.agree_apart (λ e f h k. Agree.functions (read p.at.first p.at.second h k) p.alike p.at.pre.first.plain c.if-x-eq17.false c.if-x-eq24.false) (λ n. (c.type_inv.s n).fits) c.same_tree-2.ensures (two_apart t (goal.at.consistent_pair-returns t c).Joined-else-same_tree) c.disjoint.ensures
