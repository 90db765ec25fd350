-- `decisions::subtype`, `part_below`, `half_below` and `single_below` meet their contracts. The measure is four times the sum of the two cells, and
-- one more from the single type to the whole question. The loop goes from half to half. Assumes nothing.
use mathlib.Core.Path.{refl, sym, ap, ◌∙◌}
use mathlib.Core.Bool.{◌||◌}
use native.Mathlib.Omega.{arith}
use borrow.Author.Tests.{ne_eqb}
use Rattle.format.specs.Cell.{Cell}
use Rattle.calculus.specs.Decide.{is_below}
use Rattle.cells.specs.Held.{HoldsType}
use Rattle.cells.proofs.Held.{held_within}
use Rattle.decisions.proofs.Parts.{outright, flagged, passed, both, none}
use Rattle.decisions.specs.Questions.{TypesAt, UnderPlain, TwoPlain}
use Rattle.decisions.proofs.Forms.{read, read_at, AtPair, Alike}
use Rattle.decisions.proofs.Walks.{AtHalves, own, walk_starts, or_swapped, or_goes_on, or_ends}
use Rattle.decisions.proofs.Below as Below
use Rattle.decisions.proofs.Below.{not_marked, not_kind, under, halves_of}
use Prim.Native.Nat.{ℕ}
use Rattle.decisions.proofs.+subtyping.Goals as goal
use Rattle.decisions.proofs.+subtyping.Goals.{part_below-After-read_cell-x}
use Rattle.decisions.proofs.+subtyping.Goals.{single_below-After-read_cell-y}
use Rattle.decisions.proofs.+subtyping.Goals.{single_below-Else-x-y}
use Rattle.decisions.proofs.+subtyping.Goals.{subtype-After-read_cell-y}

-- ---- what is known where the cells are read
abbrev part_halves : (t : ℕ) → part_below-After-read_cell-x t → AtHalves UnderPlain HoldsType is_below ◌||◌ 4 1 t
part_halves t c =
    record { s = _; a = _; b = _; i = _; j = _; c = _; d = _; e = _; f = _; pre = c.requires; leads = c.loop-x.invariant; halves = halves_of c.read_cell-x.ensures c.kind_at.ensures c.loop-x-test.true c.requires; measure = c.decreases }

abbrev single_pair : (t : ℕ) → single_below-After-read_cell-y t → AtPair TwoPlain 4 0 t
single_pair t c =
    record { s = _; a = _; b = _; x = _; y = _; pre = c.requires; first = c.read_cell-x.ensures; second = c.read_cell-y.ensures; measure = c.decreases }

abbrev single_alike : (t : ℕ) → single_below-Else-x-y t → Alike TwoPlain 4 0 t
single_alike t c =
    record { at = single_pair t (goal.at.single_below-Else-x-y t c).After-read_cell-y; alike = c.if-x-y.false }

abbrev whole_pair : (t : ℕ) → subtype-After-read_cell-y t → AtPair TypesAt 4 3 t
whole_pair t c =
    record { s = _; a = _; b = _; x = _; y = _; pre = c.requires; first = refl; second = c.read_cell-y.ensures; measure = c.decreases }

pub half_below-kind_at-k-requires : goal.half_below-kind_at-k-requires
half_below-kind_at-k-requires t c = held_within c.requires.types.holds_first

pub half_below-kind_at-requires : goal.half_below-kind_at-requires
half_below-kind_at-requires t c = held_within c.requires.types.holds_second

pub half_below-returns-then-k-kind_at : goal.half_below-returns-then-k-kind_at
half_below-returns-then-k-kind_at t c = outright (λ A B h k. Below.unlike (read refl refl h k) c.requires.second_marked c.requires.second_single (λ m. c.if-k-ne4.true (c.kind_at-k.ensures ∙ m)) (λ m. c.if-k-kind_at.true (c.kind_at-k.ensures ∙ m ∙ sym c.kind_at.ensures)))

pub half_below-part_below-requires : goal.half_below-part_below-requires
half_below-part_below-requires t c = (omega (arith, c.decreases), c.requires)

pub half_below-returns : goal.half_below-returns
half_below-returns t c = c.part_below.ensures

pub part_below-loop-x-init : goal.part_below-loop-x-init
part_below-loop-x-init t c = walk_starts c.requires.types

pub part_below-kind_at-requires : goal.part_below-kind_at-requires
part_below-kind_at-requires t c = held_within c.loop-x.invariant.at.holds_first

pub part_below-read_cell-x-requires : goal.part_below-read_cell-x-requires
part_below-read_cell-x-requires t c = held_within c.loop-x.invariant.at.holds_first

pub part_below-kind_at-requires-in-loop-x : goal.part_below-kind_at-requires-in-loop-x
part_below-kind_at-requires-in-loop-x t c = held_within (own (part_halves t c)).second.holds_first

pub part_below-half_below-requires : goal.part_below-half_below-requires
part_below-half_below-requires t c = let w = part_halves t (goal.at.part_below-half_below-requires t c).After-read_cell-x in let v = own w in (omega (arith, w.measure, v.first_less, w.leads.lower), under w.pre v.first)

pub part_below-returns-then-half_below : goal.part_below-returns-then-half_below
part_below-returns-then-half_below t c = let w = part_halves t (goal.at.part_below-returns-then-half_below t c).After-read_cell-x in or_ends w.leads w.halves c.half_below.ensures c.if-half_below.true

pub part_below-loop-x-smaller-then-kind_at-eq4 : goal.part_below-loop-x-smaller-then-kind_at-eq4
part_below-loop-x-smaller-then-kind_at-eq4 t c = omega (arith, (own (part_halves t (goal.at.part_below-loop-x-smaller-then-kind_at-eq4 t c).After-read_cell-x)).second_less)

pub part_below-loop-x-preserved-then-kind_at-eq4 : goal.part_below-loop-x-preserved-then-kind_at-eq4
part_below-loop-x-preserved-then-kind_at-eq4 t c = let w = part_halves t (goal.at.part_below-loop-x-preserved-then-kind_at-eq4 t c).After-read_cell-x in or_goes_on w.leads w.halves c.half_below.ensures c.if-half_below.false

pub part_below-half_below-requires-else-kind_at-eq4 : goal.part_below-half_below-requires-else-kind_at-eq4
part_below-half_below-requires-else-kind_at-eq4 t c = let w = part_halves t (goal.at.part_below-half_below-requires-else-kind_at-eq4 t c).After-read_cell-x in let v = own w in (omega (arith, w.measure, v.second_less, w.leads.lower), under w.pre v.second)

pub part_below-returns-then-half_below-2 : goal.part_below-returns-then-half_below-2
part_below-returns-then-half_below-2 t c = let w = part_halves t (goal.at.part_below-returns-then-half_below-2 t c).After-read_cell-x in or_ends w.leads (λ A B h k. or_swapped (w.halves A B h k)) c.half_below-else-kind_at-eq4.ensures c.if-half_below-2.true

pub part_below-loop-x-smaller : goal.part_below-loop-x-smaller
part_below-loop-x-smaller t c = omega (arith, (own (part_halves t (goal.at.part_below-loop-x-smaller t c).After-read_cell-x)).first_less)

pub part_below-loop-x-preserved : goal.part_below-loop-x-preserved
part_below-loop-x-preserved t c = let w = part_halves t (goal.at.part_below-loop-x-preserved t c).After-read_cell-x in or_goes_on w.leads (λ A B h k. or_swapped (w.halves A B h k)) c.half_below-else-kind_at-eq4.ensures c.if-half_below-2.false

pub part_below-single_below-requires : goal.part_below-single_below-requires
part_below-single_below-requires t c = (omega (arith, c.decreases, c.loop-x.invariant.lower), record { under = under c.requires c.loop-x.invariant.at; first_single = λ k. c.loop-x-test.false (c.kind_at.ensures ∙ k) })

pub part_below-returns : goal.part_below-returns
part_below-returns t c = c.loop-x.invariant.on _ c.single_below.ensures

pub single_below-read_cell-x-requires : goal.single_below-read_cell-x-requires
single_below-read_cell-x-requires t c = held_within c.requires.under.types.holds_first

pub single_below-read_cell-y-requires : goal.single_below-read_cell-y-requires
single_below-read_cell-y-requires t c = held_within c.requires.under.types.holds_second

pub single_below-returns-then-x-eq1 : goal.single_below-returns-then-x-eq1
single_below-returns-then-x-eq1 t c = let p = single_pair t (goal.at.single_below-returns-then-x-eq1 t c).After-read_cell-y in outright (λ A B h k. Below.from_top (read p.first p.second h k) (not_marked p.second p.pre.under.second_marked) c.if-x-eq1.true)

pub single_below-returns-then-x-y : goal.single_below-returns-then-x-y
single_below-returns-then-x-y t c = let p = single_pair t (goal.at.single_below-returns-then-x-y t c).After-read_cell-y in outright (λ A B h k. Below.unlike (read p.first p.second h k) (not_marked p.second p.pre.under.second_marked) (not_kind p.second p.pre.under.second_single) (not_kind p.first p.pre.first_single) c.if-x-y.true)

pub single_below-subtype-requires : goal.single_below-subtype-requires
single_below-subtype-requires t c = let p = single_alike t (goal.at.single_below-subtype-requires t c).Else-x-y in let v = Below.functions (read_at p.at.first p.at.second p.at.pre.under.types) (not_marked p.at.second p.at.pre.under.second_marked) p.alike c.if-x-eq3.true in (omega (arith, p.at.measure, v.first_less), v.first)

pub single_below-subtype-requires-then-subtype : goal.single_below-subtype-requires-then-subtype
single_below-subtype-requires-then-subtype t c = let p = single_alike t (goal.at.single_below-subtype-requires-then-subtype t c).Else-x-y in let v = Below.functions (read_at p.at.first p.at.second p.at.pre.under.types) (not_marked p.at.second p.at.pre.under.second_marked) p.alike c.if-x-eq3.true in (omega (arith, p.at.measure, v.second_less), v.second)

pub single_below-returns-then-subtype : goal.single_below-returns-then-subtype
single_below-returns-then-subtype t c = let p = single_alike t (goal.at.single_below-returns-then-subtype t c).Else-x-y in both (λ A B h k. Below.functions (read p.at.first p.at.second h k) (not_marked p.at.second p.at.pre.under.second_marked) p.alike c.if-x-eq3.true) c.subtype.ensures c.if-subtype.true c.subtype-then-subtype.ensures

pub single_below-returns-else-subtype : goal.single_below-returns-else-subtype
single_below-returns-else-subtype t c = let p = single_alike t (goal.at.single_below-returns-else-subtype t c).Else-x-y in none (λ A B h k. Below.functions (read p.at.first p.at.second h k) (not_marked p.at.second p.at.pre.under.second_marked) p.alike c.if-x-eq3.true) c.subtype.ensures c.if-subtype.false

pub single_below-subtype-requires-then-x-y-2 : goal.single_below-subtype-requires-then-x-y-2
single_below-subtype-requires-then-x-y-2 t c = let p = single_alike t (goal.at.single_below-subtype-requires-then-x-y-2 t c).Else-x-y in let v = Below.fields (read_at p.at.first p.at.second p.at.pre.under.types) (not_marked p.at.second p.at.pre.under.second_marked) p.alike c.if-x-eq5.true c.if-x-y-2.true in (omega (arith, p.at.measure, v.less), v.part)

pub single_below-returns-then-x-y-2 : goal.single_below-returns-then-x-y-2
single_below-returns-then-x-y-2 t c = let p = single_alike t (goal.at.single_below-returns-then-x-y-2 t c).Else-x-y in passed (λ A B h k. Below.fields (read p.at.first p.at.second h k) (not_marked p.at.second p.at.pre.under.second_marked) p.alike c.if-x-eq5.true c.if-x-y-2.true) c.subtype-then-x-y-2.ensures

pub single_below-returns-else-x-y-2 : goal.single_below-returns-else-x-y-2
single_below-returns-else-x-y-2 t c = let p = single_alike t (goal.at.single_below-returns-else-x-y-2 t c).Else-x-y in flagged (ne_eqb _ _ c.if-x-y-2.false) (λ A B h k. Below.other_labels (read p.at.first p.at.second h k) (not_marked p.at.second p.at.pre.under.second_marked) p.alike c.if-x-eq5.true c.if-x-y-2.false)

pub single_below-returns : goal.single_below-returns
single_below-returns t c = let p = single_alike t (goal.at.single_below-returns t c).Else-x-y in outright (λ A B h k. Below.numbers (read p.at.first p.at.second h k) c.if-x-eq1.false (not_kind p.at.first p.at.pre.first_single) (not_marked p.at.second p.at.pre.under.second_marked) (not_kind p.at.second p.at.pre.under.second_single) p.alike c.if-x-eq3.false c.if-x-eq5.false)

pub subtype-returns-then-a-b : goal.subtype-returns-then-a-b
subtype-returns-then-a-b t c = outright (λ A B h k. Below.one_cell c.if-a-b.true h k)

pub subtype-read_cell-y-requires : goal.subtype-read_cell-y-requires
subtype-read_cell-y-requires t c = held_within c.requires.holds_second

pub subtype-returns-then-y-eq1 : goal.subtype-returns-then-y-eq1
subtype-returns-then-y-eq1 t c = outright (λ A B h k. Below.above_top A k _ c.read_cell-y.ensures c.if-y-eq1.true)

pub subtype-subtype-requires : goal.subtype-subtype-requires
subtype-subtype-requires t c = let p = whole_pair t (goal.at.subtype-subtype-requires t c).After-read_cell-y in let v = Below.right_halves (read_at p.first p.second p.pre) c.if-y-eq4.true in (omega (arith, p.measure, v.first_less), v.first)

pub subtype-subtype-requires-then-subtype : goal.subtype-subtype-requires-then-subtype
subtype-subtype-requires-then-subtype t c = let p = whole_pair t (goal.at.subtype-subtype-requires-then-subtype t c).After-read_cell-y in let v = Below.right_halves (read_at p.first p.second p.pre) c.if-y-eq4.true in (omega (arith, p.measure, v.second_less), v.second)

pub subtype-returns-then-subtype : goal.subtype-returns-then-subtype
subtype-returns-then-subtype t c = let p = whole_pair t (goal.at.subtype-returns-then-subtype t c).After-read_cell-y in both (λ A B h k. Below.right_halves (read p.first p.second h k) c.if-y-eq4.true) c.subtype.ensures c.if-subtype.true c.subtype-then-subtype.ensures

pub subtype-returns-else-subtype : goal.subtype-returns-else-subtype
subtype-returns-else-subtype t c = let p = whole_pair t (goal.at.subtype-returns-else-subtype t c).After-read_cell-y in none (λ A B h k. Below.right_halves (read p.first p.second h k) c.if-y-eq4.true) c.subtype.ensures c.if-subtype.false

pub subtype-part_below-requires : goal.subtype-part_below-requires
subtype-part_below-requires t c = let p = whole_pair t (goal.at.subtype-part_below-requires t c).After-read_cell-y in (omega (arith, p.measure), record { types = p.pre; second_marked = λ m. c.if-y-eq1.false (ap (λ (x : Cell). x.c) p.second ∙ m); second_single = λ m. c.if-y-eq4.false (ap (λ (x : Cell). x.kind) p.second ∙ m) })

pub subtype-returns : goal.subtype-returns
subtype-returns t c = c.part_below.ensures
