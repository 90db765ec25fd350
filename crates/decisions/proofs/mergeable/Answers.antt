-- `decisions::mergeable` meets its contract. Assumes nothing.
use Rattle.decisions.proofs.Halves.{few, apart, not_first, not_second, agreeing}
use Rattle.decisions.proofs.mergeable.Goals as goal

pub disjoint-requires : goal.disjoint-requires
disjoint-requires c = c.requires.types

pub closed_value-requires : goal.closed_value-requires
closed_value-requires c = let p = c.requires in (record { term = p.terms.first; holds = p.terms.holds_first }, few p.long p.terms.holds_first)

pub closed_value-requires-then-closed_value : goal.closed_value-requires-then-closed_value
closed_value-requires-then-closed_value c = let p = c.requires in (record { term = p.terms.second; holds = p.terms.holds_second }, few p.long p.terms.holds_second)

pub consistent-requires : goal.consistent-requires
consistent-requires c = c.requires.terms

pub returns-then-disjoint : goal.returns-then-disjoint
returns-then-disjoint c = apart c.disjoint.ensures c.if-disjoint.true

pub returns-then-closed_value-2 : goal.returns-then-closed_value-2
returns-then-closed_value-2 c = agreeing c.disjoint.ensures c.if-disjoint.false c.closed_value.ensures c.if-closed_value.true c.closed_value-then-closed_value.ensures c.if-closed_value-2.true c.consistent.ensures

pub returns-else-closed_value-2 : goal.returns-else-closed_value-2
returns-else-closed_value-2 c = not_second c.disjoint.ensures c.if-disjoint.false c.closed_value.ensures c.if-closed_value.true c.closed_value-then-closed_value.ensures c.if-closed_value-2.false

pub returns-else-closed_value : goal.returns-else-closed_value
returns-else-closed_value c = not_first c.disjoint.ensures c.if-disjoint.false c.closed_value.ensures c.if-closed_value.false
