-- `decisions::closed` meets its contract, over kind and field. A field that refers to no cell costs no call. Assumes nothing.
use Prim.Native.Nat.{ℕ}
use Rattle.cells.specs.Coded.{as_cell}
use Rattle.decisions.proofs.Variables.{none_closed, variable_closed, term_within, few_binders, Inner, parts, open_third, open_first, by_second}
use Rattle.decisions.proofs.+closed.Goals as goal
use Rattle.decisions.proofs.+closed.Goals.{After-binders-inner}

-- what is known once the cell and its row are read
inner : (t : ℕ) (c : After-binders-inner t) → Inner c.args.s.now c.args.u c.args.i c.args.k (as_cell c.read_cell-x.result) c.entry_of-e.result c.binders-inner.result
inner t c = record {
  term = c.in-ToTerm.is;
  cell = c.read_cell-x.ensures;
  inner = c.if-x-eq16.false;
  row = c.entry_of-e.ensures;
  skips = c.binders-inner.ensures;
}

pub returns-in_default : goal.returns-in_default
returns-in_default t c = none_closed c.in_default.not-ToTerm

pub read_cell-x-requires : goal.read_cell-x-requires
read_cell-x-requires t c = term_within {u = c.args.u} c.in-ToTerm.is c.requires.at.holds

pub returns-then-x-eq16 : goal.returns-then-x-eq16
returns-then-x-eq16 t c = variable_closed c.in-ToTerm.is c.read_cell-x.ensures c.if-x-eq16.true

pub binders-inner-requires : goal.binders-inner-requires
binders-inner-requires t c = few_binders c.in-ToTerm.is c.requires

pub closed-requires : goal.closed-requires
closed-requires t c = (parts (inner t (goal.at.closed-requires t c).After-binders-inner) c.requires c.decreases).1.1

pub closed-requires-then-closed : goal.closed-requires-then-closed
closed-requires-then-closed t c = (parts (inner t (goal.at.closed-requires-then-closed t c).After-binders-inner) c.requires c.decreases).0

pub closed-requires-then-closed-2 : goal.closed-requires-then-closed-2
closed-requires-then-closed-2 t c = (parts (inner t (goal.at.closed-requires-then-closed-2 t c).After-binders-inner) c.requires c.decreases).1.0

pub returns-then-closed-2 : goal.returns-then-closed-2
returns-then-closed-2 t c = by_second (inner t (goal.at.returns-then-closed-2 t c).After-binders-inner) c.closed.ensures c.if-closed.true c.closed-then-closed.ensures c.if-closed-2.true c.closed-then-closed-2.ensures

pub returns-else-closed-2 : goal.returns-else-closed-2
returns-else-closed-2 t c = open_first (inner t (goal.at.returns-else-closed-2 t c).After-binders-inner) c.closed.ensures c.if-closed.true c.closed-then-closed.ensures c.if-closed-2.false

pub returns-else-closed : goal.returns-else-closed
returns-else-closed t c = open_third (inner t (goal.at.returns-else-closed t c).After-binders-inner) c.closed.ensures c.if-closed.false
