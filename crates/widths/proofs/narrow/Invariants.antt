-- `widths::narrow` meets its contract. The loop's invariant: the first i cells are narrowed. Assumes nothing.
use Rattle.widths.proofs.Narrowing.{Narrowing}
use Rattle.widths.proofs.narrow.Given as goal

abbrev pub invariant-loop-i : goal.invariant-loop-i
invariant-loop-i l = Narrowing l.fn.d l.d l.i
