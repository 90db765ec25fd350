-- The measures: 2 i + 1 for a body at cell i, one more for a field that is a term, 0 for any other field. Assumes nothing.
use Prim.Native.Nat.{◌+◌, ◌*◌}
use Rattle.reduction.proofs.Substitution.{substitute_measure}
use Rattle.reduction.proofs.+substituting.Given as goal

abbrev pub decreases-emit_substituted : goal.decreases-emit_substituted
decreases-emit_substituted l = 2 * l.i + 1

abbrev pub decreases-substitute_field : goal.decreases-substitute_field
decreases-substitute_field l = substitute_measure l.u l.n
