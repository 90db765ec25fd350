-- `book::version_from` is the version that a byte stands for. Assumes nothing.
use Prim.Native.Nat.{ℕ}
use mathlib.Core.Path.{◌≡◌, sym, ◌∙◌}
use borrow.Author.Tests.{ne_eqb}
use Rattle.std.specs.Prelude.{Result, Ok, Err}
use Rattle.std.specs.Result.{result_unwrap_or}
use Rattle.format.specs.declared.Version.{Version}
use Rattle.format.specs.declared.Version.TheVariants.{One, Two}
use Rattle.format.specs.declared.UnknownVersion.{UnknownVersion}
use Rattle.format.specs.Version.{Decodes, version_from_lem}
use Rattle.book.proofs.version_from.Goals as goal

decoded : (x : ℕ) (r : Result Version UnknownVersion) → Decodes x r → result_unwrap_or r Two ≡ version_from_lem x
decoded x (Ok One) h = rw (← h)
decoded x (Ok Two) h = rw (← h)
decoded x (Err e) h = rw (ne_eqb x 1 (λ k. h One (sym k)))

pub returns : goal.returns
returns c = c.unwrap_or.ensures ∙ decoded c.args.x c.try_from.result c.try_from.ensures
