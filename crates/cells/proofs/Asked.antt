-- What takes any value that converts to a use, at a use itself, which converts to itself alone. Assumes nothing.
use mathlib.Core.Path.{◌≡◌, sym, subst}
use Rattle.cells.specs.Coded.{AskedAs, SaidAs}
use Rattle.cells.specs.declared.Use.{Use}

module _ {P : Use → Type 0} {u : Use} where
  pub asked : P u → AskedAs (λ (x y : Use). y ≡ x) u P
  asked p = record { each = λ v e. subst P (sym e) p }

  pub said : SaidAs (λ (x y : Use). y ≡ x) u P → P u
  said w = subst P w.converted w.says
