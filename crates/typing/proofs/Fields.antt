-- A field read of an intersection: the type of the part that has the field, in a cell that is there, or Top, in a cell more. Assumes nothing.
use Prim.Native.Nat.{ℕ}
use native.Mathlib.Omega.{arith}
use mathlib.Core.Path.{◌≡◌, refl}
use mathlib.Core.List.{List}
use Rattle.std.specs.Prelude.{Ok, Err}
use Rattle.calculus.specs.Syntax.{Ty}
use Rattle.calculus.specs.Decide as Decide
use Rattle.calculus.specs.Decide.{is_top_like, field_part, no_part, top_part, more_parts, one_part}
use Rattle.calculus.specs.Infer.{picked}
use Rattle.format.specs.Book.{follow}
use Rattle.answers.specs.declared.Refusal.TheVariants.{Projection}
use Rattle.cells.specs.Held.{HoldsType}
use Rattle.cells.proofs.Makes.{h_top}
use Rattle.cells.proofs.Held.{same_refl}
use Rattle.projection.specs.declared.FieldPart.{FieldPart}
use Rattle.projection.specs.declared.FieldPart.TheVariants.{TopLike, One}
use Rattle.projection.specs.Parts.{PartIs, FindsFieldPart}
use Rattle.projection.proofs.TypeParts.{Told, told}
use Rattle.typing.specs.declared.TheConstants.{TOP}
use Rattle.typing.specs.Finding.{Answered, Adds, FindFieldReady, FindsField}

tells : {s : List ℕ} {a l : ℕ} {r x : FieldPart} {A : Ty} → FindsFieldPart s a l r → r ≡ x → HoldsType s a A → Told s a x (field_part l A)
tells {s} {a} {r = r} f e h = rw (← e) (told s a r _ (f.says _ h))

module _ {s : List ℕ} {n a l i : ℕ} {r : FieldPart} (p : FindFieldReady s n a) (f : FindsFieldPart s a l r) where
  pub field_one : {b : ℕ} → r ≡ One b → FindsField s s n n a l i (Ok b)
  unfolding picked
  field_one {b} e = record {
    says = λ A h.
        let w = tells f e h in
        rw w.1 (_, refl, omega arith, omega arith, same_refl s n, omega (arith, w.2, p.below), w.3);
  }

  pub field_top : {t : List ℕ} {k x : ℕ} → r ≡ TopLike → Adds s t n k TOP x → FindsField s t n k a l i (Ok x)
  unfolding picked is_top_like
  field_top e w = record { says = λ A h. rw (tells f e h, w.answers, w.counts) (n, refl, omega arith, omega arith, w.same, omega arith, h_top w.there refl) }

  -- no part has the field and none is top-like; or more than one has it
  pub field_none : ¬ (r ≡ TopLike) → ((b : ℕ) → ¬ (r ≡ One b)) → FindsField s s n n a l i (Err (Projection i))
  unfolding picked follow
  field_none u v = record { says = λ A h. go (field_part l A) (f.says A h) }
    where
      go : (q : Decide.FieldPart) → PartIs s a r q → Answered s s n n 1 i (Err (Projection i)) (picked q)
      go no_part h = (Projection i, refl, refl)
      go top_part h = absurd (u h)
      go more_parts h = (Projection i, refl, refl)
      go (one_part C) h = absurd (v h.0 h.1)
