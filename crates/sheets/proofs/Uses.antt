-- What follows from the contract of the sheet call alone: no two cases of the code's answer have one number, values and count; two calls with the same input agree; and a run of
-- an accepted sheet takes the steps that it counts. Assumes nothing.
use Prim.Native.Nat.{ℕ}
use native.Mathlib.Omega.{arith}
use mathlib.Core.Path.{◌≡◌, refl, sym, ap, ◌∙◌}
use mathlib.Core.List.{List}
use Rattle.answers.specs.Answer.{refused, accepted, Result}
use Rattle.answers.proofs.Cases.{refusal_fixes, refused_alone}
use Rattle.answers.proofs.Demands.{clash}
use Rattle.sheets.specs.declared.SheetOutcome.{SheetOutcome}
use Rattle.sheets.specs.declared.SheetOutcome.TheVariants.{Refused, NoSheet, Accepted}
use Rattle.sheets.specs.Sheet.{sheet_answer, sheet_steps_lem}
use Rattle.sheets.specs.Sheets.{Sheets, RunsFollow}

pub sheet_fixes : (r q : SheetOutcome) → sheet_answer r ≡ sheet_answer q → sheet_steps_lem r ≡ sheet_steps_lem q → r ≡ q
sheet_fixes (Refused p) (Refused q) e s = ap Refused (refusal_fixes p q e)
sheet_fixes (Refused p) (NoSheet j) e s = absurd (refused_alone p (refused 17 j) refl e)
sheet_fixes (Refused p) (Accepted m k) e s = absurd (refused_alone p (accepted m) refl e)
sheet_fixes (NoSheet i) (Refused q) e s = absurd (refused_alone q (refused 17 i) refl (sym e))
sheet_fixes (NoSheet i) (NoSheet j) e s = let z : i ≡ j = cc in ap NoSheet z
sheet_fixes (NoSheet i) (Accepted m k) e s = absurd (clash cc)
sheet_fixes (Accepted n h) (Refused q) e s = absurd (refused_alone q (accepted n) refl (sym e))
sheet_fixes (Accepted n h) (NoSheet j) e s = absurd (clash cc)
sheet_fixes (Accepted n h) (Accepted m k) e s = let z : n ≡ m = cc in rw (z, s)

-- two calls with the same input
pub calls_agree : {b w v v' : List ℕ} {r q : SheetOutcome} → Sheets b w v r → Sheets b w v' q → (r ≡ q) × (v ≡ v')
calls_agree {r = r} {q = q} x y = (sheet_fixes r q (x.answer ∙ sym y.answer) (x.steps ∙ sym y.steps), x.left ∙ sym y.left)

-- a run of what was accepted
pub runs_follow : RunsFollow
runs_follow b w v w' v' r limit q n c a k i x =
    let t = c.runs n a in
    let z = c.count n a in
    record {
      enough = λ l. x.answer ∙ ap (λ (y : Result). y.answer) (t.enough w' limit k i (omega (arith, z, l))) ∙ rw z;
      fewer = λ l. x.answer ∙ t.fewer w' limit k i (omega (arith, z, l));
    }
