-- What is packed is read back. Assumes nothing.
use Prim.Native.Nat.{ℕ, ◌+◌, ◌*◌, ◌<◌}
use mathlib.Core.Path.{◌≡◌, refl, sym, ap, subst, ◌∙◌}
use mathlib.Core.List.{List}
use native.Mathlib.Omega.{arith}
use Rattle.answers.specs.Answer.{Answer, accepted, Result}
use Rattle.answers.specs.Exported.{tag_of, value_of, second_of, tag_place}
use Rattle.answers.specs.Cases.{check_answer}
use Rattle.answers.specs.declared.CheckOutcome.{CheckOutcome}
use Rattle.answers.specs.declared.CheckOutcome.TheVariants.{Refused, Accepted}
use Rattle.answers.proofs.Cases.{refusal_number}
use Rattle.joining.specs.declared.Joined.{Joined}
use Rattle.joining.specs.Join.{JoinResult, joined}
use Rattle.joining.specs.declared.Which.{Which}
use Rattle.joining.specs.Joins.{Joins}
use Rattle.joining.specs.Previews.{Previews}
use Rattle.joining.specs.Exported.{which_number_lem, packed_join}
use Rattle.joining.proofs.Previews.{preview_agrees}
use Rattle.sheets.specs.declared.SheetOutcome.{SheetOutcome}
use Rattle.sheets.specs.declared.SheetOutcome.TheVariants as Sheet
use Rattle.sheets.specs.declared.SheetOutcome.TheVariants.{NoSheet}
use Rattle.sheets.specs.Sheet.{sheet_answer, sheet_steps_lem, sheeted}
use Rattle.sheets.specs.Sheets.{Sheets}
use Rattle.cerealbank.specs.Packed.{FiguresFit, PackedFigures, Packs, PacksSheet, JoinFits, PackedJoin, PacksJoin, PacksPreview, ExportedAgree}

pub packs : {v : List ℕ} {r k : ℕ} {a : Answer} (x : Result) → FiguresFit x.answer (second_of x.answer) → a ≡ x.answer → k ≡ second_of a → v ≡ x.left →
    PackedFigures a k r → Packs v r x
packs {r = r} {k = k} x f e s l p =
    let q : PackedFigures x.answer k r = rw e at p in
    let t : k ≡ second_of x.answer = s ∙ ap second_of e in
    let n = q.is in
    let b = q.tag in
    let g = f.value in
    record { answer = omega arith; value = omega arith; tag = omega arith; second = omega arith; left = l }

-- an answer of the code is the definition's, so its figures fit too
pub fits_too : {k : ℕ} {a b : Answer} → FiguresFit b (second_of b) → a ≡ b → k ≡ second_of a → FiguresFit a k
fits_too f e s = record { value = subst (λ (a : Answer). value_of a < tag_place) (sym e) f.value; second = omega (arith, s, ap second_of e, f.second) }

-- no check has a second figure
pub check_second : (o : CheckOutcome) → 0 ≡ second_of (check_answer o)
check_second (Refused q) = sym (ap second_of (refusal_number q).2)
check_second (Accepted n) = refl

-- ---- the sheet call

-- the count, which stands beside an acceptance alone, is less than the limit of a size
module _ {b w v : List ℕ} {o : SheetOutcome} (c : Sheets b w v o) (f : value_of (sheeted b w).answer < tag_place) where
  pub sheet_fits : FiguresFit (sheet_answer o) (sheet_steps_lem o)
  sheet_fits = record { value = subst (λ (a : Answer). value_of a < tag_place) (sym c.answer) f; second = by o refl }
    where
      by : (x : SheetOutcome) → o ≡ x → sheet_steps_lem o < 16777216
      by (Sheet.Refused q) e = let z : sheet_steps_lem o ≡ 0 = ap sheet_steps_lem e in omega arith
      by (NoSheet i) e = let z : sheet_steps_lem o ≡ 0 = ap sheet_steps_lem e in omega arith
      by (Sheet.Accepted n k) e = let a : sheet_answer o ≡ accepted n = ap sheet_answer e in omega (arith, c.count n a, (c.runs n a).counts)

  pub packs_sheet : {r : ℕ} → PackedFigures (sheet_answer o) (sheet_steps_lem o) r → PacksSheet v r (sheeted b w)
  packs_sheet p =
      let t : tag_of (sheeted b w).answer < 256 = subst (λ (a : Answer). tag_of a < 256) c.answer p.tag in
      let e = rw (c.steps, c.answer) at p.is in
      record { answer = e; value = omega arith; tag = omega arith; steps = omega arith; left = c.left }

-- what the definition of a join answers fits
pub record ResultFits (x : JoinResult) : Type 0 where
  pub value : value_of x.answer < tag_place
  pub bytes : x.bytes < 65536

module _ {l k : List ℕ} {n : ℕ} {q w v : List ℕ} {j : Joined} (c : Joins l k n q w v j) (f : ResultFits (joined l n q w)) where
  pub join_fits : JoinFits j
  join_fits = record { value = subst (λ (a : Answer). value_of a < tag_place) (sym c.answer) f.value; bytes = omega (arith, c.bytes, f.bytes) }

  pub packs_join : {r : ℕ} → PackedJoin j r → PacksJoin k v r (joined l n q w)
  packs_join p =
      let t : tag_of (joined l n q w).answer < 256 = subst (λ (a : Answer). tag_of a < 256) c.answer p.tag in
      let u : which_number_lem (joined l n q w).which < 256 = subst (λ (b : Which). which_number_lem b < 256) c.which p.which in
      let e = rw (c.bytes, c.which, c.answer) at p.is in
      let g = f.value in
      let h = f.bytes in
      record { answer = e; value = omega arith; tag = omega arith; which = omega arith; bytes = omega arith; lent = c.lent; left = c.left }

-- a preview's figures are those of the join that it foresees
module _ {l k : List ℕ} {n : ℕ} {q w v : List ℕ} {j : Joined} (c : Previews l k n q w v j) (f : ResultFits (joined l n q w)) where
  pub preview_fits : JoinFits j
  preview_fits = join_fits c.foresees f

  pub packs_preview : {r : ℕ} → PackedJoin j r → PacksPreview l k v r (joined l n q w)
  packs_preview p = record { foresees = packs_join c.foresees f p; unaltered = c.unaltered }

-- ---- preview and join agree

-- by what the exported calls promise;
pub exported_agree : ExportedAgree
exported_agree l k k' n q w v v' r r' p j =
    let e = ap (λ (x : List ℕ). joined x n q w) p.unaltered in
    (p.foresees.answer ∙ sym (ap packed_join e) ∙ sym j.answer, p.foresees.left ∙ sym (ap (λ (x : JoinResult). x.left) e) ∙ sym j.left)

-- and by what the calls behind them do: answers that agree are packed alike
pub packed_agree : {l k k' : List ℕ} {n : ℕ} {q w v v' : List ℕ} {i j : Joined} {r r' : ℕ} → Previews l k n q w v i → Joins l k' n q w v' j → PackedJoin i r → PackedJoin j r' → (r ≡ r') × (v ≡ v')
packed_agree {r' = r'} p c x y =
    let f = preview_agrees _ _ _ _ _ _ _ _ _ _ p c in
    (x.is ∙ sym (subst (λ (z : Joined). PackedJoin z r') (sym f.answer) y).is, f.left)
