-- Application: the left's type, then the right checked against the input. Assumes nothing.
use Prim.Native.Nat.{ℕ, ◌+◌, ◌*◌, ◌<◌}
use native.Mathlib.Omega.{arith}
use mathlib.Core.Path.{◌≡◌, refl, ◌∙◌, ap}
use mathlib.Core.List.{List}
use Rattle.std.specs.Prelude.{Result, Ok, Err}
use Rattle.calculus.specs.Syntax.{Ty, Term, int, top, arrow, inter, field, size}
use Rattle.calculus.specs.Infer as Infer
use Rattle.calculus.specs.Infer.{applied, infer}
use Rattle.format.specs.Cell.{Cell, cell_at}
use Rattle.format.specs.Tree.{kind_in}
use Rattle.format.specs.Terms.{from_type}
use Rattle.format.specs.Book.{follow}
use Rattle.answers.specs.declared.Refusal.{Refusal}
use Rattle.answers.specs.declared.Refusal.TheVariants.{Application}
use Rattle.cells.specs.Held.{HoldsType, HoldsTerm, HoldsContext}
use Rattle.cells.proofs.Held.{read_kind, same_held, same_trans}
use Rattle.typing.specs.Finding.{Answered, Finds, ReadyFor, checked_here, Checks}
use Rattle.typing.proofs.Answers.{Answer, checking, typed, refused_by, handed, carried, checked_carried}
use Rattle.typing.proofs.FirstParts.{app_sides, Known, known, own, right_asks}
use Rattle.typing.proofs.Parts.{Arrow, arrow_of, top_of, Read, FoundAt}
use Rattle.typing.proofs.Checking.{carried_on}

module _ {s u : List ℕ} {n k c i x μ : ℕ} {y : Cell} (p : Read s n c i 20 μ y) (f : FoundAt s u n k c y.a x) where
  -- the right side, against a type w
  against : {w : ℕ} {A : Ty} → HoldsType u w A → w < k → (3 * y.b + 2 < μ) × ReadyFor u k c y.b w
  against {A = A} h b =
      let q = right_asks app_sides p f in
      (q.0, record { ready = q.1; wanted = A; holds_wanted = h; wanted_below = b })

  pub app_top_right : (3 * y.b + 2 < μ) × ReadyFor u k c y.b x
  app_top_right = let z = (own app_sides p f).left in against z.holds z.below

  module _ {g : Cell} (t : g ≡ cell_at u x) where
    pub app_right : g.kind ≡ 3 → (3 * y.b + 2 < μ) × ReadyFor u k c y.b g.a
    app_right j =
        let z = (own app_sides p f).left in
        let v = arrow_of t j z.holds in
        against v.holds_input (omega (arith, v.input_lower, z.below))

    -- Top, "read as Top to Top"
    pub app_top : {v : List ℕ} {k' : ℕ} {r' : Result ℕ Refusal} → g.kind ≡ 2 → Checks u v k k' c y.b x r' → Finds s v n k' c i r'
    unfolding infer applied
    app_top j f' =
        record {
          says = λ Γ d a h.
              let q = known app_sides p f a h in
              let z = q.left in
              let w : z.type ≡ top = top_of t j z.holds in
              let F = infer Γ q.sides.second in
              rw
              (ap (infer Γ) q.sides.is ∙ ap (λ (G : Infer.Found). applied G F) (z.is ∙ ap Infer.found w) ∙ checked_carried 1 F top (Infer.found top))
              (carried_on F top (size d) q.sides.right.leads p.ready.term_below z.same z.more (omega (arith, q.sizes, z.less))
              (checking f' q.context q.right (rw w at z.holds)));
        }

    -- neither Top nor a function type
    pub app_else : ¬ (g.kind ≡ 2) → ¬ (g.kind ≡ 3) → Finds s u n k c i (Err (Application i))
    unfolding infer applied follow from_type kind_in
    app_else a b =
        record {
          says = λ Γ d l h.
              let q = known app_sides p f l h in
              rw (q.sides.is, q.left.is) (go _ _ q.left.type q.left.holds);
        }
      where
        go : (m : ℕ) (F : Infer.Found) (A : Ty) → HoldsType u x A → Answered s u n k m i (Err (Application i)) (applied (Infer.found A) F)
        go m F int h = (Application i, refl, refl)
        go m F top h = absurd (a (read_kind t h))
        go m F (arrow A B) h = absurd (b (read_kind t h))
        go m F (inter A B) h = (Application i, refl, refl)
        go m F (field l A) h = (Application i, refl, refl)

    -- a function type
    module _ {v : List ℕ} {k' : ℕ} {r' : Result ℕ Refusal} (j : g.kind ≡ 3) (f' : Checks u v k k' c y.b g.a r') where
      -- what is found for the whole, by the right side's check
      record Applied (Γ : List Ty) (d : Term) : Type 0 where
        of : Known app_sides p f Γ d
        type : Arrow u x g of.left.type
        answer : Answer u v k k' (size of.sides.second) y.b r' (checked_here (infer Γ of.sides.second) type.input)
        is : infer Γ d ≡ carried 1 (Infer.found type.output) (checked_here (infer Γ of.sides.second) type.input)

      all : {Γ : List Ty} {d : Term} → HoldsContext s c Γ → HoldsTerm s i d → Applied Γ d
      unfolding infer applied
      all {Γ} a h =
          let q = known app_sides p f a h in
          let w = arrow_of t j q.left.holds in
          record {
            of = q;
            type = w;
            answer = checking f' q.context q.right w.holds_input;
            is =
                ap (infer Γ) q.sides.is
                ∙ ap (λ (F : Infer.Found). applied F (infer Γ q.sides.second)) (q.left.is ∙ ap Infer.found w.is)
                ∙ checked_carried 1 (infer Γ q.sides.second) w.input (Infer.found w.output);
          }

      pub app_right_refused : {q : Refusal} → r' ≡ Err q → Finds s v n k' c i (Err q)
      app_right_refused e' =
          record {
            says = λ Γ d a h.
                let q = all a h in
                let b = refused_by q.answer e' in
                rw (q.is, b.is) (handed q.of.sides.right.leads p.ready.term_below q.of.left.same b);
          }

      pub app_found : {x' : ℕ} → r' ≡ Ok x' → Finds s v n k' c i (Ok g.b)
      app_found e' =
          record {
            says = λ Γ d a h.
                let q = all a h in
                let z = q.of.left in
                let b = typed q.answer e' in
                let l : g.b < k = omega (arith, q.type.output_lower, z.below) in
                rw (q.is, b.is) (
                  _,
                  refl,
                  omega (arith, z.more, b.more),
                  omega (arith, q.of.sizes, z.less, b.less),
                  same_trans z.same b.same z.more,
                  omega (arith, b.more),
                  same_held b.same l q.type.holds_output,
                );
          }
