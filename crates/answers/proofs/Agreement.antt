-- Two runs of one term, by what a run is (`TakesSteps`) and two facts of its chain: the lower limit's run reports the lesser of its limit and
-- the other's steps, and says the same unless it was stopped for steps. Assumes nothing.
use Prim.Native.Nat.{ℕ, suc, ◌≤◌, ◌<◌, min}
use mathlib.Core.Path.{◌≡◌, refl, sym, ◌∙◌, subst, subst₂}
use mathlib.Core.Logic.{◌≢◌}
use native.Mathlib.Decide.{dec_le, dec_lt}
use native.Mathlib.Omega.{arith}
use Rattle.calculus.specs.Syntax.{Term, size, IsValue}
use Rattle.calculus.specs.Step.{Step, Reaches, r_suc}
use Rattle.format.specs.declared.Version.{Version}
use Rattle.format.specs.Version.{half_of}
use Rattle.format.specs.Book.{size_limit, term_book}
use Rattle.answers.specs.Answer.{Stop, value, spent, room, Result, result, stopped}
use Rattle.answers.specs.Engine.{padded}
use Rattle.answers.specs.Demands.{StopsBy, GreatestSize, TakesSteps}
use Rattle.answers.proofs.Reaching.{onward}

pub end_result_alike : (v : Version) {s t : Stop} {n m i j : ℕ} {f g : Term} → s ≡ t → n ≡ m → i ≡ j → f ≡ g →
    result (stopped s n i) (padded (term_book v f)) ≡ result (stopped t m j) (padded (term_book v g))
end_result_alike v p q k o = rw (p, q, k, o)

-- there is one greatest size
pub greatest_unique : {h n : ℕ} {e : Term} {i j : ℕ} → GreatestSize h n e i → GreatestSize h n e j → i ≡ j
greatest_unique x y =
    let (k, f, a, r, p) = x.attained in
    let (m, g, b, q, s) = y.attained in
    omega (arith, y.bounds k f a r, x.bounds m g b q)

module _
    (v : Version)
    {e : Term}
    (only : (n : ℕ) (f g : Term) → Reaches (half_of v) n e f → Reaches (half_of v) n e g → f ≡ g)
    (final : (f g : Term) → IsValue f → ¬ Step (half_of v) f g)
  where
    -- a run stopped at f before step m of the chain, all of it within the limit, was stopped for steps
    stopped_early : (s : Stop) {l n m : ℕ} {f g : Term} → StopsBy (half_of v) s l n f → Reaches (half_of v) n e f → n < m → Reaches (half_of v) m e g →
        ((k : ℕ) (d : Term) → k ≤ m → Reaches (half_of v) k e d → size d ≤ size_limit) → (s ≡ spent) × (n ≡ l)
    stopped_early value {n = n} {f = f} w r l q small =
        let o = onward q n l in
        absurd (final f o.1 w (subst (λ (x : Term). Step (half_of v) x o.1) (only n o.0 f o.2 r) o.3))
    stopped_early spent w r l q small = (refl, w.1)
    stopped_early room {n = n} w r l q small =
        let z : size w.2.0 ≤ size_limit = small (suc n) w.2.0 l (r_suc r w.2.1) in
        let y : size_limit < size w.2.0 = w.2.2 in
        absurd (omega arith)

    -- two runs that stopped after the same steps, at one term
    same_stop : (s t : Stop) {l k : ℕ} (n : ℕ) (f : Term) → l ≤ k → StopsBy (half_of v) s l n f → StopsBy (half_of v) t k n f → s ≢ spent → s ≡ t
    same_stop value value n f i u w d = refl
    same_stop value spent n f i u w d = absurd (w.0 u)
    same_stop value room n f i u w d = absurd (w.0 u)
    same_stop spent t n f i u w d = absurd (d refl)
    same_stop room value n f i u w d = absurd (u.0 w)
    same_stop room spent n f i u w d = absurd (omega (arith, u.1, w.1))
    same_stop room room n f i u w d = refl

    module _ {l k : ℕ} {r q : Result} (x : TakesSteps v e l r) (y : TakesSteps v e k q) (i : l ≤ k) where
      -- the one whose limit is no higher stopped no later
      no_later : x.steps ≤ y.steps
      no_later =
          elim (dec_le x.steps y.steps) [
            | yes a ↦ a
            | no u ↦
                let s = stopped_early y.stop y.why y.reached (omega arith) x.reached x.small in
                absurd (omega (arith, s.1, x.taken))
          ]

      -- and earlier only for steps
      earlier : x.steps < y.steps → (x.stop ≡ spent) × (x.steps ≡ l)
      earlier a = stopped_early x.stop x.why x.reached a y.reached y.small

      pub lesser_steps : x.steps ≡ min l y.steps
      lesser_steps =
          elim (dec_lt x.steps y.steps) [
            | yes a ↦ omega (arith, (earlier a).1)
            | no u ↦ omega (arith, no_later, x.taken)
          ]

      -- after the same steps the marks are the same
      pub same_mark : x.steps ≡ y.steps → x.mark ≡ y.mark
      same_mark n = greatest_unique (subst (λ (j : ℕ). GreatestSize (half_of v) j e x.mark) n x.greatest) y.greatest

      pub same_result : x.stop ≢ spent → r ≡ q
      same_result d =
          let n : x.steps ≡ y.steps =
          elim (dec_lt x.steps y.steps) [ yes a ↦ absurd (d (earlier a).0) | no u ↦ omega (arith, no_later) ] in
          let f : x.term ≡ y.term =
          only y.steps x.term y.term (subst (λ (j : ℕ). Reaches (half_of v) j e x.term) n x.reached) y.reached in
          let w : StopsBy (half_of v) y.stop k x.steps x.term = subst₂ (λ (j : ℕ) (g : Term). StopsBy (half_of v) y.stop k j g) (sym n) (sym f) y.why in
          let s : x.stop ≡ y.stop = same_stop x.stop y.stop x.steps x.term i x.why w d in
          x.says ∙ end_result_alike v s n (same_mark n) f ∙ sym y.says
