-- A walk over the parts of two cells, from one half to the next: what is left to ask decides the question about both. One law for every
-- question and for both ways of joining two answers. Assumes nothing.
use Prim.Native.Nat.{ℕ, ◌+◌, ◌*◌, ◌≤◌, ◌<◌}
use mathlib.Core.Path.{◌≡◌, refl, sym, ap, ◌∙◌}
use mathlib.Core.Bool.{Bool, true, false, ◌&&◌, ◌||◌}
use mathlib.Core.Logic.{inl, inr}
use mathlib.Core.List.{List}
use native.Mathlib.Omega.{arith}
use native.Mathlib.Decide.{dec_lt}
use Rattle.calculus.specs.Syntax.{Term}
use Rattle.format.specs.Cell.{Cell, cell_at}
use Rattle.cells.specs.Held.{HoldsTerm}
use Rattle.decisions.specs.Questions.{InOrder, PairAt, PairSays, TermAt, TermSays}
use Rattle.decisions.proofs.Parts.{Splits, Whenever, both, either, none, some}
use Rattle.decisions.proofs.Single.{OneSplits, one_both, one_none}

-- a cell as read has the kind that was tested
pub kind_read : {x y : Cell} {k n : ℕ} → x ≡ y → k ≡ y.kind → k ≡ n → x.kind ≡ n
kind_read e f g = ap (λ (t : Cell). t.kind) e ∙ sym f ∙ g

-- and the other way about
pub kind_stands : {x y : Cell} {n : ℕ} → x ≡ y → x.kind ≡ n → y.kind ≡ n
kind_stands e k = sym (ap (λ (t : Cell). t.kind) e) ∙ k

-- a walk that has left the kind of its start is below it
pub gone_on : (s : List ℕ) {i k n m : ℕ} → k ≤ i → (cell_at s i).kind ≡ n → m ≡ (cell_at s k).kind → (m ≡ n → ⊥) → k < i
gone_on s {i} {k} l e f d =
    let u : k ≡ i → ⊥ = λ q. d (f ∙ ap (λ j. (cell_at s j).kind) q ∙ e) in
    elim (dec_lt k i) [ yes p ↦ p | no p ↦ absurd (u (omega (arith, l, p))) ]

-- The answer about the parts that cells i and j hold is the answer about a and b.
pub record Leads {X : Type 0} (H : ℕ → X → Type 0) (q : X → X → Bool) (a b i j : ℕ) : Type 0 where
  pub at : PairAt H i j
  pub lower : i + j ≤ a + b
  pub on : (r : Bool) → PairSays H i j q r → PairSays H a b q r

pub or_other : (p q : Bool) → (p || q) ≡ (q || p)
or_other true true = refl
or_other true false = refl
or_other false true = refl
or_other false false = refl

pub and_other : (p q : Bool) → (p && q) ≡ (q && p)
and_other true true = refl
and_other true false = refl
and_other false true = refl
and_other false false = refl

module _ {X : Type 0} {H : ℕ → X → Type 0} {q : X → X → Bool} where
  -- the walk's start
  pub walk_starts : {a b : ℕ} → PairAt H a b → Leads H q a b a b
  walk_starts p = record { at = p; lower = omega arith; on = λ r u. u }

  -- the two parts the other way about
  swapped : (o : Bool → Bool → Bool) → ((p q : Bool) → o p q ≡ o q p) → {n a b c d : ℕ} {x y : X} → Splits H q o n a b c d x y → Splits H q o n c d a b x y
  swapped o other p = record {
    first = p.second;
    second = p.first;
    first_less = p.second_less;
    second_less = p.first_less;
    is = p.is ∙ other (q p.first.first p.first.second) (q p.second.first p.second.second);
  }

  -- the two parts in the walk's order, of the first cell and of the second
  pub left_in_order : {o : Bool → Bool → Bool} → ((p q : Bool) → o p q ≡ o q p) → {n a b f g j : ℕ} {x y : X} → InOrder a b f g → Splits H q o n a j b j x y →
      Splits H q o n f j g j x y
  left_in_order {o} other (inl h) p = rw (h.0, h.1) p
  left_in_order {o} other (inr h) p = rw (h.0, h.1) (swapped o other p)

  pub right_in_order : {o : Bool → Bool → Bool} → ((p q : Bool) → o p q ≡ o q p) → {n a b f g i : ℕ} {x y : X} → InOrder a b f g → Splits H q o n i a i b x y →
      Splits H q o n i f i g x y
  right_in_order {o} other (inl h) p = rw (h.0, h.1) p
  right_in_order {o} other (inr h) p = rw (h.0, h.1) (swapped o other p)

  pub or_swapped : {n a b c d : ℕ} {x y : X} → Splits H q ◌||◌ n a b c d x y → Splits H q ◌||◌ n c d a b x y
  or_swapped = swapped ◌||◌ or_other

  pub and_swapped : {n a b c d : ℕ} {x y : X} → Splits H q ◌&&◌ n a b c d x y → Splits H q ◌&&◌ n c d a b x y
  and_swapped = swapped ◌&&◌ and_other

  module _ {a b i j : ℕ} (l : Leads H q a b i j) {c d e f : ℕ} {p : Bool} where
    module _ (w : Whenever H i j (Splits H q ◌||◌ (i + j) c d e f)) (u : PairSays H c d q p) where
      -- the first part's answer is no: the other one decides
      pub or_goes_on : p ≡ false → Leads H q a b e f
      or_goes_on t =
          let z = w _ _ l.at.holds_first l.at.holds_second in
          let m = z.second_less in
          let k = l.lower in
          record { at = z.second; lower = omega (arith, m, k); on = λ r v. l.on r (either w u t v) }

      pub or_ends : p ≡ true → PairSays H a b q true
      or_ends t = l.on true (rw t at (some w u t))

    module _ (w : Whenever H i j (Splits H q ◌&&◌ (i + j) c d e f)) (u : PairSays H c d q p) where
      -- the first part's answer is yes: the other one decides
      pub and_goes_on : p ≡ true → Leads H q a b e f
      and_goes_on t =
          let z = w _ _ l.at.holds_first l.at.holds_second in
          let m = z.second_less in
          let k = l.lower in
          record { at = z.second; lower = omega (arith, m, k); on = λ r v. l.on r (both w u t v) }

      pub and_ends : p ≡ false → PairSays H a b q false
      and_ends t = l.on false (rw t at (none w u t))

-- The same of a question about one term.
pub record OneLeads (s : List ℕ) (q : Term → Bool) (i k : ℕ) : Type 0 where
  pub at : TermAt s k
  pub lower : k ≤ i
  pub on : (r : Bool) → TermSays s k q r → TermSays s i q r

module _ {s : List ℕ} {q : Term → Bool} where
  pub one_walk_starts : {i : ℕ} → TermAt s i → OneLeads s q i i
  one_walk_starts p = record { at = p; lower = omega arith; on = λ r u. u }

  one_swapped : {i a b : ℕ} {e : Term} → OneSplits s q i a b e → OneSplits s q i b a e
  one_swapped p = record {
    first = p.second;
    second = p.first;
    first_less = p.second_less;
    second_less = p.first_less;
    is = p.is ∙ and_other (q p.first.term) (q p.second.term);
  }

  pub one_in_order : {i a b f g : ℕ} {e : Term} → InOrder a b f g → OneSplits s q i a b e → OneSplits s q i f g e
  one_in_order (inl h) p = rw (h.0, h.1) p
  one_in_order (inr h) p = rw (h.0, h.1) (one_swapped p)

  module _ {i k a b : ℕ} {p : Bool} (l : OneLeads s q i k) (w : (e : Term) → HoldsTerm s k e → OneSplits s q k a b e) (u : TermSays s a q p) where
    pub one_goes_on : p ≡ true → OneLeads s q i b
    one_goes_on t =
        let z = w _ l.at.holds in
        let m = z.second_less in
        let n = l.lower in
        record { at = z.second; lower = omega (arith, m, n); on = λ r v. l.on r (one_both w u t v) }

    pub one_ends : p ≡ false → TermSays s i q false
    one_ends t = l.on false (rw t at (one_none w u t))

-- ---- what is known at the point of a walk where its cell is read

-- What is left to ask, of cells i and j, is asked of two pairs of parts. The measure of the whole question, of mode m, is μ.
pub record AtHalves {X : Type 0} (P : List ℕ → ℕ → ℕ → Type 0) (H : List ℕ → ℕ → X → Type 0) (q : X → X → Bool) (o : Bool → Bool → Bool) (n m μ : ℕ) : Type 0 where
  pub s : List ℕ
  pub a : ℕ
  pub b : ℕ
  pub i : ℕ
  pub j : ℕ
  pub c : ℕ
  pub d : ℕ
  pub e : ℕ
  pub f : ℕ
  pub pre : P s a b
  pub leads : Leads (H s) q a b i j
  pub halves : Whenever (H s) i j (Splits (H s) q o (i + j) c d e f)
  pub measure : n * (a + b) + m ≡ μ

-- of what the walk has in hand
pub own : {X : Type 0} {P : List ℕ → ℕ → ℕ → Type 0} {H : List ℕ → ℕ → X → Type 0} {q : X → X → Bool} {o : Bool → Bool → Bool} {n m μ : ℕ} (w : AtHalves P H q o n m μ)
    → Splits (H w.s) q o (w.i + w.j) w.c w.d w.e w.f w.leads.at.first w.leads.at.second
own w = w.halves _ _ w.leads.at.holds_first w.leads.at.holds_second

-- The same of a question about one term, whose cell is small.
pub record OneHalves (q : Term → Bool) (μ : ℕ) : Type 0 where
  pub s : List ℕ
  pub i : ℕ
  pub k : ℕ
  pub a : ℕ
  pub b : ℕ
  pub leads : OneLeads s q i k
  pub halves : (e : Term) → HoldsTerm s k e → OneSplits s q k a b e
  pub small : i < 131072
  pub measure : 3 * i ≡ μ

pub one_own : {q : Term → Bool} {μ : ℕ} (w : OneHalves q μ) → OneSplits w.s q w.k w.a w.b w.leads.at.term
one_own w = w.halves _ w.leads.at.holds
