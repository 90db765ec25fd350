-- How the answer to a question about two cells follows from its answers about their parts: one law for types and for terms, for every
-- question, and for both ways of joining two answers. Assumes nothing.
use Prim.Native.Nat.{ℕ, ◌+◌, ◌<◌}
use mathlib.Core.Path.{◌≡◌, refl, sym, ◌∙◌}
use mathlib.Core.Bool.{Bool, true, false, ◌&&◌, ◌||◌}
use Rattle.decisions.specs.Questions.{PairAt, PairSays}

module _ {X : Type 0} (H : ℕ → X → Type 0) (q : X → X → Bool) where
  -- The question about x and y is the question about parts that cells a and b hold, whose sum is below n.
  pub record Passes (n a b : ℕ) (x y : X) : Type 0 where
    pub part : PairAt H a b
    pub less : a + b < n
    pub is : q x y ≡ q part.first part.second

-- The answer about x and y is what j makes of the answers about two pairs of parts, each pair's sum below n. The second pair may be of
-- another sort, with a question of its own.
pub record Divides {X Y : Type 0} (H : ℕ → X → Type 0) (q : X → X → Bool) (K : ℕ → Y → Type 0) (p : Y → Y → Bool) (j : Bool → Bool → Bool)
    (n a b c d : ℕ) (x y : X) : Type 0 where
  pub first : PairAt H a b
  pub second : PairAt K c d
  pub first_less : a + b < n
  pub second_less : c + d < n
  pub is : q x y ≡ j (q first.first first.second) (p second.first second.second)

abbrev pub Splits : {X : Type 0} → (ℕ → X → Type 0) → (X → X → Bool) → (Bool → Bool → Bool) → (n a b c d : ℕ) → X → X → Type 0
Splits H q = Divides H q H q

-- what two cells hold is so related
abbrev pub Whenever : {X : Type 0} → (ℕ → X → Type 0) → ℕ → ℕ → (X → X → Type 0) → Type 0
Whenever {X} H a b P = (x y : X) → H a x → H b y → P x y

pub and_both : {p q r s t : Bool} → t ≡ (q && s) → p ≡ q → p ≡ true → r ≡ s → r ≡ t
and_both {q} {s} e f g h = h ∙ sym (e ∙ rw (sym f ∙ g) refl)

pub and_none : {p q t : Bool} (s : Bool) → t ≡ (q && s) → p ≡ q → p ≡ false → p ≡ t
and_none s e f g = g ∙ sym (e ∙ rw (sym f ∙ g) refl)

pub or_both : {p q r s t : Bool} → t ≡ (q || s) → p ≡ q → p ≡ false → r ≡ s → r ≡ t
or_both e f g h = h ∙ sym (e ∙ rw (sym f ∙ g) refl)

pub or_some : {p q t : Bool} (s : Bool) → t ≡ (q || s) → p ≡ q → p ≡ true → p ≡ t
or_some s e f g = g ∙ sym (e ∙ rw (sym f ∙ g) refl)

module _ {X : Type 0} {H : ℕ → X → Type 0} {q : X → X → Bool} {a b : ℕ} where
  -- the answer is known outright
  pub outright : {r : Bool} → Whenever H a b (λ x y. r ≡ q x y) → PairSays H a b q r
  outright f = record { says = f }

  -- the same, by a test
  pub flagged : {r u : Bool} → r ≡ u → Whenever H a b (λ x y. u ≡ q x y) → PairSays H a b q r
  flagged e f = record { says = λ x y h k. e ∙ f x y h k }

  module _ {n c d : ℕ} {r : Bool} where
    pub passed : Whenever H a b (Passes H q n c d) → PairSays H c d q r → PairSays H a b q r
    passed f p = record { says = λ x y h k. let v = f x y h k in p.says _ _ v.part.holds_first v.part.holds_second ∙ sym v.is }

  module _ {Y : Type 0} {K : ℕ → Y → Type 0} {g : Y → Y → Bool} {n c d e f : ℕ} {p : Bool} where
    pub both : {r : Bool} → Whenever H a b (Divides H q K g ◌&&◌ n c d e f) → PairSays H c d q p → p ≡ true → PairSays K e f g r → PairSays H a b q r
    both w u t v = record {
      says = λ x y h k.
          let z = w x y h k in
          and_both z.is (u.says _ _ z.first.holds_first z.first.holds_second) t
          (v.says _ _ z.second.holds_first z.second.holds_second);
    }

    pub none : Whenever H a b (Divides H q K g ◌&&◌ n c d e f) → PairSays H c d q p → p ≡ false → PairSays H a b q p
    none w u t = record {
      says = λ x y h k. let z = w x y h k in and_none _ z.is (u.says _ _ z.first.holds_first z.first.holds_second) t;
    }

    pub either : {r : Bool} → Whenever H a b (Divides H q K g ◌||◌ n c d e f) → PairSays H c d q p → p ≡ false → PairSays K e f g r → PairSays H a b q r
    either w u t v = record {
      says = λ x y h k.
          let z = w x y h k in
          or_both z.is (u.says _ _ z.first.holds_first z.first.holds_second) t
          (v.says _ _ z.second.holds_first z.second.holds_second);
    }

    pub some : Whenever H a b (Divides H q K g ◌||◌ n c d e f) → PairSays H c d q p → p ≡ true → PairSays H a b q p
    some w u t = record {
      says = λ x y h k. let z = w x y h k in or_some _ z.is (u.says _ _ z.first.holds_first z.first.holds_second) t;
    }
