-- Records and field reads. Assumes nothing.
use Prim.Native.Nat.{ℕ, ◌+◌, ◌<◌}
use native.Mathlib.Omega.{arith}
use mathlib.Core.Path.{◌≡◌, refl, sym, ◌∙◌, ap}
use mathlib.Core.List.{List}
use borrow.Author.Tests.{eq-eqb, ne_eqb}
use Rattle.std.specs.Prelude.{Result, Ok, Err}
use Rattle.answers.specs.declared.Refusal.{Refusal}
use Rattle.calculus.specs.Syntax.{Ty, int, top, arrow, inter, field, Term, rcd, proj, size}
use Rattle.calculus.specs.Infer as Infer
use Rattle.calculus.specs.Infer.{labelled, picked, projected, infer}
use Rattle.calculus.specs.Decide.{is_top_like, field_part}
use Rattle.format.specs.Cell.{Cell, cell_at}
use Rattle.format.specs.Tree.{kind_in}
use Rattle.format.specs.Terms.{from_type}
use Rattle.format.specs.Book.{follow}
use Rattle.answers.specs.declared.Refusal.TheVariants.{Projection}
use Rattle.cells.specs.Held.{HoldsType, HoldsTerm, HoldsContext}
use Rattle.cells.proofs.Makes.{h_field}
use Rattle.cells.proofs.Held.{read_kind, inter_at, same_held, same_trans, type_mark, mark_one}
use Rattle.typing.specs.Finding.{Answered, Finds, RoomFor, Adds, FindFieldReady, FindsField}
use Rattle.typing.proofs.Answers.{finding, fielding, IsFound, typed, later}
use Rattle.typing.proofs.Parts.{One, labelled_of, top_of, Read, FoundAt, rcd_of, proj_of}

-- ---- one part, whose type is found

data Inner : ℕ → (ℕ → Term → Term) → Type 0 where
  rcd_inner : Inner 24 rcd
  proj_inner : Inner 25 proj

inner_at : {s : List ℕ} {i k : ℕ} {y : Cell} {w : ℕ → Term → Term} {e : Term} → Inner k w → y ≡ cell_at s i → HoldsTerm s i e → (cell_at s i).kind ≡ k → One s i y w e
inner_at rcd_inner p h k = rcd_of p h k
inner_at proj_inner p h k = proj_of p h k

inner_size : {k : ℕ} {w : ℕ → Term → Term} → Inner k w → (l : ℕ) (e : Term) → size (w l e) ≡ 1 + size e
unfolding size
inner_size rcd_inner l e = refl
inner_size proj_inner l e = refl

module _ {s u : List ℕ} {n m c i k x μ : ℕ} {y : Cell} {w : ℕ → Term → Term} (d : Inner k w) (p : Read s n c i k μ y) (f : FoundAt s u n m c y.a x) where
  -- of whatever context and term the cells hold
  record Known (Γ : List Ty) (t : Term) : Type 0 where
    term : Term
    is : t ≡ w y.label term
    left : IsFound s u n m (size term) x (infer Γ term)

  known : {Γ : List Ty} {t : Term} → HoldsContext s c Γ → HoldsTerm s i t → Known Γ t
  known g h =
      let v = inner_at d p.cell h p.kind in
      record { term = v.term; is = v.is; left = typed (finding f.finds g v.left.holds) f.is }

  own : Known p.ready.context p.ready.term
  own = known p.ready.holds_context p.ready.holds_term

  -- there is room for a cell more
  own_room : m < 8192
  own_room = let z = own in omega (arith, p.ready.room, ap size z.is, inner_size d y.label z.term, z.left.less)

-- ---- a record

module _ {s u : List ℕ} {n k c i x μ : ℕ} {y : Cell} (p : Read s n c i 24 μ y) (f : FoundAt s u n k c y.a x) where
  pub rcd_room : {g : Cell} → g ≡ cell_at u x → RoomFor u k (record { kind = 5; label = y.label; a = x; b = 0; c = g.c })
  rcd_room j =
      let z = (own rcd_inner p f).left in
      let r = own_room rcd_inner p f in
      record {
        long = z.same.long ∙ p.ready.long;
        room = r;
        fits = record { a = omega (arith, z.below); b = omega arith; c = rw (j, type_mark z.holds) (omega (arith, mark_one z.type)) };
      }

  pub rcd_found : {v : List ℕ} {g : Cell} {l r : ℕ} → g ≡ cell_at u x →
      Adds u v k l (record { kind = 5; label = y.label; a = x; b = 0; c = g.c }) r → Finds s v n l c i (Ok r)
  unfolding infer labelled size is_top_like
  rcd_found j w =
      record {
        says = λ Γ d g h.
            let v = known rcd_inner p f g h in
            let z = v.left in
            rw (v.is, z.is, w.answers, w.counts) (
              k,
              refl,
              omega (arith, z.more),
              omega (arith, z.less),
              same_trans z.same w.same z.more,
              omega arith,
              h_field w.there (ap (λ (x : Cell). x.c) j ∙ type_mark z.holds) z.below (same_held w.same z.below z.holds),
            );
      }

-- ---- a field read

inter_picked : {A B C : Ty} (l : ℕ) → A ≡ inter B C → projected l (Infer.found A) ≡ picked (field_part l A)
unfolding projected
inter_picked l e = rw e refl

module _ {s u : List ℕ} {n k c i x μ : ℕ} {y g : Cell} (p : Read s n c i 25 μ y) (f : FoundAt s u n k c y.a x) (t : g ≡ cell_at u x) where
  pub proj_top : g.kind ≡ 2 → Finds s u n k c i (Ok x)
  unfolding infer projected size
  proj_top j =
      record {
        says = λ Γ d a h.
            let v = known proj_inner p f a h in
            let z = v.left in
            let w : z.type ≡ top = top_of t j z.holds in
            rw (v.is, z.is, w) (x, refl, z.more, omega (arith, z.less), z.same, z.below, rw w at z.holds);
      }

  pub proj_found : g.kind ≡ 5 → g.label ≡ y.label → Finds s u n k c i (Ok g.a)
  unfolding infer projected size
  proj_found j b =
      record {
        says = λ Γ d a h.
            let v = known proj_inner p f a h in
            let z = v.left in
            let w = labelled_of t j z.holds in
            rw (v.is, z.is, w.is, eq-eqb y.label g.label (sym b))
            (_, refl, z.more, omega (arith, z.less), z.same, omega (arith, w.lower, z.below), w.holds);
      }

  pub proj_other : g.kind ≡ 5 → ¬ (g.label ≡ y.label) → Finds s u n k c i (Err (Projection i))
  unfolding infer projected follow
  proj_other j b =
      record {
        says = λ Γ d a h.
            let v = known proj_inner p f a h in
            let z = v.left in
            let w = labelled_of t j z.holds in
            rw (v.is, z.is, w.is, ne_eqb y.label g.label (λ l. b (sym l))) (Projection i, refl, refl);
      }

  -- an intersection
  pub proj_asks : FindFieldReady u k x
  proj_asks =
      let z = (own proj_inner p f).left in
      record {
        long = z.same.long ∙ p.ready.long;
        type = record { type = z.type; holds = z.holds };
        below = z.below;
        room = own_room proj_inner p f;
      }

  pub proj_inter : {v : List ℕ} {l : ℕ} {r : Result ℕ Refusal} → g.kind ≡ 4 → FindsField u v k l x y.label i r → Finds s v n l c i r
  unfolding infer size
  proj_inter j w =
      record {
        says = λ Γ d a h.
            let v = known proj_inner p f a h in
            let z = v.left in
            rw (v.is, z.is, inter_picked y.label (inter_at z.holds (rw t at j)).is)
            (later (1 + size v.term) (fielding w z.holds) z.same z.more (omega (arith, z.less)) p.ready.term_below).says;
      }

  -- neither Top nor an intersection nor a record type
  pub proj_else : ¬ (g.kind ≡ 2) → ¬ (g.kind ≡ 4) → ¬ (g.kind ≡ 5) → Finds s u n k c i (Err (Projection i))
  unfolding infer projected follow from_type kind_in
  proj_else a e b =
      record {
        says = λ Γ d l h.
            let v = known proj_inner p f l h in
            let z = v.left in
            rw (v.is, z.is) (go _ _ z.type z.holds);
      }
    where
      go : (m l : ℕ) (A : Ty) → HoldsType u x A → Answered s u n k m i (Err (Projection i)) (projected l (Infer.found A))
      go m l int h = (Projection i, refl, refl)
      go m l top h = absurd (a (read_kind t h))
      go m l (arrow A B) h = (Projection i, refl, refl)
      go m l (inter A B) h = absurd (e (read_kind t h))
      go m l (field k A) h = absurd (b (read_kind t h))
