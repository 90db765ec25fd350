-- Sums and choices: a cell of Int is added, and each part is checked against it before the next is walked. One law goes from part to
-- part: it is refused, and its refusal is the whole's; or it passes, and the next comes. Assumes nothing.
use Prim.Native.Nat.{ℕ, suc, ◌+◌, ◌*◌, ◌≤◌, ◌<◌}
use native.Mathlib.Omega.{arith}
use mathlib.Core.Path.{◌≡◌, refl, ◌∙◌, ap}
use mathlib.Core.List.{List}
use Rattle.std.specs.Prelude.{Result, Ok, Err}
use Rattle.calculus.specs.Syntax.{Ty, int, Term, size}
use Rattle.calculus.specs.Infer as Infer
use Rattle.calculus.specs.Infer.{checked, infer}
use Rattle.calculus.specs.Decide.{is_top_like}
use Rattle.format.specs.Table.{table, row_in, row_for}
use Rattle.format.specs.Cell.{Cell, cell_at}
use Rattle.format.specs.Book.{field_in}
use Rattle.answers.specs.declared.Refusal.{Refusal}
use Rattle.cells.specs.Held.{HoldsType, HoldsTerm, HoldsContext, Same}
use Rattle.cells.proofs.Makes.{h_int}
use Rattle.cells.proofs.Held.{sum_at, choice_at, same_held, same_context, same_trans}
use Rattle.typing.specs.declared.TheConstants.{INT}
use Rattle.typing.specs.Finding.{Finds, ReadyFor, checked_here, Checks, Adds}
use Rattle.typing.proofs.Paths.{leads}
use Rattle.typing.proofs.Answers.{Answer, checking, typed, refused_by, handed, carried, checked_carried}
use Rattle.typing.proofs.Parts.{Part, ready_part, AtCell}
use Rattle.typing.proofs.Checking.{carried_on}

-- The w parts from field f on of the term at cell i, which was read as y: what is found for the whole where each is checked against Int
-- in its turn, and how many cells the parts have.
pub data InTurn (s : List ℕ) (i : ℕ) (y : Cell) (Γ : List Ty) : ℕ → ℕ → Infer.Found → ℕ → Type 0 where
  done : {f : ℕ} → InTurn s i y Γ f 0 (Infer.found int) 0
  next : {f w z : ℕ} {e : Term} {S : Infer.Found} → Part s i f (field_in y f) e → InTurn s i y Γ (suc f) w S z →
      InTurn s i y Γ f (suc w) (checked f (infer Γ e) int S) (size e + z)

-- What remains to be checked of the term d, with n cells used at first and m now.
pub record Remaining (s : List ℕ) (n m i : ℕ) (y : Cell) (f w : ℕ) (Γ : List Ty) (d : Term) : Type 0 where
  pub finds : Infer.Found
  pub cells : ℕ
  pub parts : InTurn s i y Γ f w finds cells
  pub is : infer Γ d ≡ finds
  pub room : m + cells ≤ n + size d

-- The part at field f comes next: those before it passed. The buffer is t, with m cells used; cell j holds Int.
pub record Turn {k μ : ℕ} (p : AtCell k μ) (t : List ℕ) (j m f w : ℕ) : Type 0 where
  pub same : Same p.s t p.n
  pub more : p.n ≤ m
  pub wanted : HoldsType t j int
  pub wanted_below : j < m
  pub remains : {Γ : List Ty} {d : Term} → HoldsContext p.s p.c Γ → HoldsTerm p.s p.i d → Remaining p.s p.n m p.i p.y f w Γ d

-- ---- the first part

-- a kind of w parts
pub data Summed : ℕ → ℕ → Type 0 where
  sum_parts : Summed 26 2
  choice_parts : Summed 27 3

all_parts : {s : List ℕ} {n i k w : ℕ} {y : Cell} {Γ : List Ty} {d : Term} → Summed k w → y ≡ cell_at s i → (cell_at s i).kind ≡ k → HoldsTerm s i d →
    Remaining s n (n + 1) i y 0 w Γ d
unfolding table row_in row_for infer size
all_parts {Γ = Γ} sum_parts o k h =
    let v = sum_at h k in
    rw o
    (record {
      finds = _;
      cells = _;
      parts =
          next (record { leads = leads 0 k refl refl v.first_lower; holds = v.holds_first })
          (next (record { leads = leads 1 k refl refl v.second_lower; holds = v.holds_second }) done);
      is = ap (infer Γ) v.is;
      room = omega (arith, ap size v.is);
    })
all_parts {Γ = Γ} choice_parts o k h =
    let v = choice_at h k in
    rw o
    (record {
      finds = _;
      cells = _;
      parts =
          next (record { leads = leads 0 k refl refl v.tested_lower; holds = v.holds_tested })
          (next (record { leads = leads 1 k refl refl v.zero_lower; holds = v.holds_zero })
          (next (record { leads = leads 2 k refl refl v.other_lower; holds = v.holds_other }) done));
      is = ap (infer Γ) v.is;
      room = omega (arith, ap size v.is);
    })

pub first_turn : {k w μ m j : ℕ} {t : List ℕ} {p : AtCell k μ} → Summed k w → Adds p.s t p.n m INT j → Turn p t j m 0 w
unfolding is_top_like
first_turn {p = p} b a =
    rw (a.answers, a.counts)
    (record {
      same = a.same;
      more = omega arith;
      wanted = h_int a.there refl;
      wanted_below = omega arith;
      remains = λ g h. all_parts b p.read.cell p.read.kind h;
    })

-- ---- a part in its turn

module _ {k μ j m f w : ℕ} {t : List ℕ} {p : AtCell k μ} (q : Turn p t j m f (suc w)) where
  -- of whatever context and term the cells hold
  record Here (Γ : List Ty) (d : Term) : Type 0 where
    term : Term
    rest : Infer.Found
    cells : ℕ
    part : Part p.s p.i f (field_in p.y f) term
    after : InTurn p.s p.i p.y Γ (suc f) w rest cells
    is : infer Γ d ≡ carried f rest (checked_here (infer Γ term) int)
    room : m + size term + cells ≤ p.n + size d

  here : {Γ : List Ty} {d : Term} → HoldsContext p.s p.c Γ → HoldsTerm p.s p.i d → Here Γ d
  here {Γ} {d} g h = let v = q.remains g h in go v.parts v.is v.room
    where
      go : {F : Infer.Found} {z : ℕ} → InTurn p.s p.i p.y Γ f (suc w) F z → infer Γ d ≡ F → m + z ≤ p.n + size d → Here Γ d
      go (next {z = z} {e = e} {S = S} a b) o l =
          record { term = e; rest = S; cells = z; part = a; after = b; is = o ∙ checked_carried f (infer Γ e) int S; room = omega arith }

  own : Here p.read.ready.context p.read.ready.term
  own = here p.read.ready.holds_context p.read.ready.holds_term

  pub part_asks : (3 * field_in p.y f + 2 < μ) × ReadyFor t m p.c (field_in p.y f) j
  part_asks =
      let r = p.read.ready in
      let v = own in (
        omega (arith, v.part.leads.lower, p.read.measure),
        record {
          ready = ready_part r v.part q.same q.more (omega (arith, v.room, r.room));
          wanted = int;
          holds_wanted = q.wanted;
          wanted_below = q.wanted_below;
        },
      )

  module _ {u : List ℕ} {l : ℕ} {r : Result ℕ Refusal} (a : Checks t u m l p.c (field_in p.y f) j r) where
    answer : {Γ : List Ty} {d : Term} → HoldsContext p.s p.c Γ → (v : Here Γ d) →
        Answer t u m l (size v.term) (field_in p.y f) r (checked_here (infer Γ v.term) int)
    answer g v =
        let r = p.read.ready in
        let b : field_in p.y f < p.n = omega (arith, v.part.leads.lower, r.term_below) in
        checking a (same_context q.same r.context_below g) (same_held q.same b v.part.holds) q.wanted

    pub part_refused : {e : Refusal} → r ≡ Err e → Finds p.s u p.n l p.c p.i (Err e)
    part_refused o =
        record {
          says = λ Γ d g h.
              let v = here g h in
              let z = refused_by (answer g v) o in
              rw (v.is, z.is) (handed v.part.leads p.read.ready.term_below q.same z);
        }

    pub next_turn : {x : ℕ} → r ≡ Ok x → Turn p u j l (suc f) w
    next_turn o =
        let b = typed (answer p.read.ready.holds_context own) o in
        record {
          same = same_trans q.same b.same q.more;
          more = omega (arith, q.more, b.more);
          wanted = same_held b.same q.wanted_below q.wanted;
          wanted_below = omega (arith, q.wanted_below, b.more);
          remains = λ g h.
              let v = here g h in
              let z = typed (answer g v) o in
              record { finds = v.rest; cells = v.cells; parts = v.after; is = v.is ∙ ap (carried f v.rest) z.is; room = omega (arith, v.room, z.less) };
        }

all_done : {s : List ℕ} {i f z : ℕ} {y : Cell} {Γ : List Ty} {S : Infer.Found} → InTurn s i y Γ f 0 S z → S ≡ Infer.found int
all_done done = refl

-- The last part's answer is the whole's.
pub part_last : {k μ j m l f : ℕ} {t u : List ℕ} {r : Result ℕ Refusal} {p : AtCell k μ} → Turn p t j m f 1 → Checks t u m l p.c (field_in p.y f) j r →
    Finds p.s u p.n l p.c p.i r
part_last {p = p} q a =
    record {
      says = λ Γ d g h.
          let v = here q g h in
          rw (v.is, all_done v.after)
          (carried_on (infer Γ v.term) int (size d) v.part.leads p.read.ready.term_below q.same q.more (omega (arith, v.room))
          (answer q a g v));
    }

-- ---- the point of the code where the part at field f comes next

pub record AtPart (k μ f w : ℕ) : Type 0 where
  pub at : AtCell k μ
  pub t : List ℕ
  pub j : ℕ
  pub m : ℕ
  pub turn : Turn at t j m f w

abbrev pub first_part : {k w μ m j : ℕ} {t : List ℕ} → Summed k w → (p : AtCell k μ) → Adds p.s t p.n m INT j → AtPart k μ 0 w
first_part {m = m} {j = j} {t = t} b p a = record { at = p; t = t; j = j; m = m; turn = first_turn b a }

abbrev pub next_part : {k μ f w x l : ℕ} {u : List ℕ} {r : Result ℕ Refusal} (p : AtPart k μ f (suc w)) →
    Checks p.t u p.m l p.at.c (field_in p.at.y f) p.j r → r ≡ Ok x → AtPart k μ (suc f) w
next_part {l = l} {u = u} p a o = record { at = p.at; t = u; j = p.j; m = l; turn = next_turn p.turn a o }
