-- Where a run has its place: the term in the work buffer, seen from the focus. Left of the gap lie values, right of it what is to come; each
-- cell of the term stands once. Assumes nothing.
use Rattle.std.specs.Prelude.{ℕ, suc, ◌+◌, ◌*◌, ◌-◌, ◌≤◌, ◌<◌, ◌≡◌, true, false, cond, ◌⊎◌, List, [], eqb, length, Option, Some, None}
use Rattle.std.proofs.Math.Option.{some}
use Rattle.calculus.specs.Syntax.{Ty, Term, lit, unit, anno, app, fix, proj, sum, choice, size}
use Rattle.calculus.specs.Typing.{Typed}
use Rattle.calculus.specs.Decide.{is_value}
use Rattle.calculus.specs.Evaluate.{next}
use Rattle.format.specs.Table.{type_sort, term_sort, refers}
use Rattle.format.specs.declared.Version.TheVariants.{Two}
use Rattle.format.specs.Version.{half_of, stored}
use Rattle.format.specs.Cell.{Cell, cell_at, signed}
use Rattle.format.specs.Tree.{Tree}
use Rattle.format.specs.Terms.{from_type, from_term, WideFits}
use Rattle.format.specs.Book.{size_limit}
use Rattle.cells.specs.Held.{IsCell, HeldField}
use Rattle.emission.specs.Runs.{Run}
use Rattle.running.specs.Waiting.{fill, Waits}
use Rattle.running.specs.Contexts.{Around, whole, AllProper, frames}
use Rattle.running.specs.declared.Place.{Place}
use Rattle.running.specs.declared.Focus.{Focus}
use Rattle.running.specs.declared.Focus.TheVariants.{Ahead, Done, Redex, Whole}

-- The focus f is to come, within K.
pub record IsAhead (w : List ℕ) (p : Place) (K : List Around) (f : Term) : Type 0 where
  pub starts : p.start ≡ p.left
  pub run : Run true w p.right (refers term_sort) p.root (from_term f) (suc p.root)
  pub waits : Waits w p.up p.start (suc p.root) (frames K)
  pub apart : p.start < p.right

-- The focus f is a value and done.
pub record IsDone (w : List ℕ) (p : Place) (K : List Around) (f : Term) : Type 0 where
  pub value : is_value f ≡ true
  pub run : Run true w p.start (refers term_sort) (p.left - 1) (from_term f) p.left
  pub waits : Waits w p.up p.start p.right (frames K)
  pub apart : p.left < p.right

-- The cell of a redex is of kind k, and two values are done, its first part and its second.
pub record BothDone (w : List ℕ) (p : Place) (k : ℕ) (v u : Term) : Type 0 where
  pub label : ℕ
  pub a : ℕ
  pub b : ℕ
  pub c : ℕ
  pub end : ℕ
  pub cell : IsCell w p.root k label a b c
  pub first_value : is_value v ≡ true
  pub second_value : is_value u ≡ true
  pub first : Run true w p.start (refers term_sort) a (from_term v) end
  pub second : Run true w end (refers term_sort) b (from_term u) p.left
  pub nothing : p.right ≡ p.root

-- The parts of a redex: values are done, a type, a fixpoint and the branches of a choice are to come.
pub data RedexParts (w : List ℕ) (p : Place) : Term → Type 0 where
  of_anno : {l a b c : ℕ} {v : Term} {A : Ty} → IsCell w p.root 19 l a b c → is_value v ≡ true →
      Run true w p.start (refers term_sort) a (from_term v) p.left → Run true w p.right (refers type_sort) b (from_type A) p.root →
      RedexParts w p (anno v A)
  of_app : {v u : Term} → BothDone w p 20 v u → RedexParts w p (app v u)
  of_fix : {e : Term} {A : Ty} → p.start ≡ p.left → Run true w p.right (refers term_sort) p.root (from_term (fix e A)) (suc p.root) →
      RedexParts w p (fix e A)
  of_proj : {l a b c : ℕ} {v : Term} → IsCell w p.root 25 l a b c → is_value v ≡ true →
      Run true w p.start (refers term_sort) a (from_term v) p.left → p.right ≡ p.root → RedexParts w p (proj l v)
  of_sum : {v u : Term} → BothDone w p 26 v u → RedexParts w p (sum v u)
  of_choice : {l a b c o : ℕ} {v e f : Term} → IsCell w p.root 27 l a b c → is_value v ≡ true →
      Run true w p.start (refers term_sort) a (from_term v) p.left → Run true w p.right (refers term_sort) b (from_term e) o →
      Run true w o (refers term_sort) c (from_term f) p.root → RedexParts w p (choice v e f)

-- The focus f is a redex.
pub record IsRedex (w : List ℕ) (p : Place) (K : List Around) (f : Term) : Type 0 where
  pub parts : RedexParts w p f
  pub waits : Waits w p.up p.start (suc p.root) (frames K)
  pub apart : p.left < p.right

-- What stands at the focus, by what the focus says; around the whole term there is nothing.
abbrev pub FocusIs : List ℕ → Focus → List Around → Term → Type 0
FocusIs w (Ahead p) K f = IsAhead w p K f
FocusIs w (Done p) K f = IsDone w p K f
FocusIs w (Redex p) K f = IsRedex w p K f
FocusIs w (Whole p) K f = (K ≡ []) × IsDone w p K f

-- The term e stands in the work buffer.
pub record Standing (w : List ℕ) (x : Focus) (e : Term) : Type 0 where
  pub long : length w ≡ 65536
  pub around : List Around
  pub focus : Term
  pub is : e ≡ whole around focus
  pub proper : AllProper around
  pub at : FocusIs w x around focus

-- The place of a focus.
abbrev pub focus_place : Focus → Place
focus_place (Ahead p) = p
focus_place (Done p) = p
focus_place (Redex p) = p
focus_place (Whole p) = p

-- The gap of a place lies in the work buffer.
pub record GapWithin (p : Place) : Type 0 where
  pub apart : p.left < p.right
  pub right : p.right ≤ 8192

-- The cells left of the gap and right of it: as many as the term has that stands there (proofs/Sizes).
abbrev pub standing_cells_lem : Place → ℕ
standing_cells_lem p = p.left + (8192 - p.right)

-- A typed term within the limit, whose labels, indices and numbers fit.
pub record Runnable (e : Term) : Type 0 where
  pub type : Ty
  pub typed : Typed [] e type
  pub fits : WideFits e
  pub small : size e ≤ size_limit

-- Some such term stands there.
pub record FocusReady (w : List ℕ) (x : Focus) : Type 0 where
  pub term : Term
  pub standing : Standing w x term
  pub runnable : Runnable term

-- The focus has moved, the term is the same.
pub record Moves (w v : List ℕ) (x y : Focus) : Type 0 where
  pub says : (e : Term) → Standing w x e → Runnable e → Standing v y e

-- How far the focus may still have to go: past the cells to come, and down into a part.
abbrev pub distance : Focus → ℕ
distance (Ahead p) = 20000 * (8192 - p.right) + suc p.root
distance (Done p) = 20000 * (8192 - p.right) + 10000
distance (Redex p) = 0
distance (Whole p) = 0

-- It has gone on.
pub record GoesOn (w v : List ℕ) (x y : Focus) : Type 0 where
  pub moves : Moves w v x y
  pub falls : distance y < distance x

-- The focus is to come.
abbrev pub Entering : List ℕ → Place → Type 0
Entering w p = FocusReady w (Ahead p)

-- From there it has gone on.
abbrev pub Enters : List ℕ → List ℕ → Place → Focus → Type 0
Enters w v p r = GoesOn w v (Ahead p) r

-- The focus is a number, the top value or a function.
pub record Taking (w : List ℕ) (p : Place) : Type 0 where
  pub ready : Entering w p
  pub value : ((cell_at w p.root).kind ≡ 17) ⊎ (((cell_at w p.root).kind ≡ 18) ⊎ ((cell_at w p.root).kind ≡ 21))

-- Field c of a cell that waits for its first part: of a choice its third part, else 0.
abbrev pub third_of : Cell → ℕ
third_of t = cond (eqb t.kind 27) t.c 0

-- The focus, whose cell is t, is none of these and no fixpoint.
pub record Descending (w : List ℕ) (p : Place) (t : Cell) : Type 0 where
  pub ready : Entering w p
  pub cell : t ≡ cell_at w p.root
  pub no_number : t.kind ≡ 17 → ⊥
  pub no_top : t.kind ≡ 18 → ⊥
  pub no_function : t.kind ≡ 21 → ⊥
  pub no_fixpoint : t.kind ≡ 23 → ⊥

-- The focus is a value and done.
abbrev pub Leaving : List ℕ → Place → Type 0
Leaving w p = FocusReady w (Done p)

-- From there it has gone on.
abbrev pub Leaves : List ℕ → List ℕ → Place → Focus → Type 0
Leaves w v p r = GoesOn w v (Done p) r

-- The cell t waits for a focus that is done.
pub record Waiting (w : List ℕ) (p : Place) (t : Cell) : Type 0 where
  pub ready : Leaving w p
  pub some : p.up ≡ 0 → ⊥
  pub cell : t ≡ cell_at w p.up

-- the same, and t waits for one part alone;
pub record WaitingOne (w : List ℕ) (p : Place) (t : Cell) : Type 0 where
  pub waiting : Waiting w p t
  pub no_app : t.kind ≡ 20 → ⊥
  pub no_merge : t.kind ≡ 22 → ⊥
  pub no_sum : t.kind ≡ 26 → ⊥

-- The kinds that wait for a first part and then for a second: application, merge, sum.
abbrev pub WaitsTwice : ℕ → Type 0
WaitsTwice k = (k ≡ 20) ⊎ ((k ≡ 22) ⊎ (k ≡ 26))

-- t is of such a kind, and waits for its first part;
pub record WaitingFirst (w : List ℕ) (p : Place) (t : Cell) : Type 0 where
  pub waiting : Waiting w p t
  pub two : WaitsTwice t.kind
  pub first : t.c ≡ 0

-- t waits for its second part.
pub record WaitingSecond (w : List ℕ) (p : Place) (t : Cell) : Type 0 where
  pub waiting : Waiting w p t
  pub two : WaitsTwice t.kind
  pub second : t.c ≡ 0 → ⊥

-- The focus is a redex, or the whole term and a value.
abbrev pub Settled : Focus → Type 0
Settled (Ahead p) = ⊥
Settled (Done p) = ⊥
Settled (Redex p) = Unit {0}
Settled (Whole p) = Unit {0}

-- The focus has moved to such a place.
pub record Settles (w v : List ℕ) (x y : Focus) : Type 0 where
  pub settled : Settled y
  pub moves : Moves w v x y

-- The place of a redex that has become a value ending before a cell.
abbrev pub done_at : Place → ℕ → Focus
done_at p left = Done (record { left = left; start = p.start; right = p.root + 1; root = p.root; up = p.up })

-- The redex has become a term that is no larger and has its place; h is half of the range that sums are held to, here and below.
pub record Becomes (h : ℕ) (w v : List ℕ) (p : Place) (r : Focus) : Type 0 where
  pub says : (e g : Term) → Standing w (Redex p) e → Runnable e → next h e ≡ some g → Standing v r g × (size g ≤ size e)

-- The same, to whatever range sums are held.
abbrev pub BecomesAny : List ℕ → List ℕ → Place → Focus → Type 0
BecomesAny w v p r = (h : ℕ) → Becomes h w v p r

-- The focus is a redex.
abbrev pub AtRedex : List ℕ → Place → Type 0
AtRedex w p = FocusReady w (Redex p)

-- t is the one cell of a value: of the top value, or of a number.
pub data SingleCell (t : Cell) : Term → Type 0 where
  top_cell : t ≡ record { kind = 18; label = 0; a = 0; b = 0; c = 0 } → SingleCell t unit
  number_cell : {a b c : ℕ} → t ≡ record { kind = 17; label = 0; a = a; b = b; c = c } → SingleCell t (lit (signed (half_of Two) (stored Two a b c)))

-- The redex becomes x and nothing else.
abbrev pub OnlyBecomes : ℕ → List ℕ → Place → Term → Type 0
OnlyBecomes h w p x = (e : Term) (s : Standing w (Redex p) e) → Runnable e → (d : Term) → next h s.focus ≡ some d → x ≡ d

-- A redex, and the one cell of a value.
pub record SingleReady (w : List ℕ) (p : Place) (t : Cell) : Type 0 where
  pub ready : AtRedex w p
  pub a_fits : t.a < 65536
  pub b_fits : t.b < 65536
  pub c_fits : t.c < 65536
  pub value : Term
  pub single : SingleCell t value

-- Where the redex becomes the value whose one cell is t, it has become it, to whatever range sums are held.
pub record BecomesSingle (w v : List ℕ) (p : Place) (t : Cell) (r : Focus) : Type 0 where
  pub says : (h : ℕ) (x : Term) → SingleCell t x → OnlyBecomes h w p x → Becomes h w v p r

-- The same of the top value.
pub record BecomesTop (w v : List ℕ) (p : Place) (r : Focus) : Type 0 where
  pub says : (h : ℕ) → OnlyBecomes h w p unit → Becomes h w v p r

-- A redex whose cell t is of kind k.
pub record RedexAt (w : List ℕ) (p : Place) (t : Cell) (k : ℕ) : Type 0 where
  pub ready : FocusReady w (Redex p)
  pub cell : t ≡ cell_at w p.root
  pub kind : t.kind ≡ k

-- A field read of a merge.
pub record MergeAt (w : List ℕ) (p : Place) (t : Cell) : Type 0 where
  pub at : RedexAt w p t 25
  pub merged : (cell_at w t.a).kind ≡ 22

-- A value annotated with the type whose cell is y: one that is top_like and no intersection;
pub record TopAt (w : List ℕ) (p : Place) (t y : Cell) : Type 0 where
  pub at : RedexAt w p t 19
  pub type : y ≡ cell_at w t.b
  pub no_intersection : y.kind ≡ 4 → ⊥
  pub top_like : y.c ≡ 1

-- a function, with a function type that is not top_like.
pub record FunctionAt (w : List ℕ) (p : Place) (t v y : Cell) : Type 0 where
  pub at : RedexAt w p t 19
  pub value : v ≡ cell_at w t.a
  pub type : y ≡ cell_at w t.b
  pub function : v.kind ≡ 21
  pub arrow : y.kind ≡ 3
  pub proper : y.c ≡ 1 → ⊥

-- It has become what it becomes in place, to whatever range sums are held, or nothing has changed.
pub data InPlaceBy (w v : List ℕ) (p : Place) (r : Option Focus) : Type 0 where
  h_became : {x : Focus} → r ≡ Some x → BecomesAny w v p x → InPlaceBy w v p r
  h_elsewhere : r ≡ None → v ≡ w → InPlaceBy w v p r

-- What casting an annotated value in place gives.
pub record CastsInPlace (w v : List ℕ) (p : Place) (r : Option Focus) : Type 0 where
  pub says : InPlaceBy w v p r

-- What a redex became is encoded from cell m of s on, before end, all its numbers fitting: a value if the redex was an annotation.
pub record ContractumAt (s w : List ℕ) (p : Place) (kind m end : ℕ) (K : List Around) (h : Term) : Type 0 where
  pub proper : AllProper K
  pub waits : Waits w p.up p.start (suc p.root) (frames K)
  pub run : Run false s m (refers term_sort) (end - 1) (from_term h) end
  pub fits : WideFits h
  pub value : kind ≡ 19 → is_value h ≡ true

-- Room for it in the work buffer, m cells standing around it.
pub record Installing (s w : List ℕ) (p : Place) (kind m end : ℕ) : Type 0 where
  pub long : 32768 ≤ length s
  pub buffer : length w ≡ 65536
  pub around : m + suc p.root ≡ p.start + 8192
  pub small : end ≤ size_limit
  pub within : List Around
  pub term : Term
  pub contractum : ContractumAt s w p kind m end within term

-- The same, of an annotated function: a is the function's cell.
pub record Halving (s w : List ℕ) (p : Place) (kind m end a : ℕ) : Type 0 where
  pub installing : Installing s w p kind m end
  pub annotated : (cell_at s (end - 1)).kind ≡ 19
  pub inside : a ≡ (cell_at s (end - 1)).a
  pub function : (cell_at s a).kind ≡ 21

-- It has its place in the work buffer, in what was around the redex.
pub record Installs (s w v : List ℕ) (p : Place) (kind m end : ℕ) (r : Focus) : Type 0 where
  pub says : (K : List Around) (h : Term) → ContractumAt s w p kind m end K h → Standing v r (whole K h)

-- A redex, and a buffer for what it becomes;
pub record Contracting (s w : List ℕ) (p : Place) : Type 0 where
  pub long : 32768 ≤ length s
  pub ready : FocusReady w (Redex p)

-- its cell t of kind 19;
pub record ContractingAnno (s w : List ℕ) (p : Place) (t : Cell) : Type 0 where
  pub contracting : Contracting s w p
  pub cell : t ≡ cell_at w p.root
  pub kind : t.kind ≡ 19

-- a field read or a sum it is not.
pub record Emitting (s w : List ℕ) (p : Place) (t : Cell) : Type 0 where
  pub contracting : Contracting s w p
  pub cell : t ≡ cell_at w p.root
  pub no_read : t.kind ≡ 25 → ⊥
  pub no_sum : t.kind ≡ 26 → ⊥

-- The successor g of the whole term has its place, or there is no room for it, and the work buffer is as it was.
pub data ContractsTo (w v : List ℕ) (g : Term) (r : Option Focus) : Type 0 where
  c_to : {x : Focus} → size g ≤ size_limit → r ≡ Some x → Standing v x g → ContractsTo w v g r
  c_full : size_limit < size g → r ≡ None → v ≡ w → ContractsTo w v g r

-- The redex is contracted.
pub record Contracts (h : ℕ) (w v : List ℕ) (p : Place) (r : Option Focus) : Type 0 where
  pub says : (e g : Term) → Standing w (Redex p) e → Runnable e → next h e ≡ some g → ContractsTo w v g r

-- The same, to whatever range sums are held.
abbrev pub ContractsAny : List ℕ → List ℕ → Place → Option Focus → Type 0
ContractsAny w v p r = (h : ℕ) → Contracts h w v p r

-- The cell up waits for a tree that is held at child.
pub record Held (w : List ℕ) (up child : ℕ) (K : List Around) (t : Tree) : Type 0 where
  pub start : ℕ
  pub end : ℕ
  pub waits : Waits w up start end (frames K)
  pub low : start ≤ end
  pub holds : HeldField false w end (refers term_sort) child t

-- Some tree is held so.
pub record Unwinding (w : List ℕ) (up child : ℕ) : Type 0 where
  pub long : length w ≡ 65536
  pub around : List Around
  pub tree : Tree
  pub held : Held w up child around tree

-- The same, and there is a cell that waits.
pub record RestoreReady (w : List ℕ) (up child : ℕ) : Type 0 where
  pub unwinding : Unwinding w up child
  pub some : up ≡ 0 → ⊥

-- The cell up, whole again, is held, and r waits for it: the whole tree is t.
pub record RestoredTo (v : List ℕ) (up r : ℕ) (t : Tree) : Type 0 where
  pub around : List Around
  pub tree : Tree
  pub held : Held v r up around tree
  pub same : fill (frames around) tree ≡ t

-- The cell up is mended; what waits for it is a higher cell, or nothing.
pub record Restores (w v : List ℕ) (up child r : ℕ) : Type 0 where
  pub higher : (r ≡ 0) ⊎ ((up < r) × (r < 8192))
  pub says : (K : List Around) (t : Tree) → Held w up child K t → RestoredTo v up r (fill (frames K) t)

-- All waiting cells are whole again: the root r holds the whole tree.
pub record Unwinds (w v : List ℕ) (up child r : ℕ) : Type 0 where
  pub says : (K : List Around) (t : Tree) → Held w up child K t → HeldField false v 8192 (refers term_sort) r (fill (frames K) t)

-- The root r holds the whole term.
pub record Rebuilds (w v : List ℕ) (x : Focus) (r : ℕ) : Type 0 where
  pub says : (e : Term) → Standing w x e → HeldField false v 8192 (refers term_sort) r (from_term e)
