-- A run copied cell by cell is its tree encoded anew; down by field a a run begins. Over kind and field. Assumes nothing.
use Prim.Native.Nat.{ℕ, zero, suc, ◌+◌, ◌*◌, ◌-◌, ◌≤◌, ◌<◌}
use native.Mathlib.Decide.{dec_lt}
use native.Mathlib.Nat.{add-zero}
use native.Mathlib.Numerals.{add-one}
use native.Mathlib.Omega.{arith}
use mathlib.Core.Path.{◌≡◌, refl, sym, ap, ap₂, ◌∙◌}
use mathlib.Core.Bool.{Bool, true}
use mathlib.Core.Logic.{◌⊎◌, inl, inr}
use mathlib.Core.List.{List, [], ◌++◌, append_assoc, append-nil}
use mathlib.Core.Option.{Option as Maybe, none, some}
use lib.ListN.{length, length-append}
use lib.Seq.{sets, length-sets}
use Rattle.format.specs.declared.Version.TheVariants.{Two}
use Rattle.format.specs.Table.{Sort, Use, unused, plain, refers, Row, row_for, row_of, table}
use Rattle.format.specs.Cell.{Cell, cell_at, cell_bytes}
use Rattle.format.specs.Tree.{Tree, cells, refer, encode}
use Rattle.format.specs.Book.{size_limit}
use Rattle.format.proofs.Tests.{All, ◌also◌, view}
use Rattle.cells.specs.Coded.{CellFits, use_of, Refers}
use Rattle.cells.specs.declared.Cell.{Cell as Struct}
use Rattle.cells.specs.declared.Entry.{Entry}
use Rattle.cells.specs.declared.Use as Code
use Rattle.cells.specs.declared.Use.TheVariants.{Unused, Plain}
use Rattle.cells.specs.Moves.{FieldMoves}
use Rattle.cells.specs.Held.{label_by_lem}
use Rattle.emission.specs.Emits.{Space, Emits}
use Rattle.emission.specs.Runs.{Run, r_unused, r_plain, r_refers}
use Rattle.emission.specs.Copies.{renumber, Inside, moved_cell, CellOfRun, MoveReady, MovesCell, RunReady, EmitsRun, EndsAt, StartReady, StartsAt, EndReady, EmitsEnd}
use Rattle.std.specs.Prelude.{Option, Some, None}
use Rattle.emission.proofs.Compose.{behind}
use Rattle.cells.proofs.Rows.{Uses, uses}
use Rattle.emission.proofs.Emitting.{Read, read_fits}
use Rattle.emission.proofs.Runs.{grows, ends, whole, counts}

-- ---- a field

field_moves : (u : Use) (x i n m : ℕ) → n < 65536 → i - x + m < size_limit → Inside u x i n → FieldMoves x m u n
field_moves unused x i n m h r p = h
field_moves plain x i n m h r p = h
field_moves (refers o) x i n m h r p = (p.0, omega (arith, r, p.0, p.1))

renumber_fits : (u : Use) (x i n m : ℕ) → n < 65536 → i - x + m < size_limit → Inside u x i n → renumber u n x m < 65536
renumber_fits unused x i n m h r p = omega arith
renumber_fits plain x i n m h r p = h
renumber_fits (refers o) x i n m h r p = omega (arith, r, p.0, p.1)

-- ---- a cell: t is cell i as it was read, y its row as the code has it

pub record Moving (s d : List ℕ) (i x m : ℕ) (t : Cell) (y : Entry) : Type 0 where
  pub ready : MoveReady s d i x m
  pub read : Read s i t y

module _ {s d : List ℕ} {i x m : ℕ} {t : Cell} {y : Entry} (j : Moving s d i x m t y) where
  row_of_lem : {r : Row} → row_of (cell_at s i).kind ≡ some r → Uses y r
  row_of_lem {r} k = uses t.kind y r (j.read.row ∙ rw j.read.cell k)

  references : Inside (use_of y.a) x i t.a × Inside (use_of y.b) x i t.b × Inside (use_of y.c) x i t.c
  references =
      let q = j.ready.cell in
      let u = row_of_lem q.known in
      let c = j.read.cell in
      (rw (c, ← u.a) q.first, rw (c, ← u.b) q.second, rw (c, ← u.c) q.third)

  pub renumbers : FieldMoves x m (use_of y.a) t.a × FieldMoves x m (use_of y.b) t.b × FieldMoves x m (use_of y.c) t.c
  renumbers =
      let r = j.ready.room in
      let f = read_fits j.read in (
        field_moves (use_of y.a) x i t.a m f.0 r references.0,
        field_moves (use_of y.b) x i t.b m f.1 r references.1,
        field_moves (use_of y.c) x i t.c m f.2 r references.2,
      )

  pub moves_fit : {z : Struct} → z.a ≡ renumber (use_of y.a) t.a x m → z.b ≡ renumber (use_of y.b) t.b x m
      → z.c ≡ renumber (use_of y.c) t.c x m → CellFits z
  moves_fit ea eb ec =
      let r = j.ready.room in
      let f = read_fits j.read in
      record {
        a = rw ea (renumber_fits (use_of y.a) x i t.a m f.0 r references.0);
        b = rw eb (renumber_fits (use_of y.b) x i t.b m f.1 r references.1);
        c = rw ec (renumber_fits (use_of y.c) x i t.c m f.2 r references.2);
      }

  pub moves : {e : List ℕ} {l fa fb fc : ℕ} → l ≡ label_by_lem (use_of y.label) t.label → fa ≡ renumber (use_of y.a) t.a x m
      → fb ≡ renumber (use_of y.b) t.b x m → fc ≡ renumber (use_of y.c) t.c x m
      → e ≡ sets d (8 * (i - x + m)) (cell_bytes (record { kind = t.kind; label = l; a = fa; b = fb; c = fc })) → MovesCell s d e i x m
  moves el ea eb ec h =
      record { says = λ r k. let u = row_of_lem k in rw (← j.read.cell, u.label, u.a, u.b, u.c, ← el, ← ea, ← eb, ← ec) h }

-- ---- cells copied, as bytes

moved_by : Maybe Row → Cell → ℕ → ℕ → Cell
moved_by none t v w = t
moved_by (some r) t v w = moved_cell t r v w

-- cell i, of a run that goes from v to w
one : List ℕ → ℕ → ℕ → ℕ → List ℕ
one s v w i = cell_bytes (moved_by (row_of (cell_at s i).kind) (cell_at s i) v w)

-- the n cells from x on
pub copied : List ℕ → ℕ → ℕ → ℕ → ℕ → List ℕ
copied s v w x zero = []
copied s v w x (suc n) = copied s v w x n ++ one s v w (x + n)

module _ (s : List ℕ) (v w : ℕ) where
  length_copied : (x n : ℕ) → length (copied s v w x n) ≡ 8 * n
  unfolding copied one cell_bytes
  length_copied x zero = refl
  length_copied x (suc n) = length-append (copied s v w x n) (one s v w (x + n)) ∙ omega (arith, length_copied x n)

  copied_add : (x n k : ℕ) → copied s v w x (n + k) ≡ copied s v w x n ++ copied s v w (x + n) k
  unfolding copied
  copied_add x n zero = rw add-zero (sym (append-nil (copied s v w x n)))
  copied_add x n (suc k) =
      let e : x + (n + k) ≡ x + n + k = omega arith in
      let f : n + suc k ≡ suc (n + k) = omega arith in
      rw f
      (ap₂ (λ a b. a ++ one s v w b) (copied_add x n k) e ∙ append_assoc (copied s v w x n) (copied s v w (x + n) k) (one s v w (x + n + k)))

  -- three parts and the cell behind them
  joined : (x a b c : ℕ) → copied s v w x (suc (a + b + c))
      ≡ copied s v w x a ++ (copied s v w (x + a) b ++ (copied s v w (x + a + b) c ++ one s v w (x + a + b + c)))
  unfolding copied
  joined x a b c =
      let e : x + (a + b + c) ≡ x + a + b + c = omega arith in
      let f : x + (a + b) ≡ x + a + b = omega arith in
      rw (copied_add x (a + b) c, copied_add x a b, e, f, append_assoc, append_assoc) refl

  -- what stands in a field
  renumbered : (g : ℕ) {q : Bool} {x n e : ℕ} {u : Use} {t : Tree} → x + w ≡ g + v → v ≤ x → Run q s x u n t e → renumber u n v w ≡ refer g t
  unfolding refer
  renumbered j k l r_unused = refl
  renumbered j k l r_plain = refl
  renumbered j k l (r_refers p o m f g h z _) = omega (arith, counts f, counts g, counts h)

  -- a run from x on, copied from g on
  copies : {q : Bool} (g : ℕ) {x n e : ℕ} {u : Use} {t : Tree} → x + w ≡ g + v → v ≤ x → Run q s x u n t e → copied s v w x (cells t) ≡ encode g t
  unfolding copied one moved_by cells encode
  copies n k l r_unused = refl
  copies n k l r_plain = refl
  copies n {x = x} k l (r_refers {y = y} {z = z} {f = f} {g = g} {h = h} p o m ra rb rc _ _) =
      let ny = counts ra in
      let nz = counts rb in
      let ni = counts rc in
      let ey : y + w ≡ n + cells f + v = omega arith in
      let ez : z + w ≡ n + cells f + cells g + v = omega arith in
      let fa = renumbered n k l ra in
      let fb = renumbered (n + cells f) ey (omega arith) rb in
      let fc = renumbered (n + cells f + cells g) ez (omega arith) rc in
      let pa = copies n k l ra in
      let pb = copies (n + cells f) ey (omega arith) rb in
      let pc = copies (n + cells f + cells g) ez (omega arith) rc in
      let size : 1 + (cells f + cells g + cells h) ≡ suc (cells f + cells g + cells h) = omega arith in
      rw size (joined x (cells f) (cells g) (cells h) ∙ rw (← ny, ← nz, ← ni, pa, pb, pc, p.is, o, fa, fb, fc, ← m) refl)

-- ---- the cells of a run

inside : {q : Bool} {s : List ℕ} {x n e v i : ℕ} {u : Use} {t : Tree} → v ≤ x → e ≤ i → Run q s x u n t e → Inside u v i n
inside a b r_unused = Prim.tt
inside a b r_plain = Prim.tt
inside a b (r_refers p k m f g h z _) = (omega (arith, a, grows f, grows g, grows h), omega (arith, b, z))

of_run : {q : Bool} {s : List ℕ} {x n e v : ℕ} {u : Use} {t : Tree} → v ≤ x → Run q s x u n t e → (i : ℕ) → x ≤ i → i < e → CellOfRun s v i
of_run a r_unused i j l = absurd (omega (arith, j, l))
of_run a r_plain i j l = absurd (omega (arith, j, l))
of_run {s = s} {v = v} a (r_refers {y = y} {z = z} {i = w} {r = r} p k m f g h e d) i j l =
    elim (dec_lt i y) [
      | yes o ↦ of_run a f i j o
      | no o ↦
          elim (dec_lt i z) [
            | yes c ↦ of_run (omega (arith, a, grows f)) g i (omega (arith, o)) c
            | no c ↦
                elim (dec_lt i w) [
                  | yes n ↦ of_run (omega (arith, a, grows f, grows g)) h i (omega (arith, c)) n
                  | no n ↦ let same : i ≡ w = omega (arith, n, l, e) in rw same root
                ]
          ]
    ]
  where
    root : CellOfRun s v w
    root =
        record {
          within = p.within;
          after = omega (arith, a, grows f, grows g, grows h);
          row = r;
          known = rw p.is k;
          first = rw p.is (inside a (omega (arith, grows g, grows h)) f);
          second = rw p.is (inside (omega (arith, a, grows f)) (omega (arith, grows h)) g);
          third = rw p.is (inside (omega (arith, a, grows f, grows g)) (omega arith) h);
        }

-- ---- the loop of `emit_run`

-- x is not past end
pub forward : {s d : List ℕ} {x end m : ℕ} → RunReady s d x end m → x ≤ end
forward p = grows p.run

pub run_full : {s d : List ℕ} {x end m : ℕ} → RunReady s d x end m → 4095 - m < end - x → EmitsRun s d d x end m None
run_full p h = record { says = λ q o n t r. record { fits = λ f. absurd (omega (arith, h, f, counts r, p.space.used)); full = λ f. refl } }

-- There is room for the run, and its cells before i stand from m on.
pub record Copying (s d e : List ℕ) (x end m i : ℕ) : Type 0 where
  pub ready : RunReady s d x end m
  pub room : end - x ≤ 4095 - m
  pub within : i ≤ end
  pub count : ℕ
  pub at : i ≡ x + count
  pub bytes : e ≡ sets d (8 * m) (copied s x m x count)

pub copying_none : {s d : List ℕ} {x end m : ℕ} → RunReady s d x end m → end - x ≤ 4095 - m → Copying s d d x end m x
unfolding copied
copying_none p r = record { ready = p; room = r; within = forward p; count = 0; at = omega arith; bytes = refl }

module _ {s d e : List ℕ} {x end m i : ℕ} (c : Copying s d e x end m i) where
  pub copying_long : length e ≡ length d
  copying_long = ap length c.bytes ∙ length-sets d (8 * m) (copied s x m x c.count)

  pub cell_ready : i < end → MoveReady s e i x m
  cell_ready l =
      record {
        long = omega (arith, copying_long, c.ready.space.long);
        room = omega (arith, c.at, c.room, l, c.ready.space.used);
        cell = of_run (omega arith) c.ready.run i (omega (arith, c.at)) l;
      }

  pub copying_more : {f : List ℕ} → i < end → MovesCell s e f i x m → Copying s d f x end m (i + 1)
  unfolding copied one moved_by
  copying_more {f} l q =
      let o = (cell_ready l).cell in
      let w = q.says o.row o.known in
      let j : i - x + m ≡ m + c.count = omega (arith, c.at) in
      let b : f ≡ sets e (8 * (m + c.count)) (one s x m i) = rw (← j, o.known) w in
      let n = length_copied s x m x c.count in
      record {
        ready = c.ready;
        room = c.room;
        within = omega (arith, l);
        count = suc c.count;
        at = omega (arith, c.at);
        bytes = b ∙ rw c.at (behind (copied s x m x c.count) (one s x m (x + c.count)) d (8 * m) c.bytes (omega (arith, n)));
      }

  pub run_copied : end ≤ i → EmitsRun s d e x end m (Some (m + (end - x)))
  run_copied u =
      record {
        says = λ q o n t r.
            let k = counts r in
            let g : c.count ≡ cells t = omega (arith, k, u, c.within, c.at) in
            let h : end - x ≡ cells t = omega (arith, k) in
            record {
              fits = λ f. (ap (λ a. Some (m + a)) h, c.bytes ∙ rw (g, copies s x m m (omega arith) (omega arith) r) refl);
              full = λ f. absurd (omega (arith, f, h, c.room, c.ready.space.used));
            };
      }

-- ---- where a run begins

abbrev Bare : Use → Type 0
Bare unused = Unit {0}
Bare plain = Unit {0}
Bare (refers o) = ⊥

-- where field a is no reference, no field is
bare_row : (k : ℕ) (r : Row) → row_of k ≡ some r → Bare r.a → Bare r.b × Bare r.c
unfolding row_for table
bare_row k r e = (view (λ (q : Row). Bare q.a → Bare q.b × Bare q.c) (table Two) every k r e).1
  where
    none : Unit {0} → Unit {0} × Unit {0}
    none h = (Prim.tt, Prim.tt)

    every : All (λ (q : Row). Bare q.a → Bare q.b × Bare q.c) (table Two)
    every =
        none
        also none
        also (λ h. absurd h)
        also (λ h. absurd h)
        also (λ h. absurd h)
        also none
        also none
        also none
        also (λ h. absurd h)
        also (λ h. absurd h)
        also (λ h. absurd h)
        also (λ h. absurd h)
        also (λ h. absurd h)
        also (λ h. absurd h)
        also (λ h. absurd h)
        also (λ h. absurd h)
        also (λ h. absurd h)
        also Prim.tt

bare_use : (u : Code.Use) → (u ≡ Unused) ⊎ (u ≡ Plain) → Bare (use_of u)
bare_use u (inl e) = rw e Prim.tt
bare_use u (inr e) = rw e Prim.tt

bare_run : {q : Bool} {s : List ℕ} {x n e : ℕ} {u : Use} {t : Tree} → Bare u → Run q s x u n t e → e ≡ x
bare_run b r_unused = refl
bare_run b r_plain = refl
bare_run b (r_refers p k m f g h z _) = absurd b

ends_at : {q : Bool} {s : List ℕ} {x n e : ℕ} {o : Sort} {t : Tree} → Run q s x (refers o) n t e → EndsAt q s x n × (e ≡ suc n)
ends_at {o = o} {t = t} r = (record { sort = o; tree = t; run = whole r }, ends r)

referred : {q : Bool} {s : List ℕ} {x n e : ℕ} {t : Tree} (u : Code.Use) → Refers u → Run q s x (use_of u) n t e → EndsAt q s x n × (e ≡ suc n)
referred u l r = ends_at (rw l.1 at r)

-- y is the row of cell i as the code has it, t the cell as it was read
module _ {q : Bool} {s : List ℕ} {x i : ℕ} (r : EndsAt q s x i) where
  pub ends_within : 8 * i + 8 ≤ length s
  ends_within = go r.run
    where
      go : {e : ℕ} {o : Sort} {f : Tree} → Run q s x (refers o) i f e → 8 * i + 8 ≤ length s
      go (r_refers p k m f g h z _) = p.within

  module _ {t : Cell} {y : Entry} (j : Read s i t y) where
    pub starts_here : (y.a ≡ Unused) ⊎ (y.a ≡ Plain) → i ≡ x
    starts_here l = go r.run
      where
        go : {e : ℕ} {o : Sort} {f : Tree} → Run q s x (refers o) i f e → i ≡ x
        go (r_refers {k = k} {r = v} p o m f g h z _) =
            let is : t ≡ _ = j.cell ∙ p.is in
            let u = uses k y v (rw is at j.row ∙ o) in
            let b : Bare v.a = rw u.a (bare_use y.a l) in
            let n = bare_row k v o b in
            omega (arith, bare_run b f, bare_run n.0 g, bare_run n.1 h)

    pub down : Refers y.a → EndsAt q s x t.a × (t.a < i)
    down l = go r.run
      where
        go : {e : ℕ} {o : Sort} {f : Tree} → Run q s x (refers o) i f e → EndsAt q s x t.a × (t.a < i)
        go (r_refers {k = k} {a = a} {r = v} p o m f g h z _) =
            let is : t ≡ _ = j.cell ∙ p.is in
            let u = uses k y v (rw is at j.row ∙ o) in
            let n = referred y.a l (rw u.a at f) in
            rw is (n.0, omega (arith, n.1, grows g, grows h))

-- ---- the loop of `start_of`

-- Where a run ends at at, one that begins there too ends at i.
pub record Follows (s : List ℕ) (at i : ℕ) : Type 0 where
  pub says : (q : Bool) (x : ℕ) → EndsAt q s x at → EndsAt q s x i

pub follows_none : (s : List ℕ) (at : ℕ) → Follows s at at
follows_none s at = record { says = λ q x r. r }

-- t is cell i as it was read, y its row
pub record Following (s : List ℕ) (at i : ℕ) (t : Cell) (y : Entry) : Type 0 where
  pub ready : StartReady s at
  pub follows : Follows s at i
  pub read : Read s i t y

own_end : {s : List ℕ} {at i : ℕ} (p : StartReady s at) → Follows s at i → EndsAt p.marked s p.start i
own_end p f = f.says p.marked p.start p.ends

pub follows_within : {s : List ℕ} {at i : ℕ} → StartReady s at → Follows s at i → 8 * i + 8 ≤ length s
follows_within p f = ends_within (own_end p f)

module _ {s : List ℕ} {at i : ℕ} {t : Cell} {y : Entry} (j : Following s at i t y) where
  pub started : (y.a ≡ Unused) ⊎ (y.a ≡ Plain) → StartsAt s at i
  started l = record { says = λ q x r. starts_here (j.follows.says q x r) j.read l }

  pub goes_down : Refers y.a → Follows s at t.a × (t.a < i)
  goes_down l = (record { says = λ q x r. (down (j.follows.says q x r) j.read l).0 }, (down (own_end j.ready j.follows) j.read l).1)

-- ---- `emit_run_to`: the run begins at b

module _ {s d : List ℕ} {at m b : ℕ} (p : EndReady s d at m) (q : StartsAt s at b) where
  pub last_within : 8 * at + 8 ≤ length s
  last_within = ends_within p.from.ends

  pub end_ready : RunReady s d b (at + 1) m
  end_ready =
      let r = p.from.ends in
      let e : b ≡ p.from.start = q.says p.from.marked p.from.start r in
      record {
        space = p.space;
        marked = p.from.marked;
        sort = r.sort;
        last = at;
        tree = r.tree;
        run = rw (e, add-one) r.run;
      }

  pub end_emits : {e : List ℕ} {l : Option ℕ} → EmitsRun s d e b (at + 1) m l → EmitsEnd s d e at m l
  end_emits w =
      record {
        says = λ k o x t r.
            let e : b ≡ x = q.says k x (record { sort = o; tree = t; run = r }) in
            w.says k o at t (rw (e, add-one) r);
      }

-- its callers: a type or a term that stands as a run
module _ {s : List ℕ} {x i : ℕ} {o : Sort} {t : Tree} (r : Run true s x (refers o) i t (suc i)) where
  ends_run : EndsAt true s x i
  ends_run = record { sort = o; tree = t; run = r }

  pub start_ready : StartReady s i
  start_ready = record { marked = true; start = x; ends = ends_run }

  pub start_is : {b : ℕ} → StartsAt s i b → b ≡ x
  start_is n = n.says true x ends_run

  pub end_within : 8 * i + 8 ≤ length s
  end_within = ends_within ends_run

  pub run_ready : {d : List ℕ} {m : ℕ} → Space d m → EndReady s d i m
  run_ready p = record { space = p; from = start_ready }

  pub run_emits : {d e : List ℕ} {m : ℕ} {l : Option ℕ} → EmitsEnd s d e i m l → Emits d e m l t
  run_emits w = w.says true o x t r
