-- A body with a source substituted, by the cell of the body and the row of its kind: what each call needs, and what it leaves. Over kind and
-- field; `substitute_law` has one line a kind. Assumes nothing.
use Prim.Native.Nat.{ℕ, ◌+◌, ◌*◌, ◌≤◌, ◌<◌}
use native.Mathlib.Omega.{arith}
use mathlib.Core.Path.{◌≡◌, refl, sym, ap, ◌∙◌}
use mathlib.Core.Bool.{true}
use mathlib.Core.Logic.{◌⊎◌, inl, inr}
use mathlib.Core.Option.{Option as Maybe, none, some}
use mathlib.Core.List.{List}
use borrow.Author.Tests.{eq-eqb, ne_eqb}
use Rattle.calculus.specs.Syntax.{Ty, Term, var, lit, unit, anno, app, lam, merge, fix, rcd, proj, sum, choice, substitute}
use Rattle.format.specs.declared.Version.TheVariants.{Two}
use Rattle.format.specs.Table.{Sort, type_sort, term_sort, Use, unused, plain, refers, Row, table, row_in, row_for, row_of, inside}
use Rattle.format.specs.Cell.{IsBytes, Cell, cell_at}
use Rattle.format.specs.Tree.{Tree, raw, node, kind_in}
use Rattle.format.specs.Terms.{from_type, from_term_in, from_term, to_term, WideFits}
use Rattle.format.specs.Book.{size_limit}
use Rattle.format.proofs.Tests.{Decodes}
use Rattle.format.proofs.Trees.{type_positive, term_positive, term_back}
use Rattle.cells.specs.Coded.{use_of}
use Rattle.cells.specs.declared.Entry.{Entry}
use Rattle.cells.specs.declared.Use as Code
use Rattle.cells.specs.declared.Use.TheVariants.{Unused, Plain, ToType, ToTerm}
use Rattle.cells.proofs.Held.{var_at, kind_of}
use Rattle.cells.proofs.Back.{reference_decodes}
use Rattle.cells.proofs.Inside.{inside_most}
use Rattle.emission.specs.Emits.{Space, Emits, LastReady, Finishes, RowReady}
use Rattle.emission.specs.Runs.{Run, r_unused, r_plain, r_refers, RunsType, RunsTerm}
use Rattle.emission.specs.Copies.{EndReady, EmitsEnd}
use Rattle.std.specs.Prelude.{Option, Some}
use Rattle.emission.proofs.Compose.{Stands, s_unused, s_plain, s_refers, emits_raw, emits_leaf}
use Rattle.emission.proofs.Chain.{Each, Chain, Third, FieldsOf, row_chain, row_ready}
use Rattle.emission.proofs.Emitting.{fields_fit, Read, read_fits, by_row}
use Rattle.emission.proofs.Runs.{grows, held, below, holds_term}
use Rattle.emission.proofs.RunParts.{runs_type, runs_term}
use Rattle.emission.proofs.Copies.{run_ready, run_emits}
use Rattle.reduction.specs.Steps.{Substitutes, SourceReady, EmitsSource, SubstitutedField, p_unused, p_plain, p_type, p_term}
use Rattle.reduction.specs.Steps.{FieldSubstituteReady, EmitsSubstitutedField, SubstituteReady, VariableReady, EmitsSubstituted}
use Rattle.reduction.specs.declared.Source.{Source}

-- ---- a field of a body

pub substituted_stands : {s : List ℕ} {i k n : ℕ} {x : Term} {u : Use} {f : Tree} → SubstitutedField s i k x u n f → Stands u n f
substituted_stands p_unused = s_unused
substituted_stands p_plain = s_plain
substituted_stands (p_type {A = A} l h) = s_refers (type_positive A)
substituted_stands {k = k} {x = x} (p_term {e = e} l h) = s_refers (term_positive Two (substitute k x e))

-- no cell
unused_emits : {s d : List ℕ} {i k m n : ℕ} {x : Term} {f : Tree} → m ≤ size_limit → SubstitutedField s i k x unused n f → Emits d d m (Some m) f
unused_emits {d = d} {m = m} b p_unused = emits_raw d m 0 b

plain_emits : {s d : List ℕ} {i k m n : ℕ} {x : Term} {f : Tree} → m ≤ size_limit → SubstitutedField s i k x plain n f → Emits d d m (Some m) f
plain_emits {d = d} {m = m} {n = n} b p_plain = emits_raw d m n b

-- a type
record TypeSubstituted (s : List ℕ) (n : ℕ) (f : Tree) : Type 0 where
  type : Ty
  runs : RunsType s n type
  is : f ≡ from_type type

type_substituted : {s : List ℕ} {i k n : ℕ} {x : Term} {f : Tree} → SubstitutedField s i k x (refers type_sort) n f → TypeSubstituted s n f
type_substituted (p_type {A = A} v h) = record { type = A; runs = h; is = refl }

-- a term
record TermSubstituted (s : List ℕ) (i k n : ℕ) (x : Term) (f : Tree) : Type 0 where
  term : Term
  lower : n < i
  holds : RunsTerm s n term
  is : f ≡ from_term (substitute k x term)

term_substituted : {s : List ℕ} {i k n : ℕ} {x : Term} {f : Tree} → SubstitutedField s i k x (refers term_sort) n f → TermSubstituted s i k n x f
term_substituted (p_term {e = e} v h) = record { term = e; lower = v; holds = h; is = refl }

-- Measures: a field that is no term costs no call.
abbrev pub substitute_measure : Code.Use → ℕ → ℕ
substitute_measure Unused n = 0
substitute_measure Plain n = 0
substitute_measure ToType n = 0
substitute_measure ToTerm n = 2 * n + 2

substitute_less : {s : List ℕ} {i k n t : ℕ} {x : Term} {f : Tree} (u : Code.Use) → SubstitutedField s i k x (use_of u) n f → 2 * i + 1 ≡ t → substitute_measure u n < t
substitute_less Unused h e = omega arith
substitute_less Plain h e = omega arith
substitute_less ToType h e = omega arith
substitute_less ToTerm (p_term l h) e = omega arith

pub body_less : {u : Code.Use} (n : ℕ) {t : ℕ} → u ≡ ToTerm → substitute_measure u n ≡ t → 2 * n + 1 < t
body_less n l e = let f = rw l at e in omega arith

-- ---- the calls of `substitute_field`

module _ {s d : List ℕ} {u : Code.Use} {n k m : ℕ} {p : Source} where
  pub nothing_emits : (u ≡ Unused) ⊎ (u ≡ Plain) → FieldSubstituteReady s d u n k m p → EmitsSubstitutedField s d d u n k m p (Some m)
  nothing_emits l r = record { says = λ i x f v h. go l h }
    where
      go : {i : ℕ} {x : Term} {f : Tree} → (u ≡ Unused) ⊎ (u ≡ Plain) → SubstitutedField s i k x (use_of u) n f → Emits d d m (Some m) f
      go (inl e) h = unused_emits r.source.space.used (rw e at h)
      go (inr e) h = plain_emits r.source.space.used (rw e at h)

  pub copy_ready : u ≡ ToType → FieldSubstituteReady s d u n k m p → EndReady s d n m
  copy_ready l r = run_ready (type_substituted (rw l at r.holds)).runs.run r.source.space

  pub copy_emits : {e : List ℕ} {r : Option ℕ} → u ≡ ToType → EmitsEnd s d e n m r → EmitsSubstitutedField s d e u n k m p r
  copy_emits l q = record { says = λ i x f v h. let t = type_substituted (rw l at h) in rw t.is (run_emits t.runs.run q) }

  pub body_ready : u ≡ ToTerm → FieldSubstituteReady s d u n k m p → SubstituteReady s d n k m p
  body_ready l r =
      let t = term_substituted (rw l at r.holds) in
      record { source = r.source; small = omega (arith, t.lower, r.small); body = t.term; holds = t.holds }

  pub body_emits : {e : List ℕ} {r : Option ℕ} → u ≡ ToTerm → EmitsSubstituted s d e n k m p r → EmitsSubstitutedField s d e u n k m p r
  body_emits l q = record { says = λ i x f v h. let t = term_substituted (rw l at h) in rw t.is (q.says t.term x t.holds v) }

-- ---- a variable

-- t is its cell
pub record AtVariable (s d : List ℕ) (i k m : ℕ) (p : Source) (t : Cell) : Type 0 where
  pub ready : VariableReady s d i k m p
  pub cell : t ≡ cell_at s i
  pub bytes : IsBytes s

pub variable_at : {s d : List ℕ} {i k m : ℕ} {p : Source} {t : Cell} → t ≡ cell_at s i → t.kind ≡ 16 → SubstituteReady s d i k m p → VariableReady s d i k m p
variable_at c v r = record { ready = r; kind = rw (← c) v }

module _ {s d : List ℕ} {i k m : ℕ} {p : Source} {t : Cell} (j : AtVariable s d i k m p t) where
  variable : {e : Term} → RunsTerm s i e → e ≡ var t.a
  variable h = rw j.cell (var_at (holds_term h) j.ready.kind)

  pub variable_ready : LastReady d (record { kind = 16; label = 0; a = t.a; b = 0; c = 0 })
  variable_ready =
      record {
        long = j.ready.ready.source.space.long;
        fits = record { a = (fields_fit s i j.bytes j.cell).0; b = omega arith; c = omega arith };
      }

  pub source_substituted : {e : List ℕ} {r : Option ℕ} → t.a ≡ k → EmitsSource s d e m p r → EmitsSubstituted s d e i k m p r
  unfolding substitute
  source_substituted q w = record { says = λ e x h b. rw (variable h, eq-eqb t.a k q) (w.says x b) }

  pub variable_kept : {e : List ℕ} {r : Option ℕ} → (t.a ≡ k → ⊥) → Finishes d e m (record { kind = 16; label = 0; a = t.a; b = 0; c = 0 }) r
      → EmitsSubstituted s d e i k m p r
  unfolding substitute from_term_in
  variable_kept q w = record { says = λ e x h b. rw (variable h, ne_eqb t.a k q) (emits_leaf j.ready.ready.source.space.used w) }

-- ---- a term other than a variable, with x substituted for the variable that skips k binders: by the row of its kind

-- the tree of a field, by its use
abbrev substitute_tree : ℕ → Term → Use → Tree → Tree
substitute_tree k x unused f = f
substitute_tree k x plain f = f
substitute_tree k x (refers type_sort) f = f
substitute_tree k x (refers term_sort) f = from_term (substitute k x (to_term f))

-- the tree of the term, by its row: k binders and those of its kind are over field a
abbrev substitute_node : ℕ → Term → Maybe Row → Tree → Tree
substitute_node k x none f = f
substitute_node k x (some r) (raw n) = raw n
substitute_node k x (some r) (node kind l a b c) = node kind l (substitute_tree (inside kind k) x r.a a) (substitute_tree k x r.b b) (substitute_tree k x r.c c)

substitute_law : (k : ℕ) (x e : Term) → WideFits e → (kind_of term_sort e ≡ 16 → ⊥) → from_term (substitute k x e) ≡ substitute_node k x (row_of (kind_of term_sort e)) (from_term e)
unfolding from_term_in kind_in substitute table row_in row_for
substitute_law k x (var n) f h = absurd (h refl)
substitute_law k x (lit z) f h = refl
substitute_law k x unit f h = refl
substitute_law k x (anno e A) f h = cc (term_back Two e f.0)
substitute_law k x (app e g) f h = cc (term_back Two e f.0, term_back Two g f.1)
substitute_law k x (lam e A B) f h = cc (term_back Two e f.0)
substitute_law k x (merge e g) f h = cc (term_back Two e f.0, term_back Two g f.1)
substitute_law k x (fix e A) f h = cc (term_back Two e f.0)
substitute_law k x (rcd l e) f h = cc (term_back Two e f.1)
substitute_law k x (proj l e) f h = cc (term_back Two e f.1)
substitute_law k x (sum e g) f h = cc (term_back Two e f.0, term_back Two g f.1)
substitute_law k x (choice e g d) f h = cc (term_back Two e f.0, term_back Two g f.1, term_back Two d f.2)

-- a field that refers to a run is the tree of a type or a term
run_fields : {s : List ℕ} {v n z : ℕ} {o : Sort} {f : Tree} → IsBytes s → Run true s v (refers o) n f z → Decodes Two o f
run_fields {z = z} b r = reference_decodes b (held {m = z} (omega arith) r)

-- ---- the cell that `emit_substituted` reads

-- t is cell i, y its row, g how many binders the variable skips in field a
pub record Started (s d : List ℕ) (i k m : ℕ) (p : Source) (t : Cell) (y : Entry) (g : ℕ) : Type 0 where
  pub ready : SubstituteReady s d i k m p
  pub read : Read s i t y
  pub inner : t.kind ≡ 16 → ⊥
  pub skips : g ≡ inside t.kind k

-- a field of cell i, with so many binders skipped and a term substituted
abbrev pub FieldOf : List ℕ → ℕ → ℕ × Term → Use → ℕ → Tree → Type 0
FieldOf s i w u n f = SubstitutedField s i w.0 w.1 u n f

-- a body that it holds, with x substituted, by the fields
module _ {s d : List ℕ} {i k m : ℕ} {p : Source} {t : Cell} {y : Entry} {g : ℕ} (j : Started s d i k m p t y g) (x : Term) where
  substitute_field_lem : {l n v z : ℕ} {f : Tree} (u : Use) → Run true s v u n f z → z ≤ i → SubstitutedField s i l x u n (substitute_tree l x u f)
  substitute_field_lem unused r_unused h = p_unused
  substitute_field_lem plain r_plain h = p_plain
  substitute_field_lem (refers type_sort) r h = let o = run_fields j.read.bytes r in rw (← o.1) (p_type (below r h) (runs_type (rw (← o.1) at r)))
  substitute_field_lem (refers term_sort) r h =
      let o = run_fields j.read.bytes r in
      rw (← o.1, term_back Two o.0 o.2) (p_term (below r h) (runs_term o.2 (rw (← o.1) at r)))

  by_run : (e : Term) {f : Tree} {v z : ℕ} → WideFits e → from_term e ≡ f → Run true s v (refers term_sort) i f z
      → FieldsOf (FieldOf s i) t y (g, x) (k, x) (from_term (substitute k x e))
  unfolding kind_in
  by_run e w q (r_refers {r = r} c v n a b o z u) =
      let d : t ≡ _ = j.read.cell ∙ c.is in
      let law = substitute_law k x e w (λ h. j.inner (rw d (sym (ap kind_in q) ∙ h))) ∙ ap (λ f. substitute_node k x (row_of (kind_in f)) f) q in
      by_row (FieldOf s i) (g, x) (k, x) j.read c v (rw (v, n) at law)
      (rw (j.skips, d) (substitute_field_lem r.a a (omega (arith, grows b, grows o)))) (substitute_field_lem r.b b (grows o)) (substitute_field_lem r.c o (omega arith))

  pub fields_of : (e : Term) → RunsTerm s i e → FieldsOf (FieldOf s i) t y (g, x) (k, x) (from_term (substitute k x e))
  fields_of e r = by_run e r.fits refl r.run

-- ---- the fields emitted one after the other

-- all that the cell i may be said to hold, and what is substituted
abbrev pub Bodies : List ℕ → ℕ → Source → Type 0
Bodies s i p = (e : Term) × (x : Term) × RunsTerm s i e × Substitutes s p x

pub bodies : {s d o : List ℕ} {i k m : ℕ} {p : Source} {r : Option ℕ} → Each {W = Bodies s i p} (λ w. from_term (substitute k w.1 w.0)) d o m r
    → EmitsSubstituted s d o i k m p r
bodies q = record { says = λ e x h v. q (e, x, h, v) }

module _ {s d : List ℕ} {i k m : ℕ} {p : Source} {t : Cell} {y : Entry} {g : ℕ} (j : Started s d i k m p t y g) where
  own : FieldsOf (FieldOf s i) t y (g, j.ready.source.substituted) (k, j.ready.source.substituted) (from_term (substitute k j.ready.source.substituted j.ready.body))
  own = fields_of j j.ready.source.substituted j.ready.body j.ready.holds

  pub less : {n : ℕ} → 2 * i + 1 ≡ n → (substitute_measure y.a t.a < n) × (substitute_measure y.b t.b < n) × (substitute_measure y.c t.c < n)
  less e = (substitute_less y.a own.holds_a e, substitute_less y.b own.holds_b e, substitute_less y.c own.holds_c e)

  abbrev pub own_body : Bodies s i p
  own_body = (j.ready.body, j.ready.source.substituted, j.ready.holds, j.ready.source.substitutes)

  abbrev pub substitute_chain : Chain (Bodies s i p) (λ w. from_term (substitute k w.1 w.0)) d m
  substitute_chain = row_chain (λ v u n x h. substituted_stands h) (read_fits j.read) j.ready.source.space own_body (λ w. fields_of j w.1 w.0 w.2)

  pub substitute_ready : {f a h : List ℕ} {x v w : ℕ} → Third substitute_chain f x a v h w → RowReady h t y x v w
  substitute_ready = row_ready (λ v u n x h. substituted_stands h) (read_fits j.read) j.ready.source.space own_body (λ w. fields_of j w.1 w.0 w.2)

  -- what each call needs, and says
  pub ready_a : FieldSubstituteReady s d y.a t.a g m p
  ready_a =
      record {
        source = j.ready.source;
        cell = i;
        small = omega (arith, j.ready.small, j.skips, inside_most t.kind k);
        tree = own.a;
        holds = own.holds_a;
      }

  pub each_a : {e : List ℕ} {r : Option ℕ} → EmitsSubstitutedField s d e y.a t.a g m p r → Each substitute_chain.a.tree d e m r
  each_a q w = q.says i w.1 _ w.3 (fields_of j w.1 w.0 w.2).holds_a

  module _ {f : List ℕ} {n : ℕ} where
    -- the source, at the next free cell
    abbrev source_at : Space f n → SourceReady s f n p
    source_at h = record { space = h; substituted = j.ready.source.substituted; substitutes = j.ready.source.substitutes }

    pub ready_b : Space f n → FieldSubstituteReady s f y.b t.b k n p
    ready_b h = record { source = source_at h; cell = i; small = omega (arith, j.ready.small); tree = own.b; holds = own.holds_b }

    pub each_b : {e : List ℕ} {r : Option ℕ} → EmitsSubstitutedField s f e y.b t.b k n p r → Each substitute_chain.b.tree f e n r
    each_b q w = q.says i w.1 _ w.3 (fields_of j w.1 w.0 w.2).holds_b

    pub ready_c : Space f n → FieldSubstituteReady s f y.c t.c k n p
    ready_c h = record { source = source_at h; cell = i; small = omega (arith, j.ready.small); tree = own.c; holds = own.holds_c }

    pub each_c : {e : List ℕ} {r : Option ℕ} → EmitsSubstitutedField s f e y.c t.c k n p r → Each substitute_chain.c.tree f e n r
    each_c q w = q.says i w.1 _ w.3 (fields_of j w.1 w.0 w.2).holds_c
