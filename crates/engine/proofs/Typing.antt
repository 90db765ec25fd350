-- From a loaded book to what typing finds of its root, and from there to what both calls answer. Assumes nothing.
use Prim.Native.Nat.{ℕ, suc, ◌*◌, ◌≤◌}
use mathlib.Core.Path.{◌≡◌, refl, sym, ◌∙◌, ap, subst}
use mathlib.Core.List.{List, []}
use native.Mathlib.Omega.{arith}
use lib.ListN.{length, take, replicate, length-replicate}
use Rattle.cells.specs.declared.Use.TheVariants.{ToType}
use Rattle.std.specs.Prelude as Std
use Rattle.std.specs.Prelude.{Ok, Err}
use Rattle.calculus.specs.Syntax.{Ty, size}
use Rattle.calculus.specs.Infer as Infer
use Rattle.calculus.specs.Infer.{infer}
use Rattle.calculus.proofs.Inference.{infer_says}
use Rattle.calculus.proofs.Typing.{typed_size}
use Rattle.format.specs.declared.Version.TheVariants.{Two}
use Rattle.format.specs.Cell.{IsBytes, Cell}
use Rattle.format.specs.Table.{term_sort}
use Rattle.format.specs.Tree.{cells, tree_at}
use Rattle.format.specs.Terms.{to_term, from_type, from_term}
use Rattle.format.specs.Widths.{wide_cells}
use Rattle.format.proofs.Trees.{type_cells, type_positive, term_back}
use Rattle.format.proofs.Widths.{widened, term_widened}
use Rattle.format.proofs.Restamping.{fits_wide, wide_tree, wide_sort, leads_wide}
use Rattle.format.specs.Book.{count, WellFormed, version_of, root_of, leads_to, follow, root_term, size_limit}
use Rattle.format.proofs.Paths.{follow_alike}
use Rattle.format.proofs.Tests.{root_term_tree, root_term_small, root_term_fits}
use Rattle.answers.specs.Answer.{Result, refused, accepted, reason_number}
use Rattle.answers.specs.Definition.{after_typing, refusal_result, shown, reported}
use Rattle.answers.specs.Cases.{refusal_answer, run_answer}
use Rattle.answers.specs.declared.Refusal.{Refusal}
use Rattle.cells.specs.Held.{HoldsType, HoldsTerm, h_empty}
use Rattle.loading.specs.Loaded.{Loaded}
use Rattle.emission.proofs.Fields.{type_field}
use Rattle.layout.specs.Encoding.{EncodedTree, InPlaceReady, EncodesTree, SomeTree, Closes}
use Rattle.layout.proofs.Encoded.{encode_ready}
use Rattle.typing.specs.Finding.{FindReady, Finds, Answered}
use Rattle.answers.specs.declared.RunOutcome.{RunOutcome}
use Rattle.cells.proofs.Held.{holds, same_held}
use Rattle.book.specs.declared.Root.{Root}
use Rattle.engine.specs.Stages.{LeftByRefusal, FindsRoot, finds, refuses, Formed, AfterTyping, RootAt, SomeRoot, RunsRoot}
use Rattle.engine.proofs.Parts.{cell_part, tree_part, part_length}

module _ (b s : List ℕ) (bytes : IsBytes b) (f : WellFormed b) (l : Loaded (wide_cells (version_of b) (take (8 * count b) b)) s (count b)) where
  abbrev part : List ℕ
  part = take (8 * count b) b

  -- the root's tree outside of the book: its term has the numbers of the book, extended
  root_tree : tree_at (wide_cells (version_of b) part) (root_of b) ≡ from_term (root_term b)
  root_tree =
      let low = f.formed.rooted in
      wide_tree (version_of b) part (count b) (part_length b f) (root_of b) low
      ∙ ap (widened (version_of b)) (tree_part b (count b) (root_of b) low ∙ sym (root_term_tree b bytes f))
      ∙ term_widened (version_of b) (root_term b) (root_term_fits b bytes f)

  root_held : HoldsTerm s (root_of b) (root_term b)
  root_held =
      let i = root_of b in
      let low = f.formed.rooted in
      let sorted = wide_sort (version_of b) part (count b) (part_length b f) term_sort i low in
      subst (HoldsTerm s i) (ap to_term root_tree ∙ term_back Two (root_term b) (fits_wide (version_of b) (root_term b) (root_term_fits b bytes f)))
      (holds (l.held i low term_sort (rw (sorted, cell_part b (count b) i low) f.term)))

  pub ready : FindReady s (count b) 0 (root_of b)
  ready =
      record {
        long = l.long;
        context = [];
        holds_context = h_empty;
        context_below = omega (arith, f.formed.rooted);
        term = root_term b;
        holds_term = root_held;
        term_below = f.formed.rooted;
        room = omega (arith, root_term_small b bytes f, f.formed.short);
      }

  path_alike : (p : List ℕ) → follow s (root_of b) p ≡ follow b (root_of b) p
  path_alike p =
      follow_alike s b (count b) (λ i g h. l.leads i h g ∙ leads_wide (version_of b) part (count b) (part_length b f) i g h ∙ ap (λ (t : Cell). leads_to i t g) (cell_part b (count b) i h)) p (root_of b) f.formed.rooted

  -- what typing answers of the root: the book's cells are as they were
  pub root_found : {t v : List ℕ} {k : ℕ} {r : Std.Result ℕ Refusal} → Finds s t (count b) k 0 (root_of b) r → v ≡ t → FindsRoot b v (root_of b) r
  root_found {t} {v} {k} {r} d o = rw o (go (infer [] (root_term b)) refl (d.says [] (root_term b) h_empty root_held))
    where
      go : (F : Infer.Found) → infer [] (root_term b) ≡ F → Answered s t (count b) k (size (root_term b)) (root_of b) r F → FindsRoot b t (root_of b) r
      go (Infer.found A) e a = finds a.1 e a.6 (same_held a.4 f.formed.rooted root_held)
      go (Infer.refused w p) e a = refuses a.1 e (a.2 ∙ ap (λ (i : ℕ). refused (reason_number w) i) (path_alike p))

-- what follows from what was found
module _ {b w t : List ℕ} {o : Root} {r : Std.Result ℕ Refusal} (p : Formed b w o) (bytes : IsBytes b) (d : FindsRoot b t o.cell r) where
  found_of : {c : ℕ} → r ≡ Ok c → (A : Ty) × (infer [] (root_term b) ≡ Infer.found A) × HoldsType t c A × HoldsTerm t o.cell (root_term b)
  found_of {c} e = go d
    where
      go : FindsRoot b t o.cell r → (A : Ty) × (infer [] (root_term b) ≡ Infer.found A) × HoldsType t c A × HoldsTerm t o.cell (root_term b)
      go (finds {A = A} {c = x} q f h g) =
          let z : x ≡ c = cc in
          (A, f, subst (λ (j : ℕ). HoldsType t j A) z h, g)
      go (refuses q f a) = let z : ◌≡◌ {A = ℕ} 0 1 = cc in absurd (omega arith)

  type_small : {A : Ty} → infer [] (root_term b) ≡ Infer.found A → cells (from_type A) ≤ size_limit
  type_small {A} e = omega (arith, type_cells A, typed_size ((infer_says [] (root_term b) A).0 e), root_term_small b bytes p.book.form)

  pub type_ready : {s : List ℕ} {c : ℕ} → 32768 ≤ length s → length t ≡ length w → r ≡ Ok c → InPlaceReady s t ToType c
  type_ready l h e =
      let a = found_of e in
      record { long = omega (arith, h, p.work); ready = encode_ready l (type_field a.2) (type_positive a.0) (type_small a.1) }

  type_encoded : {v : List ℕ} {c n : ℕ} (A : Ty) → infer [] (root_term b) ≡ Infer.found A → HoldsType t c A → EncodesTree t v ToType c n → EncodedTree v n (from_type A)
  type_encoded {c = c} A e h y = y.says (suc c) (from_type A) (type_field h) (type_positive A) (type_small e)

  pub type_lain : {v : List ℕ} {c n : ℕ} → length v ≡ length w → r ≡ Ok c → EncodesTree t v ToType c n → SomeTree v n
  type_lain h e y = let a = found_of e in record { work = h ∙ p.work; tree = from_type a.0; encoded = type_encoded a.0 a.1 a.2 y }

  pub check_found : {v x : List ℕ} {c n : ℕ} → r ≡ Ok c → EncodesTree t v ToType c n → Closes o.version v x n → AfterTyping b (shown (version_of b)) x (accepted n)
  unfolding after_typing shown
  check_found e y z =
      let a = found_of e in
      let l = type_encoded a.0 a.1 a.2 y in
      rw a.1 (record { answer = ap accepted (l.count ∙ type_cells a.0); left = (rw p.book.version at z).says (from_type a.0) l })

  pub root_of_lem : {c : ℕ} → length t ≡ length w → r ≡ Ok c → RootAt (version_of b) t o.cell (root_term b)
  root_of_lem l e =
      let a = found_of e in
      record {
        long = l ∙ p.work;
        holds = a.3;
        small = root_term_small b bytes p.book.form;
        fits = root_term_fits b bytes p.book.form;
        type = a.0;
        typed = (infer_says [] (root_term b) a.0).0 a.1;
      }

  pub some_root : {c : ℕ} → length t ≡ length w → r ≡ Ok c → SomeRoot o.version t o.cell
  some_root l e = rw p.book.version (record { term = root_term b; root = root_of_lem l e })

  pub run_found : {v : List ℕ} {c m : ℕ} {x : RunOutcome} → length t ≡ length w → r ≡ Ok c → RunsRoot o.version t v o.cell m x → AfterTyping b (reported b m) v (run_answer x)
  unfolding after_typing
  run_found l e y = let a = found_of e in rw a.1 ((rw p.book.version at y).says (root_term b) (root_of_lem l e))

  -- a refusal is answered alike by both calls
  pub ill_typed_book : {q : Refusal} {v : List ℕ} (g : Ty → Result) → length t ≡ length w → r ≡ Err q → LeftByRefusal t v → AfterTyping b g v (refusal_answer q)
  unfolding after_typing refusal_result
  ill_typed_book {q} {v} g l e u = go d
    where
      go : FindsRoot b t o.cell r → AfterTyping b g v (refusal_answer q)
      go (finds c f h k) = let z : ◌≡◌ {A = ℕ} 0 1 = cc in absurd (omega arith)
      go (refuses {q = x} c f a) =
          let z : q ≡ x = cc in
          rw f (record { answer = ap refusal_answer z ∙ a; left = u.zeroed (l ∙ p.work) })

-- a buffer of 4,096 cells
pub scratch : 32768 ≤ length (replicate {A = ℕ} 32768 0)
scratch = omega (arith, length-replicate {A = ℕ} 32768 0)
