-- Rows 2 to 10 of a book, from the answers to its length, its trailer and its part of cells. Assumes nothing.
use Prim.Native.Nat.{ℕ, ◌+◌, ◌-◌, ◌%◌, ◌≤◌, ◌<◌}
use mathlib.Core.Path.{◌≡◌, refl, sym, ap, subst, ◌∙◌}
use mathlib.Core.Bool.{Bool, true, false, cond, and-eq-true_iff}
use mathlib.Core.Option.{Option, none, some}
use mathlib.Core.List.{List}
use Rattle.std.specs.Prelude.{Result, Ok, Err}
use Rattle.std.specs.Result.{IsErrAnd}
use Rattle.std.proofs.lemmas.Result.{err_from_is_err_and}
use native.Mathlib.Omega.{arith}
use borrow.Author.Tests.{not-true, ltb-true, ltb-false, eqb-true}
use lib.Dec.{ltb, eqb}
use lib.ListN.{length, take, drop, length-take}
use lib.Seq.{get_or-take, get_or-drop}
use Rattle.format.specs.declared.Version.{Version}
use Rattle.format.specs.declared.Version.TheVariants.{Two}
use Rattle.format.specs.Version.{version_from_lem}
use Rattle.format.specs.Table.{term_sort}
use Rattle.format.specs.Cell.{byte, pair, cell_at}
use Rattle.format.specs.Tree.{cells, tree_at}
use Rattle.format.specs.Book.{Fault, bad_length, bad_trailer, bad_count, Finding, count, trailer_at, version_of, root_of, has_sort, size_limit}
use Rattle.format.specs.Book.{length_ok_lem, trailer_ok, count_ok, cells_finding, cells_form, root_finding, form_finding}
use Rattle.format.proofs.Unsharing.{tree_at_same}
use Rattle.format.proofs.Tests.{cells_form_says, cell_looser}
use Rattle.answers.specs.Answer.{refused, fault_number}
use Rattle.answers.specs.Cases.{refusal_answer}
use Rattle.answers.specs.declared.Refusal.{Refusal}
use Rattle.answers.specs.declared.Refusal.TheVariants.{Length, Trailer, Count}
use Rattle.book.specs.declared.Root.{Root}
use Rattle.book.specs.Form.{mark_ok_lem, version_in, counted_ok_lem, ChecksAs, at_cell, CellsCheck, RootReady, root_fault, RootCheck, FormCheck}
use Rattle.book.proofs.Cells.{not_both, cell_part, fault_same, findings_same}

abbrev pub cells_part : List ℕ → List ℕ
cells_part b = take (trailer_at b) b

abbrev pub trailer_part : List ℕ → List ℕ
trailer_part b = take (length b - trailer_at b) (drop (trailer_at b) b)

pub record Long (b : List ℕ) : Type 0 where
  pub long : 16 ≤ length b
  pub short : length b ≤ 32768
  pub whole : length b % 8 ≡ 0

pub long : (b : List ℕ) {r : Bool} → r ≡ length_ok_lem b → r ≡ true → Long b
long b {r} e h =
    let p = (and-eq-true_iff _ _).0 (sym e ∙ h) in
    let q = (and-eq-true_iff _ _).0 p.0 in
    record {
      long = ltb-false (length b) 16 (not-true _ q.0);
      short = ltb-false 32768 (length b) (not-true _ q.1);
      whole = eqb-true (length b % 8) 0 p.1;
    }

module _ {b : List ℕ} (l : Long b) where
  pub cells_length : length (cells_part b) ≡ trailer_at b
  cells_length = omega (arith, length-take (trailer_at b) b, l.long, l.whole)

  -- a byte of the trailer
  at : (j k : ℕ) → j < 8 → k ≡ trailer_at b + j → byte (trailer_part b) j ≡ byte b k
  at j k h e =
      get_or-take (length b - trailer_at b) (drop (trailer_at b) b) j 0 (omega (arith, l.long, l.whole))
      ∙ get_or-drop (trailer_at b) b j 0
      ∙ ap (byte b) (sym e)

  -- a field of two bytes
  pair_at : (j : ℕ) → j < 7 → pair (trailer_part b) j ≡ pair b (trailer_at b + j)
  pair_at j h = rw (at j (trailer_at b + j) (omega arith) refl, at (j + 1) (trailer_at b + j + 1) (omega arith) (omega arith))

  pub version_at : version_from_lem (byte (trailer_part b) 1) ≡ version_of b
  version_at = ap version_from_lem (at 1 (trailer_at b + 1) (omega arith) refl)

  pub root_at : pair (trailer_part b) 4 ≡ root_of b
  root_at = pair_at 4 (omega arith)

  mark_at : mark_ok_lem (trailer_part b) ≡ trailer_ok b
  mark_at =
      rw (at 0 (trailer_at b) (omega arith) (omega arith), at 1 (trailer_at b + 1) (omega arith) refl, pair_at 6 (omega arith))

  counted_at : counted_ok_lem (trailer_part b) (count b) ≡ count_ok b
  counted_at = rw (pair_at 2 (omega arith), root_at)

-- ---- findings

found : (b : List ℕ) (f : Finding) (q : Refusal) → refusal_answer q ≡ refused (fault_number f.fault) f.cell → form_finding b ≡ some f
    → FormCheck b (Err q)
found b f q h e = record { says = rw e (q, refl, h) }

-- a refusal is handed on
pub handed : {b : List ℕ} {q : Refusal} (r : Result Root Refusal) → IsErrAnd r (λ e. e ≡ q) → FormCheck b (Err q) → FormCheck b r
handed r e h = let p = err_from_is_err_and r e in rw (p.1, p.2) h

-- rows 2 to 4 name cell 0
found_first : (b : List ℕ) (f : Fault) (q : Refusal) → refusal_answer q ≡ refused (fault_number f) 0 →
    cells_form b ≡ some (record { fault = f; cell = 0 }) → FormCheck b (Err q)
unfolding form_finding
found_first b f q h e = found b (record { fault = f; cell = 0 }) q h (rw (e, form_finding))

pub length_bad : (b : List ℕ) {r : Bool} → r ≡ length_ok_lem b → r ≡ false → FormCheck b (Err Length)
unfolding cells_form
length_bad b {r} e h =
    let c : cells_form b ≡ some (record { fault = bad_length; cell = 0 }) = rw (sym e ∙ h, cells_form) in
    found_first b bad_length Length refl c

-- the version, or row 3
read_trailer : (t : List ℕ) → {v : Version} → Ok v ≡ version_in t → (mark_ok_lem t ≡ true) × (v ≡ version_from_lem (byte t 1))
read_trailer t {v} e = go (mark_ok_lem t) refl e
  where
    go : (m : Bool) → mark_ok_lem t ≡ m → Ok v ≡ cond m (Ok (version_from_lem (byte t 1))) (Err Trailer) → (mark_ok_lem t ≡ true) × (v ≡ version_from_lem (byte t 1))
    go true f k = (f, cc)
    go false f k = let z : ◌≡◌ {A = ℕ} 0 1 = cc in absurd (omega arith)

wrong_trailer : (t : List ℕ) → {q : Refusal} → Err q ≡ version_in t → (mark_ok_lem t ≡ false) × (q ≡ Trailer)
wrong_trailer t {q} e = go (mark_ok_lem t) refl e
  where
    go : (m : Bool) → mark_ok_lem t ≡ m → Err q ≡ cond m (Ok (version_from_lem (byte t 1))) (Err Trailer) → (mark_ok_lem t ≡ false) × (q ≡ Trailer)
    go true f k = let z : ◌≡◌ {A = ℕ} 0 1 = cc in absurd (omega arith)
    go false f k = (f, cc)

pub trailer_bad : (b : List ℕ) {r : Bool} {q : Refusal} → r ≡ length_ok_lem b → r ≡ true → Err q ≡ version_in (trailer_part b) → FormCheck b (Err q)
unfolding cells_form
trailer_bad b {r} {q} e h f =
    let w = wrong_trailer (trailer_part b) f in
    let c : cells_form b ≡ some (record { fault = bad_trailer; cell = 0 }) =
    rw (sym e ∙ h, sym (mark_at (long b e h)) ∙ w.0, cells_form) in
    rw w.1 (found_first b bad_trailer Trailer refl c)

pub count_bad : (b : List ℕ) {r n : Bool} {v : Version} → r ≡ length_ok_lem b → r ≡ true → Ok v ≡ version_in (trailer_part b) → n ≡ counted_ok_lem (trailer_part b) (count b) → n ≡ false → FormCheck b (Err Count)
unfolding cells_form
count_bad b {r} {n} e h f g i =
    let l = long b e h in
    let c : cells_form b ≡ some (record { fault = bad_count; cell = 0 }) =
    rw (sym e ∙ h, sym (mark_at l) ∙ (read_trailer (trailer_part b) f).0, sym (g ∙ counted_at l) ∙ i, cells_form) in
    found_first b bad_count Count refl c

-- rows 2 to 4 passed: what is left of 5 to 8 are the findings of the part of cells
pub record Counted (b : List ℕ) (v : Version) : Type 0 where
  pub long : Long b
  pub version : v ≡ version_of b
  pub rooted : root_of b < count b
  pub rest : cells_form b ≡ cells_finding (version_of b) (cells_part b) (count b) 0

pub counted : (b : List ℕ) {r n : Bool} {v : Version} → r ≡ length_ok_lem b → r ≡ true → Ok v ≡ version_in (trailer_part b)
    → n ≡ counted_ok_lem (trailer_part b) (count b) → n ≡ true → Counted b v
unfolding cells_form
counted b {r} {n} e h f g i =
    let l = long b e h in
    let t = read_trailer (trailer_part b) f in
    let j : count_ok b ≡ true = sym (g ∙ counted_at l) ∙ i in
    record {
      long = l;
      version = t.1 ∙ version_at l;
      rooted = ltb-true (root_of b) (count b) ((and-eq-true_iff (eqb (pair b (trailer_at b + 2)) (count b)) (ltb (root_of b) (count b))).0 j).1;
      rest =
          rw (sym e ∙ h, sym (mark_at l) ∙ t.0, j, cells_form)
          (sym (findings_same (version_of b) (cells_part b) b (count b) 0 (λ x h. cell_part b (count b) x (omega arith))));
    }

-- a check that found something, where nothing was found before it
form_refused : (b : List ℕ) (o : Option Finding) (q : Refusal) → ((f : Finding) → o ≡ some f → form_finding b ≡ some f) → ChecksAs (Err q) o
    → FormCheck b (Err q)
form_refused b none q g h = absurd (not_both h)
form_refused b (some f) q g h = let e : h.0 ≡ q = let i = h.1 in cc in found b f q (rw e at h.2) (g f refl)

-- a check that found nothing
nothing : (o : Option Finding) → ChecksAs (Ok tt) o → o ≡ none
nothing none h = refl
nothing (some f) h = absurd (not_both (sym h.1))

module _ {b : List ℕ} {v : Version} (k : Counted b v) where
  -- the cells are tested in the version of the trailer
  own_version : {r : Result (Unit {0}) Refusal} → CellsCheck v (cells_part b) (count b) r → CellsCheck (version_of b) (cells_part b) (count b) r
  own_version {r = r} h = subst (λ (u : Version). CellsCheck u (cells_part b) (count b) r) k.version h

  pub cells_bad : {q : Refusal} → CellsCheck v (cells_part b) (count b) (Err q) → FormCheck b (Err q)
  unfolding form_finding
  cells_bad {q} h =
      form_refused b (cells_finding (version_of b) (cells_part b) (count b) 0) q (λ f e. rw (k.rest ∙ e, form_finding)) (own_version h).says

  pub cells_clear : CellsCheck v (cells_part b) (count b) (Ok tt) → cells_form b ≡ none
  cells_clear h = k.rest ∙ nothing (cells_finding (version_of b) (cells_part b) (count b) 0) (own_version h).says

  same : (x : ℕ) → x < count b → cell_at (cells_part b) x ≡ cell_at b x
  same x h = cell_part b (count b) x h

  pub ready : cells_form b ≡ none → {i : ℕ} → i ≡ pair (trailer_part b) 4 → RootReady (cells_part b) i
  ready e {i} j =
      let r : i < count b = rw (j ∙ root_at k.long) k.rooted in
      record {
        within = omega (arith, cells_length k.long);
        few = omega (arith, k.long);
        sound = λ x h. fault_same Two (cells_part b) b x (λ y l. same y (omega arith)) ∙ cell_looser (version_of b) b x (((cells_form_says b).0 e).sound x (omega arith));
      }

  -- the root's sort and size, asked of the part of cells
  root_rest : cells_form b ≡ none
      → form_finding b ≡ at_cell (root_fault (has_sort (cells_part b) term_sort (root_of b)) (ltb size_limit (cells (tree_at (cells_part b) (root_of b))))) (root_of b)
  unfolding form_finding root_finding
  root_rest e =
      rw (
        same (root_of b) k.rooted,
        tree_at_same (cells_part b) b (root_of b) (λ x h. same x (omega (arith, k.rooted))),
        e,
        form_finding,
      )
      (go (has_sort b term_sort (root_of b)) refl (ltb size_limit (cells (tree_at b (root_of b)))) refl)
    where
      go : (t : Bool) → has_sort b term_sort (root_of b) ≡ t → (u : Bool) → ltb size_limit (cells (tree_at b (root_of b))) ≡ u
          → root_finding b ≡ at_cell (root_fault (has_sort b term_sort (root_of b)) (ltb size_limit (cells (tree_at b (root_of b))))) (root_of b)
      go true e true f = rw (e, f, root_finding)
      go true e false f = rw (e, f, root_finding)
      go false e u f = rw (e, root_finding)

  pub root_bad : cells_form b ≡ none → {i : ℕ} → i ≡ pair (trailer_part b) 4 → {q : Refusal} → RootCheck (cells_part b) i (Err q) → FormCheck b (Err q)
  root_bad e {i} j {q} h = form_refused b _ q (λ f g. root_rest e ∙ g) (rw (j ∙ root_at k.long) at h.says)

  pub root_clear : cells_form b ≡ none → {i : ℕ} → i ≡ pair (trailer_part b) 4 → RootCheck (cells_part b) i (Ok tt)
      → FormCheck b (Ok (record { version = v; cell = i }))
  root_clear e {i} j h =
      let is = j ∙ root_at k.long in
      record { says = rw (root_rest e ∙ nothing _ (rw is at h.says)) (rw (k.version, is)) }
