-- The joint of two well-formed books: cells that are raised keep their sort, pass rows 5 to 8 and decode to the same trees; so the joint passes rows 2 to 9 and
-- decodes to the merge of the two roots. Assumes nothing.
use Prim.Native.Nat.{ℕ, zero, suc, ◌+◌, ◌*◌, ◌-◌, ◌≤◌, ◌<◌, max}
use native.Mathlib.Nat.{zero-add}
use native.Mathlib.Decide.{dec_lt}
use native.Mathlib.Omega.{arith}
use mathlib.Core.Path.{◌≡◌, refl, sym, ap, ◌∙◌, subst}
use mathlib.Core.Bool.{true}
use mathlib.Core.Option.{Option, none, some}
use mathlib.Core.List.{List, [], ◌++◌, append-nil}
use lib.Dec.{lit<}
use lib.ListN.{length, length-append}
use Rattle.calculus.specs.Syntax.{merge, size}
use Rattle.format.specs.declared.Version.{Version}
use Rattle.format.specs.declared.Version.TheVariants.{One, Two}
use Rattle.format.specs.Version.{version_byte_lem, version_from_lem}
use Rattle.format.specs.Table.{Sort, term_sort, Use, unused, plain, refers, Row, table, row_in, row_for, row_of}
use Rattle.format.specs.Cell.{IsBytes, byte, Cell, cell_at, cell_bytes}
use Rattle.format.specs.Tree.{Tree, raw, node, cells, field_tree, cell_tree, tree_at}
use Rattle.format.specs.Terms.{to_term_in}
use Rattle.format.specs.Book.{count, root_of, version_of, size_limit, sort_is, has_sort, cell_fault, WellFormedCells, WellFormed, root_term, trailer}
use Rattle.format.specs.Widths.{restamp, mapped_cells}
use Rattle.format.specs.Joint.{raised_field, raised_by, raised, higher, in_version, merge_cell, together, joint_version, joint_count, joint, JointOf}
use Rattle.format.proofs.Trees.{term_cells}
use Rattle.format.proofs.Unsharing.{field_tree_lower, tree_at_cell}
use Rattle.format.proofs.Tests.{FieldOk, cell_fault_says, Looser, same_use, named_too, looser_row, view, All, ◌also◌, cell_fits}
use Rattle.format.proofs.Tests.{cell_looser, root_term_tree}
use Rattle.format.proofs.Encoding.{Part, part_left, part_right, cell_back, Bytes, is_bytes, bytes_append, cell_bytes_lem}
use Rattle.format.proofs.RoundTrip.{byte_fits}
use Rattle.format.proofs.Restamping.{length_mapped, mapped_bytes, mapped_part}
use Rattle.format.proofs.Restamping.{restamp_count, restamp_root, restamp_version, restamp_bytes, restamp_well_formed, restamp_root_term}

-- ---- one cell

raise_looser : {u w : Use} → Looser u w → (k x : ℕ) → raised_field k u x ≡ raised_field k w x
raise_looser same_use k x = refl
raise_looser named_too k x = refl

pub raised_kind : (k : ℕ) (t : Cell) → (raised k t).kind ≡ t.kind
raised_kind k t = go (row_of t.kind)
  where
    go : (o : Option Row) → (raised_by k t o).kind ≡ t.kind
    go none = refl
    go (some r) = refl

-- raised by nothing, a cell is as it was
raise_none : (u : Use) (x : ℕ) → raised_field 0 u x ≡ x
raise_none unused x = refl
raise_none plain x = refl
raise_none (refers o) x = zero-add x

pub raised_none : (t : Cell) → raised 0 t ≡ t
raised_none t = go (row_of t.kind)
  where
    go : (o : Option Row) → raised_by 0 t o ≡ t
    go none = refl
    go (some r) = rw (raise_none r.a t.a, raise_none r.b t.b, raise_none r.c t.c)

-- no label is a reference
abbrev NoReference : Use → Type 0
NoReference unused = Unit {0}
NoReference plain = Unit {0}
NoReference (refers o) = ⊥

labels : (v : Version) → All (λ r. NoReference r.label) (table v)
unfolding table
labels v = tt also tt also tt also tt also tt also tt also tt also tt also tt also tt also tt also tt also tt also tt also tt also tt also tt also tt

-- ---- bytes whose n cells from k on are those of s, raised by k

module _ (s t : List ℕ) (k n : ℕ) (is : (i : ℕ) → i < n → cell_at t (k + i) ≡ raised k (cell_at s i)) where
  pub raised_sort : (o : Sort) (i : ℕ) → i < n → has_sort t o (k + i) ≡ has_sort s o i
  raised_sort o i h = rw (is i h, raised_kind k (cell_at s i))

  label_passes : (i : ℕ) (u : Use) (x : ℕ) → NoReference u → FieldOk s i u x → FieldOk t (k + i) u x
  label_passes i unused x r h = h
  label_passes i plain x r h = h
  label_passes i (refers o) x r h = absurd r

  field_passes : (i : ℕ) → i < n → (u w : Use) → Looser u w → (x : ℕ) → FieldOk s i u x → FieldOk t (k + i) u (raised_field k w x)
  field_passes i l u w z x h = rw (← raise_looser z k x) (go u h)
    where
      go : (u : Use) → FieldOk s i u x → FieldOk t (k + i) u (raised_field k u x)
      go unused h = h
      go plain h = tt
      go (refers o) h = (omega (arith, h.0), raised_sort o x (omega (arith, h.0)) ∙ h.1)

  -- one that passes 5 to 8 passes them raised
  pub raised_sound : (v : Version) (i : ℕ) → i < n → cell_fault v s i ≡ none → cell_fault v t (k + i) ≡ none
  unfolding row_for
  raised_sound v i l f =
      let c = (cell_fault_says v s i).0 f in
      let z = looser_row v (cell_at s i).kind c.row c.found in
      let e : cell_at t (k + i) ≡ raised_by k (cell_at s i) (some z.0) = is i l ∙ ap (raised_by k (cell_at s i)) z.1 in
      let no = (view (λ r. NoReference r.label) (table v) (labels v) (cell_at s i).kind c.row c.found).1 in
      (cell_fault_says v t (k + i)).1
      (record {
        row = c.row;
        found = rw e c.found;
        fields =
            rw e
            (record {
              label = label_passes i c.row.label (cell_at s i).label no c.fields.label;
              a = field_passes i l c.row.a z.0.a z.2.a (cell_at s i).a c.fields.a;
              b = field_passes i l c.row.b z.0.b z.2.b (cell_at s i).b c.fields.b;
              c = field_passes i l c.row.c z.0.c z.2.c (cell_at s i).c c.fields.c;
            });
      })

  -- a field of a raised cell opens as it did
  field_opens : (i : ℕ) → ((x : ℕ) → x < i → tree_at t (k + x) ≡ tree_at s x) → (u : Use) (x : ℕ) → FieldOk s i u x →
      field_tree (tree_at t) (k + i) u (raised_field k u x) ≡ field_tree (tree_at s) i u x
  unfolding field_tree
  field_opens i g unused x f = refl
  field_opens i g plain x f = refl
  field_opens i g (refers o) x f =
      field_tree_lower (tree_at t) (k + i) (k + x) o (omega (arith, f.0)) ∙ g x f.0 ∙ sym (field_tree_lower (tree_at s) i x o f.0)

  module _ (sound : (i : ℕ) → i < n → cell_fault Two s i ≡ none) where
    tree_within : (m i : ℕ) → i < m → i < n → tree_at t (k + i) ≡ tree_at s i
    unfolding cell_tree
    tree_within zero i h l = absurd (omega arith)
    tree_within (suc m) i h l =
        let c = (cell_fault_says Two s i).0 (sound i l) in
        let e : cell_at t (k + i) ≡ raised_by k (cell_at s i) (some c.row) = is i l ∙ ap (raised_by k (cell_at s i)) c.found in
        let g = field_opens i (λ x j. tree_within m x (omega arith) (omega arith)) in
        rw (tree_at_cell t (k + i), e, c.found, tree_at_cell s i, c.found)
        (rw (g c.row.a (cell_at s i).a c.fields.a, g c.row.b (cell_at s i).b c.fields.b, g c.row.c (cell_at s i).c c.fields.c) refl)

    pub raised_tree : (i : ℕ) → i < n → tree_at t (k + i) ≡ tree_at s i
    raised_tree i l = tree_within n i l l

-- ---- two books of one version

-- the row of a merge
abbrev merge_row : Row
merge_row = record { kind = 22; sort = term_sort; label = unused; a = refers term_sort; b = refers term_sort; c = unused }

-- abstract, so that `rw` sees the version in it
merge_opens : (v : Version) (a b : Tree) → to_term_in v (node 22 0 a b (raw 0)) ≡ merge (to_term_in v a) (to_term_in v b)
unfolding to_term_in
merge_opens v a b = refl

merge_row_lem : (v : Version) → row_for v 22 ≡ some merge_row
unfolding row_for row_in table
merge_row_lem v = refl

merge_sorted : sort_is term_sort (row_of 22) ≡ true
merge_sorted = rw (merge_row_lem Two) refl

version_back : (v : Version) → version_from_lem (version_byte_lem v) ≡ v
version_back One = refl
version_back Two = refl

raised_fits : (k x n : ℕ) (u : Use) → k + n < 65536 → x < 65536 → (i : ℕ) → i < n → (s : List ℕ) → FieldOk s i u x → raised_field k u x < 65536
raised_fits k x n unused h f i l s o = f
raised_fits k x n plain h f i l s o = f
raised_fits k x n (refers r) h f i l s o = omega (arith, o.0)

raised_bytes : (s : List ℕ) → IsBytes s → (k n : ℕ) → k + n < 65536 → ((i : ℕ) → i < n → cell_fault Two s i ≡ none) → Bytes (mapped_cells (raised k) s n 0)
unfolding cell_at
raised_bytes s y k n h sound = mapped_bytes (raised k) s n 0 (λ i l. one i (omega arith))
  where
    one : (i : ℕ) → i < n → Bytes (cell_bytes (raised k (cell_at s i)))
    one i l =
        let c = (cell_fault_says Two s i).0 (sound i l) in
        let f = cell_fits s y i in
        subst (λ (o : Option Row). Bytes (cell_bytes (raised_by k (cell_at s i) o))) (sym c.found)
        (cell_bytes_lem _ (y (8 * i)) f.0
        (raised_fits k _ n c.row.a h f.1 i l s c.fields.a)
        (raised_fits k _ n c.row.b h f.2 i l s c.fields.b)
        (raised_fits k _ n c.row.c h f.3 i l s c.fields.c))

module _ (u : Version) (p q : List ℕ) where
  together_length : length (together u p q) ≡ 8 * (count p + count q + 2)
  unfolding together trailer cell_bytes
  together_length = simp (length-append, length_mapped) (omega arith)

  together_count : count (together u p q) ≡ count p + count q + 1
  together_count = rw together_length (omega arith)

  first_part : Part (together u p q) 0 (mapped_cells (raised 0) p (count p) 0)
  unfolding together
  first_part = record { before = []; after = _; starts = refl; split = refl }

  -- what stands behind the project's cells
  behind : Part (together u p q) (count p)
      (mapped_cells (raised (count p)) q (count q) 0
      ++ (cell_bytes (merge_cell (root_of p) (count p + root_of q)) ++ trailer u (count p + count q + 1) (count p + count q)))
  unfolding together
  behind =
      record { before = mapped_cells (raised 0) p (count p) 0; after = []; starts = length_mapped (raised 0) p (count p) 0; split = simp append-nil }

  merge_part : Part (together u p q) (count p + count q)
      (cell_bytes (merge_cell (root_of p) (count p + root_of q)) ++ trailer u (count p + count q + 1) (count p + count q))
  merge_part = part_right (count q) (mapped_cells (raised (count p)) q (count q) 0) _ (length_mapped (raised (count p)) q (count q) 0) behind

  project_cell : (i : ℕ) → i < count p → cell_at (together u p q) i ≡ cell_at p i
  project_cell i h = (rw zero-add at (cell_back _ (mapped_part (raised 0) p 0 (count p) 0 i h first_part))) ∙ raised_none (cell_at p i)

  part_cell : (i : ℕ) → i < count q → cell_at (together u p q) (count p + i) ≡ raised (count p) (cell_at q i)
  part_cell i h = rw zero-add at (cell_back _ (mapped_part (raised (count p)) q (count p) (count q) 0 i h (part_left _ _ behind)))

  merge_cell_lem : cell_at (together u p q) (count p + count q) ≡ merge_cell (root_of p) (count p + root_of q)
  merge_cell_lem = cell_back _ (part_left _ _ merge_part)

  trailer_cell : cell_at (together u p q) (count (together u p q)) ≡ record { kind = 0xf0; label = version_byte_lem u; a = count p + count q + 1; b = count p + count q; c = 0 }
  unfolding trailer cell_bytes
  trailer_cell = rw together_count (cell_back _ (part_right 1 (cell_bytes (merge_cell (root_of p) (count p + root_of q))) _ refl merge_part))

  together_label : byte (together u p q) (8 * count (together u p q) + 1) ≡ version_byte_lem u
  unfolding cell_at
  together_label = ap (λ (c : Cell). c.label) trailer_cell

  together_version : version_of (together u p q) ≡ u
  together_version = ap version_from_lem together_label ∙ version_back u

  together_root : root_of (together u p q) ≡ count p + count q
  unfolding cell_at
  together_root = ap (λ (c : Cell). c.b) trailer_cell

  module _ (yp : IsBytes p) (yq : IsBytes q) (wp : WellFormed p) (wq : WellFormed q) (vp : version_of p ≡ u) (vq : version_of q ≡ u)
      (few : count p + count q + 1 ≤ size_limit) where
    project_raised : (i : ℕ) → i < count p → cell_at (together u p q) (0 + i) ≡ raised 0 (cell_at p i)
    project_raised i h = rw zero-add (project_cell i h ∙ sym (raised_none (cell_at p i)))

    project_sort : has_sort (together u p q) term_sort (root_of p) ≡ true
    project_sort = (rw zero-add at (raised_sort p (together u p q) 0 (count p) project_raised term_sort (root_of p) wp.formed.rooted)) ∙ wp.term

    part_sort : has_sort (together u p q) term_sort (count p + root_of q) ≡ true
    part_sort = raised_sort q (together u p q) (count p) (count q) part_cell term_sort (root_of q) wq.formed.rooted ∙ wq.term

    merge_sound : cell_fault u (together u p q) (count p + count q) ≡ none
    merge_sound =
        (cell_fault_says u (together u p q) (count p + count q)).1
        (record {
          row = merge_row;
          found = rw merge_cell_lem (merge_row_lem u);
          fields =
              rw merge_cell_lem
              (record {
                label = refl;
                a = (omega (arith, wp.formed.rooted), project_sort);
                b = (omega (arith, wq.formed.rooted), part_sort);
                c = refl;
              });
        })

    sound : (i : ℕ) → i < count p + count q + 1 → cell_fault u (together u p q) i ≡ none
    sound i l =
        elim (dec_lt i (count p)) [
          | yes h ↦ rw zero-add at (raised_sound p (together u p q) 0 (count p) project_raised u i h (rw vp at (wp.formed.sound i h)))
          | no h ↦ elim (dec_lt i (count p + count q)) [
            | yes k ↦
                let j = i - count p in
                let e : count p + j ≡ i = omega arith in
                let o : j < count q = omega arith in
                rw e at (raised_sound q (together u p q) (count p) (count q) part_cell u j o (rw vq at (wq.formed.sound j o)))
            | no k ↦ let e : i ≡ count p + count q = omega arith in rw e merge_sound
          ]
        ]

    together_formed : WellFormedCells (together u p q)
    unfolding cell_at
    together_formed =
        record {
          long = rw together_length (omega arith);
          short = rw together_length (omega arith);
          whole = rw together_length (omega arith);
          mark = ap (λ (c : Cell). c.kind) trailer_cell;
          version = rw together_version together_label;
          zeros = ap (λ (c : Cell). c.c) trailer_cell;
          counted = ap (λ (c : Cell). c.a) trailer_cell ∙ sym together_count;
          rooted = rw (together_root, together_count) (omega arith);
          sound = λ i l. rw together_version (sound i (omega (arith, l, together_count)));
        }

    together_term : has_sort (together u p q) term_sort (root_of (together u p q)) ≡ true
    together_term = rw (together_root, merge_cell_lem) (merge_sorted)

    project_tree : tree_at (together u p q) (root_of p) ≡ tree_at p (root_of p)
    project_tree =
        rw zero-add at (raised_tree p (together u p q) 0 (count p) project_raised (λ i l. cell_looser (version_of p) p i (wp.formed.sound i l)) (root_of p) wp.formed.rooted)

    part_tree : tree_at (together u p q) (count p + root_of q) ≡ tree_at q (root_of q)
    part_tree =
        raised_tree q (together u p q) (count p) (count q) part_cell (λ i l. cell_looser (version_of q) q i (wq.formed.sound i l)) (root_of q) wq.formed.rooted

    together_tree : tree_at (together u p q) (root_of (together u p q)) ≡ node 22 0 (tree_at p (root_of p)) (tree_at q (root_of q)) (raw 0)
    unfolding cell_tree field_tree
    together_tree =
        rw (together_root, tree_at_cell (together u p q) (count p + count q), merge_cell_lem, merge_row_lem Two)
        (rw (
          field_tree_lower (tree_at (together u p q)) (count p + count q) (root_of p) term_sort (omega (arith, wp.formed.rooted)),
          field_tree_lower (tree_at (together u p q)) (count p + count q) (count p + root_of q) term_sort (omega (arith, wq.formed.rooted)),
          project_tree,
          part_tree,
        ) refl)

    together_opens : root_term (together u p q) ≡ merge (root_term p) (root_term q)
    unfolding root_term
    together_opens = rw (together_tree, merge_opens, together_version, vp, vq) refl

    together_sized : cells (tree_at (together u p q) (root_of (together u p q))) ≡ suc (size (root_term p) + size (root_term q))
    unfolding cells
    together_sized =
        let a : cells (tree_at p (root_of p)) ≡ size (root_term p) = rw (← root_term_tree p yp wp) (term_cells (version_of p) (root_term p)) in
        let b : cells (tree_at q (root_of q)) ≡ size (root_term q) = rw (← root_term_tree q yq wq) (term_cells (version_of q) (root_term q)) in
        rw together_tree (omega (arith, a, b))

    together_bytes : IsBytes (together u p q)
    unfolding together trailer cell_bytes
    together_bytes =
        is_bytes
        (bytes_append (raised_bytes p yp 0 (count p) (omega arith) (λ i l. cell_looser (version_of p) p i (wp.formed.sound i l)))
        (bytes_append (raised_bytes q yq (count p) (count q) (omega arith) (λ i l. cell_looser (version_of q) q i (wq.formed.sound i l)))
        (bytes_append (cell_bytes_lem (merge_cell (root_of p) (count p + root_of q)) (lit< tt) (lit< tt) (omega (arith, wp.formed.rooted)) (omega (arith, wq.formed.rooted)) (lit< tt))
        (cell_bytes_lem (record { kind = 0xf0; label = version_byte_lem u; a = count p + count q + 1; b = count p + count q; c = 0 }) (lit< tt) (byte_fits u) (omega arith) (omega arith) (lit< tt)))))

-- ---- books of two versions

-- v is no higher than u
abbrev AtMost : Version → Version → Type 0
AtMost One u = Unit {0}
AtMost Two One = ⊥
AtMost Two Two = Unit {0}

left_at_most : (v w : Version) → AtMost v (higher v w)
left_at_most One w = tt
left_at_most Two w = tt

right_at_most : (v w : Version) → AtMost w (higher v w)
right_at_most One One = tt
right_at_most One Two = tt
right_at_most Two One = tt
right_at_most Two Two = tt

higher_max : (v w : Version) → version_byte_lem (higher v w) ≡ max (version_byte_lem v) (version_byte_lem w)
higher_max One One = refl
higher_max One Two = refl
higher_max Two One = refl
higher_max Two Two = refl

-- a well-formed book in a version no lower than its own
pub record InVersion (u : Version) (s : List ℕ) : Type 0 where
  pub bytes : IsBytes (in_version u s)
  pub formed : WellFormed (in_version u s)
  pub version : version_of (in_version u s) ≡ u
  pub counted : count (in_version u s) ≡ count s
  pub rooted : root_of (in_version u s) ≡ root_of s
  pub root : root_term (in_version u s) ≡ root_term s

in_version_lem : (s : List ℕ) → IsBytes s → WellFormed s → (u v : Version) → version_of s ≡ v → AtMost v u → InVersion u s
in_version_lem s y w One One e a = record { bytes = y; formed = w; version = e; counted = refl; rooted = refl; root = refl }
in_version_lem s y w One Two e a = absurd a
in_version_lem s y w Two One e a =
    let i : in_version Two s ≡ restamp s = rw e in
    record {
      bytes = rw i (restamp_bytes s w.formed y);
      formed = rw i (restamp_well_formed s y w e);
      version = rw i (restamp_version s);
      counted = rw i (restamp_count s);
      rooted = rw i (restamp_root s);
      root = rw i (restamp_root_term s y w e);
    }
in_version_lem s y w Two Two e a = let i : in_version Two s ≡ s = rw e in record { bytes = rw i y; formed = rw i w; version = rw i e; counted = rw i; rooted = rw i; root = rw i }

module _ (p q : List ℕ) (yp : IsBytes p) (yq : IsBytes q) (wp : WellFormed p) (wq : WellFormed q) where
  pub project_in_version : InVersion (joint_version p q) p
  project_in_version = in_version_lem p yp wp (joint_version p q) (version_of p) refl (left_at_most (version_of p) (version_of q))

  pub part_in_version : InVersion (joint_version p q) q
  part_in_version = in_version_lem q yq wq (joint_version p q) (version_of q) refl (right_at_most (version_of p) (version_of q))

  -- The joint of two well-formed books.
  pub joint_of : joint_count p q ≤ size_limit → JointOf p q
  unfolding joint
  joint_of few =
      let u = joint_version p q in
      let a = project_in_version in
      let b = part_in_version in
      let s = in_version u p in
      let t = in_version u q in
      let less : count s + count t + 1 ≤ size_limit = rw (a.counted, b.counted) few in
      record {
        bytes = together_bytes u s t a.bytes b.bytes a.formed b.formed a.version b.version less;
        long = together_length u s t ∙ (rw (a.counted, b.counted) (omega arith));
        version = together_version u s t;
        higher_byte = ap version_byte_lem (together_version u s t) ∙ higher_max (version_of p) (version_of q);
        counted = together_count u s t ∙ (rw (a.counted, b.counted) refl);
        rooted = together_root u s t ∙ (rw (a.counted, b.counted) refl);
        project = λ i h. project_cell u s t i (rw a.counted h);
        part = λ i h. rw a.counted at (part_cell u s t i (rw b.counted h));
        last = rw (a.rooted, b.rooted, a.counted, b.counted) at (merge_cell_lem u s t);
        well_formed = together_formed u s t a.bytes b.bytes a.formed b.formed a.version b.version less;
        term = together_term u s t a.bytes b.bytes a.formed b.formed a.version b.version less;
        opens = together_opens u s t a.bytes b.bytes a.formed b.formed a.version b.version less ∙ (rw (a.root, b.root) refl);
        sized = together_sized u s t a.bytes b.bytes a.formed b.formed a.version b.version less ∙ (rw (a.root, b.root) refl);
      }
