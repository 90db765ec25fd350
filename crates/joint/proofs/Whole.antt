-- The cells of both books, the merge and the trailer, one after the other, are the joint. Assumes nothing.
use Prim.Native.Nat.{ℕ, zero, suc, ◌+◌, ◌-◌, ◌*◌, ◌<◌}
use native.Mathlib.Omega.{arith}
use mathlib.Core.Path.{◌≡◌, refl, sym, ap, ap₂, ◌∙◌}
use mathlib.Core.List.{List, ◌++◌}
use lib.ListN.{length}
use lib.Seq.{sets}
use Rattle.std.specs.Ordering.{ord_max}
use Rattle.format.specs.contracts.VersionOrd.TheImpl.{cmp-value}
use Rattle.format.specs.declared.Version.{Version}
use Rattle.format.specs.declared.Version.TheVariants.{One, Two}
use Rattle.format.specs.Cell.{IsBytes, Cell, cell_at, cell_bytes}
use Rattle.format.specs.Book.{count, root_of, version_of, trailer}
use Rattle.format.specs.Widths.{mapped_cells}
use Rattle.format.specs.Joint.{raised, higher, in_version, merge_cell, together, joint_version, joint}
use Rattle.format.proofs.Tests.{cell_looser}
use Rattle.format.proofs.Restamping.{restamp_cell, length_mapped}
use Rattle.format.proofs.Joint.{project_in_version, part_in_version, joint_of}
use Rattle.emission.proofs.Compose.{behind}
use Rattle.joint.specs.Writing.{cell_in, carried, CarryReady, Carries, Finishes, JointReady, WritesJoint}

-- ---- the version

pub max_higher : (v w : Version) → ord_max cmp-value.it v w ≡ higher v w
max_higher One One = refl
max_higher One Two = refl
max_higher Two One = refl
max_higher Two Two = refl

-- ---- the merge and the trailer

pub finished : {d c e : List ℕ} {k i j : ℕ} {u : Version} → c ≡ sets d (8 * k) (cell_bytes (merge_cell i j)) → e ≡ sets c (8 * (k + 1)) (trailer u (k + 1) (k + 1 - 1))
    → Finishes d e k i j u
unfolding cell_bytes trailer
finished {d} {k = k} {i} {j} {u = u} p q =
    let h : k + 1 - 1 ≡ k = omega arith in
    record { is = (rw h at q) ∙ behind (cell_bytes (merge_cell i j)) (trailer u (k + 1) k) d (8 * k) p (omega arith) }

-- ---- the cells of one book

mapped_alike : (f g : Cell → Cell) (s t : List ℕ) (n i : ℕ) → ((j : ℕ) → j < i + n → f (cell_at s j) ≡ g (cell_at t j)) → mapped_cells f s n i ≡ mapped_cells g t n i
unfolding mapped_cells
mapped_alike f g s t zero i h = refl
mapped_alike f g s t (suc n) i h = ap₂ (λ (x y : List ℕ). x ++ y) (ap cell_bytes (h i (omega arith))) (mapped_alike f g s t n (suc i) (λ j l. h j (omega arith)))

cell_in_lem : (s : List ℕ) (u v : Version) → version_of s ≡ v → (i : ℕ) → i < count s → cell_at (in_version u s) i ≡ cell_in u v (cell_at s i)
cell_in_lem s One v e i h = refl
cell_in_lem s Two One e i h = rw e (restamp_cell s i h)
cell_in_lem s Two Two e i h = rw e refl

cells_in : (s : List ℕ) (u v : Version) → version_of s ≡ v → (k : ℕ) → mapped_cells (carried u v k) s (count s) 0 ≡ mapped_cells (raised k) (in_version u s) (count s) 0
cells_in s u v e k = mapped_alike (carried u v k) (raised k) s (in_version u s) (count s) 0 (λ j l. sym (ap (raised k) (cell_in_lem s u v e j (omega arith))))

-- ---- all of it

module _ {p q d : List ℕ} (yp : IsBytes p) (yq : IsBytes q) (r : JointReady p q d) where
  pub first_ready : CarryReady p d (count p) 0
  first_ready =
      record {
        within = omega arith;
        room = omega (arith, r.room, r.few);
        low = omega (arith, r.few);
        sound = λ i l. cell_looser (version_of p) p i (r.project.formed.sound i l);
      }

  pub second_ready : {c : List ℕ} → length c ≡ length d → CarryReady q c (count q) (count p)
  second_ready e =
      record {
        within = omega arith;
        room = omega (arith, r.room, r.few, e);
        low = omega (arith, r.few);
        sound = λ i l. cell_looser (version_of q) q i (r.part.formed.sound i l);
      }

  module _ {x y e : List ℕ} {v w u : Version} (ev : v ≡ version_of p) (ew : w ≡ version_of q) (eu : u ≡ joint_version p q)
      (a : Carries p d x (count p) 0 v u) (b : Carries q x y (count q) (count p) w u) (c : Finishes y e (count p + count q) (root_of p) (count p + root_of q) u) where
    is_joint : e ≡ sets d 0 (joint p q)
    unfolding joint together
    is_joint =
        let o = joint_version p q in
        let s = project_in_version p q yp yq r.project r.part in
        let t = part_in_version p q yp yq r.project r.part in
        let f = mapped_cells (raised 0) (in_version o p) (count p) 0 in
        let g = mapped_cells (raised (count p)) (in_version o q) (count q) 0 in
        let z = cell_bytes (merge_cell (root_of p) (count p + root_of q)) ++ trailer o (count p + count q + 1) (count p + count q) in
        let ef : x ≡ sets d 0 f = (rw (eu, ev) at a.is) ∙ ap (sets d 0) (cells_in p o (version_of p) refl 0) in
        let eg : y ≡ sets x (8 * count p) g = (rw (eu, ew) at b.is) ∙ ap (sets x (8 * count p)) (cells_in q o (version_of q) refl (count p)) in
        let ez : e ≡ sets y (8 * (count p + count q)) z = rw eu at c.is in
        let lf : length f ≡ 8 * count p = length_mapped (raised 0) (in_version o p) (count p) 0 in
        let lg : length g ≡ 8 * count q = length_mapped (raised (count p)) (in_version o q) (count q) 0 in
        let all : e ≡ sets d 0 (f ++ (g ++ z)) =
        ez
        ∙ behind g z x (8 * count p) eg (omega (arith, lg))
        ∙ behind f (g ++ z) d 0 ef (omega (arith, lf)) in
        rw (s.rooted, t.rooted, s.counted, t.counted) all

    pub writes_joint : WritesJoint p q d e (8 * (count p + count q + 2))
    writes_joint =
        record { bytes = omega (arith, (joint_of p q yp yq r.project r.part r.few).long); is = is_joint }
