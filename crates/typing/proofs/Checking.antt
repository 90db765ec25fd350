-- Checking, and what is checked under an annotation. Assumes nothing.
use Prim.Native.Nat.{ℕ, ◌+◌, ◌*◌, ◌≤◌, ◌<◌}
use native.Mathlib.Omega.{arith}
use mathlib.Core.Path.{◌≡◌, refl}
use mathlib.Core.Bool.{Bool, true, false, cond}
use mathlib.Core.List.{List, []}
use Rattle.std.specs.Prelude.{Result, Ok, Err}
use Rattle.calculus.specs.Syntax.{Ty, anno, size}
use Rattle.calculus.specs.Infer as Infer
use Rattle.calculus.specs.Infer.{mismatch, infer}
use Rattle.calculus.specs.Decide.{is_below}
use Rattle.format.specs.Cell.{Cell}
use Rattle.format.specs.Book.{follow}
use Rattle.answers.specs.declared.Refusal.{Refusal}
use Rattle.answers.specs.declared.Refusal.TheVariants.{Mismatch}
use Rattle.cells.specs.Held.{Same}
use Rattle.cells.proofs.Held.{same_held, same_refl, same_trans}
use Rattle.decisions.specs.Questions.{TypesAt, TypesSay}
use Rattle.typing.specs.Finding.{Answered, Finds, ReadyFor, checked_here, Checks}
use Rattle.typing.proofs.Paths.{Leads}
use Rattle.typing.proofs.Answers.{Answer, finding, checking, typed, refused_by, handed, carried, checked_carried}
use Rattle.typing.proofs.Parts.{ready_part, found, Read, FoundAt, anno_of}

-- ---- `check`

pub check_refused : {s u : List ℕ} {n k c i w : ℕ} {q : Refusal} {r : Result ℕ Refusal} → Finds s u n k c i r → r ≡ Err q → Checks s u n k c i w (Err q)
check_refused {q = q} f e = record { says = λ Γ t A g h a. let z = refused_by (finding f g h) e in rw z.is (q, refl, z.says) }

-- the found type and the wanted one, for the test
pub check_asks : {s u : List ℕ} {n k c i w x : ℕ} → ReadyFor s n c i w → FoundAt s u n k c i x → TypesAt u x w
check_asks p f =
    let z = found p.ready f.finds f.is in
    record { first = z.type; second = p.wanted; holds_first = z.holds; holds_second = same_held z.same p.wanted_below p.holds_wanted }

module _ {s u : List ℕ} {n k c i w x : ℕ} {b : Bool} (p : ReadyFor s n c i w) (f : FoundAt s u n k c i x) (t : TypesSay u x w is_below b) where
  pub check_found : b ≡ true → Checks s u n k c i w (Ok w)
  check_found y =
      record {
        says = λ Γ d A g h a.
            let z = typed (finding f.finds g h) f.is in
            let v = same_held z.same p.wanted_below a in
            rw (z.is, ← t.says z.type A z.holds v, y)
            (_, refl, z.more, z.less, z.same, omega (arith, p.wanted_below, z.more), v);
      }

  pub check_mismatch : b ≡ false → Checks s u n k c i w (Err (Mismatch i))
  unfolding follow
  check_mismatch y =
      record {
        says = λ Γ d A g h a.
            let z = typed (finding f.finds g h) f.is in
            let v = same_held z.same p.wanted_below a in
            rw (z.is, ← t.says z.type A z.holds v, y)
            (Mismatch i, refl, refl);
      }

-- the point of the code where the type is found
pub record AtWanted : Type 0 where
  pub s : List ℕ
  pub u : List ℕ
  pub n : ℕ
  pub c : ℕ
  pub i : ℕ
  pub w : ℕ
  pub k : ℕ
  pub x : ℕ
  pub wanted : ReadyFor s n c i w
  pub found : FoundAt s u n k c i x

-- ---- a part that is checked against the whole's type

-- What a check finds is the wanted type.
checked_type : (F : Infer.Found) (A C : Ty) → checked_here F A ≡ Infer.found C → C ≡ A
checked_type (Infer.found D) A C h = go (is_below D A) h
  where
    go : (b : Bool) → cond b (Infer.found A) (Infer.refused mismatch []) ≡ Infer.found C → C ≡ A
    go true e = cc
    go false e = let z : ◌≡◌ {A = ℕ} 0 1 = cc in absurd (omega arith)
checked_type (Infer.refused w p) A C e = let z : ◌≡◌ {A = ℕ} 0 1 = cc in absurd (omega arith)

-- The answer for the part, from a later buffer with the same first n cells, is the answer for the whole.
pub carried_on : {s t u : List ℕ} {n k o l i f j : ℕ} {r : Result ℕ Refusal} (F : Infer.Found) (A : Ty) (m : ℕ) → Leads s i f j → i < n → Same s t n → n ≤ k →
    k + l ≤ n + m → Answer t u k o l j r (checked_here F A) → Answered s u n o m i r (carried f (Infer.found A) (checked_here F A))
carried_on {s} {t} {u} {n} {k} {o} {l} {i} {f} {j} {r} F A m v b p q g a = go (checked_here F A) (checked_type F A) a.says
  where
    go : (G : Infer.Found) → ((C : Ty) → G ≡ Infer.found C → C ≡ A) → Answered t u k o l j r G → Answered s u n o m i r (carried f (Infer.found A) G)
    go (Infer.found C) y h =
        (h.0, h.1, omega (arith, h.2), omega (arith, h.3), same_trans p h.4 q, h.5, rw (← y C refl) h.6)
    go (Infer.refused w c) y h = rw h.1 (handed v b p (record { reason = w; path = c; is = refl; says = h.2 }))

-- ---- an annotation

pub anno_asks : {s : List ℕ} {n c i μ : ℕ} {y : Cell} → Read s n c i 19 μ y → (3 * y.a + 2 < μ) × ReadyFor s n c y.a y.b
unfolding size
anno_asks {s} {n} p =
    let v = anno_of p.cell p.ready.holds_term p.kind in
    let r : n + size (anno v.term v.type) ≤ 8192 = rw v.is at p.ready.room in (
      omega (arith, v.left.leads.lower, p.measure),
      record {
        ready = ready_part p.ready v.left (same_refl s n) (omega arith) (omega arith);
        wanted = v.type;
        holds_wanted = v.holds;
        wanted_below = omega (arith, v.lower, p.ready.term_below);
      },
    )

pub anno_finds : {s u : List ℕ} {n k c i μ : ℕ} {y : Cell} {r : Result ℕ Refusal} → Read s n c i 19 μ y → Checks s u n k c y.a y.b r → Finds s u n k c i r
unfolding size infer
anno_finds {s} {u} {n} {c} {i} p f =
    record {
      says = λ Γ e g h.
          let v = anno_of p.cell h p.kind in
          rw (v.is, checked_carried 0 (infer Γ v.term) v.type (Infer.found v.type))
          (carried_on (infer Γ v.term) v.type (size (anno v.term v.type)) v.left.leads p.ready.term_below (same_refl s n) (omega arith) (omega arith)
          (checking f g v.left.holds v.holds));
    }
