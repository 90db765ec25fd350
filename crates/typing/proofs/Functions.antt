-- Functions and fixpoints: the context takes one binder more, and the body is checked under it. Assumes nothing.
use Prim.Native.Nat.{ℕ, ◌+◌, ◌*◌, ◌≤◌, ◌<◌}
use native.Mathlib.Omega.{arith}
use mathlib.Core.Path.{◌≡◌, refl, ◌∙◌, ap}
use mathlib.Core.List.{List, ◌∷◌}
use lib.ListN.{length}
use Rattle.calculus.proofs.Subtyping.{size_positive}
use Rattle.std.specs.Prelude.{Result, Ok, Err}
use Rattle.calculus.specs.Syntax.{Ty, arrow, Term, fix, size, size_type}
use Rattle.calculus.specs.Infer as Infer
use Rattle.calculus.specs.Infer.{infer}
use Rattle.calculus.specs.Decide.{is_top_like}
use Rattle.format.specs.Cell.{Cell, cell_at}
use Rattle.answers.specs.declared.Refusal.{Refusal}
use Rattle.cells.specs.Held.{HoldsType, HoldsTerm, HoldsContext, Same}
use Rattle.cells.proofs.Makes.{h_arrow}
use Rattle.cells.proofs.Held.{same_held, same_trans, held_within, type_mark, mark_one}
use Rattle.typing.specs.Finding.{Finds, ReadyFor, checked_here, Checks, RoomFor, Adds, BinderBelow, Binds}
use Rattle.typing.proofs.Answers.{Answer, checking, typed, refused_by, handed, carried, checked_carried}
use Rattle.typing.proofs.Parts.{Function, Noted, ready_body, Read, AtCell, lam_of, fix_of}
use Rattle.typing.proofs.Checking.{carried_on}

-- ---- a function

module _ {s : List ℕ} {n c i μ : ℕ} {y : Cell} (p : Read s n c i 21 μ y) where
  own : Function s i y p.ready.term
  own = lam_of p.cell p.ready.holds_term p.kind

  own_room : n + (1 + size own.body + size_type own.input + size_type own.output) ≤ 8192
  unfolding size
  own_room = rw own.is at p.ready.room

  pub lam_binds : BinderBelow s n y.b c
  lam_binds =
      record {
        long = p.ready.long;
        type_below = omega (arith, own.input_lower, p.ready.term_below);
        context_below = p.ready.context_below;
        room = omega (arith, own_room);
      }

  module _ {t : List ℕ} {m o : ℕ} (w : Binds s t n m y.b c o) where
    pub lam_asks : (3 * y.a + 2 < μ) × ReadyFor t m o y.a y.c
    lam_asks =
        let r = own_room in
        let l = size_positive own.input in
        let b : y.c < n = omega (arith, own.output_lower, p.ready.term_below) in (
          omega (arith, own.left.leads.lower, p.measure),
          record {
            ready = ready_body p.ready own.left w own.holds_input (omega arith);
            wanted = own.output;
            holds_wanted = same_held w.same b own.holds_output;
            wanted_below = omega (arith, w.counts);
          },
        )

    module _ {u : List ℕ} {k : ℕ} {r : Result ℕ Refusal} (f : Checks t u m k o y.a y.c r) where
      -- the body's answer, of whatever context and function the cells hold
      record Body (Γ : List Ty) (d : Term) : Type 0 where
        view : Function s i y d
        input_below : y.b < n
        output_below : y.c < n
        answer : Answer t u m k (size view.body) y.a r (checked_here (infer (view.input ∷ Γ) view.body) view.output)
        is : infer Γ d ≡ carried 0 (Infer.found (arrow view.input view.output)) (checked_here (infer (view.input ∷ Γ) view.body) view.output)

      body : {Γ : List Ty} {d : Term} → HoldsContext s c Γ → HoldsTerm s i d → Body Γ d
      unfolding infer
      body {Γ} g h =
          let v = lam_of p.cell h p.kind in
          let b = p.ready.term_below in
          let l : y.c < n = omega (arith, v.output_lower) in
          record {
            view = v;
            input_below = omega (arith, v.input_lower);
            output_below = l;
            answer =
                checking f (w.holds v.input Γ v.holds_input g) (same_held w.same (omega (arith, v.left.leads.lower)) v.left.holds)
                (same_held w.same l v.holds_output);
            is = ap (infer Γ) v.is ∙ checked_carried 0 (infer (v.input ∷ Γ) v.body) v.output (Infer.found (arrow v.input v.output));
          }

      pub lam_refused : {q : Refusal} → r ≡ Err q → Finds s u n k c i (Err q)
      lam_refused e =
          record {
            says = λ Γ d g h.
                let v = body g h in
                let z = refused_by v.answer e in
                rw (v.is, z.is) (handed v.view.left.leads p.ready.term_below w.same z);
          }

      module _ {x : ℕ} (e : r ≡ Ok x) where
        -- the body passed
        record Passed (Γ : List Ty) (d : Term) : Type 0 where
          of : Body Γ d
          is : infer Γ d ≡ Infer.found (arrow of.view.input of.view.output)
          more : n + 1 ≤ k
          less : k ≤ n + 1 + size of.view.body
          same : Same s u n
          input : HoldsType u y.b of.view.input
          output : HoldsType u y.c of.view.output

        passed : {Γ : List Ty} {d : Term} → HoldsContext s c Γ → HoldsTerm s i d → Passed Γ d
        passed g h =
            let v = body g h in
            let z = typed v.answer e in
            let S : Same s u n = same_trans w.same z.same (omega (arith, w.counts)) in
            record {
              of = v;
              is = v.is ∙ ap (carried 0 (Infer.found (arrow v.view.input v.view.output))) z.is;
              more = omega (arith, w.counts, z.more);
              less = omega (arith, w.counts, z.less);
              same = S;
              input = same_held S v.input_below v.view.holds_input;
              output = same_held S v.output_below v.view.holds_output;
            }

        own_passed : Passed p.ready.context p.ready.term
        own_passed = passed p.ready.holds_context p.ready.holds_term

        pub lam_within : 8 * y.c + 8 ≤ length u
        lam_within = held_within own_passed.output

        pub lam_room : {g : Cell} → g ≡ cell_at u y.c → RoomFor u k (record { kind = 3; label = 0; a = y.b; b = y.c; c = g.c })
        unfolding size
        lam_room j =
            let z = own_passed in
            let v = z.of.view in
            let l = ap size v.is in
            let r : k < 8192 = omega (arith, p.ready.room, z.less, size_positive v.input, size_positive v.output) in
            record {
              long = z.same.long ∙ p.ready.long;
              room = r;
              fits = record {
                a = omega (arith, z.of.input_below, z.more);
                b = omega (arith, z.of.output_below, z.more);
                c = rw (j, type_mark z.output) (omega (arith, mark_one v.output));
              };
            }

        pub lam_found : {v : List ℕ} {g : Cell} {l r' : ℕ} → g ≡ cell_at u y.c →
            Adds u v k l (record { kind = 3; label = 0; a = y.b; b = y.c; c = g.c }) r' → Finds s v n l c i (Ok r')
        unfolding size is_top_like
        lam_found j a =
            record {
              says = λ Γ d g h.
                  let z = passed g h in
                  let v = z.of.view in
                  let q = ap size v.is in
                  let b : y.b < k = omega (arith, z.of.input_below, z.more) in
                  let o : y.c < k = omega (arith, z.of.output_below, z.more) in
                  rw (z.is, a.answers, a.counts) (
                    k,
                    refl,
                    omega (arith, z.more),
                    omega (arith, z.less, size_positive v.input, size_positive v.output),
                    same_trans z.same a.same (omega (arith, z.more)),
                    omega arith,
                    h_arrow a.there (ap (λ (x : Cell). x.c) j ∙ type_mark z.output) b o (same_held a.same b z.input) (same_held a.same o z.output),
                  );
            }

-- ---- a fixpoint

module _ {s : List ℕ} {n c i μ : ℕ} {y : Cell} (p : Read s n c i 23 μ y) where
  fix_own : Noted s i y fix p.ready.term
  fix_own = fix_of p.cell p.ready.holds_term p.kind

  fix_room : n + (1 + size fix_own.term + size_type fix_own.type) ≤ 8192
  unfolding size
  fix_room = rw fix_own.is at p.ready.room

  pub fix_binds : BinderBelow s n y.b c
  fix_binds =
      record {
        long = p.ready.long;
        type_below = omega (arith, fix_own.lower, p.ready.term_below);
        context_below = p.ready.context_below;
        room = omega (arith, fix_room);
      }

  module _ {t : List ℕ} {m o : ℕ} (w : Binds s t n m y.b c o) where
    pub fix_asks : (3 * y.a + 2 < μ) × ReadyFor t m o y.a y.b
    fix_asks =
        let r = fix_room in
        let l = size_positive fix_own.type in (
          omega (arith, fix_own.left.leads.lower, p.measure),
          record {
            ready = ready_body p.ready fix_own.left w fix_own.holds (omega arith);
            wanted = fix_own.type;
            holds_wanted = same_held w.same fix_binds.type_below fix_own.holds;
            wanted_below = omega (arith, fix_binds.type_below, w.counts);
          },
        )

    pub fix_finds : {u : List ℕ} {k : ℕ} {r : Result ℕ Refusal} → Checks t u m k o y.a y.b r → Finds s u n k c i r
    unfolding infer size
    fix_finds f =
        record {
          says = λ Γ d g h.
              let v = fix_of p.cell h p.kind in
              let b = p.ready.term_below in
              let l = same_held w.same (omega (arith, v.left.leads.lower)) v.left.holds in
              rw (v.is, checked_carried 0 (infer (v.type ∷ Γ) v.term) v.type (Infer.found v.type))
              (carried_on (infer (v.type ∷ Γ) v.term) v.type (size (fix v.term v.type)) v.left.leads b w.same
              (omega (arith, w.counts)) (omega (arith, w.counts, size_positive v.type))
              (checking f (w.holds v.type Γ v.holds g) l (same_held w.same fix_binds.type_below v.holds)));
        }

-- ---- the point of the code where a function's body is checked

pub record AtBody (μ : ℕ) : Type 0 where
  pub at : AtCell 21 μ
  pub t : List ℕ
  pub u : List ℕ
  pub m : ℕ
  pub k : ℕ
  pub o : ℕ
  pub answer : Result ℕ Refusal
  pub binds : Binds at.s t at.n m at.y.b at.c o
  pub checks : Checks t u m k o at.y.a at.y.c answer
