-- What each return of a step says. Assumes nothing.
use Prim.Native.Nat.{ℕ, ◌+◌, ◌≤◌, ◌<◌, max}
use native.Mathlib.Omega.{arith}
use mathlib.Core.Path.{◌≡◌, refl, sym, ap, ◌∙◌, subst}
use mathlib.Core.Bool.{true, false}
use mathlib.Core.List.{List}
use mathlib.Core.Option.{some}
use Rattle.std.specs.Prelude.{Option, Some, None}
use Rattle.std.specs.declared.ops.ControlFlow.TheVariants.{Continue, Break}
use borrow.Author.Tests.{lt-ltb, le-ltb}
use Rattle.calculus.specs.Syntax.{Term, size}
use Rattle.calculus.specs.Decide.{is_value}
use Rattle.calculus.specs.Evaluate.{next}
use Rattle.format.specs.declared.Version.{Version}
use Rattle.format.specs.Version.{half_of}
use Rattle.format.specs.Book.{size_limit}
use Rattle.answers.specs.declared.Stop.TheVariants.{Value, Spent, Room}
use Rattle.running.specs.Contexts.{Around, whole}
use Rattle.running.specs.Places.{Standing, focus_place, GapWithin, standing_cells_lem, Runnable, FocusReady, Settled, Settles, Contracts, ContractsTo, c_to, c_full}
use Rattle.running.specs.Turns.{TurnOf, t_value, t_spent, t_room, t_next, Steps}
use Rattle.running.specs.declared.Place.{Place}
use Rattle.running.specs.declared.Focus.{Focus}
use Rattle.running.specs.declared.Focus.TheVariants.{Ahead, Done, Redex, Whole}
use Rattle.running.specs.declared.State.{State}
use Rattle.running.proofs.Contexts.{no_value}
use Rattle.running.proofs.Standing.{successor, next_runnable}
use Rattle.running.proofs.Projecting.{redex_value}
use Rattle.running.proofs.Sizes.{gap_within, standing_size}

-- a whole value is one
whole_value : {w : List ℕ} {p : Place} {e : Term} → Standing w (Whole p) e → is_value e ≡ true
unfolding whole
whole_value s = ap is_value (s.is ∙ ap (λ (K : List Around). whole K s.focus) s.at.0) ∙ s.at.1.value

-- a term with a redex is none
redex_none : {w : List ℕ} {p : Place} {e : Term} → Standing w (Redex p) e → is_value e ≡ false
redex_none s = ap is_value s.is ∙ no_value s.around s.focus s.proper (redex_value s.at.parts)

pub turn_value : {u : Version} {w : List ℕ} {x : State} {l : ℕ} → Settled x.focus → ((p : Place) → x.focus ≡ Redex p → ⊥) → Steps u w w x l (Break (Value x.steps))
turn_value {w} {x} {l} h n = record { says = λ e s r. t_value (go x.focus refl e (s)) refl s }
  where
    go : (y : Focus) → x.focus ≡ y → (e : Term) → Standing w x.focus e → is_value e ≡ true
    go (Ahead p) q e s = absurd (subst Settled q h)
    go (Done p) q e s = absurd (subst Settled q h)
    go (Redex p) q e s = absurd (n p q)
    go (Whole p) q e s = whole_value (subst (λ (y : Focus). Standing w y e) q s)

module _ {w : List ℕ} {y : Focus} {p : Place} (q : y ≡ Redex p) where
  at : {e : Term} → Standing w y e → Standing w (Redex p) e
  at {e} s = subst (λ (y : Focus). Standing w y e) q s

  module _ (u : Version) {v : List ℕ} {o : Option Focus} (c : Contracts (half_of u) w v p o) where
    contracted : {e : Term} (s : Standing w y e) (r : Runnable e) → (g : Term) × (next (half_of u) e ≡ some g) × ContractsTo w v g o
    contracted {e} s r = let n = successor (half_of u) r (redex_none (at s)) in (n.0, n.1, c.says e n.0 (at s) r n.1)

    -- what was contracted can settle
    pub contracted_ready : {z : Focus} → FocusReady w y → o ≡ Some z → FocusReady v z
    contracted_ready {z} h f = let a = contracted h.standing h.runnable in by a.0 a.1 a.2
      where
        by : (g : Term) → next (half_of u) h.term ≡ some g → ContractsTo w v g o → FocusReady v z
        by g n (c_to {x = d} l k t) =
            let i : d ≡ z = cc in
            record { term = g; standing = subst (λ (d : Focus). Standing v d g) i t; runnable = next_runnable u h.runnable n l }
        by g n (c_full u k t) = let z : ◌≡◌ {A = ℕ} 0 1 = cc in absurd (omega arith)

    -- where it has settled, its cells can be counted
    pub settled_gap : {z x : Focus} {q : Place} {a : List ℕ} → FocusReady w y → o ≡ Some z → Settles v a z x → q ≡ focus_place x → GapWithin q
    settled_gap h f t i =
        let r = contracted_ready h f in
        subst GapWithin (sym i) (gap_within (record { term = r.term; standing = t.moves.says r.term r.standing r.runnable; runnable = r.runnable }))

pub turn_spent : {u : Version} {w : List ℕ} {x : State} {l : ℕ} {p : Place} → x.focus ≡ Redex p → x.steps ≡ l → Steps u w w x l (Break (Spent x.steps))
turn_spent {x = x} q h = record { says = λ e s r. t_spent (redex_none (at q s)) h refl s }

below : {k l : ℕ} → k ≤ l → (k ≡ l → ⊥) → k < l
below i n = omega arith

module _ (u : Version) {w v : List ℕ} {x : State} {l : ℕ} {p : Place} {o : Option Focus} (q : x.focus ≡ Redex p) (c : Contracts (half_of u) w v p o) (le : x.steps ≤ l) (ne : x.steps ≡ l → ⊥) where
  pub turn_room : o ≡ None → Steps u w v x l (Break (Room x.steps))
  turn_room f = record { says = go }
    where
      go : (e : Term) → Standing w x.focus e → Runnable e → TurnOf u v x l e (Break (Room x.steps))
      go e s r = let a = contracted q u c s r in by a.0 a.1 a.2
        where
          by : (g : Term) → next (half_of u) e ≡ some g → ContractsTo w v g o → TurnOf u v x l e (Break (Room x.steps))
          by g n (c_to u z y) = let z : ◌≡◌ {A = ℕ} 0 1 = cc in absurd (omega arith)
          by g n (c_full u z y) =
              t_room (redex_none (at q s)) (below le ne) n (lt-ltb size_limit (size g) u) refl (subst (λ (d : List ℕ). Standing d x.focus e) (sym y) s)

  pub turn_next : {y z : Focus} {q : Place} {a : List ℕ} {n m : ℕ} → o ≡ Some y → Settles v a y z → q ≡ focus_place z → n ≡ standing_cells_lem q → m ≡ max x.mark n →
      Steps u w a x l (Continue (record { focus = z; steps = x.steps + 1; mark = m }))
  turn_next {y} {z} {q = at_z} {a} {n} {m} f t p_is i j = record { says = go }
    where
      go : (e : Term) → Standing w x.focus e → Runnable e → TurnOf u a x l e (Continue (record { focus = z; steps = x.steps + 1; mark = m }))
      go e s r = let k = contracted q u c s r in by k.0 k.1 k.2
        where
          by : (g : Term) → next (half_of u) e ≡ some g → ContractsTo w v g o →
              TurnOf u a x l e (Continue (record { focus = z; steps = x.steps + 1; mark = m }))
          by g n (c_to {x = d} b k c) =
              let d_is : d ≡ y = cc in
              let there : Standing a z g = t.moves.says g (subst (λ (d : Focus). Standing v d g) d_is c) (next_runnable u r n b) in
              t_next (redex_none (at q s)) (below le ne) n (le-ltb size_limit (size g) b) refl refl (j ∙ ap (max x.mark) (i ∙ ap standing_cells_lem p_is ∙ sym (standing_size there))) t.settled there
          by g n (c_full b k c) = let z : ◌≡◌ {A = ℕ} 0 1 = cc in absurd (omega arith)
