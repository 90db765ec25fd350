-- A focus that is left goes on. Assumes nothing.
use Prim.Native.Nat.{ℕ, ◌+◌, ◌*◌, ◌-◌}
use native.Mathlib.Omega.{arith}
use mathlib.Core.Path.{◌≡◌, sym, subst}
use mathlib.Core.List.{List}
use lib.Seq.{sets}
use Rattle.format.specs.Cell.{Cell, cell_bytes}
use Rattle.running.specs.Places.{FocusReady, Moves, GoesOn, WaitingOne, WaitingFirst, WaitingSecond}
use Rattle.running.specs.declared.Place.{Place}
use Rattle.running.specs.declared.Focus.TheVariants.{Ahead, Done, Redex}
use Rattle.running.proofs.Leaving.{closed, redexed, onward}
use Rattle.running.proofs.Ranges.{done_range, ahead_range, above_some, stored, left_within, up_within}
use Rattle.running.proofs.Leaves.{single_done, single_redex, second_on, both_done, both_redex}

module _ {w v : List ℕ} {p q : Place} where
  closed_on : {o u : ℕ} → FocusReady w (Done p) → (p.up ≡ 0 → ⊥) → Moves w v (Done p) (Done (closed p o u)) → q ≡ closed p o u → GoesOn w v (Done p) (Done q)
  closed_on h some m i =
      let a = above_some (done_range h.standing.at).up some in
      subst (λ (z : Place). GoesOn w v (Done p) (Done z)) (sym i) (record { moves = m; falls = omega (arith, a.0, a.1) })

  onward_on : {b : ℕ} → FocusReady w (Done p) → Moves w v (Done p) (Ahead (onward p b)) → q ≡ onward p b → GoesOn w v (Done p) (Ahead q)
  onward_on h m i =
      let r = ahead_range (m.says h.term h.standing h.runnable).at in
      subst (λ (z : Place). GoesOn w v (Done p) (Ahead z)) (sym i) (record { moves = m; falls = omega (arith, r.root) })

  redexed_on : {o u : ℕ} → Moves w v (Done p) (Redex (redexed p o u)) → q ≡ redexed p o u → GoesOn w v (Done p) (Redex q)
  redexed_on m i = subst (λ (z : Place). GoesOn w v (Done p) (Redex z)) (sym i) (record { moves = m; falls = omega arith })

-- ---- the cell that is written, and where the focus goes

-- a cell with one part, with both
abbrev one : Place → Cell → Cell
one p t = record { kind = t.kind; label = t.label; a = p.left - 1; b = t.b; c = t.c }

abbrev two : Place → Cell → Cell
two p t = record { kind = t.kind; label = t.label; a = t.a; b = p.left - 1; c = 0 }

module _ {w v : List ℕ} {p q : Place} {t : Cell} where
  pub single_closes : WaitingOne w p t → t.kind ≡ 24 → v ≡ sets w (8 * p.left) (cell_bytes (one p t)) → q ≡ closed p p.start t.a → GoesOn w v (Done p) (Done q)
  single_closes d k e i =
      let a = d.waiting in
      let x = stored _ (left_within a.ready.standing) e in
      closed_on a.ready a.some (single_done p t a.some a.cell k x.wrote x.there) i

  pub single_stays : WaitingOne w p t → (t.kind ≡ 24 → ⊥) → v ≡ sets w (8 * p.up) (cell_bytes (one p t)) → q ≡ redexed p p.start t.a → GoesOn w v (Done p) (Redex q)
  single_stays d k e i =
      let a = d.waiting in
      let x = stored _ (up_within a.ready.standing a.some) e in
      redexed_on (single_redex p t a.some a.cell d.no_app d.no_merge d.no_sum k x.wrote x.there) i

  pub turns : WaitingFirst w p t → v ≡ sets w (8 * p.up) (cell_bytes (record { kind = t.kind; label = t.label; a = p.left - 1; b = t.a; c = p.start + 1 })) →
      q ≡ onward p t.b → GoesOn w v (Done p) (Ahead q)
  turns d e i =
      let a = d.waiting in
      let x = stored _ (up_within a.ready.standing a.some) e in
      onward_on a.ready (second_on p t a.some a.cell d.two d.first x.wrote x.there) i

  pub both_close : WaitingSecond w p t → t.kind ≡ 22 → v ≡ sets w (8 * p.left) (cell_bytes (two p t)) → q ≡ closed p (t.c - 1) t.b → GoesOn w v (Done p) (Done q)
  both_close d k e i =
      let a = d.waiting in
      let x = stored _ (left_within a.ready.standing) e in
      closed_on a.ready a.some (both_done p t a.some a.cell k d.second x.wrote x.there) i

  pub both_stay : WaitingSecond w p t → (t.kind ≡ 22 → ⊥) → v ≡ sets w (8 * p.up) (cell_bytes (two p t)) → q ≡ redexed p (t.c - 1) t.b → GoesOn w v (Done p) (Redex q)
  both_stay d k e i =
      let a = d.waiting in
      let x = stored _ (up_within a.ready.standing a.some) e in
      redexed_on (both_redex p t a.some a.cell d.two k d.second x.wrote x.there) i
