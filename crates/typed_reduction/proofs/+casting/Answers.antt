-- The reading of a held value under a held type is emitted exactly. The measure is twice the type's size, and one more for
-- `emit_value_cast`. Assumes nothing.
use native.Mathlib.Omega.{arith}
use mathlib.Core.Path.{◌≡◌, refl}
use Rattle.cells.specs.Coded.{as_cell}
use Rattle.cells.proofs.Held.{held_within}
use Rattle.emission.proofs.Runs.{holds_type}
use Rattle.emission.proofs.Chain.{First, Third, first, none_first, second_space, second, second_none, none_second, third_none, ends, last_ready, emitted}
use Rattle.typed_reduction.proofs.Emitting.{all_casts, Split, smaller, merge_chain, first_ready, first_each, second_ready, second_each}
use Rattle.typed_reduction.proofs.Emitting.{emits_top, part_ready, proper_at, no_part, Found, part_within, number_last, emits_number}
use Rattle.typed_reduction.proofs.Emitting.{function_ready, emits_arrow, Recorded, record_chain, content_smaller, content_ready, content_each}
use Prim.Native.Nat.{ℕ}
use Rattle.typed_reduction.proofs.+casting.Goals as goal
use Rattle.typed_reduction.proofs.+casting.Goals.{emit_part-After-read_cell-y}
use Rattle.typed_reduction.proofs.+casting.Goals.{emit_part-Else-y-eq1}
use Rattle.typed_reduction.proofs.+casting.Goals.{emit_part-In_ok-z}
use Rattle.typed_reduction.proofs.+casting.Goals.{emit_value_cast-Else-t-ne4-2}
use Rattle.typed_reduction.proofs.+casting.Goals.{emit_value_cast-Then-t-ne4-2, emit_value_cast-else-t-eq1-via-then-t-eq1+else-t-ne4, emit_value_cast-else-t-eq1-via-else-t-eq1}
use Rattle.typed_reduction.proofs.+casting.Goals.{emit_value_cast-In_ok-x}
use Rattle.typed_reduction.proofs.+casting.Goals.{emit_value_cast-In_ok-y}

-- the part is found and the type's cell is read
found : (t : ℕ) → (c : emit_part-After-read_cell-y t) → let at = c.args in Found at.s.now at.d.now at.v at.a at.m c.in_ok-p.p (as_cell c.read_cell-y.result)
found t c =
    record {
      bytes = λ j. (c.type_inv.s j).fits;
      ready = c.requires;
      answer = c.part_of.result;
      finds = c.part_of.ensures;
      at = c.in_ok-p.was;
      is = c.read_cell-y.ensures;
    }

-- it is a record; and its content fitted
recorded : (t : ℕ) → (c : emit_part-Else-y-eq1 t) → let at = c.args in Recorded at.s.now at.d.now at.v at.a at.m c.in_ok-p.p (as_cell c.read_cell-y.result) (as_cell c.read_cell-x.result)
recorded t c =
    record { found = found t (goal.at.emit_part-Else-y-eq1 t c).After-read_cell-y; cell = c.read_cell-x.ensures; not_int = c.if-y-eq1.false; not_arrow = c.if-y-eq3.false }

after_content : (t : ℕ) → (c : emit_part-In_ok-z t) → Third (record_chain (recorded t (goal.at.emit_part-In_ok-z t c).Else-y-eq1)) c.emit_value_cast.new.d c.in_ok-z.z c.emit_value_cast.new.d c.in_ok-z.z c.emit_value_cast.new.d c.in_ok-z.z
after_content t c =
    let g = recorded t (goal.at.emit_part-In_ok-z t c).Else-y-eq1 in
    third_none (second_none (first (record_chain g) (content_each g c.emit_value_cast.ensures) c.in_ok-z.was) refl) refl

-- a type that is no intersection and is not answered at once is not top-like
not_marked : (t : ℕ) (c : emit_value_cast-Then-t-ne4-2 t) → c.read_cell-t.result.c ≡ 1 → ⊥
not_marked t c = elim c.else-t-eq1.branch [
  | emit_value_cast-else-t-eq1-via-then-t-eq1+else-t-ne4 w ↦ absurd (c.if-t-ne4-2.true w.if-t-ne4.false)
  | emit_value_cast-else-t-eq1-via-else-t-eq1 w ↦ w.if-t-eq1.false
]

-- the type is an intersection; and each half fitted
split : (t : ℕ) → (c : emit_value_cast-Else-t-ne4-2 t) → let at = c.args in Split at.s.now at.d.now at.v at.a at.m (as_cell c.read_cell-t.result)
split t c = record { is = c.read_cell-t.ensures; kind = c.if-t-ne4-2.false; ready = c.requires }

after_first : (t : ℕ) → (c : emit_value_cast-In_ok-x t) → First (merge_chain (split t (goal.at.emit_value_cast-In_ok-x t c).Else-t-ne4-2)) c.emit_value_cast.new.d c.in_ok-x.x
after_first t c = let g = split t (goal.at.emit_value_cast-In_ok-x t c).Else-t-ne4-2 in first (merge_chain g) (first_each g c.emit_value_cast.ensures) c.in_ok-x.was

after_second : (t : ℕ) → (c : emit_value_cast-In_ok-y t) → Third (merge_chain (split t (goal.at.emit_value_cast-In_ok-y t c).Else-t-ne4-2)) c.emit_value_cast.new.d c.in_ok-x.x c.emit_value_cast-2.new.d c.in_ok-y.y c.emit_value_cast-2.new.d c.in_ok-y.y
after_second t c =
    let g = split t (goal.at.emit_value_cast-In_ok-y t c).Else-t-ne4-2 in
    third_none (second (after_first t (goal.at.emit_value_cast-In_ok-y t c).In_ok-x) (second_each g c.emit_value_cast-2.ensures) c.in_ok-y.was) refl

pub emit_part-part_of-requires : goal.emit_part-part_of-requires
emit_part-part_of-requires t c = proper_at c.requires

pub emit_part-returns-in_err-p : goal.emit_part-returns-in_err-p
emit_part-returns-in_err-p t c = no_part c.part_of.ensures c.in_err-p.was

pub emit_part-read_cell-y-requires : goal.emit_part-read_cell-y-requires
emit_part-read_cell-y-requires t c = held_within (holds_type c.requires.ready.both.holds_type)

pub emit_part-emit_function-requires : goal.emit_part-emit_function-requires
emit_part-emit_function-requires t c = function_ready (found t (goal.at.emit_part-emit_function-requires t c).After-read_cell-y) c.if-y-eq3.true

pub emit_part-returns-then-y-eq3 : goal.emit_part-returns-then-y-eq3
emit_part-returns-then-y-eq3 t c =
    emits_arrow (found t (goal.at.emit_part-returns-then-y-eq3 t c).After-read_cell-y) c.if-y-eq3.true c.emit_function.ensures

pub emit_part-read_cell-x-requires : goal.emit_part-read_cell-x-requires
emit_part-read_cell-x-requires t c = part_within (found t (goal.at.emit_part-read_cell-x-requires t c).After-read_cell-y)

pub emit_part-finish-requires : goal.emit_part-finish-requires
emit_part-finish-requires t c = number_last (found t (goal.at.emit_part-finish-requires t c).After-read_cell-y) c.read_cell-x.ensures

pub emit_part-returns-then-y-eq1 : goal.emit_part-returns-then-y-eq1
emit_part-returns-then-y-eq1 t c =
    emits_number (found t (goal.at.emit_part-returns-then-y-eq1 t c).After-read_cell-y) c.read_cell-x.ensures c.if-y-eq1.true c.finish.ensures

pub emit_part-emit_value_cast-requires : goal.emit_part-emit_value_cast-requires
emit_part-emit_value_cast-requires t c =
    let g = recorded t (goal.at.emit_part-emit_value_cast-requires t c).Else-y-eq1 in
    (omega (arith, content_smaller g, c.decreases), content_ready g)

pub emit_part-returns-in_err-z : goal.emit_part-returns-in_err-z
emit_part-returns-in_err-z t c =
    let g = recorded t (goal.at.emit_part-returns-in_err-z t c).Else-y-eq1 in rw c.from_residual-in_err-z.ensures (all_casts (none_first (record_chain g) (content_each g c.emit_value_cast.ensures) c.in_err-z.was))

pub emit_part-overflow_sub-z : goal.emit_part-overflow_sub-z
emit_part-overflow_sub-z t c = (ends (after_content t (goal.at.emit_part-overflow_sub-z t c).In_ok-z)).0

pub emit_part-finish-requires-2 : goal.emit_part-finish-requires-2
emit_part-finish-requires-2 t c = last_ready (after_content t (goal.at.emit_part-finish-requires-2 t c).In_ok-z)

pub emit_part-returns : goal.emit_part-returns
emit_part-returns t c = all_casts (emitted (after_content t (goal.at.emit_part-returns t c).In_ok-z) c.finish-2.ensures)

pub emit_value_cast-read_cell-t-requires : goal.emit_value_cast-read_cell-t-requires
emit_value_cast-read_cell-t-requires t c = held_within (holds_type c.requires.both.holds_type)

pub emit_value_cast-returns-then-t-ne4 : goal.emit_value_cast-returns-then-t-ne4
emit_value_cast-returns-then-t-ne4 t c =
    emits_top c.read_cell-t.ensures c.requires (c.if-t-ne4.true) c.if-t-eq1.true c.finish_top.ensures

pub emit_value_cast-emit_part-requires : goal.emit_value_cast-emit_part-requires
emit_value_cast-emit_part-requires t c =
    (omega (arith, c.decreases), part_ready c.read_cell-t.ensures c.requires c.if-t-ne4-2.true (not_marked t (goal.at.emit_value_cast-emit_part-requires t c).Then-t-ne4-2))

pub emit_value_cast-returns-then-t-ne4-2 : goal.emit_value_cast-returns-then-t-ne4-2
emit_value_cast-returns-then-t-ne4-2 t c = c.emit_part.ensures

pub emit_value_cast-emit_value_cast-requires : goal.emit_value_cast-emit_value_cast-requires
emit_value_cast-emit_value_cast-requires t c =
    let g = split t (goal.at.emit_value_cast-emit_value_cast-requires t c).Else-t-ne4-2 in (omega (arith, (smaller g).0, c.decreases), first_ready g c.requires.space)

pub emit_value_cast-returns-in_err-x : goal.emit_value_cast-returns-in_err-x
emit_value_cast-returns-in_err-x t c =
    let g = split t (goal.at.emit_value_cast-returns-in_err-x t c).Else-t-ne4-2 in rw c.from_residual.ensures (all_casts (none_first (merge_chain g) (first_each g c.emit_value_cast.ensures) c.in_err-x.was))

pub emit_value_cast-emit_value_cast-requires-2 : goal.emit_value_cast-emit_value_cast-requires-2
emit_value_cast-emit_value_cast-requires-2 t c =
    let g = split t (goal.at.emit_value_cast-emit_value_cast-requires-2 t c).Else-t-ne4-2 in (omega (arith, (smaller g).1, c.decreases), second_ready g (second_space (after_first t (goal.at.emit_value_cast-emit_value_cast-requires-2 t c).In_ok-x)))

pub emit_value_cast-returns-in_err-y : goal.emit_value_cast-returns-in_err-y
emit_value_cast-returns-in_err-y t c =
    let g = split t (goal.at.emit_value_cast-returns-in_err-y t c).Else-t-ne4-2 in
    rw c.from_residual-in_err-y.ensures (all_casts (none_second (after_first t (goal.at.emit_value_cast-returns-in_err-y t c).In_ok-x) (second_each g c.emit_value_cast-2.ensures) c.in_err-y.was))

pub emit_value_cast-overflow_sub-x : goal.emit_value_cast-overflow_sub-x
emit_value_cast-overflow_sub-x t c = (ends (after_second t (goal.at.emit_value_cast-overflow_sub-x t c).In_ok-y)).0

pub emit_value_cast-overflow_sub-y : goal.emit_value_cast-overflow_sub-y
emit_value_cast-overflow_sub-y t c = (ends (after_second t (goal.at.emit_value_cast-overflow_sub-y t c).In_ok-y)).1

pub emit_value_cast-finish-requires : goal.emit_value_cast-finish-requires
emit_value_cast-finish-requires t c = last_ready (after_second t (goal.at.emit_value_cast-finish-requires t c).In_ok-y)

pub emit_value_cast-returns : goal.emit_value_cast-returns
emit_value_cast-returns t c = all_casts (emitted (after_second t (goal.at.emit_value_cast-returns t c).In_ok-y) c.finish.ensures)
