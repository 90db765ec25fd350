-- A function is emitted with the output type of a function type. Assumes nothing.
use native.Mathlib.Omega.{arith}
use Rattle.cells.specs.Coded.{as_cell}
use Rattle.emission.proofs.Chain.{First, Second, Third, first, none_first, second_space, second, none_second, third_space, third, none_third}
use Rattle.emission.proofs.Chain.{ends, last_ready, emitted}
use Rattle.typed_reduction.proofs.Emitting.{Started, function_chain, functions, cells_fit}
use Rattle.typed_reduction.proofs.Emitting.{body_ready, body_each, input_ready, input_each, output_ready, output_each}
use Rattle.typed_reduction.proofs.emit_function.Goals as goal
use Rattle.typed_reduction.proofs.emit_function.Goals.{After-read_cell-t, In_ok-x, In_ok-y, In_ok-z}

-- what is known once both cells are read, and after each part that fitted
started : (c : After-read_cell-t) → Started c.args.s.now c.args.d.now c.args.p c.args.a c.args.m (as_cell c.read_cell-f.result) (as_cell c.read_cell-t.result)
started c = record { function = c.read_cell-f.ensures; type = c.read_cell-t.ensures; bytes = λ j. (c.type_inv.s j).fits; ready = c.requires }

after_body : (c : In_ok-x) → First (function_chain (started (goal.at.In_ok-x c).After-read_cell-t)) c.emit_run_to.new.d c.in_ok-x.x
after_body c = let g = started (goal.at.In_ok-x c).After-read_cell-t in first (function_chain g) (body_each g c.emit_run_to.ensures) c.in_ok-x.was

after_input :
    (c : In_ok-y) →
    Second (function_chain (started (goal.at.In_ok-y c).After-read_cell-t)) c.emit_run_to.new.d c.in_ok-x.x c.emit_run.new.d c.in_ok-y.y
after_input c =
    let at = goal.at.In_ok-y c in
    second (after_body at.In_ok-x) (input_each (started at.After-read_cell-t) c.emit_run.ensures) c.in_ok-y.was

after_output :
    (c : In_ok-z) →
    Third (function_chain (started (goal.at.In_ok-z c).After-read_cell-t)) c.emit_run_to.new.d c.in_ok-x.x
    c.emit_run.new.d c.in_ok-y.y c.emit_run-2.new.d c.in_ok-z.z
after_output c =
    let at = goal.at.In_ok-z c in
    third (after_input at.In_ok-y) (output_each (started at.After-read_cell-t) c.emit_run-2.ensures) c.in_ok-z.was

pub emit_run_to-requires : goal.emit_run_to-requires
emit_run_to-requires c = body_ready (started (goal.at.emit_run_to-requires c).After-read_cell-t)

pub returns-in_err-x : goal.returns-in_err-x
returns-in_err-x c =
    let g = started (goal.at.returns-in_err-x c).After-read_cell-t in rw c.from_residual.ensures (functions (none_first (function_chain g) (body_each g c.emit_run_to.ensures) c.in_err-x.was))

pub overflow_add-f : goal.overflow_add-f
overflow_add-f c = omega (arith, (cells_fit (started (goal.at.overflow_add-f c).After-read_cell-t)).0)

pub overflow_add-f-2 : goal.overflow_add-f-2
overflow_add-f-2 c = omega (arith, (cells_fit (started (goal.at.overflow_add-f-2 c).After-read_cell-t)).1)

pub emit_run-requires : goal.emit_run-requires
emit_run-requires c =
    input_ready (started (goal.at.emit_run-requires c).After-read_cell-t) (second_space (after_body (goal.at.emit_run-requires c).In_ok-x))

pub returns-in_err-y : goal.returns-in_err-y
returns-in_err-y c =
    rw c.from_residual-in_err-y.ensures
    (functions (none_second (after_body (goal.at.returns-in_err-y c).In_ok-x) (input_each (started (goal.at.returns-in_err-y c).After-read_cell-t) c.emit_run.ensures) c.in_err-y.was))

pub overflow_add-t : goal.overflow_add-t
overflow_add-t c = omega (arith, (cells_fit (started (goal.at.overflow_add-t c).After-read_cell-t)).2)

pub overflow_add-t-2 : goal.overflow_add-t-2
overflow_add-t-2 c = omega (arith, (cells_fit (started (goal.at.overflow_add-t-2 c).After-read_cell-t)).3)

pub emit_run-requires-2 : goal.emit_run-requires-2
emit_run-requires-2 c =
    output_ready (started (goal.at.emit_run-requires-2 c).After-read_cell-t) (third_space (after_input (goal.at.emit_run-requires-2 c).In_ok-y))

pub returns-in_err-z : goal.returns-in_err-z
returns-in_err-z c =
    rw c.from_residual-in_err-z.ensures
    (functions (none_third (after_input (goal.at.returns-in_err-z c).In_ok-y) (output_each (started (goal.at.returns-in_err-z c).After-read_cell-t) c.emit_run-2.ensures) c.in_err-z.was))

pub overflow_sub-x : goal.overflow_sub-x
overflow_sub-x c = (ends (after_output (goal.at.overflow_sub-x c).In_ok-z)).0

pub overflow_sub-y : goal.overflow_sub-y
overflow_sub-y c = (ends (after_output (goal.at.overflow_sub-y c).In_ok-z)).1

pub overflow_sub-z : goal.overflow_sub-z
overflow_sub-z c = (ends (after_output (goal.at.overflow_sub-z c).In_ok-z)).2

pub finish-requires : goal.finish-requires
finish-requires c = last_ready (after_output (goal.at.finish-requires c).In_ok-z)

pub returns : goal.returns
returns c = functions (emitted (after_output (goal.at.returns c).In_ok-z) c.finish.ensures)
