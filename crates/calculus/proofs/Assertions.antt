-- Closed facts that show what the relations and the functions that decide them say. Each is proved from the definitions alone: no theorem
-- of the other proofs stands between. Assumes nothing.
use Prim.Native.Nat.{ℕ, zero, suc, ◌-◌, ◌^◌}
use mathlib.Core.Path.{◌≡◌, refl}
use mathlib.Core.Logic.{◌≢◌, ◌⊎◌, inl, inr}
use mathlib.Core.Bool.{true, false, decide}
use mathlib.Core.Option.{Option, some, or_else, bind}
use mathlib.Core.List.{[], ◌∷◌, map}
use lib.IntN.{pos, negsuc}
use native.Mathlib.Omega.{arith}
use native.Mathlib.Decide.{ℕ_discrete}
use Rattle.calculus.specs.Syntax.{Ty, int, top, arrow, inter, field}
use Rattle.calculus.specs.Syntax.{Term, var, lit, unit, anno, app, lam, merge, fix, rcd, proj, sum, choice, substitute, size_type}
use Rattle.calculus.specs.Syntax.{Value, v_lit, v_unit, v_lam, v_merge, v_rcd}
use Rattle.calculus.specs.Numbers.{hold, chosen}
use Rattle.calculus.specs.Subtyping.{Below, b_int, b_top, b_left, b_right, b_arrow, b_field}
use Rattle.calculus.specs.Disjointness.{Disjoint, h_int, h_arrow, DisjointByList}
use Rattle.calculus.specs.Disjointness.{d_heads, d_arrow}
use Rattle.calculus.specs.TypedReduction.{Cast, c_lit, c_top, c_arrow, c_left, c_right, c_both}
use Rattle.calculus.specs.Consistency.{Consistent, ConsistentByList, k_disjoint}
use Rattle.calculus.specs.Fields.{o_left, o_right, f_here, f_left, f_right}
use Rattle.calculus.specs.Typing.{there, p_one, p_none, Typed, t_lit, t_var, t_anno, t_lam, t_merge, t_mergev, t_rcd, t_proj}
use Rattle.calculus.specs.Step.{Step, s_app_left, s_app_right, s_merge_left, s_merge_right, s_anno, s_rcd, s_cast, s_beta, s_proj, s_proj_part, s_proj_none, s_sum_left, s_sum_right, s_sum, s_choice_first, s_choice}
use Rattle.calculus.specs.Decide.{is_top_like, both_parts, field_part, below_within, is_below, disjoint_int, disjoint_arrow, disjoint_field, is_disjoint, is_value, type_of, is_closed}
use Rattle.calculus.specs.Decide.{same_under, same_integer, same_type, same_term, each_part, consistent_lit, consistent_lam, consistent_rcd, is_consistent}
use Rattle.calculus.specs.Order.{Reordered, swapped, to_right, to_left, in_record, parts}
use Rattle.calculus.specs.Infer.{Reason, unbound, not_function, no_field, conflict, mismatch, Found, found, refused}
use Rattle.calculus.specs.Infer.{lookup, checked, applied, picked, projected, labelled, is_mergeable, merged, infer}
use Rattle.calculus.specs.Evaluate.{merge_both, first_part, cast_int, cast_arrow, cast_field, cast, apply, content, top_value, read_parts, project, number_of, add, choose, next}

abbrev number : ℕ → Term
number n = lit (pos n)

-- half of the range that sums are held to here: the one of 32 bits
abbrev half : ℕ
half = 2 ^ 31

one_not_two : number 1 ≢ number 2
one_not_two p = let z : ◌≡◌ {A = ℕ} 1 2 = cc in absurd (omega arith)

-- a value has no successor
stays : {h : ℕ} {v f : Term} {A : Ty} → Value v A → ¬ Step h v f
stays (v_merge v w) (s_merge_left s) = stays v s
stays (v_merge v w) (s_merge_right u s) = stays w s
stays (v_rcd v) (s_rcd s) = stays v s
stays {h = h} {f = f} (v_lit {i = i}) x4 = elim x4 [ ]
stays {h = h} {f = f} v_unit x5 = elim x5 [ ]
stays {h = h} {f = f} (v_lam {e = e} {A = A} {B = B}) x6 = elim x6 [ ]

-- ---- (1,,2) : Int

abbrev both : Term
both = anno (merge (number 1) (number 2)) int

-- No rule types it: two numbers are neither disjoint nor consistent.
both_untyped : (A : Ty) → ¬ Typed [] both A
both_untyped A (t_anno (t_merge t_lit t_lit d) b) = d int b_int b_int
both_untyped A (t_anno (t_mergev v w s t k) b) = one_not_two (k int (number 1) (number 2) c_lit c_lit)

both_refused : infer [] both ≡ refused conflict (0 ∷ [])
unfolding infer checked merged is_mergeable is_disjoint disjoint_int is_value is_closed is_consistent each_part consistent_lit decide same_integer same_under ℕ_discrete
both_refused = refl

-- It has exactly two successors: either half can be read.
both_first : {h : ℕ} → Step h both (number 1)
both_first = s_cast (c_left v_lit tt c_lit)

both_second : {h : ℕ} → Step h both (number 2)
both_second = s_cast (c_right v_lit tt c_lit)

both_only : {h : ℕ} (f : Term) → Step h both f → (f ≡ number 1) ⊎ (f ≡ number 2)
both_only f (s_cast (c_top v o t)) = absurd t
both_only f (s_cast (c_left v o c_lit)) = inl refl
both_only f (s_cast (c_left v o (c_top w o' t))) = absurd t
both_only f (s_cast (c_right v o c_lit)) = inr refl
both_only f (s_cast (c_right v o (c_top w o' t))) = absurd t
both_only f (s_anno s) = absurd (stays (v_merge v_lit v_lit) s)

-- The function takes the left half; the right one where the left cannot be read.
both_next : (h : ℕ) → next h both ≡ some (number 1)
unfolding next is_value cast first_part or_else cast_int
both_next h = refl

right_next : (h : ℕ) → next h (anno (merge unit (number 2)) int) ≡ some (number 2)
unfolding next is_value cast first_part or_else cast_int
right_next h = refl

-- ---- Int→Int below (Int&Top)→Int, and not below Top→Int: inputs are compared the other way about.

below_wider : Below (arrow int int) (arrow (inter int top) int)
below_wider = b_arrow (b_left b_int) b_int

is_below_wider : is_below (arrow int int) (arrow (inter int top) int) ≡ true
unfolding is_below below_within is_top_like size_type
is_below_wider = refl

not_below_top : ¬ Below (arrow int int) (arrow top int)
not_below_top (b_top t) = t
not_below_top (b_arrow (b_top t) d) = t

is_below_top : is_below (arrow int int) (arrow top int) ≡ false
unfolding is_below below_within is_top_like size_type
is_below_top = refl

-- ---- Int→Int and {1:Int}→Int are not disjoint: different inputs do not make functions disjoint.

not_disjoint : ¬ Disjoint (arrow int int) (arrow (field 1 int) int)
not_disjoint d = d (arrow (inter int (field 1 int)) int) (b_arrow (b_left b_int) b_int) (b_arrow (b_right (b_field b_int)) b_int)

int_not_disjoint : ¬ DisjointByList int int
int_not_disjoint (d_heads h_int h_int n) = n refl

not_disjoint_by_list : ¬ DisjointByList (arrow int int) (arrow (field 1 int) int)
not_disjoint_by_list (d_heads h_arrow h_arrow n) = n refl
not_disjoint_by_list (d_arrow d) = int_not_disjoint d

is_disjoint_functions : is_disjoint (arrow int int) (arrow (field 1 int) int) ≡ false
unfolding is_disjoint disjoint_arrow disjoint_int
is_disjoint_functions = refl

-- ---- 1 under Top&Top reads as ⊤,,⊤, and as nothing else.

casts_tops : Cast (number 1) (inter top top) (merge unit unit)
casts_tops = c_both (c_top v_lit tt tt) (c_top v_lit tt tt)

casts_tops_only : (x : Term) → Cast (number 1) (inter top top) x → x ≡ merge unit unit
casts_tops_only x (c_top v o t) = absurd o
casts_tops_only x (c_both (c_top v o t) (c_top w o' t')) = refl

cast_tops : cast (inter top top) (number 1) ≡ some (merge unit unit)
unfolding cast merge_both
cast_tops = refl

-- ---- An argument is substituted read: (λ.#0 : Int→Int) (1,,{7=5}) becomes 1 : Int, and nothing else.

abbrev on_merge : Term
on_merge = app (lam (var 0) int int) (merge (number 1) (rcd 7 (number 5)))

on_merge_reads : {h : ℕ} → Step h on_merge (anno (number 1) int)
unfolding substitute
on_merge_reads = s_beta (c_left (v_rcd v_lit) tt c_lit)

on_merge_only : {h : ℕ} (f : Term) → Step h on_merge f → f ≡ anno (number 1) int
unfolding substitute
on_merge_only f (s_app_left s) = absurd (stays v_lam s)
on_merge_only f (s_app_right v s) = absurd (stays (v_merge v_lit (v_rcd v_lit)) s)
on_merge_only f (s_beta (c_top v o t)) = absurd t
on_merge_only f (s_beta (c_left v o c_lit)) = refl
on_merge_only f (s_beta (c_left v o (c_top w o' t))) = absurd t
on_merge_only f (s_beta (c_right v o (c_top w o' t))) = absurd t

on_merge_next : (h : ℕ) → next h on_merge ≡ some (anno (number 1) int)
unfolding next is_value apply cast first_part or_else cast_int substitute
on_merge_next h = refl

-- ---- A top-like function type is not answered with a function: λ.#0 : Int→Int, annotated Int→Top, becomes ⊤, and nothing else.

abbrev to_top : Term
to_top = anno (lam (var 0) int int) (arrow int top)

to_top_unit : {h : ℕ} → Step h to_top unit
to_top_unit = s_cast (c_top v_lam tt tt)

to_top_only : {h : ℕ} (f : Term) → Step h to_top f → f ≡ unit
to_top_only f (s_anno s) = absurd (stays v_lam s)
to_top_only f (s_cast (c_top v o t)) = refl
to_top_only f (s_cast (c_arrow n b c)) = absurd (n tt)

to_top_next : (h : ℕ) → next h to_top ≡ some unit
unfolding next is_value cast is_top_like first_part cast_arrow is_below below_within size_type
to_top_next h = refl

-- ---- Two functions of one input and output type with different bodies are not consistent.

abbrev constant : ℕ → Term
constant n = lam (number n) int int

not_consistent : ¬ Consistent (constant 1) (constant 2)
not_consistent k = one_not_two (body (k (arrow int int) (constant 1) (constant 2) self self))
  where
    self : {n : ℕ} → Cast (constant n) (arrow int int) (constant n)
    self = c_arrow (λ t. t) b_int b_int

    body : {e f : Term} → lam e int int ≡ lam f int int → e ≡ f
    body p = cc

not_consistent_by_list : ¬ ConsistentByList (constant 1) (constant 2)
not_consistent_by_list (k_disjoint v_lam v_lam (d_heads h_arrow h_arrow n)) = n refl
not_consistent_by_list (k_disjoint v_lam v_lam (d_arrow d)) = int_not_disjoint d

is_consistent_constants : is_consistent (constant 1) (constant 2) ≡ false
unfolding is_consistent each_part consistent_lam is_disjoint disjoint_arrow disjoint_int same_term decide same_integer same_under ℕ_discrete
is_consistent_constants = refl

-- the same of the identity and a constant
is_consistent_identity : is_consistent (lam (var 0) int int) (constant 1) ≡ false
unfolding is_consistent each_part consistent_lam is_disjoint disjoint_arrow disjoint_int same_term same_type decide ℕ_discrete
is_consistent_identity = refl

-- ---- Rows 11 to 15: the part that a refusal names, as the path to it from the term (0 for field a, 1 for field b).

-- a function that is given the top value under its input type Int
abbrev misapplied : Term
misapplied = app (lam (var 0) int int) unit

places :
    map (infer [])
    (lam (var 1) int int
    ∷ rcd 7 (merge unit (var 0))
    ∷ app (number 3) (var 0)
    ∷ app unit (app (number 3) (number 4))
    ∷ proj 8 (rcd 7 (number 5))
    ∷ merge unit (proj 8 (number 5))
    ∷ merge (number 1) (number 2)
    ∷ proj 7 (merge (number 1) (number 2))
    ∷ anno unit int
    ∷ lam unit int int
    ∷ fix unit int
    ∷ misapplied
    ∷ rcd 7 (merge misapplied (var 0))
    ∷ [])
    -- 11: the variable, under too few binders; under a record and a merge
    ≡ (refused unbound (0 ∷ [])
    ∷ refused unbound (0 ∷ 1 ∷ [])
    -- 12: the application, before its right side is walked; within another
    ∷ refused not_function []
    ∷ refused not_function (1 ∷ [])
    -- 13: the field read, and one within a merge
    ∷ refused no_field []
    ∷ refused no_field (1 ∷ [])
    -- 14: the merge, and one that a field is read of
    ∷ refused conflict []
    ∷ refused conflict (0 ∷ [])
    -- 15: what is annotated, a function's body, a fixpoint's body, an argument; and the first finding stands
    ∷ refused mismatch (0 ∷ [])
    ∷ refused mismatch (0 ∷ [])
    ∷ refused mismatch (0 ∷ [])
    ∷ refused mismatch (1 ∷ [])
    ∷ refused mismatch (0 ∷ 0 ∷ 1 ∷ [])
    ∷ [])
unfolding infer lookup checked applied projected labelled merged is_mergeable is_below below_within is_top_like size_type is_disjoint disjoint_int is_value is_closed is_consistent each_part consistent_lit decide same_integer same_under ℕ_discrete
places = refl

-- ---- Fields found inside a merge: document 02, (i).

-- the term after n steps
abbrev after : ℕ → Term → Option Term
after zero e = some e
after (suc n) e = bind (next half e) (after n)

-- e has type A, and after n steps it is v
abbrev Runs : Term → Ty → ℕ → Term → Type 0
Runs e A n v = ◌≡◌ {A = Found × Option Term} (infer [] e, after n e) (found A, some v)

-- e is refused for r, which names e itself
abbrev Refused : Term → Reason → Type 0
Refused e r = infer [] e ≡ refused r []

-- {l=n}
abbrev record_of : ℕ → ℕ → Term
record_of l n = rcd l (number n)

-- {1=1},,{1=1}
abbrev twice : Term
twice = merge (record_of 1 1) (record_of 1 1)

-- {1=⊤},,{1=5}
abbrev one_proper : Term
one_proper = merge (rcd 1 unit) (record_of 1 5)

-- λ.#0:⊤→⊤
abbrev anything : Term
anything = lam (var 0) top top

-- {1=λ.#0:⊤→⊤},,{2=3}
abbrev function_inside : Term
function_inside = merge (rcd 1 anything) (record_of 2 3)

fields_found :
    -- ({1=5},,{2=6}).2 : one part has the field
    Runs (proj 2 (merge (record_of 1 5) (record_of 2 6))) int 1 (number 6)
    -- ({1=⊤},,{1=5}).1 and the other way about: of two parts of that label one is top-like
    × Runs (proj 1 one_proper) int 1 (number 5)
    × Runs (proj 1 (merge (record_of 1 5) (rcd 1 unit))) int 1 (number 5)
    -- ({1=⊤},,{1=⊤}).1 : both are
    × Runs (proj 1 (merge (rcd 1 unit) (rcd 1 unit))) top 1 unit
    -- ({1=λ.#0:⊤→⊤},,{2=3}).1 : the content of a top-like part is not read
    × Runs (proj 1 function_inside) top 1 unit
    -- (3,,(λ.#0:Int→⊤)).9 : this fact and the one before stop "Top only where a part is exactly Top"
    × Runs (proj 9 (merge (number 3) (lam (var 0) int top))) top 1 unit
    -- (3,,{2=⊤}).9 and (3,,⊤).9 : a top-like record of another label, and a part that is Top
    × Runs (proj 9 (merge (number 3) (rcd 2 unit))) top 1 unit
    × Runs (proj 9 (merge (number 3) unit)) top 1 unit
    -- {1=λ.#0:⊤→⊤}.1 : a record keeps its rule
    × Runs (proj 1 (rcd 1 anything)) (arrow top top) 1 anything
    -- ((3,,{1=4}),,(⊤,,{2=5})).1 : parts at every depth
    × Runs (proj 1 (merge (merge (number 3) (record_of 1 4)) (merge unit (record_of 2 5)))) int 1 (number 4)
    -- ({1=4}:{1:Int},,2).1 : the merge is no value yet
    × Runs (proj 1 (merge (anno (record_of 1 4) (field 1 int)) (number 2))) int 2 (number 4)
    -- document 01's hidden field, read without the annotation
    × Runs (app (lam (proj 1 (merge (record_of 1 2) (var 0))) (field 2 int) int) (merge (record_of 1 1) (record_of 2 9))) int 3 (number 2)
unfolding infer lookup checked applied projected picked field_part both_parts labelled merged is_mergeable is_below below_within is_top_like size_type is_disjoint disjoint_int disjoint_field next is_value bind cast first_part or_else cast_int cast_field apply substitute project read_parts content top_value type_of
fields_found = (refl, refl, refl, refl, refl, refl, refl, refl, refl, refl, refl, refl)

fields_refused :
    -- ({1=5},,{2=6}).3 and (3,,{2=1}).9 : no part has the field, none is top-like
    Refused (proj 3 (merge (record_of 1 5) (record_of 2 6))) no_field
    × Refused (proj 9 (merge (number 3) (record_of 2 1))) no_field
    -- ({1=1},,{1=1}).1 : two parts have it, though the merge is accepted
    × (infer [] twice ≡ found (inter (field 1 int) (field 1 int)))
    × Refused (proj 1 twice) no_field
    -- (({1=1},,{1=1}),,⊤).1 : whatever stands beside them
    × Refused (proj 1 (merge twice unit)) no_field
    -- (λ.#0:Int→⊤).9 and {2=⊤}.9 : what is no intersection keeps its rule, top-like or not
    × Refused (proj 9 (lam (var 0) int top)) no_field
    × Refused (proj 9 (rcd 2 unit)) no_field
    -- ((λ.1:Int→Int),,{1=5}) 2 : a merge is not applied
    × Refused (app (merge (constant 1) (record_of 1 5)) (number 2)) not_function
unfolding infer lookup checked applied projected picked field_part both_parts labelled merged is_mergeable is_below below_within is_top_like size_type is_disjoint disjoint_int disjoint_arrow disjoint_field is_value is_closed is_consistent each_part consistent_rcd consistent_lit decide same_integer same_under ℕ_discrete
fields_refused = (refl, refl, refl, refl, refl, refl, refl, refl)

-- No rule types the read of a field that two parts have.
twice_untyped : (A : Ty) → ¬ Typed [] (proj 1 twice) A
twice_untyped A (t_proj (t_merge (t_rcd t_lit) (t_rcd t_lit) d) p) = d (field 1 int) (b_field b_int) (b_field b_int)
twice_untyped A (t_proj (t_mergev (v_rcd v_lit) (v_rcd v_lit) s t k) (p_one (o_left o n))) = n refl
twice_untyped A (t_proj (t_mergev (v_rcd v_lit) (v_rcd v_lit) s t k) (p_one (o_right n o))) = n refl
twice_untyped A (t_proj (t_mergev (v_rcd v_lit) (v_rcd v_lit) s t k) (p_none n h)) = n.0 refl

-- The part that is top-like is not read: the one successor is the content of the other, or the top value.
one_proper_step : {h : ℕ} → Step h (proj 1 one_proper) (number 5)
one_proper_step = s_proj_part (v_merge (v_rcd v_unit) (v_rcd v_lit)) (f_right (f_here v_lit (λ t. t)))

one_proper_only : {h : ℕ} (f : Term) → Step h (proj 1 one_proper) f → f ≡ number 5
one_proper_only f (s_proj s) = absurd (stays (v_merge (v_rcd v_unit) (v_rcd v_lit)) s)
one_proper_only f (s_proj_part v (f_left (f_here v_unit n))) = absurd (n tt)
one_proper_only f (s_proj_part v (f_right (f_here w n))) = refl
one_proper_only f (s_proj_none (v_merge (v_rcd v_unit) (v_rcd v_lit)) n t) = absurd (n.1 refl)

function_inside_step : {h : ℕ} → Step h (proj 1 function_inside) unit
function_inside_step = s_proj_none (v_merge (v_rcd v_lam) (v_rcd v_lit)) (λ e. tt, λ e. let z : ◌≡◌ {A = ℕ} 1 2 = e in absurd (omega arith)) (inl tt)

function_inside_only : {h : ℕ} (f : Term) → Step h (proj 1 function_inside) f → f ≡ unit
function_inside_only f (s_proj s) = absurd (stays (v_merge (v_rcd v_lam) (v_rcd v_lit)) s)
function_inside_only f (s_proj_part v (f_left (f_here v_lam n))) = absurd (n tt)
function_inside_only f (s_proj_none v n t) = refl
function_inside_only {h = h} f (s_proj_part {A = A} v (f_right x18)) = elim x18 [ ]

-- ---- Sums and a choice: document 02, (ii).

-- -n
abbrev negative : ℕ → Term
negative n = lit (negsuc (n - 1))

-- n,,{7=5}
abbrev beside : ℕ → Term
beside n = merge (number n) (record_of 7 5)

sums_run :
    Runs (sum (number 1) (number 2)) int 1 (number 3)
    -- past the ends: held to them
    × Runs (sum (number 2147483647) (number 1)) int 1 (number 2147483647)
    × Runs (sum (number 2147483647) (number 2147483647)) int 1 (number 2147483647)
    × Runs (sum (negative 2147483648) (negative 1)) int 1 (negative 2147483648)
    × Runs (sum (negative 2147483648) (negative 2147483648)) int 1 (negative 2147483648)
    -- from end to end, up to the ends and away from them
    × Runs (sum (negative 2147483648) (number 2147483647)) int 1 (negative 1)
    × Runs (sum (number 2147483646) (number 1)) int 1 (number 2147483647)
    × Runs (sum (negative 2147483647) (negative 1)) int 1 (negative 2147483648)
    × Runs (sum (number 2147483647) (negative 1)) int 1 (number 2147483646)
    × Runs (sum (negative 2147483648) (number 1)) int 1 (negative 2147483647)
    -- (1,,{7=5})+2 : a merge is read in the same step
    × Runs (sum (beside 1) (number 2)) int 1 (number 3)
    -- (1:Int)+(2:Int) : the left side first
    × Runs (sum (anno (number 1) int) (anno (number 2) int)) int 1 (sum (number 1) (anno (number 2) int))
    × Runs (sum (anno (number 1) int) (anno (number 2) int)) int 2 (sum (number 1) (number 2))
unfolding infer checked labelled merged is_mergeable is_disjoint disjoint_int is_below below_within is_top_like size_type next is_value bind cast first_part or_else cast_int add number_of hold
sums_run = (refl, refl, refl, refl, refl, refl, refl, refl, refl, refl, refl, refl, refl)

-- if e then 5 else 7 becomes n:Int, then n
abbrev Chooses : Term → ℕ → Type 0
Chooses e n = Runs (choice e (number 5) (number 7)) int 1 (anno (number n) int) × Runs (choice e (number 5) (number 7)) int 2 (number n)

-- a term that runs for ever
abbrev loop : Term
loop = fix (var 0) int

-- (if 0 then 1,,{1=2} else 3),,{1=5} : the choice is annotated, so that no field comes to meet its like
abbrev narrowed : Term
narrowed = merge (choice (number 0) (merge (number 1) (record_of 1 2)) (number 3)) (record_of 1 5)

choices_run :
    Chooses (number 0) 5
    × Chooses (number 1) 7
    × Chooses (negative 1) 7
    -- numbers whose low half is zero
    × Chooses (number 65536) 7
    × Chooses (negative 65536) 7
    -- a merge is read in the same step
    × Chooses (beside 0) 5
    × Chooses (beside 1) 7
    -- the part that is not chosen never runs,
    × Runs (choice (number 0) (number 5) loop) int 2 (number 5)
    × Runs (choice (number 1) loop (number 7)) int 2 (number 7)
    -- nor do both while the first does
    × Runs (choice (anno (number 0) int) loop loop) int 1 (choice (number 0) loop loop)
    × Runs narrowed (inter int (field 1 int)) 1 (merge (anno (merge (number 1) (record_of 1 2)) int) (record_of 1 5))
    × Runs narrowed (inter int (field 1 int)) 2 (merge (number 1) (record_of 1 5))
unfolding infer lookup checked labelled merged is_mergeable is_disjoint disjoint_int is_below below_within is_top_like size_type next is_value bind cast first_part or_else cast_int choose number_of chosen
choices_run = ((refl, refl), (refl, refl), (refl, refl), (refl, refl), (refl, refl), (refl, refl), (refl, refl), refl, refl, refl, refl, refl)

-- "Typing checks each part before it walks the next."
parts_refused :
    map (infer [])
    (sum unit (var 0)
    ∷ sum (number 1) unit
    ∷ sum (var 0) unit
    ∷ sum (number 1) (sum (number 2) unit)
    ∷ choice unit (var 3) (var 4)
    ∷ choice (number 0) unit (var 0)
    ∷ choice (number 0) (var 0) unit
    ∷ choice (number 0) (number 1) unit
    ∷ choice (number 0) (number 1) (var 0)
    ∷ [])
    ≡ (refused mismatch (0 ∷ [])
    ∷ refused mismatch (1 ∷ [])
    ∷ refused unbound (0 ∷ [])
    ∷ refused mismatch (1 ∷ 1 ∷ [])
    ∷ refused mismatch (0 ∷ [])
    ∷ refused mismatch (1 ∷ [])
    ∷ refused unbound (1 ∷ [])
    ∷ refused mismatch (2 ∷ [])
    ∷ refused unbound (2 ∷ [])
    ∷ [])
unfolding infer lookup checked is_below below_within is_top_like size_type
parts_refused = refl

-- λ.e : Int→Int
abbrev function : Term → Term
function e = lam e int int

-- What is substituted goes to where the variable stands, and every part of a sum and of a choice keeps its place.
put_in :
    (substitute 0 (number 9) (sum (var 0) (number 1)) ≡ sum (number 9) (number 1))
    × (substitute 0 (number 9) (sum (number 1) (var 0)) ≡ sum (number 1) (number 9))
    × (substitute 0 (number 9) (choice (var 0) (number 1) (number 2)) ≡ choice (number 9) (number 1) (number 2))
    × (substitute 0 (number 9) (choice (number 1) (var 0) (number 2)) ≡ choice (number 1) (number 9) (number 2))
    × (substitute 0 (number 9) (choice (number 1) (number 2) (var 0)) ≡ choice (number 1) (number 2) (number 9))
    -- (λ.if 0 then #0 else 7) 5
    × Runs (app (lam (choice (number 0) (var 0) (number 7)) int int) (number 5)) int 4 (number 5)
unfolding infer lookup checked applied is_below below_within is_top_like size_type next is_value bind cast first_part or_else cast_int apply choose number_of chosen substitute
put_in = (refl, refl, refl, refl, refl, refl)

sums_merged :
    -- (1+2),,3 : a sum is no value
    Refused (merge (sum (number 1) (number 2)) (number 3)) conflict
    -- λ.#0+1 with itself, and with λ.1+#0 : bodies are compared as they stand
    × (infer [] (merge (function (sum (var 0) (number 1))) (function (sum (var 0) (number 1)))) ≡ found (inter (arrow int int) (arrow int int)))
    × Refused (merge (function (sum (var 0) (number 1))) (function (sum (number 1) (var 0)))) conflict
unfolding infer lookup checked merged is_mergeable is_below below_within is_top_like size_type is_disjoint disjoint_int disjoint_arrow is_value is_closed is_consistent each_part consistent_lam same_term same_type decide same_integer same_under ℕ_discrete
sums_merged = (refl, refl, refl)

-- (1,,{7=5})+({7=5},,2) becomes 3, and nothing else.
abbrev of_merges : Term
of_merges = sum (beside 1) (merge (record_of 7 5) (number 2))

of_merges_step : Step half of_merges (number 3)
unfolding hold
of_merges_step = s_sum (c_left (v_rcd v_lit) tt c_lit) (c_right (v_rcd v_lit) tt c_lit)

of_merges_only : (f : Term) → Step half of_merges f → f ≡ number 3
unfolding hold
of_merges_only f (s_sum_left s) = absurd (stays (v_merge v_lit (v_rcd v_lit)) s)
of_merges_only f (s_sum_right v s) = absurd (stays (v_merge (v_rcd v_lit) v_lit) s)
of_merges_only f (s_sum (c_left v o c_lit) (c_right w o' c_lit)) = refl
of_merges_only _ (s_sum {j = j} (c_left {T = T} v o c_lit) (c_left _ _ x46)) = elim x46 [ ]
of_merges_only _ (s_sum {i = i} {j = j} (c_right {T = T} _ _ x32) _) = elim x32 [ ]

-- if 0,,{7=5} then 5 else a term that runs for ever becomes 5:Int, and nothing else.
abbrev chooses_first : Term
chooses_first = choice (beside 0) (number 5) loop

chooses_first_step : {h : ℕ} → Step h chooses_first (anno (number 5) int)
unfolding chosen
chooses_first_step = s_choice (c_left (v_rcd v_lit) tt c_lit)

chooses_first_only : {h : ℕ} (f : Term) → Step h chooses_first f → f ≡ anno (number 5) int
unfolding chosen
chooses_first_only f (s_choice_first s) = absurd (stays (v_merge v_lit (v_rcd v_lit)) s)
chooses_first_only f (s_choice (c_left v o c_lit)) = refl
chooses_first_only {h = h} _ (s_choice {i = i} (c_right {T = T} _ _ x23)) = elim x23 [ ]

-- ---- Left and right: document 02, (v).

-- 1,,{1=2}
abbrev number_first : Term
number_first = merge (number 1) (record_of 1 2)

-- {1=2},,1
abbrev record_first : Term
record_first = merge (record_of 1 2) (number 1)

-- Int & {1:Int}
abbrev int_first : Ty
int_first = inter int (field 1 int)

-- {1:Int} & Int
abbrev field_first : Ty
field_first = inter (field 1 int) int

-- λ.#1 : Int→Int, which has a variable of a binder around it
abbrev open_function : Term
open_function = lam (var 1) int int

orders_found :
    -- 1,,{1=2} and {1=2},,1 : the type has its parts in the same order as the value
    (infer [] number_first ≡ found int_first)
    × (infer [] record_first ≡ found field_first)
    -- under Int & {1:Int} and {1:Int} & Int : the reading has its parts in the order of the type, whichever the value has
    × (cast int_first number_first ≡ some number_first)
    × (cast int_first record_first ≡ some number_first)
    × (cast field_first number_first ≡ some record_first)
    × (cast field_first record_first ≡ some record_first)
    -- (1,,{1=2}),,{2=3} and 1,,({1=2},,{2=3})
    × (infer [] (merge number_first (record_of 2 3)) ≡ found (inter int_first (field 2 int)))
    × (infer [] (merge (number 1) (merge (record_of 1 2) (record_of 2 3))) ≡ found (inter int (inter (field 1 int) (field 2 int))))
    -- (1,,{1=2}),,1 and 1,,({1=2},,1) : consistent, not disjoint
    × (infer [] (merge number_first (number 1)) ≡ found (inter int_first int))
    × (infer [] (merge (number 1) record_first) ≡ found (inter int field_first))
    -- (1,,{1=2}),,2 and 1,,({1=2},,2) : the first and the last part are not consistent, though each is with the part between
    × Refused (merge number_first (number 2)) conflict
    × Refused (merge (number 1) (merge (record_of 1 2) (number 2))) conflict
    -- λ.((1,,1),,(λ.#1)) and λ.(1,,(1,,(λ.#1))) : a value that is not closed is not regrouped
    × (infer (int ∷ []) (merge (merge (number 1) (number 1)) open_function) ≡ found (inter (inter int int) (arrow int int)))
    × (infer (int ∷ []) (merge (number 1) (merge (number 1) open_function)) ≡ refused conflict [])
unfolding infer lookup checked labelled merged is_mergeable is_below below_within is_top_like size_type is_disjoint disjoint_int disjoint_arrow disjoint_field is_value is_closed is_consistent each_part consistent_lit consistent_rcd decide same_integer same_under ℕ_discrete cast merge_both first_part or_else cast_int cast_field
orders_found = (refl, refl, refl, refl, refl, refl, refl, refl, refl, refl, refl, refl, refl, refl)

-- Swapped, regrouped either way, in a record; and the parts as they are listed.
orders_reordered :
    Reordered number_first record_first
    × Reordered (merge number_first (record_of 2 3)) (merge (number 1) (merge (record_of 1 2) (record_of 2 3)))
    × Reordered (merge (number 1) (merge (record_of 1 2) (record_of 2 3))) (merge number_first (record_of 2 3))
    × Reordered (rcd 7 number_first) (rcd 7 record_first)
    × (parts (merge number_first (record_of 2 3)) ≡ number 1 ∷ record_of 1 2 ∷ record_of 2 3 ∷ [])
orders_reordered = (swapped, to_right, to_left, in_record swapped, refl)

-- No rule types the last of `orders_found`: the two numbers are not disjoint, and the function is not closed.
open_not_closed : (A : Ty) → ¬ Typed [] open_function A
open_not_closed A (t_lam (t_var (there l)) b) = elim l [ ]

open_untyped : (A : Ty) → ¬ Typed (int ∷ []) (merge (number 1) (merge (number 1) open_function)) A
open_untyped A (t_merge t_lit (t_merge t_lit u e) d) = d int b_int (b_left b_int)
open_untyped A (t_merge t_lit (t_mergev v w t u k) d) = open_not_closed _ u
open_untyped A (t_mergev v w t (t_merge s u d) k) = open_not_closed _ u
open_untyped A (t_mergev v w t (t_mergev p q s u m) k) = open_not_closed _ u
