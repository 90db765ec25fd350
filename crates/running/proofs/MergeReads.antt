-- A field read of a merge has its successor in place: the content of the first part that has the field, moved to where the merge begins; or the
-- top value. Assumes nothing.
use Prim.Native.Nat.{ℕ, suc, ◌+◌, ◌-◌, ◌≤◌, ◌<◌}
use native.Mathlib.Omega.{arith}
use mathlib.Core.Path.{◌≡◌, refl, sym, ap, ◌∙◌}
use mathlib.Core.Bool.{true}
use mathlib.Core.List.{List}
use mathlib.Core.Option as maybe
use mathlib.Core.Option.{none, some, or_else, some-injective, none-ne-some}
use Rattle.std.specs.Prelude.{Option, Some, None}
use Rattle.projection.specs.declared.Content.{Content}
use Rattle.calculus.specs.Syntax.{Term, unit, size}
use Rattle.calculus.specs.Decide.{FieldPart, no_part, top_part, more_parts, one_part, field_part, is_value, type_of}
use Rattle.calculus.specs.Evaluate.{next, first_part, content, top_value, read_parts, project}
use Rattle.format.specs.declared.Version.TheVariants.{Two}
use Rattle.format.specs.Table.{term_sort, refers}
use Rattle.format.specs.Cell.{Cell}
use Rattle.format.specs.Terms.{from_term}
use Rattle.format.proofs.Trees.{term_cells}
use Rattle.emission.specs.Runs.{Run}
use Rattle.emission.proofs.Runs.{last, ends, whole, at_run, counts}
use Rattle.moving.specs.Moves.{Kept, ShiftReady, Shifts}
use Rattle.moving.proofs.Runs.{shift_ready, run_shifted}
use Rattle.projection.specs.Parts.{IsValueFrom, ValueFrom, ContentIs, FindsContent}
use Rattle.projection.proofs.Values.{no_cells}
use Rattle.running.specs.Places.{Standing, done_at, OnlyBecomes, Becomes, MergeAt}
use Rattle.running.specs.declared.Place.{Place}
use Rattle.running.specs.declared.Focus.TheVariants.{Redex}
use Rattle.running.proofs.Entering.{Kind, k_merge, term_kind}
use Rattle.running.proofs.Ranges.{redex_range}
use Rattle.running.proofs.Projecting.{Reduct, reduct_of, becomes, field_read, project_is}

-- ---- by the rule

project_merge : (l : ℕ) {v : Term} → Kind 22 v → project l v ≡ or_else (first_part (content l) v) (top_value (field_part l (type_of v)))
unfolding project read_parts
project_merge l k_merge = refl

-- where no part has the field, there is only the top value
no_other : (o : maybe.Option Term) (q : FieldPart) {h : Term} → o ≡ none → or_else o (top_value q) ≡ some h → unit ≡ h
unfolding or_else top_value
no_other none no_part {h} e n = absurd (none-ne-some h n)
no_other none top_part {h} e n = some-injective unit h n
no_other none more_parts {h} e n = absurd (none-ne-some h n)
no_other none (one_part C) {h} e n = absurd (none-ne-some h n)
no_other (some x) q e n = absurd (none-ne-some x (sym e))

-- where a part has it, its content
the_part : (o : maybe.Option Term) (q : FieldPart) {x h : Term} → o ≡ some x → or_else o (top_value q) ≡ some h → x ≡ h
unfolding or_else
the_part none q {x} e n = absurd (none-ne-some x e)
the_part (some y) q {x} {h} e n = sym (some-injective y x e) ∙ some-injective y h n

-- ---- what is answered for the parts of the value e

-- the content has the cells from x on before end
record Taken (w : List ℕ) (start v l : ℕ) (e : Term) (x end : ℕ) : Type 0 where
  part : Term
  is : first_part (content l) e ≡ some part
  final : is_value part ≡ true
  run : Run true w x (refers term_sort) (end - 1) (from_term part) end
  low : start ≤ x
  some : x < end
  high : end ≤ v

module _ {w : List ℕ} {start v l : ℕ} {r : Option Content} (f : FindsContent w start v l r) {e : Term} (s : IsValueFrom w start v e) where
  taken : {g : Content} → r ≡ Some g → Taken w start v l e g.start g.end
  taken {g} c = go (first_part (content l) e) refl (f.says e s)
    where
      go : (o : maybe.Option Term) → first_part (content l) e ≡ o → ContentIs w start v r o → Taken w start v l e g.start g.end
      go none i h = absurd (no_cells c h)
      go (some y) i h =
          let cells : Content = record { start = h.0; end = suc h.1 } in
          let both : Some cells ≡ Some g = sym h.2 ∙ c in
          let z : cells ≡ g = cc in
          let a : h.0 ≡ g.start = ap (λ (r : Content). r.start) z in
          let b : suc h.1 ≡ g.end = ap (λ (r : Content). r.end) z in
          let run = h.5.run in
          record {
            part = y;
            is = i;
            final = h.5.final;
            run = at_run a (omega (arith, b)) b run;
            low = omega (arith, a, h.3);
            some = omega (arith, a, b, last run);
            high = omega (arith, b, h.4);
          }

  none_taken : r ≡ None → first_part (content l) e ≡ none
  none_taken c = go (first_part (content l) e) (f.says e s)
    where
      go : (o : maybe.Option Term) → ContentIs w start v r o → o ≡ none
      go none h = refl
      go (some y) h = absurd (no_cells h.2 c)

-- ---- in place

-- where its cells lie
pub record PartRange (p : Place) (x end : ℕ) : Type 0 where
  pub low : p.start ≤ x
  pub some : x < end
  pub left : end < p.root
  pub root : p.root < 8192

module _ {w : List ℕ} (p : Place) (t : Cell) (d : MergeAt w p t) where
  value_from : {e : Term} (s : Standing w (Redex p) e) → IsValueFrom w p.start t.a (field_read p t d.at s).value
  value_from s = let q = field_read p t d.at s in record { run = whole q.run; final = q.final }

  pub merge_value : ValueFrom w p.start t.a
  merge_value = let s = d.at.ready.standing in record { value = (field_read p t d.at s).value; is = value_from s }

  -- what the read becomes, by its parts
  parts_are : (half : ℕ) {e h : Term} (s : Standing w (Redex p) e) → next half s.focus ≡ some h →
      let v = (field_read p t d.at s).value in or_else (first_part (content t.label) v) (top_value (field_part t.label (type_of v))) ≡ some h
  parts_are half s n =
      let q = field_read p t d.at s in
      sym (project_merge t.label (term_kind q.value q.run d.merged)) ∙ project_is p t d.at half s n

  module _ {r : Option Content} (f : FindsContent w p.start t.a t.label r) where
    pub none_only : (half : ℕ) → r ≡ None → OnlyBecomes half w p unit
    none_only half c = λ e s _ h n. no_other _ _ (none_taken f (value_from s) c) (parts_are half s n)

    module _ {g : Content} (c : r ≡ Some g) where
      pub part_range : PartRange p g.start g.end
      part_range =
          let s = d.at.ready.standing in
          let r = redex_range s.at in
          let z = taken f (value_from s) c in
          let e = ends (field_read p t d.at s).run in
          record { low = z.low; some = z.some; left = omega (arith, z.high, e, r.apart, r.right); root = r.root }

      pub part_shift : ShiftReady w g.start p.start (g.end - g.start)
      part_shift =
          let s = d.at.ready.standing in
          let r = part_range in
          shift_ready p.start s.long (omega (arith, r.some, r.left, r.root)) r.low (at_run refl refl (omega (arith, r.some)) (taken f (value_from s) c).run)

      pub projects_part : {half : ℕ} {v : List ℕ} → Shifts w v g.start p.start (g.end - g.start) → Becomes half w v p (done_at p (p.start + (g.end - g.start)))
      unfolding size
      projects_part {half} {v} m = becomes p kept (omega (arith, part_range)) (λ e s _. content_done e s)
        where
          kept : Kept w v p.start (suc p.root)
          kept =
              let r = part_range in
              record { long = m.kept.long; below = m.kept.below; above = λ i h. m.kept.above i (omega (arith, h, r.some, r.left)) }

          content_done : (e : Term) (s : Standing w (Redex p) e) (h : Term) → next half s.focus ≡ some h → Reduct v p.start (p.start + (g.end - g.start)) (size s.focus) h
          content_done e s h n =
              let q = field_read p t d.at s in
              let z = taken f (value_from s) c in
              let moved = run_shifted (at_run refl refl (omega (arith, z.some)) z.run) m in
              let a = counts z.run ∙ ap (λ (n : ℕ). g.start + n) (term_cells Two z.part) in
              let b = counts q.run ∙ ap (λ (n : ℕ). p.start + n) (term_cells Two q.value) in
              reduct_of q.is (the_part _ _ z.is (parts_are half s n))
              (record {
                final = z.final;
                run = at_run refl (omega (arith, z.some)) refl moved;
                small = omega (arith, a, b, z.low, z.some, z.high, ends q.run);
              })
