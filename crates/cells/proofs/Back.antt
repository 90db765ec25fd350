-- A held tree, read as a type or a term, is that type's or term's own tree. Over kind and field. Assumes nothing.
use Prim.Native.Nat.{ℕ, ◌<◌}
use native.Mathlib.Omega.{arith}
use mathlib.Core.Path.{◌≡◌, refl, ap, sym, ◌∙◌}
use Rattle.calculus.specs.Syntax.{Ty}
use mathlib.Core.Bool.{true}
use mathlib.Core.List.{List}
use Rattle.format.specs.declared.Version.TheVariants.{Two}
use Rattle.format.specs.Table.{Sort, type_sort, term_sort, Use, unused, plain, refers, Row, table, row_for}
use Rattle.format.specs.Cell.{IsBytes}
use Rattle.format.specs.Tree.{Tree, raw, node}
use Rattle.format.specs.Terms.{from_type, from_term, to_type, to_term}
use Rattle.format.proofs.Trees.{type_back, term_back}
use Rattle.format.proofs.Tests as Format
use Rattle.format.proofs.Tests.{Named, Decodes, Reads, rows, All, ◌also◌, view, cell_fits}
use Rattle.cells.specs.Held.{label_by_lem, Thing, thing, HeldField, f_unused, f_plain, f_refers, Holds, HoldsType}

pub named : (u : Use) (l : ℕ) → l < 256 → Named u (label_by_lem u l)
named unused l h = refl
named plain l h = h
named (refers o) l h = tt

decodes : {s : List ℕ} {n x : ℕ} {u : Use} {t : Tree} → IsBytes s → (u ≡ plain → x < 65536) → HeldField true s n u x t → Format.Holds Two u t
unfolding row_for
decodes y b f_unused = refl
decodes {x = x} y b f_plain = (x, refl, b refl)
decodes {s} {x = x} y b (f_refers {k = k} {r = r} l p e m mk u v w) =
    let f = rw p.is at (cell_fits s y x) in
    let z = view (Reads Two) (table Two) (rows Two) k r e in
    rw (z.0, ← mk.0, m)
    (z.1 record { label = _; ta = _; tb = _; tc = _; name = named r.label _ f.0; a = decodes y (λ _. f.1) u; b = decodes y (λ _. f.2) v; c = decodes y (λ _. f.3) w })

pub reference_decodes : {s : List ℕ} {n x : ℕ} {o : Sort} {t : Tree} → IsBytes s → HeldField true s n (refers o) x t → Decodes Two o t
reference_decodes y h = decodes y (λ e. let z : ◌≡◌ {A = ℕ} 0 1 = cc in absurd (omega arith)) h

abbrev pub from : (o : Sort) → Thing o → Tree
from type_sort A = from_type A
from term_sort e = from_term e

pub back : (o : Sort) (t : Tree) → Decodes Two o t → from o (thing o t) ≡ t
back type_sort t h = ap from_type (ap to_type (sym h.1) ∙ type_back h.0) ∙ h.1
back term_sort t h = ap from_term (ap to_term (sym h.1) ∙ term_back Two h.0 h.2) ∙ h.1

pub held_back : {s : List ℕ} {i : ℕ} {o : Sort} {x : Thing o} → IsBytes s → (h : Holds s o i x) → from o x ≡ h.tree
held_back {o = o} y h = ap (from o) h.is ∙ back o h.tree (reference_decodes y h.held)

-- a type's tree, whatever the bytes are: no type has a plain field
abbrev Own : Use → Tree → Type 0
Own unused t = t ≡ raw 0
Own plain t = Unit {0}
Own (refers type_sort) t = from_type (to_type t) ≡ t
Own (refers term_sort) t = Unit {0}

abbrev Owns : Row → Type 0
Owns r = (l : ℕ) (a b c : Tree) → Own r.a a → Own r.b b → Own r.c c → Own (refers r.sort) (node r.kind (label_by_lem r.label l) a b c)

type_rows : All Owns (table Two)
unfolding table from_type to_type
type_rows =
    (λ l a b c p q r. cc) also (λ l a b c p q r. cc) also (λ l a b c p q r. cc) also (λ l a b c p q r. cc) also (λ l a b c p q r. cc)
    also (λ l a b c p q r. tt) also (λ l a b c p q r. tt) also (λ l a b c p q r. tt) also (λ l a b c p q r. tt) also (λ l a b c p q r. tt)
    also (λ l a b c p q r. tt) also (λ l a b c p q r. tt) also (λ l a b c p q r. tt) also (λ l a b c p q r. tt) also (λ l a b c p q r. tt)
    also (λ l a b c p q r. tt) also (λ l a b c p q r. tt)
    also tt

own : {s : List ℕ} {n x : ℕ} {u : Use} {t : Tree} → HeldField true s n u x t → Own u t
unfolding row_for
own f_unused = refl
own f_plain = tt
own (f_refers {k = k} {r = r} l p e m mk u v w) =
    let z = view Owns (table Two) type_rows k r e in rw (z.0, ← mk.0, m) (z.1 _ _ _ _ (own u) (own v) (own w))

pub type_own : {s : List ℕ} {i : ℕ} {A : Ty} (h : HoldsType s i A) → from_type A ≡ h.tree
type_own h = ap from_type h.is ∙ own h.held
