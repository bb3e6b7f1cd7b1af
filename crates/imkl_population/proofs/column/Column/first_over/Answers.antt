use Rattle.std.proofs.Common.{◌≡◌, ◌∙◌, ◌≤◌, ℕ, List, All, arith, sym, subst, false, length, get_or}
use Rattle.std.specs.Prelude.{min}
use Rattle.std.proofs.lemmas.Bool.{false≢true}
use Rattle.std.proofs.lemmas.List.{get_or_default, take_all}
use Rattle.imkl_population.specs.declared.scalar.Scalar.{Scalar}
use Rattle.imkl_population.specs.declared.entries.Entry.{Entry}
use Rattle.imkl_population.specs.Values.{is_over}
use Rattle.imkl_population.specs.Written.{written_in}
use Rattle.imkl_population.proofs.Stored.{none, over-more, uncrowded, map-is, IsOverFrom}
use Rattle.imkl_population.proofs.column.Column.first_over.Goals as goal
use Rattle.imkl_population.proofs.column.Column.first_over.Goals.{then-is_over, else-is_over}

lesser : (a b : ℕ) → (min a b ≤ a) × (min a b ≤ b)
lesser a b = (omega arith, omega arith)

pub loop-entry-preserved : goal.loop-entry-preserved
loop-entry-preserved c =
    let es : List Entry = c.as_slice-entry-items.result.now in
    let i = c.loop-entry.entry-index in
    let e : Entry = get_or es i none in
    let lt = c.loop-entry-test.true in
    let is : e ≡ get_or es i e = get_or_default es i none e lt in
    let old = c.loop-entry.first in
    let here : (c.if-is_over.first ≤ old) × IsOverFrom c.args.upper c.if-is_over.first e =
    elim c.if-is_over.branch [
      | then-is_over w ↦
          let low = lesser old e.object in
          let first : c.if-is_over.first ≡ min old e.object = w.first-is ∙ w.min-first.ensures in
          rw first (low.0, λ over. low.1)
      | else-is_over w ↦
          let none_here = sym c.is_over.ensures ∙ w.if-is_over.false in
          rw w.first-is (omega arith, λ over. absurd (false≢true (sym none_here ∙ over)))
    ] in
    over-more c.args.upper es i e old c.if-is_over.first lt is c.loop-entry.invariant here.0 here.1

pub returns : goal.returns
returns c = λ o lt.
    let i = c.self.inside in
    let s : List Scalar = i.scalars.items in
    let es : List Entry = i.entries.items in
    let all = subst (All (IsOverFrom c.args.upper c.loop-entry.first)) (take_all c.loop-entry.entry-index c.as_slice-entry-items.result.now c.loop-entry-test.false ∙ c.as_slice-entry-items.ensures.value) c.loop-entry.invariant in
    subst (λ (w : List (ℕ × List Scalar)). is_over c.args.upper (length (written_in w o)) ≡ false) (map-is s es c.args.self.now c.self.view_is)
    (uncrowded c.args.upper s es c.loop-entry.first c.self.invariant.within all o lt)
