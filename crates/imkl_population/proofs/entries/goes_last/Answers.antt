use Rattle.std.proofs.Common.{◌≡◌, ◌∙◌, ◌<◌, ◌==◌, ℕ, zero, suc, false, List, sym, arith, length}
use Rattle.std.proofs.lemmas.Bool.{eqb-true, ltb-true, false≢true}
use Rattle.imkl_population.specs.declared.entries.Entry.{Entry}
use Rattle.imkl_population.proofs.Searches.{all-earlier}
use Rattle.imkl_population.proofs.entries.goes_last.Goals as goal

pub returns-then-is_empty : goal.returns-then-is_empty
returns-then-is_empty c = λ h k d lt.
    let none : length c.args.entries.now ≡ 0 = eqb-true (length c.args.entries.now) 0 (sym c.is_empty.ensures ∙ c.if-is_empty.true) in
    absurd (omega (arith, lt, none))

nonzero : (n : ℕ) → (n == 0) ≡ false → 0 < n
nonzero zero h = absurd (false≢true (sym h))
nonzero (suc n) h = omega arith

pub returns : goal.returns
returns c = λ before.
    let es : List Entry = c.args.entries.now in
    let x : Entry = record { object = c.args.object; start = 0; end = 0 } in
    let some : 0 < length es = nonzero (length es) (sym c.is_empty.ensures ∙ c.if-is_empty.false) in
    all-earlier es x c.requires some (ltb-true _ c.args.object before)
