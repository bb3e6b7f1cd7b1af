use Rattle.std.proofs.Common.{◌∙◌, [], arith}
use Rattle.imkl_population.proofs.Idle.{first_end_fault_in, required-alone}
use Rattle.imkl_population.proofs.finishing.first_end_fault_of.Goals as goal

pub with_required-requires-clause-features : goal.with_required-requires-clause-features
with_required-requires-clause-features c = rw c.requires.required c.in_ok-extra.ensures.known

pub returns-clause-first : goal.returns-clause-first
returns-clause-first c =
    let r = c.args.required.now in
    let class = c.class_of-class.result in
    c.first_end_fault_at.ensures
    ∙ first_end_fault_in c.args.builder.now c.args.object c.args.crowded r class [] c.in-Some.features.now c.requires.object c.requires.uncrowded (λ f lt no. omega (arith, c.index.ensures, c.if-index-crowded.true)) c.requires.required c.class_of-class.ensures.class (c.in-Some.ensures.list ∙ required-alone r class)

pub returns-2-clause-first : goal.returns-2-clause-first
returns-2-clause-first c =
    c.first_end_fault_at-2.ensures
    ∙ first_end_fault_in c.args.builder.now c.args.object c.args.crowded c.args.required.now c.class_of-class.result c.in_ok-extra.extra.items c.deref.result.now c.requires.object c.requires.uncrowded c.in_ok-extra.ensures.others c.requires.required c.class_of-class.ensures.class (c.deref.ensures.value ∙ c.in_ok-features.ensures.list)
