use Rattle.std.proofs.Common.{◌∙◌, []}
use Rattle.imkl_population.proofs.Idle.{first_gap_in, required-alone}
use Rattle.imkl_population.proofs.finishing.first_gap_of.Goals as goal

pub first_gap_at-requires-clause-features : goal.first_gap_at-requires-clause-features
first_gap_at-requires-clause-features c = rw c.requires.required at c.in-Some.ensures.known

pub returns-in-Some-clause-first : goal.returns-in-Some-clause-first
returns-in-Some-clause-first c =
    let r = c.args.required.now in
    let class = c.class_of-class.result in
    c.first_gap_at.ensures
    ∙ first_gap_in c.args.builder.now c.args.object r class [] c.in-Some.features.now c.requires.required c.class_of-class.ensures.class (c.in-Some.ensures.list ∙ required-alone r class)

pub returns-clause-first : goal.returns-clause-first
returns-clause-first c =
    c.first_gap_at-2.ensures
    ∙ first_gap_in c.args.builder.now c.args.object c.args.required.now c.class_of-class.result c.new.result.items c.deref.result.now c.requires.required c.class_of-class.ensures.class (c.deref.ensures.value ∙ c.in_ok-features.ensures.list)
